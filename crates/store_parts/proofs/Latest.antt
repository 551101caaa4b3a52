-- The point after the last entry of a kind.
use Rattle.std.proofs.Common.{◌≡◌, ℕ, ◌+◌, ◌-◌, ◌≤◌, Bool, true, false, ◌||◌, List, [], ◌∷◌, ◌++◌, length, drop, refl, sym, ap, subst, ◌∙◌, arith, nat_lt, nat_le, Option, Some, length-append}
use Rattle.std.specs.Prelude.{max, slice_get}
use Rattle.std.specs.List.{list_any}
use Rattle.std.specs.Option.{option_map_or}
use Rattle.std.proofs.lemmas.Bool.{ltb-false}
use Rattle.std.proofs.lemmas.Bool.Decides.{nat_tests}
use Rattle.std.proofs.lemmas.List.{append-nil}
use Rattle.design_data.specs.declared.design.Design.{Design}
use Rattle.cov_history.specs.declared.entry.Event.{Event}
use Rattle.cov_history.specs.declared.entry.Event.TheVariants.{Admit, Exclude, Include, Revise, Stop}
use Rattle.cov_history.specs.declared.entry.Entry.{Entry}
use Rattle.cov_history.specs.History.{Test, tests_of, tests_in, is_legal, is_revise, is_test_or_revise}
use Rattle.cov_history.proofs.Bools.{and_true}
use Rattle.cov_history.proofs.Snoc.{tests_snoc, since_snoc}
use Rattle.cov_history.proofs.Legal.{kept_along}
use Rattle.store_parts.specs.Keeps.{IsLast}
use Rattle.store_parts.specs.Lasts.{is_test}
use Rattle.store_parts.proofs.Steps.{last_same, none_last}

-- ---- one entry more of the kind

drop_all : {A : Type 0} (xs : List A) → drop (length xs) xs ≡ []
drop_all [] = refl
drop_all (x ∷ xs) = drop_all xs

last_within : (test : Event → Bool) (h : List Entry) (last : ℕ) → IsLast test h last → last ≤ length h
last_within test h last k = ltb-false (length h) last (sym (k (length h)) ∙ ap (list_any (λ (e : Entry). test e.event)) (drop_all h))

either : (since last n : ℕ) → last ≤ n → (nat_lt since last || nat_le since n) ≡ nat_lt since (n + 1)
either since last n short = grind (arith, nat_tests)

pub last_new : (test : Event → Bool) (h : List Entry) (e : Entry) (last : ℕ) → IsLast test h last → test e.event ≡ true → IsLast test (h ++ e ∷ []) (length h + 1)
last_new test h e last k sure since = since_snoc test h e since ∙ rw (sure, k since) (ap (λ b. nat_lt since last || b) (and_true (nat_le since (length h))) ∙ either since last (length h) (last_within test h last k))

-- ---- two kinds together

any_either : (t u v : Event → Bool) → ((e : Event) → v e ≡ (t e || u e)) → (es : List Entry) → list_any (λ (e : Entry). v e.event) es ≡ (list_any (λ (e : Entry). t e.event) es || list_any (λ (e : Entry). u e.event) es)
any_either t u v same [] = refl
any_either t u v same (e ∷ es) = (λ i. same e.event i || any_either t u v same es i) ∙ mixed (t e.event) (u e.event) (list_any (λ (x : Entry). t x.event) es) (list_any (λ (x : Entry). u x.event) es)
  where
    mixed : (a b c d : Bool) → ((a || b) || (c || d)) ≡ ((a || c) || (b || d))
    mixed true b c d = refl
    mixed false true true d = refl
    mixed false true false d = refl
    mixed false false c d = refl

below_max : (since a b : ℕ) → (nat_lt since a || nat_lt since b) ≡ nat_lt since (max a b)
below_max since a b = grind (arith, nat_tests)

kinds : (e : Event) → is_test_or_revise e ≡ (is_revise e || is_test e)
kinds (Admit r) = refl
kinds (Exclude path) = refl
kinds (Include path) = refl
kinds (Revise revision) = refl
kinds Stop = refl

pub last_of_both : (h : List Entry) (revised admitted : ℕ) → IsLast is_revise h revised → IsLast is_test h admitted → IsLast is_test_or_revise h (max revised admitted)
last_of_both h revised admitted r a since =
    any_either is_revise is_test is_test_or_revise kinds (drop since h) ∙ (λ i. r since i || a since i) ∙ below_max since revised admitted

-- ---- the last test

abbrev pub last_point : List Test → ℕ
last_point ts = option_map_or (λ (t : Test). t.point) (slice_get ts (length ts - 1)) 0

get_last : {A : Type 0} (xs : List A) (x : A) → slice_get (xs ++ x ∷ []) (length xs) ≡ Some x
get_last [] x = refl
get_last (y ∷ ys) x = get_last ys x

last_push : (ts : List Test) (t : Test) → last_point (ts ++ t ∷ []) ≡ t.point
last_push ts t =
    let n : length (ts ++ t ∷ []) - 1 ≡ length ts = omega (arith, length-append ts (t ∷ [])) in
    ap (λ (m : ℕ). option_map_or (λ (x : Test). x.point) (slice_get (ts ++ t ∷ []) m) 0) n ∙ ap (λ (o : Option Test). option_map_or (λ (x : Test). x.point) o 0) (get_last ts t)

module _ (h : List Entry) (e : Entry) where
  abbrev Before : Type 0
  Before = IsLast is_test h (last_point (tests_of h))

  abbrev After : Type 0
  After = IsLast is_test (h ++ e ∷ []) (last_point (tests_of (h ++ e ∷ [])))

  still : Before → is_test e.event ≡ false → tests_in (length h + 1) e.event ≡ [] → After
  still k none nothing =
      let same : tests_of (h ++ e ∷ []) ≡ tests_of h = tests_snoc h e ∙ ap (λ ts. tests_of h ++ ts) nothing ∙ append-nil (tests_of h) in
      subst (λ (ts : List Test). IsLast is_test (h ++ e ∷ []) (last_point ts)) (sym same) (last_same is_test h e (last_point (tests_of h)) k none)

  one_test_more : (x : Event) → e.event ≡ x → Before → After
  one_test_more (Admit r) is k =
      let more : tests_of (h ++ e ∷ []) ≡ tests_of h ++ record { point = length h + 1; content = r } ∷ [] = tests_snoc h e ∙ ap (λ y. tests_of h ++ tests_in (length h + 1) y) is in
      let point : last_point (tests_of (h ++ e ∷ [])) ≡ length h + 1 = ap last_point more ∙ last_push (tests_of h) (record { point = length h + 1; content = r }) in
      subst (λ (n : ℕ). IsLast is_test (h ++ e ∷ []) n) (sym point) (last_new is_test h e (last_point (tests_of h)) k (ap is_test is))
  one_test_more (Exclude path) is k = still k (ap is_test is) (ap (tests_in (length h + 1)) is)
  one_test_more (Include path) is k = still k (ap is_test is) (ap (tests_in (length h + 1)) is)
  one_test_more (Revise revision) is k = still k (ap is_test is) (ap (tests_in (length h + 1)) is)
  one_test_more Stop is k = still k (ap is_test is) (ap (tests_in (length h + 1)) is)

pub last_test : (opening : Design) (h : List Entry) → is_legal opening h ≡ true → IsLast is_test h (last_point (tests_of h))
last_test opening h legal = kept_along opening (λ (es : List Entry). IsLast is_test es (last_point (tests_of es))) (λ es e k may. one_test_more es e e.event refl k) [] h (none_last is_test) legal

-- the test that is found there is the last, and where none is there is none
pub last_there : (h : List Entry) (o : Option Test) (n : ℕ) → n ≡ length (tests_of h) - 1 → o ≡ slice_get (tests_of h) n → option_map_or (λ (t : Test). t.point) o 0 ≡ last_point (tests_of h)
last_there h o n e g = ap (λ (p : Option Test). option_map_or (λ (t : Test). t.point) p 0) (g ∙ ap (slice_get (tests_of h)) e)
