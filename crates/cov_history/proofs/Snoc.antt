-- What one more entry does to each word.
use Rattle.std.proofs.Common.{◌≡◌, ℕ, zero, suc, ◌+◌, Bool, true, false, ◌&&◌, ◌||◌, not, cond, List, [], ◌∷◌, ◌++◌, length, map, drop, refl, sym, ap, ◌∙◌, append_assoc, add-zero, arith, nat_le, length-append}
use Rattle.std.specs.Prelude.{sum_by}
use Rattle.std.specs.List.{list_any}
use Rattle.std.proofs.lemmas.List.{map-append, append-nil, length_push, length-map}
use Rattle.std.proofs.lemmas.List.Sums.{sum_by_push, sum_by-append}
use Rattle.std.proofs.lemmas.List.Folds.{list_any-append}
use Rattle.std.proofs.lemmas.Bool.Decides.{nat_tests}
use Rattle.design_data.specs.declared.design.Design.{Design}
use Rattle.record_codec.specs.declared.record.Record.{Record}
use Rattle.ucis_model.specs.declared.answers.Which.TheVariants.{Tests, Bytes, Entries, History}
use Rattle.cov_history.specs.declared.entry.Event.{Event}
use Rattle.cov_history.specs.declared.entry.Event.TheVariants.{Admit, Exclude, Include, Revise, Stop}
use Rattle.cov_history.specs.declared.entry.Entry.{Entry}
use Rattle.cov_history.specs.History.{Test, design_of, design_after, tests_of, tests_in, tests_from, contents, hits, hits_of, count_of, out_of, out_from, out_after, has_stop, is_stop, bytes_in, bins_hit, amount, legal_from, may_follow, is_legal}
use Rattle.cov_history.specs.Answers.{stands_since}
use Rattle.cov_history.specs.Steps.{admitted, history_after, OneMoreEntry}
use Rattle.cov_history.proofs.Bools.{and_true, and_assoc, or_false}

pub design_snoc : (d : Design) (h : List Entry) (e : Entry) → design_of d (h ++ e ∷ []) ≡ design_after (design_of d h) e.event
design_snoc d [] e = refl
design_snoc d (x ∷ xs) e = design_snoc (design_after d x.event) xs e

tests_from_snoc : (at : ℕ) (h : List Entry) (e : Entry) → tests_from at (h ++ e ∷ []) ≡ tests_from at h ++ tests_in ((at + length h) + 1) e.event
tests_from_snoc at [] e = append-nil (tests_in (at + 1) e.event) ∙ ap (λ n. tests_in (n + 1) e.event) (sym (add-zero at))
tests_from_snoc at (x ∷ xs) e =
    let n : ((at + 1) + length xs) + 1 ≡ (at + length (x ∷ xs)) + 1 = omega arith in
    ap (λ t. tests_in (at + 1) x.event ++ t) (tests_from_snoc (at + 1) xs e ∙ ap (λ n. tests_from (at + 1) xs ++ tests_in n e.event) n)
    ∙ sym (append_assoc (tests_in (at + 1) x.event) (tests_from (at + 1) xs) (tests_in ((at + length (x ∷ xs)) + 1) e.event))

pub tests_snoc : (h : List Entry) (e : Entry) → tests_of (h ++ e ∷ []) ≡ tests_of h ++ tests_in (length h + 1) e.event
tests_snoc h e = let n : (0 + length h) + 1 ≡ length h + 1 = omega arith in tests_from_snoc 0 h e ∙ ap (λ k. tests_of h ++ tests_in k e.event) n

pub admitted_is : (point : ℕ) (e : Event) → map (λ (t : Test). t.content) (tests_in point e) ≡ admitted e
admitted_is point (Admit r) = refl
admitted_is point (Exclude path) = refl
admitted_is point (Include path) = refl
admitted_is point (Revise revision) = refl
admitted_is point Stop = refl

pub contents_snoc : (h : List Entry) (e : Entry) → contents (h ++ e ∷ []) ≡ contents h ++ admitted e.event
contents_snoc h e = ap (map (λ (t : Test). t.content)) (tests_snoc h e) ∙ map-append (λ (t : Test). t.content) (tests_of h) (tests_in (length h + 1) e.event) ∙ ap (λ rs. contents h ++ rs) (admitted_is (length h + 1) e.event)

out_from_snoc : (out : List (List ℕ)) (h : List Entry) (e : Entry) → out_from out (h ++ e ∷ []) ≡ out_after (out_from out h) e.event
out_from_snoc out [] e = refl
out_from_snoc out (x ∷ xs) e = out_from_snoc (out_after out x.event) xs e

pub out_snoc : (h : List Entry) (e : Entry) → out_of (h ++ e ∷ []) ≡ out_after (out_of h) e.event
out_snoc h e = out_from_snoc [] h e

legal_from_snoc : (d : Design) (before h : List Entry) (e : Entry) → legal_from d before (h ++ e ∷ []) ≡ (legal_from d before h && may_follow d (before ++ h) e)
legal_from_snoc d before [] e = and_true (may_follow d before e) ∙ ap (λ b. may_follow d b e) (sym (append-nil before))
legal_from_snoc d before (x ∷ xs) e =
    ap (λ b. may_follow d before x && b) (legal_from_snoc d (before ++ x ∷ []) xs e ∙ ap (λ b. legal_from d (before ++ x ∷ []) xs && may_follow d b e) (append_assoc before (x ∷ []) xs))
    ∙ and_assoc (may_follow d before x) (legal_from d (before ++ x ∷ []) xs) (may_follow d (before ++ x ∷ xs) e)

pub legal_snoc : (d : Design) (h : List Entry) (e : Entry) → is_legal d (h ++ e ∷ []) ≡ (is_legal d h && may_follow d h e)
legal_snoc d h e = legal_from_snoc d [] h e

pub stop_snoc : (h : List Entry) (e : Entry) → has_stop (h ++ e ∷ []) ≡ (has_stop h || is_stop e.event)
stop_snoc h e = list_any-append (λ (x : Entry). is_stop x.event) h (e ∷ []) ∙ ap (λ b. has_stop h || b) (or_false (is_stop e.event))

le_suc : (a b : ℕ) → nat_le (suc a) (suc b) ≡ nat_le a b
le_suc a b = grind (arith, nat_tests)

le_zero : (a : ℕ) → nat_le 0 a ≡ true
le_zero a = grind (arith, nat_tests)

le_none : (a : ℕ) → nat_le (suc a) 0 ≡ false
le_none a = grind (arith, nat_tests)

drop_nil : {A : Type 0} (n : ℕ) → drop {A = A} n [] ≡ []
drop_nil zero = refl
drop_nil (suc n) = refl

pub since_snoc : (test : Event → Bool) (h : List Entry) (e : Entry) (since : ℕ) → stands_since test (h ++ e ∷ []) since ≡ (stands_since test h since || (nat_le since (length h) && test e.event))
since_snoc test [] e zero = or_false (test e.event)
since_snoc test [] e (suc n) =
    ap (list_any (λ e. test e.event)) (drop_nil {A = Entry} n) ∙ sym (ap (λ l. list_any (λ e. test e.event) l || (nat_le (suc n) 0 && test e.event)) (drop_nil {A = Entry} (suc n)) ∙ ap (λ b. b && test e.event) (le_none n))
since_snoc test (x ∷ xs) e zero =
    list_any-append (λ e. test e.event) (x ∷ xs) (e ∷ []) ∙ ap (λ b. list_any (λ e. test e.event) (x ∷ xs) || b) (or_false (test e.event) ∙ sym (ap (λ b. b && test e.event) (le_zero (length (x ∷ xs)))))
since_snoc test (x ∷ xs) e (suc n) = since_snoc test xs e n ∙ ap (λ b. stands_since test xs n || (b && test e.event)) (sym (le_suc n (length xs)))

-- ---- amounts

pub counts_snoc : (opening : Design) (h : List Entry) (e : Entry) (bin : ℕ) → count_of opening (h ++ e ∷ []) bin
    ≡ hits_of (design_after (design_of opening h) e.event) (contents h) bin + hits_of (design_after (design_of opening h) e.event) (admitted e.event) bin
counts_snoc opening h e bin =
    (λ i. hits_of (design_snoc opening h e i) (contents_snoc h e i) bin) ∙ sum_by-append (λ (r : Record). hits (design_after (design_of opening h) e.event) r bin) (contents h) (admitted e.event)

pub entries_snoc : (opening : Design) (h : List Entry) (e : Entry) → amount opening (h ++ e ∷ []) Entries
    ≡ sum_by (bins_hit (design_after (design_of opening h) e.event)) (contents h) + sum_by (bins_hit (design_after (design_of opening h) e.event)) (admitted e.event)
entries_snoc opening h e =
    (λ i. sum_by (bins_hit (design_snoc opening h e i)) (contents_snoc h e i)) ∙ sum_by-append (bins_hit (design_after (design_of opening h) e.event)) (contents h) (admitted e.event)

pub test_count_snoc : (opening : Design) (h : List Entry) (e : Entry) → amount opening (h ++ e ∷ []) Tests ≡ amount opening h Tests + length (admitted e.event)
test_count_snoc opening h e =
    ap (λ (ts : List Test). length ts) (tests_snoc h e) ∙ length-append (tests_of h) (tests_in (length h + 1) e.event)
    ∙ ap (λ n. length (tests_of h) + n) (sym (length-map (tests_in (length h + 1) e.event) (λ (t : Test). t.content)) ∙ ap (λ (rs : List Record). length rs) (admitted_is (length h + 1) e.event))

pub bytes_snoc : (opening : Design) (h : List Entry) (e : Entry) → amount opening (h ++ e ∷ []) Bytes ≡ amount opening h Bytes + bytes_in e.event
bytes_snoc opening h e = sum_by_push (λ (x : Entry). bytes_in x.event) h e

flipped : (b : Bool) → ◌≡◌ {A = ℕ} (cond (not b) 1 0) (cond b 0 1)
flipped true = refl
flipped false = refl

pub history_snoc : (opening : Design) (h : List Entry) (e : Entry) → amount opening (h ++ e ∷ []) History ≡ history_after opening h e
history_snoc opening h e =
    let c = sum_by_push (λ (x : Entry). cond (not (is_stop x.event)) 1 0) h e in
    let f = flipped (is_stop e.event) in
    let o = ap (λ (ps : List (List ℕ)). length ps) (out_snoc h e) in
    omega (arith, c, f, o)

pub one_more : OneMoreEntry
one_more opening h e = record {
  point = length_push h e;
  design = design_snoc opening h e;
  tests = tests_snoc h e;
  records = contents_snoc h e;
  out = out_snoc h e;
  counts = counts_snoc opening h e;
  test_amount = test_count_snoc opening h e;
  byte_amount = bytes_snoc opening h e;
  entry_amount = entries_snoc opening h e;
  history_amount = history_snoc opening h e;
  stops = stop_snoc h e;
  legal = legal_snoc opening h e;
  since = λ test since. since_snoc test h e since;
}
