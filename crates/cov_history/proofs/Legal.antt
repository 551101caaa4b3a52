-- What holds of every legal history.
use Rattle.std.proofs.Common.{◌≡◌, ℕ, ◌≤◌, Bool, true, false, ◌&&◌, ◌||◌, not, List, [], ◌∷◌, ◌++◌, refl, sym, ap, subst, ◌∙◌, true≢false, append_assoc, is_some, is_none, None, le-ltb}
use Rattle.std.specs.Prelude.{filter, find, bytes_eq}
use Rattle.std.specs.List.{list_any}
use Rattle.std.proofs.lemmas.Bool.{ltb-false}
use Rattle.std.proofs.lemmas.List.{append-nil}
use Rattle.std.proofs.lemmas.List.Folds.{list_any-append}
use Rattle.std.specs.Cmp.Lexicographic.{same_text}
use Rattle.design_data.specs.declared.design.Design.{Design}
use Rattle.ucis_model.specs.declared.answers.Which.{Which}
use Rattle.ucis_model.specs.declared.answers.Which.TheVariants.{Tests, Bytes, Entries, History}
use Rattle.cov_history.specs.declared.entry.Event.{Event}
use Rattle.cov_history.specs.declared.entry.Event.TheVariants.{Admit, Exclude, Include, Revise, Stop}
use Rattle.cov_history.specs.declared.entry.Entry.{Entry}
use Rattle.cov_history.specs.History.{design_of, out_of, out_after, design_after, has, is_found, amount, most, is_over, passed, suits, has_stop, may_follow, legal_from, is_legal}
use Rattle.cov_history.proofs.Bools.{by_bool, and_left, and_right, or_none, or_false, none_is}
use Rattle.cov_history.proofs.Snoc.{design_snoc, out_snoc}

-- ---- limits

pub none_passed : (opening : Design) (h : List Entry) → ((which : Which) → amount opening h which ≤ most which) → passed opening h ≡ None
none_passed opening h within =
    let t : is_over opening h Tests ≡ false = le-ltb (most Tests) (amount opening h Tests) (within Tests) in
    let b : is_over opening h Bytes ≡ false = le-ltb (most Bytes) (amount opening h Bytes) (within Bytes) in
    let e : is_over opening h Entries ≡ false = le-ltb (most Entries) (amount opening h Entries) (within Entries) in
    let o : is_over opening h History ≡ false = le-ltb (most History) (amount opening h History) (within History) in
    rw (t, b, e, o) refl

is_some_find : {A : Type 0} (t : A → Bool) (xs : List A) → is_some (find t xs) ≡ list_any t xs
is_some_find t [] = refl
is_some_find t (x ∷ xs) = let rest = is_some_find t xs in by_bool (t x) (λ k. rw k refl) (λ k. rw k rest)

pub within_of : (opening : Design) (h : List Entry) → passed opening h ≡ None → (which : Which) → amount opening h which ≤ most which
within_of opening h none which =
    let over : Which → Bool = is_over opening h in
    let all : list_any over (Tests ∷ Bytes ∷ Entries ∷ History ∷ []) ≡ false = sym (is_some_find over (Tests ∷ Bytes ∷ Entries ∷ History ∷ [])) ∙ ap is_some none in
    let a = or_none (over Tests) (list_any over (Bytes ∷ Entries ∷ History ∷ [])) all in
    let b = or_none (over Bytes) (list_any over (Entries ∷ History ∷ [])) a.1 in
    let c = or_none (over Entries) (list_any over (History ∷ [])) b.1 in
    let d = or_none (over History) false c.1 in
    by which a.0 b.0 c.0 d.0
  where
    by : (which : Which) → is_over opening h Tests ≡ false → is_over opening h Bytes ≡ false → is_over opening h Entries ≡ false → is_over opening h History ≡ false → amount opening h which ≤ most which
    by Tests t b e o = ltb-false (most Tests) (amount opening h Tests) t
    by Bytes t b e o = ltb-false (most Bytes) (amount opening h Bytes) b
    by Entries t b e o = ltb-false (most Entries) (amount opening h Entries) e
    by History t b e o = ltb-false (most History) (amount opening h History) o

-- ---- what each entry keeps, the history keeps

pub kept_along : (opening : Design) (P : List Entry → Type 0) → ((h : List Entry) (e : Entry) → P h → may_follow opening h e ≡ true → P (h ++ e ∷ []))
    → (before es : List Entry) → P before → legal_from opening before es ≡ true → P (before ++ es)
kept_along opening P step before [] p l = subst P (sym (append-nil before)) p
kept_along opening P step before (e ∷ es) p l =
    let may = and_left (may_follow opening before e) (legal_from opening (before ++ e ∷ []) es) l in
    let rest = and_right (may_follow opening before e) (legal_from opening (before ++ e ∷ []) es) l in
    subst P (append_assoc before (e ∷ []) es) (kept_along opening P step (before ++ e ∷ []) es (step before e p may) rest)

pub suits_of : (opening : Design) (h : List Entry) (e : Entry) → may_follow opening h e ≡ true → suits opening h e.event ≡ true
suits_of opening h e m = and_left (suits opening h e.event) (is_none (passed opening (h ++ e ∷ []))) (and_right (not (has_stop h)) (suits opening h e.event && is_none (passed opening (h ++ e ∷ []))) m)

pub free_of : (opening : Design) (h : List Entry) (e : Entry) → may_follow opening h e ≡ true → passed opening (h ++ e ∷ []) ≡ None
free_of opening h e m = none_is (passed opening (h ++ e ∷ [])) (and_right (suits opening h e.event) (is_none (passed opening (h ++ e ∷ []))) (and_right (not (has_stop h)) (suits opening h e.event && is_none (passed opening (h ++ e ∷ []))) m))

pub legal_within : (opening : Design) (h : List Entry) → is_legal opening h ≡ true → passed opening h ≡ None
legal_within opening h l = kept_along opening (λ x. passed opening x ≡ None) (λ x e p m. free_of opening x e m) [] h refl l

-- ---- each path that is out finds a node

pub same_bytes : (a b : List ℕ) → bytes_eq a b ≡ true → a ≡ b
same_bytes a b e = same_text a b (sym e)

pub has_part : (p : List ℕ) (keep : List ℕ → Bool) (ps : List (List ℕ)) → has p (filter keep ps) ≡ true → (has p ps ≡ true) × (keep p ≡ true)
has_part p keep [] h = absurd (true≢false (sym h))
has_part p keep (q ∷ ps) h =
    by_bool (keep q)
    (λ yes. let g : (bytes_eq q p || has p (filter keep ps)) ≡ true = sym (rw yes refl) ∙ h in
    by_bool (bytes_eq q p)
    (λ same. (rw same refl, ap keep (sym (same_bytes q p same)) ∙ yes))
    (λ other. let rest = has_part p keep ps (sym (rw other refl) ∙ g) in (rw other rest.0, rest.1)))
    (λ no. let g : has p (filter keep ps) ≡ true = sym (rw no refl) ∙ h in
    let rest = has_part p keep ps g in (or_more (bytes_eq q p) (has p ps) rest.0, rest.1))
  where
    or_more : (a b : Bool) → b ≡ true → (a || b) ≡ true
    or_more true b e = refl
    or_more false b e = e

abbrev pub AllFound : (opening : Design) → List Entry → Type 0
AllFound opening h = (p : List ℕ) → has p (out_of h) ≡ true → is_found (design_of opening h) p ≡ true

found_after : (d : Design) (out : List (List ℕ)) (e : Event) → ((p : List ℕ) → has p out ≡ true → is_found d p ≡ true) → ((path : List ℕ) → e ≡ Exclude path → is_found d path ≡ true)
    → (p : List ℕ) → has p (out_after out e) ≡ true → is_found (design_after d e) p ≡ true
found_after d out (Admit r) f x p h = f p h
found_after d out (Exclude path) f x p h =
    by_bool (has p out)
    (λ yes. f p yes)
    (λ no. let last : bytes_eq path p ≡ true = sym (list_any-append (λ q. bytes_eq q p) out (path ∷ []) ∙ ap (λ b. b || (bytes_eq path p || false)) no ∙ or_false (bytes_eq path p)) ∙ h in
    subst (λ (q : List ℕ). is_found d q ≡ true) (same_bytes path p last) (x path refl))
found_after d out (Include path) f x p h = f p (has_part p (λ q. not (bytes_eq q path)) out h).0
found_after d out (Revise revision) f x p h = (has_part p (is_found revision.design) out h).1
found_after d out Stop f x p h = f p h

found_step : (opening : Design) (h : List Entry) (e : Entry) → AllFound opening h → may_follow opening h e ≡ true → AllFound opening (h ++ e ∷ [])
found_step opening h e f m p g =
    let here : has p (out_after (out_of h) e.event) ≡ true = sym (ap (has p) (out_snoc h e)) ∙ g in
    ap (λ (d : Design). is_found d p) (design_snoc opening h e)
    ∙ found_after (design_of opening h) (out_of h) e.event f (λ path is. and_left (is_found (design_of opening h) path) (not (has path (out_of h))) (sym (ap (suits opening h) is) ∙ suits_of opening h e m)) p here

pub all_found : (opening : Design) (h : List Entry) → is_legal opening h ≡ true → AllFound opening h
all_found opening h l = kept_along opening (AllFound opening) (found_step opening) [] h (λ p g. absurd (true≢false (sym g))) l
