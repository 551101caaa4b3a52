-- Lists of paths that have the same members, each once.
use Rattle.std.proofs.Common.{◌≡◌, ℕ, ◌+◌, ◌≤◌, Bool, true, false, not, cond, List, [], ◌∷◌, refl, sym, ap, ◌∙◌, arith, true≢false, Option, Some, None, is_some}
use Rattle.std.specs.Prelude.{count_by, find, filter, bytes_eq}
use Rattle.std.proofs.lemmas.List.Sums.{sum_by-cons}
use Rattle.cov_history.specs.History.{has, without}
use Rattle.cov_history.proofs.Bools.{by_bool}
use Rattle.cov_history.proofs.Filters.{any_kept, any_lost, count_kept}
use Rattle.store_parts.proofs.Outs.{same_bytes, bytes_same, count_filter, count_has, find_true}

abbrev pub IsOnce : List (List ℕ) → Type 0
IsOnce ps = (path : List ℕ) → count_by (λ p. bytes_eq p path) ps ≤ 1

abbrev pub HaveSame : (ps qs : List (List ℕ)) → Type 0
HaveSame ps qs = (path : List ℕ) → has path ps ≡ has path qs

itself : (p : List ℕ) → bytes_eq p p ≡ true
itself p = bytes_same p p refl

false_of : (b : Bool) → (b ≡ true → true ≡ false) → b ≡ false
false_of true f = absurd (true≢false (f refl))
false_of false f = refl

-- a member that stands first stands nowhere else
once_head : (p : List ℕ) (ps : List (List ℕ)) → IsOnce (p ∷ ps) → has p ps ≡ false
once_head p ps o =
    let c = sum_by-cons (λ (x : List ℕ). cond (bytes_eq x p) 1 0) p ps in
    let one : ◌≡◌ {A = ℕ} (cond (bytes_eq p p) 1 0) 1 = rw (itself p) refl in
    by_bool (has p ps)
    (λ t. absurd (omega (arith, c, one, o p, count_has p ps t)))
    (λ f. f)

once_tail : (p : List ℕ) (ps : List (List ℕ)) → IsOnce (p ∷ ps) → IsOnce ps
once_tail p ps o path =
    let c = sum_by-cons (λ (x : List ℕ). cond (bytes_eq x path) 1 0) p ps in
    omega (arith, c, o path)

pub once_filter : (keep : List ℕ → Bool) (ps : List (List ℕ)) → IsOnce ps → IsOnce (filter keep ps)
once_filter keep ps o path = omega (arith, count_filter (λ (p : List ℕ). bytes_eq p path) keep ps, o path)

-- how many pass a test apart from one path
count_more : (t : List ℕ → Bool) (p : List ℕ) (qs : List (List ℕ)) → t p ≡ true → count_by t (without p qs) + count_by (λ q. bytes_eq q p) qs ≡ count_by t qs
count_more t p [] sure = omega arith
count_more t p (q ∷ qs) sure =
    let rest = count_more t p qs sure in
    let c = sum_by-cons (λ (x : List ℕ). cond (t x) 1 0) q qs in
    let d = sum_by-cons (λ (x : List ℕ). cond (bytes_eq x p) 1 0) q qs in
    by_bool (bytes_eq q p)
    (λ k.
    let tq : t q ≡ true = ap t (same_bytes q p k) ∙ sure in
    let one : ◌≡◌ {A = ℕ} (cond (bytes_eq q p) 1 0) 1 = rw k refl in
    let two : ◌≡◌ {A = ℕ} (cond (t q) 1 0) 1 = rw tq refl in
    let w : ◌≡◌ {A = ℕ} (count_by t (without p (q ∷ qs))) (count_by t (without p qs)) = rw k refl in
    omega (arith, c, d, one, two, w, rest))
    (λ k.
    let one : ◌≡◌ {A = ℕ} (cond (bytes_eq q p) 1 0) 0 = rw k refl in
    let w : ◌≡◌ {A = ℕ} (count_by t (without p (q ∷ qs))) (count_by t (q ∷ without p qs)) = rw k refl in
    let e = sum_by-cons (λ (x : List ℕ). cond (t x) 1 0) q (without p qs) in
    omega (arith, c, d, e, one, w, rest))

same_tail : (p : List ℕ) (ps qs : List (List ℕ)) → IsOnce (p ∷ ps) → HaveSame (p ∷ ps) qs → HaveSame ps (without p qs)
same_tail p ps qs o same path = by_bool (bytes_eq p path)
    (λ k.
    let e = same_bytes p path k in
    ap (λ x. has x ps) (sym e) ∙ once_head p ps o ∙ sym (any_lost (λ (x : List ℕ). bytes_eq x path) (λ (x : List ℕ). not (bytes_eq x p)) (λ x t. rw (bytes_same x p (same_bytes x path t ∙ sym e)) refl) qs))
    (λ k.
    let a : has path ps ≡ has path (p ∷ ps) = sym (rw k refl) in
    let kept : has path (without p qs) ≡ has path qs = any_kept (λ (x : List ℕ). bytes_eq x path) (λ (x : List ℕ). not (bytes_eq x p)) (λ x t. not_eq x t k) qs in
    a ∙ same path ∙ sym kept)
  where
    not_eq : (x : List ℕ) → bytes_eq x path ≡ true → bytes_eq p path ≡ false → not (bytes_eq x p) ≡ true
    not_eq x t k = by_bool (bytes_eq x p)
        (λ j. absurd (true≢false (sym (bytes_same p path (sym (same_bytes x p j) ∙ same_bytes x path t)) ∙ k)))
        (λ j. rw j refl)

-- as many of both pass a test
pub same_count : (t : List ℕ → Bool) (ps qs : List (List ℕ)) → IsOnce ps → IsOnce qs → HaveSame ps qs → count_by t ps ≡ count_by t qs
same_count t [] [] a b same = refl
same_count t [] (q ∷ qs) a b same = absurd (true≢false (sym (rw (itself q) refl) ∙ sym (same q)))
same_count t (p ∷ ps) qs a b same =
    let rest = same_count t ps (without p qs) (once_tail p ps a) (once_filter (λ q. not (bytes_eq q p)) qs b) (same_tail p ps qs a same) in
    let c = sum_by-cons (λ (x : List ℕ). cond (t x) 1 0) p ps in
    let there : has p qs ≡ true = sym (same p) ∙ rw (itself p) refl in
    by_bool (t p)
    (λ k.
    let one : ◌≡◌ {A = ℕ} (cond (t p) 1 0) 1 = rw k refl in
    omega (arith, c, one, rest, count_more t p qs k, count_has p qs there, b p))
    (λ k.
    let none : ◌≡◌ {A = ℕ} (cond (t p) 1 0) 0 = rw k refl in
    let kept : count_by t (without p qs) ≡ count_by t qs = count_kept t (λ (q : List ℕ). not (bytes_eq q p)) (λ q tq. by_bool (bytes_eq q p) (λ j. absurd (true≢false (sym tq ∙ (ap t (same_bytes q p j) ∙ k)))) (λ j. rw j refl)) qs in
    omega (arith, c, none, rest, kept))

-- a test that one path at most passes finds the same in both
pub same_found : (t : List ℕ → Bool) → ((p q : List ℕ) → t p ≡ true → t q ≡ true → p ≡ q) → (ps qs : List (List ℕ)) → HaveSame ps qs → find t ps ≡ find t qs
same_found t one ps qs same = by (find t ps) refl (find t qs) refl
  where
    -- what is found is a member
    member : (xs : List (List ℕ)) (x : List ℕ) → find t xs ≡ Some x → has x xs ≡ true
    member [] x h = absurd (cc)
    member (y ∷ ys) x h =
        let rest = member ys x in
        by_bool (t y)
        (λ k. let e : ◌≡◌ {A = Option (List ℕ)} (Some y) (Some x) = sym (rw k refl) ∙ h in let s : y ≡ x = cc in rw (bytes_same y x s) refl)
        (λ k. let r : has x ys ≡ true = rest (sym (rw k refl) ∙ h) in by_bool (bytes_eq y x) (λ j. rw j refl) (λ j. rw j r))

    -- where a member passes, something is found
    some : (xs : List (List ℕ)) (x : List ℕ) → t x ≡ true → has x xs ≡ true → is_some (find t xs) ≡ true
    some [] x sure h = absurd (true≢false (sym h))
    some (y ∷ ys) x sure h =
        let rest = some ys x sure in
        by_bool (t y)
        (λ k. rw k refl)
        (λ k. by_bool (bytes_eq y x) (λ j. absurd (true≢false (sym sure ∙ (sym (ap t (same_bytes y x j)) ∙ k)))) (λ j. let g : has x ys ≡ true = sym (rw j refl) ∙ h in rw k (rest g)))

    by : (o : Option (List ℕ)) → find t ps ≡ o → (r : Option (List ℕ)) → find t qs ≡ r → find t ps ≡ find t qs
    by None e None f = e ∙ sym f
    by None e (Some q) f = absurd (true≢false (sym (some ps q (find_true t qs q f) (same q ∙ member qs q f)) ∙ ap is_some e))
    by (Some p) e None f = absurd (true≢false (sym (some qs p (find_true t ps p e) (sym (same p) ∙ member ps p e)) ∙ ap is_some f))
    by (Some p) e (Some q) f = e ∙ ap Some (one p q (find_true t ps p e) (find_true t qs q f)) ∙ sym f
