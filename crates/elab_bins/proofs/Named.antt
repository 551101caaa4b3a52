-- The names of the bins of one declaration differ.
use Rattle.std.proofs.Common.{◌≡◌, ◌∙◌, ℕ, zero, suc, ◌+◌, ◌^◌, ◌<◌, ◌≤◌, ℤ, pos, negsuc, ◌<ℤ◌, List, [], ◌∷◌, ◌++◌, length, map, get_or, refl, sym, ap, subst, Bool, arith, Option}
use Rattle.std.specs.Prelude.{nat_le}
use Rattle.std.specs.Fmt.{decimal, signed_decimal}
use Rattle.std.specs.List.{AllByRecursion}
use Rattle.std.proofs.lemmas.Int.{ints}
use Rattle.std.proofs.lemmas.Fmt.{decimal_injective, first_decimal, decimal_digit}
use Rattle.cov_ground.specs.Limits.{most_bins}
use Rattle.cov_base.specs.Sets.{IsInt, set_of, ascending, written}
use Rattle.const_eval.specs.Terms.{Term}
use Rattle.elab_base.specs.declared.fault.ElabKind.TheVariants as kind
use Rattle.elab_base.specs.Gives.{needs}
use Rattle.elab_base.proofs.Keeps.{bind_ok, ok_is, needs_ok}
use Rattle.elab_values.specs.declared.made.Made.{Made}
use Rattle.elab_bins.specs.declared.plans.Head.{Head}
use Rattle.elab_bins.specs.declared.plans.Plan.{Plan}
use Rattle.elab_bins.specs.declared.plans.Wanted.{Wanted}
use Rattle.elab_bins.specs.declared.plans.Wanted.TheVariants as wants
use Rattle.elab_bins.specs.Laws.{Ascend, NamesDiffer, BinsAreNamed, RestsAreNamed}
use Rattle.elab_bins.specs.Made.{bins_wanted, plan_of, planned, indexed, single, part_bins, parts_kept, bins_made}
use Rattle.elab_bins.specs.Rest.{rest_bin}
use Rattle.elab_bins.proofs.Distinct.{ascends, all_put}
use Rattle.elab_bins.proofs.Kept.{length-map, length-parts_kept}

-- ---- texts of numbers

cons_tail : {X : Type 0} (x y : X) (xs ys : List X) → x ∷ xs ≡ y ∷ ys → xs ≡ ys
cons_tail x y xs ys e = cc

append_left : {X : Type 0} (front xs ys : List X) → front ++ xs ≡ front ++ ys → xs ≡ ys
append_left [] xs ys e = e
append_left (x ∷ front) xs ys e = append_left front xs ys (cons_tail x x (front ++ xs) (front ++ ys) e)

last_same : {X : Type 0} (x : X) (xs ys : List X) → xs ++ x ∷ [] ≡ ys ++ x ∷ [] → xs ≡ ys
last_same x [] [] e = refl
last_same x [] (y ∷ []) e = absurd cc
last_same x [] (y ∷ z ∷ ys) e = absurd cc
last_same x (y ∷ []) [] e = absurd cc
last_same x (y ∷ z ∷ xs) [] e = absurd cc
last_same x (y ∷ xs) (z ∷ ys) e = λ i. first e i ∷ last_same x xs ys (cons_tail y z (xs ++ x ∷ []) (ys ++ x ∷ []) e) i
  where
    first : y ∷ (xs ++ x ∷ []) ≡ z ∷ (ys ++ x ∷ []) → y ≡ z
    first e = cc

index_same : (name a b : List ℕ) → indexed name a ≡ indexed name b → a ≡ b
unfolding indexed
index_same name a b e = last_same 93 a b (cons_tail 91 91 (a ++ 93 ∷ []) (b ++ 93 ∷ []) (append_left name (91 ∷ (a ++ 93 ∷ [])) (91 ∷ (b ++ 93 ∷ [])) e))

no_sign : (n : ℕ) (xs : List ℕ) → n < 2 ^ 64 → decimal n ≡ 45 ∷ xs → ⊥
no_sign zero xs lt e =
    let is : 48 ≡ 45 = ap (λ (ys : List ℕ). get_or ys 0 0) (sym (decimal_digit 0 (omega arith)) ∙ e) in
    omega (arith, is)
no_sign (suc n) xs lt e =
    let more = first_decimal (suc n) (omega arith) lt in
    let is : get_or (decimal (suc n)) 0 0 ≡ 45 = ap (λ (ys : List ℕ). get_or ys 0 0) e in
    omega (arith, more, is)

text_same : (v w : ℤ) → IsInt v → IsInt w → signed_decimal v ≡ signed_decimal w → v ≡ w
text_same (pos m) (pos n) g h e = ap (λ (k : ℕ). pos k) (decimal_injective m n (omega (arith, ints, g.1)) (omega (arith, ints, h.1)) e)
text_same (pos m) (negsuc n) g h e = absurd (no_sign m (decimal (suc n)) (omega (arith, ints, g.1)) e)
text_same (negsuc m) (pos n) g h e = absurd (no_sign n (decimal (suc m)) (omega (arith, ints, h.1)) (sym e))
text_same (negsuc m) (negsuc n) g h e =
    let same = decimal_injective (suc m) (suc n) (omega (arith, ints, g.0)) (omega (arith, ints, h.0)) (cons_tail 45 45 (decimal (suc m)) (decimal (suc n)) e) in
    ap (λ (k : ℕ). negsuc k) (omega (arith, same))

-- ---- a bin for each number

above_differ : (v : ℤ) (head : Head) (numbers : List ℤ) → IsInt v → AllByRecursion IsInt numbers → AllByRecursion (λ w. v <ℤ w) numbers
    → AllByRecursion (λ (other : List ℕ). indexed head.name (signed_decimal v) ≡ other → ⊥) (map (λ (made : Made). made.bin.name) (map (single head) numbers))
above_differ v head [] int ints' above = tt
above_differ v head (w ∷ ws) int ints' above = (λ e. less v w above.0 (text_same v w int ints'.0 (index_same head.name (signed_decimal v) (signed_decimal w) e)), above_differ v head ws int ints'.1 above.1)
  where
    less : (a b : ℤ) → a <ℤ b → a ≡ b → ⊥
    less a b lt e = omega (arith, ints, lt, e)

singles_differ : (head : Head) (numbers : List ℤ) → AllByRecursion IsInt numbers → Ascend numbers → NamesDiffer (map (λ (made : Made). made.bin.name) (map (single head) numbers))
singles_differ head [] are up = tt
singles_differ head (v ∷ vs) are up = (above_differ v head vs are.0 are.1 up.0, singles_differ head vs are.1 up.1)

ints_ascending : (xs : List ℤ) → AllByRecursion IsInt xs → AllByRecursion IsInt (ascending xs)
ints_ascending [] are = tt
ints_ascending (x ∷ xs) are = all_put IsInt x (ascending xs) are.0 (ints_ascending xs are.1)

rest_above : (v : ℤ) (head : Head) (numbers : List ℤ) → IsInt v → AllByRecursion IsInt numbers → AllByRecursion (λ w. v <ℤ w) numbers
    → AllByRecursion (λ (other : List ℕ). indexed head.name (signed_decimal v) ≡ other → ⊥) (map (λ (made : Made). made.bin.name) (map (rest_bin head) numbers))
rest_above v head [] int ints' above = tt
rest_above v head (w ∷ ws) int ints' above = (λ e. less v w above.0 (text_same v w int ints'.0 (index_same head.name (signed_decimal v) (signed_decimal w) e)), rest_above v head ws int ints'.1 above.1)
  where
    less : (a b : ℤ) → a <ℤ b → a ≡ b → ⊥
    less a b lt e = omega (arith, ints, lt, e)

rests_differ : (head : Head) (numbers : List ℤ) → AllByRecursion IsInt numbers → Ascend numbers → NamesDiffer (map (λ (made : Made). made.bin.name) (map (rest_bin head) numbers))
rests_differ head [] are up = tt
rests_differ head (v ∷ vs) are up = (rest_above v head vs are.0 are.1 up.0, rests_differ head vs are.1 up.1)

pub rests_named : RestsAreNamed
rests_named rest head are = rests_differ head (ascending (written rest)) (ints_ascending (written rest) are) (ascends (written rest))

-- ---- a bin for each part

later_differ : (j k : ℕ) (head : Head) (sets : List (List (ℤ × ℤ))) → j < k → k + length sets ≤ most_bins → AllByRecursion (λ (other : List ℕ). indexed head.name (decimal j) ≡ other → ⊥) (map (λ (made : Made). made.bin.name) (part_bins head k sets))
later_differ j k head [] lt few = tt
later_differ j k head (set ∷ sets) lt few = (λ e. less (decimal_injective j k (omega (arith, lt, few)) (omega (arith, few)) (index_same head.name (decimal j) (decimal k) e)), later_differ j (k + 1) head sets (omega (arith, lt)) (omega (arith, few)))
  where
    less : j ≡ k → ⊥
    less e = omega (arith, lt, e)

parts_differ : (j : ℕ) (head : Head) (sets : List (List (ℤ × ℤ))) → j + length sets ≤ most_bins → NamesDiffer (map (λ (made : Made). made.bin.name) (part_bins head j sets))
parts_differ j head [] few = tt
parts_differ j head (set ∷ sets) few = (later_differ j (j + 1) head sets (omega arith) (omega (arith, few)), parts_differ (j + 1) head sets (omega (arith, few)))

-- ---- a declaration

planned_named : (distribute : Bool) (keep : Option Term) (wanted : Wanted) (head : Head) (numbers kept : List ℤ) → AllByRecursion IsInt kept → bins_wanted wanted kept ≤ most_bins → NamesDiffer (map (λ (made : Made). made.bin.name) (bins_made distribute keep (plan_of wanted kept) head numbers kept))
unfolding bins_made
planned_named distribute keep wants.One head numbers kept are few = (tt, tt)
planned_named distribute keep wants.Each head numbers kept are few = singles_differ head (ascending kept) (ints_ascending kept are) (ascends kept)
planned_named distribute keep (wants.Spread n) head numbers kept are few =
    let sets = parts_kept distribute keep n numbers kept in
    let many = length-map set_of sets ∙ length-parts_kept distribute keep n numbers kept in
    parts_differ 0 head (map set_of sets) (omega (arith, many, few))

pub bins_named : BinsAreNamed
unfolding planned
bins_named distribute keep have wanted plan head numbers kept at are e =
    let n = bind_ok (needs (nat_le (have + bins_wanted wanted kept) most_bins) kind.TooManyBins at) _ plan e in
    let fits = needs_ok (nat_le (have + bins_wanted wanted kept) most_bins) kind.TooManyBins at n.0 n.1 in
    let few : have + bins_wanted wanted kept ≤ most_bins = grind (arith, fits) in
    subst (λ (p : Plan). NamesDiffer (map (λ (made : Made). made.bin.name) (bins_made distribute keep p head numbers kept))) (ok_is (plan_of wanted kept) plan n.2) (planned_named distribute keep wanted head numbers kept are (omega (arith, few)))
