-- Products of sizes, a size at a time.
use Rattle.std.proofs.Common.{◌≡◌, ℕ, ◌+◌, ◌*◌, ◌<◌, ◌≤◌, zero, suc, List, [], ◌∷◌, length, drop, get_or, refl, sym, ap, ◌∙◌, arith, Bool, true, false, nat_eq, nat_lt, Option, Some, None}
use Rattle.std.specs.Prelude.{if◌then◌else◌}
use Rattle.std.specs.List.{list_any}
use Rattle.std.proofs.lemmas.Bool.{ne_eqb}
use Rattle.std.proofs.lemmas.Bool.Decides.{nat_tests}
use Rattle.std.proofs.lemmas.List.{drop_more}
use Rattle.cov_ground.specs.Limits.{most_products}
use Rattle.cross_select.specs.Products.{product_of, product_count}

abbrev pub has_zero : List ℕ → Bool
has_zero sizes = list_any (λ size. nat_eq size 0) sizes

nonzero : (size : ℕ) (sizes : List ℕ) → has_zero (suc size ∷ sizes) ≡ has_zero sizes
nonzero size sizes = rw (ne_eqb (suc size) 0 (λ e. absurd (omega arith))) refl

-- a size of 0 makes the product 0
pub zero_among : (sizes : List ℕ) → has_zero sizes ≡ true → product_of sizes ≡ 0
zero_among [] e = (cc)
zero_among (zero ∷ sizes) e = omega arith
zero_among (suc size ∷ sizes) e = rw (zero_among sizes (sym (nonzero size sizes) ∙ e)) (omega arith)

-- no other sizes do
pub none_zero : (sizes : List ℕ) → has_zero sizes ≡ false → 1 ≤ product_of sizes
none_zero [] e = omega arith
none_zero (zero ∷ sizes) e = (cc)
none_zero (suc size ∷ sizes) e = let rest : 1 ≤ product_of sizes = none_zero sizes (sym (nonzero size sizes) ∙ e) in above size (product_of sizes) rest
  where
    above : (a b : ℕ) → 1 ≤ b → 1 ≤ suc a * b
    above a b h = grind arith

pub none_left : (i : ℕ) (sizes : List ℕ) → has_zero sizes ≡ false → has_zero (drop i sizes) ≡ false
none_left zero sizes e = e
none_left (suc i) [] e = e
none_left (suc i) (zero ∷ sizes) e = (cc)
none_left (suc i) (suc size ∷ sizes) e = none_left i sizes (sym (nonzero size sizes) ∙ e)

-- one more size
pub next_product : (count i total : ℕ) (sizes : List ℕ) → i < length sizes → count * product_of (drop i sizes) ≡ total → (count * get_or sizes i 0) * product_of (drop (i + 1) sizes) ≡ total
next_product count i total sizes lt e = regroup count (get_or sizes i 0) (product_of (drop (i + 1) sizes)) ∙ ap (λ n. count * n) (sym (ap product_of (drop_more sizes i 0 lt))) ∙ e
  where
    regroup : (a b c : ℕ) → (a * b) * c ≡ a * (b * c)
    regroup a b c = grind arith

-- a front whose product is above the most
pub too_many : (count i : ℕ) (sizes : List ℕ) → has_zero sizes ≡ false → most_products < count → count * product_of (drop i sizes) ≡ product_of sizes → None ≡ product_count sizes
too_many count i sizes none above e = over (product_of sizes) (raised count (product_of (drop i sizes)) (product_of sizes) (none_zero (drop i sizes) (none_left i sizes none)) above e)
  where
    raised : (a b n : ℕ) → 1 ≤ b → most_products < a → a * b ≡ n → most_products < n
    raised a b n h above e = grind arith

    over : (n : ℕ) → most_products < n → ◌≡◌ {A = Option ℕ} None (if nat_lt most_products n then None else Some n)
    over n lt = grind (arith, nat_tests)
