-- Products and their numbers.
use Rattle.std.proofs.Common.{◌≡◌, ℕ, zero, suc, ◌+◌, ◌-◌, ◌*◌, ◌/◌, ◌%◌, ◌<◌, ◌≤◌, List, [], ◌∷◌, ◌++◌, length, get_or, drop, map, refl, sym, ap, ◌∙◌, arith, false, Bool, add-one, Some, None}
use Rattle.std.specs.Prelude.{slice_get}
use Rattle.std.specs.List.{flat_map, range_with_len}
use Rattle.std.proofs.lemmas.List.{map-append, drop_more}
use Rattle.std.proofs.lemmas.Nat.{div-mul-add}
use Rattle.std.proofs.Math.Nat.{mul-add-div_right, mul-add-mod_self_right, mul_assoc, mod-eq_of_lt, mul-div_cancel_left, le-mul_of_pos_right}
use Rattle.cross_select.specs.Products.{product_of}
use Rattle.cross_select.specs.Selections.{is_in, is_chosen_at}
use Rattle.design_data.specs.Crosses.{products}
use Rattle.product_bits.specs.Numbers.{product_at}
use Rattle.product_bits.specs.Marks.{in_run}

-- ---- strides

positive : (a b : ℕ) → 1 ≤ a * b → (1 ≤ a) × (1 ≤ b)
positive zero b h = absurd (omega (arith, h))
positive (suc a) zero h = absurd (let z : suc a * 0 ≡ 0 = omega arith in omega (arith, h, z))
positive (suc a) (suc b) h = (omega arith, omega arith)

-- the next size, and the stride behind it
pub next_stride : (sizes : List ℕ) (i d : ℕ) → i < length sizes → 1 ≤ product_of (drop i sizes)
    → (1 ≤ get_or sizes i d) × (1 ≤ product_of (drop (i + 1) sizes)) × (product_of (drop i sizes) / get_or sizes i d ≡ product_of (drop (i + 1) sizes))
next_stride sizes i d lt some =
    let at : product_of (drop i sizes) ≡ get_or sizes i d * product_of (drop (i + 1) sizes) = ap product_of (drop_more sizes i d lt) in
    let parts = positive (get_or sizes i d) (product_of (drop (i + 1) sizes)) (omega (arith, some, at)) in
    (parts.0, parts.1, ap (λ (k : ℕ). k / get_or sizes i d) at ∙ mul-div_cancel_left (product_of (drop (i + 1) sizes)) {n = get_or sizes i d} parts.0)

pub next_digit : (sizes : List ℕ) (i d n : ℕ) → i < length sizes → product_at (drop i sizes) n ≡ (n / product_of (drop (i + 1) sizes) % get_or sizes i d) ∷ product_at (drop (i + 1) sizes) n
next_digit sizes i d n lt = ap (λ (rest : List ℕ). product_at rest n) (drop_more sizes i d lt)

-- a stride and its axis are within the number of products
within_suc : (sizes : List ℕ) (axis d : ℕ) → axis < length sizes → 1 ≤ product_of sizes
    → (1 ≤ product_of (drop (suc axis) sizes)) × (1 ≤ get_or sizes axis d) × (product_of (drop (suc axis) sizes) * get_or sizes axis d ≤ product_of sizes)
within_suc [] axis d lt some = absurd (omega arith)
within_suc (size ∷ sizes) zero d lt some =
    let parts = positive size (product_of sizes) some in
    let turn : product_of sizes * size ≡ size * product_of sizes = omega arith in
    (parts.1, parts.0, omega (arith, turn))
within_suc (size ∷ sizes) (suc axis) d lt some =
    let parts = positive size (product_of sizes) some in
    let rest = within_suc sizes axis d (omega arith) parts.1 in
    let turn : product_of sizes * size ≡ size * product_of sizes = omega arith in
    let le : product_of sizes ≤ product_of sizes * size = le-mul_of_pos_right {m = size} (product_of sizes) parts.0 in
    (rest.0, rest.1, omega (arith, rest.2, turn, le))

pub within : (sizes : List ℕ) (axis d : ℕ) → axis < length sizes → 1 ≤ product_of sizes
    → (1 ≤ product_of (drop (axis + 1) sizes)) × (1 ≤ get_or sizes axis d) × (product_of (drop (axis + 1) sizes) * get_or sizes axis d ≤ product_of sizes)
within sizes axis d lt some = rw (add-one axis) (within_suc sizes axis d lt some)

-- ---- the bin of an axis

bin_at : (sizes : List ℕ) (axis n d : ℕ) → axis < length sizes → slice_get (product_at sizes n) axis ≡ Some (n / product_of (drop (suc axis) sizes) % get_or sizes axis d)
bin_at [] axis n d lt = absurd (omega arith)
bin_at (size ∷ sizes) zero n d lt = refl
bin_at (size ∷ sizes) (suc axis) n d lt = bin_at sizes axis n d (omega arith)

no_bin_at : (sizes : List ℕ) (axis n : ℕ) → length sizes ≤ axis → slice_get (product_at sizes n) axis ≡ None
no_bin_at [] axis n le = refl
no_bin_at (size ∷ sizes) zero n le = absurd (omega arith)
no_bin_at (size ∷ sizes) (suc axis) n le = no_bin_at sizes axis n (omega arith)

pub chosen_in_run : (sizes : List ℕ) (axis n d : ℕ) (chosen : List Bool) → axis < length sizes → in_run (product_of (drop (axis + 1) sizes)) (get_or sizes axis d) chosen n ≡ is_chosen_at axis chosen (product_at sizes n)
chosen_in_run sizes axis n d chosen lt = rw (add-one axis) (sym (ap (is_in chosen) (bin_at sizes axis n d lt)))

pub chosen_nowhere : (sizes : List ℕ) (axis n : ℕ) (chosen : List Bool) → length sizes ≤ axis → false ≡ is_chosen_at axis chosen (product_at sizes n)
chosen_nowhere sizes axis n chosen le = sym (ap (is_in chosen) (no_bin_at sizes axis n le))

-- ---- all products, by their numbers

-- the numbers come again
moved_on : (size c p j : ℕ) → c * (size * p) + j ≡ c * size * p + j
moved_on size c p j = ap (λ (k : ℕ). k + j) (sym (mul_assoc c size p))

same_digit : (size c p j : ℕ) → (c * (size * p) + j) / p % size ≡ j / p % size
same_digit size c zero j =
    let inner : size * 0 ≡ 0 = omega arith in
    let outer : c * 0 + j ≡ j = omega arith in
    ap (λ (k : ℕ). k / 0 % size) (ap (λ (k : ℕ). c * k + j) inner ∙ outer)
same_digit size c (suc p) j =
    ap (λ (k : ℕ). k / suc p % size) (moved_on size c (suc p) j)
    ∙ (ap (λ (k : ℕ). k % size) (mul-add-div_right {m = suc p} (omega arith) (c * size) j) ∙ mul-add-mod_self_right c size (j / suc p))

again : (sizes : List ℕ) (c j : ℕ) → product_at sizes (c * product_of sizes + j) ≡ product_at sizes j
again [] c j = refl
again (size ∷ sizes) c j =
    let tail : product_at sizes (c * (size * product_of sizes) + j) ≡ product_at sizes j = ap (product_at sizes) (moved_on size c (product_of sizes) j) ∙ again sizes (c * size) j in
    λ i. same_digit size c (product_of sizes) j i ∷ tail i

-- ranges
range_split : (a k l : ℕ) → range_with_len a (k + l) ≡ range_with_len a k ++ range_with_len (a + k) l
range_split a zero l =
    let e : a ≡ a + 0 = omega arith in
    let f : 0 + l ≡ l = omega arith in
    λ i. range_with_len (e i) (f i)
range_split a (suc k) l =
    let e : suc k + l ≡ suc (k + l) = omega arith in
    let f : a + 1 + k ≡ a + suc k = omega arith in
    ap (range_with_len a) e ∙ ap (λ (xs : List ℕ). a ∷ xs) (range_split (a + 1) k l ∙ ap (λ (b : ℕ). range_with_len (a + 1) k ++ range_with_len b l) f)

map_moved : {X : Type 0} (f g : ℕ → X) (a b k : ℕ) → ((j : ℕ) → j < k → f (a + j) ≡ g (b + j)) → map f (range_with_len a k) ≡ map g (range_with_len b k)
map_moved f g a b zero same = refl
map_moved {X} f g a b (suc k) same =
    let first : f a ≡ g b = ap f (omega arith) ∙ (same 0 (omega arith) ∙ ap g (omega arith)) in
    let rest : map f (range_with_len (a + 1) k) ≡ map g (range_with_len (b + 1) k) = map_moved f g (a + 1) (b + 1) k (λ j lt. ap f (omega arith) ∙ (same (j + 1) (omega arith) ∙ ap g (omega arith))) in
    λ i. first i ∷ rest i

map_map : {X : Type 0} (f : X → X) (g : ℕ → X) (xs : List ℕ) → map f (map g xs) ≡ map (λ n. f (g n)) xs
map_map f g [] = refl
map_map {X} f g (x ∷ xs) = ap (λ (ys : List X). f (g x) ∷ ys) (map_map f g xs)

-- the products whose first bin is this one
first_bin : (size : ℕ) (sizes : List ℕ) (a : ℕ) → a < size → products sizes ≡ map (product_at sizes) (range_with_len 0 (product_of sizes))
    → map (λ rest. a ∷ rest) (products sizes) ≡ map (product_at (size ∷ sizes)) (range_with_len (a * product_of sizes) (product_of sizes))
first_bin size sizes a lt is =
    ap (map (λ rest. a ∷ rest)) is ∙ (map_map (λ rest. a ∷ rest) (product_at sizes) (range_with_len 0 (product_of sizes))
    ∙ map_moved (λ n. a ∷ product_at sizes n) (product_at (size ∷ sizes)) 0 (a * product_of sizes) (product_of sizes) here)
  where
    here : (j : ℕ) → j < product_of sizes → (a ∷ product_at sizes (0 + j)) ≡ product_at (size ∷ sizes) (a * product_of sizes + j)
    here j less =
        let digit : (a * product_of sizes + j) / product_of sizes % size ≡ a = ap (λ (k : ℕ). k % size) (div-mul-add a (product_of sizes) j less) ∙ mod-eq_of_lt lt in
        let rest : product_at sizes (0 + j) ≡ product_at sizes (a * product_of sizes + j) = ap (product_at sizes) (omega arith) ∙ sym (again sizes a j) in
        λ i. (sym digit i) ∷ rest i

bins_from : (size : ℕ) (sizes : List ℕ) (a k : ℕ) → a + k ≤ size → products sizes ≡ map (product_at sizes) (range_with_len 0 (product_of sizes))
    → flat_map (λ bin. map (λ rest. bin ∷ rest) (products sizes)) (range_with_len a k) ≡ map (product_at (size ∷ sizes)) (range_with_len (a * product_of sizes) (k * product_of sizes))
bins_from size sizes a zero le is = let e : 0 ≡ 0 * product_of sizes = omega arith in ap (λ (n : ℕ). map (product_at (size ∷ sizes)) (range_with_len (a * product_of sizes) n)) e
bins_from size sizes a (suc k) le is =
    let next : (a + 1) * product_of sizes ≡ a * product_of sizes + product_of sizes = omega arith in
    let whole : suc k * product_of sizes ≡ product_of sizes + k * product_of sizes = omega arith in
    let rest = bins_from size sizes (a + 1) k (omega arith) is in
    let joined : map (product_at (size ∷ sizes)) (range_with_len (a * product_of sizes) (suc k * product_of sizes)) ≡ map (product_at (size ∷ sizes)) (range_with_len (a * product_of sizes) (product_of sizes)) ++ map (product_at (size ∷ sizes)) (range_with_len (a * product_of sizes + product_of sizes) (k * product_of sizes)) =
    ap (λ (n : ℕ). map (product_at (size ∷ sizes)) (range_with_len (a * product_of sizes) n)) whole
    ∙ (ap (map (product_at (size ∷ sizes))) (range_split (a * product_of sizes) (product_of sizes) (k * product_of sizes))
    ∙ map-append (product_at (size ∷ sizes)) (range_with_len (a * product_of sizes) (product_of sizes)) (range_with_len (a * product_of sizes + product_of sizes) (k * product_of sizes))) in
    let moved : map (product_at (size ∷ sizes)) (range_with_len ((a + 1) * product_of sizes) (k * product_of sizes)) ≡ map (product_at (size ∷ sizes)) (range_with_len (a * product_of sizes + product_of sizes) (k * product_of sizes)) = ap (λ (b : ℕ). map (product_at (size ∷ sizes)) (range_with_len b (k * product_of sizes))) next in
    (λ i. first_bin size sizes a (omega arith) is i ++ (rest ∙ moved) i) ∙ sym joined

pub products_numbered : (sizes : List ℕ) → products sizes ≡ map (product_at sizes) (range_with_len 0 (product_of sizes))
products_numbered [] = refl
products_numbered (size ∷ sizes) = bins_from size sizes 0 size (omega arith) (products_numbered sizes) ∙ ap (λ (b : ℕ). map (product_at (size ∷ sizes)) (range_with_len b (size * product_of sizes))) (omega arith)
