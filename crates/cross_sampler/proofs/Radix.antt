-- Numbers of products, a point at a time.
use Rattle.std.proofs.Common.{◌≡◌, ℕ, zero, suc, ◌+◌, ◌*◌, ◌/◌, ◌%◌, ◌<◌, ◌≤◌, List, [], ◌∷◌, ◌++◌, length, get_or, drop, Bool, true, false, cond, refl, ap, sym, subst, ◌∙◌, arith}
use Rattle.std.specs.Prelude.{map, nat_lt}
use Rattle.std.specs.List.{All}
use Rattle.std.specs.Global.{Vec}
use Rattle.std.proofs.Math.Nat.{mul-div_cancel_left, mod-lt, div-lt_iff_lt-mul}
use Rattle.std.proofs.lemmas.Bool.{ltb-true, lt-ltb}
use Rattle.std.proofs.lemmas.Nat.{mul-add-lt, mul-le, div-mul-add, mod-mul-add, div-add-mod'}
use Rattle.std.proofs.lemmas.List.{drop_more, length-map, get_or-map}
use Rattle.std.proofs.lemmas.List.Elements.{All-head, All-tail, All-cons, All-nil, All-append, All-map, All-drop}
use Rattle.cross_select.specs.Products.{product_of}
use Rattle.design_data.specs.Crosses.{IsProduct}
use Rattle.cross_sampler.specs.Numbers.{number_of, weights_of, product_by, product_at, below, extended, numbers_of, row_at, hits_of, AllFit}

-- ---- one more point's bin

regroup : (n size rest : ℕ) → size * (n + 1) * rest ≡ (n + 1) * (size * rest)
regroup n size rest = grind arith

pub fit_step : (n size bin rest most : ℕ) → bin < size → (n + 1) * (size * rest) ≤ most → (n * size + bin + 1) * rest ≤ most
fit_step n size bin rest most lt le =
    let less : n * size + bin < size * (n + 1) = mul-add-lt n size bin (n + 1) (omega arith) lt in
    let more : (n * size + bin + 1) * rest ≤ size * (n + 1) * rest = mul-le (n * size + bin + 1) rest (size * (n + 1)) rest (omega (arith, less)) (omega arith) in
    let same : size * (n + 1) * rest ≡ (n + 1) * (size * rest) = regroup n size rest in
    omega (arith, more, same, le)

pub some : (sizes : List ℕ) → All (λ size. 0 < size) sizes → 1 ≤ product_of sizes
some [] h = omega arith
some (size ∷ sizes) h = above size (product_of sizes) (All-head (λ (size : ℕ). 0 < size) size sizes h) (some sizes (All-tail (λ (size : ℕ). 0 < size) size sizes h))
  where
    above : (a b : ℕ) → 0 < a → 1 ≤ b → 1 ≤ a * b
    above a b h k = grind arith

-- a number of which more than one product is still to come is small
pub small : (n size rest most : ℕ) → 1 ≤ rest → (n + 1) * (size * rest) ≤ most → n * size + size ≤ most
small n size rest most some le =
    let more : (n + 1) * size * 1 ≤ (n + 1) * size * rest = mul-le ((n + 1) * size) 1 ((n + 1) * size) rest (omega arith) some in
    let same : (n + 1) * size * rest ≡ (n + 1) * (size * rest) = grind arith in
    let plain : (n + 1) * size ≡ n * size + size = grind arith in
    omega (arith, more, same, plain, le)

below_all : (size : ℕ) (hit : List ℕ) → All (λ bin. bin < size) (below size hit)
below_all size [] = All-nil (λ (bin : ℕ). bin < size)
below_all size (bin ∷ hit) = by (nat_lt bin size) refl (below_all size hit)
  where
    by : (b : Bool) → nat_lt bin size ≡ b → All (λ bin. bin < size) (below size hit) → All (λ bin. bin < size) (cond b (bin ∷ below size hit) (below size hit))
    by true e rest = All-cons (λ (bin : ℕ). bin < size) bin (below size hit) (ltb-true bin size e) rest
    by false e rest = rest

module _ (most size : ℕ) (rest : List ℕ) where
  abbrev Fit : ℕ → Type 0
  Fit n = (n + 1) * product_of rest ≤ most

  row_fit : (n : ℕ) → (n + 1) * (size * product_of rest) ≤ most → (hs : List ℕ) → All (λ bin. bin < size) hs → All Fit (map (λ bin. n * size + bin) hs)
  row_fit n le hs h = All-map Fit (λ (bin : ℕ). n * size + bin) hs (λ k d lt. fit_step n size (get_or hs k d) (product_of rest) most (h k d lt) le)

  pub extended_fit : (hit numbers : List ℕ) → AllFit most (size ∷ rest) numbers → AllFit most rest (extended size hit numbers)
  extended_fit hit [] h = All-nil Fit
  extended_fit hit (n ∷ ns) h = All-append Fit (map (λ (bin : ℕ). n * size + bin) (below size hit)) (extended size hit ns)
      (row_fit n (All-head (λ (n : ℕ). (n + 1) * (size * product_of rest) ≤ most) n ns h) (below size hit) (below_all size hit))
      (extended_fit hit ns (All-tail (λ (n : ℕ). (n + 1) * (size * product_of rest) ≤ most) n ns h))

-- ---- the sizes and bins that are left

module _ (sizes axes : List ℕ) (rows : List (Vec ℕ)) (k : ℕ) (lt : k < length sizes) (same : length sizes ≡ length axes) where
  sizes_left : drop k sizes ≡ get_or sizes k 0 ∷ drop (k + 1) sizes
  sizes_left = drop_more sizes k 0 lt

  hits_left : drop k (hits_of rows axes) ≡ row_at rows (get_or axes k 0) ∷ drop (k + 1) (hits_of rows axes)
  hits_left = drop_more (hits_of rows axes) k [] (omega (arith, lt, same, length-map axes (row_at rows)))
      ∙ ap (λ (x : List ℕ). x ∷ drop (k + 1) (hits_of rows axes)) (get_or-map (row_at rows) axes k 0 [] (omega (arith, lt, same)))

  pub numbers_more : (numbers hit : List ℕ) → hit ≡ row_at rows (get_or axes k 0)
      → numbers_of numbers (drop k sizes) (drop k (hits_of rows axes)) ≡ numbers_of (extended (get_or sizes k 0) hit numbers) (drop (k + 1) sizes) (drop (k + 1) (hits_of rows axes))
  numbers_more numbers hit is =
      ap (λ (ss : List ℕ). numbers_of numbers ss (drop k (hits_of rows axes))) sizes_left
      ∙ ap (λ (hs : List (List ℕ)). numbers_of numbers (get_or sizes k 0 ∷ drop (k + 1) sizes) hs) hits_left
      ∙ ap (λ (h : List ℕ). numbers_of (extended (get_or sizes k 0) h numbers) (drop (k + 1) sizes) (drop (k + 1) (hits_of rows axes))) (sym is)

  module _ (most : ℕ) (positive : All (λ size. 0 < size) sizes) (numbers : List ℕ) (fit : AllFit most (drop k sizes) numbers) where
    fit_here : AllFit most (get_or sizes k 0 ∷ drop (k + 1) sizes) numbers
    fit_here = subst (λ (ss : List ℕ). AllFit most ss numbers) sizes_left fit

    pub fits_more : (hit : List ℕ) → AllFit most (drop (k + 1) sizes) (extended (get_or sizes k 0) hit numbers)
    fits_more hit = extended_fit most (get_or sizes k 0) (drop (k + 1) sizes) hit numbers fit_here

    pub all_small : All (λ n. n * get_or sizes k 0 + get_or sizes k 0 ≤ most) numbers
    all_small i d li = small (get_or numbers i d) (get_or sizes k 0) (product_of (drop (k + 1) sizes)) most
        (some (drop (k + 1) sizes) (All-drop (λ (size : ℕ). 0 < size) (k + 1) sizes positive)) (fit_here i d li)

-- one number with one bin of one more point
pub one_extended : (n size bin : ℕ) (hit : List ℕ) → bin < size → hit ≡ bin ∷ [] → extended size hit (n ∷ []) ≡ (n * size + bin) ∷ []
one_extended n size bin hit lt is =
    ap (λ (hs : List ℕ). extended size hs (n ∷ [])) is ∙ ap (λ (t : Bool). map (λ (b : ℕ). n * size + b) (cond t (bin ∷ []) []) ++ []) (lt-ltb bin size lt)

-- numbers of which one product is still to come
pub all_below : (most : ℕ) (numbers : List ℕ) → AllFit most [] numbers → All (λ n. n < most) numbers
all_below most numbers h i d lt = let le : (get_or numbers i d + 1) * 1 ≤ most = h i d lt in omega (arith, le)

-- ---- products of numbers

pub weights_some : (sizes : List ℕ) → All (λ size. 0 < size) sizes → All (λ weight. 0 < weight) (weights_of sizes)
weights_some [] h = All-nil (λ (weight : ℕ). 0 < weight)
weights_some (size ∷ sizes) h =
    let rest = All-tail (λ (size : ℕ). 0 < size) size sizes h in
    All-cons (λ (weight : ℕ). 0 < weight) (product_of sizes) (weights_of sizes) (omega (arith, some sizes rest)) (weights_some sizes rest)

base_out : (base : ℕ) (sizes product : List ℕ) → IsProduct sizes product → number_of base sizes product ≡ base * product_of sizes + number_of 0 sizes product
base_out base [] [] p = omega arith
base_out base [] (bin ∷ product) p = absurd p
base_out base (size ∷ sizes) [] p = absurd p
base_out base (size ∷ sizes) (bin ∷ product) p =
    let a : number_of (base * size + bin) sizes product ≡ (base * size + bin) * product_of sizes + number_of 0 sizes product = base_out (base * size + bin) sizes product p.1 in
    let b : number_of (0 * size + bin) sizes product ≡ (0 * size + bin) * product_of sizes + number_of 0 sizes product = base_out (0 * size + bin) sizes product p.1 in
    a ∙ ring base size bin (product_of sizes) (number_of 0 sizes product) ∙ ap (λ (n : ℕ). base * (size * product_of sizes) + n) (sym b)
  where
    ring : (base size bin rest n : ℕ) → (base * size + bin) * rest + n ≡ base * (size * rest) + ((0 * size + bin) * rest + n)
    ring base size bin rest n = grind arith

-- a product's number is below the number of products
pub number_below : (sizes product : List ℕ) → IsProduct sizes product → number_of 0 sizes product < product_of sizes
number_below [] [] p = omega arith
number_below [] (bin ∷ product) p = absurd p
number_below (size ∷ sizes) [] p = absurd p
number_below (size ∷ sizes) (bin ∷ product) p =
    let less : number_of 0 sizes product < product_of sizes = number_below sizes product p.1 in
    let at : number_of (0 * size + bin) sizes product ≡ (0 * size + bin) * product_of sizes + number_of 0 sizes product = base_out (0 * size + bin) sizes product p.1 in
    let plain : (0 * size + bin) * product_of sizes ≡ bin * product_of sizes = ap (λ (n : ℕ). n * product_of sizes) (omega arith) in
    let within : bin * product_of sizes + number_of 0 sizes product < product_of sizes * size = mul-add-lt bin (product_of sizes) (number_of 0 sizes product) size p.0 less in
    let turned : product_of sizes * size ≡ size * product_of sizes = grind arith in
    omega (arith, at, plain, within, turned)

-- the product of a product's number is the product
pub product_back : (sizes product : List ℕ) → IsProduct sizes product → product_at sizes (number_of 0 sizes product) ≡ product
product_back [] [] p = refl
product_back [] (bin ∷ product) p = absurd p
product_back (size ∷ sizes) [] p = absurd p
product_back (size ∷ sizes) (bin ∷ product) p =
    let less : number_of 0 sizes product < product_of sizes = number_below sizes product p.1 in
    let zero_out : 0 * size + bin ≡ bin = omega arith in
    let at : number_of (0 * size + bin) sizes product ≡ bin * product_of sizes + number_of 0 sizes product =
    base_out (0 * size + bin) sizes product p.1 ∙ ap (λ (n : ℕ). n * product_of sizes + number_of 0 sizes product) zero_out in
    let first : number_of (0 * size + bin) sizes product / product_of sizes ≡ bin = ap (λ (n : ℕ). n / product_of sizes) at ∙ div-mul-add bin (product_of sizes) (number_of 0 sizes product) less in
    let rest : number_of (0 * size + bin) sizes product % product_of sizes ≡ number_of 0 sizes product = ap (λ (n : ℕ). n % product_of sizes) at ∙ mod-mul-add bin (product_of sizes) (number_of 0 sizes product) less in
    ap (λ (n : ℕ). n ∷ product_at sizes (number_of (0 * size + bin) sizes product % product_of sizes)) first
    ∙ ap (λ (n : ℕ). bin ∷ product_at sizes n) rest ∙ ap (λ (ps : List ℕ). bin ∷ ps) (product_back sizes product p.1)

-- ---- steps of loops

-- one weight more
pub weight_more : (sizes : List ℕ) (k left : ℕ) (weights new : List ℕ) → k < length sizes → 0 < get_or sizes k 0 → left ≡ product_of (drop k sizes) → weights ++ weights_of (drop k sizes) ≡ weights_of sizes
    → new ≡ weights ++ (left / get_or sizes k 0) ∷ [] → (left / get_or sizes k 0 ≡ product_of (drop (k + 1) sizes)) × (new ++ weights_of (drop (k + 1) sizes) ≡ weights_of sizes)
weight_more sizes k left weights new lt some is so_far push = (quotient, ap (λ (ws : List ℕ). ws ++ weights_of (drop (k + 1) sizes)) push ∙ again ∙ so_far)
  where
    here : drop k sizes ≡ get_or sizes k 0 ∷ drop (k + 1) sizes
    here = drop_more sizes k 0 lt

    quotient : left / get_or sizes k 0 ≡ product_of (drop (k + 1) sizes)
    quotient = ap (λ (n : ℕ). n / get_or sizes k 0) (is ∙ ap product_of here) ∙ mul-div_cancel_left (product_of (drop (k + 1) sizes)) some

    again : (weights ++ (left / get_or sizes k 0) ∷ []) ++ weights_of (drop (k + 1) sizes) ≡ weights ++ weights_of (drop k sizes)
    again = ap (λ (n : ℕ). (weights ++ n ∷ []) ++ weights_of (drop (k + 1) sizes)) quotient ∙ pushed weights (product_of (drop (k + 1) sizes)) (weights_of (drop (k + 1) sizes)) ∙ ap (λ (ss : List ℕ). weights ++ weights_of ss) (sym here)
      where
        pushed : (xs : List ℕ) (x : ℕ) (ys : List ℕ) → (xs ++ x ∷ []) ++ ys ≡ xs ++ x ∷ ys
        pushed [] x ys = refl
        pushed (z ∷ xs) x ys = ap (λ (zs : List ℕ). z ∷ zs) (pushed xs x ys)

-- one bin of a product more
pub bin_more : (weights product new : List ℕ) (k left : ℕ) (all : List ℕ) → k < length weights → product ++ product_by (drop k weights) left ≡ all → new ≡ product ++ (left / get_or weights k 0) ∷ []
    → new ++ product_by (drop (k + 1) weights) (left % get_or weights k 0) ≡ all
bin_more weights product new k left all lt so_far push =
    ap (λ (ps : List ℕ). ps ++ product_by (drop (k + 1) weights) (left % get_or weights k 0)) push
    ∙ pushed product (left / get_or weights k 0) (product_by (drop (k + 1) weights) (left % get_or weights k 0))
    ∙ ap (λ (ws : List ℕ). product ++ product_by ws left) (sym (drop_more weights k 0 lt)) ∙ so_far
  where
    pushed : (xs : List ℕ) (x : ℕ) (ys : List ℕ) → (xs ++ x ∷ []) ++ ys ≡ xs ++ x ∷ ys
    pushed [] x ys = refl
    pushed (z ∷ xs) x ys = ap (λ (zs : List ℕ). z ∷ zs) (pushed xs x ys)

-- one bin more of a number
pub record Counted (sizes product : List ℕ) (k number : ℕ) : Type 0 where
  pub fits : (number + 1) * product_of (drop k sizes) ≤ product_of sizes
  pub left : IsProduct (drop k sizes) (drop k product)
  pub is : number_of number (drop k sizes) (drop k product) ≡ number_of 0 sizes product

same_length : (sizes product : List ℕ) → IsProduct sizes product → length product ≡ length sizes
same_length [] [] p = refl
same_length [] (bin ∷ product) p = absurd p
same_length (size ∷ sizes) [] p = absurd p
same_length (size ∷ sizes) (bin ∷ product) p = ap suc (same_length sizes product p.1)

pub has_bin : (sizes product : List ℕ) (k : ℕ) → IsProduct sizes product → k < length sizes → k < length product
has_bin sizes product k p lt = omega (arith, lt, same_length sizes product p)

product_some : (sizes product : List ℕ) → IsProduct sizes product → 1 ≤ product_of sizes
product_some sizes product p = omega (arith, number_below sizes product p)

module _ (sizes product : List ℕ) (k number : ℕ) (p : IsProduct sizes product) (lt : k < length sizes) (h : Counted sizes product k number) where
  counted_sizes : drop k sizes ≡ get_or sizes k 0 ∷ drop (k + 1) sizes
  counted_sizes = drop_more sizes k 0 lt

  counted_bins : drop k product ≡ get_or product k 0 ∷ drop (k + 1) product
  counted_bins = drop_more product k 0 (has_bin sizes product k p lt)

  here : (get_or product k 0 < get_or sizes k 0) × IsProduct (drop (k + 1) sizes) (drop (k + 1) product)
  here = subst (λ (bins : List ℕ). IsProduct (get_or sizes k 0 ∷ drop (k + 1) sizes) bins) counted_bins (subst (λ (ss : List ℕ). IsProduct ss (drop k product)) counted_sizes h.left)

  fits_here : (number + 1) * (get_or sizes k 0 * product_of (drop (k + 1) sizes)) ≤ product_of sizes
  fits_here = subst (λ (ss : List ℕ). (number + 1) * product_of ss ≤ product_of sizes) counted_sizes h.fits

  pub number_small : number * get_or sizes k 0 + get_or product k 0 < product_of sizes
  number_small = let s = small number (get_or sizes k 0) (product_of (drop (k + 1) sizes)) (product_of sizes) (product_some (drop (k + 1) sizes) (drop (k + 1) product) here.1) fits_here in omega (arith, s, here.0)

  pub counted_more : Counted sizes product (k + 1) (number * get_or sizes k 0 + get_or product k 0)
  counted_more = record {
    fits = fit_step number (get_or sizes k 0) (get_or product k 0) (product_of (drop (k + 1) sizes)) (product_of sizes) here.0 fits_here;
    left = here.1;
    is = sym (ap (λ (ss : List ℕ). number_of number ss (drop k product)) counted_sizes ∙ ap (λ (bins : List ℕ). number_of number (get_or sizes k 0 ∷ drop (k + 1) sizes) bins) counted_bins) ∙ h.is;
  }

-- the number of a number's product is the number
pub number_back : (sizes : List ℕ) (number : ℕ) → number < product_of sizes → (number_of 0 sizes (product_at sizes number) ≡ number) × IsProduct sizes (product_at sizes number)
number_back [] number lt = let zero_is : 0 ≡ number = omega (arith, lt) in (zero_is, tt)
number_back (size ∷ sizes) number lt =
    let weight = product_of sizes in
    let positive : 0 < weight = weight_some size weight number lt in
    let first = number / weight in
    let rest = number % weight in
    let split : first * weight + rest ≡ number = div-add-mod' number weight in
    let less : rest < weight = mod-lt number positive in
    let inner = number_back sizes rest less in
    let bin : first < size = (div-lt_iff_lt-mul positive).1 lt in
    let out : number_of (0 * size + first) sizes (product_at sizes rest) ≡ (0 * size + first) * weight + number_of 0 sizes (product_at sizes rest) = base_out (0 * size + first) sizes (product_at sizes rest) inner.1 in
    let plain : (0 * size + first) * weight ≡ first * weight = ap (λ (n : ℕ). n * weight) (omega arith) in
    (omega (arith, out, plain, inner.0, split), (bin, inner.1))
  where
    weight_some : (size weight number : ℕ) → number < size * weight → 0 < weight
    weight_some size zero number lt = absurd (no size number lt)
      where
        no : (size number : ℕ) → number < size * 0 → ⊥
        no size number lt = let e : size * 0 ≡ 0 = grind arith in omega (arith, e, lt)
    weight_some size (suc weight) number lt = omega arith

pub all_some : (sizes : List ℕ) → (product_of sizes ≡ 0 → ⊥) → All (λ size. 0 < size) sizes
all_some [] h = All-nil (λ (size : ℕ). 0 < size)
all_some (zero ∷ sizes) h = absurd (h (by (product_of sizes)))
  where
    by : (n : ℕ) → 0 * n ≡ 0
    by n = omega arith
all_some (suc size ∷ sizes) h = All-cons (λ (size : ℕ). 0 < size) (suc size) sizes (omega arith) (all_some sizes (λ e. h (none (suc size) (product_of sizes) e)))
  where
    none : (a b : ℕ) → b ≡ 0 → a * b ≡ 0
    none a b e = rw e (grind arith)
