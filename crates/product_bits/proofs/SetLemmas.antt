-- Sets of products as bits.
use Rattle.std.proofs.Common.{◌≡◌, ℕ, zero, suc, ◌+◌, ◌-◌, ◌*◌, ◌<◌, ◌≤◌, ◌&&◌, ◌||◌, ◌⊎◌, List, [], ◌∷◌, ◌++◌, length, length-append, get_or, drop, map, filter, refl, sym, subst, ap, ◌∙◌, arith, inl, inr, true, false, Bool, ltb, cond, Some, None}
use Rattle.std.specs.Prelude.{not, replicate}
use Rattle.std.specs.List.{list_any, range_with_len}
use Rattle.std.proofs.lemmas.Bool.{cases_eq, lt-ltb, le-ltb, le-leb, lt-leb}
use Rattle.std.proofs.lemmas.List.{append-nil}
use Rattle.cross_select.specs.Products.{product_of}
use Rattle.design_data.specs.Crosses.{products}
use Rattle.product_bits.specs.Numbers.{product_at, at_most}
use Rattle.cross_select.specs.declared.select.Select.{Select}
use Rattle.cross_select.specs.declared.select.Select.TheOpen as select
use Rattle.cross_select.specs.declared.select.Select.TheOpen.{Select-F}
use Rattle.cross_select.specs.declared.select.Select.TheViews.{out-Select}
use Rattle.cross_select.specs.declared.select.Select.TheFolds.{fold_out-Select, map-Select}
use Rattle.cross_select.specs.Selections.{is_chosen_at, is_selected, selected_node}
use Rattle.product_bits.specs.Marks.{is_marked, word_count, Marks, in_run}
use Rattle.product_bits.proofs.WordLemmas.{no_marks, both_same, either_same}
use Rattle.product_bits.proofs.NumberLemmas.{products_numbered, chosen_nowhere, chosen_in_run}

-- there is a bit for each product
pub room : (count : ℕ) → count ≤ 64 * word_count count
room count = omega arith

length-copies : (n : ℕ) → length {A = ℕ} (replicate n 0) ≡ n
length-copies zero = refl
length-copies (suc n) = ap suc (length-copies n)

pub none_marked : (count : ℕ) (words sizes : List ℕ) → words ≡ replicate (word_count count) 0 → product_of sizes ≡ count → Marks sizes (λ product. false) words
none_marked count words sizes is e = record {
  len = ap length is ∙ (length-copies (word_count count) ∙ ap word_count (sym e));
  each = λ n lt. ap (λ (ws : List ℕ). is_marked ws n) is ∙ no_marks (word_count count) n;
}

pub marks_as : (sizes words : List ℕ) (one two : List ℕ → Bool) → ((n : ℕ) → one (product_at sizes n) ≡ two (product_at sizes n)) → Marks sizes one words → Marks sizes two words
marks_as sizes words one two same marks = record { len = marks.len; each = λ n lt. marks.each n lt ∙ same n }

pub united : (sizes old others new : List ℕ) (one two : List ℕ → Bool) → length new ≡ length old → length others ≡ length old → ((n : ℕ) → is_marked new n ≡ (is_marked old n || is_marked others n))
    → Marks sizes one old → Marks sizes two others → Marks sizes (λ product. one product || two product) new
united sizes old others new one two len same is first second = record {
  len = len ∙ first.len;
  each = λ n lt. is n ∙ either_same (first.each n (omega (arith, len))) (second.each n (omega (arith, len, same)));
}

pub met : (sizes old others new : List ℕ) (one two : List ℕ → Bool) → length new ≡ length old → length others ≡ length old → ((n : ℕ) → is_marked new n ≡ (is_marked old n && is_marked others n))
    → Marks sizes one old → Marks sizes two others → Marks sizes (λ product. one product && two product) new
met sizes old others new one two len same is first second = record {
  len = len ∙ first.len;
  each = λ n lt. is n ∙ both_same (first.each n (omega (arith, len))) (second.each n (omega (arith, len, same)));
}

pub flipped : (sizes old new : List ℕ) (meant : List ℕ → Bool) → length new ≡ length old → ((n : ℕ) → n < 64 * length old → is_marked new n ≡ not (is_marked old n)) → Marks sizes meant old → Marks sizes (λ product. not (meant product)) new
flipped sizes old new meant len is marks = record {
  len = len ∙ marks.len;
  each = λ n lt. is n (omega (arith, len)) ∙ ap not (marks.each n (omega (arith, len)));
}

-- ---- an axis

pub nothing_chosen : (sizes words : List ℕ) (axis count : ℕ) (chosen : List Bool) → count ≡ product_of sizes → ((count ≡ 0) ⊎ ((count ≡ 0 → ⊥) × (length sizes ≤ axis))) → Marks sizes (λ product. false) words → Marks sizes (is_chosen_at axis chosen) words
nothing_chosen sizes words axis count chosen e why marks = record {
  len = marks.len;
  each = λ n lt. marks.each n lt ∙ elim why [
    | inl none ↦ absurd (let z : word_count (product_of sizes) ≡ 0 = ap word_count (sym e ∙ none) in omega (arith, lt, marks.len, z))
    | inr past ↦ chosen_nowhere sizes axis n chosen past.1
  ];
}

pub axis_marked : (sizes words : List ℕ) (axis count stride : ℕ) (chosen : List Bool) → count ≡ product_of sizes → axis < length sizes → stride ≡ product_of (drop (axis + 1) sizes) → length words ≡ word_count count
    → ((n : ℕ) → n < 64 * word_count count → is_marked words n ≡ in_run stride (get_or sizes axis 0) chosen n) → Marks sizes (is_chosen_at axis chosen) words
axis_marked sizes words axis count stride chosen e lt is len each = record {
  len = len ∙ ap word_count e;
  each = λ n less. each n (omega (arith, less, len)) ∙ (ap (λ (k : ℕ). in_run k (get_or sizes axis 0) chosen n) is ∙ chosen_in_run sizes axis n 0 chosen lt);
}

-- ---- the first that is marked

any_from : {X : Type 0} (p : X → Bool) (g : ℕ → X) (a k f : ℕ) → a ≤ f → f ≤ a + k → ((n : ℕ) → a ≤ n → n < f → p (g n) ≡ false) → (f < a + k → p (g f) ≡ true)
    → ltb f (a + k) ≡ list_any p (map g (range_with_len a k))
any_from p g a zero f low high none at = le-ltb f (a + 0) (omega arith)
any_from p g a (suc k) f low high none at = elim (cases_eq a f) [
  | inl e ↦ lt-ltb f (a + suc k) (omega arith) ∙ sym (ap (λ (b : Bool). b || list_any p (map g (range_with_len (a + 1) k))) (ap (λ (n : ℕ). p (g n)) e ∙ at (omega arith)))
  | inr ne ↦
      let next : a + suc k ≡ a + 1 + k = omega arith in
      ap (ltb f) next ∙ (any_from p g (a + 1) k f (omega arith) (omega arith) (λ n le lt. none n (omega arith) lt) (λ lt. at (omega arith))
      ∙ sym (ap (λ (b : Bool). b || list_any p (map g (range_with_len (a + 1) k))) (none a (omega arith) (omega arith))))
]

pub shares_product : (sizes words others : List ℕ) (count first : ℕ) (one two : List ℕ → Bool) → product_of sizes ≡ count → Marks sizes one words → Marks sizes two others → first ≤ count
    → ((n : ℕ) → 0 ≤ n → n < first → (is_marked words n && is_marked others n) ≡ false) → (first < count → (is_marked words first && is_marked others first) ≡ true)
    → ltb first count ≡ list_any (λ product. one product && two product) (products sizes)
shares_product sizes words others count first one two e marks more high none at =
    let both : List ℕ → Bool = λ product. one product && two product in
    let r = room count in
    let wide : count ≤ 64 * length words = omega (arith, r, marks.len ∙ ap word_count e) in
    let other_wide : count ≤ 64 * length others = omega (arith, r, more.len ∙ ap word_count e) in
    let from : 0 + count ≡ count = omega arith in
    let same : (n : ℕ) → n < count → both (product_at sizes n) ≡ (is_marked words n && is_marked others n) = λ n lt i. sym (marks.each n (omega arith)) i && sym (more.each n (omega arith)) i in
    sym (ap (ltb first) from) ∙ (any_from both (product_at sizes) 0 count first (omega arith) (omega arith) (λ n le lt. same n (omega arith) ∙ none n le lt) (λ lt. same first (omega arith) ∙ at (omega arith))
    ∙ ap (list_any both) (ap (λ (k : ℕ). map (product_at sizes) (range_with_len 0 k)) (sym e) ∙ sym (products_numbered sizes)))

-- ---- the products of a set

abbrev pub left_from : (sizes : List ℕ) → (List ℕ → Bool) → (count at : ℕ) → List (List ℕ)
left_from sizes meant count at = filter meant (map (product_at sizes) (range_with_len at (count - at)))

skipped : (sizes : List ℕ) (meant : List ℕ → Bool) (count at k : ℕ) → at + k ≤ count → ((n : ℕ) → at ≤ n → n < at + k → meant (product_at sizes n) ≡ false) → left_from sizes meant count at ≡ left_from sizes meant count (at + k)
skipped sizes meant count at zero le none = ap (left_from sizes meant count) (omega arith)
skipped sizes meant count at (suc k) le none =
    let some : count - at ≡ suc (count - (at + 1)) = omega arith in
    let first : left_from sizes meant count at ≡ left_from sizes meant count (at + 1) =
    ap (λ (n : ℕ). filter meant (map (product_at sizes) (range_with_len at n))) some
    ∙ ap (λ (b : Bool). cond b (product_at sizes at ∷ left_from sizes meant count (at + 1)) (left_from sizes meant count (at + 1))) (none at (omega arith) (omega arith)) in
    first ∙ (skipped sizes meant count (at + 1) k (omega arith) (λ n low high. none n (omega arith) (omega arith)) ∙ ap (left_from sizes meant count) (omega arith))

pub skip_to : (sizes words : List ℕ) (meant : List ℕ → Bool) (count at next : ℕ) → count ≤ 64 * length words → Marks sizes meant words → at ≤ next → next ≤ count → ((n : ℕ) → at ≤ n → n < next → is_marked words n ≡ false)
    → left_from sizes meant count at ≡ left_from sizes meant count next
skip_to sizes words meant count at next wide marks low high none =
    let is : at + (next - at) ≡ next = omega arith in
    skipped sizes meant count at (next - at) (omega arith) (λ n from to. sym (marks.each n (omega arith)) ∙ none n from (omega arith)) ∙ ap (left_from sizes meant count) is

pub take_one : (sizes words : List ℕ) (meant : List ℕ → Bool) (count at : ℕ) → count ≤ 64 * length words → Marks sizes meant words → at < count → is_marked words at ≡ true
    → left_from sizes meant count at ≡ product_at sizes at ∷ left_from sizes meant count (at + 1)
take_one sizes words meant count at wide marks lt is =
    let some : count - at ≡ suc (count - (at + 1)) = omega arith in
    ap (λ (n : ℕ). filter meant (map (product_at sizes) (range_with_len at n))) some
    ∙ ap (λ (b : Bool). cond b (product_at sizes at ∷ left_from sizes meant count (at + 1)) (left_from sizes meant count (at + 1))) (sym (marks.each at (omega arith)) ∙ is)

pub all_from : (sizes : List ℕ) (meant : List ℕ → Bool) (count : ℕ) → count ≡ product_of sizes → left_from sizes meant count 0 ≡ filter meant (products sizes)
all_from sizes meant count e = ap (filter meant) (ap (λ (k : ℕ). map (product_at sizes) (range_with_len 0 k)) (let z : count - 0 ≡ count = omega arith in z ∙ e) ∙ sym (products_numbered sizes))

-- nothing is left
pub none_from : (sizes : List ℕ) (meant : List ℕ → Bool) (count at : ℕ) → count ≤ at → left_from sizes meant count at ≡ []
none_from sizes meant count at le = let z : count - at ≡ 0 = omega arith in ap (λ (n : ℕ). filter meant (map (product_at sizes) (range_with_len at n))) z

pub found_all : (most : ℕ) (found all : List (List ℕ)) → length found ≤ most → found ++ [] ≡ all → Some found ≡ at_most most all
found_all most found all few is =
    let e : found ≡ all = sym (append-nil found) ∙ is in
    subst (λ (xs : List (List ℕ)). Some found ≡ at_most most xs) e (sym (ap (λ (b : Bool). cond b (Some found) None) (le-leb (length found) most few)))

pub too_many : (most : ℕ) (found rest all : List (List ℕ)) (product : List ℕ) → most ≤ length found → found ++ (product ∷ rest) ≡ all → None ≡ at_most most all
too_many most found rest all product le is =
    let long : most < length all = let n = length-append found (product ∷ rest) in omega (arith, n, ap length is) in
    sym (ap (λ (b : Bool). cond b (Some all) None) (lt-leb (length all) most long))

-- ---- selections by their outermost node

node_is : (s : Select) (x : Select-F Select) (product : List ℕ) → out-Select s ≡ x → is_selected s product ≡ selected_node product (map-Select Select Bool (λ t. is_selected t product) x)
node_is s x product out = fold_out-Select Bool (selected_node product) s ∙ ap (λ (y : Select-F Select). selected_node product (map-Select Select Bool (λ t. is_selected t product) y)) out

pub not_selected : (s inner : Select) (product : List ℕ) → out-Select s ≡ select.Not inner → not (is_selected inner product) ≡ is_selected s product
not_selected s inner product out = sym (node_is s (select.Not inner) product out)

pub both_selected : (s left right : Select) (product : List ℕ) → out-Select s ≡ select.And left right → (is_selected left product && is_selected right product) ≡ is_selected s product
both_selected s left right product out = sym (node_is s (select.And left right) product out)

pub either_selected : (s left right : Select) (product : List ℕ) → out-Select s ≡ select.Or left right → (is_selected left product || is_selected right product) ≡ is_selected s product
either_selected s left right product out = sym (node_is s (select.Or left right) product out)
