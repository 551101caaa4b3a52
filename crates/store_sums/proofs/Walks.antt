-- Loops over lists, and up from a node.
use Rattle.std.proofs.Common.{◌≡◌, ℕ, zero, suc, ◌+◌, ◌<◌, ◌≤◌, Bool, true, false, cond, not, List, [], ◌∷◌, ◌++◌, length, map, take, drop, refl, sym, ap, subst, ◌∙◌, arith, Option, Some, None, is_some, if◌then◌else◌, inl, inr}
use Rattle.std.specs.Prelude.{filter, count_by, slice_get, slice_index, slice_index_or, option_map, option_to_list, ◌-◌}
use Rattle.std.proofs.lemmas.Bool.{cases_lt}
use Rattle.std.proofs.lemmas.List.{map-append, length-map}
use Rattle.std.proofs.lemmas.List.Elements.{filter-append}
use Rattle.std.proofs.lemmas.List.Sums.{sum_by-cons}
use Rattle.std.proofs.Math.ListN.{get_or-eq_default}
use Rattle.percent.specs.Millionths.{Sums, sums, mean}
use Rattle.ucis_model.specs.Above as above
use Rattle.ucis_model.proofs.Lineages.{excluded_from_above}
use Rattle.ucis_model.specs.declared.node.Node.{Node}
use Rattle.ucis_model.specs.Nodes.{root_node}
use Rattle.ucis_model.specs.Paths.{node_at, HasSmallerParents}
use Rattle.cov_history.specs.Nodes.{parents_of, children}
use Rattle.cov_history.specs.Coverage.{has_live, item_coverage, instance_coverage, plain_coverage, type_coverage, root_coverage}
use Rattle.cov_history.proofs.Bools.{by_bool}
use Rattle.store_sums.specs.Now.{excluded_by}
use Rattle.store_sums.proofs.Children.{not_none}
use Rattle.store_sums.proofs.Ranges.{at_any}

pub take_step : {A : Type 0} (xs : List A) (i : ℕ) (x : A) → i < length xs → x ≡ slice_index_or xs i x → take (i + 1) xs ≡ take i xs ++ x ∷ []
take_step [] i x below e = absurd (omega (arith, below))
take_step (y ∷ ys) zero x below e = ap (λ z. z ∷ []) (sym e)
take_step (y ∷ ys) (suc i) x below e =
    let n : suc i + 1 ≡ suc (i + 1) = omega arith in
    ap (λ m. take m (y ∷ ys)) n ∙ ap (λ zs. y ∷ zs) (take_step ys i x (omega (arith, below)) e)

pub drop_step : {A : Type 0} (xs : List A) (i : ℕ) (x : A) → i < length xs → x ≡ slice_index_or xs i x → drop i xs ≡ x ∷ drop (i + 1) xs
drop_step [] i x below e = absurd (omega (arith, below))
drop_step (y ∷ ys) zero x below e = ap (λ z. z ∷ ys) (sym e)
drop_step (y ∷ ys) (suc i) x below e =
    let n : suc (i + 1) ≡ suc i + 1 = omega arith in
    drop_step ys i x (omega (arith, below)) e ∙ ap (λ m. x ∷ drop m (y ∷ ys)) n

-- one more part of a mean
pub part_more : (f : ℕ → ℕ × ℕ) (p : ℕ → Bool) (xs : List ℕ) (i x : ℕ) (o : Option (ℕ × ℕ)) → i < length xs → x ≡ slice_index_or xs i x → o ≡ (if p x then Some (f x) else None)
    → map f (filter p (take i xs)) ++ option_to_list o ≡ map f (filter p (take (i + 1) xs))
part_more f p xs i x o below e s =
    let one : option_to_list o ≡ map f (filter p (x ∷ [])) = by_bool (p x) (λ k. let t : o ≡ Some (f x) = s ∙ rw k refl in rw (k, t) refl) (λ k. let t : o ≡ None = s ∙ rw k refl in rw (k, t) refl) in
    ap (λ ys. map f (filter p (take i xs)) ++ ys) one
    ∙ sym (ap (λ ys. map f (filter p ys)) (take_step xs i x below e) ∙ ap (map f) (filter-append p (take i xs) (x ∷ [])) ∙ map-append f (filter p (take i xs)) (filter p (x ∷ [])))

pub mean_more : (f : ℕ → ℕ × ℕ) (p : ℕ → Bool) (xs : List ℕ) (i x : ℕ) (o : Option (ℕ × ℕ)) (old new : Sums) → i < length xs → x ≡ slice_index_or xs i x → o ≡ (if p x then Some (f x) else None)
    → ((parts : List (ℕ × ℕ)) → old ≡ sums parts → new ≡ sums (parts ++ option_to_list o)) → old ≡ sums (map f (filter p (take i xs))) → new ≡ sums (map f (filter p (take (i + 1) xs)))
mean_more f p xs i x o old new below e s added h = added (map f (filter p (take i xs))) h ∙ ap sums (part_more f p xs i x o below e s)

-- one more that may count
pub length_more : (live : ℕ → Bool) (xs : List ℕ) (i x : ℕ) → i < length xs → x ≡ slice_index_or xs i x → length (filter live (drop i xs)) ≡ cond (live x) 1 0 + length (filter live (drop (i + 1) xs))
length_more live xs i x below e = ap (λ ys. length (filter live ys)) (drop_step xs i x below e) ∙ by_bool (live x) (λ k. rw k (omega arith)) (λ k. rw k (omega arith))

pub count_more : (live covered : ℕ → Bool) (xs : List ℕ) (i x : ℕ) → i < length xs → x ≡ slice_index_or xs i x → count_by covered (filter live (drop i xs)) ≡ cond (live x) (cond (covered x) 1 0) 0 + count_by covered (filter live (drop (i + 1) xs))
count_more live covered xs i x below e =
    let rest = drop (i + 1) xs in
    ap (λ ys. count_by covered (filter live ys)) (drop_step xs i x below e)
    ∙ by_bool (live x)
    (λ k. let e : filter live (x ∷ rest) ≡ x ∷ filter live rest = rw k refl in let z : ◌≡◌ {A = ℕ} (cond (live x) (cond (covered x) 1 0) 0) (cond (covered x) 1 0) = rw k refl in ap (count_by covered) e ∙ sum_by-cons (λ (x : ℕ). cond (covered x) 1 0) x (filter live rest) ∙ sym (ap (λ n. n + count_by covered (filter live rest)) z))
    (λ k. let e : filter live (x ∷ rest) ≡ filter live rest = rw k refl in let z : ◌≡◌ {A = ℕ} (cond (live x) (cond (covered x) 1 0) 0) 0 = rw k refl in ap (count_by covered) e ∙ sym (ap (λ n. n + count_by covered (filter live rest)) z ∙ omega arith))

-- one more row
pub row_more : {B : Type 0} (f : ℕ → B) (xs : List ℕ) (i x : ℕ) (rows more : List B) (row : B) → i < length xs → x ≡ slice_index_or xs i x → rows ≡ map f (take i xs) → more ≡ rows ++ row ∷ [] → row ≡ f x → more ≡ map f (take (i + 1) xs)
row_more {B = B} f xs i x rows more row below e r m s =
    m ∙ (λ j. r j ++ s j ∷ []) ∙ sym (ap (map f) (take_step xs i x below e) ∙ map-append f (take i xs) (x ∷ []))

-- one more that may pass
pub kept_more : (p : ℕ → Bool) (xs : List ℕ) (i x : ℕ) (done more : List ℕ) → i < length xs → x ≡ slice_index_or xs i x → done ≡ filter p (take i xs) → more ≡ done ++ (if p x then x ∷ [] else []) → more ≡ filter p (take (i + 1) xs)
kept_more p xs i x done more below e d m =
    let one : (if p x then x ∷ [] else []) ≡ filter p (x ∷ []) = by_bool (p x) (λ k. rw k refl) (λ k. rw k refl) in
    m ∙ (λ j. d j ++ one j) ∙ sym (ap (filter p) (take_step xs i x below e) ∙ filter-append p (take i xs) (x ∷ []))

-- ---- up from a node

pub parent_less : (nodes : List Node) → HasSmallerParents nodes → (n : ℕ) → 0 < n → (node_at nodes n).parent < n
parent_less nodes small n some = elim (cases_lt n (length nodes)) [
  | inl below ↦ small n some below
  | inr past ↦ let e : (node_at nodes n).parent ≡ 0 = ap (λ (x : Node). x.parent) (get_or-eq_default nodes (root_node 0) past) in omega (arith, e, some)
]

parent_at : (nodes : List Node) (n : ℕ) → slice_index (parents_of nodes) n ≡ (node_at nodes n).parent
parent_at [] n = refl
parent_at (x ∷ xs) zero = refl
parent_at (x ∷ xs) (suc n) = parent_at xs n

small_parents : (nodes : List Node) → HasSmallerParents nodes → above.AreSmallerParents (parents_of nodes)
small_parents nodes small n some below =
    let l = length-map nodes (λ (m : Node). m.parent) in
    let s = small n some (omega (arith, below, l)) in
    omega (arith, s, parent_at nodes n)

-- where a node isn't out, it is excluded where the one above it is
pub goes_up : (nodes : List Node) (out : List (Option (List ℕ))) (n : ℕ) → HasSmallerParents nodes → is_some (slice_index_or out n None) ≡ false → 0 < n → excluded_by nodes out n ≡ excluded_by nodes out (node_at nodes n).parent
unfolding excluded_by
goes_up nodes out zero small isnt some = absurd (omega (arith, some))
goes_up nodes out (suc k) small isnt some =
    let n = suc k in
    let up = (node_at nodes n).parent in
    let l = length-map nodes (λ (m : Node). m.parent) in
    elim (cases_lt n (length nodes)) [
      | inl below ↦
          excluded_from_above (parents_of nodes) (λ m. is_some (slice_index_or out m None)) n (small_parents nodes small) (omega (arith, below, l))
          ∙ rw (isnt, not_none k) (ap (above.is_excluded (parents_of nodes) (λ m. is_some (slice_index_or out m None))) (parent_at nodes n))
      | inr past ↦
          let e : slice_index (parents_of nodes) n ≡ 0 = get_or-eq_default (parents_of nodes) 0 (omega (arith, past, l)) in
          let f : up ≡ 0 = sym (parent_at nodes n) ∙ e in
          rw (isnt, not_none k, e, f) refl
    ]

pub first_up : (nodes : List Node) (out : List (Option (List ℕ))) → is_some (slice_index_or out 0 None) ≡ false → excluded_by nodes out 0 ≡ false
unfolding excluded_by
first_up nodes out isnt = rw isnt refl

pub is_up : (nodes : List Node) (out : List (Option (List ℕ))) (n : ℕ) → is_some (slice_index_or out n None) ≡ true → excluded_by nodes out n ≡ true
unfolding excluded_by
is_up nodes out n is = rw is refl

-- ---- whole lists

pub take_all : {A : Type 0} (xs : List A) (k : ℕ) → length xs ≤ k → take k xs ≡ xs
take_all [] zero below = refl
take_all [] (suc k) below = refl
take_all (x ∷ xs) zero below = absurd (omega (arith, below))
take_all (x ∷ xs) (suc k) below = ap (λ ys. x ∷ ys) (take_all xs k (omega (arith, below)))

pub instance_is : (nodes : List Node) (count : ℕ → ℕ) (excluded : ℕ → Bool) (n : ℕ) → mean (map (λ m. ((node_at nodes m).weight, item_coverage nodes count excluded m)) (filter (has_live nodes excluded) (children nodes n))) ≡ instance_coverage nodes count excluded n
unfolding instance_coverage
instance_is nodes count excluded n = refl

pub plain_is : (nodes : List Node) (count : ℕ → ℕ) (excluded : ℕ → Bool) (n : ℕ) → mean (map (λ m. ((node_at nodes m).weight, instance_coverage nodes count excluded m)) (filter (λ m. not (excluded m)) (children nodes n))) ≡ plain_coverage nodes count excluded n
unfolding plain_coverage
plain_is nodes count excluded n = refl

pub root_is : (nodes : List Node) (count : ℕ → ℕ) (excluded : ℕ → Bool) (n : ℕ) → mean (map (λ m. ((node_at nodes m).weight, type_coverage nodes count excluded m)) (filter (λ m. not (excluded m)) (children nodes n))) ≡ root_coverage nodes count excluded n
unfolding root_coverage
root_is nodes count excluded n = refl

pub few_kept : (p : ℕ → Bool) (xs : List ℕ) (k : ℕ) → length (filter p (take k xs)) ≤ length xs
few_kept p [] zero = omega arith
few_kept p [] (suc k) = omega arith
few_kept p (x ∷ xs) zero = omega arith
few_kept p (x ∷ xs) (suc k) = let rest = few_kept p xs k in by_bool (p x) (λ j. rw j (omega (arith, rest))) (λ j. rw j (omega (arith, rest)))

-- one more row of a page
pub page_row : {B : Type 0} (f : ℕ → B) (ys xs : List ℕ) (i d : ℕ) (rows more : List B) → ys ≡ xs → i < length ys → rows ≡ map f (take i xs) → more ≡ rows ++ f (slice_index_or ys i d) ∷ [] → more ≡ map f (take (i + 1) xs)
page_row f ys xs i d rows more same below r m =
    let inside : i < length xs = subst (λ (zs : List ℕ). i < length zs) same below in
    let x = slice_index_or xs i d in
    row_more f xs i x rows more (f x) inside (at_any xs i d x inside) r (m ∙ ap (λ (zs : List ℕ). rows ++ f (slice_index_or zs i d) ∷ []) same) refl

-- ---- lists by places

one_here : {A B : Type 0} (f : A → B) (ys : List A) (k : ℕ) → map f (take (k + 1) ys) ≡ map f (take k ys) ++ option_to_list (option_map f (slice_get ys k))
one_here f [] zero = refl
one_here f [] (suc k) = let e : suc k + 1 ≡ suc (k + 1) = omega arith in ap (λ j. map f (take j [])) e
one_here f (y ∷ ys) zero = refl
one_here f (y ∷ ys) (suc k) = let e : suc k + 1 ≡ suc (k + 1) = omega arith in ap (λ j. map f (take j (y ∷ ys))) e ∙ ap (λ zs. f y ∷ zs) (one_here f ys k)

slice_drop : {A : Type 0} (ys : List A) (from k : ℕ) → slice_get (drop from ys) k ≡ slice_get ys (from + k)
slice_drop ys zero k = let e : k ≡ 0 + k = omega arith in ap (slice_get ys) e
slice_drop [] (suc from) k = refl
slice_drop (y ∷ ys) (suc from) k = let e : suc from + k ≡ suc (from + k) = omega arith in slice_drop ys from k ∙ ap (slice_get (y ∷ ys)) (sym e)

-- an element more, where there is one
pub taken_more : {A B : Type 0} (f : A → B) (xs : List A) (from place : ℕ) (done more : List B) → from ≤ place → done ≡ map f (take (place - from) (drop from xs)) → more ≡ done ++ option_to_list (option_map f (slice_get xs place)) → more ≡ map f (take ((place + 1) - from) (drop from xs))
taken_more f xs from place done more low d m =
    let n : (place + 1) - from ≡ (place - from) + 1 = omega (arith, low) in
    let there : from + (place - from) ≡ place = omega (arith, low) in
    m ∙ ap (λ ys. ys ++ option_to_list (option_map f (slice_get xs place))) d
    ∙ sym (ap (λ k. map f (take k (drop from xs))) n ∙ one_here f (drop from xs) (place - from)
    ∙ ap (λ (o : Option _). map f (take (place - from) (drop from xs)) ++ option_to_list (option_map f o)) (slice_drop xs from (place - from) ∙ ap (slice_get xs) there))

-- one more that may pass, mapped
pub mapped_more : {B : Type 0} (f : ℕ → B) (p : ℕ → Bool) (ys xs : List ℕ) (i d : ℕ) (done more : List B) → ys ≡ xs → i < length ys → done ≡ map f (filter p (take i xs)) → more ≡ done ++ (if p (slice_index_or ys i d) then f (slice_index_or ys i d) ∷ [] else []) → more ≡ map f (filter p (take (i + 1) xs))
mapped_more f p ys xs i d done more same below e m =
    let inside : i < length xs = subst (λ (zs : List ℕ). i < length zs) same below in
    let x = slice_index_or xs i d in
    let one : (if p x then f x ∷ [] else []) ≡ map f (filter p (x ∷ [])) = by_bool (p x) (λ k. rw k refl) (λ k. rw k refl) in
    m ∙ ap (λ (zs : List ℕ). done ++ (if p (slice_index_or zs i d) then f (slice_index_or zs i d) ∷ [] else [])) same ∙ (λ j. e j ++ one j)
    ∙ sym (ap (λ ys. map f (filter p ys)) (take_step xs i x inside (at_any xs i d x inside)) ∙ ap (map f) (filter-append p (take i xs) (x ∷ [])) ∙ map-append f (filter p (take i xs)) (filter p (x ∷ [])))
