-- Items and bins of one name as one: what the code makes of the groups is what the definition says.
use Rattle.std.proofs.Common.{◌≡◌, ℕ, ◌+◌, ◌<◌, ◌≤◌, Bool, cond, List, [], ◌∷◌, ◌++◌, length, map, take, refl, sym, ap, ◌∙◌}
use Rattle.std.specs.Prelude.{slice_index_or, count_by}
use Rattle.std.specs.declared.vec.Vec.{Vec}
use Rattle.std.specs.declared.alloc.Global.{Global}
use Rattle.std.proofs.lemmas.List.{map-append, length-map}
use Rattle.std.proofs.lemmas.List.Sums.{sum_by-cons}
use Rattle.percent.specs.Millionths.{Sums, sums, mean, full}
use Rattle.ucis_model.specs.declared.node.Node.{Node}
use Rattle.cov_history.specs.Coverage.{once, named, live_under, item_name, bin_name, type_weight, merged_item, merged_coverage, is_covered_as_one}
use Rattle.store_sums.specs.Groups.{Group, groups_of, merged_parts}
use Rattle.store_sums.proofs.Walks.{take_step, take_all}
use Rattle.store_sums.proofs.Grouping.{groups_are}

abbrev pub lists_in : List (Vec ℕ Global) → List (List ℕ)
lists_in lists = map (λ (l : Vec ℕ Global). l.items) lists

map_map : {A B C : Type 0} (f : A → B) (g : B → C) (xs : List A) → map g (map f xs) ≡ map (λ x. g (f x)) xs
map_map f g [] = refl
map_map f g (x ∷ xs) = ap (λ ys. g (f x) ∷ ys) (map_map f g xs)

count_map : {A B : Type 0} (f : A → B) (p : B → Bool) (xs : List A) → count_by p (map f xs) ≡ count_by (λ x. p (f x)) xs
count_map f p [] = refl
count_map f p (x ∷ xs) =
    sum_by-cons (λ y. cond (p y) 1 0) (f x) (map f xs) ∙ ap (λ (n : ℕ). cond (p (f x)) 1 0 + n) (count_map f p xs) ∙ sym (sum_by-cons (λ y. cond (p (f y)) 1 0) x xs)

-- the bins of each group
lists_are : (f : ℕ → List ℕ) (bins : List ℕ) → map (λ (g : Group). g.1) (groups_of f bins) ≡ map (λ name. named f name bins) (once (map f bins))
lists_are f bins = ap (map (λ (g : Group). g.1)) (groups_are f bins) ∙ map_map {B = Group} (λ (name : List ℕ). (name, named f name bins)) (λ (g : Group). g.1) (once (map f bins))

pub item_is : (nodes : List Node) (count : ℕ → ℕ) (bins : List ℕ) (lists : List (List ℕ)) → lists ≡ map (λ (g : Group). g.1) (groups_of (bin_name nodes) bins) → full (count_by (is_covered_as_one nodes count) lists) (length lists) ≡ merged_item nodes count bins
item_is nodes count bins lists e =
    let names = once (map (bin_name nodes) bins) in
    let own : List ℕ → List ℕ = λ name. named (bin_name nodes) name bins in
    ap (λ (ls : List (List ℕ)). full (count_by (is_covered_as_one nodes count) ls) (length ls)) (e ∙ lists_are (bin_name nodes) bins)
    ∙ (λ i. full (count_map own (is_covered_as_one nodes count) names i) (length-map names own i))

pub merged_is : (nodes : List Node) (count : ℕ → ℕ) (excluded : ℕ → Bool) (n : ℕ) (bins : List ℕ) (lists : List (List ℕ)) → bins ≡ live_under nodes excluded n → lists ≡ map (λ (g : Group). g.1) (groups_of (item_name nodes) bins)
    → mean (merged_parts nodes count lists) ≡ merged_coverage nodes count excluded n
unfolding merged_coverage
merged_is nodes count excluded n bins lists b e =
    let own : List ℕ → List ℕ = λ name. named (item_name nodes) name bins in
    ap (λ (ls : List (List ℕ)). mean (merged_parts nodes count ls)) (e ∙ lists_are (item_name nodes) bins)
    ∙ ap mean (map_map {C = ℕ × ℕ} own (λ bins. (type_weight nodes bins, merged_item nodes count bins)) (once (map (item_name nodes) bins)))
    ∙ ap (λ (xs : List ℕ). mean (map {B = ℕ × ℕ} (λ name. (type_weight nodes (named (item_name nodes) name xs), merged_item nodes count (named (item_name nodes) name xs))) (once (map (item_name nodes) xs)))) b

-- one part more
pub merged_more : (nodes : List Node) (count : ℕ → ℕ) (lists : List (Vec ℕ Global)) (i weight part : ℕ) (list : Vec ℕ Global) (old new : Sums) → i < length lists → list ≡ slice_index_or lists i list → weight ≡ type_weight nodes list.items → part ≡ merged_item nodes count list.items
    → old ≡ sums (merged_parts nodes count (lists_in (take i lists))) → ((parts : List (ℕ × ℕ)) → old ≡ sums parts → new ≡ sums (parts ++ (weight, part) ∷ [])) → new ≡ sums (merged_parts nodes count (lists_in (take (i + 1) lists)))
merged_more nodes count lists i weight part list old new below at w p h added =
    let f : List ℕ → ℕ × ℕ = λ bins. (type_weight nodes bins, merged_item nodes count bins) in
    let one : (weight, part) ≡ f list.items = λ j. (w j, p j) in
    added (merged_parts nodes count (lists_in (take i lists))) h
    ∙ ap sums (ap (λ (x : ℕ × ℕ). merged_parts nodes count (lists_in (take i lists)) ++ x ∷ []) one
    ∙ sym (ap (λ (ls : List (Vec ℕ Global)). map f (lists_in ls)) (take_step lists i list below at) ∙ ap (map f) (map-append (λ (l : Vec ℕ Global). l.items) (take i lists) (list ∷ [])) ∙ map-append f (lists_in (take i lists)) (list.items ∷ [])))

pub counted_lists : (p : List ℕ → Bool) (lists : List (Vec ℕ Global)) (i r : ℕ) → length lists ≤ i → r ≡ count_by (λ (l : Vec ℕ Global). p l.items) (take i lists) → r ≡ count_by p (lists_in lists)
counted_lists p lists i r end e = e ∙ ap (count_by (λ (l : Vec ℕ Global). p l.items)) (take_all lists i end) ∙ sym (count_map (λ (l : Vec ℕ Global). l.items) p lists)
