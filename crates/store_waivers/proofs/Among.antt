-- What is found among the paths of all nodes is what is said of the nodes.
use Rattle.std.proofs.Common.{◌≡◌, ◌∙◌, ℕ, ◌+◌, ◌<◌, ◌≤◌, List, [], ◌∷◌, ◌++◌, length, map, Bool, true, false, refl, sym, ap, subst, arith}
use Rattle.std.specs.Prelude.{All, if◌then◌else◌}
use Rattle.std.specs.List.{flat_map, range_with_len}
use Rattle.std.proofs.lemmas.List.FromFn.{get_or-map-range_with_len, length-map-range_with_len, map-range_with_len_more}
use Rattle.std.proofs.lemmas.List.Elements.{All-nil, All-cons, All-head, All-tail}
use Rattle.ucis_model.specs.declared.node.Node.{Node}
use Rattle.ucis_model.specs.Paths.{path_of}
use Rattle.waivers.specs.declared.waiver.Waiver.{Waiver}
use Rattle.waivers.specs.Patterns.{is_match}
use Rattle.waivers.specs.Waived.{paths_in, places_where, waived_among}
use Rattle.waivers.specs.Texts.{waiver_line}
use Rattle.waivers.proofs.Places.{among_all}
use Rattle.store_waivers.specs.Waived.{paths_waived}
use Rattle.store_waivers.specs.Lines.{line_of, waiver_lines}
use Rattle.store_waivers.specs.Among.{paths_at, paths_among, line_among}

-- ---- places are those of paths

either_inside : (b : Bool) (first most : ℕ) (rest : List ℕ) → first < most → All (λ place. place < most) rest → All (λ place. place < most) (if b then first ∷ rest else rest)
either_inside true first most rest lt all = All-cons (λ place. place < most) first rest lt all
either_inside false first most rest lt all = all

places_from : (test : List ℕ → Bool) (first most : ℕ) (paths : List (List ℕ)) → first + length paths ≤ most → All (λ place. place < most) (places_where test first paths)
unfolding places_where
places_from test first most [] le = All-nil (λ place. place < most)
places_from test first most (path ∷ paths) le =
    either_inside (test path) first most (places_where test (first + 1) paths) (omega (arith, le)) (places_from test (first + 1) most paths (omega (arith, le)))

pub places_inside : (pattern : List ℕ) (paths : List (List ℕ)) (places : List ℕ) → places ≡ waived_among pattern paths → All (λ place. place < length paths) places
places_inside pattern paths places e =
    subst (λ (ns : List ℕ). All (λ place. place < length paths) ns) (sym e) (places_from (is_match pattern) 0 (length paths) paths (omega arith))

-- ---- the paths of nodes

at_nodes : (nodes : List Node) (places : List ℕ) → All (λ place. place < length nodes) places → paths_at (paths_in nodes) places ≡ map (path_of nodes) places
at_nodes nodes [] inside = refl
at_nodes nodes (place ∷ places) inside =
    let lt : place < length nodes = All-head (λ k. k < length nodes) place places inside in
    let same : 0 + place ≡ place = omega arith in
    let one = get_or-map-range_with_len (path_of nodes) 0 (length nodes) place place [] lt same in
    let rest = at_nodes nodes places (All-tail (λ k. k < length nodes) place places inside) in
    λ i. one i ∷ rest i

pub paths_are : (nodes : List Node) (waiver : Waiver) → paths_among (paths_in nodes) waiver ≡ paths_waived nodes waiver
paths_are nodes waiver =
    let found = waived_among waiver.pattern (paths_in nodes) in
    let long : length (paths_in nodes) ≡ length nodes = length-map-range_with_len (path_of nodes) 0 (length nodes) in
    let inside : All (λ place. place < length nodes) found =
    subst (λ (n : ℕ). All (λ place. place < n) found) long (places_inside waiver.pattern (paths_in nodes) found refl) in
    at_nodes nodes found inside ∙ ap (map (path_of nodes)) (among_all waiver.pattern nodes)

-- ---- each waiver

pub each_path : (nodes : List Node) (paths : List (List ℕ)) (waivers : List Waiver) → paths ≡ paths_in nodes → flat_map (paths_among paths) waivers ≡ flat_map (paths_waived nodes) waivers
each_path nodes paths [] e = refl
each_path nodes paths (waiver ∷ waivers) e =
    let one = ap (λ (ps : List (List ℕ)). paths_among ps waiver) e ∙ paths_are nodes waiver in
    let rest = each_path nodes paths waivers e in
    λ i. one i ++ rest i

line_is : (nodes : List Node) (waiver : Waiver) → line_among (paths_in nodes) waiver ≡ line_of nodes waiver
line_is nodes waiver = ap (λ (ns : List ℕ). waiver_line (length ns) waiver) (among_all waiver.pattern nodes)

pub each_line : (nodes : List Node) (paths : List (List ℕ)) (waivers : List Waiver) → paths ≡ paths_in nodes → flat_map (line_among paths) waivers ≡ waiver_lines nodes waivers
each_line nodes paths [] e = refl
each_line nodes paths (waiver ∷ waivers) e =
    let one = ap (λ (ps : List (List ℕ)). line_among ps waiver) e ∙ line_is nodes waiver in
    let rest = each_line nodes paths waivers e in
    λ i. one i ++ rest i

-- ---- one path more

pub path_more : (f : ℕ → List ℕ) (n : ℕ) (old new : List (List ℕ)) (path : List ℕ) → old ≡ map f (range_with_len 0 n) → path ≡ f n → new ≡ old ++ path ∷ [] → new ≡ map f (range_with_len 0 (n + 1))
path_more f n old new path was is e =
    let same : 0 + n ≡ n = omega arith in
    e ∙ (λ i. was i ++ is i ∷ []) ∙ sym (map-range_with_len_more f 0 n n same)

pub paths_few : (f : ℕ → List ℕ) (n most : ℕ) (paths : List (List ℕ)) → paths ≡ map f (range_with_len 0 n) → n ≤ most → length paths ≤ most
paths_few f n most paths is le = omega (arith, ap length is, length-map-range_with_len f 0 n, le)
