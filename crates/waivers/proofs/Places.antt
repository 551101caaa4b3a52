-- Places of paths.
use Rattle.std.proofs.Common.{◌≡◌, ◌∙◌, ℕ, zero, suc, ◌+◌, ◌<◌, ◌≤◌, List, [], ◌∷◌, ◌++◌, length, map, filter, drop, get_or, Bool, true, false, cond, refl, sym, ap, append_assoc, arith}
use Rattle.std.specs.Prelude.{if◌then◌else◌}
use Rattle.std.specs.List.{range_with_len}
use Rattle.std.proofs.lemmas.List.{append-nil, drop_all, drop_more, map-append, length-append}
use Rattle.ucis_model.specs.declared.node.Node.{Node}
use Rattle.ucis_model.specs.Paths.{path_of}
use Rattle.waivers.specs.Patterns.{is_match}
use Rattle.waivers.specs.Waived.{waived, paths_in, places_where, waived_among}

places_of_map : (test : List ℕ → Bool) (path : ℕ → List ℕ) (first n : ℕ) → places_where test first (map path (range_with_len first n)) ≡ filter (λ node. test (path node)) (range_with_len first n)
unfolding places_where
places_of_map test path first zero = refl
places_of_map test path first (suc n) = ap (λ (ns : List ℕ). cond (test (path first)) (first ∷ ns) ns) (places_of_map test path (first + 1) n)

pub among_all : (pattern : List ℕ) (nodes : List Node) → waived_among pattern (paths_in nodes) ≡ waived pattern nodes
among_all pattern nodes = places_of_map (is_match pattern) (path_of nodes) 0 (length nodes)

-- what is found so far, and what is found in the paths that are left
abbrev pub IsFoundSo : (List ℕ → Bool) → (paths : List (List ℕ)) → (place : ℕ) → (found : List ℕ) → Type 0
IsFoundSo test paths place found = found ++ places_where test place (drop place paths) ≡ places_where test 0 paths

here : (test : List ℕ → Bool) (paths : List (List ℕ)) (place : ℕ) (path : List ℕ) → place < length paths → path ≡ get_or paths place path
    → places_where test place (drop place paths) ≡ (if test path then place ∷ places_where test (place + 1) (drop (place + 1) paths) else places_where test (place + 1) (drop (place + 1) paths))
unfolding places_where
here test paths place path lt is =
    ap (λ (ps : List (List ℕ)). places_where test place ps) (drop_more paths place path lt ∙ ap (λ (p : List ℕ). p ∷ drop (place + 1) paths) (sym is))

pub passes : (test : List ℕ → Bool) (paths : List (List ℕ)) (place : ℕ) (found : List ℕ) (path : List ℕ) → IsFoundSo test paths place found → place < length paths → path ≡ get_or paths place path
    → test path ≡ true → IsFoundSo test paths (place + 1) (found ++ place ∷ [])
passes test paths place found path so lt is passed =
    append_assoc found (place ∷ []) (places_where test (place + 1) (drop (place + 1) paths))
    ∙ ap (λ (ns : List ℕ). found ++ ns) (sym (here test paths place path lt is ∙ rw passed refl)) ∙ so

pub fails : (test : List ℕ → Bool) (paths : List (List ℕ)) (place : ℕ) (found : List ℕ) (path : List ℕ) → IsFoundSo test paths place found → place < length paths → path ≡ get_or paths place path
    → test path ≡ false → IsFoundSo test paths (place + 1) found
fails test paths place found path so lt is failed = ap (λ (ns : List ℕ). found ++ ns) (sym (here test paths place path lt is ∙ rw failed refl)) ∙ so

pub all_found : (test : List ℕ → Bool) (paths : List (List ℕ)) (place : ℕ) (found : List ℕ) → length paths ≤ place → IsFoundSo test paths place found → found ≡ places_where test 0 paths
unfolding places_where
all_found test paths place found ge so = let e : drop place paths ≡ [] = drop_all place paths ge in sym (ap (λ (ps : List (List ℕ)). found ++ places_where test place ps) e ∙ append-nil found) ∙ so

-- ---- the paths of the first nodes

pub record AreFirstPaths (nodes : List Node) (n : ℕ) (paths : List (List ℕ)) : Type 0 where
  pub same : paths ≡ map (path_of nodes) (range_with_len 0 n)
  pub long : length paths ≡ n

range_snoc : (a n : ℕ) → range_with_len a (suc n) ≡ range_with_len a n ++ (a + n) ∷ []
range_snoc a zero = let e : a ≡ a + 0 = omega arith in ap (λ (k : ℕ). k ∷ []) e
range_snoc a (suc n) =
    let e : (a + 1) + n ≡ a + suc n = omega arith in
    ap (λ (ks : List ℕ). a ∷ ks) (range_snoc (a + 1) n ∙ ap (λ (k : ℕ). range_with_len (a + 1) n ++ k ∷ []) e)

range_next : (n : ℕ) → range_with_len 0 (n + 1) ≡ range_with_len 0 n ++ n ∷ []
range_next n =
    let e : 0 + n ≡ n = omega arith in
    let f : n + 1 ≡ suc n = omega arith in
    ap (range_with_len 0) f ∙ range_snoc 0 n ∙ ap (λ (k : ℕ). range_with_len 0 n ++ k ∷ []) e

pub no_paths : (nodes : List Node) → AreFirstPaths nodes 0 []
no_paths nodes = record { same = refl; long = refl }

pub path_more : (nodes : List Node) (n : ℕ) (paths more : List (List ℕ)) (path : List ℕ) → AreFirstPaths nodes n paths → path ≡ path_of nodes n → more ≡ paths ++ path ∷ []
    → AreFirstPaths nodes (n + 1) more
path_more nodes n paths more path h is pushed = record {
  same = pushed ∙ ap (λ (ps : List (List ℕ)). ps ++ path ∷ []) h.same ∙ ap (λ (p : List ℕ). map (path_of nodes) (range_with_len 0 n) ++ p ∷ []) is
      ∙ sym (map-append (path_of nodes) (range_with_len 0 n) (n ∷ [])) ∙ ap (map (path_of nodes)) (sym (range_next n));
  long = omega (arith, ap length pushed, length-append paths (path ∷ []), h.long);
}

pub paths_whole : (nodes : List Node) (n : ℕ) (paths : List (List ℕ)) → AreFirstPaths nodes n paths → n ≡ length nodes → paths ≡ paths_in nodes
paths_whole nodes n paths h all = h.same ∙ ap (λ (k : ℕ). map (path_of nodes) (range_with_len 0 k)) all
