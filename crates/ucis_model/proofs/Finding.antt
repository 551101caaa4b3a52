-- The least node of a path.
use Rattle.std.proofs.Common.{◌≡◌, ◌∙◌, ℕ, zero, suc, ◌+◌, ◌<◌, ◌≤◌, nat_eq, List, [], ◌∷◌, length, map, Bool, true, false, cond, Option, Some, None, refl, sym, ap, subst, arith}
use Rattle.std.specs.List.{range_with_len}
use Rattle.std.specs.Cmp.Lexicographic.{pointwise}
use Rattle.std.specs.Prelude.{if◌then◌else◌, nat_lt}
use Rattle.name_map.specs.Names.{meaning_of}
use Rattle.name_map.proofs.Named.{same_names, same_as_itself}
use Rattle.ucis_model.specs.declared.node.Node.{Node}
use Rattle.ucis_model.specs.Paths.{path_of, first_with, find_in, places_of}
use Rattle.ucis_model.specs.Laws.{IsFound, FindsLeast, FindsOwnPath}

-- a look-up among the paths with their places
looked_up : (nodes : List Node) (path : List ℕ) (places : List ℕ) → meaning_of (map (λ place. (path_of nodes place, place)) places) path ≡ first_with nodes path places
unfolding meaning_of
looked_up nodes path [] = refl
looked_up nodes path (place ∷ places) = ap (λ (r : Option ℕ). cond (pointwise nat_eq path (path_of nodes place)) (Some place) r) (looked_up nodes path places)

pub found_is : (nodes : List Node) (path : List ℕ) → meaning_of (places_of nodes) path ≡ find_in nodes path
unfolding find_in
found_is nodes path = looked_up nodes path (range_with_len 0 (length nodes))

NoneBelow : List Node → (path : List ℕ) → ℕ → Type 0
NoneBelow nodes path a = (place : ℕ) → place < a → path_of nodes place ≡ path → ⊥

none_more : (nodes : List Node) (path : List ℕ) (a : ℕ) → NoneBelow nodes path a → (path_of nodes a ≡ path → ⊥) → NoneBelow nodes path (a + 1)
unfolding NoneBelow
none_more nodes path a none here place lt has = by (nat_eq place a) refl
  where
    by : (b : Bool) → nat_eq place a ≡ b → ⊥
    by true e = let is : place ≡ a = grind (arith, e) in here (subst (λ (p : ℕ). path_of nodes p ≡ path) is has)
    by false e = let less : place < a = grind (arith, e, lt) in none place less has

-- one place more, at which the path is or isn't
step : (nodes : List Node) (path : List ℕ) (a n : ℕ) (b : Bool) → pointwise nat_eq path (path_of nodes a) ≡ b → a < length nodes → NoneBelow nodes path a
    → (NoneBelow nodes path (a + 1) → IsFound nodes path (first_with nodes path (range_with_len (a + 1) n)))
    → IsFound nodes path (if b then Some a else first_with nodes path (range_with_len (a + 1) n))
unfolding NoneBelow
step nodes path a n true is lt none rest = record { exists = lt; has = sym (same_names path (path_of nodes a) is); least = none }
step nodes path a n false is lt none rest = rest (none_more nodes path a none apart)
  where
    apart : path_of nodes a ≡ path → ⊥
    apart h = let q : true ≡ false = sym (same_as_itself path) ∙ (ap (λ (p : List ℕ). pointwise nat_eq path p) (sym h) ∙ is) in absurd cc

-- the first of the places from a on, where no smaller one has the path
first_is : (nodes : List Node) (path : List ℕ) (a n : ℕ) → a + n ≡ length nodes → NoneBelow nodes path a → IsFound nodes path (first_with nodes path (range_with_len a n))
unfolding NoneBelow
first_is nodes path a zero e none = λ place lt has. let less : place < a = omega (arith, e, lt) in none place less has
first_is nodes path a (suc n) e none =
    step nodes path a n (pointwise nat_eq path (path_of nodes a)) refl (omega (arith, e)) none (first_is nodes path (a + 1) n (omega (arith, e)))

pub finds_least : FindsLeast
unfolding find_in NoneBelow
finds_least nodes path = first_is nodes path 0 (length nodes) (omega arith) (λ place lt has. absurd (omega (arith, lt)))

own_path : (nodes : List Node) (place : ℕ) (o : Option ℕ) → place < length nodes → find_in nodes (path_of nodes place) ≡ o → IsFound nodes (path_of nodes place) o
    → (found : ℕ) × (find_in nodes (path_of nodes place) ≡ Some found) × (found ≤ place) × (path_of nodes found ≡ path_of nodes place)
own_path nodes place None lt e none = absurd (none place lt refl)
own_path nodes place (Some found) lt e least = (found, e, at_most (nat_lt place found) refl, least.has)
  where
    at_most : (b : Bool) → nat_lt place found ≡ b → found ≤ place
    at_most true q = let before : place < found = grind (arith, q) in absurd (least.least place before refl)
    at_most false q = grind (arith, q)

pub finds_own_path : FindsOwnPath
finds_own_path nodes place lt = own_path nodes place (find_in nodes (path_of nodes place)) lt refl (finds_least nodes (path_of nodes place))
