-- From a node to its parent.
use Rattle.std.proofs.Common.{◌≡◌, ℕ, zero, suc, ◌<◌, List, ◌∷◌, length, refl, ap, arith, inl, inr}
use Rattle.std.specs.Prelude.{slice_index, ◌||◌}
use Rattle.std.specs.List.{list_any}
use Rattle.std.proofs.lemmas.Bool.{cases_eq, eq-eqb, ne_eqb}
use Rattle.ucis_model.specs.Above.{some_lineage, AreSmallerParents, ExcludedFromAbove}

-- more steps than the node's number make no difference
enough : (parents : List ℕ) → AreSmallerParents parents → (a b node : ℕ) → node < a → node < b → node < length parents → some_lineage a parents node ≡ some_lineage b parents node
enough parents smaller zero b node la lb lt = absurd (omega arith)
enough parents smaller (suc a) zero node la lb lt = absurd (omega arith)
enough parents smaller (suc a) (suc b) node la lb lt = elim (cases_eq node 0) [
  | inl root ↦ rw (eq-eqb node 0 root) refl
  | inr other ↦
      let low : 0 < node = omega arith in
      let less = smaller node low lt in
      rw (ne_eqb node 0 other) (ap (λ (rest : List ℕ). node ∷ rest) (enough parents smaller a b (slice_index parents node) (omega (arith, less)) (omega (arith, less)) (omega (arith, less))))
]

pub excluded_from_above : ExcludedFromAbove
excluded_from_above parents out node smaller lt = elim (cases_eq node 0) [
  | inl root ↦ rw (eq-eqb node 0 root) refl
  | inr other ↦
      let low : 0 < node = omega arith in
      let less = smaller node low lt in
      rw (ne_eqb node 0 other) (ap (λ (rest : List ℕ). out node || list_any out rest) (enough parents smaller node (suc (slice_index parents node)) (slice_index parents node) less (omega arith) (omega (arith, less))))
]
