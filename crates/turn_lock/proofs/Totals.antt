-- Sums over the views, and a change of one view.
use Rattle.std.proofs.Common.{◌≡◌, ◌≢◌, ℕ, zero, suc, ◌+◌, ◌≤◌, List, [], ◌∷◌, ◌++◌, set, eqb, cond, sym, refl, ap, subst, ⊎_elim, arith, eq-eqb, ne_eqb}
use mathlib.Core.Option.{some, some-injective, some-ne-none}
use lib.ListN.{get_elem?}
use Rattle.atomic_table.proofs.Lists.{at_set}
use Rattle.turn_lock.specs.Views.{total}

module _ {V : Type 0} where
  pub total_set : (f : V → ℕ) (vs : List V) (i : ℕ) (v w : V) → get_elem? vs i ≡ some v → total f (set vs i w) + f v ≡ total f vs + f w
  total_set f [] i v w e = absurd (some-ne-none v (sym e))
  total_set f (x ∷ xs) zero v w e = let same : f x ≡ f v = ap f (some-injective x v e) in omega arith
  total_set f (x ∷ xs) (suc i) v w e = let t = total_set f xs i v w e in omega arith

  pub total_snoc : (f : V → ℕ) (vs : List V) (w : V) → total f (vs ++ w ∷ []) ≡ total f vs + f w
  total_snoc f [] w = omega arith
  total_snoc f (x ∷ xs) w = let t = total_snoc f xs w in omega arith

  pub total_least : (f h : V → ℕ) (vs : List V) → ((v : V) → f v ≤ h v) → total f vs ≤ total h vs
  total_least f h [] le = omega arith
  total_least f h (x ∷ xs) le = let a = le x in let t = total_least f h xs le in omega arith

  -- what is known of each seat stays known where one view changes
  pub seats_set : (K : ℕ → V → Type 0) (vs : List V) (i : ℕ) (w : V) → K i w → ((j : ℕ) (v : V) → j ≢ i → get_elem? vs j ≡ some v → K j v)
      → (j : ℕ) (v : V) → get_elem? (set vs i w) j ≡ some v → K j v
  seats_set K vs i w mine others j v e = ⊎_elim (λ (t : (j ≡ i) × (w ≡ v)). subst (λ (x : ℕ × V). K x.0 x.1) (λ k. (sym t.0 k, t.1 k)) mine)
      (λ (t : (j ≢ i) × (get_elem? vs j ≡ some v)). others j v t.0 t.1) (at_set vs i j w v e)

-- a function that is j at p
abbrev pub put : (ℕ → ℕ) → ℕ → ℕ → ℕ → ℕ
put f p j q = cond (eqb q p) j (f q)

pub put_here : (f : ℕ → ℕ) (p j : ℕ) → put f p j p ≡ j
put_here f p j = ap (λ b. cond b j (f p)) (eq-eqb p p refl)

pub put_else : (f : ℕ → ℕ) (p j q : ℕ) → q ≢ p → put f p j q ≡ f q
put_else f p j q other = ap (λ b. cond b j (f q)) (ne_eqb q p other)
