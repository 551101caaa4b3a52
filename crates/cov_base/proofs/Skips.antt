-- Holes that end before an interval begins take nothing from it.
use Rattle.std.proofs.Common.{◌≡◌, ◌∙◌, sym, refl, ap, subst, ℕ, zero, suc, ◌-◌, ◌<◌, ℤ, pos, ◌+ℤ◌, ◌≤ℤ◌, ◌<ℤ◌, List, [], ◌∷◌, ◌++◌, length, take, drop, get_or, arith, int_lt, false}
use Rattle.std.specs.Int.{int_max}
use Rattle.std.proofs.lemmas.Int.{ints, clamps}
use Rattle.cov_base.specs.Sets.{least, IsNormalFrom, IsNormalForm}
use Rattle.cov_base.specs.Intervals.{low_at, pieces, beyond, less}
use Rattle.cov_base.proofs.Steps.{pieces_next, beyond_next, int_lt_not, take_rest}
use Rattle.cov_base.proofs.Finds.{low_least}

-- what is left of an interval without a hole before it
pieces_skip : (low high : ℤ) (h : ℤ × ℤ) (holes : List (ℤ × ℤ)) → low ≤ℤ high → h.0 ≤ℤ h.1 → h.1 <ℤ low → pieces (low, high) (h ∷ holes) ≡ pieces (low, high) holes
pieces_skip low high h holes some whole lt =
    let most : int_max low (h.1 +ℤ pos 1) ≡ low = omega (arith, ints, clamps) in
    let none : int_lt low h.0 ≡ false = int_lt_not low h.0 (omega (arith, ints)) in
    pieces_next low high h holes (omega (arith, ints)) (omega (arith, ints)) ∙ rw (none, most) refl

skip_one : (r h : ℤ × ℤ) (rs holes : List (ℤ × ℤ)) → r.0 ≤ℤ r.1 → h.0 ≤ℤ h.1 → h.1 <ℤ r.0 → less (r ∷ rs) (h ∷ holes) ≡ less (r ∷ rs) holes
skip_one r h rs holes some whole lt =
    ap (λ (front : List (ℤ × ℤ)). front ++ less rs (beyond r.1 (h ∷ holes))) (pieces_skip r.0 r.1 h holes some whole lt)
    ∙ ap (λ (rest : List (ℤ × ℤ)). pieces r holes ++ less rs rest) (beyond_next r.1 h holes (omega (arith, ints)) (omega (arith, ints)))

-- the holes before one that begins no later than the first interval
pub skips : (bound : ℤ) (r : ℤ × ℤ) (rs holes : List (ℤ × ℤ)) (k : ℕ) → r.0 ≤ℤ r.1 → IsNormalFrom bound holes → k < length holes → (0 < k → low_at holes k ≤ℤ r.0)
    → less (r ∷ rs) (drop k holes) ≡ less (r ∷ rs) holes
skips bound r rs [] k some n lt low = absurd (omega arith)
skips bound r rs (h ∷ holes) zero some n lt low = refl
skips bound r rs (h ∷ holes) (suc k) some n lt low =
    let at : low_at holes k ≤ℤ r.0 = low (omega arith) in
    let from = low_least (h.1 +ℤ pos 2) holes k n.2 (omega arith) in
    skips (h.1 +ℤ pos 2) r rs holes k some n.2 (omega arith) (λ _. at) ∙ sym (skip_one r h rs holes some n.1 (omega (arith, ints, at, from)))

-- the holes from the last one on that begins no later than the first interval
pub reached : (intervals holes : List (ℤ × ℤ)) (first : ℤ × ℤ) (k : ℕ) → IsNormalForm intervals → IsNormalForm holes → 0 < length intervals → first ≡ get_or intervals 0 first → k < length holes → (0 < k → low_at holes k ≤ℤ first.0)
    → less intervals (take (length holes - k) (drop k holes)) ≡ less intervals holes
reached [] holes first k n m some is lt low = absurd (omega arith)
reached (r ∷ rs) holes first k n m some is lt low =
    ap (less (r ∷ rs)) (take_rest holes k)
    ∙ skips least r rs holes k n.normal.1 m.normal lt (λ h. subst (λ (x : ℤ × ℤ). low_at holes k ≤ℤ x.0) is (low h))
