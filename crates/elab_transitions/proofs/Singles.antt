-- Sets of one value.
use Rattle.std.proofs.Common.{◌≡◌, ◌∙◌, ap, sym, List, [], ◌∷◌}
use Rattle.std.specs.Prelude.{ℤ}
use Rattle.cov_base.specs.Sets.{written, set_of}

-- a set whose only range is that of the value alone
pub only_one : (set : List (ℤ × ℤ)) (range : ℤ × ℤ) (value : ℤ) → set_of (written set) ≡ set → set ≡ range ∷ [] → range.0 ≡ value → range.1 ≡ value → set ≡ set_of (written ((value, value) ∷ []))
only_one set range value normal is low high =
    let one : set ≡ (value, value) ∷ [] = is ∙ (λ i. (low i, high i) ∷ []) in
    sym normal ∙ ap (λ (s : List (ℤ × ℤ)). set_of (written s)) one
