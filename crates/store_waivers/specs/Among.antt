-- The same over the paths of all nodes, as the code has them. Of public contracts none cites it.
use Rattle.std.specs.Prelude.{ℕ, List, [], length, map, slice_index_or}
use Rattle.waivers.specs.declared.waiver.Waiver.{Waiver}
use Rattle.waivers.specs.Waived.{waived_among}
use Rattle.waivers.specs.Texts.{waiver_line}

-- the paths at these places
abbrev pub paths_at : (paths : List (List ℕ)) → (places : List ℕ) → List (List ℕ)
paths_at paths places = map (λ place. slice_index_or paths place []) places

abbrev pub paths_among : (paths : List (List ℕ)) → Waiver → List (List ℕ)
paths_among paths waiver = paths_at paths (waived_among waiver.pattern paths)

abbrev pub line_among : (paths : List (List ℕ)) → Waiver → List ℕ
line_among paths waiver = waiver_line (length (waived_among waiver.pattern paths)) waiver
