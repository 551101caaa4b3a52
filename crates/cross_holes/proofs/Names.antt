-- The names of the members of an axis.
use Rattle.std.proofs.Common.{◌≡◌, ◌≤◌, ℕ, List, [], ◌∷◌, map, take, length, ap, ◌∙◌, if◌then◌else◌}
use Rattle.std.specs.Prelude.{filter}
use Rattle.std.specs.List.{flat_map}
use Rattle.std.proofs.lemmas.List.{take_all}
use Rattle.design_data.specs.declared.infos.BinInfo.{BinInfo}
use Rattle.design_data.specs.Bins.{is_coverage}
use Rattle.cross_holes.proofs.Joining.{flat_if}

abbrev pub name_if : BinInfo → List (List ℕ)
name_if bin = if is_coverage bin.kind then bin.name ∷ [] else []

pub names_are : (bins : List BinInfo) (i : ℕ) (names : List (List ℕ)) → length bins ≤ i → names ≡ flat_map name_if (take i bins) → names ≡ map (λ bin. bin.name) (filter (λ bin. is_coverage bin.kind) bins)
names_are bins i names le e = e ∙ ap (flat_map name_if) (take_all i bins le) ∙ flat_if (λ (bin : BinInfo). is_coverage bin.kind) (λ bin. bin.name) bins
