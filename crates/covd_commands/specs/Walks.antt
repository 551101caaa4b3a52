-- How the code goes along a design. Public contracts cite none of it.
use Rattle.std.specs.Prelude.{ℕ, ◌+◌, ◌==◌, List, [], ◌∷◌, ◌++◌, Option, if◌then◌else◌}
use Rattle.std.specs.List.{flat_map}
use Rattle.design_data.specs.declared.infos.BinInfo.{BinInfo}
use Rattle.design_data.specs.declared.infos.GroupInfo.{GroupInfo}
use Rattle.design_data.specs.declared.infos.InstInfo.{InstInfo}
use Rattle.design_data.specs.declared.infos.ItemInfo.{ItemInfo}
use Rattle.ucis_model.specs.Paths.{below}
use Rattle.covd_commands.specs.Lines.{bin_line}

-- a line for each bin of an item, numbered from `number` on, below the item's path
abbrev pub bin_lines : Option (List ℕ) → ℕ → (path : List ℕ) → List BinInfo → List ℕ
bin_lines counts number path [] = []
bin_lines counts number path (bin ∷ bins) = bin_line counts number bin.kind (below path bin.name) ++ bin_lines counts (number + 1) path bins

-- the lines of an item below the path of its instance
abbrev pub item_lines : Option (List ℕ) → (above : List ℕ) → ItemInfo → List ℕ
item_lines counts above item = bin_lines counts item.first_bin (below above item.name) item.bins

-- the lines of an instance below the name of its group
abbrev pub instance_lines : Option (List ℕ) → (group : List ℕ) → InstInfo → List ℕ
instance_lines counts group inst = flat_map (item_lines counts (below group inst.name)) inst.items

-- the lines of an instance that is one of the group at this place
abbrev pub lines_of_instance : Option (List ℕ) → List ℕ → ℕ → InstInfo → List ℕ
lines_of_instance counts name place inst = if inst.group == place then instance_lines counts name inst else []

-- the lines of a group's instances
abbrev pub group_lines : Option (List ℕ) → List InstInfo → ℕ → GroupInfo → List ℕ
group_lines counts instances place group = flat_map (lines_of_instance counts group.name place) instances

-- the lines of groups, of which the first has this place
abbrev pub lines_from : Option (List ℕ) → List InstInfo → ℕ → List GroupInfo → List ℕ
lines_from counts instances place [] = []
lines_from counts instances place (group ∷ groups) = group_lines counts instances place group ++ lines_from counts instances (place + 1) groups
