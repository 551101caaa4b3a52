-- The number of each item's first bin: behind the bins of all earlier groups, of the earlier instances of its group, and
-- of the earlier items of its instance.
use Rattle.std.specs.Prelude.{ℕ, ◌+◌, List, [], ◌∷◌, length, map, take, ◌==◌, nat_lt, Bool, if◌then◌else◌}
use Rattle.design_data.specs.declared.infos.InstInfo.{InstInfo}
use Rattle.design_data.specs.declared.infos.ItemInfo.{ItemInfo}
use Rattle.design_data.specs.Bins.{bins_in, total}
use Rattle.elab_order.specs.declared.numbers.Load.{Load}

-- items, one behind the other, from a number on
abbrev pub items_numbered : ℕ → List ItemInfo → List ItemInfo
items_numbered n [] = []
items_numbered n (item ∷ items) = record item { first_bin = n } ∷ items_numbered (n + length item.bins) items

-- the group of an instance, and how many bins it has
abbrev pub load_of : InstInfo → Load
load_of inst = record { group = inst.group; bins = bins_in inst.items }

-- the bins of the groups that a test picks
abbrev pub bins_where : (ℕ → Bool) → List Load → ℕ
bins_where test loads = total (λ load. if test load.group then load.bins else 0) loads

-- the number of the first bin of the instance at place i, which is of this group
abbrev pub first_of : List Load → (i group : ℕ) → ℕ
first_of loads i group = bins_where (λ g. nat_lt g group) loads + bins_where (λ g. g == group) (take i loads)

-- the instances from place i on
abbrev pub numbered_from : List Load → ℕ → List InstInfo → List InstInfo
numbered_from loads i [] = []
numbered_from loads i (inst ∷ insts) = record inst { items = items_numbered (first_of loads i inst.group) inst.items } ∷ numbered_from loads (i + 1) insts

unfoldable pub numbered : List InstInfo → List InstInfo
numbered insts = numbered_from (map load_of insts) 0 insts
