-- The scope of an instance's items (IEEE 1800-2017, 19.3).
use Rattle.std.specs.Prelude.{ℕ, ◌+◌, List, [], ◌∷◌}
use Rattle.name_map.specs.Names.{Pairs}
use Rattle.design_data.specs.declared.infos.ItemInfo.{ItemInfo}
use Rattle.design_data.specs.declared.infos.InstInfo.{InstInfo}
use Rattle.elab_base.specs.declared.names.What.{What}
use Rattle.elab_base.specs.declared.names.What.TheVariants as what
use Rattle.elab_decls.specs.Laws.{AreDistinct}

-- the names of items with their indexes, the first of which is this one
abbrev pub scope_from : ℕ → List ItemInfo → Pairs What
scope_from k [] = []
scope_from k (item ∷ items) = (item.name, what.Item k) ∷ scope_from (k + 1) items

-- no two points or crosses of the instance have one name
abbrev pub HasDistinctItems : InstInfo → Type 0
HasDistinctItems inst = AreDistinct (scope_from 0 inst.items)
