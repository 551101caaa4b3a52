-- The items of an instance on the way: the points and crosses of its group, implicit points among them.
use Rattle.std.specs.Prelude.{ℕ, ◌+◌, List, [], ◌∷◌, ◌++◌, length, nat_lt, Result}
use Rattle.cov_ground.specs.Limits.{most_items}
use Rattle.name_map.specs.Names.{Pairs, with_name}
use Rattle.design_data.specs.declared.infos.ItemInfo.{ItemInfo}
use Rattle.elab_base.specs.declared.fault.ElabKind.TheVariants as kind
use Rattle.elab_base.specs.declared.names.What.TheVariants as what
use Rattle.elab_base.specs.Gives.{Refusal, needs}
use Rattle.elab_values.specs.declared.made.ItemDecls.{ItemDecls}
use Rattle.elab_members.specs.declared.counts.Counts.{Counts}
use Rattle.elab_members.specs.declared.items.Items.{Items}

abbrev pub no_items : Counts → Items
no_items counts = record { names = []; items = []; decls = []; counts = counts }

-- the design has room for an item more
abbrev pub has_room : Counts → ℕ → Result (Unit {0}) Refusal
has_room counts at = needs (nat_lt counts.items most_items) kind.DesignLimit at

-- one item more, with what crosses have to know of its declarations
unfoldable pub with_item : ItemInfo → ItemDecls → Counts → Items → Items
with_item item decls counts s = record {
  names = with_name s.names item.name (what.Item (length s.items));
  items = s.items ++ item ∷ [];
  decls = s.decls ++ decls ∷ [];
  counts = record counts { items = s.counts.items + 1 };
}

-- names with their places, the first of which is this one
abbrev pub places_from : ℕ → List (List ℕ) → Pairs ℕ
places_from k [] = []
places_from k (name ∷ names) = (name, k) ∷ places_from (k + 1) names
