-- Items whose tables are the same.
use Rattle.std.specs.Prelude.{◌≡◌}
use Rattle.design_data.specs.declared.infos.ItemInfo.{ItemInfo}

-- the items have the same bins and the same sequences that take windows away
pub record AreAlike (item other : ItemInfo) : Type 0 where
  pub bins : item.bins ≡ other.bins
  pub ignored : item.ignored ≡ other.ignored
  pub illegal : item.illegal ≡ other.illegal
