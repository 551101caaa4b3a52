-- What the limits of a design say of its items.
use Rattle.std.proofs.Common.{◌≤◌, List, [], ◌∷◌, length}
use Rattle.std.specs.Prelude.{All}
use Rattle.std.specs.List.{AllByRecursion}
use Rattle.std.proofs.lemmas.List.Elements.{All-from_recursion}
use Rattle.design_data.specs.declared.infos.ItemInfo.{ItemInfo}
use Rattle.design_data.specs.declared.design.Design.{Design}
use Rattle.cov_ground.specs.Limits.{most_bins}
use Rattle.design_data.specs.Limits.{IsItem, IsInstance}
use Rattle.cov_counting.specs.Steps.{AreItems, AreInstances}

-- ---- elements

module _ {X : Type 0} (P Q : X → Type 0) (to : (x : X) → P x → Q x) where
  all_to : (xs : List X) → AllByRecursion P xs → AllByRecursion Q xs
  all_to [] h = tt
  all_to (x ∷ xs) h = (to x h.0, all_to xs h.1)

-- ---- items

pub few : (items : List ItemInfo) → AreItems items → All (λ item. length item.bins ≤ most_bins) items
few items h = All-from_recursion (λ (item : ItemInfo). length item.bins ≤ most_bins) items (all_to (IsItem items) (λ item. length item.bins ≤ most_bins) (λ item is. is.bins) items h)

pub instances : (d : Design) → AreInstances d.instances
instances d = all_to (IsInstance (length d.groups)) (λ inst. AreItems inst.items) (λ inst is. is.items) d.instances d.within.each
