-- Points that are counted by their value and the index of their bins alone.
use Rattle.std.specs.Prelude.{◌≡◌, ◌≢◌, pos, ◌+ℤ◌, ◌≤ℤ◌, ℕ, ◌+◌, ◌-◌, ◌^◌, ◌≤◌, List, [], length, slice_index, Contains, Some}
use Rattle.cov_base.specs.Types.{lowest, highest}
use Rattle.const_eval.specs.Typs.{Typ}
use Rattle.design_data.specs.declared.infos.ItemInfo.{ItemInfo}
use Rattle.point_tables.specs.declared.tables.Lookup.{Lookup}
use Rattle.point_sampler.specs.declared.plan.PointPlan.{PointPlan}
use Rattle.point_sampler.specs.Plans.{IsPlanOf, IsStill}
use Rattle.point_sampler.specs.Met.{raised}

-- each number of the type has a key
pub record HasKeys (lookup : Lookup) (typ : Typ) : Type 0 where
  pub low : lookup.least ≤ℤ lowest typ.width typ.signed
  pub high : highest typ.width typ.signed ≤ℤ (lookup.least +ℤ pos (2 ^ 64 - 1))

-- The plan of a point with values of the type asks for nothing but an index: each bin counts for coverage, has no guard
-- and is one of values.
pub record IsQuick (plan : PointPlan) (typ : Typ) : Type 0 where
  pub still : IsStill plan
  pub plain : plan.entries.items ≡ []
  pub lookup : Lookup
  pub is_lookup : plan.lookup ≡ Some lookup
  pub keys : HasKeys lookup typ

-- some point with the plan, whose first bin has this number, has a place for each bin among so many counts
pub record HasRoom (plan : PointPlan) (first_bin counts : ℕ) : Type 0 where
  pub item : ItemInfo
  pub is_plan : IsPlanOf item plan
  pub first : item.first_bin ≡ first_bin
  pub room : first_bin + length item.bins ≤ counts

-- the counts at these places, from the first number on, are raised, and no others change
pub record AreRaised (first_bin : ℕ) (met : List ℕ) (old new : List ℕ) : Type 0 where
  pub on : (place : ℕ) → Contains met place → slice_index new (first_bin + place) ≡ raised (slice_index old (first_bin + place))
  pub off : (number : ℕ) → ((place : ℕ) → Contains met place → number ≢ first_bin + place) → slice_index new number ≡ slice_index old number
