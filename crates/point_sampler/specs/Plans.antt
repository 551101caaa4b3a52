-- What the plan of a point prepares.
use Rattle.std.specs.Prelude.{◌≡◌, [], ◌++◌, length, IfSome, Bool, true, false}
use Rattle.design_data.specs.declared.infos.ItemInfo.{ItemInfo}
use Rattle.design_data.specs.declared.infos.BinRule.{BinRule}
use Rattle.design_data.specs.declared.infos.BinRule.TheVariants.{Values, Patterns, Trans, Default, DefaultValues, DefaultSequence, Picked, Product}
use Rattle.point_tables.specs.Tables.{AreEntries, AreDivided, AreEntrances, AreRemovers, AreQuestionsOf, IsLookupOf, machines_from, places_from}
use Rattle.point_sampler.specs.declared.plan.PointPlan.{PointPlan}

abbrev pub is_default_sequence : BinRule → Bool
is_default_sequence (Values set) = false
is_default_sequence (Patterns patterns) = false
is_default_sequence (Trans seqs) = false
is_default_sequence Default = false
is_default_sequence (DefaultValues set) = false
is_default_sequence DefaultSequence = true
is_default_sequence (Picked select) = false
is_default_sequence (Product members) = false

-- The plan is that of the point.
pub record IsPlanOf (item : ItemInfo) (plan : PointPlan) : Type 0 where
  pub entries : AreEntries item.bins plan.entries.items
  pub machines : AreDivided plan.removers (machines_from 0 item.bins) plan.machines.items plan.words
  pub entrances : AreEntrances plan.machines.items plan.entrances.items
  pub removers : AreRemovers item plan.removers
  pub others : plan.others ≡ item.ignored ++ item.illegal
  pub lookup : IfSome plan.lookup (IsLookupOf item.bins)
  pub questions : AreQuestionsOf item.bins plan.questions
  pub sequences : plan.sequences.items ≡ places_from (λ bin. is_default_sequence bin.rule) 0 item.bins

-- there are neither automata nor words nor default sequences
abbrev pub IsStill : PointPlan → Type 0
IsStill plan = (length plan.machines.items ≡ 0) × (plan.words ≡ []) × (length plan.sequences.items ≡ 0)
