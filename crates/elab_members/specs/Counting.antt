-- The bins and intervals of a design, counted over the bins that are left.
use Rattle.std.specs.Prelude.{ℕ, ◌+◌, ℤ, List, length, nat_le, nat_lt, Bool, true, ◌&&◌, Result, Ok}
use Rattle.std.specs.List.{list_all}
use Rattle.cov_ground.specs.Limits.{most_ranges, most_design_bins, most_design_ranges}
use Rattle.design_data.specs.declared.infos.BinRule.{BinRule}
use Rattle.design_data.specs.declared.infos.BinRule.TheVariants.{Values, Patterns, Trans, Default, DefaultValues, DefaultSequence, Picked, Product}
use Rattle.design_data.specs.Limits.{ranges_of}
use Rattle.elab_base.specs.declared.fault.ElabKind.TheVariants as kind
use Rattle.elab_base.specs.Gives.{Refusal, ◌>>=◌, needs, each}
use Rattle.elab_values.specs.declared.made.Made.{Made}
use Rattle.elab_members.specs.declared.counts.Counts.{Counts}

-- a set has not too many intervals
abbrev pub is_short : List (ℤ × ℤ) → Bool
is_short set = nat_le (length set) most_ranges

-- no set of a bin has too many: neither its own nor one of an item of its sequences
abbrev pub are_sets_short : BinRule → Bool
are_sets_short (Values set) = is_short set
are_sets_short (Patterns patterns) = true
are_sets_short (Trans seqs) = list_all (λ seq. list_all (λ item. is_short item.set) seq.items) seqs
are_sets_short Default = true
are_sets_short (DefaultValues set) = is_short set
are_sets_short DefaultSequence = true
are_sets_short (Picked select) = true
are_sets_short (Product members) = true

-- the intervals of a bin, for which the design has room
unfoldable pub ranges_fit : Counts → BinRule → ℕ → Result ℕ Refusal
ranges_fit counts rule at = do
  _ ← needs (nat_lt counts.bins most_design_bins && nat_le (counts.ranges + ranges_of rule) most_design_ranges) kind.DesignLimit at
  Ok (ranges_of rule)

-- one bin more, with its intervals
unfoldable pub bin_counted : Made → Counts → Result Counts Refusal
bin_counted made counts = do
  _ ← needs (are_sets_short made.bin.rule) kind.TooManyRanges made.at
  ranges ← ranges_fit counts made.bin.rule made.at
  Ok (record counts { bins = counts.bins + 1; ranges = counts.ranges + ranges })

unfoldable pub bins_counted : List Made → Counts → Result Counts Refusal
bins_counted bins counts = each bin_counted bins counts
