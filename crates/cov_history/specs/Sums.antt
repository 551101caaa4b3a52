-- Lists of counts, one for each bin.
use Rattle.std.specs.Prelude.{ℕ, ◌+◌, List, length, map, slice_index}
use Rattle.std.specs.List.{range_with_len}
use Rattle.design_data.specs.declared.design.Design.{Design}
use Rattle.record_codec.specs.declared.record.Record.{Record}
use Rattle.cov_history.specs.declared.entry.Event.{Event}
use Rattle.cov_history.specs.declared.entry.Event.TheVariants.{Admit}
use Rattle.cov_history.specs.Tallies.{tally}
use Rattle.cov_history.specs.History.{hits_of}

-- the sums of two lists, place by place
abbrev pub plus : (sums counts : List ℕ) → List ℕ
plus sums counts = map (λ bin. slice_index sums bin + slice_index counts bin) (range_with_len 0 (length sums))

-- how often the records hit each bin
abbrev pub all_hits : Design → List Record → List ℕ
all_hits d rs = map (hits_of d rs) (range_with_len 0 d.bin_count)

-- the counts with those of a change
abbrev pub with_change : Design → (counts : List ℕ) → Event → List ℕ
with_change d counts (Admit r) = plus counts (tally d r)
with_change d counts other = counts
