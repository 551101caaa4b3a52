use Rattle.std.proofs.Common.{ℕ, List, ap, ◌∙◌}
use Rattle.tally.specs.Rows.{count_in}
use Rattle.tally.proofs.RowLemmas.{later_room, later_adds}
use Rattle.tally.proofs.tally.Tally.add_part.Goals as goal

pub add_rows-requires-clause-room : goal.add_rows-requires-clause-room
add_rows-requires-clause-room c =
    later_room c.args.self.now c.rows_after.result.now c.args.first c.args.counts.now
    (λ later le. c.rows_after.ensures.same later le ∙ ap (λ (rows : List (ℕ × ℕ)). count_in rows later) (c.as_slice.ensures.value ∙ c.self.view_is)) c.requires

pub returns : goal.returns
returns c =
    later_adds c.args.self.now c.rows_after.result.now c.args.first c.args.counts.now c.add_rows.new.counts
    (λ later le. c.rows_after.ensures.same later le ∙ ap (λ (rows : List (ℕ × ℕ)). count_in rows later) (c.as_slice.ensures.value ∙ c.self.view_is)) c.add_rows.ensures
