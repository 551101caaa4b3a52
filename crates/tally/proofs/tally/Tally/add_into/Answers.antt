use Rattle.std.proofs.Common.{◌≡◌, ◌∙◌}
use Rattle.tally.proofs.RowLemmas.{plain_room, plain_adds}
use Rattle.tally.proofs.tally.Tally.add_into.Goals as goal

pub add_rows-requires-clause-room : goal.add_rows-requires-clause-room
add_rows-requires-clause-room c =
    let same : c.as_slice.result.now ≡ c.args.self.now = c.as_slice.ensures.value ∙ c.self.view_is in
    rw same (plain_room c.args.self.now c.args.counts.now c.requires.room)

pub returns : goal.returns
returns c =
    let same : c.as_slice.result.now ≡ c.args.self.now = c.as_slice.ensures.value ∙ c.self.view_is in
    plain_adds c.args.self.now c.args.counts.now c.add_rows.new.counts (rw same at c.add_rows.ensures)
