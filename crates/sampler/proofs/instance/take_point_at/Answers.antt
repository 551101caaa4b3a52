use Rattle.std.proofs.Common.{sym, subst}
use Rattle.sampler.specs.Standing.{RowStands}
use Rattle.sampler.proofs.Items.{row_same, row_other}
use Rattle.sampler.proofs.instance.take_point_at.Goals as goal

pub returns-clause-row : goal.returns-clause-row
returns-clause-row c = λ all m sample h.
    subst (RowStands c.args.item.now all m c.args.item.now.shape) (sym (row_same c.args.rows.now.items c.args.index c.take_point.new.row c.requires.row)) (c.in_ok-take_point.ensures.row all m sample h)

pub returns-clause-other_rows : goal.returns-clause-other_rows
returns-clause-other_rows c = λ k ne. row_other c.args.rows.now.items c.args.index k c.take_point.new.row ne
