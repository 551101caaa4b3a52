use Rattle.std.proofs.Common.{◌∙◌, sym, ap}
use Rattle.std.specs.Prelude.{is_none}
use Rattle.cov_history.specs.Tables.{same_signal}
use Rattle.session_table.proofs.Shapes.{apart_agree}
use Rattle.session_table.proofs.tables.are_args.Goals as goal

pub returns-in-None : goal.returns-in-None
returns-in-None c = ap is_none c.in-None.ensures.place ∙ sym (apart_agree same_signal 0 c.args.args.now c.args.others.now)

pub returns-in-Some : goal.returns-in-Some
returns-in-Some c = ap is_none c.in-Some.ensures.place ∙ sym (apart_agree same_signal 0 c.args.args.now c.args.others.now)
