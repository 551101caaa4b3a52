use Rattle.std.proofs.Common.{rules}
use Rattle.session_table.proofs.Found.{fault_refuses, tables_refuse}
use Rattle.answer_frames.proofs.Writing.{tables_writable}
use Rattle.session_table.proofs.finding.short_text_of.Goals as goal

pub returns-in-Err : goal.returns-in-Err
returns-in-Err c = (fault_refuses c.args.opening.now c.args.text.now c.in-Err.fault c.no_design.result c.requires.short c.in-Err.ensures.refused c.no_design.ensures.body, c.no_design.ensures.writable)

pub returns-in-Some : goal.returns-in-Some
returns-in-Some c = (tables_refuse c.args.opening.now c.args.text.now c.in-Ok.compiled.text c.in-Ok.compiled.design c.in-Some.at c.requires.short c.in-Ok.ensures.text c.design.ensures.declared (search rules), tables_writable c.in-Some.at)
