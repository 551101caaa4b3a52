use Rattle.std.proofs.Common.{◌+◌, drop, sym, ◌∙◌}
use Rattle.upload_stage.specs.Places.{places_of}
use Rattle.upload_stage.proofs.Places.{agrees_here, differs_here, all_agree}
use Rattle.upload_stage.proofs.held.differing.Goals as goal

pub returns-then-differs_at : goal.returns-then-differs_at
returns-then-differs_at c = sym (differs_here c.args.marks.now c.args.held.now c.args.len c.args.offset c.args.bytes.now c.loop-i.i c.loop-i-test.true c.requires.long (sym c.differs_at.ensures ∙ c.if-differs_at.true)) ∙ c.loop-i.invariant

pub loop-i-preserved : goal.loop-i-preserved
loop-i-preserved c = sym (agrees_here c.args.marks.now c.args.held.now c.args.len c.args.offset c.args.bytes.now c.loop-i.i c.loop-i-test.true c.requires.long (sym c.differs_at.ensures ∙ c.if-differs_at.false)) ∙ c.loop-i.invariant

pub returns : goal.returns
returns c = sym (all_agree (drop (c.args.offset + c.loop-i.i) (places_of c.args.marks.now c.args.held.now c.args.len)) c.args.bytes.now (c.args.offset + c.loop-i.i) c.loop-i.i c.loop-i-test.false) ∙ c.loop-i.invariant
