use Rattle.std.proofs.Common.{arith}
use Rattle.std.proofs.lemmas.Grind.{common_steps}
use Rattle.waivers.specs.Patterns.{parts}
use Rattle.waivers.specs.Pieces.{parts_of}
use Rattle.waivers.proofs.Splits.{parts_whole}
use Rattle.waivers.proofs.pieces.pieces_of.Goals as goal

pub returns : goal.returns
returns c = parts_whole (parts_of c.loop-rest.pieces.items) c.loop-rest.rest.now (parts c.args.pattern.now) (grind (arith, common_steps, c.is_empty.ensures, c.loop-rest-test.false)) c.loop-rest.invariant
