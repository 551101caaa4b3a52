use Rattle.cov_lexer.proofs.Tables.{byte_stands}
use Rattle.cov_lexer.proofs.operators.stands_here.Goals as goal

pub returns-then-bytes-eq1 : goal.returns-then-bytes-eq1
returns-then-bytes-eq1 c = byte_stands c.args.text.now c.args.«at» c.args.bytes.now c.requires c.if-bytes-eq1.true
