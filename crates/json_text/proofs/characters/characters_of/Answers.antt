use Rattle.std.proofs.Common.{rules}
use Rattle.json_text.proofs.Encoded.{one_more}
use Rattle.json_text.proofs.characters.characters_of.Goals as goal

pub loop-byte-preserved : goal.loop-byte-preserved
loop-byte-preserved c = search (rules, one_more)
