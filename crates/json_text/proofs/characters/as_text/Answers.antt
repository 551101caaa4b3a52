use Rattle.std.proofs.Common.{rules}
use Rattle.std.proofs.lemmas.Str.{encodes-IsAscii}
use Rattle.json_text.proofs.characters.as_text.Goals as goal

pub returns : goal.returns
returns c = search (rules, encodes-IsAscii)
