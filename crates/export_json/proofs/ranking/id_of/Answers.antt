use Rattle.std.proofs.Common.{rules}
use Rattle.export_json.proofs.Rows.{id_at}
use Rattle.export_json.proofs.ranking.id_of.Goals as goal

pub returns : goal.returns
returns c = search (rules, id_at)
