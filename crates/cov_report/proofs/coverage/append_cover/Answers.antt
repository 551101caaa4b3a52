use Rattle.std.proofs.Common.{rules, append_assoc}
use Rattle.std.proofs.lemmas.Result.{IfOk-equal}
use Rattle.cov_report.proofs.coverage.append_cover.Goals as goal

pub returns : goal.returns
returns c = search (rules, IfOk-equal, append_assoc)
