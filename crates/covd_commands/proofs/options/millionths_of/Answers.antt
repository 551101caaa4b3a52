use Rattle.std.proofs.Common.{◌≡◌, ◌∙◌, rules, arith, Some, None}
use Rattle.std.proofs.lemmas.Str.Pattern.{split_once_first}
use Rattle.covd_commands.proofs.Percent.{with_point, without_point}
use Rattle.covd_commands.proofs.options.millionths_of.Goals as goal

pub returns-in-Some-clause-is : goal.returns-in-Some-clause-is
returns-in-Some-clause-is c =
    let at = split_once_first 46 c.args.word.now (Some (c.in-Some.percent, c.in-Some.fraction)) c.in-Some.ensures.cases (omega arith) in
    let whole = with_point c.args.word.now c.in-Some.percent.now c.in-Some.fraction.now at.0 at.1 at.2 in
    search rules

pub returns-in-None-clause-is : goal.returns-in-None-clause-is
returns-in-None-clause-is c =
    let at = split_once_first 46 c.args.word.now None c.in-None.ensures.cases (omega arith) in
    let whole = without_point c.args.word.now at in
    search rules
