use Rattle.std.proofs.Common.{rules, map}
use Rattle.std.specs.Prelude.{string_bytes, codes}
use Rattle.covd_commands.specs.Forms.{NoneAsked}
use Rattle.covd_commands.proofs.NoForm.{no_report}
use Rattle.covd_commands.proofs.forms.report_words.Goals as goal

pub returns-in_err-options : goal.returns-in_err-options
returns-in_err-options c =
    let none : NoneAsked (codes "report") (map string_bytes c.args.words.now) = search rules in
    let no = no_report (map string_bytes c.args.words.now) none in
    search rules
