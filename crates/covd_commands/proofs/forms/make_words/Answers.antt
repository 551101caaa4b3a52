use Rattle.std.proofs.Common.{rules, map}
use Rattle.std.specs.Prelude.{string_bytes, codes}
use Rattle.covd_commands.specs.Options.{options_in}
use Rattle.covd_commands.specs.Forms.{NoneAsked}
use Rattle.covd_commands.proofs.NoForm.{no_making, no_make}
use Rattle.covd_commands.proofs.forms.make_words.Goals as goal

pub returns-in_err-options : goal.returns-in_err-options
returns-in_err-options c =
    let none : NoneAsked (codes "make") (map string_bytes c.args.words.now) = search rules in
    let no = no_making (map string_bytes c.args.words.now) none in
    search rules

pub returns-in-None : goal.returns-in-None
returns-in-None c =
    no_make (map string_bytes c.args.words.now) (map string_bytes c.in_ok-options.rest.now) (options_in c.in_ok-options.options) c.in_ok-options.design.now c.in_ok-seed.seed.now c.in_ok-seed.rounds.now c.in_ok-seed.tests.now c.in_ok-options.ensures c.in_ok-seed.ensures c.in-None.ensures
