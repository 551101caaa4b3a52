use Rattle.std.proofs.Common.{map, inl, inr}
use Rattle.std.proofs.lemmas.Result.{IfOk-weaker}
use Rattle.std.specs.Prelude.{string_bytes}
use Rattle.covd_commands.specs.Options.{options_in}
use Rattle.covd_core.proofs.printing.filled.Goals as goal

pub returns-in-Some-clause-answer : goal.returns-in-Some-clause-answer
returns-in-Some-clause-answer g c =
    IfOk-weaker c.report.result _ _ (λ a h. inl (options_in c.in-Some.options, c.in-Some.design.now, map string_bytes c.in-Some.names.now, c.in-Some.ensures, h)) c.report.ensures.answer

pub returns-in-Some-export_words-clause-answer : goal.returns-in-Some-export_words-clause-answer
returns-in-Some-export_words-clause-answer g c =
    let w = c.in-Some-export_words in
    IfOk-weaker c.report-in-Some-export_words.result _ _ (λ a h. inr (inl (options_in w.options, w.form, w.design.now, map string_bytes w.names.now, w.ensures, h))) c.report-in-Some-export_words.ensures.answer

pub returns-in-Some-make_words-clause-answer : goal.returns-in-Some-make_words-clause-answer
returns-in-Some-make_words-clause-answer g c =
    let n = c.in-Some-make_words.numbers in
    IfOk-weaker c.report-in-Some-make_words.result _ _ (λ a h. inr (inr (options_in c.in-Some-make_words.options, c.in-Some-make_words.design.now, n.seed, n.rounds, n.tests, c.in-Some-make_words.ensures, h))) c.report-in-Some-make_words.ensures.answer
