use Rattle.std.proofs.Common.{sym, ◌∙◌, ap, option_map}
use Rattle.cov_lexer.specs.Spellings.{operators}
use Rattle.cov_lexer.specs.Operators.{first_standing}
use Rattle.cov_lexer.specs.Reading.{seen}
use Rattle.cov_lexer.proofs.Tables.{standing_by_first, longest_operator, none_is_none}
use Rattle.cov_lexer.proofs.operators.operator_at.Goals as goal

pub returns : goal.returns
returns c = longest_operator c.args.text.now c.args.«at» (record { text = c.in-Some.spelled.now; kind = c.in-Some.kind }) c.requires
    (sym (standing_by_first c.args.text.now c.args.«at» operators c.requires)
    ∙ (ap (λ ss. first_standing c.args.text.now c.args.«at» ss) (sym c.operators_from.ensures)
    ∙ (sym c.first_standing.ensures ∙ ap (option_map seen) c.in-Some.is)))

pub returns-in_default : goal.returns-in_default
returns-in_default c = none_is_none c.args.text.now c.args.«at» operators
    (sym (standing_by_first c.args.text.now c.args.«at» operators c.requires)
    ∙ (ap (λ ss. first_standing c.args.text.now c.args.«at» ss) (sym c.operators_from.ensures)
    ∙ (sym c.first_standing.ensures ∙ ap (option_map seen) c.in_default.is)))
