use Rattle.std.proofs.Common.{◌≢◌, ◌<◌, sym, ap, ◌∙◌, arith, length}
use Rattle.std.proofs.lemmas.Bool.{eqb-true, eqb-false}
use Rattle.cov_lexer.specs.Spellings.{kind_among}
use Rattle.cov_lexer.proofs.Tables.{kind_by_first, no_kind}
use Rattle.cov_lexer.proofs.spellings.keyword.Goals as goal

pub returns-then-is_empty : goal.returns-then-is_empty
returns-then-is_empty c = sym (no_kind c.args.text.now (eqb-true (length c.args.text.now) 0 (sym c.if-is_empty.ensures)))

pub returns : goal.returns
returns c =
    let ne : length c.args.text.now ≢ 0 = eqb-false (length c.args.text.now) 0 (sym c.if-is_empty.ensures) in
    let l : 0 < length c.args.text.now = omega arith in
    c.kind_in.ensures ∙ (ap (λ ss. kind_among c.args.text.now ss) c.words_from.ensures ∙ kind_by_first c.args.text.now l)
