use Rattle.std.proofs.Common.{◌∙◌, ap, sym}
use Rattle.cov_grammar.specs.Designs.{last_is_ref, with_formal}
use Rattle.token_reader.proofs.Chains.{unput}
use Rattle.cov_parser.proofs.groups.FormalListItem.read.Goals as goal

pub returns-in_err-formal : goal.returns-in_err-formal
returns-in_err-formal c = unput with_formal c.args.list.now c.args.list.now _ c.from_residual.ensures.1 c.in_err-formal.ensures.fault

pub returns : goal.returns
returns c =
    let r = c.in_ok-formal.ensures.read in
    (r.0, r.1, c.in_ok-add.ensures ∙ r.2 c.args.list.now (sym (c.last_is_ref-by_ref.ensures ∙ ap last_is_ref c.as_slice.ensures)))
