use Rattle.std.proofs.Common.{take, ap, subst, sym, ◌∙◌, ◌∷◌, [], ◌++◌, arith}
use Rattle.std.specs.Prelude.{All}
use Rattle.std.proofs.lemmas.List.{take_more, take_all}
use Rattle.std.proofs.lemmas.List.Elements.{All-push}
use Rattle.trans_seq.specs.Cells.{cells_of_items}
use Rattle.trans_found.specs.Lists.{IsShort}
use Rattle.trans_found.proofs.ListingLemmas.{short_cells}
use Rattle.trans_lists.proofs.listing.first_too_long.Goals as goal

pub loop-seq-preserved : goal.loop-seq-preserved
loop-seq-preserved c =
    let seqs = c.args.seqs.now in
    let i = c.loop-seq.seq-index in
    let seq = c.seq-item.result in
    let here : IsShort seq = short_cells (cells_of_items seq.items) c.cells-values.result c.cells-values.ensures c.if-values-gt-MOST_CELLS.false in
    subst (All IsShort) (sym (take_more seqs i seq (omega arith) ∙ ap (λ s. take i seqs ++ s ∷ []) (sym c.seq-item.is)))
    (All-push IsShort (take i seqs) seq c.loop-seq.invariant here)

pub returns-clause-none : goal.returns-clause-none
returns-clause-none c = subst (All IsShort) (take_all c.loop-seq.seq-index c.args.seqs.now (omega arith)) c.loop-seq.invariant
