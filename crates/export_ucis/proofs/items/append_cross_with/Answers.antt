use Rattle.std.proofs.Common.{◌≡◌, ℕ, List, ◌++◌, ◌∙◌, OnOk, subst}
use Rattle.markup.specs.Trees.{markup_text}
use Rattle.merge_store.specs.Stores.{opening_of, entries_of}
use Rattle.export_ucis.specs.Nodes.{bins_of_cross, cross}
use Rattle.export_ucis.proofs.Chains.{closed}
use Rattle.export_ucis.proofs.items.append_cross_with.Goals as goal

pub returns : goal.returns
unfolding cross
returns c =
    let opening = opening_of c.args.store.now in
    let h = entries_of c.args.store.now in
    subst (λ (bytes : List ℕ). OnOk c.end_line.result (c.end_line.new.text.items ≡ bytes))
    (closed c.args.text.now.items _ _ _ _ _ _ _ _ c.in_ok-begin_cross_at.ensures
    (c.in_ok-append_bins_of_cross.ensures
    ∙ (λ i. c.begin_cross_at.new.text.items ++ markup_text (bins_of_cross opening h (c.as_slice-bins.ensures i) (c.bins_under-nodes.ensures.bins i))))
    c.in_ok-close.ensures)
    c.end_line.ensures
