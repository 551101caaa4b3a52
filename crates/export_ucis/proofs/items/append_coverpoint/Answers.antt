use Rattle.std.proofs.Common.{◌≡◌, ℕ, List, ◌++◌, ◌∙◌, OnOk, subst}
use Rattle.markup.specs.Trees.{markup_text}
use Rattle.merge_store.specs.Stores.{opening_of, entries_of}
use Rattle.export_ucis.specs.Nodes.{bins_of_point, coverpoint}
use Rattle.export_ucis.proofs.Chains.{closed}
use Rattle.export_ucis.proofs.items.append_coverpoint.Goals as goal

pub returns : goal.returns
unfolding coverpoint
returns c =
    let opening = opening_of c.args.store.now in
    let h = entries_of c.args.store.now in
    subst (λ (bytes : List ℕ). OnOk c.end_line.result (c.end_line.new.text.items ≡ bytes))
    (closed c.args.text.now.items _ _ _ _ _ _ _ _ c.in_ok-begin_point_at.ensures
    (c.in_ok-append_bins_of_point.ensures
    ∙ (λ i. c.begin_point_at.new.text.items ++ markup_text (bins_of_point opening h (c.typ-typ.ensures i) (c.as_slice-bins.ensures i) (c.bins_under-nodes.ensures.bins i))))
    c.in_ok-close.ensures)
    c.end_line.ensures
