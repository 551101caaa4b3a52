use Rattle.std.proofs.Common.{◌≡◌, ℕ, List, ◌++◌, ◌∙◌, OnOk, subst}
use Rattle.markup.specs.Trees.{markup_text}
use Rattle.merge_store.specs.Stores.{opening_of, entries_of}
use Rattle.export_ucis.specs.Nodes.{types_of}
use Rattle.export_ucis.specs.Export.{coverage_element}
use Rattle.export_ucis.proofs.Chains.{one_more, closed}
use Rattle.export_ucis.proofs.export.append_coverage.Goals as goal

pub returns : goal.returns
unfolding coverage_element
returns c =
    let opening = opening_of c.args.store.now in
    let h = entries_of c.args.store.now in
    subst (λ (bytes : List ℕ). OnOk c.end_line-3.result (c.end_line-3.new.text.items ≡ bytes))
    (closed c.args.text.now.items _ _ _ _ _ _ _ _
    (one_more c.args.text.now.items _ _ c.begin_coverage.new.text.items c.end_line.new.text.items c.in_ok-begin_coverage.ensures c.in_ok-end_line.ensures)
    (one_more c.end_line.new.text.items _ _ c.end_line-2.new.text.items c.append_types.new.text.items
    (one_more c.end_line.new.text.items _ _ c.append_source_id.new.text.items c.end_line-2.new.text.items c.in_ok-append_source_id.ensures c.in_ok-end_line-2.ensures)
    (c.in_ok-append_types.ensures ∙ (λ i. c.end_line-2.new.text.items ++ markup_text (types_of opening h (c.children-nodes.ensures.children i)))))
    c.in_ok-close.ensures)
    c.end_line-3.ensures
