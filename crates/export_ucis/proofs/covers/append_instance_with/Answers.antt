use Rattle.std.proofs.Common.{◌≡◌, ℕ, List, ◌++◌, ◌∙◌, OnOk, subst}
use Rattle.markup.specs.Trees.{markup_text}
use Rattle.merge_store.specs.Stores.{opening_of, entries_of}
use Rattle.export_ucis.specs.Nodes.{points_of, crosses_of, instance_element}
use Rattle.export_ucis.proofs.Chains.{one_more, closed}
use Rattle.export_ucis.proofs.covers.append_instance_with.Goals as goal

pub returns : goal.returns
unfolding instance_element
returns c =
    let opening = opening_of c.args.store.now in
    let h = entries_of c.args.store.now in
    subst (λ (bytes : List ℕ). OnOk c.end_line.result (c.end_line.new.text.items ≡ bytes))
    (closed c.args.text.now.items _ _ _ _ _ _ _ _ c.in_ok-begin_instance_at.ensures
    (one_more c.begin_instance_at.new.text.items _ _ c.append_points.new.text.items c.append_crosses.new.text.items
    (c.in_ok-append_points.ensures
    ∙ (λ i. c.begin_instance_at.new.text.items ++ markup_text (points_of opening h (c.as_slice-arguments.ensures i) (c.as_slice-items.ensures i) (c.children-nodes.ensures.children i))))
    (c.in_ok-append_crosses.ensures
    ∙ (λ i. c.append_points.new.text.items ++ markup_text (crosses_of opening h (c.as_slice-items.ensures i) (c.children-nodes.ensures.children i)))))
    c.in_ok-close.ensures)
    c.end_line.ensures
