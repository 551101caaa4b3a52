use Rattle.std.proofs.Common.{◌≡◌, ℕ, List, ◌++◌, ◌∙◌, OnOk, subst}
use Rattle.markup.specs.Trees.{markup_text}
use Rattle.merge_store.specs.Stores.{opening_of, entries_of}
use Rattle.export_ucis.specs.Nodes.{instances_of, type_with}
use Rattle.export_ucis.proofs.Chains.{one_more, closed}
use Rattle.export_ucis.proofs.covers.append_type_with.Goals as goal

pub returns : goal.returns
unfolding type_with
returns c =
    let opening = opening_of c.args.store.now in
    let h = entries_of c.args.store.now in
    subst (λ (bytes : List ℕ). OnOk c.end_line-2.result (c.end_line-2.new.text.items ≡ bytes))
    (closed c.args.text.now.items _ _ _ _ _ _ _ _
    (one_more c.args.text.now.items _ _ c.begin_type.new.text.items c.end_line.new.text.items c.in_ok-begin_type.ensures c.in_ok-end_line.ensures)
    (c.in_ok-append_instances.ensures
    ∙ (λ i. c.end_line.new.text.items ++ markup_text (instances_of opening h c.args.group.now (c.children-nodes.ensures.children i))))
    c.in_ok-close.ensures)
    c.end_line-2.ensures
