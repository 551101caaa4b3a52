use Rattle.std.proofs.Common.{ℕ, List, ◌++◌, ap, ◌∙◌}
use Rattle.markup.specs.Trees.{each, markup_text}
use Rattle.ucis_model.specs.Paths.{node_at}
use Rattle.page_parts.proofs.Written.{details_written}
use Rattle.merge_store.specs.Now.{nodes_now}
use Rattle.merge_store.specs.Stores.{opening_of, entries_of}
use Rattle.store_views.specs.Views.{rows_at}
use Rattle.cov_history.specs.Nodes.{children, bins_under}
use Rattle.export_page.specs.Views.{word_of, standing_of}
use Rattle.export_page.specs.Page.{instance_part, type_part}
use Rattle.export_page.proofs.nodes.append_type.Goals as goal

pub returns : goal.returns
unfolding type_part
returns c =
    let opening = opening_of c.args.store.now in
    let h = entries_of c.args.store.now in
    let nodes = nodes_now c.args.store.now in
    let node = node_at nodes c.args.node in
    details_written c.args.text.now.items _ _ _ (each (instance_part opening h) (children nodes c.args.node)) (word_of node.kind) node.name (standing_of (rows_at opening h c.args.node) node.goal) c.in_ok-begin_node.ensures
    (c.in_ok-append_instances.ensures ∙ ap (λ (ns : List ℕ). c.begin_node.new.text.items ++ markup_text (each (instance_part opening h) ns)) c.children.ensures.children)
    c.in_ok-end_block.ensures
