use Rattle.std.proofs.Common.{ℕ, List, ◌++◌, codes, ap, ◌∙◌}
use Rattle.markup.specs.Trees.{each, markup_text}
use Rattle.page_parts.proofs.Written.{section_written}
use Rattle.merge_store.specs.Now.{nodes_now}
use Rattle.merge_store.specs.Stores.{opening_of, entries_of}
use Rattle.cov_history.specs.Nodes.{children}
use Rattle.export_page.specs.Page.{type_part, types_part}
use Rattle.export_page.proofs.nodes.append_types.Goals as goal

pub returns : goal.returns
unfolding types_part
returns c =
    let types = each (type_part (opening_of c.args.store.now) (entries_of c.args.store.now)) in
    section_written c.args.text.now.items _ _ _ (types (children (nodes_now c.args.store.now) 0)) (codes "types") (codes "Types, instances and items") c.in_ok-begin_section.ensures
    (c.in_ok-append_all_types.ensures ∙ ap (λ (ns : List ℕ). c.begin_section.new.text.items ++ markup_text (types ns)) c.children.ensures.children)
    c.in_ok-end_block.ensures
