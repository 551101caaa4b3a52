use Rattle.std.proofs.Common.{ℕ, List, ◌++◌, ◌∙◌, ap, codes}
use Rattle.markup.specs.Trees.{attribute, attribute_text}
use Rattle.export_ucis.proofs.export.append_writer.Goals as goal

pub returns : goal.returns
returns c =
    let first = c.in_ok-append.ensures ∙ ap (λ (bytes : List ℕ). bytes ++ codes "covd ") c.new-writer.ensures.items in
    c.in_ok-value.ensures
    ∙ ap (λ (writer : List ℕ). c.args.text.now.items ++ attribute_text (attribute (codes "writtenBy") writer))
    (c.as_slice.ensures.value ∙ c.in_ok-append-2.ensures ∙ (λ i. first i ++ c.as_bytes.ensures.value i))
