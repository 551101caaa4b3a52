use Rattle.std.proofs.Common.{ℕ, List, ◌++◌, ◌∙◌, ap}
use Rattle.markup.specs.Trees.{markup_text}
use Rattle.merge_store.specs.Stores.{opening_of, entries_of}
use Rattle.export_ucis.specs.Export.{whole, ucis_of, declaration, ucis_text}
use Rattle.export_ucis.proofs.export.ucis_lines.Goals as goal

pub returns : goal.returns
unfolding ucis_text ucis_of declaration
returns c =
    let opening = opening_of c.args.store.now in
    let h = entries_of c.args.store.now in
    let first = c.in_ok-append.ensures ∙ ap (λ (bytes : List ℕ). bytes ++ declaration) c.new-text.ensures.items in
    let tests = c.as_slice.ensures.value ∙ c.in_ok-tests.ensures in
    c.in_ok-append_whole.ensures ∙ (λ i. first i ++ markup_text (whole opening h (tests i)))
