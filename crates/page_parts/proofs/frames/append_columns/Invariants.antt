use Rattle.std.proofs.Common.{◌≡◌, ◌++◌, map, drop}
use Rattle.markup.specs.Trees.{each, markup_text}
use Rattle.page_parts.specs.Frames.{column}
use Rattle.page_parts.proofs.frames.append_columns.Given as goal

abbrev pub invariant-loop-name : goal.invariant-loop-name
invariant-loop-name l = l.text.items ++ markup_text (each column (map (λ name. name.now) (drop l.name-index l.columns))) ≡ l.fn.text.items ++ markup_text (each column (map (λ name. name.now) l.columns))
