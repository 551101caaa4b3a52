use Rattle.std.proofs.Common.{ℕ, List, ◌++◌, map, subst}
use Rattle.waivers.specs.Patterns.{Byte}
use Rattle.waivers.specs.Patterns.{fits}
use Rattle.waivers.specs.Pieces.{IsRow}
use Rattle.waivers.proofs.rows.put_piece.Goals as goal

pub returns-in-Literal : goal.returns-in-Literal
returns-in-Literal c = λ more t. rw c.in-Literal.is (subst (λ (bytes : List ℕ). IsRow (fits (map Byte bytes ++ more)) c.args.path.now c.put_literal.new.row) c.as_slice.ensures (c.put_literal.ensures more t))

pub returns-in-WithinName : goal.returns-in-WithinName
returns-in-WithinName c = λ more t. rw c.in-WithinName.is (c.put_within_name.ensures more t)

pub returns-in-Anything : goal.returns-in-Anything
returns-in-Anything c = λ more t. rw c.in-Anything.is (c.put_anything.ensures more t)
