-- A reader's text and tokens in the rules of the grammar.
use Rattle.std.specs.Prelude.{ℕ, List, Option, Result}
use Rattle.cov_grammar.specs.declared.marked.Marked.{Marked}
use Rattle.cov_grammar.specs.declared.place.Place.{Place}
use Rattle.cov_grammar.specs.declared.place.Room.{Room}
use Rattle.cov_grammar.specs.declared.place.Stop.{Stop}
use Rattle.cov_grammar.specs.Rule.{Rule}
use Rattle.cov_grammar.specs.Parses.{Reads, Fails, Parses}
use Rattle.token_reader.specs.declared.reader.Reader.{Reader}

-- a rule over the text and the tokens that the reader has
abbrev pub over : {X : Type 1} → Reader → (List ℕ → List Marked → X) → X
over reader rule = rule reader.text.now reader.tokens.now

-- what is read, and what a reader answered, whatever the room
abbrev pub ReadsAlways : {T : Type 0} → Rule T → Place → T × Place → Type 0
ReadsAlways A p x = (r : Room) → Reads (λ _. A) r p x.0 x.1

abbrev pub FailsAlways : {T : Type 0} → Rule T → Place → Stop → Type 0
FailsAlways A p s = (r : Room) → Fails (λ _. A) r p s

abbrev pub ParsesAlways : {T : Type 0} → Rule T → Place → Result (T × Place) Stop → Type 0
ParsesAlways A p result = (r : Room) → Parses (λ _. A) r p result

-- the rule reads a token or nothing from p up to q, of which P holds, whatever the room
abbrev pub Took : Rule (Option Marked) → (Option Marked → Type 0) → Place → Place → Type 0
Took A P p q = (r : Room) → (t : Option Marked) × Reads (λ _. A) r p t q × P t
