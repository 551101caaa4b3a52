-- The steps and sequences of a declaration of transition bins (IEEE 1800-2017, 19.5.2).
use Rattle.std.specs.Prelude.{ℕ, ◌-◌, ◌^◌, min, ℤ, pos, int_le, unsigned_abs, List, [], ◌∷◌, ◌++◌, Bool, ◌&&◌, Result, Ok}
use Rattle.cov_base.specs.Sets.{set_of}
use Rattle.cov_tree.specs.declared.expr.Expr.{Expr}
use Rattle.cov_tree.specs.declared.bins.Step.{Step}
use Rattle.cov_tree.specs.declared.bins.Times.{Times}
use Rattle.cov_tree.specs.declared.bins.Times.TheVariants as times
use Rattle.const_eval.specs.Scopes.{Levels}
use Rattle.trans_seq.specs.declared.seq.Item.{Item}
use Rattle.trans_seq.specs.declared.seq.Seq.{Seq}
use Rattle.trans_seq.specs.declared.seq.Repeat.{Repeat}
use Rattle.trans_seq.specs.declared.seq.Repeat.TheVariants.{Once, Consec, Goto, NonConsec}
use Rattle.elab_base.specs.declared.fault.ElabKind.TheVariants as kind
use Rattle.elab_base.specs.Gives.{Refusal, ◌>>=◌, needs, each}
use Rattle.elab_base.specs.Steps.{number_in}
use Rattle.elab_values.specs.declared.domain.Domain.{Domain}
use Rattle.elab_values.specs.Listed.{listed_in, numbers_listed}
use Rattle.elab_transitions.specs.declared.steps.ListedStep.{ListedStep}

-- A count, or 2^32 - 1 where it is larger. That many cells are far too many: whichever number stands for such a count,
-- its declaration is refused.
abbrev pub capped : ℤ → ℕ
capped n = min (unsigned_abs n) (2 ^ 32 - 1)

-- whether counts are the ends of a repetition
abbrev pub is_repetition : (low high : ℤ) → Bool
is_repetition low high = int_le (pos 1) low && int_le low high

unfoldable pub ends_of : Levels → (low high : Expr) → ℕ → Result (ℕ × ℕ) Refusal
ends_of levels low high at = do
  l ← number_in levels low
  h ← number_in levels high
  _ ← needs (is_repetition l h) kind.BadRepeat at
  Ok (capped l, capped h)

unfoldable pub repeat_of : Levels → Times → ℕ → Result Repeat Refusal
repeat_of levels times.Once at = Ok Once
repeat_of levels (times.Consec low high) at = do
  ends ← ends_of levels low high at
  Ok (Consec ends.0 ends.1)
repeat_of levels (times.Goto low high) at = do
  ends ← ends_of levels low high at
  Ok (Goto ends.0 ends.1)
repeat_of levels (times.NonConsec low high) at = do
  ends ← ends_of levels low high at
  Ok (NonConsec ends.0 ends.1)

-- a step: its elements, and then its repetition
unfoldable pub step_of : Levels → Domain → (wildcard : Bool) → Step → Result ListedStep Refusal
step_of levels domain wildcard step = do
  elements ← listed_in levels domain wildcard step.elems
  repeat ← repeat_of levels step.times step.at
  Ok (record { elements = elements; repeat = repeat })

unfoldable pub with_step : Levels → Domain → (wildcard : Bool) → Step → List ListedStep → Result (List ListedStep) Refusal
with_step levels domain wildcard step steps = do
  next ← step_of levels domain wildcard step
  Ok (steps ++ next ∷ [])

unfoldable pub steps_of : Levels → Domain → (wildcard : Bool) → List Step → Result (List ListedStep) Refusal
steps_of levels domain wildcard steps = each (with_step levels domain wildcard) steps []

unfoldable pub with_sequence : Levels → Domain → (wildcard : Bool) → List Step → List (List ListedStep) → Result (List (List ListedStep)) Refusal
with_sequence levels domain wildcard steps sequences = do
  next ← steps_of levels domain wildcard steps
  Ok (sequences ++ next ∷ [])

-- the steps of a declaration's sequences
unfoldable pub sequences_of : Levels → Domain → (wildcard : Bool) → List (List Step) → Result (List (List ListedStep)) Refusal
sequences_of levels domain wildcard sequences = each (with_sequence levels domain wildcard) sequences []

-- ---- sequences

-- the set of a step's numbers, those of the point alone, with its repetition
unfoldable pub item_of : Domain → ListedStep → ℕ → Result Item Refusal
item_of domain step at = do
  numbers ← numbers_listed domain step.elements at
  Ok (record { set = set_of numbers; repeat = step.repeat })

unfoldable pub with_item : Domain → ℕ → ListedStep → List Item → Result (List Item) Refusal
with_item domain at step items = do
  item ← item_of domain step at
  Ok (items ++ item ∷ [])

unfoldable pub items_of : Domain → ℕ → List ListedStep → Result (List Item) Refusal
items_of domain at steps = each (with_item domain at) steps []

unfoldable pub with_seq : Domain → ℕ → List ListedStep → List Seq → Result (List Seq) Refusal
with_seq domain at steps seqs = do
  items ← items_of domain at steps
  Ok (seqs ++ record { items = items } ∷ [])

-- the sequences of a declaration at a place: the sets of its steps' literals with digits x, z or ? are within their limit
unfoldable pub seqs_of : Domain → List (List ListedStep) → ℕ → Result (List Seq) Refusal
seqs_of domain sequences at = each (with_seq domain at) sequences []
