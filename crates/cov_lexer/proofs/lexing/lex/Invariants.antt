use Rattle.std.proofs.Common.{◌≤◌, ◌-◌, ◌++◌, List, ℕ, length}
use Rattle.cov_lexer.specs.declared.token.Token.{Token}
use Rattle.cov_lexer.specs.Lexes.{Covers}
use Rattle.cov_lexer.proofs.lexing.lex.Given as goal

-- what covers the rest completes the tokens so far
abbrev pub invariant-loop-at : goal.invariant-loop-at
invariant-loop-at l = record {
  so_far : (c : ℕ) (rest : List Token) (k : ℕ) → Covers l.text c l.«at» rest k → (d : ℕ) × Covers l.text d 0 (l.tokens.items ++ rest) k;
  inside : l.«at» ≤ length l.text;
}

abbrev pub decreases-loop-at : goal.decreases-loop-at
decreases-loop-at l = length l.text - l.«at»
