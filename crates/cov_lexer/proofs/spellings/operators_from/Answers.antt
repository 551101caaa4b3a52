use Rattle.std.proofs.Common.{refl, ap, sym, ℕ, arith, [], ◌∷◌}
use Rattle.cov_lexer.specs.Spellings.{operators, starting}
use Rattle.cov_lexer.proofs.Tables.{none_starting, outside_false}
use Rattle.cov_lexer.proofs.spellings.operators_from.Goals as goal

pub returns-in-61 : goal.returns-in-61
unfolding operators
returns-in-61 c = ap (λ (b : ℕ). starting b operators) (sym c.in-61.is)

pub returns-in-33 : goal.returns-in-33
unfolding operators
returns-in-33 c = ap (λ (b : ℕ). starting b operators) (sym c.in-33.is)

pub returns-in-60 : goal.returns-in-60
unfolding operators
returns-in-60 c = ap (λ (b : ℕ). starting b operators) (sym c.in-60.is)

pub returns-in-62 : goal.returns-in-62
unfolding operators
returns-in-62 c = ap (λ (b : ℕ). starting b operators) (sym c.in-62.is)

pub returns-in-45 : goal.returns-in-45
unfolding operators
returns-in-45 c = ap (λ (b : ℕ). starting b operators) (sym c.in-45.is)

pub returns-in-38 : goal.returns-in-38
unfolding operators
returns-in-38 c = ap (λ (b : ℕ). starting b operators) (sym c.in-38.is)

pub returns-in-124 : goal.returns-in-124
unfolding operators
returns-in-124 c = ap (λ (b : ℕ). starting b operators) (sym c.in-124.is)

pub returns-in-126 : goal.returns-in-126
unfolding operators
returns-in-126 c = ap (λ (b : ℕ). starting b operators) (sym c.in-126.is)

pub returns-in-94 : goal.returns-in-94
unfolding operators
returns-in-94 c = ap (λ (b : ℕ). starting b operators) (sym c.in-94.is)

pub returns-in-64 : goal.returns-in-64
unfolding operators
returns-in-64 c = ap (λ (b : ℕ). starting b operators) (sym c.in-64.is)

pub returns-in-42 : goal.returns-in-42
unfolding operators
returns-in-42 c = ap (λ (b : ℕ). starting b operators) (sym c.in-42.is)

pub returns-in-43 : goal.returns-in-43
unfolding operators
returns-in-43 c = ap (λ (b : ℕ). starting b operators) (sym c.in-43.is)

pub returns-in-58 : goal.returns-in-58
unfolding operators
returns-in-58 c = ap (λ (b : ℕ). starting b operators) (sym c.in-58.is)

pub returns-in-40 : goal.returns-in-40
unfolding operators
returns-in-40 c = ap (λ (b : ℕ). starting b operators) (sym c.in-40.is)

pub returns-in-41 : goal.returns-in-41
unfolding operators
returns-in-41 c = ap (λ (b : ℕ). starting b operators) (sym c.in-41.is)

pub returns-in-91 : goal.returns-in-91
unfolding operators
returns-in-91 c = ap (λ (b : ℕ). starting b operators) (sym c.in-91.is)

pub returns-in-93 : goal.returns-in-93
unfolding operators
returns-in-93 c = ap (λ (b : ℕ). starting b operators) (sym c.in-93.is)

pub returns-in-123 : goal.returns-in-123
unfolding operators
returns-in-123 c = ap (λ (b : ℕ). starting b operators) (sym c.in-123.is)

pub returns-in-125 : goal.returns-in-125
unfolding operators
returns-in-125 c = ap (λ (b : ℕ). starting b operators) (sym c.in-125.is)

pub returns-in-44 : goal.returns-in-44
unfolding operators
returns-in-44 c = ap (λ (b : ℕ). starting b operators) (sym c.in-44.is)

pub returns-in-59 : goal.returns-in-59
unfolding operators
returns-in-59 c = ap (λ (b : ℕ). starting b operators) (sym c.in-59.is)

pub returns-in-46 : goal.returns-in-46
unfolding operators
returns-in-46 c = ap (λ (b : ℕ). starting b operators) (sym c.in-46.is)

pub returns-in-47 : goal.returns-in-47
unfolding operators
returns-in-47 c = ap (λ (b : ℕ). starting b operators) (sym c.in-47.is)

pub returns-in-37 : goal.returns-in-37
unfolding operators
returns-in-37 c = ap (λ (b : ℕ). starting b operators) (sym c.in-37.is)

pub returns-in-63 : goal.returns-in-63
unfolding operators
returns-in-63 c = ap (λ (b : ℕ). starting b operators) (sym c.in-63.is)

pub returns-in-36 : goal.returns-in-36
unfolding operators
returns-in-36 c = ap (λ (b : ℕ). starting b operators) (sym c.in-36.is)

pub returns-in-35 : goal.returns-in-35
unfolding operators
returns-in-35 c = ap (λ (b : ℕ). starting b operators) (sym c.in-35.is)

pub returns-in-39 : goal.returns-in-39
unfolding operators
returns-in-39 c = ap (λ (b : ℕ). starting b operators) (sym c.in-39.is)

pub returns-in_default : goal.returns-in_default
unfolding operators
returns-in_default c = sym (none_starting c.args.first (61 ∷ 33 ∷ 60 ∷ 62 ∷ 45 ∷ 38 ∷ 124 ∷ 126 ∷ 94 ∷ 64 ∷ 42 ∷ 43 ∷ 58 ∷ 40 ∷ 41 ∷ 91 ∷ 93 ∷ 123 ∷ 125 ∷ 44 ∷ 59 ∷ 46 ∷ 47 ∷ 37 ∷ 63 ∷ 36 ∷ 35 ∷ 39 ∷ []) operators refl
    (outside_false c.args.first (61 ∷ 33 ∷ 60 ∷ 62 ∷ 45 ∷ 38 ∷ 124 ∷ 126 ∷ 94 ∷ 64 ∷ 42 ∷ 43 ∷ 58 ∷ 40 ∷ 41 ∷ 91 ∷ 93 ∷ 123 ∷ 125 ∷ 44 ∷ 59 ∷ 46 ∷ 47 ∷ 37 ∷ 63 ∷ 36 ∷ 35 ∷ 39 ∷ []) (omega arith, (omega arith, (omega arith, (omega arith, (omega arith, (omega arith, (omega arith, (omega arith, (omega arith, (omega arith, (omega arith, (omega arith, (omega arith, (omega arith, (omega arith, (omega arith, (omega arith, (omega arith, (omega arith, (omega arith, (omega arith, (omega arith, (omega arith, (omega arith, (omega arith, (omega arith, (omega arith, (omega arith, tt))))))))))))))))))))))))))))))
