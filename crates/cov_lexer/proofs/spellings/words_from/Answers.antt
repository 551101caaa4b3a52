use Rattle.std.proofs.Common.{refl, ap, sym, ℕ, arith, [], ◌∷◌}
use Rattle.cov_lexer.specs.Spellings.{words, starting}
use Rattle.cov_lexer.proofs.Tables.{none_starting, outside_false}
use Rattle.cov_lexer.proofs.spellings.words_from.Goals as goal

pub returns-in-98 : goal.returns-in-98
unfolding words
returns-in-98 c = ap (λ (b : ℕ). starting b words) (sym c.in-98.is)

pub returns-in-99 : goal.returns-in-99
unfolding words
returns-in-99 c = ap (λ (b : ℕ). starting b words) (sym c.in-99.is)

pub returns-in-100 : goal.returns-in-100
unfolding words
returns-in-100 c = ap (λ (b : ℕ). starting b words) (sym c.in-100.is)

pub returns-in-101 : goal.returns-in-101
unfolding words
returns-in-101 c = ap (λ (b : ℕ). starting b words) (sym c.in-101.is)

pub returns-in-102 : goal.returns-in-102
unfolding words
returns-in-102 c = ap (λ (b : ℕ). starting b words) (sym c.in-102.is)

pub returns-in-105 : goal.returns-in-105
unfolding words
returns-in-105 c = ap (λ (b : ℕ). starting b words) (sym c.in-105.is)

pub returns-in-108 : goal.returns-in-108
unfolding words
returns-in-108 c = ap (λ (b : ℕ). starting b words) (sym c.in-108.is)

pub returns-in-109 : goal.returns-in-109
unfolding words
returns-in-109 c = ap (λ (b : ℕ). starting b words) (sym c.in-109.is)

pub returns-in-110 : goal.returns-in-110
unfolding words
returns-in-110 c = ap (λ (b : ℕ). starting b words) (sym c.in-110.is)

pub returns-in-111 : goal.returns-in-111
unfolding words
returns-in-111 c = ap (λ (b : ℕ). starting b words) (sym c.in-111.is)

pub returns-in-112 : goal.returns-in-112
unfolding words
returns-in-112 c = ap (λ (b : ℕ). starting b words) (sym c.in-112.is)

pub returns-in-114 : goal.returns-in-114
unfolding words
returns-in-114 c = ap (λ (b : ℕ). starting b words) (sym c.in-114.is)

pub returns-in-115 : goal.returns-in-115
unfolding words
returns-in-115 c = ap (λ (b : ℕ). starting b words) (sym c.in-115.is)

pub returns-in-116 : goal.returns-in-116
unfolding words
returns-in-116 c = ap (λ (b : ℕ). starting b words) (sym c.in-116.is)

pub returns-in-117 : goal.returns-in-117
unfolding words
returns-in-117 c = ap (λ (b : ℕ). starting b words) (sym c.in-117.is)

pub returns-in-119 : goal.returns-in-119
unfolding words
returns-in-119 c = ap (λ (b : ℕ). starting b words) (sym c.in-119.is)

pub returns-in_default : goal.returns-in_default
unfolding words
returns-in_default c = sym (none_starting c.args.first (98 ∷ 99 ∷ 100 ∷ 101 ∷ 102 ∷ 105 ∷ 108 ∷ 109 ∷ 110 ∷ 111 ∷ 112 ∷ 114 ∷ 115 ∷ 116 ∷ 117 ∷ 119 ∷ []) words refl
    (outside_false c.args.first (98 ∷ 99 ∷ 100 ∷ 101 ∷ 102 ∷ 105 ∷ 108 ∷ 109 ∷ 110 ∷ 111 ∷ 112 ∷ 114 ∷ 115 ∷ 116 ∷ 117 ∷ 119 ∷ []) (omega arith, (omega arith, (omega arith, (omega arith, (omega arith, (omega arith, (omega arith, (omega arith, (omega arith, (omega arith, (omega arith, (omega arith, (omega arith, (omega arith, (omega arith, (omega arith, tt))))))))))))))))))
