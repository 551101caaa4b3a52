use Rattle.std.proofs.Common.{ℕ, ap, eqb, ◌/◌, ◌%◌, get_or}
use Rattle.std.proofs.lemmas.Nat.Bits.{shr_and_one}
use Rattle.product_bits.proofs.words.is_marked.Goals as goal

pub returns : goal.returns
returns c = ap (λ (n : ℕ). eqb n 1) (shr_and_one (get_or c.args.words.now (c.args.at / 64) 0) (c.args.at % 64))
