use Rattle.std.proofs.Common.{ℕ, ap, eqb, ◌/◌, ◌%◌, get_or}
use Rattle.std.proofs.lemmas.Nat.Bits.{shr_and_one}
use Rattle.upload_stage.proofs.marks.is_marked.Goals as goal

pub returns : goal.returns
returns c = ap (λ (n : ℕ). eqb n 1) (shr_and_one (get_or c.args.marks.now (c.args.place / 64) 0) (c.args.place % 64))
