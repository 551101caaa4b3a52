use Rattle.std.proofs.Common.{◌≡◌, ℕ, ◌<◌, get_or}
use Rattle.trans_seq.specs.declared.seq.Seq.{Seq}
use Rattle.sampler_plans.proofs.sameness.same_seqs.Given as goal

abbrev pub invariant-loop-k : goal.invariant-loop-k
invariant-loop-k l = (j : ℕ) (d : Seq) → j < l.k → get_or l.first j d ≡ get_or l.second j d
