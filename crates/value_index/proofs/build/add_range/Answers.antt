use Rattle.std.proofs.Common.{◌≡◌, ℕ, inl, inr, subst, arith}
use Rattle.std.proofs.lemmas.Bool.{cases_lt}
use Rattle.value_index.specs.Built.{RangeAdded}
use Rattle.value_index.proofs.Added.{range_empty}
use Rattle.value_index.proofs.build.add_range.Goals as goal

pub returns : goal.returns
returns c = elim (cases_lt c.args.to c.args.from) [
  | inl lt ↦ range_empty c.args.from c.args.to c.args.bin c.args.rows.now c.loop-s.rows (omega arith) (subst (λ (s : ℕ). RangeAdded c.args.from s c.args.bin c.args.rows.now c.loop-s.rows) (c.loop-s.invariant.stop lt) c.loop-s.invariant.added)
  | inr le ↦ let end : c.loop-s.s ≡ c.args.to = omega (arith, c.loop-s.auto.s-end le) in subst (λ (s : ℕ). RangeAdded c.args.from s c.args.bin c.args.rows.now c.loop-s.rows) end c.loop-s.invariant.added
]
