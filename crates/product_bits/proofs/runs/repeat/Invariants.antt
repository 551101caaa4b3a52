use Rattle.std.proofs.Common.{◌≡◌, ℕ, ◌+◌, ◌*◌, ◌<◌, Bool}
use Rattle.product_bits.specs.Marks.{is_marked}
use Rattle.product_bits.proofs.runs.repeat.Given as goal

abbrev pub invariant-loop-i : goal.invariant-loop-i
invariant-loop-i l = (f : ℕ → Bool) → ((n : ℕ) → f (n + l.period) ≡ f n) → ((n : ℕ) → n < 64 * l.first → is_marked l.initial.words n ≡ f n) → (n : ℕ) → n < 64 * l.i → is_marked l.words n ≡ f n
