use Rattle.std.proofs.Common.{◌≡◌, ℕ, ◌*◌, ◌<◌, ◌≤◌, ◌||◌, ◌&&◌, leb, ltb}
use Rattle.product_bits.specs.Marks.{is_marked}
use Rattle.product_bits.proofs.words.mark_words.Given as goal

abbrev pub invariant-loop-i : goal.invariant-loop-i
invariant-loop-i l = record {
  done : (n : ℕ) → n < 64 * l.i → is_marked l.words n ≡ (is_marked l.initial.words n || (leb (64 * l.first) n && ltb n (64 * l.last)));
  rest : (n : ℕ) → 64 * l.i ≤ n → is_marked l.words n ≡ is_marked l.initial.words n;
}
