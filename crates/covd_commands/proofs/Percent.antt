-- Percentages with and without a point.
use Rattle.std.proofs.Common.{◌≡◌, ℕ, ◌<◌, List, length, Bool, true, false, Some, None, refl, ap, arith}
use Rattle.std.specs.Prelude.{nat_lt, if◌then◌else◌}
use Rattle.std.specs.List.{position_or_len, before_first, after_first}
use Rattle.std.proofs.lemmas.Bool.Decides.{nat_tests}
use Rattle.covd_commands.specs.Digits.{bounded}
use Rattle.covd_commands.specs.Options.{is_point, sum_of, percent_of, fraction_of, millionths_of}

pub with_point : (word percent fraction : List ℕ) → position_or_len is_point word < length word → percent ≡ before_first is_point word → fraction ≡ after_first is_point word
    → bounded 0 1000000 (sum_of (percent_of percent) (fraction_of fraction)) ≡ millionths_of word
unfolding millionths_of
with_point word percent fraction lt p f =
    let t : nat_lt (position_or_len is_point word) (length word) ≡ true = grind (arith, nat_tests) in
    rw (t, p, f) refl

pub without_point : (word : List ℕ) → position_or_len is_point word ≡ length word → percent_of word ≡ millionths_of word
unfolding millionths_of
without_point word e =
    let t : nat_lt (position_or_len is_point word) (length word) ≡ false = grind (arith, nat_tests) in
    rw t refl
