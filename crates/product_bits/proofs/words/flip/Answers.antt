use Rattle.std.proofs.Common.{◌-◌, ◌^◌, ◌%◌, ◌∙◌, ◌<◌, length, get_or, ap, arith}
use Rattle.std.specs.Prelude.{not}
use Rattle.product_bits.specs.Marks.{is_marked}
use Rattle.product_bits.proofs.BitLemmas.{has-not}
use Rattle.product_bits.proofs.WordLemmas.{step_done, step_rest, word_is}
use Rattle.product_bits.proofs.words.flip.Goals as goal

pub loop-i-preserved : goal.loop-i-preserved
loop-i-preserved c =
    let words = c.loop-i.words in
    let i = c.loop-i.i in
    let word = 2 ^ 64 - 1 - get_or words i 0 in
    let inside : i < length words = omega (arith, c.loop-i.auto.words) in
    record {
      done = step_done words i word inside (λ n. not (is_marked c.args.words.now n)) c.loop-i.invariant.done (λ n e. has-not (get_or words i 0) (n % 64) (omega (arith, c.items_fit i)) (omega arith)
          ∙ ap not (word_is words i n (is_marked c.args.words.now) e c.loop-i.invariant.rest));
      rest = step_rest words i word inside (is_marked c.args.words.now) c.loop-i.invariant.rest;
    }
