use Rattle.std.proofs.Common.{◌%◌, ◌∙◌, ◌<◌, ◌||◌, length, get_or, arith}
use Rattle.std.specs.Prelude.{bit_or}
use Rattle.product_bits.specs.Marks.{is_marked}
use Rattle.product_bits.proofs.BitLemmas.{has-or}
use Rattle.product_bits.proofs.WordLemmas.{step_done, step_rest, word_is, of_word, either_same, unite_done}
use Rattle.product_bits.proofs.words.unite.Goals as goal

pub loop-i-preserved : goal.loop-i-preserved
loop-i-preserved c =
    let words = c.loop-i.words in
    let i = c.loop-i.i in
    let word = bit_or (get_or words i 0) (get_or c.args.others.now i 0) in
    let inside : i < length words = omega (arith, c.loop-i.auto.words) in
    record {
      done = step_done words i word inside (λ n. is_marked c.args.words.now n || is_marked c.args.others.now n) c.loop-i.invariant.done (λ n e. has-or (get_or words i 0) (get_or c.args.others.now i 0) (n % 64)
          ∙ either_same (word_is words i n (is_marked c.args.words.now) e c.loop-i.invariant.rest) (of_word c.args.others.now i n e));
      rest = step_rest words i word inside (is_marked c.args.words.now) c.loop-i.invariant.rest;
    }

pub returns : goal.returns
returns c = unite_done c.loop-i.words c.args.words.now c.args.others.now c.loop-i.i c.requires (omega (arith, c.loop-i-test.false)) c.loop-i.invariant.done c.loop-i.invariant.rest
