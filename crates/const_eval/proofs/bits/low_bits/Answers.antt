use Rattle.std.proofs.Common.{ap, sym, subst, ◌<◌, ◌-◌, ◌∙◌, ◌%◌, ◌^◌, of_z}
use mir.Syntax.{w128}
use Rattle.std.proofs.lemmas.Int.{to_z-of_z}
use Rattle.const_eval.proofs.Words.{low_word, mod_of_z, bits_below}
use Rattle.const_eval.proofs.bits.low_bits.Goals as goal

pub returns-clause-value : goal.returns-clause-value
returns-clause-value c = low_word c.args.width c.cast_unsigned.result c.ones.result c.get-width.ensures.range.1 c.ones.ensures ∙ ap (λ n. n % 2 ^ c.args.width) (c.cast_unsigned.ensures ∙ ap (of_z w128) (to_z-of_z w128 c.args.number c.ranges.number)) ∙ mod_of_z c.args.width c.args.number c.get-width.ensures.range.1 c.ranges.number

pub returns-clause-below : goal.returns-clause-below
returns-clause-below c = subst (λ k. k < 2 ^ c.args.width) (sym (returns-clause-value c)) (bits_below c.args.width c.args.number)
