use Rattle.std.proofs.Common.{◌++◌, ◌∷◌, [], List, map, ap, sym, ◌∙◌, arith}
use Rattle.std.specs.Prelude.{ℤ, Option}
use Rattle.std.specs.List.{range_with_len}
use Rattle.std.proofs.lemmas.List.FromFn.{map-range_with_len_more}
use Rattle.record_codec.specs.Samples.{arg_at}
use Rattle.cov_counting.proofs.values.args_below.Goals as goal

pub loop-index-preserved : goal.loop-index-preserved
loop-index-preserved c =
    let f = arg_at c.args.rows.now c.args.args.now in
    c.in_ok-push.ensures ∙ ap (λ (xs : List (Option ℤ)). xs ++ c.arg_value.result ∷ []) c.loop-index.invariant
    ∙ ap (λ (x : Option ℤ). map f (range_with_len 0 c.loop-index.index) ++ x ∷ []) c.arg_value.ensures
    ∙ sym (map-range_with_len_more f 0 c.loop-index.index c.loop-index.index (omega arith))
