use Rattle.std.proofs.Common.{◌++◌, ◌∷◌, [], List, map, ap, sym, ◌∙◌, arith}
use Rattle.std.specs.Prelude.{ℤ, ℕ, Option, reverse, slice_get}
use Rattle.std.specs.List.{range_with_len}
use Rattle.std.proofs.lemmas.List.FromFn.{map-range_with_len_more}
use Rattle.record_codec.specs.Samples.{signal_at, signal_value}
use Rattle.cov_counting.proofs.values.signals_below.Goals as goal

pub loop-index-preserved : goal.loop-index-preserved
loop-index-preserved c =
    let f = signal_at c.args.rows.now (reverse c.args.before.now) in
    let here = c.signal_value.ensures ∙ ap (λ (bits : Option ℕ). signal_value (slice_get c.args.rows.now c.loop-index.index) bits) c.latest.ensures in
    c.in_ok-push.ensures ∙ ap (λ (xs : List (Option ℤ)). xs ++ c.signal_value.result ∷ []) c.loop-index.invariant
    ∙ ap (λ (x : Option ℤ). map f (range_with_len 0 c.loop-index.index) ++ x ∷ []) here
    ∙ sym (map-range_with_len_more f 0 c.loop-index.index c.loop-index.index (omega arith))
