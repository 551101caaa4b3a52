use Rattle.std.proofs.Common.{◌≤◌, List, [], ◌++◌, length, take, ap, sym, ◌∙◌, arith}
use Rattle.std.specs.Prelude.{slice_get, reverse}
use Rattle.std.proofs.lemmas.List.{append-nil, drop_all}
use Rattle.record_codec.specs.declared.record.InstRow.{InstRow}
use Rattle.record_codec.specs.declared.record.Event.{Event}
use Rattle.record_codec.specs.Samples.{args_of, envs_after, samples_of}
use Rattle.cov_counting.proofs.values.samples.Goals as goal

pub returns : goal.returns
unfolding samples_of
returns c =
    let signals = c.as_slice-signals.result.now in
    let rows = c.arguments-rows.result.now in
    let events = c.as_slice-events.result.now in
    let i = c.loop-index.index in
    let at = c.args.instance in
    let le : length events ≤ i = omega arith in
    let is_rows = c.arguments-rows.ensures ∙ ap (λ (x : List InstRow). args_of (slice_get x at)) c.as_slice.ensures in
    sym (append-nil c.loop-index.samples) ∙ ap (λ (rest : List Event). c.loop-index.samples ++ envs_after signals rows at (reverse (take i events)) rest) (sym (drop_all i events le))
    ∙ c.loop-index.invariant ∙ (λ j. envs_after (c.as_slice-signals.ensures j) (is_rows j) at [] (c.as_slice-events.ensures j))
