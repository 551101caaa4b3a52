use Rattle.std.proofs.Common.{◌∙◌, ap, length, map, arith, ℕ, List}
use Rattle.std.specs.List.{range_with_len}
use Rattle.history_answers.specs.declared.keeping.Kept.{Kept}
use Rattle.history_answers.specs.Kept.{total}
use Rattle.history_answers.proofs.Worked.{few_kept, total_fits, counts_are}
use Rattle.history_answers.proofs.queries.counts_at.Goals as goal

pub totals-requires-clause-few : goal.totals-requires-clause-few
totals-requires-clause-few c =
    let e = ap (λ (ts : List Kept). length ts) (c.as_slice.ensures.value ∙ c.in_ok-tests.ensures) in
    let f = few_kept c.args.design.now c.args.entries.now in
    let most = c.requires in
    omega (arith, e, f, most)

pub totals-requires-clause-fits : goal.totals-requires-clause-fits
totals-requires-clause-fits c bin =
    let e = ap (λ (ts : List Kept). total ts bin) (c.as_slice.ensures.value ∙ c.in_ok-tests.ensures) in
    let f = total_fits c.args.design.now c.args.entries.now c.requires bin in
    omega (arith, e, f)

pub returns : goal.returns
returns c = counts_are c.args.design.now c.args.entries.now c.as_slice.result.now c.in_ok-counts.counts.items (c.as_slice.ensures.value ∙ c.in_ok-tests.ensures) (c.in_ok-counts.ensures ∙ ap (λ (n : ℕ). map (total c.as_slice.result.now) (range_with_len 0 n)) c.bin_count.ensures)
