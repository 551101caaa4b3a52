use Rattle.std.proofs.Common.{ℕ, min, max, ap, ◌∙◌, arith}
use Rattle.point_tables.proofs.Bounds.{out_by, out_same}
use Rattle.point_tables.proofs.entrances.with_set.Goals as goal

pub returns-then-count-eq0 : goal.returns-then-count-eq0
returns-then-count-eq0 c = out_same c.intervals-ranges.result.now c.args.set.now c.args.sofar c.intervals-ranges.ensures.value (omega (arith, c.if-count-eq0.true))

pub returns : goal.returns
returns c =
    let first = c.index-ranges-0.result in
    let last = c.index-ranges-count.result in
    out_by c.intervals-ranges.result.now c.args.set.now c.args.sofar c.min-low.result c.max-high.result first last c.intervals-ranges.ensures.value c.intervals-ranges.ensures.normal
    (omega (arith, c.if-count-eq0.false))
    (c.min-low.ensures ∙ ap (λ (n : ℕ). min n c.args.sofar.low) c.key_of.ensures)
    (c.max-high.ensures ∙ ap (λ (n : ℕ). max n c.args.sofar.high) c.key_of-2.ensures)
