use Rattle.std.proofs.Common.{◌∙◌, ap, List, ℤ, ◌++◌, Bool}
use mathlib.Core.Bool.{◌||◌}
use Rattle.cov_base.specs.Sets.{written, is_in}
use Rattle.point_tables.proofs.Keyed.{ranges_more}
use Rattle.point_tables.proofs.patterns.add_pattern.Goals as goal

pub returns-in_ok-extend_from_slice-in-Ok : goal.returns-in_ok-extend_from_slice-in-Ok
returns-in_ok-extend_from_slice-in-Ok c = λ yes v. ranges_more c.args.ranges.now.items c.in-Ok.set c.extend_from_slice.new.self.items v
    (c.in_ok-extend_from_slice-in-Ok.ensures.items ∙ ap (λ (rs : List (ℤ × ℤ)). c.args.ranges.now.items ++ rs) c.intervals.ensures.value)
    ∙ ap (λ (b : Bool). is_in (written c.args.ranges.now.items) v || b) (c.in-Ok.ensures.numbers v)
