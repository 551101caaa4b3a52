use Rattle.std.proofs.Common.{◌∙◌, ap, List, ℤ, ◌++◌}
use Rattle.point_tables.proofs.Keyed.{listed_more}
use Rattle.point_tables.proofs.lookups.add_listed.Goals as goal

pub returns-in_ok-extend_from_slice-in-Values : goal.returns-in_ok-extend_from_slice-in-Values
returns-in_ok-extend_from_slice-in-Values c = λ yes v. listed_more c.args.ranges.now.items c.in-Values.set c.extend_from_slice.new.self.items c.args.bin.now.rule v
    (c.in_ok-extend_from_slice-in-Values.ensures.items ∙ ap (λ (rs : List (ℤ × ℤ)). c.args.ranges.now.items ++ rs) c.intervals.ensures.value) c.in-Values.is
