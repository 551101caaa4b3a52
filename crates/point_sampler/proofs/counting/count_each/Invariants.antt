use Rattle.std.proofs.Common.{◌≡◌, length, take}
use Rattle.std.specs.Prelude.{IfSome}
use Rattle.point_sampler.specs.Met.{AllTaken, IsAnswered}
use Rattle.point_sampler.proofs.counting.count_each.Given as goal

abbrev pub invariant-loop-place : goal.invariant-loop-place
invariant-loop-place l = record {
  asked : IfSome l.asked (IsAnswered l.item.bins l.env);
  same : length l.counts ≡ length l.initial.counts;
  taken : AllTaken l.item l.env (take l.place-index l.met) l.initial.counts l.counts l.row.items;
}
