use Rattle.std.proofs.Common.{◌≡◌, ◌≤◌, ◌+◌, ◌-◌, ◌^◌, min, length, drop}
use Rattle.trans_found.specs.Lists.{all_of}
use Rattle.trans_found.proofs.alone.count_of.Given as goal

-- the count so far and that of the groups left give the result
abbrev pub invariant-loop-group : goal.invariant-loop-group
invariant-loop-group l = record {
  left : min (l.count + length (all_of (drop l.group-index l.groups))) (2 ^ 64 - 1) ≡ min (length (all_of l.groups)) (2 ^ 64 - 1);
  fits : l.count ≤ 2 ^ 64 - 1;
}
