use Rattle.std.proofs.Common.{◌≡◌, ◌+◌, length}
use Rattle.trans_seq.specs.Windows.{is_known_in}
use Rattle.trans_seq.specs.Reach.{Leads, IsParts, IsRepeated}
use Rattle.trans_seq.proofs.reach.repeated.Given as goal

abbrev pub invariant-loop-m : goal.invariant-loop-m
invariant-loop-m l = record {
  now_size : length l.now.items ≡ length l.window + 1;
  found_size : length l.found.items ≡ length l.window + 1;
  now : Leads (IsParts (is_known_in l.set) l.blocks l.m) l.window l.cuts l.now.items;
  found : Leads (IsRepeated (is_known_in l.set) l.blocks l.low l.m) l.window l.cuts l.found.items;
}
