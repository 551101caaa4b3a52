use Rattle.std.proofs.Common.{◌≡◌, ◌++◌}
use Rattle.trans_found.specs.Found.{Takes}
use Rattle.trans_found.proofs.found.take_all.Given as goal

abbrev pub invariant-loop-list : goal.invariant-loop-list
invariant-loop-list l = record {
  takes : Takes l.initial.found l.found l.yielded;
  parts : l.yielded ++ l.list-iterator.rest.items ≡ l.fn.lists.items;
}
