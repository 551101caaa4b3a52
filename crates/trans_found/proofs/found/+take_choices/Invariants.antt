use Rattle.std.proofs.Common.{◌≡◌, ◌-◌, [], ◌∷◌, ◌++◌, take}
use Rattle.std.specs.List.{flat_map}
use Rattle.cov_base.specs.Sets.{written}
use Rattle.trans_found.specs.Found.{Takes, continued}
use Rattle.trans_found.proofs.found.+take_choices.Given as goal

abbrev pub decreases-take_choices : goal.decreases-take_choices
decreases-take_choices l = l.more

abbrev pub invariant-loop-k : goal.invariant-loop-k
invariant-loop-k l = record {
  first : l.first.items ≡ l.initial.first.items;
  takes : Takes l.initial.found l.found (flat_map (λ v. continued (written l.set) (l.initial.first.items ++ v ∷ []) (l.more - 1) l.group) (take l.k (written l.set)));
}
