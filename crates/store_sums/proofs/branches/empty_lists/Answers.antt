use Rattle.std.proofs.Common.{◌∙◌, ◌++◌, ◌∷◌, [], ap, sym, List, ℕ}
use Rattle.std.specs.declared.vec.Vec.{Vec}
use Rattle.std.specs.declared.alloc.Global.{Global}
use Rattle.store_sums.proofs.Ranges.{map_more, replicate_more}
use Rattle.store_sums.proofs.branches.empty_lists.Goals as goal

pub loop-preserved : goal.loop-preserved
loop-preserved c =
    map_more (λ (list : Vec ℕ Global). list.items) c.loop.lists.items c.push.new.self.items c.new.result [] c.in_ok-push.ensures.items c.new.ensures.items
    ∙ ap (λ (xs : List (List ℕ)). xs ++ [] ∷ []) c.loop.invariant ∙ sym (replicate_more c.loop.counter [])
