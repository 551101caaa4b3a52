use Rattle.std.proofs.Common.{arith}
use Rattle.std.specs.declared.vec.Vec.{Vec}
use Rattle.std.specs.declared.alloc.Global.{Global}
use Rattle.std.proofs.Common.{ℕ}
use Rattle.store_sums.proofs.Children.{put_child}
use Rattle.store_sums.proofs.branches.add_child.Goals as goal

pub returns : goal.returns
returns c = put_child (λ (list : Vec ℕ Global). list.items) c.args.lists.now.items c.args.parent c.args.child c.index_mut.result.now c.push.new.self (omega (arith, c.if-child-eq0.false)) (c.requires (omega (arith, c.if-child-eq0.false))) c.index_mut.ensures.value c.in_ok-push.ensures.items
