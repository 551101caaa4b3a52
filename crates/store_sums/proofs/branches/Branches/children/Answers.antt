use Rattle.std.proofs.Common.{length, ap, sym, ◌∙◌, arith, List, ℕ}
use Rattle.std.specs.declared.vec.Vec.{Vec}
use Rattle.std.specs.declared.alloc.Global.{Global}
use Rattle.std.proofs.lemmas.List.{length-map}
use Rattle.ucis_model.specs.declared.node.Node.{Node}
use Rattle.cov_history.specs.Nodes.{children}
use Rattle.store_sums.proofs.Children.{none_below}
use Rattle.store_sums.proofs.branches.Branches.children.Goals as goal

pub returns-in-None : goal.returns-in-None
returns-in-None c =
    let l = length-map c.self.inside.below.items (λ (list : Vec ℕ Global). list.items) in
    let s = c.self.invariant.1.same_len in
    let d = ap (λ (xs : List (Vec ℕ Global)). length xs) c.deref.ensures.value in
    sym (none_below c.self.inside.tree c.args.node c.self.invariant.2 (omega (arith, c.in-None.ensures.lookup.3, l, s, d)))
    ∙ ap (λ (ns : List Node). children ns c.args.node) c.self.view_is
