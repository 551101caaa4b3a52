use Rattle.std.proofs.Common.{[]}
use Rattle.elab_base.specs.Gives.{each}
use Rattle.elab_values.specs.Listed.{with_element}
use Rattle.elab_base.proofs.Folds.{Left}
use Rattle.elab_values.proofs.elements.elements_of.Given as goal

abbrev pub invariant-loop-elem : goal.invariant-loop-elem
invariant-loop-elem l = Left (λ k. with_element l.scope l.domain l.wildcard) l.elem-index l.elems l.elements (each (with_element l.scope l.domain l.wildcard) l.elems [])
