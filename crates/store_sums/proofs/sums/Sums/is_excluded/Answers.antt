use Rattle.std.proofs.Common.{◌≡◌, ◌∙◌, ap, sym, arith, ℕ, false, is_some, None}
use Rattle.std.specs.Prelude.{slice_index_or}
use Rattle.store_sums.specs.declared.branches.Facts.{Facts}
use Rattle.store_sums.specs.Now.{nodes_now, outs_now, excluded_now}
use Rattle.store_sums.proofs.Trees.{nodes_small}
use Rattle.store_sums.proofs.Walks.{goes_up, first_up, is_up, parent_less}
use Rattle.store_sums.proofs.sums.Sums.is_excluded.Goals as goal

pub returns-then-at-eq0 : goal.returns-then-at-eq0
returns-then-at-eq0 c =
    let s = c.args.self.now in
    let zero_is : c.loop-node.at ≡ 0 = omega (arith, c.if-at-eq0.true) in
    let isnt : is_some (slice_index_or (outs_now s) 0 None) ≡ false = ap (λ (n : ℕ). is_some (slice_index_or (outs_now s) n None)) (sym zero_is) ∙ sym c.loop-node-test.ensures in
    sym (first_up (nodes_now s) (outs_now s) isnt) ∙ ap (excluded_now s) (sym zero_is) ∙ c.loop-node.invariant

pub loop-node-preserved : goal.loop-node-preserved
loop-node-preserved c =
    let s = c.args.self.now in
    let parent = ap (λ (f : Facts). f.parent) c.facts-at.ensures in
    ap (excluded_now s) parent ∙ sym (goes_up (nodes_now s) (outs_now s) c.loop-node.at (nodes_small s.design) (sym c.loop-node-test.ensures) (omega (arith, c.if-at-eq0.false))) ∙ c.loop-node.invariant

pub loop-node-smaller : goal.loop-node-smaller
loop-node-smaller c =
    let s = c.args.self.now in
    let parent = ap (λ (f : Facts). f.parent) c.facts-at.ensures in
    let less = parent_less (nodes_now s) (nodes_small s.design) c.loop-node.at (omega (arith, c.if-at-eq0.false)) in
    omega (arith, parent, less)

pub returns : goal.returns
returns c =
    let s = c.args.self.now in
    sym (is_up (nodes_now s) (outs_now s) c.loop-node.at (sym c.loop-node-test.ensures)) ∙ c.loop-node.invariant
