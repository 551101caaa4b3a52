use Rattle.std.proofs.Common.{◌≡◌, ◌∙◌, ◌-◌, ap, sym, subst, arith, true, false, List}
use Rattle.ucis_model.specs.declared.node.Node.{Node}
use Rattle.store_sums.specs.Runs.{HasMarks}
use Rattle.store_sums.specs.Now.{nodes_now, outs_now, excluded_now}
use Rattle.store_sums.proofs.Trees.{nodes_small}
use Rattle.store_sums.proofs.Numbers.{no_root}
use Rattle.store_sums.proofs.Marking.{live_piece, covered_piece, dead_live, dead_covered}
use Rattle.store_sums.proofs.sums.Sums.live_piece.Goals as goal

pub returns-then-is_excluded-clause-live : goal.returns-then-is_excluded-clause-live
returns-then-is_excluded-clause-live c =
    let s = c.args.self.now in
    let h : HasMarks (nodes_now s) s.counts.items (outs_now s) (λ p. true) s.runs = subst (λ (ns : List Node). HasMarks ns s.counts.items (outs_now s) (λ p. true) s.runs) s.nodes_are s.marked in
    let e : excluded_now s c.above_bin.result ≡ true = sym c.is_excluded.ensures ∙ c.if-is_excluded.true in
    dead_live (nodes_now s) (nodes_small s.design) (no_root s.design) s.counts.items (outs_now s) s.runs h c.args.first (c.piece-piece.result.end - c.args.first) (omega (arith, c.piece-piece.ensures.some, c.piece-piece.ensures.within, c.requires.inside)) (λ j low high. c.piece-piece.ensures.alike j low (omega (arith, high, c.piece-piece.ensures.some))) (omega (arith, c.piece-piece.ensures.some))
    (ap (excluded_now s) (sym c.above_bin.ensures) ∙ e)

pub returns-then-is_excluded-clause-covered : goal.returns-then-is_excluded-clause-covered
returns-then-is_excluded-clause-covered c =
    let s = c.args.self.now in
    let h : HasMarks (nodes_now s) s.counts.items (outs_now s) (λ p. true) s.runs = subst (λ (ns : List Node). HasMarks ns s.counts.items (outs_now s) (λ p. true) s.runs) s.nodes_are s.marked in
    let e : excluded_now s c.above_bin.result ≡ true = sym c.is_excluded.ensures ∙ c.if-is_excluded.true in
    dead_covered (nodes_now s) (nodes_small s.design) (no_root s.design) s.counts.items (outs_now s) s.runs h c.args.first (c.piece-piece.result.end - c.args.first) (omega (arith, c.piece-piece.ensures.some, c.piece-piece.ensures.within, c.requires.inside)) (λ j low high. c.piece-piece.ensures.alike j low (omega (arith, high, c.piece-piece.ensures.some))) (omega (arith, c.piece-piece.ensures.some))
    (ap (excluded_now s) (sym c.above_bin.ensures) ∙ e)

pub returns-clause-live : goal.returns-clause-live
returns-clause-live c =
    let s = c.args.self.now in
    let h : HasMarks (nodes_now s) s.counts.items (outs_now s) (λ p. true) s.runs = subst (λ (ns : List Node). HasMarks ns s.counts.items (outs_now s) (λ p. true) s.runs) s.nodes_are s.marked in
    let e : excluded_now s c.above_bin.result ≡ false = sym c.is_excluded.ensures ∙ c.if-is_excluded.false in
    c.piece-piece.ensures.live
    ∙ live_piece (nodes_now s) (nodes_small s.design) (no_root s.design) s.counts.items (outs_now s) s.runs h c.args.first (c.piece-piece.result.end - c.args.first) (omega (arith, c.piece-piece.ensures.some, c.piece-piece.ensures.within, c.requires.inside)) (λ j low high. c.piece-piece.ensures.alike j low (omega (arith, high, c.piece-piece.ensures.some))) (omega (arith, c.piece-piece.ensures.some))
    (ap (excluded_now s) (sym c.above_bin.ensures) ∙ e)

pub returns-clause-covered : goal.returns-clause-covered
returns-clause-covered c =
    let s = c.args.self.now in
    let h : HasMarks (nodes_now s) s.counts.items (outs_now s) (λ p. true) s.runs = subst (λ (ns : List Node). HasMarks ns s.counts.items (outs_now s) (λ p. true) s.runs) s.nodes_are s.marked in
    let e : excluded_now s c.above_bin.result ≡ false = sym c.is_excluded.ensures ∙ c.if-is_excluded.false in
    c.piece-piece.ensures.covered
    ∙ covered_piece (nodes_now s) (nodes_small s.design) (no_root s.design) s.counts.items (outs_now s) s.runs h c.args.first (c.piece-piece.result.end - c.args.first) (omega (arith, c.piece-piece.ensures.some, c.piece-piece.ensures.within, c.requires.inside)) (λ j low high. c.piece-piece.ensures.alike j low (omega (arith, high, c.piece-piece.ensures.some))) (omega (arith, c.piece-piece.ensures.some))
    (ap (excluded_now s) (sym c.above_bin.ensures) ∙ e)
