use Rattle.std.proofs.Common.{◌∙◌, ℕ, arith, ◌&&◌}
use Rattle.cov_history.specs.Nodes.{bin_nodes}
use Rattle.cov_history.specs.Coverage as cover
use Rattle.store_sums.specs.Now.{nodes_now, count_now, excluded_now}
use Rattle.store_sums.proofs.Marking.{piece_more, piece_within, pieces_end, few_under, live_is, covered_under_is, no_more}
use Rattle.store_sums.proofs.sums.Sums.under.Goals as goal

pub overflow_add-covered : goal.overflow_add-covered
overflow_add-covered c =
    let s = c.args.self.now in
    let test = λ (n : ℕ). cover.is_live (nodes_now s) (excluded_now s) n && cover.is_covered (nodes_now s) (count_now s) n in
    let p = c.live_piece-piece.ensures in
    let w = piece_within test (bin_nodes (nodes_now s)) c.loop-first.covered c.live_piece-piece.result.covered c.loop-first.first c.live_piece-piece.result.end _ _ (omega (arith, p.some)) p.within p.covered c.loop-first.invariant.covered in
    let f = few_under (nodes_now s) test c.args.node in
    omega (arith, w, f, c.ends_of-first.ensures.few)

pub overflow_add-live : goal.overflow_add-live
overflow_add-live c =
    let s = c.args.self.now in
    let test = cover.is_live (nodes_now s) (excluded_now s) in
    let p = c.live_piece-piece.ensures in
    let w = piece_within test (bin_nodes (nodes_now s)) c.loop-first.live c.live_piece-piece.result.live c.loop-first.first c.live_piece-piece.result.end _ _ (omega (arith, p.some)) p.within p.live c.loop-first.invariant.live in
    let f = few_under (nodes_now s) test c.args.node in
    omega (arith, w, f, c.ends_of-first.ensures.few)

pub loop-first-preserved : goal.loop-first-preserved
loop-first-preserved c =
    let s = c.args.self.now in
    let p = c.live_piece-piece.ensures in
    let live = cover.is_live (nodes_now s) (excluded_now s) in
    let covered = λ (n : ℕ). cover.is_live (nodes_now s) (excluded_now s) n && cover.is_covered (nodes_now s) (count_now s) n in
    record {
      live = piece_more live (bin_nodes (nodes_now s)) c.loop-first.live c.live_piece-piece.result.live c.loop-first.first c.live_piece-piece.result.end _ _ (omega (arith, p.some)) p.within p.live c.loop-first.invariant.live;
      covered = piece_more covered (bin_nodes (nodes_now s)) c.loop-first.covered c.live_piece-piece.result.covered c.loop-first.first c.live_piece-piece.result.end _ _ (omega (arith, p.some)) p.within p.covered c.loop-first.invariant.covered;
      inside = c.loop-first.invariant.inside;
    }

pub returns-clause-covered : goal.returns-clause-covered
returns-clause-covered c =
    let s = c.args.self.now in
    let test = λ (n : ℕ). cover.is_live (nodes_now s) (excluded_now s) n && cover.is_covered (nodes_now s) (count_now s) n in
    pieces_end test (bin_nodes (nodes_now s)) c.loop-first.covered c.loop-first.first _ _ c.loop-first-test.false c.loop-first.invariant.covered ∙ covered_under_is (nodes_now s) (count_now s) (excluded_now s) c.args.node

pub returns-clause-live : goal.returns-clause-live
returns-clause-live c =
    let s = c.args.self.now in
    let test = cover.is_live (nodes_now s) (excluded_now s) in
    pieces_end test (bin_nodes (nodes_now s)) c.loop-first.live c.loop-first.first _ _ c.loop-first-test.false c.loop-first.invariant.live ∙ live_is (nodes_now s) (excluded_now s) c.args.node

pub returns-clause-fewer : goal.returns-clause-fewer
returns-clause-fewer c =
    let s = c.args.self.now in
    let live = cover.is_live (nodes_now s) (excluded_now s) in
    let covered = λ (n : ℕ). cover.is_live (nodes_now s) (excluded_now s) n && cover.is_covered (nodes_now s) (count_now s) n in
    let a = pieces_end covered (bin_nodes (nodes_now s)) c.loop-first.covered c.loop-first.first _ _ c.loop-first-test.false c.loop-first.invariant.covered ∙ covered_under_is (nodes_now s) (count_now s) (excluded_now s) c.args.node in
    let b = pieces_end live (bin_nodes (nodes_now s)) c.loop-first.live c.loop-first.first _ _ c.loop-first-test.false c.loop-first.invariant.live ∙ live_is (nodes_now s) (excluded_now s) c.args.node in
    let m = no_more (nodes_now s) (count_now s) (excluded_now s) c.args.node in
    omega (arith, a, b, m)
