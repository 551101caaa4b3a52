use Rattle.std.proofs.Common.{◌≡◌, ℕ, ◌+◌, min, List, ◌∷◌, ◌++◌, [], get_or, length, length-append, sym, ap, ◌∙◌, arith}
use Rattle.rank_report.proofs.Walk.{pair_hit, pair_missed, behind_row}
use Rattle.rank_report.proofs.hits.append_hits.Goals as goal
use Rattle.rank_report.proofs.hits.append_hits.Goals.{then-common-gt0+in_ok-push, else-common-gt0}

pub returns-then-wanted_bin-bin-clause-hits : goal.returns-then-wanted_bin-bin-clause-hits
returns-then-wanted_bin-bin-clause-hits c rest a =
    let i = c.loop-index.index in
    let low = c.requires.after i (omega arith) c.loop-index-test.true in
    ap (λ (l : List (ℕ × ℕ)). c.loop-index.hits.items ++ l) (sym (behind_row (c.args.bin, c.args.count) rest i c.args.wanted.now (λ k le lt. let up = c.requires.ascend i k (0, 0) le lt in omega (arith, low, up, c.if-wanted_bin-bin.true))))
    ∙ c.loop-index.invariant.so_far rest a

pub loop-index-preserved : goal.loop-index-preserved
loop-index-preserved c =
    let i = c.loop-index.index in
    let common : c.min-common.result ≡ min (get_or c.args.wanted.now i (0, 0)).1 c.args.count = c.min-common.ensures ∙ ap (λ (n : ℕ). min n c.args.count) c.from.ensures in
    elim c.if-common-gt0.branch [
      | then-common-gt0+in_ok-push w ↦
          let more : c.if-common-gt0.hits.items ≡ c.loop-index.hits.items ++ (i, c.min-common.result) ∷ [] = cc (w.in_ok-push.ensures.items) in
          let whole : c.if-common-gt0.hits.items ≡ c.loop-index.hits.items ++ (i, min (get_or c.args.wanted.now i (0, 0)).1 c.args.count) ∷ [] = more ∙ ap (λ (n : ℕ). c.loop-index.hits.items ++ (i, n) ∷ []) common in
          record {
            so_far = λ rest a.
                pair_hit c.loop-index.hits.items c.if-common-gt0.hits.items c.args.bin c.args.count rest c.args.wanted.now i c.loop-index-test.true c.if-wanted_bin-bin.false (omega (arith, common, w.if-common-gt0.true)) whole
                ∙ c.loop-index.invariant.so_far rest a;
            short = omega (arith, ap length more, length-append c.loop-index.hits.items ((i, c.min-common.result) ∷ []), c.loop-index.invariant.short);
          }
      | else-common-gt0 w ↦
          let same : c.if-common-gt0.hits.items ≡ c.loop-index.hits.items = cc in
          record {
            so_far = λ rest a.
                pair_missed c.loop-index.hits.items c.if-common-gt0.hits.items c.args.bin c.args.count rest c.args.wanted.now i c.loop-index-test.true c.if-wanted_bin-bin.false (omega (arith, common, w.if-common-gt0.false)) same
                ∙ c.loop-index.invariant.so_far rest a;
            short = omega (arith, ap length same, c.loop-index.invariant.short);
          }
    ]
