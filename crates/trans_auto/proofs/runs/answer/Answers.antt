use Rattle.std.proofs.Common.{◌<◌, get_or, length, drop, sym, ◌∙◌, arith, false}
use Rattle.std.proofs.lemmas.Bool.{true≢false, false≢true}
use Rattle.std.proofs.lemmas.List.Elements.{Contains-get_or}
use Rattle.trans_seq.specs.Windows.{InSome}
use Rattle.trans_auto.specs.State.{Remains}
use Rattle.trans_auto.proofs.RunLemmas.{some-drop, kept-from, window-from, none_more, none_all}
use Rattle.trans_auto.proofs.runs.answer.Goals as goal
use Rattle.trans_auto.proofs.runs.answer.Goals.{then-one-2, else-one-2}

pub returns-then-one-clause-counts : goal.returns-then-one-clause-counts
returns-then-one-clause-counts c = λ w st.
    let runs = c.args.runs.now in
    let i = c.loop-run.run-index in
    kept-from c.args.own.now c.args.removed.now runs w c.answer_of-one.result.counts st
    (λ e. (get_or runs i (0, 0), Contains-get_or runs i (0, 0) c.loop-run-test.true, λ u some h. (c.answer_of-one.ensures.counts u some h).0 e))
    (λ e. absurd (true≢false (sym c.if-one.true ∙ e)))

pub returns-then-one-clause-ends : goal.returns-then-one-clause-ends
returns-then-one-clause-ends c = λ w st.
    let own = c.args.own.now in
    let removed = c.args.removed.now in
    let runs = c.args.runs.now in
    let i = c.loop-run.run-index in
    let run = get_or runs i (0, 0) in
    let inside = Contains-get_or runs i (0, 0) c.loop-run-test.true in
    let s = st.sound run inside in
    let u = drop s.1 w in
    let some = some-drop own removed w s.1 s.2 in
    let r = (c.answer_of-one.ensures.counts u some s.3).0 c.if-one.true in
    let ends = (c.answer_of-one.ensures.ends u some s.3).1 r.0 in
    window-from own removed runs w c.answer_of-one.result.ends st
    (λ e. (run, inside, λ u some h. (c.answer_of-one.ensures.ends u some h).0 e))
    (λ e. absurd (true≢false (sym ends ∙ e)))

pub loop-run-preserved : goal.loop-run-preserved
loop-run-preserved c =
    let own = c.args.own.now in
    let removed = c.args.removed.now in
    let runs = c.args.runs.now in
    let i = c.loop-run.run-index in
    let inv = c.loop-run.invariant in
    let says = c.answer_of-one.ensures in
    let lt : i < length runs = c.loop-run-test.true in
    record {
      none_counts = none_more own removed (Remains own removed) runs i (0, 0) lt inv.none_counts (λ u some h r. false≢true (sym c.if-one.false ∙ (says.counts u some h).1 r));
      one_ends = λ e. elim c.if-one-2.branch [
        | then-one-2 b ↦ (get_or runs i (0, 0), Contains-get_or runs i (0, 0) lt, λ u some h. (says.ends u some h).0 b.if-one-2.true)
        | else-one-2 b ↦ inv.one_ends (sym b.ends-is ∙ e)
      ];
      none_ends = λ e. elim c.if-one-2.branch [
        | then-one-2 b ↦ absurd (true≢false (sym b.ends-is ∙ e))
        | else-one-2 b ↦ none_more own removed (λ u. InSome own u) runs i (0, 0) lt (inv.none_ends (sym b.ends-is ∙ e)) (λ u some h q. false≢true (sym b.if-one-2.false ∙ (says.ends u some h).1 q))
      ];
    }

pub returns-clause-counts : goal.returns-clause-counts
returns-clause-counts c = λ w st.
    let own = c.args.own.now in
    let removed = c.args.removed.now in
    let runs = c.args.runs.now in
    kept-from own removed runs w false st (λ e. absurd (false≢true e))
    (λ e. none_all own removed (Remains own removed) runs c.loop-run.run-index (omega arith) c.loop-run.invariant.none_counts)

pub returns-clause-ends : goal.returns-clause-ends
returns-clause-ends c = λ w st.
    let own = c.args.own.now in
    let removed = c.args.removed.now in
    let runs = c.args.runs.now in
    window-from own removed runs w c.loop-run.ends st c.loop-run.invariant.one_ends
    (λ e. none_all own removed (λ u. InSome own u) runs c.loop-run.run-index (omega arith) (c.loop-run.invariant.none_ends e))
