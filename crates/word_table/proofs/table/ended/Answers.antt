use Rattle.std.proofs.Common.{◌∙◌, sym, subst, arith, ℕ, [], ◌≤◌, ◌+◌, length, get_or}
use Rattle.word_table.specs.Words.{AscendBelow}
use Rattle.word_table.proofs.Ascending.{ascend_none, ascend_below}
use Rattle.word_table.proofs.Finding.{Found, found_first, ascends, after_take, after_narrow, done_trace, done_unknown, done_empty, done_all, none_left}
use Rattle.word_table.proofs.table.ended.Goals as goal

pub take_ended-requires-clause-ascends : goal.take_ended-requires-clause-ascends
take_ended-requires-clause-ascends c = ascends c.args.table.now c.args.trace.now c.len-high.ensures.words.sorted c.loop-depth.depth c.loop-depth.low c.loop-depth.high c.loop-depth.hits.items c.loop-depth.invariant.found

pub returns-then-depth-trace-clause-hits : goal.returns-then-depth-trace-clause-hits
returns-then-depth-trace-clause-hits c =
    let d = c.loop-depth.depth in
    done_trace c.args.table.now c.args.trace.now d c.in_ok-low.low c.loop-depth.high c.take_ended.new.hits.items c.if-depth-trace.true
    (after_take c.args.table.now c.args.trace.now d c.loop-depth.low c.loop-depth.high c.in_ok-low.low c.loop-depth.hits.items c.take_ended.new.hits.items c.loop-depth.invariant.found c.in_ok-low.ensures.cut c.in_ok-low.ensures.hits)

pub returns-in_default-clause-hits : goal.returns-in_default-clause-hits
returns-in_default-clause-hits c =
    let d = c.loop-depth.depth in
    done_unknown c.args.table.now c.args.trace.now d c.in_ok-low.low c.loop-depth.high c.take_ended.new.hits.items (sym c.value_back.ensures ∙ none_left c.value_back.result c.in_default.not-Some)
    (after_take c.args.table.now c.args.trace.now d c.loop-depth.low c.loop-depth.high c.in_ok-low.low c.loop-depth.hits.items c.take_ended.new.hits.items c.loop-depth.invariant.found c.in_ok-low.ensures.cut c.in_ok-low.ensures.hits)

pub split-from-requires-clause-ascends : goal.split-from-requires-clause-ascends
split-from-requires-clause-ascends c = λ i j li ij jh.
    ascends c.args.table.now c.args.trace.now c.len-high.ensures.words.sorted c.loop-depth.depth c.loop-depth.low c.loop-depth.high c.loop-depth.hits.items c.loop-depth.invariant.found i j (let f : c.loop-depth.low ≤ c.in_ok-low.low = c.in_ok-low.ensures.cut.from in omega (arith, f, li)) ij jh

pub split-high-requires-clause-ascends : goal.split-high-requires-clause-ascends
split-high-requires-clause-ascends c = λ i j li ij jh.
    ascends c.args.table.now c.args.trace.now c.len-high.ensures.words.sorted c.loop-depth.depth c.loop-depth.low c.loop-depth.high c.loop-depth.hits.items c.loop-depth.invariant.found i j (let f : c.loop-depth.low ≤ c.in_ok-low.low = c.in_ok-low.ensures.cut.from in omega (arith, f, li)) ij jh

pub returns-then-low-high-clause-hits : goal.returns-then-low-high-clause-hits
returns-then-low-high-clause-hits c =
    let d = c.loop-depth.depth in
    done_empty c.args.table.now c.args.trace.now (d + 1) c.split-from.result c.split-high.result c.take_ended.new.hits.items c.if-low-high.true
    (after_narrow c.args.table.now c.args.trace.now d c.in_ok-low.low c.loop-depth.high c.split-from.result c.split-high.result c.take_ended.new.hits.items c.in-Some.v c.if-depth-trace.false (sym c.value_back.ensures ∙ c.in-Some.is)
    (after_take c.args.table.now c.args.trace.now d c.loop-depth.low c.loop-depth.high c.in_ok-low.low c.loop-depth.hits.items c.take_ended.new.hits.items c.loop-depth.invariant.found c.in_ok-low.ensures.cut c.in_ok-low.ensures.hits)
    c.split-from.ensures c.split-high.ensures)

pub loop-depth-preserved : goal.loop-depth-preserved
loop-depth-preserved c =
    let d = c.loop-depth.depth in
    record {
      found = after_narrow c.args.table.now c.args.trace.now d c.in_ok-low.low c.loop-depth.high c.split-from.result c.split-high.result c.take_ended.new.hits.items c.in-Some.v c.if-depth-trace.false (sym c.value_back.ensures ∙ c.in-Some.is)
          (after_take c.args.table.now c.args.trace.now d c.loop-depth.low c.loop-depth.high c.in_ok-low.low c.loop-depth.hits.items c.take_ended.new.hits.items c.loop-depth.invariant.found c.in_ok-low.ensures.cut c.in_ok-low.ensures.hits)
          c.split-from.ensures c.split-high.ensures;
      ascend = ascend_below c.in_ok-low.low c.split-from.result c.take_ended.new.hits.items c.split-from.ensures.from (c.in_ok-low.ensures.ascend c.loop-depth.invariant.ascend);
    }

pub loop-depth-init : goal.loop-depth-init
loop-depth-init c = record {
  found = subst (Found c.args.table.now c.args.trace.now 0 0 c.len-high.result) (sym c.clear.ensures.items) (subst (λ (n : ℕ). Found c.args.table.now c.args.trace.now 0 0 n []) (sym c.len-high.ensures.count) (found_first c.args.table.now c.args.trace.now));
  ascend = subst (AscendBelow 0) (sym c.clear.ensures.items) (ascend_none 0);
}

pub returns-clause-hits : goal.returns-clause-hits
returns-clause-hits c =
    done_all c.args.table.now c.args.trace.now c.loop-depth.depth c.loop-depth.low c.loop-depth.high c.loop-depth.hits.items
    (λ k e lt. let s : length (get_or c.args.table.now k e) ≤ 120 = c.len-high.ensures.words.short k e lt in omega (arith, s, c.loop-depth-test.false)) c.loop-depth.invariant.found

pub returns-then-depth-trace-clause-ascend : goal.returns-then-depth-trace-clause-ascend
returns-then-depth-trace-clause-ascend c = (c.in_ok-low.ensures.ascend c.loop-depth.invariant.ascend).ascend

pub returns-in_default-clause-ascend : goal.returns-in_default-clause-ascend
returns-in_default-clause-ascend c = (c.in_ok-low.ensures.ascend c.loop-depth.invariant.ascend).ascend

pub returns-then-low-high-clause-ascend : goal.returns-then-low-high-clause-ascend
returns-then-low-high-clause-ascend c = (c.in_ok-low.ensures.ascend c.loop-depth.invariant.ascend).ascend

pub returns-clause-ascend : goal.returns-clause-ascend
returns-clause-ascend c = c.loop-depth.invariant.ascend.ascend
