use Rattle.cov_grammar.proofs.Steps.{exits, leads_parses}
use Rattle.cov_grammar.proofs.GroupLaws.{sunary_lawful, sand_lawful}
use Rattle.token_reader.proofs.Walks.{too_deep}
use Rattle.range_parser.proofs.SelWalks.{ors_start, ors_fail, or_next, or_breaks, or_full, ors_end, ands_start, ands_fail, and_next, and_breaks, and_full, ands_end, less_left, negated, no_room_to_negate, enclosed, no_room_to_enclose, closes, inside_fails, no_paren}
use Rattle.range_parser.proofs.selections.+selection.Goals as goal

pub part_selection-returns-in_err-left : goal.part_selection-returns-in_err-left
part_selection-returns-in_err-left t c = exits _ _ _ _ _ c.from_residual.ensures.1 (ors_fail _ _ c.in_err-left.ensures)

pub part_selection-loop-next-init : goal.part_selection-loop-next-init
part_selection-loop-next-init t c = ors_start _ _ c.in_ok-left.ensures

pub part_selection-returns-in_err-next : goal.part_selection-returns-in_err-next
part_selection-returns-in_err-next t c =
    exits _ _ _ _ _ c.from_residual-in_err-next.ensures.1 (or_full _ _ _ _ c.loop-next.invariant c.in_err-next.ensures.too_many c.in_err-next.ensures.full)

pub part_selection-returns-in_err-right : goal.part_selection-returns-in_err-right
part_selection-returns-in_err-right t c =
    exits _ _ _ _ _ c.from_residual-in_err-right.ensures.1 (or_breaks _ _ _ _ _ _ c.in-Some.is c.loop-next.invariant c.in_ok-next.ensures.some c.in_ok-next.ensures.behind c.in_err-right.ensures)

pub part_selection-loop-next-smaller : goal.part_selection-loop-next-smaller
part_selection-loop-next-smaller t c =
    less_left c.args.reader.text.now c.args.reader.tokens.now (sand_lawful c.args.reader.text.now c.args.reader.tokens.now) c.loop-next.at _ _ _ c.in-Some.is c.in_ok-next.ensures.behind c.in_ok-next.ensures.inside c.in_ok-right.ensures

pub part_selection-loop-next-preserved : goal.part_selection-loop-next-preserved
part_selection-loop-next-preserved t c =
    rw c.in_ok-left-2.ensures (or_next _ _ _ _ _ _ c.in-Some.is c.loop-next.invariant c.in_ok-next.ensures.some c.in_ok-right.ensures)

pub part_selection-returns : goal.part_selection-returns
part_selection-returns t c = ors_end _ _ _ _ c.in_default.is c.loop-next.invariant c.in_ok-next.ensures.none

pub conjunction-returns-in_err-left : goal.conjunction-returns-in_err-left
conjunction-returns-in_err-left t c = exits _ _ _ _ _ c.from_residual.ensures.1 (ands_fail _ _ c.in_err-left.ensures)

pub conjunction-loop-next-init : goal.conjunction-loop-next-init
conjunction-loop-next-init t c = ands_start _ _ c.in_ok-left.ensures

pub conjunction-returns-in_err-next : goal.conjunction-returns-in_err-next
conjunction-returns-in_err-next t c =
    exits _ _ _ _ _ c.from_residual-in_err-next.ensures.1 (and_full _ _ _ _ c.loop-next.invariant c.in_err-next.ensures.too_many c.in_err-next.ensures.full)

pub conjunction-returns-in_err-right : goal.conjunction-returns-in_err-right
conjunction-returns-in_err-right t c =
    exits _ _ _ _ _ c.from_residual-in_err-right.ensures.1 (and_breaks _ _ _ _ _ _ c.in-Some.is c.loop-next.invariant c.in_ok-next.ensures.some c.in_ok-next.ensures.behind c.in_err-right.ensures)

pub conjunction-loop-next-smaller : goal.conjunction-loop-next-smaller
conjunction-loop-next-smaller t c =
    less_left c.args.reader.text.now c.args.reader.tokens.now (sunary_lawful c.args.reader.text.now c.args.reader.tokens.now) c.loop-next.at _ _ _ c.in-Some.is c.in_ok-next.ensures.behind c.in_ok-next.ensures.inside c.in_ok-right.ensures

pub conjunction-loop-next-preserved : goal.conjunction-loop-next-preserved
conjunction-loop-next-preserved t c =
    rw c.in_ok-left-2.ensures (and_next _ _ _ _ _ _ c.in-Some.is c.loop-next.invariant c.in_ok-next.ensures.some c.in_ok-right.ensures)

pub conjunction-returns : goal.conjunction-returns
conjunction-returns t c = ands_end _ _ _ _ c.in_default.is c.loop-next.invariant c.in_ok-next.ensures.none

pub simple-returns-in_err-inner : goal.simple-returns-in_err-inner
simple-returns-in_err-inner t c =
    exits _ _ _ _ _ c.from_residual.ensures.1 (too_deep _ c.in_err-inner.ensures.fault (no_room_to_negate _ _ c.in-Some.ensures.here c.in_err-inner.ensures.none))

pub simple-returns-in_err-operand : goal.simple-returns-in_err-operand
simple-returns-in_err-operand t c =
    exits _ _ _ _ _ c.from_residual-in_err-operand.ensures.1 ((negated c.args.reader.text.now c.args.reader.tokens.now c.args.room {b = c.in_ok-inner.inner} c.in-Some.ensures.here (c.in-Some.ensures.some _) c.in_ok-inner.ensures.levels c.in_ok-inner.ensures.operators).fails c.in_err-operand.ensures)

pub simple-returns-in-Some : goal.simple-returns-in-Some
simple-returns-in-Some t c =
    rw c.in_ok-none_of.ensures ((negated c.args.reader.text.now c.args.reader.tokens.now c.args.room {b = c.in_ok-inner.inner} c.in-Some.ensures.here (c.in-Some.ensures.some _) c.in_ok-inner.ensures.levels c.in_ok-inner.ensures.operators).reads c.in_ok-operand.ensures)

pub simple-returns-in_default-take : goal.simple-returns-in_default-take
simple-returns-in_default-take t c =
    leads_parses _ (no_paren _ _ c.in_default.ensures.none c.in_default-take.ensures.none) c.bins_of.ensures

pub simple-returns-in_err-inner-2 : goal.simple-returns-in_err-inner-2
simple-returns-in_err-inner-2 t c =
    exits _ _ _ _ _ c.from_residual-in_err-inner-2.ensures.1 (too_deep _ c.in_err-inner-2.ensures.fault (no_room_to_enclose _ _ c.in_default.ensures.none c.in-Some-take.ensures.here c.in_err-inner-2.ensures.none))

pub simple-returns-in_err-inside : goal.simple-returns-in_err-inside
simple-returns-in_err-inside t c =
    exits _ _ _ _ _ c.from_residual-in_err-inside.ensures.1 (inside_fails c.args.reader.text.now c.args.reader.tokens.now
    (enclosed c.args.reader.text.now c.args.reader.tokens.now c.args.room {b = c.in_ok-inner-2.inner} c.in_default.ensures.none c.in-Some-take.ensures.here (c.in-Some-take.ensures.some _) c.in_ok-inner-2.ensures.levels c.in_ok-inner-2.ensures.operators) c.in_err-inside.ensures)

pub simple-returns-in_err-after : goal.simple-returns-in_err-after
simple-returns-in_err-after t c =
    exits _ _ _ _ _ c.from_residual-in_err-after.ensures.1 ((closes c.args.reader.text.now c.args.reader.tokens.now
    (enclosed c.args.reader.text.now c.args.reader.tokens.now c.args.room {b = c.in_ok-inner-2.inner} c.in_default.ensures.none c.in-Some-take.ensures.here (c.in-Some-take.ensures.some _) c.in_ok-inner-2.ensures.levels c.in_ok-inner-2.ensures.operators) c.in_ok-inside.ensures).fails (c.in_err-after.ensures _))

pub simple-returns : goal.simple-returns
simple-returns t c =
    (closes c.args.reader.text.now c.args.reader.tokens.now
    (enclosed c.args.reader.text.now c.args.reader.tokens.now c.args.room {b = c.in_ok-inner-2.inner} c.in_default.ensures.none c.in-Some-take.ensures.here (c.in-Some-take.ensures.some _) c.in_ok-inner-2.ensures.levels c.in_ok-inner-2.ensures.operators) c.in_ok-inside.ensures).reads (c.in_ok-after.ensures _)
