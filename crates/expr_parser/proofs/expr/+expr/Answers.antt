use Rattle.std.proofs.Common.{◌+◌, arith, refl}
use Rattle.cov_lexer.specs.declared.kind.Kind.TheVariants.{CloseParen, CloseSquare, CloseBrace, Colon}
use Rattle.cov_grammar.specs.declared.place.Standing.TheVariants.{Plain}
use Rattle.cov_grammar.specs.Expressions.{pair}
use Rattle.cov_grammar.proofs.Lawful.{lawful_word, lawful_maybe}
use Rattle.cov_grammar.proofs.Compose.{both_reads, both_fails, both_then_fails}
use Rattle.cov_grammar.proofs.Steps.{exits, step, ends, leads_parses}
use Rattle.cov_grammar.proofs.ExprLaws.{part_expr_lawful}
use Rattle.token_reader.proofs.Walks.{too_deep}
use Rattle.expr_parser.proofs.ExprWalks.{climbs, climbs_fails, operand, operand_fails, joins_first, joins_sinks, found_next, found_breaks, found_falls, found_none, unsigned, signed, no_room_to_sign, number_read, number_operand, name_read, no_primary, opened, no_room_to_open, braced, no_room_to_brace, no_index, bracketed, no_room_to_index, no_colon, colon_leads, colon_lawful, list_starts, list_fails, list_next, list_breaks, list_ends, list_falls, list_lawful, test_fails, no_branches, asked, no_room_to_ask, no_lawful, ends_lawful}
use Rattle.cov_grammar.specs.Operators.{unary_kinds}
use Rattle.expr_parser.proofs.Operating.{unary_operate}
use Rattle.expr_parser.proofs.expr.+expr.Goals as goal

pub operand-returns-in-Some : goal.operand-returns-in-Some
operand-returns-in-Some t c = rw (c.of.ensures, c.number.ensures) (number_operand c.args.reader.text.now c.args.reader.tokens.now c.args.standing (c.in-Some.ensures.some _) c.in-Some.ensures.here)

pub binary-returns-in_err-first : goal.binary-returns-in_err-first
binary-returns-in_err-first t c =
    exits _ _ _ _ _ c.from_residual.ensures.1 (climbs_fails c.args.reader.text.now c.args.reader.tokens.now c.args.standing 0 c.args.level (omega arith) (operand_fails c.args.reader.text.now c.args.reader.tokens.now c.args.standing c.in_err-first.ensures))

pub binary-returns-in_default : goal.binary-returns-in_default
binary-returns-in_default t c =
    climbs c.args.reader.text.now c.args.reader.tokens.now c.args.standing 0 c.args.level (omega arith) c.in_default.ensures.none (operand c.args.reader.text.now c.args.reader.tokens.now c.args.standing c.in_ok-first.ensures)

pub binary-returns : goal.binary-returns
binary-returns t c = c.climbed.ensures c.args.place c.in_ok-first.ensures

pub climbed-loop-below-init : goal.climbed-loop-below-init
climbed-loop-below-init t c = record { within = omega arith; reads = λ start r. operand c.args.reader.text.now c.args.reader.tokens.now c.args.standing r }

pub climbed-loop-op-init : goal.climbed-loop-op-init
climbed-loop-op-init t c = λ start r.
    joins_first c.args.reader.text.now c.args.reader.tokens.now c.args.standing _ _ (omega arith) (climbs c.args.reader.text.now c.args.reader.tokens.now c.args.standing c.loop-below.done c.in-Some.below c.in-Some.ensures.inside c.in-Some.ensures.before (c.loop-below.invariant.reads start r))

pub climbed-returns-in_err-op : goal.climbed-returns-in_err-op
climbed-returns-in_err-op t c = λ start r.
    exits _ _ _ _ _ c.from_residual.ensures.1 (climbs_fails c.args.reader.text.now c.args.reader.tokens.now c.args.standing (c.in-Some.below + 1) c.args.level (let l = c.in-Some.ensures.below in omega arith) (joins_sinks c.args.reader.text.now c.args.reader.tokens.now c.args.standing _ _ _ c.operators-kinds.ensures _ _ (c.loop-op.invariant start r) c.in_err-op.ensures.too_many c.in_err-op.ensures.full))

pub climbed-returns-in_err-right : goal.climbed-returns-in_err-right
climbed-returns-in_err-right t c = λ start r.
    exits _ _ _ _ _ c.from_residual-in_err-right.ensures.1 (climbs_fails c.args.reader.text.now c.args.reader.tokens.now c.args.standing (c.in-Some.below + 1) c.args.level (let l = c.in-Some.ensures.below in omega arith) (found_breaks c.args.reader.text.now c.args.reader.tokens.now c.args.standing _ _ _ c.operators-kinds.ensures _ _ _ _ c.in-Some-2.is (c.loop-op.invariant start r) c.in_ok-op.ensures.some c.in_ok-op.ensures.behind c.in_err-right.ensures))

pub climbed-loop-op-smaller : goal.climbed-loop-op-smaller
climbed-loop-op-smaller t c =
    found_falls c.args.reader.text.now c.args.reader.tokens.now c.args.standing _ c.loop-op.at _ _ _ c.in-Some-2.is c.in_ok-op.ensures.behind c.in_ok-op.ensures.inside c.in_ok-right.ensures

pub climbed-loop-op-preserved : goal.climbed-loop-op-preserved
climbed-loop-op-preserved t c = λ start r.
    rw c.in_ok-left.ensures (found_next c.args.reader.text.now c.args.reader.tokens.now c.args.standing _ _ _ c.operators-kinds.ensures _ _ _ _ c.in-Some-2.is (c.loop-op.invariant start r) c.in_ok-op.ensures.some c.in_ok-right.ensures)

pub climbed-loop-below-preserved : goal.climbed-loop-below-preserved
climbed-loop-below-preserved t c = record {
  within = (let l = c.in-Some.ensures.below in omega arith);
  reads = λ start r. found_none c.args.reader.text.now c.args.reader.tokens.now c.args.standing _ _ _ c.operators-kinds.ensures _ _ c.in_default-2.is (c.loop-op.invariant start r) c.in_ok-op.ensures.none;
}

pub climbed-returns : goal.climbed-returns
climbed-returns t c = λ start r.
    climbs c.args.reader.text.now c.args.reader.tokens.now c.args.standing c.loop-below.done c.args.level c.loop-below.invariant.within c.in_default.ensures.none (c.loop-below.invariant.reads start r)

pub index-returns-in_default : goal.index-returns-in_default
index-returns-in_default t c = rw c.of.ensures (no_index c.args.reader.text.now c.args.reader.tokens.now c.args.standing _ c.index_kinds.ensures c.in_default.ensures.none)

pub index-returns-in_err-inner : goal.index-returns-in_err-inner
index-returns-in_err-inner t c =
    exits _ _ _ _ _ c.from_residual.ensures.1 (too_deep _ c.in_err-inner.ensures.fault (no_room_to_index c.args.reader.text.now c.args.reader.tokens.now c.args.standing _ c.index_kinds.ensures c.in-Some.ensures.here c.in_err-inner.ensures.none))

pub index-returns-in_err-high : goal.index-returns-in_err-high
index-returns-in_err-high t c =
    exits _ _ _ _ _ c.from_residual-in_err-high.ensures.1 (ends _ (ends_lawful c.args.reader.text.now c.args.reader.tokens.now c.args.standing) (lawful_word c.args.reader.tokens.now CloseSquare) refl (bracketed c.args.reader.text.now c.args.reader.tokens.now c.args.standing _ c.index_kinds.ensures (c.in-Some.ensures.some _) c.in_ok-inner.ensures.levels c.in_ok-inner.ensures.operators) (both_fails pair (part_expr_lawful c.args.reader.text.now c.args.reader.tokens.now Plain) (lawful_maybe (colon_lawful c.args.reader.text.now c.args.reader.tokens.now Plain) refl) refl c.in_err-high.ensures))

pub index-returns-in_err-low : goal.index-returns-in_err-low
index-returns-in_err-low t c =
    exits _ _ _ _ _ c.from_residual-in_err-low.ensures.1 (ends _ (ends_lawful c.args.reader.text.now c.args.reader.tokens.now c.args.standing) (lawful_word c.args.reader.tokens.now CloseSquare) refl (bracketed c.args.reader.text.now c.args.reader.tokens.now c.args.standing _ c.index_kinds.ensures (c.in-Some.ensures.some _) c.in_ok-inner.ensures.levels c.in_ok-inner.ensures.operators) (both_then_fails pair (part_expr_lawful c.args.reader.text.now c.args.reader.tokens.now Plain) (lawful_maybe (colon_lawful c.args.reader.text.now c.args.reader.tokens.now Plain) refl) refl c.in_ok-high.ensures c.in_err-low.ensures))

pub index-returns-in_err-after : goal.index-returns-in_err-after
index-returns-in_err-after t c =
    exits _ _ _ _ _ c.from_residual-in_err-after.ensures.1 ((step _ (ends_lawful c.args.reader.text.now c.args.reader.tokens.now c.args.standing) (lawful_word c.args.reader.tokens.now CloseSquare) refl (bracketed c.args.reader.text.now c.args.reader.tokens.now c.args.standing _ c.index_kinds.ensures (c.in-Some.ensures.some _) c.in_ok-inner.ensures.levels c.in_ok-inner.ensures.operators) (both_reads pair (part_expr_lawful c.args.reader.text.now c.args.reader.tokens.now Plain) (lawful_maybe (colon_lawful c.args.reader.text.now c.args.reader.tokens.now Plain) refl) refl c.in_ok-high.ensures c.in_ok-low.ensures)).fails (c.in_err-after.ensures _))

pub index-returns : goal.index-returns
index-returns t c = rw (c.of-2.ensures, c.put.ensures, c.put-2.ensures) ((step _ (ends_lawful c.args.reader.text.now c.args.reader.tokens.now c.args.standing) (lawful_word c.args.reader.tokens.now CloseSquare) refl (bracketed c.args.reader.text.now c.args.reader.tokens.now c.args.standing _ c.index_kinds.ensures {b = c.in_ok-inner.inner} {d = c.args.room} (c.in-Some.ensures.some _) c.in_ok-inner.ensures.levels c.in_ok-inner.ensures.operators) (both_reads pair (part_expr_lawful c.args.reader.text.now c.args.reader.tokens.now Plain) (lawful_maybe (colon_lawful c.args.reader.text.now c.args.reader.tokens.now Plain) refl) refl c.in_ok-high.ensures c.in_ok-low.ensures)).reads (c.in_ok-after.ensures _))

pub part_expr-returns-in_err-test : goal.part_expr-returns-in_err-test
part_expr-returns-in_err-test t c =
    exits _ _ _ _ _ c.from_residual.ensures.1 (test_fails c.args.reader.text.now c.args.reader.tokens.now c.args.standing c.in_err-test.ensures)

pub part_expr-returns-in_default : goal.part_expr-returns-in_default
part_expr-returns-in_default t c =
    no_branches c.args.reader.text.now c.args.reader.tokens.now c.args.standing c.in_ok-test.ensures c.in_default.ensures.none

pub part_expr-returns-in_err-inner : goal.part_expr-returns-in_err-inner
part_expr-returns-in_err-inner t c =
    exits _ _ _ _ _ c.from_residual-in_err-inner.ensures.1 (too_deep _ c.in_err-inner.ensures.fault (no_room_to_ask c.args.reader.text.now c.args.reader.tokens.now c.args.standing c.in_ok-test.ensures c.in-Some.ensures.here c.in_err-inner.ensures.none))

pub part_expr-returns-in_err-yes : goal.part_expr-returns-in_err-yes
part_expr-returns-in_err-yes t c =
    exits _ _ _ _ _ c.from_residual-in_err-yes.ensures.1 (ends _ (part_expr_lawful c.args.reader.text.now c.args.reader.tokens.now Plain) (no_lawful c.args.reader.text.now c.args.reader.tokens.now c.args.standing) refl (asked c.args.reader.text.now c.args.reader.tokens.now c.args.standing c.in_ok-test.ensures (c.in-Some.ensures.some _) c.in_ok-inner.ensures.levels c.in_ok-inner.ensures.operators) c.in_err-yes.ensures)

pub part_expr-returns-in_err-at : goal.part_expr-returns-in_err-at
part_expr-returns-in_err-at t c =
    exits _ _ _ _ _ c.from_residual-in_err-at.ensures.1 (ends _ (lawful_word c.args.reader.tokens.now Colon) (part_expr_lawful c.args.reader.text.now c.args.reader.tokens.now c.args.standing) refl (step _ (part_expr_lawful c.args.reader.text.now c.args.reader.tokens.now Plain) (no_lawful c.args.reader.text.now c.args.reader.tokens.now c.args.standing) refl (asked c.args.reader.text.now c.args.reader.tokens.now c.args.standing c.in_ok-test.ensures (c.in-Some.ensures.some _) c.in_ok-inner.ensures.levels c.in_ok-inner.ensures.operators) c.in_ok-yes.ensures) (c.in_err-at.ensures _))

pub part_expr-returns-in_err-no : goal.part_expr-returns-in_err-no
part_expr-returns-in_err-no t c =
    exits _ _ _ _ _ c.from_residual-in_err-no.ensures.1 ((step _ (lawful_word c.args.reader.tokens.now Colon) (part_expr_lawful c.args.reader.text.now c.args.reader.tokens.now c.args.standing) refl (step _ (part_expr_lawful c.args.reader.text.now c.args.reader.tokens.now Plain) (no_lawful c.args.reader.text.now c.args.reader.tokens.now c.args.standing) refl (asked c.args.reader.text.now c.args.reader.tokens.now c.args.standing c.in_ok-test.ensures (c.in-Some.ensures.some _) c.in_ok-inner.ensures.levels c.in_ok-inner.ensures.operators) c.in_ok-yes.ensures) (c.in_ok-at.ensures _)).fails c.in_err-no.ensures)

pub part_expr-returns : goal.part_expr-returns
part_expr-returns t c =
    rw (c.in_ok-choice.ensures, c.start_at-start.ensures) ((step _ (lawful_word c.args.reader.tokens.now Colon) (part_expr_lawful c.args.reader.text.now c.args.reader.tokens.now c.args.standing) refl (step _ (part_expr_lawful c.args.reader.text.now c.args.reader.tokens.now Plain) (no_lawful c.args.reader.text.now c.args.reader.tokens.now c.args.standing) refl (asked c.args.reader.text.now c.args.reader.tokens.now c.args.standing c.in_ok-test.ensures (c.in-Some.ensures.some _) c.in_ok-inner.ensures.levels c.in_ok-inner.ensures.operators) c.in_ok-yes.ensures) (c.in_ok-at.ensures _)).reads c.in_ok-no.ensures)

pub parts-returns-in_err-first : goal.parts-returns-in_err-first
parts-returns-in_err-first t c =
    exits _ _ _ _ _ c.from_residual.ensures.1 (list_fails c.args.reader.text.now c.args.reader.tokens.now c.in_err-first.ensures)

pub parts-loop-next-init : goal.parts-loop-next-init
parts-loop-next-init t c = rw c.in_ok-parts.ensures (list_starts c.args.reader.text.now c.args.reader.tokens.now c.in_ok-first.ensures)

pub parts-returns-in_err-part : goal.parts-returns-in_err-part
parts-returns-in_err-part t c =
    exits _ _ _ _ _ c.from_residual-in_err-part.ensures.1 (list_breaks c.args.reader.text.now c.args.reader.tokens.now _ c.loop-next.invariant (c.in-Some.ensures.some _) c.in_err-part.ensures)

pub parts-loop-next-smaller : goal.parts-loop-next-smaller
parts-loop-next-smaller t c =
    list_falls c.args.reader.text.now c.args.reader.tokens.now (c.in-Some.ensures.some _) c.in_ok-part.ensures

pub parts-loop-next-preserved : goal.parts-loop-next-preserved
parts-loop-next-preserved t c = rw c.in_ok-add.ensures (list_next c.args.reader.text.now c.args.reader.tokens.now _ c.loop-next.invariant (c.in-Some.ensures.some _) c.in_ok-part.ensures)

pub parts-returns : goal.parts-returns
parts-returns t c = list_ends c.args.reader.text.now c.args.reader.tokens.now _ c.loop-next.invariant c.in_default.ensures.none

pub primary-returns-in-Some : goal.primary-returns-in-Some
primary-returns-in-Some t c = rw (c.of.ensures, c.number.ensures) (number_read c.args.reader.text.now c.args.reader.tokens.now c.args.standing (c.in-Some.ensures.some _) c.in-Some.ensures.here)

pub primary-returns-in_err-index : goal.primary-returns-in_err-index
primary-returns-in_err-index t c =
    exits _ _ _ _ _ c.from_residual.ensures.1 ((name_read c.args.reader.text.now c.args.reader.tokens.now c.args.standing (c.in-Some-take.ensures.some _) c.in_default.ensures.none c.in-Some-take.ensures.here).fails c.in_err-index.ensures)

pub primary-returns-in-Some-take : goal.primary-returns-in-Some-take
primary-returns-in-Some-take t c =
    rw c.in_ok-selected.ensures ((name_read c.args.reader.text.now c.args.reader.tokens.now c.args.standing (c.in-Some-take.ensures.some _) c.in_default.ensures.none c.in-Some-take.ensures.here).reads c.in_ok-index.ensures)

pub primary-returns-in_err-inner : goal.primary-returns-in_err-inner
primary-returns-in_err-inner t c =
    exits _ _ _ _ _ c.from_residual-in_err-inner.ensures.1 (too_deep _ c.in_err-inner.ensures.fault (no_room_to_open c.args.reader.text.now c.args.reader.tokens.now c.args.standing c.in_default.ensures.none c.in_default-take.ensures.none c.in-Some-take-2.ensures.here c.in_err-inner.ensures.none))

pub primary-returns-in_err-inside : goal.primary-returns-in_err-inside
primary-returns-in_err-inside t c =
    exits _ _ _ _ _ c.from_residual-in_err-inside.ensures.1 (ends _ (part_expr_lawful c.args.reader.text.now c.args.reader.tokens.now Plain) (lawful_word c.args.reader.tokens.now CloseParen) refl (opened c.args.reader.text.now c.args.reader.tokens.now c.args.standing (c.in-Some-take-2.ensures.some _) c.in_default.ensures.none c.in_default-take.ensures.none c.in-Some-take-2.ensures.here c.in_ok-inner.ensures.levels c.in_ok-inner.ensures.operators) c.in_err-inside.ensures)

pub primary-returns-in_err-after : goal.primary-returns-in_err-after
primary-returns-in_err-after t c =
    exits _ _ _ _ _ c.from_residual-in_err-after.ensures.1 ((step _ (part_expr_lawful c.args.reader.text.now c.args.reader.tokens.now Plain) (lawful_word c.args.reader.tokens.now CloseParen) refl (opened c.args.reader.text.now c.args.reader.tokens.now c.args.standing (c.in-Some-take-2.ensures.some _) c.in_default.ensures.none c.in_default-take.ensures.none c.in-Some-take-2.ensures.here c.in_ok-inner.ensures.levels c.in_ok-inner.ensures.operators) c.in_ok-inside.ensures).fails (c.in_err-after.ensures _))

pub primary-returns-in-Some-take-2 : goal.primary-returns-in-Some-take-2
primary-returns-in-Some-take-2 t c =
    (step _ (part_expr_lawful c.args.reader.text.now c.args.reader.tokens.now Plain) (lawful_word c.args.reader.tokens.now CloseParen) refl (opened c.args.reader.text.now c.args.reader.tokens.now c.args.standing (c.in-Some-take-2.ensures.some _) c.in_default.ensures.none c.in_default-take.ensures.none c.in-Some-take-2.ensures.here c.in_ok-inner.ensures.levels c.in_ok-inner.ensures.operators) c.in_ok-inside.ensures).reads (c.in_ok-after.ensures _)

pub primary-returns-in_default-take-3 : goal.primary-returns-in_default-take-3
primary-returns-in_default-take-3 t c =
    no_primary c.args.reader.text.now c.args.reader.tokens.now c.args.standing c.in_default.ensures.none c.in_default-take.ensures.none c.in_default-take-2.ensures.none c.in_default-take-3.ensures.none

pub primary-returns-in_err-inner-2 : goal.primary-returns-in_err-inner-2
primary-returns-in_err-inner-2 t c =
    exits _ _ _ _ _ c.from_residual-in_err-inner-2.ensures.1 (too_deep _ c.in_err-inner-2.ensures.fault (no_room_to_brace c.args.reader.text.now c.args.reader.tokens.now c.args.standing c.in_default.ensures.none c.in_default-take.ensures.none c.in_default-take-2.ensures.none c.in-Some-take-3.ensures.here c.in_err-inner-2.ensures.none))

pub primary-returns-in_err-parts : goal.primary-returns-in_err-parts
primary-returns-in_err-parts t c =
    exits _ _ _ _ _ c.from_residual-in_err-parts.ensures.1 (ends _ (list_lawful c.args.reader.text.now c.args.reader.tokens.now) (lawful_word c.args.reader.tokens.now CloseBrace) refl (braced c.args.reader.text.now c.args.reader.tokens.now c.args.standing (c.in-Some-take-3.ensures.some _) c.in_default.ensures.none c.in_default-take.ensures.none c.in_default-take-2.ensures.none c.in_ok-inner-2.ensures.levels c.in_ok-inner-2.ensures.operators) c.in_err-parts.ensures)

pub primary-returns-in_err-after-2 : goal.primary-returns-in_err-after-2
primary-returns-in_err-after-2 t c =
    exits _ _ _ _ _ c.from_residual-in_err-after-2.ensures.1 ((step _ (list_lawful c.args.reader.text.now c.args.reader.tokens.now) (lawful_word c.args.reader.tokens.now CloseBrace) refl (braced c.args.reader.text.now c.args.reader.tokens.now c.args.standing (c.in-Some-take-3.ensures.some _) c.in_default.ensures.none c.in_default-take.ensures.none c.in_default-take-2.ensures.none c.in_ok-inner-2.ensures.levels c.in_ok-inner-2.ensures.operators) c.in_ok-parts.ensures).fails (c.in_err-after-2.ensures _))

pub primary-returns : goal.primary-returns
primary-returns t c = rw (c.of-2.ensures, c.concatenation.ensures) ((step _ (list_lawful c.args.reader.text.now c.args.reader.tokens.now) (lawful_word c.args.reader.tokens.now CloseBrace) refl (braced c.args.reader.text.now c.args.reader.tokens.now c.args.standing {b = c.in_ok-inner-2.inner} {d = c.args.room} (c.in-Some-take-3.ensures.some _) c.in_default.ensures.none c.in_default-take.ensures.none c.in_default-take-2.ensures.none c.in_ok-inner-2.ensures.levels c.in_ok-inner-2.ensures.operators) c.in_ok-parts.ensures).reads (c.in_ok-after-2.ensures _))

pub low_end-returns-in_default : goal.low_end-returns-in_default
low_end-returns-in_default t c = rw c.of.ensures (no_colon c.args.reader.text.now c.args.reader.tokens.now c.in_default.ensures.none)

pub low_end-returns-in_err-low : goal.low_end-returns-in_err-low
low_end-returns-in_err-low t c =
    exits _ _ _ _ _ c.from_residual.ensures.1 ((colon_leads c.args.reader.text.now c.args.reader.tokens.now (c.in-Some.ensures.some _)).fails c.in_err-low.ensures)

pub low_end-returns : goal.low_end-returns
low_end-returns t c = rw (c.of-2.ensures, c.put.ensures) ((colon_leads c.args.reader.text.now c.args.reader.tokens.now (c.in-Some.ensures.some _)).reads c.in_ok-low.ensures)

pub unary-returns-in_default : goal.unary-returns-in_default
unary-returns-in_default t c =
    leads_parses _ (unsigned c.args.reader.text.now c.args.reader.tokens.now c.args.standing (c.in_default.ensures.none unary_kinds unary_operate)) c.primary.ensures

pub unary-returns-in_default-take : goal.unary-returns-in_default-take
unary-returns-in_default-take t c =
    leads_parses _ (unsigned c.args.reader.text.now c.args.reader.tokens.now c.args.standing c.in_default-take.ensures.none) c.primary-in_default-take.ensures

pub unary-returns-in_err-inner : goal.unary-returns-in_err-inner
unary-returns-in_err-inner t c =
    exits _ _ _ _ _ c.from_residual.ensures.1 (too_deep _ c.in_err-inner.ensures.fault (no_room_to_sign c.args.reader.text.now c.args.reader.tokens.now c.args.standing c.in-Some-take.ensures.here c.in_err-inner.ensures.none))

pub unary-returns-in_err-arg : goal.unary-returns-in_err-arg
unary-returns-in_err-arg t c =
    exits _ _ _ _ _ c.from_residual-in_err-arg.ensures.1 ((signed c.args.reader.text.now c.args.reader.tokens.now c.args.standing (c.in-Some-take.ensures.some _) c.in-Some-take.ensures.here c.in_ok-inner.ensures.levels c.in_ok-inner.ensures.operators).fails c.in_err-arg.ensures)

pub unary-returns : goal.unary-returns
unary-returns t c =
    rw c.in_ok-before_one.ensures ((signed c.args.reader.text.now c.args.reader.tokens.now c.args.standing {b = c.in_ok-inner.inner} {d = c.args.room} (c.in-Some-take.ensures.some _) c.in-Some-take.ensures.here c.in_ok-inner.ensures.levels c.in_ok-inner.ensures.operators).reads c.in_ok-arg.ensures)
