use Rattle.std.proofs.Common.{◌≡◌, [], sym, ◌∙◌, length}
use Rattle.std.proofs.lemmas.Bool.{eqb-true}
use Rattle.trans_found.proofs.Numbers.{left_is, none_left, none_known_left, no_ranges}
use Rattle.trans_seq.proofs.Results.{if_ok}
use Rattle.trans_lists.proofs.spread.unknown_numbers.Goals as goal

pub returns-then-is_empty : goal.returns-then-is_empty
returns-then-is_empty c =
    let none : c.intervals.result.now ≡ [] = no_ranges c.intervals.result.now (eqb-true (length c.intervals.result.now) 0 (sym c.if-is_empty.ensures)) in
    none_left c.args.set.now c.args.known.now c.new.result (sym c.intervals.ensures.value ∙ none) c.new.ensures

pub returns-then-is_empty-2 : goal.returns-then-is_empty-2
returns-then-is_empty-2 c =
    let none : c.intervals-2.result.now ≡ [] = no_ranges c.intervals-2.result.now (eqb-true (length c.intervals-2.result.now) 0 (sym c.if-is_empty-2.ensures)) in
    none_known_left c.args.set.now c.args.known.now c.in_ok-copy.field-0 (sym c.intervals-2.ensures.value ∙ none) c.in_ok-copy.ensures

pub returns : goal.returns
returns c =
    let set = c.args.set.now in
    let known = c.args.known.now in
    if_ok _ _ (λ left is. left_is set known left c.intervals.ensures.set_of_written is) c.minus.result c.minus.ensures.set
