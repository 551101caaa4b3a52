use Rattle.std.proofs.Common.{◌≡◌, [], sym, ◌∙◌, length}
use Rattle.std.proofs.lemmas.Bool.{eqb-true}
use Rattle.trans_found.proofs.Numbers.{no_ranges}
use Rattle.trans_found.proofs.HeldLemmas.{part-none, part-of}
use Rattle.trans_found.proofs.held.is_part.Goals as goal

pub returns : goal.returns
returns c = λ empty.
    let left = c.in_ok-left.left in
    let none : c.intervals.result.now ≡ [] = no_ranges c.intervals.result.now (eqb-true (length c.intervals.result.now) 0 (sym c.is_empty.ensures ∙ empty)) in
    part-of c.args.set.now c.args.other.now left (sym c.intervals.ensures.value ∙ none) c.in_ok-left.ensures.numbers

pub returns-then-is_none : goal.returns-then-is_none
returns-then-is_none c = λ none. part-none c.args.set.now c.args.other.now (c.is_none-then-is_none.ensures none)
