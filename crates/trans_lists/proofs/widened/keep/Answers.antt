use Rattle.std.proofs.Common.{◌≡◌, ◌∙◌, sym, subst, List}
use Rattle.std.specs.Prelude.{ℤ}
use Rattle.cov_base.specs.Sets.{written}
use Rattle.trans_seq.specs.declared.seq.Item.{Item}
use Rattle.trans_found.specs.Held.{begun_by, HasAll, AreHeld}
use Rattle.trans_found.proofs.HeldLemmas.{on-ok, held-kept}
use Rattle.trans_lists.proofs.widened.keep.Goals as goal

-- with the same first numbers
moved : (lists : List (List ℤ)) (first here : List ℤ) (numbers : List (ℤ × ℤ)) (rest : List Item) → here ≡ first → HasAll lists (begun_by first (written numbers) rest) → HasAll lists (begun_by here (written numbers) rest)
moved lists first here numbers rest e h = subst (λ u. HasAll lists (begun_by u (written numbers) rest)) (sym e) h

pub returns-in_default-clause-held : goal.returns-in_default-clause-held
returns-in_default-clause-held c =
    let first = c.args.first.now.items in
    let rest = c.args.rest.now in
    on-ok _ _ (λ h lists all had before.
    h lists (held-kept c.args.known.now c.is_tried-is_tried.new.known lists c.is_tried-is_tried.ensures all)
    (moved lists first _ c.args.set.now rest c.as_slice-in_default.ensures.value had)
    (moved lists first _ c.args.before.now rest c.as_slice-in_default.ensures.value before)) c.keep_taken.result c.keep_taken.ensures

pub returns-then-not-is_tried-clause-held : goal.returns-then-not-is_tried-clause-held
returns-then-not-is_tried-clause-held c =
    let first = c.args.first.now.items in
    let rest = c.args.rest.now in
    on-ok _ _ (λ h lists all had before.
    h lists (held-kept c.args.known.now c.is_tried-is_tried.new.known lists c.is_tried-is_tried.ensures all)
    (moved lists first _ c.args.set.now rest c.as_slice-then-not-is_tried.ensures.value had)
    (moved lists first _ c.args.before.now rest c.as_slice-then-not-is_tried.ensures.value before)) c.keep_more.result c.keep_more.ensures

pub returns-clause-held : goal.returns-clause-held
returns-clause-held c =
    let first = c.args.first.now.items in
    let rest = c.args.rest.now in
    let kept = c.in-Some.held.now in
    let wider = c.in_ok-wider.wider in
    let here : c.as_slice-3.result.now ≡ first = c.as_slice-3.ensures.value ∙ c.in_ok-wider.ensures.first in
    on-ok _ _ (λ h lists all had before.
    let held : AreHeld c.is_tried-is_tried.new.known lists = held-kept c.args.known.now c.is_tried-is_tried.new.known lists c.is_tried-is_tried.ensures all in
    let had_before : HasAll lists (begun_by first (written kept.numbers) kept.rest) = subst (λ f. HasAll lists (begun_by f (written kept.numbers) kept.rest)) c.as_slice.ensures.value (c.in-Some.ensures lists held) in
    h lists held (moved lists first _ c.args.set.now rest here had) (moved lists first _ c.args.before.now rest here before)
    (moved lists first _ wider.sure wider.rest.items here (c.in_ok-wider.ensures.sure lists had had_before))
    (moved lists first _ wider.full wider.rest.items here (c.in_ok-wider.ensures.full lists held))) c.keep_wider.result c.keep_wider.ensures
