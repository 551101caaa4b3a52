use Rattle.std.proofs.Common.{◌≡◌, ◌∙◌, ◌+◌, ◌∷◌, ◌++◌, [], true, false, not, ◌&&◌, is_none, is_some, sym, ap, arith}
use Rattle.design_data.specs.declared.design.Design.{Design}
use Rattle.cov_history.specs.declared.entry.Event.TheVariants as event
use Rattle.cov_history.specs.Answers.{by}
use Rattle.cov_history.specs.History.{bins_hit, has_stop, suits}
use Rattle.cov_history.specs.Amounts.{AreAmounts, first_passed}
use Rattle.cov_history.proofs.Amounting.{amounts_more}
use Rattle.history_answers.proofs.Amounting.{amount_is, legal_amounts}
use Rattle.history_answers.proofs.Following.{may_if, none_of, none_left}
use Rattle.history_answers.proofs.admitting.with_admission.Goals as goal

pub with_test-requires : goal.with_test-requires
with_test-requires c which =
    let a = amount_is c.args.opening.now c.args.entries.now c.args.before.now c.requires.amounts which in
    let most = legal_amounts c.args.opening.now c.args.entries.now c.requires.legal which in
    omega (arith, a, most)

pub returns-then-is_some-clause-some : goal.returns-then-is_some-clause-some
returns-then-is_some-clause-some c caller =
    let o = c.args.opening.now in
    let h = c.args.entries.now in
    let r = c.args.content.now in
    let before = c.args.before.now in
    let after = c.in_ok-after.after in
    let e = c.in_ok-after.ensures in
    let are : AreAmounts o (h ++ by caller (event.Admit r) ∷ []) after = amounts_more o h caller r before after c.requires.amounts e.tests e.bytes (e.entries ∙ ap (λ (d : Design). before.entries + bins_hit d r) c.design_at.ensures) e.history in
    let free : (not (has_stop h) && suits o h (event.Admit r)) ≡ true = sym c.is_free.ensures ∙ c.if-not-is_free.false in
    let over : is_none (first_passed after) ≡ false = none_of (first_passed after) (ap is_some (sym c.passed.ensures) ∙ sym c.is_some.ensures ∙ c.if-is_some.true) in
    sym (may_if o h caller r after free are ∙ over)

pub returns-clause-some : goal.returns-clause-some
returns-clause-some c caller =
    let o = c.args.opening.now in
    let h = c.args.entries.now in
    let r = c.args.content.now in
    let before = c.args.before.now in
    let after = c.in_ok-after.after in
    let e = c.in_ok-after.ensures in
    let are : AreAmounts o (h ++ by caller (event.Admit r) ∷ []) after = amounts_more o h caller r before after c.requires.amounts e.tests e.bytes (e.entries ∙ ap (λ (d : Design). before.entries + bins_hit d r) c.design_at.ensures) e.history in
    let free : (not (has_stop h) && suits o h (event.Admit r)) ≡ true = sym c.is_free.ensures ∙ c.if-not-is_free.false in
    let within : is_none (first_passed after) ≡ true = none_left (first_passed after) (ap is_some (sym c.passed.ensures) ∙ sym c.is_some.ensures ∙ c.if-is_some.false) in
    sym (may_if o h caller r after free are ∙ within)

pub returns-clause-amounts : goal.returns-clause-amounts
returns-clause-amounts c caller =
    let o = c.args.opening.now in
    let h = c.args.entries.now in
    let r = c.args.content.now in
    let before = c.args.before.now in
    let e = c.in_ok-after.ensures in
    amounts_more o h caller r before c.in_ok-after.after c.requires.amounts e.tests e.bytes (e.entries ∙ ap (λ (d : Design). before.entries + bins_hit d r) c.design_at.ensures) e.history
