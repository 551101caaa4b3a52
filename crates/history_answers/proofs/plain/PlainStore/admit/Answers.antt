use Rattle.std.proofs.Common.{◌≡◌, ◌∙◌, ◌∷◌, ◌++◌, ◌&&◌, [], true, List, Option, IfSome, is_some, sym, ap, subst}
use Rattle.cov_history.specs.declared.entry.Entry.{Entry}
use Rattle.cov_history.specs.declared.entry.Event.TheVariants as event
use Rattle.cov_history.specs.Answers.{by}
use Rattle.cov_history.specs.History.{is_legal, may_follow}
use Rattle.cov_history.proofs.Snoc.{legal_snoc}
use Rattle.cov_history.specs.Amounts.{Amounts, AreAmounts}
use Rattle.history_answers.proofs.plain.PlainStore.admit.Goals as goal

pub invariant_of-self-2 : goal.invariant_of-self-2
invariant_of-self-2 c =
    let s = c.args.self.now in
    let o = s.opening in
    let h = s.entries.items in
    let e = by c.args.caller (event.Admit c.args.content) in
    let after = c.in-Some.after in
    let now = c.push.new.self.items in
    let same : c.as_slice-entries.result.now ≡ h = c.as_slice-entries.ensures.value in
    let may : may_follow o h e ≡ true = subst (λ (es : List Entry). may_follow o es e ≡ true) same (sym (c.in_ok-after.ensures.some c.args.caller) ∙ ap is_some c.in-Some.is) in
    let legal : is_legal o (h ++ e ∷ []) ≡ true = legal_snoc o h e ∙ (λ i. s.legal i && may i) in
    let are : AreAmounts o (c.as_slice-entries.result.now ++ e ∷ []) after =
    subst (λ (x : Option Amounts). IfSome x (λ known. AreAmounts o (c.as_slice-entries.result.now ++ e ∷ []) known)) c.in-Some.is (c.in_ok-after.ensures.amounts c.args.caller) in
    let grown : AreAmounts o now after = subst (λ (es : List Entry). AreAmounts o es after) (ap (λ (es : List Entry). es ++ e ∷ []) same ∙ sym c.in_ok-push.ensures.items) are in
    record {
      legal = subst (λ (es : List Entry). is_legal o es ≡ true) (sym c.in_ok-push.ensures.items) legal;
      known = λ x is. subst (λ (y : Option Amounts). IfSome y (λ known. AreAmounts o now known)) is grown;
    }
