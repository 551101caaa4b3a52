use Rattle.std.proofs.Common.{◌≡◌, ◌≢◌, ◌⊎◌, [], ◌∷◌, ◌++◌, subst, sym, ◌∙◌, ap, inl, inr, arith, ℕ, true}
use Rattle.std.specs.Prelude.{Contains}
use Rattle.trans_auto.specs.State.{PairSteps}
use Rattle.trans_auto.proofs.RunLemmas.{advances-from, live-kept, live-only}
use Rattle.trans_auto.proofs.runs.advance.Goals as goal
use Rattle.trans_auto.proofs.runs.advance.Goals.{then-begun-ne0+in_ok-push, else-begun-ne0}

pub returns-clause-ok : goal.returns-clause-ok
returns-clause-ok c =
    let runs = c.args.runs.now.items in
    let v = c.args.sample.now in
    let own = c.args.own.now in
    let removed = c.args.removed.now in
    let b : ℕ × ℕ = (c.step-begun.result, c.args.step.now.begun) in
    let begins : PairSteps own removed v true (0, 0) b = (c.step-begun.ensures v c.inside-inside.ensures, c.requires.begun) in
    let all = c.if-begun-ne0.runs.items in
    let moved = c.move_runs.new.runs.items in
    let next = c.keep_once.new.runs.items in
    let live = c.keep_live.ensures in
    let added : ((b.0 ≢ 0) × (all ≡ runs ++ b ∷ [])) ⊎ ((b.0 ≡ 0) × (all ≡ runs)) = elim c.if-begun-ne0.branch [
      | then-begun-ne0+in_ok-push w ↦ inl (w.if-begun-ne0.true, ap (λ v. v.items) w.runs-is ∙ w.in_ok-push.ensures.items ∙ ap (λ (n : ℕ). runs ++ (c.step-begun.result, n) ∷ []) w.begun.ensures)
      | else-begun-ne0 w ↦ inr (w.if-begun-ne0.false, ap (λ v. v.items) w.runs-is)
    ] in
    advances-from own removed v runs all moved next b begins added c.move_runs.ensures.len (λ k d h. c.move_runs.ensures.moved v c.inside-inside.ensures c.requires k d (omega arith)) (λ k d h. c.move_runs.ensures.rest k d (omega arith))
    (λ r h ne. c.keep_once.ensures.kept r (subst (λ l. Contains l r) (sym live) (live-kept moved r h ne)))
    (λ r h. live-only moved r (subst (λ l. Contains l r) live (c.keep_once.ensures.only r h)))
    c.keep_once.ensures.once
