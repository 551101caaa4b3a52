use Rattle.std.proofs.Common.{sym, ◌∙◌, inl, inr}
use Rattle.std.proofs.lemmas.Bool.{false≢true}
use Rattle.trans_auto.proofs.Leaving.{leaves-at, leaves-skipping, leaves-left}
use Rattle.trans_auto.proofs.steps.leaves.Goals as goal

pub returns-then-meets : goal.returns-then-meets
returns-then-meets c = λ base repeat last laid. (
  (λ t. leaves-at c.args.enter base c.args.old repeat last c.args.cells.now.done laid.done (c.meets.ensures.0 t)),
  (λ l. c.if-meets.true),
)

pub returns-then-cells : goal.returns-then-cells
returns-then-cells c = λ base repeat last laid. (
  (λ t. leaves-skipping c.args.enter base c.args.old repeat last (sym laid.skips ∙ c.if-cells.true) t),
  (λ l. elim (leaves-left c.args.enter base c.args.old c.args.cells.now.done repeat last laid.done l) [
    | inl common ↦ absurd (false≢true (sym c.if-meets.false ∙ c.meets.ensures.1 common))
    | inr both ↦ both.1
  ]),
)

pub returns-else-cells : goal.returns-else-cells
returns-else-cells c = λ base repeat last laid. (
  (λ t. absurd (false≢true (sym c.if-cells.false ∙ t))),
  (λ l. elim (leaves-left c.args.enter base c.args.old c.args.cells.now.done repeat last laid.done l) [
    | inl common ↦ absurd (false≢true (sym c.if-meets.false ∙ c.meets.ensures.1 common))
    | inr both ↦ laid.skips ∙ both.0
  ]),
)
