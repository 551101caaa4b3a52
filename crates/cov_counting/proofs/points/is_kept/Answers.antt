use Rattle.std.proofs.Common.{refl, sym, ◌∙◌}
use Rattle.std.proofs.lemmas.Bool.{false≢true}
use Rattle.cov_counting.proofs.Windows.{yes, no, some_right, some_neither}
use Rattle.cov_counting.proofs.points.is_kept.Goals as goal

pub returns-then-is_illegal : goal.returns-then-is_illegal
returns-then-is_illegal c = no _ refl (λ keeps. keeps.1 (some_right c.args.ignored.now c.args.illegal.now c.args.window.now (c.in_ok-is_illegal.ensures.0 c.if-is_illegal.true)))

pub returns : goal.returns
returns c = yes _ refl (c.in_ok-own.ensures.0 c.if-not-own.false, some_neither c.args.ignored.now c.args.illegal.now c.args.window.now (λ s. false≢true (sym c.if-is_ignored.false ∙ c.in_ok-is_ignored.ensures.1 s)) (λ s. false≢true (sym c.if-is_illegal.false ∙ c.in_ok-is_illegal.ensures.1 s)))
