use Rattle.std.proofs.Common.{rules, ℕ}
use Rattle.std.specs.Prelude.{not, ◌==◌}
use Rattle.std.proofs.lemmas.Fn.{filter_same}
use Rattle.trans_auto.proofs.runs.keep_live.Goals as goal

pub returns : goal.returns
returns c = filter_same _ (λ (run : ℕ × ℕ). not (run.0 == 0)) _ (λ run b f' t. search rules) _ _ c.retain.ensures.filtered
