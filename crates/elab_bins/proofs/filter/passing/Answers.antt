use Rattle.std.proofs.Common.{rules}
use Rattle.elab_bins.specs.Filter.{passes}
use Rattle.elab_bins.proofs.Filters.{if_kept}
use Rattle.elab_bins.proofs.filter.passing.Goals as goal

pub returns-clause-kept : goal.returns-clause-kept
returns-clause-kept c = if_kept c.filter_with.result _ _ (λ kept h. h (passes c.args.term.now) (λ v b i p. search rules)) c.filter_with.ensures.kept

pub returns-clause-too_many : goal.returns-clause-too_many
returns-clause-too_many c = λ count e. ((c.filter_with.ensures.too_many count).0 e).0
