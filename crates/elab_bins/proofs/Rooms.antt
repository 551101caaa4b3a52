-- A point has room for the bins that a declaration makes.
use Rattle.std.proofs.Common.{◌≡◌, ◌+◌, ◌≤◌, List, length, arith, Ok}
use Rattle.std.specs.Prelude.{nat_le}
use Rattle.cov_ground.specs.Limits.{most_bins}
use Rattle.cov_tree.specs.declared.bins.BinsDecl.{BinsDecl}
use Rattle.cov_tree.specs.declared.bins.Step.{Step}
use Rattle.const_eval.specs.Scopes.{Levels}
use Rattle.elab_base.specs.declared.fault.ElabKind.TheVariants as kind
use Rattle.elab_base.specs.Gives.{needs}
use Rattle.elab_base.specs.Steps.{guard_in}
use Rattle.elab_base.proofs.Keeps.{bind_ok, needs_ok}
use Rattle.elab_values.specs.declared.domain.Domain.{Domain}
use Rattle.elab_values.specs.declared.made.Made.{Made}
use Rattle.elab_transitions.specs.declared.plans.Before.{Before}
use Rattle.elab_transitions.specs.declared.bins.TransBins.{TransBins}
use Rattle.elab_transitions.specs.Bins.{trans_bins_of, default_bin_of}
use Rattle.elab_transitions.proofs.Within.{is_within_limits}

pub trans_room : (levels : Levels) (domain : Domain) (b : BinsDecl) (sequences : List (List Step)) (before : Before) (made : TransBins) → trans_bins_of levels domain b sequences before ≡ Ok made → before.bins + length made.bins ≤ most_bins
trans_room levels domain b sequences before made e = (is_within_limits levels domain b sequences before made e).few

pub default_room : (levels : Levels) (b : BinsDecl) (before : Before) (made : Made) → default_bin_of levels b before ≡ Ok made → before.bins + 1 ≤ most_bins
unfolding default_bin_of
default_room levels b before made e =
    let g = bind_ok (guard_in levels b.guard) _ made e in
    let n = bind_ok (needs (nat_le (before.bins + 1) most_bins) kind.TooManyBins b.at) _ made g.2 in
    let fits = needs_ok (nat_le (before.bins + 1) most_bins) kind.TooManyBins b.at n.0 n.1 in
    grind (arith, fits)
