use Rattle.cov_grammar.proofs.Steps.{exits}
use Rattle.cov_parser.proofs.CovergroupWalks.{unsampled, sampled_by_event, sampled_by_function}
use Rattle.cov_parser.proofs.groups.sampling.Goals as goal

pub returns-in_err-edges : goal.returns-in_err-edges
returns-in_err-edges c = exits _ _ _ _ _ c.from_residual.ensures.1 ((sampled_by_event _ _ c.in-Some.ensures.here (c.in-Some.ensures.some _)).fails c.in_err-edges.ensures)

pub returns-in-Some : goal.returns-in-Some
returns-in-Some c = rw c.new.ensures ((sampled_by_event _ _ c.in-Some.ensures.here (c.in-Some.ensures.some _)).reads c.in_ok-edges.ensures)

pub returns-in_err-args : goal.returns-in_err-args
returns-in_err-args c = exits _ _ _ _ _ c.from_residual-in_err-args.ensures.1 ((sampled_by_function _ _ c.in-Some-take.ensures.here (c.in-Some-take.ensures.some _)).fails c.in_err-args.ensures)

pub returns-in-Some-take : goal.returns-in-Some-take
returns-in-Some-take c = rw c.new-in-Some-take.ensures ((sampled_by_function _ _ c.in-Some-take.ensures.here (c.in-Some-take.ensures.some _)).reads c.in_ok-args.ensures)

pub returns : goal.returns
returns c = rw (c.new-2.ensures, c.new-3.ensures) (unsampled _ _ c.in_default.ensures.none c.in_default-take.ensures.none)
