use Rattle.point_sampler.proofs.machines.push_others.Goals as goal

pub returns-clause-stands : goal.returns-clause-stands
returns-clause-stands c = λ w others some. c.in_ok-answer.ensures.stands w (others some)
