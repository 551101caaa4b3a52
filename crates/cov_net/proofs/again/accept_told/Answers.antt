use Rattle.cov_net.proofs.again.accept_told.Goals as goal

pub returns-in-Err : goal.returns-in-Err
returns-in-Err g c = record { answer = (c.in-Err.field-0, c.in-Err.ensures.answer) }
