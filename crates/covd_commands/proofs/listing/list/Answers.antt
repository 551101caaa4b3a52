use Rattle.covd_commands.proofs.listing.list.Goals as goal

pub returns-in_ok-text-in-Compiled-clause-answer : goal.returns-in_ok-text-in-Compiled-clause-answer
returns-in_ok-text-in-Compiled-clause-answer g c = (c.in-Compiled.design, rw c.in-Compiled.is at c.in_ok-design.ensures.had, c.in_ok-text-in-Compiled.ensures)
