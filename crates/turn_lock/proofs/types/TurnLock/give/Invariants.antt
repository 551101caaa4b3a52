use Rattle.turn_lock.proofs.types.TurnLock.give.Given as goal

abbrev pub ghosts-fix : goal.ghosts-fix
ghosts-fix g a = record { news = g.T.Book.entries a.value.now }
