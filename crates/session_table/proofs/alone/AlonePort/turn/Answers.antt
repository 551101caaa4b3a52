use Rattle.session_table.proofs.Single.{alone_turn}
use Rattle.session_table.proofs.alone.AlonePort.turn.Goals as goal

pub returns-clause-turn : goal.returns-clause-turn
returns-clause-turn g c = alone_turn _ 0 _ _ _ _ _ _ _ c.serve.ensures.served c.serve.ensures.point
