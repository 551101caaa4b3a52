use Rattle.ucis_model.proofs.Parents.{places_more}
use Rattle.ucis_model.proofs.index.places.Goals as goal

pub loop-place-preserved : goal.loop-place-preserved
loop-place-preserved c = places_more _ _ _ _ _ c.loop-place.invariant c.in_ok-path.ensures c.in_ok-push.ensures.items
