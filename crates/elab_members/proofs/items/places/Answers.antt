use Rattle.elab_members.proofs.Naming.{place_more, places_done}
use Rattle.elab_members.proofs.items.places.Goals as goal

pub loop-place-preserved : goal.loop-place-preserved
loop-place-preserved c = place_more c.args.names.now c.loop-place.place c.index-names-place.result c.loop-place.places c.add_place.new.places _ c.loop-place-test.true c.index-names-place.is c.in_ok-add_place.ensures c.loop-place.invariant

pub returns : goal.returns
returns c = places_done c.args.names.now c.loop-place.place _ _ c.loop-place-test.false c.loop-place.invariant
