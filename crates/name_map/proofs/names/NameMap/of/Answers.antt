use Rattle.name_map.proofs.Named.{pairs_step}
use Rattle.name_map.proofs.names.NameMap.of.Goals as goal

pub loop-pair-preserved : goal.loop-pair-preserved
loop-pair-preserved g c = pairs_step _ _ c.loop-pair.yielded c.in-Some.pair c.in_ok-declare.ensures.added c.loop-pair.invariant
