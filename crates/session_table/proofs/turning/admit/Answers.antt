use Rattle.std.proofs.Common.{refl, ap, rules}
use Rattle.std.specs.Prelude.{Some}
use Rattle.cov_history.specs.Turns.{Admit}
use Rattle.session_table.proofs.Rowing.{rowed_before, lacks_after, wished_as}
use Rattle.session_table.proofs.Meeting.{prepared_meets, from_basis}
use Rattle.session_table.proofs.turning.admit.Goals as goal

pub returns-in_default-clause-rowed : goal.returns-in_default-clause-rowed
returns-in_default-clause-rowed g c = λ from. lacks_after (g.P.Port.opening c.args.port.now) (g.P.Port.caller c.args.port.now) (g.P.Port.seen c.args.port.now) (g.P.Port.own c.args.port.now) (g.P.Port.seen c.basis.new.self) (g.P.Port.own c.basis.new.self) (record { point = c.args.talk.now.point; stage = from }) _ c.args.talk.now.stage c.lacks.result c.requires.within c.basis.ensures.grown c.basis.ensures.own c.lacks.ensures.point c.lacks.ensures.body c.lacks.ensures.writable

pub returns-in_default-prepare-clause-rowed : goal.returns-in_default-prepare-clause-rowed
returns-in_default-prepare-clause-rowed g c = λ from. lacks_after (g.P.Port.opening c.args.port.now) (g.P.Port.caller c.args.port.now) (g.P.Port.seen c.args.port.now) (g.P.Port.own c.args.port.now) (g.P.Port.seen c.basis.new.self) (g.P.Port.own c.basis.new.self) (record { point = c.args.talk.now.point; stage = from }) _ c.args.talk.now.stage c.lacks-in_default-prepare.result c.requires.within c.basis.ensures.grown c.basis.ensures.own c.lacks-in_default-prepare.ensures.point c.lacks-in_default-prepare.ensures.body c.lacks-in_default-prepare.ensures.writable

pub turn-requires-clause-meets : goal.turn-requires-clause-meets
turn-requires-clause-meets g c = let h = prepared_meets (g.P.Port.opening c.basis.new.self) (g.P.Port.opening c.args.port.now) (g.P.Port.seen c.basis.new.self) c.in-Ok.basis c.in-Ok-prepare.prepared c.args.rec (g.met.P.Port.lawful c.basis.new.self).legal c.basis.ensures.opening c.in-Ok.ensures.basis c.in-Ok-prepare.ensures.design c.in-Ok-prepare.ensures.of c.requires.fits in search rules

pub turn-requires-clause-from : goal.turn-requires-clause-from
turn-requires-clause-from g c = let h = from_basis c.basis.ensures.grown c.in-Ok.ensures.basis c.requires.within in search rules

pub returns-clause-rowed : goal.returns-clause-rowed
returns-clause-rowed g c = λ from. rowed_before (g.P.Port.opening c.args.port.now) (g.P.Port.caller c.args.port.now) (g.P.Port.seen c.args.port.now) (g.P.Port.own c.args.port.now) (g.P.Port.opening c.basis.new.self) (g.P.Port.caller c.basis.new.self) (g.P.Port.seen c.basis.new.self) (g.P.Port.own c.basis.new.self) (g.P.Port.seen c.turn.new.port) (g.P.Port.own c.turn.new.port) (record { point = c.args.talk.now.point; stage = from }) _ c.args.talk.now.stage _ c.turn.result _ c.basis.ensures.opening c.basis.ensures.caller c.basis.ensures.grown c.basis.ensures.own
    (wished_as _ _ (ap Admit c.in-Ok-prepare.ensures.of) (c.turn.ensures.rowed from (Some c.args.talk.now.stage) (λ _. refl)))
