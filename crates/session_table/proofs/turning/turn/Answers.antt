use Rattle.session_table.proofs.Rowing.{turn_rowed, at_place}
use Rattle.session_table.proofs.turning.turn.Goals as goal

pub returns-clause-rowed : goal.returns-clause-rowed
returns-clause-rowed g c = λ from may wants. at_place (record { point = c.turn-answered.result.point; stage = c.args.talk.now.stage }) (record { point = c.answers.new.self.point; stage = c.answers.new.self.stage }) (λ i. record { point = c.answers.ensures.moved i; stage = c.answers.ensures.stage i }) (turn_rowed (g.P.Port.opening c.args.port.now) (g.P.Port.caller c.args.port.now) (g.P.Port.seen c.args.port.now) (g.P.Port.own c.args.port.now) (g.P.Port.seen c.turn-answered.new.self) (g.P.Port.own c.turn-answered.new.self)
    (record { point = c.args.talk.now.point; stage = from }) c.args.ask c.args.talk.now.stage may c.turn-answered.result.answer c.kept-answer.result c.turn-answered.result.point c.answers.result c.requires.meets c.requires.from c.requires.within c.turn-answered.ensures.grown c.turn-answered.ensures.turn wants c.kept-answer.ensures.kept c.answers.ensures.point c.answers.ensures.body c.answers.ensures.writable)
