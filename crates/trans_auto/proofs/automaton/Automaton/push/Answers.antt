use Rattle.std.proofs.Common.{ℕ, List, subst}
use Rattle.trans_seq.specs.declared.seq.Seq.{Seq}
use Rattle.trans_auto.specs.State.{TakesSample}
use Rattle.trans_auto.proofs.automaton.Automaton.push.Goals as goal

pub returns-clause-stands : goal.returns-clause-stands
returns-clause-stands c =
    let Keeps : List Seq × List Seq → List (ℕ × ℕ) → Type 0 = λ sides runs. TakesSample sides.0 sides.1 runs c.args.sample c.push_runs.new.runs.items in
    let runs : Keeps (c.self.inside.own, c.self.inside.removed) c.args.state.now =
    subst (λ runs. Keeps (c.self.inside.own, c.self.inside.removed) runs) c.state.view_is c.in_ok-answer.ensures.stands in
    subst (λ sides. Keeps sides c.args.state.now) c.self.view_is runs
