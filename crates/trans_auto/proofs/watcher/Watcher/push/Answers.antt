use Rattle.std.proofs.Common.{ℕ, List, OnOk, subst}
use Rattle.trans_seq.specs.declared.seq.Seq.{Seq}
use Rattle.trans_auto.specs.State.{TakesSample}
use Rattle.trans_auto.proofs.watcher.Watcher.push.Goals as goal

pub returns-clause-stands : goal.returns-clause-stands
returns-clause-stands c =
    let Keeps : List Seq → List Seq → List (ℕ × ℕ) → Type 0 = λ own removed runs. OnOk c.push_runs.result (TakesSample own removed runs c.args.sample c.push_runs.new.runs.items) in
    subst (λ own. Keeps own c.args.removing.now c.args.state.now) c.self.view_is
    (subst (λ removed. Keeps c.self.inside.own removed c.args.state.now) c.removing.view_is
    (subst (λ runs. Keeps c.self.inside.own c.removing.inside.side runs) c.state.view_is c.push_runs.ensures.stands))
