use Rattle.std.proofs.Common.{◌++◌, ◌∷◌, [], List, sym, subst}
use Rattle.trans_seq.specs.declared.seq.Seq.{Seq}
use Rattle.point_tables.specs.declared.tables.Machine.{Machine}
use Rattle.point_tables.specs.declared.tables.Entrance.{Entrance}
use Rattle.point_tables.specs.Tables.{AreEntrances, IsEntrance}
use Rattle.point_tables.proofs.Entering.{entrances_more}
use Rattle.point_tables.proofs.transitions.add_machine.Goals as goal

pub returns-in_ok-push-2-clause-entrances : goal.returns-in_ok-push-2-clause-entrances
returns-in_ok-push-2-clause-entrances c = λ h.
    let machine : Machine = record { place = c.args.place; kind = c.args.bin.now.kind; watcher = c.in_ok-watcher.watcher } in
    let entrance : Entrance = c.entrance_of.result in
    let is : IsEntrance c.in_ok-watcher.watcher entrance = subst (λ (seqs : List Seq). IsEntrance seqs entrance) (sym c.in_ok-watcher.ensures) c.entrance_of.ensures in
    subst (λ (ms : List Machine). AreEntrances ms c.push.new.self.items) (sym c.in_ok-push-2.ensures.items)
    (subst (λ (es : List Entrance). AreEntrances (c.args.machines.now.items ++ machine ∷ []) es) (sym c.in_ok-push.ensures.items)
    (entrances_more c.args.machines.now.items c.args.entrances.now.items machine entrance is h))
