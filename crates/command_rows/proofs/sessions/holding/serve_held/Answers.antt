use denote.Builtin.{u32}
use denote.Param.{param}
use denote.Param.Send.{IsSync, sendable}
use Rattle.std.proofs.Crossing.{crosses, sync}
use Rattle.command_rows.specs.contracts.sessions.holding.Signs as signs
use Rattle.cov_workers.proofs.Sharing.{shared_sync}
use Rattle.command_rows.proofs.sessions.holding.serve_held.Goals as goal

number_sync : IsSync u32
number_sync = search sendable

signs_sync : IsSync signs.the_row
signs_sync = search (sendable, crosses) depth 30

pub for_each_mut-requires-sync-F : goal.for_each_mut-requires-sync-F
for_each_mut-requires-sync-F g c κs within = record {
  shared = λ x b o κ. (
    (
      ((λ q. tt), c.type_bounds.sync-R.shared x.0.now x.0.ref_ptr.0 x.0.ref_ptr.1 _),
      (
        ((λ q. tt), sync.shared x.1.now x.1.ref_ptr.0 x.1.ref_ptr.1 κ),
        (
          ((λ q. tt), (shared_sync (param 0 g.row.C) g.C.Book c.type_bounds.send-C).shared x.2.now x.2.ref_ptr.0 x.2.ref_ptr.1 _),
          (
            ((λ q. tt), signs_sync.shared x.3.now x.3.ref_ptr.0 x.3.ref_ptr.1 _),
            (((λ q. tt), number_sync.shared x.4.now x.4.ref_ptr.0 x.4.ref_ptr.1 κ), tt),
          ),
        ),
      ),
    ),
    λ q. tt,
  );
}
