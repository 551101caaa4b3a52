use Rattle.std.proofs.lemmas.Result.{err_from_is_err_and}
use Rattle.std.specs.Arc.{arc_value}
use Rattle.covd_commands.specs.Origins.{origin_of, origins_of}
use Rattle.covd_filling.proofs.Ahead.{next_one}
use Rattle.covd_filling.proofs.batches.next_counted.Goals as goal

pub returns-in_err-look_ahead-clause-next : goal.returns-in_err-look_ahead-clause-next
returns-in_err-look_ahead-clause-next g c =
    let p = err_from_is_err_and c.from_residual.result c.from_residual.ensures.1 in
    rw (p.1, p.2) (c.in_err-look_ahead.ensures.unread (arc_value c.args.design.now) c.args.k)

pub returns-clause-next : goal.returns-clause-next
returns-clause-next g c =
    next_one (g.F.Shelf.files c.args.shelf.now) c.deref.result.now (arc_value c.args.design.now) c.args.k (origin_of c.args.origin) (origins_of c.args.later) c.look_ahead.new.found.items c.pop_front.new.self.items c.in-Some.each c.deref.ensures c.in-Some.ensures.items c.in_ok-look_ahead.ensures.found
    (g.F.Shelf.faults c.args.shelf.now) (g.F.Shelf.faults c.look_ahead.new.shelf)
