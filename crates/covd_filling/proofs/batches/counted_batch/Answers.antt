use Rattle.std.proofs.Common.{List, ◌∷◌, Result, sym, subst, arith}
use Rattle.covd_filling.specs.declared.batches.Counted.{Counted}
use Rattle.covd_commands.specs.declared.finding.Source.{Source}
use Rattle.covd_commands.specs.declared.stop.Stop.{Stop}
use Rattle.covd_commands.specs.FromFiles.{Files}
use Rattle.covd_commands.specs.Finding.{Origin}
use Rattle.covd_commands.specs.Origins.{origin_of, origins_of}
use Rattle.covd_filling.specs.Batches.{AreReady, AreFound}
use Rattle.covd_commands.specs.Ahead.{AreRead}
use Rattle.covd_commands.proofs.ReadOn.{read_few, read_short}
use Rattle.covd_filling.proofs.Ahead.{found_all}
use Rattle.covd_filling.proofs.batches.counted_batch.Goals as goal

pub all_counted-requires-clause-ready : goal.all_counted-requires-clause-ready
all_counted-requires-clause-ready g c κs within =
    let files : Files = g.F.Shelf.files c.args.shelf.now in
    let all : List Origin = origin_of c.args.origin ∷ origins_of c.args.later in
    let batch = c.in_ok-batch.batch.items in
    let r = c.in_ok-batch.ensures.read in
    let few = read_few files all batch r.0 r.1 in
    subst (AreReady c.args.k) (sym c.as_slice.ensures.value) (omega (arith, few, c.requires.room), read_short files all batch r.0 r.1)

pub returns-clause-found : goal.returns-clause-found
returns-clause-found g c =
    let files : Files = g.F.Shelf.files c.args.shelf.now in
    let all : List Origin = origin_of c.args.origin ∷ origins_of c.args.later in
    let d = c.args.design.now in
    let r = c.in_ok-batch.ensures.read in
    let read = subst (λ (xs : List Source). AreRead files all xs r.0) (sym c.as_slice.ensures.value) r.1 in
    subst (λ (xs : List (Result Counted Stop)). AreFound files d c.args.k all xs) (sym c.from_vec.ensures.items)
    (found_all files d c.args.k all c.as_slice.result.now r.0 c.in_ok-found.found.items read c.in_ok-found.ensures.len c.in_ok-found.ensures.each)
