use Rattle.std.proofs.Common.{◌≡◌, ℕ, Bool, List, ◌∷◌, Result, Ok, Err, suc, ◌+◌, sym, subst, ◌∙◌, ap, length, arith}
use Rattle.std.proofs.lemmas.Result.{err_from_is_err_and}
use Rattle.std.specs.Arc.{arc_value}
use Rattle.merge_store.specs.Stores.{entries_of}
use Rattle.covd_commands.specs.declared.stop.Stop.{Stop}
use Rattle.covd_commands.specs.FromFiles.{Files}
use Rattle.covd_commands.specs.Finding.{Origin}
use Rattle.covd_commands.specs.Options.{options_in}
use Rattle.covd_commands.specs.Origins.{origin_of, origins_of}
use Rattle.covd_filling.specs.declared.admitting.Taking.{Taking}
use Rattle.covd_filling.specs.Batches.{AreFound}
use Rattle.covd_filling.specs.Steps.{Takes}
use Rattle.covd_filling.proofs.Fillings.{step, plain, ended, goes_on, stops, ends}
use Rattle.covd_filling.proofs.filling.fill.Goals as goal

pub take_next-taken-requires-clause-found : goal.take_next-taken-requires-clause-found
take_next-taken-requires-clause-found g c _ _ =
    let files : Files = g.F.Shelf.files c.args.shelf.now in
    let d = arc_value c.args.terms.design.now in
    let k = c.loop-origin.k + 1 in
    let found = c.loop-origin.found.items in
    let begun = subst (λ (xs : List Origin). AreFound files d k xs found) c.in-Some.ensures c.loop-origin.invariant.found in
    subst (λ (f : Files). AreFound f d k (origin_of c.in-Some.origin ∷ origins_of c.in-Some.later) found) (sym c.loop-origin.invariant.same) begun

pub loop-origin-preserved : goal.loop-origin-preserved
loop-origin-preserved g c =
    let options = options_in c.args.options in
    let files : Files = g.F.Shelf.files c.args.shelf.now in
    let before = g.F.Shelf.faults c.args.shelf.now in
    let middle = g.F.Shelf.faults c.loop-origin.shelf in
    let now = g.F.Shelf.faults c.take_next-taken.new.shelf in
    let d = arc_value c.args.terms.design.now in
    let k = c.loop-origin.k + 1 in
    let s = c.loop-origin.store in
    let t = c.take_next-taken.new.store in
    let l = c.loop-origin.left in
    let m = c.note.new.self in
    let origin = origin_of c.in-Some.origin in
    let later = origins_of c.in-Some.later in
    let inv = c.loop-origin.invariant in
    let is = c.in-Some.ensures in
    let given = c.take_next-taken.result in
    let counted : length (origins_of c.loop-origin.rest) ≡ suc (length later) = ap length is in
    let of_files : Takes c.args.terms.passed files middle now d k (entries_of s) origin (entries_of t) given =
    subst (λ (f : Files). Takes c.args.terms.passed f middle now d k (entries_of s) origin (entries_of t) given) inv.same c.take_next-taken.ensures.takes in
    let takes : Takes options.passed files middle now d k (entries_of s) origin (entries_of t) given =
    subst (λ (passed : Bool). Takes passed files middle now d k (entries_of s) origin (entries_of t) given) c.requires.passed of_files in
    record {
      plain = plain options files middle now d k s t origin l m inv.plain c.take_next-taken.ensures.opening given takes c.in_ok-note.ensures;
      same = c.take_next-taken.ensures.same ∙ inv.same;
      later = omega (arith, inv.later, c.take_next-taken.ensures.later);
      so_far = goes_on options files before middle d (origins_of c.args.origins) k (origins_of c.loop-origin.rest) s t l m inv.so_far middle now inv.later c.take_next-taken.ensures.later origin later is
          (step options files middle now d k s t origin l m given takes c.in_ok-note.ensures);
      found = subst (λ (f : Files). AreFound f d (k + 1) later c.take_next-taken.new.found.items) inv.same c.take_next-taken.ensures.found;
      count = omega (arith, inv.count, counted);
      counted = omega (arith, inv.counted, inv.count, counted);
    }

pub returns-in_err-note-clause-filled : goal.returns-in_err-note-clause-filled
returns-in_err-note-clause-filled g c =
    let options = options_in c.args.options in
    let files : Files = g.F.Shelf.files c.args.shelf.now in
    let before = g.F.Shelf.faults c.args.shelf.now in
    let middle = g.F.Shelf.faults c.loop-origin.shelf in
    let now = g.F.Shelf.faults c.take_next-taken.new.shelf in
    let d = arc_value c.args.terms.design.now in
    let k = c.loop-origin.k + 1 in
    let s = c.loop-origin.store in
    let t = c.take_next-taken.new.store in
    let l = c.loop-origin.left in
    let m = c.note.new.self in
    let origin = origin_of c.in-Some.origin in
    let later = origins_of c.in-Some.later in
    let inv = c.loop-origin.invariant in
    let given = c.take_next-taken.result in
    let stop = c.in_err-note.field-0.0 in
    let of_files : Takes c.args.terms.passed files middle now d k (entries_of s) origin (entries_of t) given =
    subst (λ (f : Files). Takes c.args.terms.passed f middle now d k (entries_of s) origin (entries_of t) given) inv.same c.take_next-taken.ensures.takes in
    let takes : Takes options.passed files middle now d k (entries_of s) origin (entries_of t) given =
    subst (λ (passed : Bool). Takes passed files middle now d k (entries_of s) origin (entries_of t) given) c.requires.passed of_files in
    let p = err_from_is_err_and c.from_residual.result c.from_residual.ensures.1 in
    rw (p.1, p.2)
    (stops options files before middle d (origins_of c.args.origins) k (origins_of c.loop-origin.rest) s t l m inv.so_far middle now inv.later c.take_next-taken.ensures.later origin later c.in-Some.ensures stop
    (ended options files middle now d k s t origin l m stop given takes c.in_err-note.ensures))
