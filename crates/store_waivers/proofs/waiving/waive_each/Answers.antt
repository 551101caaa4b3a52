use Rattle.std.proofs.Common.{◌∙◌, ◌++◌, ℕ, List}
use Rattle.std.specs.List.{flat_map}
use Rattle.std.proofs.lemmas.Result.{err_from_is_err_and}
use Rattle.merge_store.specs.Stores.{opening_of, entries_of}
use Rattle.store_waivers.specs.Waived.{excluding}
use Rattle.store_waivers.specs.Among.{paths_among, line_among}
use Rattle.store_waivers.proofs.Excluding.{waiver_next, waiver_stops, line_next}
use Rattle.store_waivers.proofs.waiving.waive_each.Goals as goal

pub returns-in_err-waive_one-clause-answer : goal.returns-in_err-waive_one-clause-answer
returns-in_err-waive_one-clause-answer c =
    let opening = opening_of c.args.store.now in
    let paths : List (List ℕ) = c.args.paths.now in
    let inv = c.loop-waiver.invariant in
    let p = err_from_is_err_and c.from_residual.result c.from_residual.ensures.1 in
    rw (p.1, p.2)
    (waiver_stops opening (opening_of c.loop-waiver.store) (entries_of c.loop-waiver.store) paths c.in-Some.waiver.now c.loop-waiver.rest.now c.in-Some.later.now
    (excluding opening (entries_of c.args.store.now) (flat_map (paths_among paths) c.args.waivers.now)) inv.opening c.in-Some.ensures.cases.0 inv.so_far
    c.in_err-waive_one.field-0.0 c.in_err-waive_one.ensures.answer)

pub loop-waiver-preserved : goal.loop-waiver-preserved
loop-waiver-preserved c =
    let opening = opening_of c.args.store.now in
    let paths : List (List ℕ) = c.args.paths.now in
    let inv = c.loop-waiver.invariant in
    let is = c.in-Some.ensures.cases.0 in
    record {
      opening = c.waive_one.ensures.opening ∙ inv.opening;
      so_far = waiver_next opening (opening_of c.loop-waiver.store) (entries_of c.loop-waiver.store) paths c.in-Some.waiver.now c.loop-waiver.rest.now c.in-Some.later.now
          (excluding opening (entries_of c.args.store.now) (flat_map (paths_among paths) c.args.waivers.now)) inv.opening is inv.so_far
          (entries_of c.waive_one.new.store) c.in_ok-waive_one.ensures.answer;
      told = line_next paths c.in-Some.waiver.now c.loop-waiver.rest.now c.in-Some.later.now c.loop-waiver.text.items c.waive_one.new.text.items
          (c.args.text.now.items ++ flat_map (line_among paths) c.args.waivers.now) is inv.told c.in_ok-waive_one.ensures.told;
    }
