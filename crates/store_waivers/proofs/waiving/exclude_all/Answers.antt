use Rattle.std.proofs.Common.{◌≡◌, ◌∙◌, ◌<◌, ℕ, List, [], ◌∷◌, length, subst}
use Rattle.std.specs.Prelude.{All, slice_index_or}
use Rattle.std.proofs.lemmas.List.Elements.{All-head, All-tail}
use Rattle.std.proofs.lemmas.Result.{err_from_is_err_and}
use Rattle.merge_store.specs.Stores.{opening_of, entries_of}
use Rattle.store_waivers.specs.Waived.{excluding}
use Rattle.store_waivers.specs.Among.{paths_at}
use Rattle.store_waivers.proofs.Excluding.{place_next, place_stops, any_default}
use Rattle.store_waivers.proofs.waiving.exclude_all.Goals as goal

pub loop-place-preserved : goal.loop-place-preserved
loop-place-preserved c =
    let opening = opening_of c.args.store.now in
    let paths : List (List ℕ) = c.args.paths.now in
    let place : ℕ = c.in-Some.place.now in
    let later : List ℕ = c.in-Some.later.now in
    let inv = c.loop-place.invariant in
    let is : c.loop-place.rest.now ≡ place ∷ later = c.in-Some.ensures.cases.0 in
    let inside : All (λ (k : ℕ). k < length paths) (place ∷ later) = subst (λ (ns : List ℕ). All (λ (k : ℕ). k < length paths) ns) is inv.inside in
    let lt : place < length paths = All-head (λ (k : ℕ). k < length paths) place later inside in
    let at : c.as_slice.result.now ≡ slice_index_or paths place [] = c.as_slice.ensures ∙ any_default paths place c.index-paths-place.result [] lt c.index-paths-place.is in
    record {
      inside = All-tail (λ (k : ℕ). k < length paths) place later inside;
      opening = c.exclude.ensures.opening ∙ inv.opening;
      so_far = place_next opening (opening_of c.loop-place.store) (entries_of c.loop-place.store) (entries_of c.exclude.new.store) paths place c.loop-place.rest.now later c.as_slice.result.now
          (excluding opening (entries_of c.args.store.now) (paths_at paths c.args.places.now)) inv.opening is at inv.so_far c.in_ok-exclude.ensures.answer;
    }

pub returns-in_err-exclude-clause-answer : goal.returns-in_err-exclude-clause-answer
returns-in_err-exclude-clause-answer c =
    let opening = opening_of c.args.store.now in
    let paths : List (List ℕ) = c.args.paths.now in
    let place : ℕ = c.in-Some.place.now in
    let later : List ℕ = c.in-Some.later.now in
    let inv = c.loop-place.invariant in
    let is : c.loop-place.rest.now ≡ place ∷ later = c.in-Some.ensures.cases.0 in
    let inside : All (λ (k : ℕ). k < length paths) (place ∷ later) = subst (λ (ns : List ℕ). All (λ (k : ℕ). k < length paths) ns) is inv.inside in
    let lt : place < length paths = All-head (λ (k : ℕ). k < length paths) place later inside in
    let at : c.as_slice.result.now ≡ slice_index_or paths place [] = c.as_slice.ensures ∙ any_default paths place c.index-paths-place.result [] lt c.index-paths-place.is in
    let p = err_from_is_err_and c.from_residual.result c.from_residual.ensures.1 in
    rw (p.1, p.2)
    (place_stops opening (opening_of c.loop-place.store) (entries_of c.loop-place.store) paths place c.loop-place.rest.now later c.as_slice.result.now
    (excluding opening (entries_of c.args.store.now) (paths_at paths c.args.places.now)) inv.opening is at inv.so_far c.in_err-exclude.field-0.0 c.in_err-exclude.ensures.answer)
