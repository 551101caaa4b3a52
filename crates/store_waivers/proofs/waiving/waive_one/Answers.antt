use Rattle.std.proofs.Common.{◌∙◌, ℕ, List, ap}
use Rattle.waivers.specs.Waived.{waived_among}
use Rattle.store_waivers.proofs.Among.{places_inside}
use Rattle.store_waivers.proofs.waiving.waive_one.Goals as goal

pub exclude_all-requires : goal.exclude_all-requires
exclude_all-requires c =
    let paths : List (List ℕ) = c.args.paths.now in
    record {
      inside = places_inside c.args.waiver.now.pattern paths c.as_slice-2.result.now
          (c.as_slice-2.ensures.value ∙ c.in_ok-places.ensures ∙ ap (λ (pattern : List ℕ). waived_among pattern paths) c.as_slice.ensures);
    }
