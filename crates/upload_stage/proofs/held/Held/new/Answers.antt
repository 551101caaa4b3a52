use Rattle.std.proofs.Common.{ℕ, ◌+◌, ◌/◌, List, ap, ◌∙◌, arith}
use Rattle.std.specs.Prelude.{length}
use Rattle.std.proofs.lemmas.List.{length-replicate}
use Rattle.upload_stage.specs.Places.{mark_of, places_of}
use Rattle.upload_stage.proofs.Bits.{no_marks}
use Rattle.upload_stage.proofs.Places.{none_yet}
use Rattle.upload_stage.proofs.held.Held.new.Goals as goal

pub invariant_of-result : goal.invariant_of-result
invariant_of-result c =
    let marks = c.in_ok-marks.ensures.items_if_clones_equal (λ y e. e) in
    record {
      short = c.requires;
      wide = omega (arith, ap length marks, length-replicate {A = ℕ} ((c.args.len + 63) / 64) 0);
      long = omega (arith, ap length c.in_ok-bytes.ensures.items);
      room = omega (arith, c.in_ok-bytes.ensures.capacity);
      front = omega arith;
      passed = λ place lt. absurd (omega arith);
      there = λ place one. let nil = ap (λ (l : List ℕ). mark_of l place) marks ∙ no_marks ((c.args.len + 63) / 64) place in absurd (omega (arith, one, nil));
    }

pub returns : goal.returns
returns c =
    let marks = c.in_ok-marks.ensures.items_if_clones_equal (λ y e. e) in
    (λ i. places_of (marks i) (c.in_ok-bytes.ensures.items i) c.args.len) ∙ none_yet ((c.args.len + 63) / 64) c.args.len
