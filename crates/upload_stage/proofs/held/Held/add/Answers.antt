use Rattle.std.proofs.Common.{ℕ, ◌+◌, ◌≤◌, List, Option, length, sym, ap, ◌∙◌, arith, inl, inr}
use Rattle.std.proofs.lemmas.Bool.{cases_lt}
use Rattle.upload_stage.specs.Places.{with_bytes}
use Rattle.upload_stage.proofs.Places.{put, length-places_of}
use Rattle.upload_stage.proofs.held.Held.add.Goals as goal

pub write-requires-clause-room : goal.write-requires-clause-room
write-requires-clause-room c = omega (arith, c.requires, length-places_of c.self.inside.marks.items c.self.inside.bytes.items c.self.inside.len, ap length c.self.view_is, c.self.invariant.room)

pub write-requires-clause-fits : goal.write-requires-clause-fits
write-requires-clause-fits c = omega (arith, c.requires, length-places_of c.self.inside.marks.items c.self.inside.bytes.items c.self.inside.len, ap length c.self.view_is, c.self.invariant.short)

pub mark-requires-clause-wide : goal.mark-requires-clause-wide
mark-requires-clause-wide c = omega (arith, c.requires, length-places_of c.self.inside.marks.items c.self.inside.bytes.items c.self.inside.len, ap length c.self.view_is, c.self.invariant.wide)

pub invariant_of-self : goal.invariant_of-self
invariant_of-self c =
    let kept = c.self.invariant in
    let end = c.args.offset + length c.args.bytes.now in
    let fit : end ≤ c.self.inside.len = omega (arith, c.requires, length-places_of c.self.inside.marks.items c.self.inside.bytes.items c.self.inside.len, ap length c.self.view_is) in
    record {
      short = kept.short;
      wide = omega (arith, kept.wide, c.mark.ensures.len);
      long = omega (arith, c.write.ensures.len, kept.long, fit);
      room = omega (arith, c.write.ensures.room, kept.room);
      front = kept.front;
      passed = λ place lt. elim (cases_lt place c.args.offset) [
        | inl below ↦ c.mark.ensures.below place below ∙ kept.passed place lt
        | inr from ↦ elim (cases_lt place end) [
          | inl inside ↦ c.mark.ensures.inside place from inside
          | inr above ↦ c.mark.ensures.above place above ∙ kept.passed place lt
        ]
      ];
      there = λ place one. elim (cases_lt place c.args.offset) [
        | inl below ↦ let was = kept.there place (sym (c.mark.ensures.below place below) ∙ one) in omega (arith, was, c.write.ensures.len)
        | inr from ↦ elim (cases_lt place end) [
          | inl inside ↦ omega (arith, c.write.ensures.len)
          | inr above ↦ let was = kept.there place (sym (c.mark.ensures.above place above) ∙ one) in omega (arith, was, c.write.ensures.len)
        ]
      ];
    }

pub returns : goal.returns
returns c =
    let kept = c.self.invariant in
    let fit : c.args.offset + length c.args.bytes.now ≤ c.self.inside.len = omega (arith, c.requires, length-places_of c.self.inside.marks.items c.self.inside.bytes.items c.self.inside.len, ap length c.self.view_is) in
    put c.self.inside.marks.items c.mark.new.marks.items c.self.inside.bytes.items c.write.new.held.items c.self.inside.len c.args.offset c.args.bytes.now fit
    c.mark.ensures.below c.mark.ensures.inside c.mark.ensures.above
    (λ k lt one. c.write.ensures.before k lt (kept.there k one)) c.write.ensures.inside (λ k le one. c.write.ensures.after k le (kept.there k one))
    ∙ ap (λ (l : List (Option ℕ)). with_bytes l c.args.offset c.args.bytes.now) c.self.view_is
