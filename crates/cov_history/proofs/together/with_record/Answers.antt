use Rattle.std.proofs.Common.{◌∙◌, ℕ, List, ap, arith}
use Rattle.std.specs.Prelude.{slice_index}
use Rattle.cov_history.proofs.Summing.{few_hits}
use Rattle.cov_history.proofs.together.with_record.Goals as goal

pub added-requires-clause-room : goal.added-requires-clause-room
added-requires-clause-room c = λ bin.
    let e = ap (λ (ns : List ℕ). slice_index ns bin) (c.as_slice.ensures ∙ c.in_ok-own.ensures) in
    let few = few_hits c.args.design.now c.args.content.now bin in
    let room = c.requires.room bin in
    omega (arith, e, few, room)
