use Rattle.std.proofs.Common.{◌≡◌, ℕ, ◌+◌, List, Some, length, refl, subst}
use Rattle.std.specs.Prelude.{slice_get}
use Rattle.std.proofs.lemmas.Option.{slice_get_read}
use Rattle.covd_commands.specs.declared.finding.Source.{Source}
use Rattle.covd_filling.specs.Batches.{IsCountedIn}
use Rattle.covd_filling.proofs.batches.count_at.Goals as goal

one_read : (batch : List Source) (index : ℕ) (x y : Source) → slice_get batch index ≡ Some x → slice_get batch index ≡ Some y → x ≡ y
one_read batch index x y p q = cc (p, q)

pub returns : goal.returns
returns c read e =
    let batch = c.args.batch.now in
    let x = c.index-batch-index.result in
    let here = slice_get_read batch (length batch) c.args.index x refl c.requires.inside c.index-batch-index.is in
    subst (λ (y : Source). IsCountedIn c.args.design.now (c.args.k + c.args.index) y c.count_source.result) (one_read batch c.args.index x read here e) c.count_source.ensures
