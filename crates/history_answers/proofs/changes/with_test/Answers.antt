use Rattle.std.proofs.Common.{◌∙◌, ap, arith}
use Rattle.std.specs.Prelude.{count_by, nat_lt}
use Rattle.ucis_model.specs.declared.answers.Which.TheVariants.{Tests, Bytes, Entries, History}
use Rattle.history_answers.proofs.Worked.{few_bins_hit}
use Rattle.history_answers.proofs.changes.with_test.Goals as goal

pub overflow_add-result : goal.overflow_add-result
overflow_add-result c = let most = c.requires Tests in omega (arith, most)

pub overflow_add-result-2 : goal.overflow_add-result-2
overflow_add-result-2 c =
    let most = c.requires Bytes in
    let len = c.len.ensures in
    let short = c.in_ok-bytes.ensures.short in
    omega (arith, most, len, short)

pub overflow_add-result-3 : goal.overflow_add-result-3
overflow_add-result-3 c =
    let most = c.requires Entries in
    let hit = c.hit.ensures.is ∙ ap (count_by (nat_lt 0)) (c.as_slice.ensures ∙ c.in_ok-counts.ensures) in
    let few = few_bins_hit c.args.design.now c.args.content.now in
    omega (arith, most, hit, few)

pub overflow_add-result-4 : goal.overflow_add-result-4
overflow_add-result-4 c = let most = c.requires History in omega (arith, most)
