use Rattle.std.proofs.Common.{rules}
use Rattle.std.proofs.lemmas.List.Sorted.{answers_always}
use Rattle.tally.proofs.RowLemmas.{found_row, no_row}
use Rattle.tally.proofs.tally.count_of.Goals as goal

pub returns-in-Ok : goal.returns-in-Ok
returns-in-Ok c = found_row c.args.rows.now c.requires c.args.bin c.in-Ok.at c.in-Ok.ensures.bound (c.in-Ok.ensures.position (λ row. row.0) (answers_always _ _ _ (λ f a r g called. search rules)))

pub returns-in-Err : goal.returns-in-Err
returns-in-Err c = no_row c.args.rows.now c.requires c.args.bin c.in-Err.field-0 (c.in-Err.ensures.position (λ row. row.0) (answers_always _ _ _ (λ f a r g called. search rules)))
