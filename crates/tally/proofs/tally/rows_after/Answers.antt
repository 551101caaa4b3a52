use Rattle.std.proofs.Common.{rules, arith}
use Rattle.std.proofs.lemmas.List.Sorted.{answers_always}
use Rattle.tally.proofs.RowLemmas.{ascends_from_found, same_from_found, ascends_from_gap, same_from_gap}
use Rattle.tally.proofs.tally.rows_after.Goals as goal

pub returns-in-Ok : goal.returns-in-Ok
returns-in-Ok c =
    let lt = c.in-Ok.ensures.bound in
    let found = c.in-Ok.ensures.position (λ row. row.0) (answers_always _ _ _ (λ f a r g called. search rules)) in
    record {
      ascends = ascends_from_found c.args.rows.now c.requires c.args.bin c.in-Ok.at (omega (arith, lt)) lt found;
      same = same_from_found c.args.rows.now c.requires c.args.bin c.in-Ok.at (omega (arith, lt)) lt found;
    }

pub returns-in-Err : goal.returns-in-Err
returns-in-Err c =
    let le = c.in-Err.ensures.bound in
    let parted = c.in-Err.ensures.position (λ row. row.0) (answers_always _ _ _ (λ f a r g called. search rules)) in
    record {
      ascends = ascends_from_gap c.args.rows.now c.requires c.args.bin c.in-Err.at le parted;
      same = same_from_gap c.args.rows.now c.requires c.args.bin c.in-Err.at le parted;
    }
