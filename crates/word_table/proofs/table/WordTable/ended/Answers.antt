use Rattle.std.proofs.Common.{sym, subst, ℤ, ◌<◌, ◌≤◌, List, Option, [], length, get_or}
use Rattle.word_table.specs.Recent.{longest, AreLast}
use Rattle.word_table.proofs.Keeping.{ends_last}
use Rattle.word_table.proofs.table.WordTable.ended.Goals as goal

pub returns-clause-ended : goal.returns-clause-ended
returns-clause-ended c = λ w h place.
    let words = c.args.self.now in
    let kept = c.as_slice.result.now in
    let last : AreLast kept w = subst (λ (k : List (Option ℤ)). AreLast k w) (sym c.as_slice.ensures) h in
    let short : place < length words → length (get_or words place []) ≤ longest = λ lt. c.ended.ensures.words.short place [] lt in
    let says = c.in_ok-ended.ensures.hits place in (
      (λ hit. let one = says.0 hit in (one.0, (ends_last kept w last (get_or words place []) (short one.0)).0 one.1)),
      (λ ends. says.1 (ends.0, (ends_last kept w last (get_or words place []) (short ends.0)).1 ends.1)),
    )
