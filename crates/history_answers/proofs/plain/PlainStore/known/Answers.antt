use Rattle.std.proofs.Common.{List, length, ◌<◌, ◌≤◌, sym, subst}
use Rattle.std.specs.Prelude.{◌^◌}
use Rattle.cov_history.specs.declared.entry.Entry.{Entry}
use Rattle.cov_history.specs.History.{amount, most}
use Rattle.history_answers.proofs.Amounting.{legal_short, legal_amounts}
use Rattle.history_answers.proofs.plain.PlainStore.known.Goals as goal

pub amounts_of-requires-clause-few : goal.amounts_of-requires-clause-few
amounts_of-requires-clause-few c =
    let s = c.args.self.now in
    subst (λ (es : List Entry). length es < 2 ^ 32) (sym c.as_slice.ensures.value) (legal_short s.opening s.entries.items s.legal)

pub amounts_of-requires-clause-within : goal.amounts_of-requires-clause-within
amounts_of-requires-clause-within c which =
    let s = c.args.self.now in
    subst (λ (es : List Entry). amount s.opening es which ≤ most which) (sym c.as_slice.ensures.value) (legal_amounts s.opening s.entries.items s.legal which)
