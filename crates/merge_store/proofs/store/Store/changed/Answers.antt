use Rattle.std.proofs.Common.{sym, subst, ℕ}
use Rattle.cov_history.specs.History.{is_test_or_revise}
use Rattle.store_parts.specs.Keeps.{IsLast}
use Rattle.merge_store.specs.Stores.{entries_of}
use Rattle.store_parts.proofs.Latest.{last_of_both}
use Rattle.merge_store.proofs.store.Store.changed.Goals as goal

pub returns : goal.returns
returns c =
    let s = c.args.self.now in
    subst (λ (n : ℕ). IsLast is_test_or_revise (entries_of s) n) (sym c.later.ensures) (last_of_both (entries_of s) s.revised c.admitted.result s.keeps.revised_is c.admitted.ensures)
