use Rattle.std.proofs.Common.{◌<◌, List, length, sym, subst}
use Rattle.std.specs.Prelude.{All}
use Rattle.tally.specs.declared.ranked.Ranked.{Ranked}
use Rattle.cov_history.specs.History.{tests_of}
use Rattle.merge_store.specs.Stores.{opening_of, entries_of}
use Rattle.store_views.proofs.Rankings.{ranked_is, ranked_inside}
use Rattle.store_views.proofs.ranking.ranked.Goals as goal

pub returns-clause-ranked : goal.returns-clause-ranked
returns-clause-ranked g c = ranked_is (opening_of c.args.store.now) (entries_of c.args.store.now) c.in_ok-rows.rows c.in_ok-rows.ensures

pub returns-clause-inside : goal.returns-clause-inside
returns-clause-inside g c =
    subst (λ (rows : List Ranked). All (λ row. row.test < length (tests_of (entries_of c.args.store.now))) rows) (sym (ranked_is (opening_of c.args.store.now) (entries_of c.args.store.now) c.in_ok-rows.rows c.in_ok-rows.ensures)) (ranked_inside (opening_of c.args.store.now) (entries_of c.args.store.now))
