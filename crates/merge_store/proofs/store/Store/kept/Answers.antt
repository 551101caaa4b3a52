use Rattle.std.proofs.Common.{◌≡◌, ◌∙◌, ap, sym, Option, option_map}
use Rattle.std.specs.Arc.{arc_value}
use Rattle.cov_history.specs.History.{design_of, tests_of}
use Rattle.store_parts.specs.Keeps.{rows_of}
use Rattle.store_parts.specs.declared.held.Kept.{Kept}
use Rattle.store_parts.specs.Words.{test_of}
use Rattle.merge_store.specs.Stores.{opening_of, entries_of}
use Rattle.store_parts.proofs.ById.{borrowed, kept_is, by_id_tallied, lent}
use Rattle.merge_store.proofs.store.Store.kept.Goals as goal

pub returns-clause-test : goal.returns-clause-test
returns-clause-test c = let s = c.args.self.now in borrowed test_of c.get.result ∙ ap (λ (o : Option _). option_map test_of o) c.get.ensures.value ∙ kept_is s.tests.entries (entries_of s) c.args.id.now s.keeps.tests_are

pub returns-clause-tally : goal.returns-clause-tally
returns-clause-tally c =
    let s = c.args.self.now in
    let d = design_of (opening_of s) (entries_of s) in
    lent (λ (k : Kept). arc_value k.tally ≡ rows_of d (test_of k)) c.get.result (by_id_tallied d s.tests.entries (tests_of (entries_of s)) _ _ s.keeps.tests_are s.keeps.tallies_are (sym c.get.ensures.value))
