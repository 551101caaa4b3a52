use Rattle.std.proofs.Common.{◌∙◌, ap, sym, option_map, ℕ}
use Rattle.std.specs.declared.vec.Vec.{Vec}
use Rattle.std.specs.declared.alloc.Global.{Global}
use Rattle.cov_history.specs.History.{design_of, tests_of}
use Rattle.store_parts.specs.declared.held.Kept.{Kept}
use Rattle.store_parts.specs.Words.{test_of}
use Rattle.merge_store.specs.Stores.{opening_of, entries_of}
use Rattle.store_parts.proofs.ById.{test_there, at_place_tallied}
use Rattle.merge_store.proofs.store.Store.test.Goals as goal

pub returns-in-Some-clause-test : goal.returns-in-Some-clause-test
returns-in-Some-clause-test c =
    let s = c.args.self.now in
    ap (option_map (λ (e : Vec ℕ Global × Kept). test_of e.1)) c.in-Some.ensures.entry ∙ test_there s.tests.entries (entries_of s) c.args.place s.keeps.tests_are

pub returns-in-Some-clause-tally : goal.returns-in-Some-clause-tally
returns-in-Some-clause-tally c =
    let s = c.args.self.now in
    at_place_tallied (design_of (opening_of s) (entries_of s)) s.tests.entries (tests_of (entries_of s)) c.args.place c.in-Some.field-0-0.now c.in-Some.test.now s.keeps.tests_are s.keeps.tallies_are (sym c.in-Some.ensures.entry)

pub returns-in-None-clause-test : goal.returns-in-None-clause-test
returns-in-None-clause-test c =
    let s = c.args.self.now in
    ap (option_map (λ (e : Vec ℕ Global × Kept). test_of e.1)) c.in-None.ensures.entry ∙ test_there s.tests.entries (entries_of s) c.args.place s.keeps.tests_are
