use Rattle.std.proofs.Common.{◌≡◌, ◌∙◌, ◌++◌, ◌∷◌, [], List, ℕ, refl}
use Rattle.std.specs.Arc.{arc_value}
use Rattle.std.specs.declared.vec.Vec.{Vec}
use Rattle.std.specs.declared.alloc.Global.{Global}
use Rattle.indexmap.proofs.CallerLemmas.{insert_entry-new}
use Rattle.tally.specs.declared.tally.Tally.{Tally}
use Rattle.cov_history.specs.History.{Test}
use Rattle.store_parts.specs.declared.held.Kept.{Kept}
use Rattle.store_parts.specs.Words.{test_of}
use Rattle.store_parts.proofs.ById.{on_ok}
use Rattle.store_sums.proofs.Ranges.{map_more}
use Rattle.store_parts.proofs.kept.add_test.Goals as goal

pub returns-clause-tests : goal.returns-clause-tests
returns-clause-tests c =
    let t = c.args.tests.now in
    let view : (Vec ℕ Global × Kept) → List ℕ × Test = λ e. (e.0.items, test_of e.1) in
    let added : c.insert.new.self.entries ≡ t.entries ++ (c.args.id, c.args.test) ∷ [] = on_ok c.insert.result (c.insert.ensures.succeeds c.requires.room) c.insert.ensures.entries ∙ insert_entry-new _ t c.args.id c.args.test c.requires.new in
    map_more view t.entries c.insert.new.self.entries (c.args.id, c.args.test) (c.args.id.items, test_of c.args.test) added refl

pub returns-clause-tallies : goal.returns-clause-tallies
returns-clause-tallies c =
    let t = c.args.tests.now in
    let view : (Vec ℕ Global × Kept) → Tally = λ e. arc_value e.1.tally in
    let added : c.insert.new.self.entries ≡ t.entries ++ (c.args.id, c.args.test) ∷ [] = on_ok c.insert.result (c.insert.ensures.succeeds c.requires.room) c.insert.ensures.entries ∙ insert_entry-new _ t c.args.id c.args.test c.requires.new in
    map_more view t.entries c.insert.new.self.entries (c.args.id, c.args.test) (arc_value c.args.test.tally) added refl
