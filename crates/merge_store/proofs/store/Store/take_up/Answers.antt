use Rattle.std.proofs.Common.{◌≡◌, ◌∙◌, ◌+◌, ◌++◌, ◌∷◌, [], ap, sym, subst, true, length, map, List, ℕ, Option, arith, length-append}
use Rattle.std.specs.Prelude.{option_map}
use Rattle.std.specs.Arc.{arc_value}
use Rattle.std.specs.declared.sync.Arc.{Arc}
use Rattle.std.specs.declared.vec.Vec.{Vec}
use Rattle.std.specs.declared.alloc.Global.{Global}
use Rattle.std.proofs.lemmas.List.{length-map}
use Rattle.std.proofs.lemmas.List.Sums.{length-filter, count_by-le-length}
use Rattle.design_data.specs.declared.design.Design.{Design}
use Rattle.ucis_model.specs.declared.node.Node.{Node}
use Rattle.ucis_model.specs.Nodes.{nodes_of}
use Rattle.ucis_model.specs.declared.answers.Which.TheVariants.{History}
use Rattle.cov_tree.specs.declared.name.Name.{Name}
use Rattle.tally.specs.declared.tally.Tally.{Tally}
use Rattle.cov_history.specs.History.{Test, tests_of, out_of, is_found}
use Rattle.cov_history.specs.declared.entry.Entry.{Entry}
use Rattle.cov_history.specs.declared.entry.Event.TheVariants.{Revise}
use Rattle.cov_history.specs.Answers.{by}
use Rattle.store_core.specs.Asks.{revision_of}
use Rattle.store_parts.specs.declared.held.Held.{Held}
use Rattle.store_parts.specs.declared.held.HeldEvent.TheVariants as HeldEvent
use Rattle.store_parts.specs.declared.held.Kept.{Kept}
use Rattle.store_parts.specs.Words.{entry_of, test_of}
use Rattle.merge_store.specs.Stores.{opening_of, entries_of}
use Rattle.store_sums.specs.Runs.{HasMarks}
use Rattle.store_parts.proofs.Excluding.{history_amount}
use Rattle.store_sums.proofs.Ranges.{map_more}
use Rattle.store_parts.proofs.Revising.{tally_count, revise_keeps}
use Rattle.merge_store.proofs.store.Store.take_up.Goals as goal

pub overflow_add-ready : goal.overflow_add-ready
overflow_add-ready c =
    let s = c.args.self.now in
    let h = entries_of s in
    let d = c.args.rebinned.design in
    let a = length-filter (is_found d) (out_of h) in
    let b = count_by-le-length (is_found d) (out_of h) in
    let most = s.keeps.within History in
    let all = history_amount (opening_of s) h s.keeps.going in
    omega (arith, a, b, most, all, c.requires.remade.count)

pub set_tallies-requires : goal.set_tallies-requires
set_tallies-requires c =
    let s = c.args.self.now in
    let r = c.args.rebinned in
    let h = entries_of s in
    let view : (Vec ℕ Global × Kept) → List ℕ × Test = λ e. (e.0.items, test_of e.1) in
    let tests : length s.tests.entries ≡ length (tests_of h) = sym (length-map s.tests.entries view) ∙ ap (λ (ts : List (List ℕ × Test)). length ts) s.keeps.tests_are ∙ length-map (tests_of h) (λ (t : Test). (t.content.id, t)) in
    let tallies : length c.into_parts-parts.result.tallies.items ≡ length (tests_of h) = sym (length-map c.into_parts-parts.result.tallies.items (λ (t : Arc Tally Global). arc_value t)) ∙ ap (λ (ts : List Tally). length ts) c.into_parts-parts.ensures.tallies ∙ tally_count (opening_of s) h r c.args.ready.after c.requires.readied c.requires.may in
    tests ∙ sym tallies

pub invariant_of-self-2-clause-keeps : goal.invariant_of-self-2-clause-keeps
invariant_of-self-2-clause-keeps c =
    let s = c.args.self.now in
    let r = c.args.rebinned in
    let h = entries_of s in
    let caller = c.args.caller in
    let m = c.args.ready.remade in
    let path : Option (Arc Name Global) → Option (List ℕ) = λ p. option_map (λ (a : Arc Name Global). arc_value a) p in
    let held : Held = record { caller = caller; event = HeldEvent.Revise c.into_parts-parts.result.text c.in-Ok.design } in
    let items : c.put.new.entries.items ≡ s.entries.items ++ held ∷ [] = c.put.ensures.items ∙ ap (λ (xs : List Held). xs ++ held ∷ []) c.reserve.ensures.items in
    let design : arc_value c.in-Ok.design ≡ r.design = c.in-Ok.ensures.cases ∙ c.design.ensures.design in
    let is : entry_of held ≡ by caller (Revise (revision_of r)) = λ i. by caller (Revise (record { text = c.into_parts-parts.ensures.text i; design = design i })) in
    let grown : map entry_of c.put.new.entries.items ≡ h ++ by caller (Revise (revision_of r)) ∷ [] = map_more entry_of s.entries.items c.put.new.entries.items held (by caller (Revise (revision_of r))) items is in
    let point : length c.as_slice.result.now ≡ length h + 1 = ap length c.as_slice.ensures.value ∙ sym (length-map c.put.new.entries.items entry_of) ∙ ap (λ (es : List Entry). length es) grown ∙ length-append h (by caller (Revise (revision_of r)) ∷ []) in
    let tallies = c.set_tallies.ensures.tallies ∙ c.into_parts-parts.ensures.tallies in
    let keeps = revise_keeps (opening_of s) h caller r s.keeps c.args.ready.after (map path m.out.items) m.outs c.requires.readied c.requires.may c.requires.remade in
    rw (grown, c.set_tallies.ensures.tests, tallies, c.of_parts.ensures.design ∙ c.into_parts-parts.ensures.design, ap (λ (v : Vec ℕ Global). v.items) c.of_parts.ensures.counts ∙ c.into_parts-parts.ensures.counts, c.of_parts.ensures.out, point) keeps

pub of_parts-requires-clause-nodes : goal.of_parts-requires-clause-nodes
of_parts-requires-clause-nodes c = c.into_parts-parts.ensures.branches ∙ ap (λ (d : Design). nodes_of d) (sym c.into_parts-parts.ensures.design)

pub of_parts-requires-clause-marked : goal.of_parts-requires-clause-marked
of_parts-requires-clause-marked c =
    let m = c.args.ready.remade in
    let path : Option (Arc Name Global) → Option (List ℕ) = λ p. option_map (λ (a : Arc Name Global). arc_value a) p in
    subst (λ (ns : List Node). HasMarks ns c.into_parts-parts.result.counts.items (map path m.out.items) (λ p. true) m.runs) (sym c.into_parts-parts.ensures.branches) (subst (λ (xs : List ℕ). HasMarks (nodes_of c.args.rebinned.design) xs (map path m.out.items) (λ p. true) m.runs) (sym c.into_parts-parts.ensures.counts) c.requires.marked)
