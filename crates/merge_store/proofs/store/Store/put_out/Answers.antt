use Rattle.std.proofs.Common.{◌≡◌, ◌++◌, ◌∷◌, [], List, ℕ, map, Option, Some, ap, ◌∙◌}
use Rattle.std.specs.Prelude.{option_map, slice_set}
use Rattle.std.specs.Arc.{arc_value}
use Rattle.std.specs.declared.sync.Arc.{Arc}
use Rattle.std.specs.declared.alloc.Global.{Global}
use Rattle.cov_tree.specs.declared.name.Name.{Name}
use Rattle.cov_history.specs.declared.entry.Event.TheVariants.{Exclude}
use Rattle.cov_history.specs.Answers.{by}
use Rattle.store_parts.specs.Words.{entry_of}
use Rattle.store_parts.specs.declared.held.Held.{Held}
use Rattle.store_parts.specs.declared.held.HeldEvent.TheVariants as HeldEvent
use Rattle.merge_store.specs.Stores.{entries_of}
use Rattle.store_sums.proofs.Ranges.{map_more}
use Rattle.store_sums.proofs.Stored.{set_option}
use Rattle.store_parts.proofs.Excluding.{exclude_keeps}
use Rattle.merge_store.proofs.store.Store.put_out.Goals as goal

pub invariant_of-self-2-clause-keeps : goal.invariant_of-self-2-clause-keeps
invariant_of-self-2-clause-keeps c =
    let s = c.args.self.now in
    let path = c.args.path.now in
    let two = c.in_ok-name.ensures in
    let held : Held = record { caller = c.args.caller; event = HeldEvent.Exclude c.in_ok-name.name } in
    let items : c.put.new.entries.items ≡ s.entries.items ++ held ∷ [] = c.put.ensures.items ∙ ap (λ (xs : List Held). xs ++ held ∷ []) c.reserve.ensures.items in
    let now : map entry_of c.put.new.entries.items ≡ entries_of s ++ by c.args.caller (Exclude path) ∷ [] = map_more entry_of s.entries.items c.put.new.entries.items held (by c.args.caller (Exclude path)) items (ap (λ (p : Name). by c.args.caller (Exclude p)) two.0) in
    let out : map (λ (p : Option (Arc Name Global)). option_map arc_value p) c.put_out.new.self.out.items ≡ slice_set (map (λ (p : Option (Arc Name Global)). option_map arc_value p) s.sums.out.items) c.args.node (Some path) = set_option arc_value s.sums.out.items c.put_out.new.self.out.items c.args.node c.in_ok-name.spare path c.put_out.ensures.out two.1 in
    rw (now, out, c.put_out.ensures.design, c.put_out.ensures.counts) (exclude_keeps s.keeps c.args.caller path c.args.node c.requires)

pub returns-clause-done : goal.returns-clause-done
returns-clause-done c =
    let s = c.args.self.now in
    let path = c.args.path.now in
    let held : Held = record { caller = c.args.caller; event = HeldEvent.Exclude c.in_ok-name.name } in
    let items : c.put.new.entries.items ≡ s.entries.items ++ held ∷ [] = c.put.ensures.items ∙ ap (λ (xs : List Held). xs ++ held ∷ []) c.reserve.ensures.items in
    map_more entry_of s.entries.items c.put.new.entries.items held (by c.args.caller (Exclude path)) items (ap (λ (p : Name). by c.args.caller (Exclude p)) c.in_ok-name.ensures.0)
