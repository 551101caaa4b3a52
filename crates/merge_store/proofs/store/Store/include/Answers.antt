use Rattle.std.proofs.Common.{◌≡◌, ◌+◌, ◌-◌, ◌++◌, ◌∷◌, [], map, List, ℕ, Option, Some, None, ap, sym, ◌∙◌, arith}
use Rattle.std.specs.Prelude.{option_map, slice_index_or}
use Rattle.std.proofs.lemmas.List.{append-nil}
use Rattle.std.specs.Arc.{arc_value}
use Rattle.std.specs.declared.sync.Arc.{Arc}
use Rattle.std.specs.declared.alloc.Global.{Global}
use Rattle.cov_tree.specs.declared.name.Name.{Name}
use Rattle.cov_history.specs.declared.entry.Event.TheVariants.{Include}
use Rattle.cov_history.specs.Answers.{by}
use Rattle.store_parts.specs.Words.{entry_of}
use Rattle.store_parts.specs.declared.held.HeldEvent.TheVariants as HeldEvent
use Rattle.merge_store.specs.Stores.{entries_of}
use Rattle.store_sums.proofs.Ranges.{map_more}
use Rattle.store_sums.proofs.Stored.{option_at, unset_option}
use Rattle.store_parts.proofs.Excluding.{include_none, include_made, include_keeps, path_is, outs_one}
use Rattle.merge_store.proofs.store.Store.include.Goals as goal

pub returns-in_default-put_back-clause-answer : goal.returns-in_default-put_back-clause-answer
returns-in_default-put_back-clause-answer c =
    let s = c.args.self.now in
    let n = c.in-Some.node in
    let at : slice_index_or (map (λ (p : Option (Arc Name Global)). option_map arc_value p) s.sums.out.items) n None ≡ None = option_at arc_value s.sums.out.items n ∙ ap (λ (o : Option (Arc Name Global)). option_map arc_value o) (sym (sym c.in_default-put_back.is ∙ c.put_back.ensures.path)) in
    record { answer = sym (include_none s.keeps c.args.caller c.args.path.now n (sym c.in-Some.ensures) at); entries = sym (append-nil (entries_of s)) }

pub put-requires : goal.put-requires
put-requires c =
    let s = c.args.self.now in
    let n = c.in-Some.node in
    let name = c.in-Some-put_back.name in
    let at : slice_index_or (map (λ (p : Option (Arc Name Global)). option_map arc_value p) s.sums.out.items) n None ≡ Some (arc_value name) = option_at arc_value s.sums.out.items n ∙ ap (λ (o : Option (Arc Name Global)). option_map arc_value o) (sym (sym c.in-Some-put_back.is ∙ c.put_back.ensures.path)) in
    let one = outs_one s.keeps c.args.caller c.args.path.now n (sym c.in-Some.ensures) (arc_value name) at in
    omega (arith, one, s.room)

pub overflow_sub-self : goal.overflow_sub-self
overflow_sub-self c =
    let s = c.args.self.now in
    let n = c.in-Some.node in
    let name = c.in-Some-put_back.name in
    let at : slice_index_or (map (λ (p : Option (Arc Name Global)). option_map arc_value p) s.sums.out.items) n None ≡ Some (arc_value name) = option_at arc_value s.sums.out.items n ∙ ap (λ (o : Option (Arc Name Global)). option_map arc_value o) (sym (sym c.in-Some-put_back.is ∙ c.put_back.ensures.path)) in
    outs_one s.keeps c.args.caller c.args.path.now n (sym c.in-Some.ensures) (arc_value name) at

pub invariant_of-self-2-clause-keeps : goal.invariant_of-self-2-clause-keeps
invariant_of-self-2-clause-keeps c =
    let s = c.args.self.now in
    let n = c.in-Some.node in
    let path = c.args.path.now in
    let name = c.in-Some-put_back.name in
    let at : slice_index_or (map (λ (p : Option (Arc Name Global)). option_map arc_value p) s.sums.out.items) n None ≡ Some (arc_value name) = option_at arc_value s.sums.out.items n ∙ ap (λ (o : Option (Arc Name Global)). option_map arc_value o) (sym (sym c.in-Some-put_back.is ∙ c.put_back.ensures.path)) in
    let found = sym c.in-Some.ensures in
    let one = outs_one s.keeps c.args.caller path n found (arc_value name) at in
    let same : arc_value name ≡ path = path_is s.keeps c.args.caller path n found (arc_value name) at in
    let now : map entry_of c.put.new.entries.items ≡ entries_of s ++ by c.args.caller (Include path) ∷ [] = map_more entry_of s.entries.items c.put.new.entries.items (record { caller = c.args.caller; event = HeldEvent.Include name }) (by c.args.caller (Include path)) c.put.ensures.items (ap (λ (p : Name). by c.args.caller (Include p)) same) in
    let fewer : (s.outs - 1) + 1 ≡ s.outs = omega (arith, one) in
    rw (now, unset_option arc_value s.sums.out.items c.put_back.new.self.out.items n c.put_back.ensures.out, c.put_back.ensures.design, c.put_back.ensures.counts) (include_keeps s.keeps c.args.caller path n found (arc_value name) at (s.outs - 1) fewer)

pub returns-clause-answer : goal.returns-clause-answer
returns-clause-answer c =
    let s = c.args.self.now in
    let n = c.in-Some.node in
    let path = c.args.path.now in
    let name = c.in-Some-put_back.name in
    let at : slice_index_or (map (λ (p : Option (Arc Name Global)). option_map arc_value p) s.sums.out.items) n None ≡ Some (arc_value name) = option_at arc_value s.sums.out.items n ∙ ap (λ (o : Option (Arc Name Global)). option_map arc_value o) (sym (sym c.in-Some-put_back.is ∙ c.put_back.ensures.path)) in
    let found = sym c.in-Some.ensures in
    let same : arc_value name ≡ path = path_is s.keeps c.args.caller path n found (arc_value name) at in
    let now : map entry_of c.put.new.entries.items ≡ entries_of s ++ by c.args.caller (Include path) ∷ [] = map_more entry_of s.entries.items c.put.new.entries.items (record { caller = c.args.caller; event = HeldEvent.Include name }) (by c.args.caller (Include path)) c.put.ensures.items (ap (λ (p : Name). by c.args.caller (Include p)) same) in
    record { answer = sym (include_made s.keeps c.args.caller path n found (arc_value name) at); entries = now }
