use Rattle.std.proofs.Common.{◌≡◌, ◌∙◌, ◌<◌, ap, subst, length, map, List, ℕ, Option, None, arith, get_or, refl}
use Rattle.std.specs.Prelude.{option_map}
use Rattle.std.specs.Arc.{arc_value}
use Rattle.std.specs.declared.sync.Arc.{Arc}
use Rattle.std.specs.declared.alloc.Global.{Global}
use Rattle.std.proofs.lemmas.List.{length-map}
use Rattle.cov_tree.specs.declared.name.Name.{Name}
use Rattle.merge_store.specs.Stores.{opening_of, entries_of}
use Rattle.merge_store.specs.Now.{outs_now}
use Rattle.store_parts.proofs.Moving.{nothing_put, moved_on, moved_out, found_all}
use Rattle.merge_store.proofs.store.Store.out_in.Goals as goal

pub loop-path-init : goal.loop-path-init
loop-path-init c =
    let view : Option (Arc Name Global) → Option (List ℕ) = λ p. option_map (λ (a : Arc Name Global). arc_value a) p in
    (nothing_put c.args.branches.now view None c.in_ok-out.out.items c.len.result c.in_ok-out.ensures c.len.ensures refl, omega arith)

pub loop-path-preserved : goal.loop-path-preserved
loop-path-preserved c =
    let s = c.args.self.now in
    let k = s.keeps in
    let view : Option (Arc Name Global) → Option (List ℕ) = λ p. option_map (λ (a : Arc Name Global). arc_value a) p in
    let items : c.deref-path-items.result.now ≡ s.sums.out.items = c.deref-path-items.ensures.value in
    let below : c.loop-path.path-index < length s.sums.out.items = subst (λ (xs : List (Option (Arc Name Global))). c.loop-path.path-index < length xs) items c.loop-path-test.true in
    let is : c.path-item.result ≡ get_or s.sums.out.items c.loop-path.path-index c.path-item.result = c.path-item.is ∙ ap (λ (xs : List (Option (Arc Name Global))). get_or xs c.loop-path.path-index c.path-item.result) items in
    let more = moved_on _ c.args.branches.now (outs_now s) view s.sums.out.items s.outs c.loop-path.path-index c.path-item.result (map view c.loop-path.out.items) (map view c.put_found.new.out.items) c.loop-path.outs c.in_ok-outs.field-0 k.outs_are (found_all (opening_of s) (entries_of s) _ k.nodes_are k.legal) below is c.loop-path.invariant.0 c.in_ok-outs.ensures.out c.in_ok-outs.ensures.count in
    (more.0, omega (arith, more.1, c.loop-path.invariant.1))

pub returns : goal.returns
returns c =
    let s = c.args.self.now in
    let k = s.keeps in
    let view : Option (Arc Name Global) → Option (List ℕ) = λ p. option_map (λ (a : Arc Name Global). arc_value a) p in
    moved_out _ c.args.branches.now (outs_now s) (map view s.sums.out.items) s.outs c.loop-path.path-index (map view c.loop-path.out.items) c.loop-path.outs k.outs_are (found_all (opening_of s) (entries_of s) _ k.nodes_are k.legal) (omega (arith, c.loop-path-test.false, ap (λ (xs : List (Option (Arc Name Global))). length xs) c.deref-path-items.ensures.value, length-map s.sums.out.items view)) c.loop-path.invariant.0
