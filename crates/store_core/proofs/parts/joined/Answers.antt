use Rattle.std.proofs.Common.{◌≡◌, ◌∙◌, ◌*◌, ◌++◌, ℕ, List, map, take, drop, length, ap, refl, arith}
use Rattle.std.specs.Arc.{arc_value}
use Rattle.std.specs.declared.sync.Arc.{Arc}
use Rattle.std.specs.declared.alloc.Global.{Global}
use Rattle.std.proofs.lemmas.List.{map-append}
use Rattle.tally.specs.Rows.{rows_from}
use Rattle.design_data.specs.declared.design.Design.{Design}
use Rattle.record_codec.specs.declared.record.Record.{Record}
use Rattle.cov_history.specs.Tallies.{tally}
use Rattle.store_core.specs.Rebins.{tallies_of}
use Rattle.store_core.proofs.Chunks.{part_more, all_parts}
use Rattle.store_core.proofs.parts.joined.Goals as goal

abbrev counted : Design → List (Arc Record Global) → List (List (ℕ × ℕ))
counted d rs = tallies_of d (map (λ (x : Arc Record Global). arc_value x) rs)

adds : (d : Design) (ys zs : List (Arc Record Global)) → counted d (ys ++ zs) ≡ counted d ys ++ counted d zs
adds d ys zs =
    ap (tallies_of d) (map-append (λ (x : Arc Record Global). arc_value x) ys zs)
    ∙ map-append (λ (r : Record). rows_from 0 (tally d r)) (map (λ (x : Arc Record Global). arc_value x) ys) (map (λ (x : Arc Record Global). arc_value x) zs)

pub loop-n-preserved : goal.loop-n-preserved
loop-n-preserved c =
    let d = c.args.design.now in
    let xs = c.args.records.now in
    let n = c.loop-n.n in
    let w = c.args.size in
    let own = counted d (take w (drop (n * w) xs)) in
    part_more (counted d) (adds d) xs n w (map arc_value c.loop-n.all.items) own (map arc_value c.add_part.new.all.items) c.loop-n.invariant refl
    (c.in_ok-add_part.ensures own (rw c.index-parts-n.is (c.requires.each n c.index-parts-n.result (omega (arith, c.loop-n-test.true)))))

pub returns : goal.returns
returns c =
    all_parts (counted c.args.design.now) c.args.records.now c.args.size (length c.args.parts.now) c.loop-n.n (map arc_value c.loop-n.all.items) c.requires.size c.requires.len (omega arith) c.loop-n.invariant
