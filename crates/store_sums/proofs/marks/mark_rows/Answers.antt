use Rattle.std.proofs.Common.{◌∙◌, ◌||◌, ap, subst, length, map, List, ℕ, Option}
use Rattle.std.specs.Prelude.{option_map}
use Rattle.std.specs.Arc.{arc_value}
use Rattle.std.specs.declared.sync.Arc.{Arc}
use Rattle.std.specs.declared.alloc.Global.{Global}
use Rattle.cov_tree.specs.declared.name.Name.{Name}
use Rattle.store_sums.specs.Runs.{Marks, HasMarks, has_row}
use Rattle.store_sums.proofs.Walks.{take_all}
use Rattle.store_sums.proofs.Marking.{row_done, same_parents}
use Rattle.store_sums.proofs.marks.mark_rows.Goals as goal

pub loop-bin-preserved : goal.loop-bin-preserved
loop-bin-preserved c =
    let nodes = c.args.branches.now in
    let counts = c.args.counts.now in
    let out : List (Option (List ℕ)) = map (λ (p : Option (Arc Name Global)). option_map arc_value p) c.args.out.now in
    record {
      same = ap (λ (m : Marks). length m.parents) c.mark_bin.ensures ∙ ap (λ (ps : List ℕ). length ps) (same_parents nodes counts out _ c.loop-bin.runs) ∙ c.loop-bin.invariant.same;
      marks = λ done h. row_done nodes counts out c.args.rows.now c.loop-bin.bin-index _ done c.loop-bin.runs c.mark_bin.new.runs c.loop-bin-test.true c.mark_bin.ensures (c.loop-bin.invariant.marks done h);
    }

pub returns : goal.returns
returns c done h =
    let nodes = c.args.branches.now in
    let counts = c.args.counts.now in
    let out : List (Option (List ℕ)) = map (λ (p : Option (Arc Name Global)). option_map arc_value p) c.args.out.now in
    subst (λ (rows : List (ℕ × ℕ)). HasMarks nodes counts out (λ p. done p || has_row rows p) c.loop-bin.runs) (take_all c.args.rows.now c.loop-bin.bin-index c.loop-bin-test.false) (c.loop-bin.invariant.marks done h)
