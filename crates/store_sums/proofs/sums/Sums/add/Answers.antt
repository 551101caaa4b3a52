use Rattle.std.proofs.Common.{Option, true, ◌≡◌, sym, subst, map, List, ℕ}
use Rattle.std.specs.Prelude.{option_map}
use Rattle.std.specs.Arc.{arc_value}
use Rattle.std.specs.declared.sync.Arc.{Arc}
use Rattle.std.specs.declared.alloc.Global.{Global}
use Rattle.cov_tree.specs.declared.name.Name.{Name}
use Rattle.tally.specs.Rows.{count_in, Adds}
use Rattle.store_sums.specs.Runs.{HasMarks}
use Rattle.store_sums.specs.Now.{outs_now}
use Rattle.store_sums.proofs.Marking.{admitted_marks, parents_len}
use Rattle.store_sums.proofs.sums.Sums.add.Goals as goal

pub mark_rows-requires : goal.mark_rows-requires
mark_rows-requires c =
    let s = c.args.self.now in
    parents_len s.branches s.counts.items (outs_now s) (λ p. true) s.runs s.marked

pub invariant_of-self-clause-marked : goal.invariant_of-self-clause-marked
invariant_of-self-clause-marked c =
    let s = c.args.self.now in
    let seen : List (Option (Arc Name Global)) → List (Option (List ℕ)) = λ xs. map (λ (p : Option (Arc Name Global)). option_map arc_value p) xs in
    let rows = c.rows.result.now in
    let same : c.args.tally.now ≡ rows = sym c.rows.ensures.rows in
    let more = c.as_slice.result.now in
    let out = c.as_slice-2.result.now in
    let counts_are : more ≡ c.add_counts.new.counts.items = c.as_slice.ensures.value in
    let outs_are : out ≡ s.out.items = c.as_slice-2.ensures.value in
    let adds : Adds (count_in rows) s.counts.items more = subst (λ (xs : List ℕ). Adds (count_in rows) s.counts.items xs) (sym counts_are) (subst (λ (xs : List (ℕ × ℕ)). Adds (count_in xs) s.counts.items c.add_counts.new.counts.items) same c.add_counts.ensures) in
    let old : HasMarks s.branches s.counts.items (seen out) (λ p. true) s.runs = subst (λ (xs : List (Option (Arc Name Global))). HasMarks s.branches s.counts.items (seen xs) (λ p. true) s.runs) (sym outs_are) s.marked in
    let new : HasMarks s.branches more (seen out) (λ p. true) c.mark_rows.new.runs = admitted_marks s.design s.branches s.counts.items more (seen out) rows s.runs c.mark_rows.new.runs s.nodes_are old adds c.mark_rows.ensures in
    subst (λ (xs : List (Option (Arc Name Global))). HasMarks s.branches c.add_counts.new.counts.items (seen xs) (λ p. true) c.mark_rows.new.runs) outs_are (subst (λ (xs : List ℕ). HasMarks s.branches xs (seen out) (λ p. true) c.mark_rows.new.runs) counts_are new)
