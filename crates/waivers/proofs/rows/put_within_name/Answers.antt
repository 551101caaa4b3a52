use Rattle.std.proofs.Common.{◌≡◌, ℕ, ◌-◌, ◌+◌, refl, subst, arith}
use Rattle.waivers.specs.Patterns.{is_in_name}
use Rattle.waivers.proofs.Filled.{IsRunFrom, run_begins, run_put, run_kept, run_whole}
use Rattle.std.specs.Prelude.{slice_index, slice_index_or, false}
use Rattle.std.proofs.lemmas.Bool.{and_left, and_right}
use Rattle.waivers.proofs.Meaning.{name_in}
use Rattle.waivers.proofs.rows.put_within_name.Goals.{else-row-i-via-then-row-i+else-path-i-ne47, else-row-i-via-else-row-i}
use Rattle.waivers.proofs.rows.put_within_name.Goals as goal

pub loop-i-init : goal.loop-i-init
loop-i-init c = run_begins is_in_name c.args.path.now c.args.row.now c.requires

pub loop-i-preserved-then-path-i-ne47 : goal.loop-i-preserved-then-path-i-ne47
loop-i-preserved-then-path-i-ne47 c =
    let at = c.loop-i.i - 1 in
    let e : c.loop-i.i ≡ at + 1 = omega (arith, c.loop-i-test.true) in
    let before = subst (λ (k : ℕ). IsRunFrom is_in_name c.args.path.now c.args.row.now c.loop-i.row k) e c.loop-i.invariant in
    run_put is_in_name c.args.path.now c.args.row.now c.loop-i.row at before (name_in (slice_index c.args.path.now at) c.if-path-i-ne47.true) c.if-row-i.true

pub loop-i-preserved : goal.loop-i-preserved
loop-i-preserved c =
    let at = c.loop-i.i - 1 in
    let e : c.loop-i.i ≡ at + 1 = omega (arith, c.loop-i-test.true) in
    let before = subst (λ (k : ℕ). IsRunFrom is_in_name c.args.path.now c.args.row.now c.loop-i.row k) e c.loop-i.invariant in
    run_kept is_in_name c.args.path.now c.args.row.now c.loop-i.row at before (elim c.else-row-i.branch [
      | else-row-i-via-then-row-i+else-path-i-ne47 w ↦ and_left (is_in_name (slice_index c.args.path.now at)) (slice_index_or c.loop-i.row (at + 1) false) (rw w.if-path-i-ne47.false refl)
      | else-row-i-via-else-row-i w ↦ and_right (is_in_name (slice_index c.args.path.now at)) (slice_index_or c.loop-i.row (at + 1) false) w.if-row-i.false
    ])

pub returns : goal.returns
returns c =
    let e : c.loop-i.i ≡ 0 = omega (arith, c.loop-i-test.false) in
    λ more. run_whole is_in_name c.args.path.now c.args.row.now c.loop-i.row (subst (λ (k : ℕ). IsRunFrom is_in_name c.args.path.now c.args.row.now c.loop-i.row k) e c.loop-i.invariant) _
