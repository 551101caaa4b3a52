use Rattle.std.proofs.Common.{◌≡◌, ℕ, ◌-◌, ◌+◌, refl, subst, arith}
use Rattle.waivers.specs.Patterns.{is_any}
use Rattle.waivers.proofs.Filled.{IsRunFrom, run_begins, run_put, run_kept, run_whole}
use Rattle.waivers.proofs.rows.put_anything.Goals as goal

pub loop-i-init : goal.loop-i-init
loop-i-init c = run_begins is_any c.args.path.now c.args.row.now c.requires

pub loop-i-preserved-then-row-i : goal.loop-i-preserved-then-row-i
loop-i-preserved-then-row-i c =
    let at = c.loop-i.i - 1 in
    let e : c.loop-i.i ≡ at + 1 = omega (arith, c.loop-i-test.true) in
    let before = subst (λ (k : ℕ). IsRunFrom is_any c.args.path.now c.args.row.now c.loop-i.row k) e c.loop-i.invariant in
    run_put is_any c.args.path.now c.args.row.now c.loop-i.row at before refl c.if-row-i.true

pub loop-i-preserved : goal.loop-i-preserved
loop-i-preserved c =
    let at = c.loop-i.i - 1 in
    let e : c.loop-i.i ≡ at + 1 = omega (arith, c.loop-i-test.true) in
    let before = subst (λ (k : ℕ). IsRunFrom is_any c.args.path.now c.args.row.now c.loop-i.row k) e c.loop-i.invariant in
    run_kept is_any c.args.path.now c.args.row.now c.loop-i.row at before c.if-row-i.false

pub returns : goal.returns
returns c =
    let e : c.loop-i.i ≡ 0 = omega (arith, c.loop-i-test.false) in
    λ more. run_whole is_any c.args.path.now c.args.row.now c.loop-i.row (subst (λ (k : ℕ). IsRunFrom is_any c.args.path.now c.args.row.now c.loop-i.row k) e c.loop-i.invariant) _
