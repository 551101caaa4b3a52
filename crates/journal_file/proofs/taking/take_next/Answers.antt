use Rattle.std.proofs.Common.{◌≡◌, ◌∷◌, ◌++◌, [], ℕ, List, sym, subst, ◌∙◌, arith}
use Rattle.std.proofs.lemmas.Result.{err_from_is_err_and}
use Rattle.journal_file.specs.Ending.{item_of}
use Rattle.journal_file.specs.Outcomes.{ReadTo, IsOpen, Refuses}
use Rattle.journal_file.proofs.Looked.{looks_twice}
use Rattle.journal_file.proofs.Taken.{machine_refuses, inside, gate_open, gate_shut}
use Rattle.journal_file.proofs.taking.take_next.Goals as goal

pub returns-in_err-gate-clause-takes : goal.returns-in_err-gate-clause-takes
returns-in_err-gate-clause-takes g c = λ digest items t r.
    let p = err_from_is_err_and c.from_residual.result c.from_residual.ensures.1 in
    rw (p.1, p.2) (machine_refuses digest c.args.sums.now (g.D.Disk.seen c.args.disk.now) c.in_err-gate.field-0.0 c.in_err-gate.ensures.machine)

pub returns-in_default-clause-takes : goal.returns-in_default-clause-takes
returns-in_default-clause-takes g c = λ digest items t r.
    let h = rw c.in_default.is at (c.in_ok-gate.ensures.byte t) in
    absurd (omega (arith, h, inside digest c.args.sums.now items c.args.end.now (g.D.Disk.seen c.args.disk.now) r))

pub returns-then-gate-ne-OPEN-clause-takes : goal.returns-then-gate-ne-OPEN-clause-takes
returns-then-gate-ne-OPEN-clause-takes g c = λ digest items t r.
    let h = rw c.in-Some.is at (c.in_ok-gate.ensures.byte t) in
    gate_shut digest c.args.sums.now items c.args.end.now (g.D.Disk.seen c.args.disk.now) r c.in-Some.gate h.0 (λ one. omega (arith, one, c.if-gate-ne-OPEN.true))

pub returns-in_err-entry-clause-takes : goal.returns-in_err-entry-clause-takes
returns-in_err-entry-clause-takes g c = λ digest items t r.
    let sums = c.args.sums.now in
    let end = c.args.end.now in
    let seen = g.D.Disk.seen c.args.disk.now in
    let h = rw c.in-Some.is at (c.in_ok-gate.ensures.byte t) in
    let same = c.byte_at.ensures.looks.seen_on in
    let one : c.in-Some.gate ≡ 1 = omega (arith, c.if-gate-ne-OPEN.false) in
    let there = subst (λ (f : List ℕ). ReadTo digest sums items end f) (sym same) r in
    let gate = subst (λ (f : List ℕ). IsOpen digest items f) (sym same) (gate_open digest sums items end seen r c.in-Some.gate h.0 one) in
    let p = err_from_is_err_and c.from_residual-in_err-entry.result c.from_residual-in_err-entry.ensures.1 in
    rw (p.1, p.2) (subst (λ (f : List ℕ). Refuses digest sums f c.in_err-entry.field-0.0) same (c.in_err-entry.ensures.taken digest items (c.byte_at.ensures.looks.told_on ∙ t) there gate))

pub returns-in_err-entry-clause-looks : goal.returns-in_err-entry-clause-looks
returns-in_err-entry-clause-looks g c = looks_twice g.D.Disk.told g.D.Disk.seen g.D.Disk.may_leave g.D.Disk.moment g.D.Disk.left_since c.args.disk.now c.byte_at.new.disk c.take_open.new.disk c.byte_at.ensures.looks c.take_open.ensures.looks

pub returns-clause-looks : goal.returns-clause-looks
returns-clause-looks g c = looks_twice g.D.Disk.told g.D.Disk.seen g.D.Disk.may_leave g.D.Disk.moment g.D.Disk.left_since c.args.disk.now c.byte_at.new.disk c.take_open.new.disk c.byte_at.ensures.looks c.take_open.ensures.looks

pub returns-clause-takes : goal.returns-clause-takes
returns-clause-takes g c = λ digest items t r.
    let sums = c.args.sums.now in
    let end = c.args.end.now in
    let seen = g.D.Disk.seen c.args.disk.now in
    let h = rw c.in-Some.is at (c.in_ok-gate.ensures.byte t) in
    let same = c.byte_at.ensures.looks.seen_on in
    let one : c.in-Some.gate ≡ 1 = omega (arith, c.if-gate-ne-OPEN.false) in
    let there = subst (λ (f : List ℕ). ReadTo digest sums items end f) (sym same) r in
    let gate = subst (λ (f : List ℕ). IsOpen digest items f) (sym same) (gate_open digest sums items end seen r c.in-Some.gate h.0 one) in
    subst (λ (f : List ℕ). ReadTo digest sums (items ++ item_of c.in_ok-entry.entry ∷ []) c.in_ok-entry.next f) same (c.in_ok-entry.ensures.taken digest items (c.byte_at.ensures.looks.told_on ∙ t) there gate)
