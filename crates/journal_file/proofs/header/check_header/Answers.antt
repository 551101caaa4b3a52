use Rattle.std.proofs.Common.{ℕ, List, [], subst, refl, inl, arith}
use Rattle.std.proofs.lemmas.Result.{err_from_is_err_and}
use Rattle.journal_file.specs.Stands.{Begins}
use Rattle.journal_file.proofs.Headed.{header_short, header_full, no_letters, has_header, other_bytes, same_bytes, kept_long}
use Rattle.journal_file.proofs.Taken.{machine_refuses}
use Rattle.journal_file.proofs.header.check_header.Goals as goal

pub returns-in_err-full-clause-header : goal.returns-in_err-full-clause-header
returns-in_err-full-clause-header g c = λ t.
    let p = err_from_is_err_and c.from_residual.result c.from_residual.ensures.1 in
    rw (p.1, p.2) (λ sums. machine_refuses c.args.digest.now sums (g.D.Disk.seen c.args.disk.now) c.in_err-full.field-0.0 c.in_err-full.ensures.machine)

pub returns-then-not-full-clause-header : goal.returns-then-not-full-clause-header
returns-then-not-full-clause-header g c = λ t.
    let fills = rw c.if-not-full.true at (c.in_ok-full.ensures.fills t) in
    λ sums. inl (refl, header_short (g.D.Disk.seen c.args.disk.now) c.look.new.into (omega (arith, c.look.ensures.long)) fills)

pub returns-in_default-clause-header : goal.returns-in_default-clause-header
returns-in_default-clause-header g c = λ t.
    let fills = rw c.if-not-full.false at (c.in_ok-full.ensures.fills t) in
    let read = header_full (g.D.Disk.seen c.args.disk.now) c.look.new.into (omega (arith, c.look.ensures.long)) fills in
    λ sums. inl (refl, no_letters (g.D.Disk.seen c.args.disk.now) c.look.new.into read.0 (rw c.in_default.is at c.kept_digest.ensures))

pub returns-then-ne-clause-header : goal.returns-then-ne-clause-header
returns-then-ne-clause-header g c = λ t.
    let seen = g.D.Disk.seen c.args.disk.now in
    let fills = rw c.if-not-full.false at (c.in_ok-full.ensures.fills t) in
    let read = header_full seen c.look.new.into (omega (arith, c.look.ensures.long)) fills in
    λ sums. (other_bytes c.in-Some.kept c.args.digest.now c.if-ne.ensures, (kept_long c.look.new.into c.in-Some.kept (omega (arith, c.look.ensures.long)) c.in-Some.ensures, has_header seen c.look.new.into c.in-Some.kept read.0 read.1 c.in-Some.ensures))

pub returns-clause-header : goal.returns-clause-header
returns-clause-header g c = λ t.
    let seen = g.D.Disk.seen c.args.disk.now in
    let fills = rw c.if-not-full.false at (c.in_ok-full.ensures.fills t) in
    let read = header_full seen c.look.new.into (omega (arith, c.look.ensures.long)) fills in
    subst (λ (digest : List ℕ). Begins digest [] seen) (same_bytes c.in-Some.kept c.args.digest.now c.if-ne.ensures)
    (has_header seen c.look.new.into c.in-Some.kept read.0 read.1 c.in-Some.ensures)
