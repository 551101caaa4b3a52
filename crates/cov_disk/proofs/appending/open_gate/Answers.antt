use Rattle.std.proofs.Common.{inl, ℕ, ◌∷◌, ◌++◌, List, sym, subst}
use Rattle.cov_disk.specs.Gates.{Ends, IsStaged, EndsEither}
use Rattle.cov_disk.specs.Files.{Torn}
use Rattle.cov_disk.proofs.Moments.{started, goes_on, on_ok}
use Rattle.cov_disk.proofs.Staging.{torn_gate, gate_written, staged_ends}
use Rattle.cov_disk.proofs.appending.open_gate.Goals as goal

pub returns-in_err-write_at-clause-any_moment : goal.returns-in_err-write_at-clause-any_moment
returns-in_err-write_at-clause-any_moment g c = λ front part t len s.
    let old = c.args.disk.now in
    let file = g.D.Disk.seen old in
    let n = c.args.end in
    let begun = started g.D.Disk.moment g.D.Disk.left_since old (EndsEither front part) (λ f left. inl (staged_ends front part f (subst (IsStaged front part) (sym (c.requires.durable f (g.met.D.Disk.only_now old f left))) s))) in
    let one : (f : List ℕ) → g.D.Disk.may_leave c.write_at.new.self f → EndsEither front part f = λ f now. let from = c.write_at.ensures.crash f now in torn_gate front part n len file f s (subst (λ (d : List ℕ). Torn n 1 d f) (c.requires.durable from.0 from.1) from.2) in
    goes_on g.D.Disk.moment g.D.Disk.left_since old old c.write_at.new.self (EndsEither front part) _ begun c.write_at.ensures.time one

pub returns-clause-any_moment : goal.returns-clause-any_moment
returns-clause-any_moment g c = λ front part t len s.
    let old = c.args.disk.now in
    let file = g.D.Disk.seen old in
    let n = c.args.end in
    let begun = started g.D.Disk.moment g.D.Disk.left_since old (EndsEither front part) (λ f left. inl (staged_ends front part f (subst (IsStaged front part) (sym (c.requires.durable f (g.met.D.Disk.only_now old f left))) s))) in
    let one : (f : List ℕ) → g.D.Disk.may_leave c.write_at.new.self f → EndsEither front part f = λ f now. let from = c.write_at.ensures.crash f now in torn_gate front part n len file f s (subst (λ (d : List ℕ). Torn n 1 d f) (c.requires.durable from.0 from.1) from.2) in
    let first = goes_on g.D.Disk.moment g.D.Disk.left_since old old c.write_at.new.self (EndsEither front part) _ begun c.write_at.ensures.time one in
    goes_on g.D.Disk.moment g.D.Disk.left_since old c.write_at.new.self c.sync.new.self (EndsEither front part) _ first c.sync.ensures.time (λ f now. one f (c.sync.ensures.crash f now))

pub returns-clause-opened : goal.returns-clause-opened
returns-clause-opened g c = λ front part t len s.
    let is = gate_written front part c.args.end len _ _ s (c.in_ok-write_at.ensures.written t) in
    on_ok c.sync.result (λ same. subst (Ends (front ++ 1 ∷ part)) (sym same) is) c.sync.ensures.seen
