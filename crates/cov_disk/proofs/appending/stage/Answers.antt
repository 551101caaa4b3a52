use Rattle.std.proofs.Common.{ℕ, ◌+◌, [], ◌∷◌, ◌++◌, List, length, sym, ap, ◌∙◌, subst, arith}
use Rattle.cov_disk.specs.Gates.{Ends, IsStaged}
use Rattle.cov_disk.proofs.Moments.{started, goes_on, on_ok}
use Rattle.cov_disk.proofs.Staging.{ends_alike, follows_front, only_front, all_written, holds_long}
use Rattle.cov_disk.proofs.appending.stage.Goals as goal

pub returns-in_err-write_at-clause-any_moment : goal.returns-in_err-write_at-clause-any_moment
returns-in_err-write_at-clause-any_moment g c = λ front t len e.
    let old = c.args.disk.now in
    let file = g.D.Disk.seen old in
    let n = c.args.end in
    let zero = only_front (n + 1) file (g.D.Disk.may_leave old) c.requires.durable in
    let one = follows_front (n + 1) _ _ file (g.D.Disk.may_leave old) (g.D.Disk.may_leave c.write_at.new.self) (omega arith) zero c.write_at.ensures.crash in
    let begun = started g.D.Disk.moment g.D.Disk.left_since old (Ends front) (λ f left. ends_alike front file f n len e (zero f (g.met.D.Disk.only_now old f left))) in
    goes_on g.D.Disk.moment g.D.Disk.left_since old old c.write_at.new.self (Ends front) _ begun c.write_at.ensures.time (λ f now. ends_alike front file f n len e (one f now))

pub returns-in_err-write_at-2-clause-any_moment : goal.returns-in_err-write_at-2-clause-any_moment
returns-in_err-write_at-2-clause-any_moment g c = λ front t len e.
    let old = c.args.disk.now in
    let file = g.D.Disk.seen old in
    let n = c.args.end in
    let zero = only_front (n + 1) file (g.D.Disk.may_leave old) c.requires.durable in
    let one = follows_front (n + 1) _ _ file (g.D.Disk.may_leave old) (g.D.Disk.may_leave c.write_at.new.self) (omega arith) zero c.write_at.ensures.crash in
    let two = follows_front (n + 1) _ _ file (g.D.Disk.may_leave c.write_at.new.self) (g.D.Disk.may_leave c.write_at-2.new.self) (omega arith) one c.write_at-2.ensures.crash in
    let begun = started g.D.Disk.moment g.D.Disk.left_since old (Ends front) (λ f left. ends_alike front file f n len e (zero f (g.met.D.Disk.only_now old f left))) in
    let first = goes_on g.D.Disk.moment g.D.Disk.left_since old old c.write_at.new.self (Ends front) _ begun c.write_at.ensures.time (λ f now. ends_alike front file f n len e (one f now)) in
    goes_on g.D.Disk.moment g.D.Disk.left_since old c.write_at.new.self c.write_at-2.new.self (Ends front) _ first c.write_at-2.ensures.time (λ f now. ends_alike front file f n len e (two f now))

pub returns-in_err-write_at-3-clause-any_moment : goal.returns-in_err-write_at-3-clause-any_moment
returns-in_err-write_at-3-clause-any_moment g c = λ front t len e.
    let old = c.args.disk.now in
    let file = g.D.Disk.seen old in
    let n = c.args.end in
    let zero = only_front (n + 1) file (g.D.Disk.may_leave old) c.requires.durable in
    let one = follows_front (n + 1) _ _ file (g.D.Disk.may_leave old) (g.D.Disk.may_leave c.write_at.new.self) (omega arith) zero c.write_at.ensures.crash in
    let two = follows_front (n + 1) _ _ file (g.D.Disk.may_leave c.write_at.new.self) (g.D.Disk.may_leave c.write_at-2.new.self) (omega arith) one c.write_at-2.ensures.crash in
    let three = follows_front (n + 1) _ _ file (g.D.Disk.may_leave c.write_at-2.new.self) (g.D.Disk.may_leave c.write_at-3.new.self) (omega arith) two c.write_at-3.ensures.crash in
    let begun = started g.D.Disk.moment g.D.Disk.left_since old (Ends front) (λ f left. ends_alike front file f n len e (zero f (g.met.D.Disk.only_now old f left))) in
    let first = goes_on g.D.Disk.moment g.D.Disk.left_since old old c.write_at.new.self (Ends front) _ begun c.write_at.ensures.time (λ f now. ends_alike front file f n len e (one f now)) in
    let second = goes_on g.D.Disk.moment g.D.Disk.left_since old c.write_at.new.self c.write_at-2.new.self (Ends front) _ first c.write_at-2.ensures.time (λ f now. ends_alike front file f n len e (two f now)) in
    goes_on g.D.Disk.moment g.D.Disk.left_since old c.write_at-2.new.self c.write_at-3.new.self (Ends front) _ second c.write_at-3.ensures.time (λ f now. ends_alike front file f n len e (three f now))

pub returns-clause-any_moment : goal.returns-clause-any_moment
returns-clause-any_moment g c = λ front t len e.
    let old = c.args.disk.now in
    let file = g.D.Disk.seen old in
    let n = c.args.end in
    let zero = only_front (n + 1) file (g.D.Disk.may_leave old) c.requires.durable in
    let one = follows_front (n + 1) _ _ file (g.D.Disk.may_leave old) (g.D.Disk.may_leave c.write_at.new.self) (omega arith) zero c.write_at.ensures.crash in
    let two = follows_front (n + 1) _ _ file (g.D.Disk.may_leave c.write_at.new.self) (g.D.Disk.may_leave c.write_at-2.new.self) (omega arith) one c.write_at-2.ensures.crash in
    let three = follows_front (n + 1) _ _ file (g.D.Disk.may_leave c.write_at-2.new.self) (g.D.Disk.may_leave c.write_at-3.new.self) (omega arith) two c.write_at-3.ensures.crash in
    let begun = started g.D.Disk.moment g.D.Disk.left_since old (Ends front) (λ f left. ends_alike front file f n len e (zero f (g.met.D.Disk.only_now old f left))) in
    let first = goes_on g.D.Disk.moment g.D.Disk.left_since old old c.write_at.new.self (Ends front) _ begun c.write_at.ensures.time (λ f now. ends_alike front file f n len e (one f now)) in
    let second = goes_on g.D.Disk.moment g.D.Disk.left_since old c.write_at.new.self c.write_at-2.new.self (Ends front) _ first c.write_at-2.ensures.time (λ f now. ends_alike front file f n len e (two f now)) in
    let third = goes_on g.D.Disk.moment g.D.Disk.left_since old c.write_at-2.new.self c.write_at-3.new.self (Ends front) _ second c.write_at-3.ensures.time (λ f now. ends_alike front file f n len e (three f now)) in
    goes_on g.D.Disk.moment g.D.Disk.left_since old c.write_at-3.new.self c.sync.new.self (Ends front) _ third c.sync.ensures.time (λ f now. ends_alike front file f n len e (three f (c.sync.ensures.crash f now)))

pub returns-clause-staged : goal.returns-clause-staged
returns-clause-staged g c = λ front t len e.
    let one = c.in_ok-write_at.ensures.written t in
    let two = c.in_ok-write_at-2.ensures.written (c.write_at.ensures.told ∙ t) in
    let three = c.in_ok-write_at-3.ensures.written (c.write_at-2.ensures.told ∙ c.write_at.ensures.told ∙ t) in
    let is = all_written front c.args.head.now c.args.body.now c.args.end len _ _ _ _ e one two three in
    on_ok c.sync.result (λ same. subst (IsStaged front (c.args.head.now ++ c.args.body.now)) (sym same) is) c.sync.ensures.seen

pub returns-clause-place : goal.returns-clause-place
returns-clause-place g c = λ t.
    let n = c.args.end in
    let head = c.args.head.now in
    let body = c.args.body.now in
    let below = c.requires.place t in
    let one = holds_long (n + 1) (g.D.Disk.seen c.args.disk.now) head (g.D.Disk.seen c.write_at.new.self) (omega (arith, below)) (c.in_ok-write_at.ensures.written t) in
    let two = holds_long (n + 1 + length head) (g.D.Disk.seen c.write_at.new.self) body (g.D.Disk.seen c.write_at-2.new.self) one (c.in_ok-write_at-2.ensures.written (c.write_at.ensures.told ∙ t)) in
    let three = holds_long (n + 1 + length head + length body) (g.D.Disk.seen c.write_at-2.new.self) (0 ∷ []) (g.D.Disk.seen c.write_at-3.new.self) two (c.in_ok-write_at-3.ensures.written (c.write_at-2.ensures.told ∙ c.write_at.ensures.told ∙ t)) in
    on_ok c.sync.result (λ same. omega (arith, three, ap (λ (l : List ℕ). length l) same)) c.sync.ensures.seen
