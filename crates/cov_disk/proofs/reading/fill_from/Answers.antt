use Rattle.std.proofs.Common.{◌≡◌, inr, ◌+◌, ◌∙◌, arith, drop, true, List, ℕ, subst}
use Rattle.cov_disk.specs.Files.{HandsOver}
use Rattle.cov_disk.proofs.Moments.{joined}
use Rattle.cov_disk.proofs.Filling.{filled_more, there_more}
use Rattle.cov_disk.proofs.reading.fill_from.Goals as goal

pub loop-at-preserved : goal.loop-at-preserved
loop-at-preserved g c =
    let i = c.loop-at.invariant in
    let r = c.read_behind.ensures in
    let old = c.args.disk.now in
    let hands : g.D.Disk.told old ≡ true → HandsOver (g.D.Disk.seen old) (c.args.offset + c.loop-at.at) c.in_ok-count.count (drop c.loop-at.at c.read_behind.new.into) = λ t. subst (λ (file : List ℕ). HandsOver file (c.args.offset + c.loop-at.at) c.in_ok-count.count (drop c.loop-at.at c.read_behind.new.into)) i.seen (c.in_ok-count.ensures.bytes (i.told ∙ t)) in
    record {
      sound = c.in_ok-count.ensures.faults;
      told = r.told ∙ i.told;
      seen = r.seen ∙ i.seen;
      crash = λ f now. i.crash f (r.crash f now);
      image = λ was. c.in_ok-count.ensures.there (i.image was);
      moments = joined g.D.Disk.moment g.D.Disk.left_since old c.loop-at.disk c.read_behind.new.disk (g.D.Disk.may_leave old) (g.D.Disk.may_leave c.loop-at.disk) (g.D.Disk.may_leave old) i.moments r.moments (λ f p. p) (λ f q. i.crash f q);
      within = omega (arith, c.in_ok-count.ensures.bound, r.room);
      room = r.room ∙ i.room;
      filled = λ t. filled_more (g.D.Disk.seen old) c.loop-at.into c.read_behind.new.into c.args.offset c.loop-at.at c.in_ok-count.count (i.filled t) r.front (hands t);
      there = λ t. inr (there_more (g.D.Disk.seen old) _ c.args.offset c.loop-at.at c.in_ok-count.count (hands t) (omega (arith, c.if-count-eq0.false)));
    }
