use Rattle.std.proofs.Common.{◌∙◌, arith}
use Rattle.cov_session.proofs.Grown.{grows_from, within_from}
use Rattle.cov_session.proofs.serving.write_all.Goals as goal

pub loop-at-preserved : goal.loop-at-preserved
loop-at-preserved g c = record {
  within = within_from c.args.bytes.now c.loop-at.at c.in_ok-at.field-0 c.loop-at.invariant.within c.in_ok-at.ensures.bound.1;
  grown = grows_from (g.L.Link.written c.args.link.now) (g.L.Link.written c.loop-at.link) (g.L.Link.written c.write.new.self) c.args.bytes.now c.loop-at.at c.in_ok-at.field-0 c.loop-at.invariant.grown c.in_ok-at.ensures.bytes;
  left = c.in_ok-at.ensures.same_left ∙ c.loop-at.invariant.left;
  later = omega (arith, c.loop-at.invariant.later, c.in_ok-at.ensures.cause.later);
  same = c.in_ok-at.ensures.same_faults ∙ c.loop-at.invariant.same;
}
