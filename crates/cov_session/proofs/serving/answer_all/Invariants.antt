use Rattle.std.proofs.Common.{◌≡◌, ◌≤◌, length}
use Rattle.std.specs.Prelude.{vec_capacity}
use Rattle.cov_session.specs.Fills.{longest_frame}
use Rattle.cov_session.specs.Moments.{Ran}
use Rattle.cov_session.proofs.serving.answer_all.Given as goal

abbrev pub invariant-loop-len : goal.invariant-loop-len
invariant-loop-len g l = record {
  rest : g.P.Port.rest l.port ≡ g.P.Port.rest l.initial.port;
  opening : g.P.Port.opening l.port ≡ g.P.Port.opening l.initial.port;
  caller : g.P.Port.caller l.port ≡ g.P.Port.caller l.initial.port;
  room : longest_frame ≤ vec_capacity l.out;
  within : l.talk.point ≤ length (g.P.Port.seen l.port);
  later : g.L.Link.write_faults l.initial.link ≤ g.L.Link.write_faults l.link;
  same : g.L.Link.read_faults l.link ≡ g.L.Link.read_faults l.initial.link;
  ran : Ran (g.P.Port.opening l.initial.port) (g.P.Port.caller l.initial.port) 0
      (record { left = g.L.Link.left l.initial.link; held = l.initial.inbox; place = record { point = l.initial.talk.point; stage = l.initial.talk.stage }; seen = g.P.Port.seen l.initial.port; own = g.P.Port.own l.initial.port; written = g.L.Link.written l.initial.link })
      (record { left = g.L.Link.left l.link; held = l.inbox; place = record { point = l.talk.point; stage = l.talk.stage }; seen = g.P.Port.seen l.port; own = g.P.Port.own l.port; written = g.L.Link.written l.link });
}

abbrev pub decreases-loop-len : goal.decreases-loop-len
decreases-loop-len g l = length l.inbox
