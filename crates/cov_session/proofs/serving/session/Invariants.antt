use Rattle.std.proofs.Common.{◌≡◌, ◌≤◌, ◌-◌, length, [], None}
use Rattle.std.specs.Prelude.{vec_capacity}
use Rattle.cov_session.specs.Fills.{longest_frame}
use Rattle.cov_session.specs.Moments.{Ran}
use Rattle.cov_session.proofs.serving.session.Given as goal

abbrev pub invariant-loop-talk : goal.invariant-loop-talk
invariant-loop-talk g l = record {
  rest : g.P.Port.rest l.port ≡ g.P.Port.rest l.initial.port;
  opening : g.P.Port.opening l.port ≡ g.P.Port.opening l.initial.port;
  caller : g.P.Port.caller l.port ≡ g.P.Port.caller l.initial.port;
  space : longest_frame ≤ vec_capacity l.out;
  within : l.talk.point ≤ length (g.P.Port.seen l.port);
  low : l.room ≤ l.most;
  read : g.L.Link.read_faults l.initial.link ≤ g.L.Link.read_faults l.link;
  write : g.L.Link.write_faults l.initial.link ≤ g.L.Link.write_faults l.link;
  ran : Ran (g.P.Port.opening l.initial.port) (g.P.Port.caller l.initial.port) (l.most - l.room)
      (record { left = g.L.Link.left l.initial.link; held = []; place = record { point = length (g.P.Port.seen l.initial.port); stage = None }; seen = g.P.Port.seen l.initial.port; own = g.P.Port.own l.initial.port; written = g.L.Link.written l.initial.link })
      (record { left = g.L.Link.left l.link; held = l.inbox; place = record { point = l.talk.point; stage = l.talk.stage }; seen = g.P.Port.seen l.port; own = g.P.Port.own l.port; written = g.L.Link.written l.link });
}

abbrev pub decreases-loop-talk : goal.decreases-loop-talk
decreases-loop-talk g l = l.room
