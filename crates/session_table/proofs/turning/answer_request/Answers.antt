use Rattle.std.proofs.Common.{refl}
use Rattle.std.specs.Prelude.{Ok, Some, None}
use Rattle.cov_proto.specs.Request.TheVariants as request
use Rattle.cov_history.specs.declared.asks.Ask.TheVariants as ask
use Rattle.upload_stage.specs.Uploads.{begin_fault, piece_fault}
use Rattle.session_table.specs.Table.{begin_row, piece_row}
use Rattle.cov_proto.specs.declared.replies.Body.TheVariants as body
use Rattle.session_table.proofs.Saying.{asked_replies, local_replies, told_replies}
use Rattle.session_table.proofs.turning.answer_request.Goals as goal

pub returns-in-Begin-clause-replies : goal.returns-in-Begin-clause-replies
returns-in-Begin-clause-replies g c = rw c.in-Begin.is (local_replies (g.P.Port.opening c.args.port.now) (g.P.Port.caller c.args.port.now) (g.P.Port.seen c.args.port.now) (g.P.Port.own c.args.port.now) (record { point = c.args.talk.now.point; stage = c.args.talk.now.stage }) (Ok (request.Begin c.in-Begin.len)) (begin_row (begin_fault c.args.talk.now.stage c.in-Begin.len) c.args.talk.now.stage c.in-Begin.len) c.begin.result _ c.requires.within refl c.begin.ensures)

pub returns-in-Piece-clause-replies : goal.returns-in-Piece-clause-replies
returns-in-Piece-clause-replies g c =
    let l = rw c.as_slice.ensures at c.piece.ensures in
    rw c.in-Piece.is (local_replies (g.P.Port.opening c.args.port.now) (g.P.Port.caller c.args.port.now) (g.P.Port.seen c.args.port.now) (g.P.Port.own c.args.port.now) (record { point = c.args.talk.now.point; stage = c.args.talk.now.stage }) (Ok (request.Piece c.in-Piece.offset c.in-Piece.bytes)) (piece_row (piece_fault c.args.talk.now.stage c.in-Piece.offset c.in-Piece.bytes) c.args.talk.now.stage c.in-Piece.offset c.in-Piece.bytes) c.piece.result _ c.requires.within refl l)

pub returns-in-Bye-clause-replies : goal.returns-in-Bye-clause-replies
returns-in-Bye-clause-replies g c = rw c.in-Bye.is (told_replies (g.P.Port.opening c.args.port.now) (g.P.Port.caller c.args.port.now) (g.P.Port.seen c.args.port.now) (g.P.Port.own c.args.port.now) (record { point = c.args.talk.now.point; stage = c.args.talk.now.stage }) (Ok request.Bye) body.Farewell c.args.talk.now.stage c.farewell.result _ c.requires.within refl c.farewell.ensures.point c.farewell.ensures.body c.farewell.ensures.writable refl)

pub returns-in-Hello-clause-replies : goal.returns-in-Hello-clause-replies
returns-in-Hello-clause-replies g c = rw c.in-Hello.is (asked_replies (g.P.Port.opening c.args.port.now) (g.P.Port.caller c.args.port.now) (g.P.Port.seen c.args.port.now) (g.P.Port.own c.args.port.now) (g.P.Port.seen c.turn.new.port) (g.P.Port.own c.turn.new.port) (record { point = c.args.talk.now.point; stage = c.args.talk.now.stage }) (request.Hello c.in-Hello.point) (ask.Hello c.in-Hello.point) c.turn.result _ refl (c.turn.ensures.rowed c.args.talk.now.stage None (λ e. absurd cc)))

pub returns-in-Counts-clause-replies : goal.returns-in-Counts-clause-replies
returns-in-Counts-clause-replies g c = rw c.in-Counts.is (asked_replies (g.P.Port.opening c.args.port.now) (g.P.Port.caller c.args.port.now) (g.P.Port.seen c.args.port.now) (g.P.Port.own c.args.port.now) (g.P.Port.seen c.turn-in-Counts.new.port) (g.P.Port.own c.turn-in-Counts.new.port) (record { point = c.args.talk.now.point; stage = c.args.talk.now.stage }) (request.Counts c.in-Counts.first c.in-Counts.path) (ask.Counts c.in-Counts.first c.in-Counts.path) c.turn-in-Counts.result _ refl (c.turn-in-Counts.ensures.rowed c.args.talk.now.stage (Some c.args.talk.now.stage) (λ e. refl)))

pub returns-in-Coverage-clause-replies : goal.returns-in-Coverage-clause-replies
returns-in-Coverage-clause-replies g c = rw c.in-Coverage.is (asked_replies (g.P.Port.opening c.args.port.now) (g.P.Port.caller c.args.port.now) (g.P.Port.seen c.args.port.now) (g.P.Port.own c.args.port.now) (g.P.Port.seen c.turn-in-Coverage.new.port) (g.P.Port.own c.turn-in-Coverage.new.port) (record { point = c.args.talk.now.point; stage = c.args.talk.now.stage }) (request.Coverage c.in-Coverage.path) (ask.Coverage c.in-Coverage.path) c.turn-in-Coverage.result _ refl (c.turn-in-Coverage.ensures.rowed c.args.talk.now.stage (Some c.args.talk.now.stage) (λ e. refl)))

pub returns-in-Illegal-clause-replies : goal.returns-in-Illegal-clause-replies
returns-in-Illegal-clause-replies g c = rw c.in-Illegal.is (asked_replies (g.P.Port.opening c.args.port.now) (g.P.Port.caller c.args.port.now) (g.P.Port.seen c.args.port.now) (g.P.Port.own c.args.port.now) (g.P.Port.seen c.turn-in-Illegal.new.port) (g.P.Port.own c.turn-in-Illegal.new.port) (record { point = c.args.talk.now.point; stage = c.args.talk.now.stage }) (request.Illegal c.in-Illegal.first) (ask.Illegal c.in-Illegal.first) c.turn-in-Illegal.result _ refl (c.turn-in-Illegal.ensures.rowed c.args.talk.now.stage (Some c.args.talk.now.stage) (λ e. refl)))

pub returns-in-Tests-clause-replies : goal.returns-in-Tests-clause-replies
returns-in-Tests-clause-replies g c = rw c.in-Tests.is (asked_replies (g.P.Port.opening c.args.port.now) (g.P.Port.caller c.args.port.now) (g.P.Port.seen c.args.port.now) (g.P.Port.own c.args.port.now) (g.P.Port.seen c.turn-in-Tests.new.port) (g.P.Port.own c.turn-in-Tests.new.port) (record { point = c.args.talk.now.point; stage = c.args.talk.now.stage }) (request.Tests c.in-Tests.first) (ask.Tests c.in-Tests.first) c.turn-in-Tests.result _ refl (c.turn-in-Tests.ensures.rowed c.args.talk.now.stage (Some c.args.talk.now.stage) (λ e. refl)))

pub returns-in-TestCounts-clause-replies : goal.returns-in-TestCounts-clause-replies
returns-in-TestCounts-clause-replies g c = rw c.in-TestCounts.is (asked_replies (g.P.Port.opening c.args.port.now) (g.P.Port.caller c.args.port.now) (g.P.Port.seen c.args.port.now) (g.P.Port.own c.args.port.now) (g.P.Port.seen c.turn-in-TestCounts.new.port) (g.P.Port.own c.turn-in-TestCounts.new.port) (record { point = c.args.talk.now.point; stage = c.args.talk.now.stage }) (request.TestCounts c.in-TestCounts.first c.in-TestCounts.id c.in-TestCounts.path) (ask.TestCounts c.in-TestCounts.first c.in-TestCounts.id c.in-TestCounts.path) c.turn-in-TestCounts.result _ refl (c.turn-in-TestCounts.ensures.rowed c.args.talk.now.stage (Some c.args.talk.now.stage) (λ e. refl)))

pub returns-in-Rank-clause-replies : goal.returns-in-Rank-clause-replies
returns-in-Rank-clause-replies g c = rw c.in-Rank.is (asked_replies (g.P.Port.opening c.args.port.now) (g.P.Port.caller c.args.port.now) (g.P.Port.seen c.args.port.now) (g.P.Port.own c.args.port.now) (g.P.Port.seen c.turn-in-Rank.new.port) (g.P.Port.own c.turn-in-Rank.new.port) (record { point = c.args.talk.now.point; stage = c.args.talk.now.stage }) request.Rank ask.Rank c.turn-in-Rank.result _ refl (c.turn-in-Rank.ensures.rowed c.args.talk.now.stage (Some c.args.talk.now.stage) (λ e. refl)))

pub returns-in-Exclude-clause-replies : goal.returns-in-Exclude-clause-replies
returns-in-Exclude-clause-replies g c = rw c.in-Exclude.is (asked_replies (g.P.Port.opening c.args.port.now) (g.P.Port.caller c.args.port.now) (g.P.Port.seen c.args.port.now) (g.P.Port.own c.args.port.now) (g.P.Port.seen c.turn-in-Exclude.new.port) (g.P.Port.own c.turn-in-Exclude.new.port) (record { point = c.args.talk.now.point; stage = c.args.talk.now.stage }) (request.Exclude c.in-Exclude.path) (ask.Exclude c.in-Exclude.path) c.turn-in-Exclude.result _ refl (c.turn-in-Exclude.ensures.rowed c.args.talk.now.stage (Some c.args.talk.now.stage) (λ e. refl)))

pub returns-in-Include-clause-replies : goal.returns-in-Include-clause-replies
returns-in-Include-clause-replies g c = rw c.in-Include.is (asked_replies (g.P.Port.opening c.args.port.now) (g.P.Port.caller c.args.port.now) (g.P.Port.seen c.args.port.now) (g.P.Port.own c.args.port.now) (g.P.Port.seen c.turn-in-Include.new.port) (g.P.Port.own c.turn-in-Include.new.port) (record { point = c.args.talk.now.point; stage = c.args.talk.now.stage }) (request.Include c.in-Include.path) (ask.Include c.in-Include.path) c.turn-in-Include.result _ refl (c.turn-in-Include.ensures.rowed c.args.talk.now.stage (Some c.args.talk.now.stage) (λ e. refl)))

pub returns-in-NameOf-clause-replies : goal.returns-in-NameOf-clause-replies
returns-in-NameOf-clause-replies g c = rw c.in-NameOf.is (asked_replies (g.P.Port.opening c.args.port.now) (g.P.Port.caller c.args.port.now) (g.P.Port.seen c.args.port.now) (g.P.Port.own c.args.port.now) (g.P.Port.seen c.turn-in-NameOf.new.port) (g.P.Port.own c.turn-in-NameOf.new.port) (record { point = c.args.talk.now.point; stage = c.args.talk.now.stage }) (request.NameOf c.in-NameOf.bin) (ask.NameOf c.in-NameOf.bin) c.turn-in-NameOf.result _ refl (c.turn-in-NameOf.ensures.rowed c.args.talk.now.stage (Some c.args.talk.now.stage) (λ e. refl)))

pub returns-in-Fetch-clause-replies : goal.returns-in-Fetch-clause-replies
returns-in-Fetch-clause-replies g c = rw c.in-Fetch.is (asked_replies (g.P.Port.opening c.args.port.now) (g.P.Port.caller c.args.port.now) (g.P.Port.seen c.args.port.now) (g.P.Port.own c.args.port.now) (g.P.Port.seen c.turn-in-Fetch.new.port) (g.P.Port.own c.turn-in-Fetch.new.port) (record { point = c.args.talk.now.point; stage = c.args.talk.now.stage }) (request.Fetch c.in-Fetch.place c.in-Fetch.offset) (ask.Fetch c.in-Fetch.place c.in-Fetch.offset) c.turn-in-Fetch.result _ refl (c.turn-in-Fetch.ensures.rowed c.args.talk.now.stage (Some c.args.talk.now.stage) (λ e. refl)))
