use Rattle.std.proofs.Common.{◌∙◌}
use Rattle.std.specs.Prelude.{Err}
use Rattle.cov_proto.specs.Request.TheVariants as request
use Rattle.session_table.specs.Contents.{IsContent, Fitting}
use Rattle.session_table.specs.Says.{FindsRecord}
use Rattle.session_table.proofs.Uploading.{commit_refused, commit_instead, commit_done, moved}
use Rattle.session_table.proofs.turning.commit.Goals as goal

pub returns-in-Err-clause-replies : goal.returns-in-Err-clause-replies
returns-in-Err-clause-replies g c = commit_refused (g.P.Port.opening c.args.port.now) (g.P.Port.caller c.args.port.now) (g.P.Port.seen c.args.port.now) (g.P.Port.own c.args.port.now) (record { point = c.args.talk.now.point; stage = c.args.talk.now.stage }) c.args.digest.now c.in-Err.fault c.finish.new.self c.says.result c.requires.within c.in-Err.ensures.finishes.0 c.in-Err.ensures.finishes.1 c.says.ensures.point (c.says.ensures.body ∙ c.refused.ensures.body) c.says.ensures.writable

pub returns-in-Ok-record_of-clause-replies : goal.returns-in-Ok-record_of-clause-replies
returns-in-Ok-record_of-clause-replies g c = commit_done (g.P.Port.opening c.args.port.now) (g.P.Port.caller c.args.port.now) (g.P.Port.seen c.args.port.now) (g.P.Port.own c.args.port.now) (g.P.Port.seen c.admit.new.port) (g.P.Port.own c.admit.new.port) (record { point = c.args.talk.now.point; stage = c.args.talk.now.stage }) c.args.digest.now c.in-Ok.bytes.items c.finish.new.self c.in-Ok-record_of.rec c.admit.result _ c.in-Ok.ensures.finishes.0 c.in-Ok.ensures.finishes.1 c.in-Ok.ensures.finishes.2 (moved (λ d l. IsContent d l (Fitting c.in-Ok-record_of.rec)) (g.P.Port.opening c.args.port.now) c.args.opening.now c.as_slice.result.now c.in-Ok.bytes.items c.requires.opening c.as_slice.ensures.value c.in-Ok-record_of.ensures) (c.admit.ensures.rowed c.args.talk.now.stage)

pub returns-clause-replies : goal.returns-clause-replies
returns-clause-replies g c = commit_instead (g.P.Port.opening c.args.port.now) (g.P.Port.caller c.args.port.now) (g.P.Port.seen c.args.port.now) (g.P.Port.own c.args.port.now) (record { point = c.args.talk.now.point; stage = c.args.talk.now.stage }) c.args.digest.now c.in-Ok.bytes.items c.finish.new.self c.in-Err-record_of.body c.says-in-Err-record_of.result c.requires.within c.in-Ok.ensures.finishes.0 c.in-Ok.ensures.finishes.1 c.in-Ok.ensures.finishes.2 (moved (λ d l. FindsRecord d l (Err c.in-Err-record_of.body)) (g.P.Port.opening c.args.port.now) c.args.opening.now c.as_slice.result.now c.in-Ok.bytes.items c.requires.opening c.as_slice.ensures.value c.in-Err-record_of.ensures) c.says-in-Err-record_of.ensures.point c.says-in-Err-record_of.ensures.body c.says-in-Err-record_of.ensures.writable
