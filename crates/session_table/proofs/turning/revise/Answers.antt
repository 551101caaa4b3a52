use Rattle.std.proofs.Common.{◌∙◌}
use Rattle.std.specs.Prelude.{Ok, Err}
use Rattle.cov_proto.specs.Request.TheVariants as request
use Rattle.session_table.specs.Says.{FindsText}
use Rattle.session_table.proofs.Uploading.{revise_refused, revise_instead, revise_done, moved}
use Rattle.session_table.proofs.turning.revise.Goals as goal

pub returns-in-Err-clause-replies : goal.returns-in-Err-clause-replies
returns-in-Err-clause-replies g c = revise_refused (g.P.Port.opening c.args.port.now) (g.P.Port.caller c.args.port.now) (g.P.Port.seen c.args.port.now) (g.P.Port.own c.args.port.now) (record { point = c.args.talk.now.point; stage = c.args.talk.now.stage }) c.args.digest.now c.in-Err.fault c.finish.new.self c.says.result c.requires.within c.in-Err.ensures.finishes.0 c.in-Err.ensures.finishes.1 c.says.ensures.point (c.says.ensures.body ∙ c.refused.ensures.body) c.says.ensures.writable

pub returns-in-Ok-text_of-clause-replies : goal.returns-in-Ok-text_of-clause-replies
returns-in-Ok-text_of-clause-replies g c = revise_done (g.P.Port.opening c.args.port.now) (g.P.Port.caller c.args.port.now) (g.P.Port.seen c.args.port.now) (g.P.Port.own c.args.port.now) (g.P.Port.seen c.readied.new.port) (g.P.Port.own c.readied.new.port) (record { point = c.args.talk.now.point; stage = c.args.talk.now.stage }) c.args.digest.now c.in-Ok.text.items c.finish.new.self c.in-Ok-text_of.compiled c.readied.result _ c.in-Ok.ensures.finishes.0 c.in-Ok.ensures.finishes.1 c.in-Ok.ensures.finishes.2 (moved (λ d l. FindsText d l (Ok c.in-Ok-text_of.compiled)) (g.P.Port.opening c.args.port.now) c.args.opening.now c.as_slice.result.now c.in-Ok.text.items c.requires.opening c.as_slice.ensures.value c.in-Ok-text_of.ensures) (c.readied.ensures.rowed c.args.talk.now.stage)

pub returns-clause-replies : goal.returns-clause-replies
returns-clause-replies g c = revise_instead (g.P.Port.opening c.args.port.now) (g.P.Port.caller c.args.port.now) (g.P.Port.seen c.args.port.now) (g.P.Port.own c.args.port.now) (record { point = c.args.talk.now.point; stage = c.args.talk.now.stage }) c.args.digest.now c.in-Ok.text.items c.finish.new.self c.in-Err-text_of.body c.says-in-Err-text_of.result c.requires.within c.in-Ok.ensures.finishes.0 c.in-Ok.ensures.finishes.1 c.in-Ok.ensures.finishes.2 (moved (λ d l. FindsText d l (Err c.in-Err-text_of.body)) (g.P.Port.opening c.args.port.now) c.args.opening.now c.as_slice.result.now c.in-Ok.text.items c.requires.opening c.as_slice.ensures.value c.in-Err-text_of.ensures) c.says-in-Err-text_of.ensures.point c.says-in-Err-text_of.ensures.body c.says-in-Err-text_of.ensures.writable
