use Rattle.std.proofs.Common.{ℕ, List, subst}
use Rattle.std.proofs.lemmas.Result.{IfOk-weaker}
use Rattle.std.specs.Prelude.{Ok, Err}
use Rattle.record_codec.specs.Spelling.{fields_of}
use Rattle.vcd_reader.specs.Refusals.{Gives}
use Rattle.covd_commands.specs.Dumps.{made_of}
use Rattle.covd_commands.proofs.Dumping as dumping
use Rattle.covd_commands.proofs.record.record_bytes.Goals as goal

pub returns-in-Ok : goal.returns-in-Ok
returns-in-Ok c =
    let text = c.args.text.now in
    let made = subst (λ (id : List ℕ). Gives fields_of (Ok c.in-Ok.made) (made_of text.tree text.design c.args.bytes.now c.args.scope.now id)) c.in_ok-id.ensures c.in-Ok.ensures in
    IfOk-weaker c.recorded.result _ _ (λ a h. dumping.done text.tree text.design c.args.bytes.now c.args.scope.now c.args.id.now c.in-Ok.made a.status a.text.items made h) c.recorded.ensures

pub returns : goal.returns
returns c =
    let text = c.args.text.now in
    let made = subst (λ (id : List ℕ). Gives fields_of (Err c.in-Err.fault) (made_of text.tree text.design c.args.bytes.now c.args.scope.now id)) c.in_ok-id.ensures c.in-Err.ensures in
    IfOk-weaker c.refused.result _ _ (λ a h. dumping.refused text.tree text.design c.args.bytes.now c.args.scope.now c.args.id.now c.in-Err.fault a.status a.text.items made h) c.refused.ensures
