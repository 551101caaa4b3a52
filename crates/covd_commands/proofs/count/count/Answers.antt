use Rattle.std.proofs.Common.{ℕ, List, subst}
use Rattle.std.proofs.lemmas.Result.{IfOk-weaker}
use Rattle.cov_base.specs.Loads.{HasFile}
use Rattle.covd_commands.specs.FromFiles.{Files}
use Rattle.covd_commands.specs.Steps.{CountsRecord}
use Rattle.covd_commands.proofs.Records.{counts}
use Rattle.covd_commands.proofs.Unread.{no_record_file}
use Rattle.covd_commands.proofs.count.count.Goals as goal

pub returns-in-Bytes-clause-answer : goal.returns-in-Bytes-clause-answer
returns-in-Bytes-clause-answer g c =
    let files : Files = g.F.Shelf.files c.args.shelf.now in
    let has = rw c.in-Compiled.is at c.in_ok-design.ensures.had in
    let loaded = rw c.in-Bytes.is at c.in_ok-bytes.ensures.loaded in
    let file : HasFile files c.args.rec.now c.in-Bytes.bytes.items = subst (λ (f : Files). HasFile f c.args.rec.now c.in-Bytes.bytes.items) c.in_ok-design.ensures.same loaded.0 in
    IfOk-weaker c.count_record.result _ _ (λ a h. counts files (g.F.Shelf.faults c.args.shelf.now) (g.F.Shelf.faults c.load.new.shelf) c.args.design.now c.args.rec.now c.in-Compiled.design c.in-Bytes.bytes.items has file loaded.1 a.status a.text.items
    (subst (λ (bytes : List ℕ). CountsRecord c.in-Compiled.design bytes a.status a.text.items) c.deref.ensures.value h)) c.count_record.ensures

pub returns-clause-answer : goal.returns-clause-answer
returns-clause-answer g c =
    let has = rw c.in-Compiled.is at c.in_ok-design.ensures.had in
    let unread = rw c.in-Refused-2.is at c.in_ok-bytes.ensures.loaded in
    no_record_file (g.F.Shelf.files c.args.shelf.now) (g.F.Shelf.files c.had_design.new.shelf) (g.F.Shelf.faults c.args.shelf.now) (g.F.Shelf.faults c.had_design.new.shelf) (g.F.Shelf.faults c.load.new.shelf) c.args.design.now c.args.rec.now
    c.in-Compiled.design c.in-Refused-2.answer.status c.in-Refused-2.answer.text.items c.in_ok-design.ensures.same c.in_ok-design.ensures.later has unread
