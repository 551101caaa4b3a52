use Rattle.std.proofs.Common.{subst}
use Rattle.std.proofs.lemmas.Result.{IfOk-weaker}
use Rattle.cov_base.specs.Loads.{HasFile}
use Rattle.covd_commands.specs.FromFiles.{Files}
use Rattle.covd_commands.proofs.Dumping.{has_design, records}
use Rattle.covd_commands.proofs.Unread.{no_dump_file}
use Rattle.covd_commands.proofs.record.record_dump.Goals as goal

pub returns-in-Bytes-clause-answer : goal.returns-in-Bytes-clause-answer
returns-in-Bytes-clause-answer g c =
    let files : Files = g.F.Shelf.files c.args.shelf.now in
    let has = rw c.in-Declared.is at c.in_ok-text.ensures.had in
    let loaded = rw c.in-Bytes.is at c.in_ok-bytes.ensures.loaded in
    let dump = c.args.words.dump.now in
    let tree = c.in-Declared.text.tree in
    let d = c.in-Declared.text.design in
    let file : HasFile files dump c.in-Bytes.bytes.items = subst (λ (f : Files). HasFile f dump c.in-Bytes.bytes.items) c.in_ok-text.ensures.same loaded.0 in
    IfOk-weaker c.record_bytes.result _ _ (λ a h. records files (g.F.Shelf.faults c.args.shelf.now) (g.F.Shelf.faults c.load.new.shelf) c.args.words.design.now dump c.args.words.scope.now c.args.words.id.now tree d c.in-Bytes.bytes.items has file loaded.1 a.status a.text.items
    (rw (c.deref.ensures.value, c.as_bytes.ensures.value, c.as_bytes-in-Bytes.ensures.value) at h)) c.record_bytes.ensures

pub returns-clause-answer : goal.returns-clause-answer
returns-clause-answer g c =
    let has = rw c.in-Declared.is at c.in_ok-text.ensures.had in
    let unread = rw c.in-Refused-2.is at c.in_ok-bytes.ensures.loaded in
    let files : Files = g.F.Shelf.files c.args.shelf.now in
    no_dump_file files (g.F.Shelf.files c.had_text.new.shelf) (g.F.Shelf.faults c.args.shelf.now) (g.F.Shelf.faults c.had_text.new.shelf) (g.F.Shelf.faults c.load.new.shelf) c.args.words.design.now c.args.words.dump.now c.args.words.scope.now c.args.words.id.now
    c.in-Declared.text.design c.in-Refused-2.answer.status c.in-Refused-2.answer.text.items c.in_ok-text.ensures.same c.in_ok-text.ensures.later (has_design files c.args.words.design.now c.in-Declared.text.tree c.in-Declared.text.design has) unread
