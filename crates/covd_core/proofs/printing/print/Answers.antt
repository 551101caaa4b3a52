use Rattle.std.proofs.Common.{◌≡◌, ℕ, List, map, subst}
use Rattle.std.specs.Prelude.{string_bytes}
use Rattle.record_codec.proofs.RecordLaws.{one_record, no_fault, one_fault}
use Rattle.cov_spec.specs.Told.{Grows}
use Rattle.covd_core.specs.Command.{ends_of}
use Rattle.covd_core.proofs.Leaving.{leaves_whole}
use Rattle.covd_commands.proofs.Refusals.{IsReading}
use Rattle.covd_core.proofs.OneAnswer.{has_one_answer}
use Rattle.covd_core.proofs.printing.print.Goals as goal

spells : IsReading
spells = record { one = one_record; no_fault = no_fault; one_fault = one_fault }

pub returns-in-Err-clause-one_answer : goal.returns-in-Err-clause-one_answer
returns-in-Err-clause-one_answer g c = has_one_answer spells (map string_bytes c.args.words.now) (g.F.Shelf.files c.args.shelf.now) (g.F.Shelf.faults c.args.shelf.now) (g.F.Shelf.faults c.answer.new.shelf)

pub returns-in-Ok-write_all-clause-one_answer : goal.returns-in-Ok-write_all-clause-one_answer
returns-in-Ok-write_all-clause-one_answer g c = has_one_answer spells (map string_bytes c.args.words.now) (g.F.Shelf.files c.args.shelf.now) (g.F.Shelf.faults c.args.shelf.now) (g.F.Shelf.faults c.answer.new.shelf)

pub returns-clause-one_answer : goal.returns-clause-one_answer
returns-clause-one_answer g c = has_one_answer spells (map string_bytes c.args.words.now) (g.F.Shelf.files c.args.shelf.now) (g.F.Shelf.faults c.args.shelf.now) (g.F.Shelf.faults c.answer.new.shelf)

pub returns-in-Ok-write_all-clause-leaves : goal.returns-in-Ok-write_all-clause-leaves
returns-in-Ok-write_all-clause-leaves g c =
    let ends = ends_of g.L.Link.left g.L.Link.written g.L.Link.read_faults g.L.Link.write_faults in
    let same : c.deref.result.now ≡ c.in-Ok.field-0.text.items = c.deref.ensures.value in
    let grows = subst (λ (text : List ℕ). Grows (g.L.Link.written c.args.link.now) (g.L.Link.written c.write_all.new.link) text) same c.in-Ok-write_all.ensures.ok in
    leaves_whole (map string_bytes c.args.words.now) (g.F.Shelf.files c.args.shelf.now) (g.F.Shelf.faults c.args.shelf.now) (g.F.Shelf.faults c.answer.new.shelf) c.in-Ok.field-0.text.items
    (ends c.args.link.now) (ends c.write_all.new.link) c.in-Ok.field-0.status c.in-Ok.ensures.answer grows
