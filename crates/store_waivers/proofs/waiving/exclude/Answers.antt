use Rattle.merge_store.specs.Stores.{opening_of, entries_of}
use Rattle.store_waivers.proofs.Excluding.{changed, out_already, none_found, full}
use Rattle.store_waivers.proofs.waiving.exclude.Goals as goal

pub returns-in-Ok-clause-answer : goal.returns-in-Ok-clause-answer
returns-in-Ok-clause-answer c =
    changed (opening_of c.args.store.now) (entries_of c.args.store.now) (entries_of c.exclude.new.self) c.args.path.now c.in-Ok.ensures.answer

pub returns-in-Err-NoSuchPath-clause-answer : goal.returns-in-Err-NoSuchPath-clause-answer
returns-in-Err-NoSuchPath-clause-answer c =
    none_found (opening_of c.args.store.now) (entries_of c.args.store.now) (entries_of c.exclude.new.self) c.args.path.now
    (rw c.in-Err-NoSuchPath.field-0-is at c.in-Err-NoSuchPath.ensures.answer)

pub returns-in-Err-AlreadyExcluded-clause-answer : goal.returns-in-Err-AlreadyExcluded-clause-answer
returns-in-Err-AlreadyExcluded-clause-answer c =
    out_already (opening_of c.args.store.now) (entries_of c.args.store.now) (entries_of c.exclude.new.self) c.args.path.now
    (rw c.in-Err-AlreadyExcluded.field-0-is at c.in-Err-AlreadyExcluded.ensures.answer)

pub returns-in-Err-Full-clause-answer : goal.returns-in-Err-Full-clause-answer
returns-in-Err-Full-clause-answer c =
    full (opening_of c.args.store.now) (entries_of c.args.store.now) (entries_of c.exclude.new.self) c.args.path.now c.in-Err-Full.which c.in-Err-Full.have c.in-Err-Full.want
    (rw c.in-Err-Full.field-0-is at c.in-Err-Full.ensures.answer)
