use Rattle.std.proofs.Common.{inl, inr, subst}
use Rattle.std.proofs.lemmas.Result.{IfOk-weaker}
use Rattle.covd_commands.specs.Commands.{Counts, Records}
use Rattle.covd_commands.specs.Listings.{Lists}
use Rattle.covd_core.proofs.printing.answer.Goals as goal

pub returns-in-Some-clause-answer : goal.returns-in-Some-clause-answer
returns-in-Some-clause-answer g c = IfOk-weaker c.in-Some.done _ _ (λ a h. inr (inr (inr (inr h)))) c.in-Some.ensures.answer

pub returns-in-Some-list_words-clause-answer : goal.returns-in-Some-list_words-clause-answer
returns-in-Some-list_words-clause-answer g c =
    let same = c.in_default.ensures.untouched in
    let files = g.F.Shelf.files in
    let faults = g.F.Shelf.faults in
    let now = faults c.list.new.shelf in
    let listing = c.in-Some-list_words.listing in
    let name = c.in-Some-list_words.design.now in
    IfOk-weaker c.list.result _ _ (λ a h. inr (inl (listing, name, c.in-Some-list_words.ensures, subst (λ x. Lists (files x) (faults x) now listing name a.status a.text.items) same h))) c.list.ensures.answer

pub returns-in-Some-record_words-clause-answer : goal.returns-in-Some-record_words-clause-answer
returns-in-Some-record_words-clause-answer g c =
    let same = c.in_default.ensures.untouched in
    let files = g.F.Shelf.files in
    let faults = g.F.Shelf.faults in
    let now = faults c.record_dump.new.shelf in
    let w = c.in-Some-record_words.words in
    IfOk-weaker c.record_dump.result _ _ (λ a h. inr (inr (inr (inl (w.design.now, w.dump.now, w.scope.now, w.id.now, c.in-Some-record_words.ensures, subst (λ x. Records (files x) (faults x) now w.design.now w.dump.now w.scope.now w.id.now a.status a.text.items) same h))))) c.record_dump.ensures.answer

pub returns-in-Some-count_words-clause-answer : goal.returns-in-Some-count_words-clause-answer
returns-in-Some-count_words-clause-answer g c =
    let same = c.in_default.ensures.untouched in
    let files = g.F.Shelf.files in
    let faults = g.F.Shelf.faults in
    let now = faults c.count.new.shelf in
    let name = c.in-Some-count_words.design.now in
    let rec = c.in-Some-count_words.rec.now in
    IfOk-weaker c.count.result _ _ (λ a h. inr (inr (inl (name, rec, c.in-Some-count_words.ensures, subst (λ x. Counts (files x) (faults x) now name rec a.status a.text.items) same h)))) c.count.ensures.answer
