use Rattle.std.proofs.Common.{◌≡◌, ◌∙◌, List, length, ap, sym}
use Rattle.std.specs.Prelude.{slice_get}
use Rattle.std.proofs.lemmas.Bool.{eqb-true}
use Rattle.record_codec.specs.declared.record.InstRow.{InstRow}
use Rattle.record_codec.specs.Samples.{args_of}
use Rattle.sampler.proofs.Walks.{at_sample, holds_bare, writes_none}
use Rattle.sampler.proofs.walking.take_chosen.Goals as goal

pub returns-then-is_empty-clause-holds : goal.returns-then-is_empty-clause-holds
returns-then-is_empty-clause-holds c = λ before h. holds_bare c.args.rec.now.signals before c.args.instance c.args.args.now c.args.values.now h

pub returns-then-is_empty-clause-at : goal.returns-then-is_empty-clause-at
returns-then-is_empty-clause-at c = λ before events few holds h.
    let rows = c.arguments-arg_rows.result.now in
    let none : length rows ≡ 0 = eqb-true (length rows) 0 (sym c.if-is_empty.ensures) in
    at_sample c.args.rec.now c.args.instance c.args.items.now c.args.plans.now c.args.chosen.now before events c.args.args.now rows c.args.values.now c.args.values.now c.args.kept.now.states.items c.sample_instance.new.kept.states.items
    c.args.counts.now c.sample_instance.new.counts (c.arguments-arg_rows.ensures ∙ ap (λ (xs : List InstRow). args_of (slice_get xs c.args.instance)) c.as_slice.ensures)
    (writes_none c.args.rec.now.signals before c.args.args.now rows c.args.values.now none holds) few c.in_ok-sample_instance.ensures.taken holds h
