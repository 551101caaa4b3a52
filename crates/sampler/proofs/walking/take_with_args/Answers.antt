use Rattle.sampler.proofs.Walks.{at_sample, holds_sample}
use Rattle.sampler.proofs.walking.take_with_args.Goals as goal

pub returns-clause-holds : goal.returns-clause-holds
returns-clause-holds c = λ before h.
    holds_sample c.args.rec.now.signals before c.args.instance c.args.args.now c.args.arg_rows.now c.args.values.now c.write_args.new.values c.clear_args.new.values c.write_args.ensures (c.clear_args.ensures c.args.args.now) h

pub returns-clause-at : goal.returns-clause-at
returns-clause-at c = λ before events few holds h.
    at_sample c.args.rec.now c.args.instance c.args.items.now c.args.plans.now c.args.chosen.now before events c.args.args.now c.args.arg_rows.now c.args.values.now c.write_args.new.values c.args.kept.now.states.items c.sample_instance.new.kept.states.items
    c.args.counts.now c.sample_instance.new.counts c.requires.rows c.write_args.ensures few c.in_ok-sample_instance.ensures.taken holds h
