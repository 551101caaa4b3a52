use Rattle.point_sampler.proofs.planning.plan_with.Goals as goal

pub returns : goal.returns
returns c = record {
  entries = c.requires.entries;
  machines = c.in_ok-made.ensures.machines;
  entrances = c.in_ok-made.ensures.entrances;
  removers = c.in_ok-made.ensures.removers;
  others = c.in_ok-made.ensures.others;
  lookup = c.requires.lookup;
  questions = c.requires.questions;
  sequences = c.in_ok-made.ensures.sequences;
}
