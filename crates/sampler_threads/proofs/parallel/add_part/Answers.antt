use Rattle.sampler_threads.proofs.Merged.{merged_more, part_found}
use Rattle.sampler_threads.proofs.parallel.add_part.Goals as goal

pub returns : goal.returns
returns c =
    let d = c.args.design.now in
    let r = c.args.rec.now in
    let labels = c.args.labels.now in
    merged_more d r labels c.args.parts c.args.part c.args.total.now.items c.as_slice.result.now c.join_all.new.total.items c.requires.merged
    (part_found d r labels c.args.parts c.args.part c.args.found.now c.in-Ok.counts c.as_slice.result.now c.in-Ok.is c.as_slice.ensures.value c.requires.found) c.join_all.ensures
