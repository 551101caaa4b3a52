use Rattle.std.proofs.Common.{◌≡◌, ◌<◌, List, ℕ, get_or, length, subst, arith}
use Rattle.point_sampler.specs.Met.{AllTaken}
use Rattle.point_sampler.proofs.Taking.{one_taken, single}
use Rattle.point_sampler.proofs.counting.count_few.Goals as goal

pub returns-in-len1 : goal.returns-in-len1
returns-in-len1 c =
    let met = c.args.met.now in
    let one : length met ≡ 1 = omega (arith, c.in-len1.len_at_least, c.in-len1.len_below) in
    let some : 0 < length met = omega (arith, one) in
    subst (λ (places : List ℕ). AllTaken c.args.item.now c.args.env.now places c.args.counts.now c.count_one.new.counts c.count_one.new.row.items) (single met one)
    (one_taken c.args.item.now c.args.env.now (get_or met 0 0) c.args.counts.now c.count_one.new.counts c.args.row.now.items c.count_one.new.row.items
    (c.requires.within 0 0 some) c.requires.counts c.requires.none c.in_ok-count_one.ensures.taken)
