use Rattle.std.proofs.Common.{◌<◌, ◌&&◌, get_or, length, false, ◌+◌, ◌∙◌, arith}
use Rattle.std.proofs.lemmas.List.{length-set}
use Rattle.trans_seq.specs.Windows.{is_known_in}
use Rattle.trans_seq.proofs.ReachLemmas.{inside-at, one-first, one-done, one-leads}
use Rattle.trans_seq.proofs.reach.one_inside.Goals as goal

pub loop-k-preserved : goal.loop-k-preserved
loop-k-preserved c =
    let p = is_known_in c.args.set.now in
    let w = c.args.window.now in
    let cuts = c.args.cuts.now in
    let next = c.loop-k.next.items in
    let k = c.loop-k.k in
    let b = c.is_inside-inside.result in
    let inv = c.loop-k.invariant in
    let lt : k < length w = omega arith in
    let room : length w < length next = omega (arith, inv.len, c.requires) in
    let is = inside-at p w k c.index-window-k.result b lt c.index-window-k.is c.is_inside-inside.ensures in
    record {
      len = length-set next (k + 1) (get_or cuts k false && b) ∙ inv.len;
      first = one-first p w cuts next k b lt room is inv.first;
      done = one-done p w cuts next k b lt room is inv.done;
    }

pub returns-clause-leads : goal.returns-clause-leads
returns-clause-leads c =
    let w = c.args.window.now in
    one-leads (is_known_in c.args.set.now) w c.args.cuts.now c.loop-k.next.items c.loop-k.invariant.first
    (λ k lt. c.loop-k.invariant.done k (omega (arith, lt, c.loop-k-test.false)))
