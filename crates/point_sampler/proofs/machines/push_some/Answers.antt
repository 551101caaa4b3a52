use Rattle.std.proofs.Common.{◌++◌, ◌∷◌, []}
use Rattle.point_sampler.proofs.Still.{still_runs, still_others, still_recent, still_met, none_among, none_once}
use Rattle.point_sampler.proofs.machines.push_some.Goals as goal

pub returns-then-is_still-clause-runs : goal.returns-then-is_still-clause-runs
returns-then-is_still-clause-runs c = let s = c.is_still.ensures c.if-is_still.true in
    λ w h. still_runs c.args.plan.now s.0 s.1 s.2 c.args.runs.now (w ++ c.args.value.now ∷ [])

pub returns-then-is_still-clause-others : goal.returns-then-is_still-clause-others
returns-then-is_still-clause-others c = let s = c.is_still.ensures c.if-is_still.true in
    λ w h. still_others c.args.plan.now s.0 s.1 s.2 c.args.others.now (w ++ c.args.value.now ∷ [])

pub returns-then-is_still-clause-recent : goal.returns-then-is_still-clause-recent
returns-then-is_still-clause-recent c = let s = c.is_still.ensures c.if-is_still.true in
    λ w h. still_recent c.args.plan.now s.0 s.1 s.2 c.args.ending.now.recent (w ++ c.args.value.now ∷ [])

pub returns-then-is_still-clause-met : goal.returns-then-is_still-clause-met
returns-then-is_still-clause-met c = let s = c.is_still.ensures c.if-is_still.true in
    λ w later runs others recent. still_met c.args.plan.now s.0 s.1 s.2 w c.args.value.now c.args.met.now.items c.requires.none

pub returns-then-is_still-clause-among : goal.returns-then-is_still-clause-among
returns-then-is_still-clause-among c = none_among c.args.plan.now c.args.met.now.items c.requires.none

pub returns-then-is_still-clause-once : goal.returns-then-is_still-clause-once
returns-then-is_still-clause-once c = none_once c.args.met.now.items c.requires.none
