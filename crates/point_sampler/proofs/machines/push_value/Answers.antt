use Rattle.std.proofs.Common.{◌≡◌, ap, ℕ, List, length, ◌++◌, ◌∷◌, [], refl, arith, length-append, subst, sym}
use Rattle.std.proofs.lemmas.List.{with_items_is}
use Rattle.point_sampler.specs.Points.{RunsStand}
use Rattle.point_sampler.proofs.machines.push_value.Goals as goal

pub returns-clause-remembers : goal.returns-clause-remembers
returns-clause-remembers c = λ w h. record {
  begun = λ some. ((λ t. omega (arith, length-append w (c.args.value.now ∷ []))), (λ l. refl));
  runs =
      let len : length c.push_some.new.runs ≡ c.args.state.now.runs.len = omega (arith, c.push_some.auto.runs, c.as_mut_slice.ensures.len, ap (λ (rs : List (List (ℕ × ℕ))). length rs) c.as_mut_slice.ensures.value, c.args.state.now.runs.ok.0) in
      subst (λ (rs : List (List (ℕ × ℕ))). RunsStand c.args.plan.now.machines.items c.args.plan.now.removers rs (w ++ c.args.value.now ∷ [])) (sym (with_items_is c.args.state.now.runs c.push_some.new.runs len))
      (c.in_ok-push_some.ensures.runs w (subst (λ (rs : List (List (ℕ × ℕ))). RunsStand c.args.plan.now.machines.items c.args.plan.now.removers rs w) (sym c.as_mut_slice.ensures.value) h.runs));
  others = c.in_ok-push_some.ensures.others w h.others;
  recent = c.in_ok-push_some.ensures.recent w h.recent;
}

pub returns-clause-met : goal.returns-clause-met
returns-clause-met c = λ w h. c.in_ok-push_some.ensures.met w h.begun
    (subst (λ (rs : List (List (ℕ × ℕ))). RunsStand c.args.plan.now.machines.items c.args.plan.now.removers rs w) (sym c.as_mut_slice.ensures.value) h.runs) h.others h.recent
