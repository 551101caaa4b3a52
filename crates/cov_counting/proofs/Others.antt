-- A sample of an instance leaves the samples of the others.
use Rattle.std.proofs.Common.{◌≡◌, ◌≢◌, ℕ, List, [], ◌∷◌, ◌++◌, length, Bool, cond, Option, refl, ap, sym, subst, ◌∙◌}
use Rattle.std.specs.Prelude.{slice_get, slice_index, map, ◌==◌}
use Rattle.std.specs.List.{range_with_len}
use Rattle.std.proofs.lemmas.Bool.{ne_eqb}
use Rattle.cov_spec.proofs.Numbers.{number_is_one}
use Rattle.record_codec.specs.declared.record.Record.{Record}
use Rattle.record_codec.specs.declared.record.SignalRow.{SignalRow}
use Rattle.record_codec.specs.declared.record.ArgRow.{ArgRow}
use Rattle.record_codec.specs.declared.record.Event.{Event}
use Rattle.record_codec.specs.declared.record.Event.TheVariants.{Set, Sample}
use Rattle.record_codec.specs.Samples.{Env, latest, signal_value, arg_at, env_of, args_of, envs_after, samples_of}
use Rattle.cov_counting.specs.Tallies.{Hit, IsCount}
use Rattle.cov_counting.specs.Laws.{AddsSample, OthersStay}

-- every signal has the same value after both lists of events
abbrev AreAlike : List Event → List Event → Type 0
AreAlike a b = (signal : ℕ) → latest signal a ≡ latest signal b

module _ (signals : List SignalRow) (rows : List ArgRow) where
  env_alike : (a b : List Event) (args : List (Option ℕ)) → AreAlike a b → env_of signals rows a args ≡ env_of signals rows b args
  unfolding env_of
  env_alike a b args h = λ i. map (λ place. signal_value (slice_get signals place) (h place i)) (range_with_len 0 4096) ++ map (arg_at rows args) (range_with_len 0 16)

  module _ (instance : ℕ) where
    after_alike : (a b events : List Event) → AreAlike a b → envs_after signals rows instance a events ≡ envs_after signals rows instance b events
    after_alike a b [] h = refl
    after_alike a b (Set signal value ∷ events) h = after_alike (Set signal value ∷ a) (Set signal value ∷ b) events (λ other. ap (λ (x : Option ℕ). cond (signal == other) value x) (h other))
    after_alike a b (Sample sampled args ∷ events) h =
        let rest = after_alike (Sample sampled args ∷ a) (Sample sampled args ∷ b) events h in
        let here = env_alike a b args h in
        λ i. cond (sampled == instance) (here i ∷ rest i) (rest i)

    inserted : (other : ℕ) (args : List (Option ℕ)) → other ≢ instance → (before front back : List Event) → envs_after signals rows instance before (front ++ Sample other args ∷ back) ≡ envs_after signals rows instance before (front ++ back)
    inserted other args ne before [] back =
        ap (λ (b : Bool). cond b (env_of signals rows before args ∷ envs_after signals rows instance (Sample other args ∷ before) back) (envs_after signals rows instance (Sample other args ∷ before) back)) (ne_eqb other instance ne)
        ∙ after_alike (Sample other args ∷ before) before back (λ signal. refl)
    inserted other args ne before (Set signal value ∷ front) back = inserted other args ne (Set signal value ∷ before) front back
    inserted other args ne before (Sample sampled given ∷ front) back =
        let rest = inserted other args ne (Sample sampled given ∷ before) front back in
        λ i. cond (sampled == instance) (env_of signals rows before given ∷ rest i) (rest i)

samples_stay : (r s : Record) (instance other : ℕ) → other ≢ instance → AddsSample r s other → samples_of s instance ≡ samples_of r instance
unfolding samples_of
samples_stay r s instance other ne a =
    (λ i. envs_after (a.signals i) (args_of (slice_get (a.instances i) instance)) instance [] (a.is i))
    ∙ inserted r.signals (args_of (slice_get r.instances instance)) instance other a.args ne [] a.front a.back
    ∙ ap (λ (events : List Event). envs_after r.signals (args_of (slice_get r.instances instance)) instance [] events) (sym a.was)

pub others : OthersStay
others d r s instance other ne adds a b ta tb inst item bin number is_bin =
    let all = samples_of r instance in
    number_is_one (Hit inst.items item bin all) (length all) (slice_index b number) (slice_index a number)
    (subst (λ (samples : List Env). IsCount inst.items item bin samples (slice_index b number)) (samples_stay r s instance other ne adds) (tb.at instance inst item bin number is_bin))
    (ta.at instance inst item bin number is_bin)
