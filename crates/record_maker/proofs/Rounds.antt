-- Rounds step by step, and how many events they have.
use Rattle.std.proofs.Common.{◌≡◌, ℕ, zero, suc, ◌+◌, ◌-◌, ◌*◌, ◌<◌, ◌≤◌, List, [], ◌∷◌, ◌++◌, length, Some, refl, sym, ap, subst, ◌∙◌, arith, length-append}
use Rattle.std.proofs.Math.Nat.{suc-mul}
use Rattle.record_codec.specs.declared.builder.RecordBuilder.{RecordBuilder}
use Rattle.record_codec.specs.declared.record.Event.{Event}
use Rattle.record_codec.specs.declared.record.Event.TheVariants.{Set, Sample}
use Rattle.design_data.specs.declared.infos.Signal.{Signal}
use Rattle.design_data.specs.declared.infos.InstInfo.{InstInfo}
use Rattle.design_data.specs.declared.design.Design.{Design}
use Rattle.record_maker.specs.Pushing.{Pushed}
use Rattle.record_maker.proofs.Pushes.{pushed_more}
use Rattle.record_maker.specs.Generator.{draw, highest, after, sets_from, values_of, after_samples, samples_from, round, after_round, rounds_from}

-- ---- a step

pub set_step : (number last next : ℕ) (rest later : List Signal) (signal : Signal) → rest ≡ signal ∷ later → next ≡ draw last → sets_from number rest last ≡ (Set number (Some (highest signal.width (draw last))) ∷ []) ++ sets_from (number + 1) later next
set_step number last next rest later signal e f = ap (λ (signals : List Signal). sets_from number signals last) e ∙ ap (λ (x : ℕ). Set number (Some (highest signal.width (draw last))) ∷ sets_from (number + 1) later x) (sym f)

pub sets_end : (number last : ℕ) (rest : List Signal) → length rest ≡ 0 → sets_from number rest last ≡ []
sets_end number last [] e = refl
sets_end number last (signal ∷ rest) e = absurd (omega arith)

pub after_step : (last next : ℕ) (rest later all : List Signal) (signal : Signal) (x : ℕ) → after rest last ≡ after all x → rest ≡ signal ∷ later → next ≡ draw last → after later next ≡ after all x
after_step last next rest later all signal x h e f = ap (after later) f ∙ (ap (λ (signals : List Signal). after signals last) (sym e) ∙ h)

pub after_end : (last : ℕ) (rest all : List Signal) (x : ℕ) → after rest last ≡ after all x → length rest ≡ 0 → last ≡ after all x
after_end last [] all x h e = h
after_end last (signal ∷ rest) all x h e = absurd (omega arith)

pub sample_step : (number last next : ℕ) (rest later : List InstInfo) (inst : InstInfo) → rest ≡ inst ∷ later → next ≡ after inst.args last → samples_from number rest last ≡ (Sample number (values_of inst.args last) ∷ []) ++ samples_from (number + 1) later next
sample_step number last next rest later inst e f = ap (λ (instances : List InstInfo). samples_from number instances last) e ∙ ap (λ (x : ℕ). Sample number (values_of inst.args last) ∷ samples_from (number + 1) later x) (sym f)

pub samples_end : (number last : ℕ) (rest : List InstInfo) → length rest ≡ 0 → samples_from number rest last ≡ []
samples_end number last [] e = refl
samples_end number last (inst ∷ rest) e = absurd (omega arith)

pub samples_after : (last next : ℕ) (rest later all : List InstInfo) (inst : InstInfo) (x : ℕ) → after_samples rest last ≡ after_samples all x → rest ≡ inst ∷ later → next ≡ after inst.args last → after_samples later next ≡ after_samples all x
samples_after last next rest later all inst x h e f = ap (after_samples later) f ∙ (ap (λ (instances : List InstInfo). after_samples instances last) (sym e) ∙ h)

pub samples_after_end : (last : ℕ) (rest all : List InstInfo) (x : ℕ) → after_samples rest last ≡ after_samples all x → length rest ≡ 0 → last ≡ after_samples all x
samples_after_end last [] all x h e = h
samples_after_end last (inst ∷ rest) all x h e = absurd (omega arith)

pub round_step : (d : Design) (left last next : ℕ) → 0 < left → next ≡ after_round d last → rounds_from d left last ≡ round d last ++ rounds_from d (left - 1) next
round_step d zero last next lt f = absurd (omega (arith, lt))
round_step d (suc left) last next lt f = ap (λ (x : ℕ). round d last ++ rounds_from d left x) (sym f) ∙ ap (λ (n : ℕ). round d last ++ rounds_from d n next) (omega arith)

-- ---- how many events

sets_count : (signals : List Signal) (number x : ℕ) → length (sets_from number signals x) ≡ length signals
sets_count [] number x = refl
sets_count (signal ∷ signals) number x = ap suc (sets_count signals (number + 1) (draw x))

samples_count : (instances : List InstInfo) (number x : ℕ) → length (samples_from number instances x) ≡ length instances
samples_count [] number x = refl
samples_count (inst ∷ instances) number x = ap suc (samples_count instances (number + 1) (after inst.args x))

round_count : (d : Design) (x : ℕ) → length (round d x) ≡ length d.signals + length d.instances
unfolding round
round_count d x =
    let both = length-append (sets_from 0 d.signals x) (samples_from 0 d.instances (after d.signals x)) in
    omega (arith, both, sets_count d.signals 0 x, samples_count d.instances 0 (after d.signals x))

pub rounds_count : (d : Design) (rounds x : ℕ) → length (rounds_from d rounds x) ≡ rounds * (length d.signals + length d.instances)
rounds_count d zero x = omega arith
rounds_count d (suc rounds) x =
    let both = length-append (round d x) (rounds_from d rounds (after_round d x)) in
    let one = round_count d x in
    let more = rounds_count d rounds (after_round d x) in
    let times = suc-mul rounds (length d.signals + length d.instances) in
    omega (arith, both, one, more, times)

pub rounds_end : (d : Design) (left x : ℕ) → left ≤ 0 → rounds_from d left x ≡ []
rounds_end d zero x le = refl
rounds_end d (suc left) x le = absurd (omega (arith, le))

-- ---- a round that was pushed

module _ (d : Design) (x middle last : ℕ) (signals : List Signal) (instances : List InstInfo) (is : signals ≡ d.signals) (are : instances ≡ d.instances) (between : middle ≡ after signals x) where
  pub round_pushed : {a b c : RecordBuilder} → Pushed a b (sets_from 0 signals x) → Pushed b c (samples_from 0 instances middle) → Pushed a c (round d x)
  unfolding round
  round_pushed {a = a} {c = c} p q =
      let at : middle ≡ after d.signals x = between ∙ ap (λ (s : List Signal). after s x) is in
      let whole : sets_from 0 signals x ++ samples_from 0 instances middle ≡ sets_from 0 d.signals x ++ samples_from 0 d.instances (after d.signals x) = λ i. sets_from 0 (is i) x ++ samples_from 0 (are i) (at i) in
      subst (λ (es : List Event). Pushed a c es) whole (pushed_more p q)

  pub round_last : last ≡ after_samples instances middle → last ≡ after_round d x
  unfolding after_round
  round_last e =
      let at : middle ≡ after d.signals x = between ∙ ap (λ (s : List Signal). after s x) is in
      e ∙ (λ i. after_samples (are i) (at i))
