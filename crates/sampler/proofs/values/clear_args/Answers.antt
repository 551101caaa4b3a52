use Rattle.std.proofs.Common.{◌≡◌, ◌⊎◌, ◌∙◌, ◌+◌, ◌<◌, ◌≤◌, ℕ, List, [], length, get_or, set, Option, None, ap, subst, inl, inr, arith}
use Rattle.std.specs.Prelude.{ℤ}
use Rattle.std.proofs.lemmas.Bool.{cases_lt}
use Rattle.std.proofs.lemmas.List.{length-set, get_or-set_same, get_or-set_other}
use Rattle.record_codec.specs.Samples.{arg_at}
use Rattle.sampler.specs.Values.{Writes}
use Rattle.sampler.proofs.values.clear_args.Goals as goal

-- one more place becomes Unknown
cleared : (args : List (Option ℕ)) (old values : List (Option ℤ)) (slot : ℕ) → length values ≡ 4112 → slot < 16 → Writes [] args old values slot → Writes [] args old (set values (4096 + slot) None) (slot + 1)
cleared args old values slot len lt h = record {
  same = length-set values (4096 + slot) None ∙ h.same;
  below = λ s less. get_or-set_other values (4096 + slot) s None None (λ same. absurd (omega (arith, same, less))) ∙ h.below s less;
  at = λ k less. at k less (cases_lt k slot);
}
  where
    at : (k : ℕ) → k < slot + 1 → (k < slot) ⊎ (slot ≤ k) → get_or (set values (4096 + slot) None) (4096 + k) None ≡ arg_at [] args k
    at k less (inl lower) = get_or-set_other values (4096 + slot) (4096 + k) None None (λ same. absurd (omega (arith, same, lower))) ∙ h.at k lower
    at k less (inr ge) =
        let same : 4096 + k ≡ 4096 + slot = omega (arith, less, ge) in
        ap (λ (i : ℕ). get_or (set values (4096 + slot) None) i None) same ∙ get_or-set_same values (4096 + slot) None None (omega (arith, len, lt))

pub loop-slot-preserved : goal.loop-slot-preserved
loop-slot-preserved c = λ args.
    let h = c.loop-slot.invariant args in
    cleared args c.args.values.now c.loop-slot.values c.loop-slot.slot (h.same ∙ c.requires.places) c.loop-slot-test.true h

pub returns : goal.returns
returns c = λ args.
    let all : c.loop-slot.slot ≡ 16 = omega arith in
    subst (λ (n : ℕ). Writes [] args c.args.values.now c.loop-slot.values n) all (c.loop-slot.invariant args)
