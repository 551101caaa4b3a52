-- Told files and a shelf that didn't fail leave one outcome to each record, and one status and text to what is shown of all.
use Rattle.std.proofs.Common.{◌≡◌, ℕ, ◌+◌, List, [], ◌∷◌, Bool, true, false, Option, Some, None, Result, Ok, Err, inl, inr, refl, sym, ap, subst, ◌∙◌}
use Rattle.cov_spec.specs.Causes.{Rose}
use Rattle.record_codec.specs.declared.record.Record.{Record}
use Rattle.design_data.specs.declared.design.Design.{Design}
use Rattle.covd_commands.specs.declared.status.Status.{Status}
use Rattle.covd_commands.specs.declared.status.Status.TheVariants as status
use Rattle.cov_history.specs.declared.entry.Entry.{Entry}
use Rattle.covd_commands.specs.Options.{Options}
use Rattle.covd_commands.specs.Unadmitted.{refusal_line}
use Rattle.covd_commands.specs.Finding.{Origin, Finds, FindsNone}
use Rattle.covd_commands.proofs.Refusals.{IsReading}
use Rattle.covd_commands.proofs.OneEach.{Told, Family, IsOne, AreApart, either_one, unfound_one, found_one, found_or_not}
use Rattle.covd_filling.specs.Admission.{admission}
use Rattle.covd_filling.specs.Outcomes.{Outcome, Taken, Unpassed, Refused, may_pass, Becomes, Filled, passes_on, EndsBy, Shown, Fills}

ends_one : (P Q : Filled → Type 0) (s s' : Status) (text text' : List ℕ) → ((f : Filled) → P f → Q f → (s ≡ s') × (text ≡ text')) → (r : Result Filled (Status × List ℕ)) → EndsBy P s text r → EndsBy Q s' text' r → (s ≡ s') × (text ≡ text')
ends_one P Q s s' text text' each (Ok f) a b = each f a b
ends_one P Q s s' text text' each (Err end) a b = (a.0 ∙ sym b.0, a.1 ∙ sym b.1)

module _ (spells : IsReading) (all : Told) (before now : ℕ) (calm : Rose before now → ⊥) (d : Design) where
  module _ (passed : Bool) (k : ℕ) (h : List Entry) (origin : Origin) where
    same : (r q : Record) → Finds (Some all) d k origin r → Finds (Some all) d k origin q → r ≡ q
    same r q a b = found_one spells all before now calm d k origin r q a b

    found : (s : Status) (text : List ℕ) (r : Record) → Finds (Some all) d k origin r → FindsNone (Some all) before now d k origin s text → ⊥
    found s text r a b = found_or_not spells all before now calm d k origin s text r a b

    -- one record passes or doesn't
    passes_once : (r q : Record) → r ≡ q → may_pass passed r ≡ true → may_pass passed q ≡ false → ⊥
    passes_once r q e a b = let c : may_pass passed q ≡ true = ap (may_pass passed) (sym e) ∙ a in absurd (cc (b, c))

    -- and is admitted or isn't
    admitted_once : (r q : Record) (text : List ℕ) → r ≡ q → refusal_line k (admission d h r) ≡ None → refusal_line k (admission d h q) ≡ Some text → ⊥
    admitted_once r q text e a b = let c : refusal_line k (admission d h q) ≡ None = ap (λ (x : Record). refusal_line k (admission d h x)) (sym e) ∙ a in absurd (cc (b, c))

    abbrev Unfound : Family
    Unfound s text = FindsNone (Some all) before now d k origin s text

    abbrev Unadmitted : Family
    Unadmitted s text = (r : Record) × Finds (Some all) d k origin r × (may_pass passed r ≡ true) × (s ≡ status.AdmitRefused) × (refusal_line k (admission d h r) ≡ Some text)

    line_of : (r q : Record) (text text' : List ℕ) → r ≡ q → refusal_line k (admission d h r) ≡ Some text → refusal_line k (admission d h q) ≡ Some text' → text ≡ text'
    line_of r q text text' e a b = let g : refusal_line k (admission d h r) ≡ Some text' = ap (λ (x : Record). refusal_line k (admission d h x)) e ∙ b in cc (a, g)

    unadmitted_one : IsOne Unadmitted
    unadmitted_one s s' text text' a b = (a.3 ∙ sym b.3, line_of a.0 b.0 text text' (same a.0 b.0 a.1 b.1) a.4 b.4)

    unfound_or_unadmitted : AreApart Unfound Unadmitted
    unfound_or_unadmitted s s' text text' a b = found s text b.0 b.1 a

    refused_one : IsOne (λ s text. Becomes passed (Some all) before now d k h origin (Refused s text))
    refused_one = either_one Unfound Unadmitted (unfound_one spells all before now calm d k origin) unadmitted_one unfound_or_unadmitted

    taken_or_refused : (r : Record) (s : Status) (text : List ℕ) → Becomes passed (Some all) before now d k h origin (Taken r) → Becomes passed (Some all) before now d k h origin (Refused s text) → ⊥
    taken_or_refused r s text a b = elim b [ inl x ↦ found s text r a.0 x | inr x ↦ admitted_once r x.0 text (same r x.0 a.0 x.1) a.2 x.4 ]

    unpassed_or_refused : (ended : ℕ) (s : Status) (text : List ℕ) → Becomes passed (Some all) before now d k h origin (Unpassed ended) → Becomes passed (Some all) before now d k h origin (Refused s text) → ⊥
    unpassed_or_refused ended s text a b = elim b [ inl x ↦ found s text a.0 a.1 x | inr x ↦ passes_once x.0 a.0 (same x.0 a.0 x.1 a.1) x.2 a.2 ]

    taken_or_unpassed : (r : Record) (ended : ℕ) → Becomes passed (Some all) before now d k h origin (Taken r) → Becomes passed (Some all) before now d k h origin (Unpassed ended) → ⊥
    taken_or_unpassed r ended a b = passes_once r b.0 (same r b.0 a.0 b.1) a.1 b.2

    pub becomes_one : (o p : Outcome) → Becomes passed (Some all) before now d k h origin o → Becomes passed (Some all) before now d k h origin p → o ≡ p
    becomes_one (Taken r) (Taken q) a b = ap Taken (same r q a.0 b.0)
    becomes_one (Taken r) (Unpassed ended) a b = absurd (taken_or_unpassed r ended a b)
    becomes_one (Taken r) (Refused s text) a b = absurd (taken_or_refused r s text a b)
    becomes_one (Unpassed ended) (Taken q) a b = absurd (taken_or_unpassed q ended b a)
    becomes_one (Unpassed ended) (Unpassed other) a b = ap Unpassed (a.3 ∙ ap (λ (r : Record). r.status) (same a.0 b.0 a.1 b.1) ∙ sym b.3)
    becomes_one (Unpassed ended) (Refused s text) a b = absurd (unpassed_or_refused ended s text a b)
    becomes_one (Refused s text) (Taken q) a b = absurd (taken_or_refused q s text b a)
    becomes_one (Refused s text) (Unpassed ended) a b = absurd (unpassed_or_refused ended s text b a)
    becomes_one (Refused s text) (Refused s' text') a b = let e = refused_one s s' text text' a b in λ i. Refused (e.0 i) (e.1 i)

  pub fills_one : (shown : Shown) (options : Options) (origins : List Origin) (k : ℕ) (f : Filled) → IsOne (Fills shown options (Some all) before now d k f origins)
  fills_one shown options [] k f s s' text text' a b = (a.0 ∙ sym b.0, a.1 ∙ sym b.1)
  fills_one shown options (origin ∷ later) k f s s' text text' a b =
      let one = becomes_one options.passed k f.history origin b.0 a.0 b.1 a.1 in
      let other = subst (λ (o : Outcome). EndsBy (λ (g : Filled). Fills shown options (Some all) before now d (k + 1) g later s' text') s' text' (passes_on options d k origin f o)) one b.2 in
      ends_one _ _ s s' text text' (λ g x y. fills_one shown options later (k + 1) g s s' text text' x y) (passes_on options d k origin f a.0) a.2 other
