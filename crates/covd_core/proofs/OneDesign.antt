-- Told files and a shelf that didn't fail leave one design to a name, or one refusal and no design.
use Rattle.std.proofs.Common.{◌≡◌, ℕ, List, Some, inl, inr, refl, sym, ◌∙◌, subst}
use Rattle.std.specs.Prelude.{◌⊎◌}
use Rattle.cov_spec.specs.Causes.{Rose}
use Rattle.cov_ground.specs.Limits.{longest_design}
use Rattle.design_data.specs.declared.design.Design.{Design}
use Rattle.covd_commands.specs.declared.status.Status.{Status}
use Rattle.covd_commands.specs.declared.status.Status.TheVariants as status
use Rattle.covd_commands.specs.FromFiles.{Files, HasDesign, HasNoDesign, NoDesign}
use Rattle.covd_core.specs.Sessions.{OneDesign, HasOneDesign}
use Rattle.covd_commands.proofs.OneEach.{IsRefused, refused, refused_one, not_refused, design_one, no_design, no_design_one}

module _ (all : List (List ℕ × List ℕ)) (before now : ℕ) (calm : Rose before now → ⊥) (name : List ℕ) where
  abbrev IsUncompiled : Status → List ℕ → Type 0
  IsUncompiled s text = (s ≡ status.DesignRefused) × HasNoDesign (Some all) name text

  split : (s : Status) (text : List ℕ) → NoDesign (Some all) before now name s text → IsUncompiled s text ⊎ IsRefused all name longest_design s text
  split status.DesignRefused text h = inl (refl, h)
  split other text h = inr (refused all name before now calm longest_design other text h)

  refusal_one : (s s' : Status) (text text' : List ℕ) → NoDesign (Some all) before now name s text → NoDesign (Some all) before now name s' text' → (s ≡ s') × (text ≡ text')
  refusal_one s s' text text' h k = elim (split s text h) [
    | inl a ↦ elim (split s' text' k) [
      | inl b ↦ (a.0 ∙ sym b.0, no_design_one all name text text' a.1 b.1)
      | inr b ↦ absurd (not_refused all name longest_design s' text' a.1.text a.1.file a.1.short b)
    ]
    | inr a ↦ elim (split s' text' k) [
      | inl b ↦ absurd (not_refused all name longest_design s text b.1.text b.1.file b.1.short a)
      | inr b ↦ refused_one all name longest_design s s' text text' a b
    ]
  ]

  apart : (d : Design) (s : Status) (text : List ℕ) → HasDesign (Some all) name d → NoDesign (Some all) before now name s text → ⊥
  apart d s text h k = elim (split s text k) [
    | inl b ↦ no_design all name text d h b.1
    | inr b ↦ not_refused all name longest_design s text h.text h.file h.short b
  ]

  told_one : OneDesign (Some all) before now name
  told_one = record { one = design_one all name; apart = apart; one_refusal = refusal_one }

pub has_one_design : (files : Files) (before now : ℕ) → HasOneDesign files before now
has_one_design files before now all is calm name = subst (λ (f : Files). OneDesign f before now name) (sym is) (told_one all before now calm name)
