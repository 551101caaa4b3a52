-- Told files and a shelf that didn't fail leave one list of waivers to a name, or one refusal and no list.
use Rattle.std.proofs.Common.{◌≡◌, ℕ, ◌≤◌, List, Option, Some, None, Result, Ok, Err, inl, inr, refl, sym, ap, ◌∙◌}
use Rattle.std.specs.Prelude.{◌⊎◌}
use Rattle.cov_spec.specs.Causes.{Rose}
use Rattle.waivers.specs.declared.waiver.Waiver.{Waiver}
use Rattle.waivers.specs.declared.fault.FaultKind.{FaultKind}
use Rattle.waivers.specs.declared.fault.WaiverFault.{WaiverFault}
use Rattle.waivers.specs.declared.fault.WaiverFault.TheVariants.{Bad}
use Rattle.waivers.specs.Reading.{longest_text, reading}
use Rattle.waivers.specs.Texts.{refused_line}
use Rattle.covd_commands.specs.declared.status.Status.{Status}
use Rattle.covd_commands.specs.declared.status.Status.TheVariants as status
use Rattle.covd_commands.proofs.OneEach.{Told, Family, IsOne, AreApart, IsRefused, refused, refused_one, not_refused, either_one}
use Rattle.covd_commands.specs.FromFiles.{Files}
use Rattle.covd_commands.proofs.Unread.{not_loaded}
use Rattle.covd_core.specs.Waived.{HasRead, HasNotRead, NamesWaivers, NoWaivers}

-- the answer where the count of faults is looked at from an earlier time
pub unread_from : (files : Files) (before middle now : ℕ) (file : Option (List ℕ)) (s : Status) (text : List ℕ) → before ≤ middle → NoWaivers files middle now file s text → NoWaivers files before now file s text
unread_from files before middle now None s text le h = absurd h
unread_from files before middle now (Some name) status.WaiversRefused text le h = h
unread_from files before middle now (Some name) other text le h = not_loaded files before middle now name longest_text other text le h

module _ (all : Told) (name : List ℕ) where
  same_read : (v w : List Waiver) → HasRead (Some all) name v → HasRead (Some all) name w → v ≡ w
  same_read v w a b =
      let file = a.file in
      let other = b.file in
      let text : b.text ≡ a.text = cc (file, other) in
      let reads = a.reads in
      let again : reading a.text ≡ Ok w = ap reading (sym text) ∙ b.reads in
      cc (reads, again)

  read_or_fault : (w : List Waiver) (line : List ℕ) → HasRead (Some all) name w → HasNotRead (Some all) name line → ⊥
  read_or_fault w line a b =
      let file = a.file in
      let other = b.file in
      let text : b.text ≡ a.text = cc (file, other) in
      let reads = a.reads in
      let again : reading a.text ≡ Err (Bad b.kind b.at) = ap reading (sym text) ∙ b.fault in
      cc (reads, again)

  abbrev NotRead : Family
  NotRead s text = (s ≡ status.WaiversRefused) × HasNotRead (Some all) name text

  -- kind and place of a fault
  abbrev kind_of : WaiverFault → FaultKind → FaultKind
  kind_of (Bad kind at) other = kind
  kind_of memory other = other

  abbrev at_of : WaiverFault → ℕ
  at_of (Bad kind at) = at
  at_of memory = 0

  line_one : (line other : List ℕ) → HasNotRead (Some all) name line → HasNotRead (Some all) name other → line ≡ other
  line_one line other a b =
      let file = a.file in
      let file' = b.file in
      let text : b.text ≡ a.text = cc (file, file') in
      let fault = a.fault in
      let again : reading a.text ≡ Err (Bad b.kind b.at) = ap reading (sym text) ∙ b.fault in
      let one : Bad a.kind a.at ≡ Bad b.kind b.at = cc (fault, again) in
      let kinds = ap (λ (x : WaiverFault). kind_of x a.kind) one in
      let places = ap at_of one in
      a.says ∙ (λ i. refused_line (kinds i) (places i)) ∙ sym b.says

  not_read_one : IsOne NotRead
  not_read_one s s' text text' a b = (a.0 ∙ sym b.0, line_one text text' a.1 b.1)

  module _ (before now : ℕ) (calm : Rose before now → ⊥) where
    abbrev NotHad : Family
    NotHad s text = IsRefused all name longest_text s text

    split : (s : Status) (text : List ℕ) → NoWaivers (Some all) before now (Some name) s text → NotHad s text ⊎ NotRead s text
    split status.WaiversRefused text h = inr (refl, h)
    split other text h = inl (refused all name before now calm longest_text other text h)

    had_or_not : AreApart NotHad NotRead
    had_or_not s s' text text' a b = not_refused all name longest_text s text b.1.text b.1.file b.1.short a

    had_one : IsOne NotHad
    had_one s s' text text' a b = refused_one all name longest_text s s' text text' a b

    unread_one : (s s' : Status) (text text' : List ℕ) → NoWaivers (Some all) before now (Some name) s text → NoWaivers (Some all) before now (Some name) s' text' → (s ≡ s') × (text ≡ text')
    unread_one s s' text text' a b = either_one NotHad NotRead had_one not_read_one had_or_not s s' text text' (split s text a) (split s' text' b)

    read_or_none : (w : List Waiver) (s : Status) (text : List ℕ) → HasRead (Some all) name w → NoWaivers (Some all) before now (Some name) s text → ⊥
    read_or_none w s text a b = elim (split s text b) [
      | inl x ↦ not_refused all name longest_text s text a.text a.file a.short x
      | inr x ↦ read_or_fault w text a x.1
    ]

module _ (all : Told) (before now : ℕ) (calm : Rose before now → ⊥) where
  pub waivers_one : (file : Option (List ℕ)) (v w : Option (List Waiver)) → NamesWaivers (Some all) file v → NamesWaivers (Some all) file w → v ≡ w
  waivers_one None None None a b = refl
  waivers_one None (Some v) w a b = absurd a
  waivers_one None None (Some w) a b = absurd b
  waivers_one (Some name) None w a b = absurd a
  waivers_one (Some name) (Some v) None a b = absurd b
  waivers_one (Some name) (Some v) (Some w) a b = ap Some (same_read all name v w a b)

  pub no_waivers_one : (file : Option (List ℕ)) → IsOne (NoWaivers (Some all) before now file)
  no_waivers_one None s s' text text' a b = absurd a
  no_waivers_one (Some name) s s' text text' a b = unread_one all name before now calm s s' text text' a b

  pub waivers_or_none : (file : Option (List ℕ)) (w : Option (List Waiver)) (s : Status) (text : List ℕ) → NamesWaivers (Some all) file w → NoWaivers (Some all) before now file s text → ⊥
  waivers_or_none None w s text a b = b
  waivers_or_none (Some name) None s text a b = a
  waivers_or_none (Some name) (Some w) s text a b = read_or_none all name before now calm w s text a b
