-- The admission of a record by caller 0 to a store that no entry has changed.
use Rattle.std.proofs.Common.{◌≡◌, ℕ, List, [], ◌∷◌, ◌++◌, length, take, Bool, true, false, Option, Some, None, Ok, Err, inl, inr, refl, sym, ap, ◌∙◌, arith}
use Rattle.std.specs.Prelude.{if◌then◌else◌}
use Rattle.std.proofs.lemmas.List.{take_all, append-nil}
use Rattle.design_data.specs.declared.design.Design.{Design}
use Rattle.record_codec.specs.declared.record.Record.{Record}
use Rattle.ucis_model.specs.declared.answers.Answer.{Answer}
use Rattle.ucis_model.specs.declared.answers.Answer.TheVariants as answers
use Rattle.cov_history.specs.declared.entry.Entry.{Entry}
use Rattle.cov_history.specs.declared.asks.Ask.TheVariants as ask
use Rattle.cov_history.specs.Tables.{fits}
use Rattle.cov_history.specs.History.{design_of, design_after}
use Rattle.cov_history.specs.Answers.{admit_at, is_made, Suits}
use Rattle.merge_store.specs.declared.store.Store.{Store}
use Rattle.merge_store.specs.Admitted.{Admitted}
use Rattle.merge_store.specs.Admitted.TheVariants as admits
use Rattle.merge_store.specs.AdmitFault.{AdmitFault}
use Rattle.merge_store.specs.AdmitFault.TheVariants as faults
use Rattle.merge_store.specs.Stores.{opening_of, entries_of}
use Rattle.merge_store.specs.Told.{Makes, refused, taken_in}
use Rattle.covd_commands.specs.declared.stop.Stop.{Stop}
use Rattle.covd_commands.specs.declared.stop.Stop.TheVariants.{Memory, Refused}
use Rattle.covd_filling.specs.Admission.{entry_for, admission, behind}
use Rattle.covd_commands.specs.Unadmitted.{refusal_line}
use Rattle.covd_filling.specs.Steps.{IsPlain, IsRefusal, Admits}

-- ---- the design stays

design_append : (d : Design) (h es : List Entry) → design_of d (h ++ es) ≡ design_of (design_of d h) es
design_append d [] es = refl
design_append d (e ∷ h) es = design_append (design_after d e.event) h es

design_stays : (d : Design) (r : Record) (b : Bool) → design_of d (if b then entry_for r ∷ [] else []) ≡ d
design_stays d r true = refl
design_stays d r false = refl

design_behind : (d : Design) (h : List Entry) (r : Record) → design_of d h ≡ d → design_of d (behind d h r) ≡ d
design_behind d h r same =
    let b = is_made (admission d h r) in
    design_append d h (if b then entry_for r ∷ [] else []) ∙ (ap (λ (x : Design). design_of x (if b then entry_for r ∷ [] else [])) same ∙ design_stays d r b)

pub plain_more : (d : Design) (s t : Store) (r : Record) → IsPlain d s → opening_of t ≡ opening_of s → entries_of t ≡ behind d (entries_of s) r → IsPlain d t
plain_more d s t r plain o e = record { opening = o ∙ plain.opening; same = ap (design_of d) e ∙ design_behind d (entries_of s) r plain.same }

pub same_plain : (d : Design) (s t : Store) → IsPlain d s → opening_of t ≡ opening_of s → entries_of t ≡ entries_of s → IsPlain d t
same_plain d s t plain o e = record { opening = o ∙ plain.opening; same = ap (design_of d) e ∙ plain.same }

-- ---- what the store asks

module _ (d : Design) (s : Store) (plain : IsPlain d s) (since : ℕ) (now : since ≡ length (entries_of s)) where
  pub under_now : design_of (opening_of s) (take since (entries_of s)) ≡ d
  under_now =
      let all : take since (entries_of s) ≡ entries_of s = take_all since (entries_of s) (omega (arith, now)) in
      ap (design_of (opening_of s)) all ∙ (ap (λ (o : Design). design_of o (entries_of s)) plain.opening ∙ plain.same)

  pub suits_now : (r : Record) → fits d r ≡ true → Suits (opening_of s) (entries_of s) (ask.Admit since r)
  suits_now r f = (omega (arith, now), ap (λ (x : Design). fits x r) under_now ∙ f)

  pub expected_is : (r : Record) → admit_at (opening_of s) (entries_of s) since (entry_for r) r ≡ admission d (entries_of s) r
  expected_is r = λ i. admit_at (plain.opening i) (entries_of s) (now i) (entry_for r) r

-- ---- what the store answers

module _ (k : ℕ) (h after : List Entry) (e : Entry) (expected : Answer) where
  line_free : (a : Admitted) → refusal_line k (taken_in a) ≡ None
  line_free (admits.New point) = refl
  line_free (admits.Here point) = refl

  no_want : (a : Admitted) → taken_in a ≡ answers.Memory → ⊥
  no_want (admits.New point) x = absurd (cc x)
  no_want (admits.Here point) x = absurd (cc x)

  pub free : (a : Admitted) → Makes h e expected (taken_in a) after → refusal_line k expected ≡ None
  free a m = elim m [ inl g ↦ ap (refusal_line k) (sym g.answer) ∙ line_free a | inr w ↦ absurd (no_want a w.answer) ]

  pub entries : (a : Admitted) → Makes h e expected (taken_in a) after → after ≡ h ++ (if is_made expected then e ∷ [] else [])
  entries a m = elim m [ inl g ↦ g.entries ∙ ap (λ (x : Answer). h ++ (if is_made x then e ∷ [] else [])) g.answer | inr w ↦ absurd (no_want a w.answer) ]

  none_some : (text : List ℕ) → ◌≡◌ {A = Option (List ℕ)} None (Some text) → ⊥
  none_some text x = absurd (cc x)

  pub line : (f : AdmitFault) (text : List ℕ) → Makes h e expected (refused f) after → refusal_line k (refused f) ≡ Some text → refusal_line k expected ≡ Some text
  line f text m l = elim m [ inl g ↦ ap (refusal_line k) (sym g.answer) ∙ l | inr w ↦ absurd (none_some text (sym (ap (refusal_line k) w.answer) ∙ l)) ]

  -- an answer with a line makes no entry
  kept_by : (f : AdmitFault) (text : List ℕ) → refusal_line k (refused f) ≡ Some text → h ++ (if is_made (refused f) then e ∷ [] else []) ≡ h
  kept_by (faults.IdTaken digest) text l = append-nil h
  kept_by (faults.Moved since) text l = append-nil h
  kept_by (faults.Full which have want) text l = append-nil h
  kept_by faults.Memory text l = append-nil h

  pub kept : (f : AdmitFault) (text : List ℕ) → Makes h e expected (refused f) after → refusal_line k (refused f) ≡ Some text → after ≡ h
  kept f text m l = elim m [ inl g ↦ g.entries ∙ kept_by f text l | inr w ↦ w.entries ]

module _ (d : Design) (s t : Store) (plain : IsPlain d s) (since : ℕ) (now : since ≡ length (entries_of s)) (k : ℕ) (r : Record) where
  pub admitted_is : (a : Admitted) → Makes (entries_of s) (entry_for r) (admit_at (opening_of s) (entries_of s) since (entry_for r) r) (taken_in a) (entries_of t) → Admits d k (entries_of s) r (entries_of t) (Ok tt)
  admitted_is a m =
      let x = expected_is d s plain since now r in (
        ap (refusal_line k) (sym x) ∙ free k (entries_of s) (entries_of t) (entry_for r) _ a m,
        entries k (entries_of s) (entries_of t) (entry_for r) _ a m ∙ ap (λ (y : Answer). entries_of s ++ (if is_made y then entry_for r ∷ [] else [])) x,
      )

  pub refused_is : (f : AdmitFault) (stop : Stop) → Makes (entries_of s) (entry_for r) (admit_at (opening_of s) (entries_of s) since (entry_for r) r) (refused f) (entries_of t) → IsRefusal k f stop → Admits d k (entries_of s) r (entries_of t) (Err stop)
  refused_is f (Refused a) m i = (
    ap (refusal_line k) (sym (expected_is d s plain since now r)) ∙ line k (entries_of s) (entries_of t) (entry_for r) _ f a.text.items m i.0,
    i.1,
    kept k (entries_of s) (entries_of t) (entry_for r) _ f a.text.items m i.0,
  )
  refused_is f Memory m i = tt
