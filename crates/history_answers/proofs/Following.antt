-- Admissions one after the other.
use Rattle.std.proofs.Common.{◌≡◌, ◌∙◌, ℕ, ◌+◌, Bool, true, false, not, ◌&&◌, ◌||◌, List, [], ◌∷◌, ◌++◌, length, arith, refl, sym, ap, Option, Some, None, is_some, is_none, true≢false}
use Rattle.std.specs.Prelude.{find, bytes_eq}
use Rattle.std.specs.List.{list_any}
use Rattle.design_data.specs.declared.design.Design.{Design}
use Rattle.record_codec.specs.declared.record.Record.{Record}
use Rattle.ucis_model.specs.declared.answers.Which.{Which}
use Rattle.cov_history.specs.declared.entry.Event.{Event}
use Rattle.cov_history.specs.declared.entry.Event.TheVariants.{Admit, Exclude, Include, Revise, Stop}
use Rattle.cov_history.specs.declared.entry.Entry.{Entry}
use Rattle.cov_history.specs.History.{Test, tests_in, tests_from, kept, has_stop, suits, passed, may_follow}
use Rattle.cov_history.specs.Answers.{by}
use Rattle.cov_history.proofs.Amounting.{passed_is}
use Rattle.cov_history.specs.Amounts.{Amounts, AreAmounts, first_passed}
use Rattle.history_answers.specs.Kept.{admits}

-- a test of the id is kept where an entry admits a record of it
kept_step : (point : ℕ) (change : Event) (es : List Entry) (id : List ℕ) → is_some (find (λ (t : Test). bytes_eq id t.content.id) (tests_from point es)) ≡ list_any (λ (x : Entry). admits id x.event) es
    → is_some (find (λ (t : Test). bytes_eq id t.content.id) (tests_in point change ++ tests_from point es)) ≡ (admits id change || list_any (λ (x : Entry). admits id x.event) es)
kept_step point (Admit r) es id rest = by_bytes (bytes_eq id r.id) refl
  where
    by_bytes : (b : Bool) → bytes_eq id r.id ≡ b → is_some (find (λ (t : Test). bytes_eq id t.content.id) (record { point = point; content = r } ∷ tests_from point es)) ≡ (bytes_eq id r.id || list_any (λ (x : Entry). admits id x.event) es)
    by_bytes true is = cc
    by_bytes false is = cc
kept_step point (Exclude path) es id rest = rest
kept_step point (Include path) es id rest = rest
kept_step point (Revise revision) es id rest = rest
kept_step point Stop es id rest = rest

kept_from_under : (point : ℕ) (h : List Entry) (id : List ℕ) → is_some (find (λ (t : Test). bytes_eq id t.content.id) (tests_from point h)) ≡ list_any (λ (e : Entry). admits id e.event) h
kept_from_under point [] id = refl
kept_from_under point (e ∷ es) id = kept_step (point + 1) e.event es id (kept_from_under (point + 1) es id)

pub kept_under : (h : List Entry) (id : List ℕ) → list_any (λ (e : Entry). admits id e.event) h ≡ is_some (kept h id)
kept_under h id = sym (kept_from_under 0 h id)

pub empty : {X : Type 0} (p : X → Bool) (xs : List X) → length xs ≡ 0 → list_any p xs ≡ false
empty p [] e = refl
empty p (x ∷ xs) e = absurd (omega (arith, e))

last_of : (a b c : Bool) → (a && b) ≡ true → (a && (b && c)) ≡ c
last_of true true c e = refl
last_of true false c e = absurd (true≢false (sym e))
last_of false b c e = absurd (true≢false (sym e))

-- where nothing but a limit stands against a record, it may follow exactly where none is passed
pub may_if : (opening : Design) (h : List Entry) (caller : ℕ) (r : Record) (after : Amounts) → (not (has_stop h) && suits opening h (Admit r)) ≡ true → AreAmounts opening (h ++ by caller (Admit r) ∷ []) after
    → may_follow opening h (by caller (Admit r)) ≡ is_none (first_passed after)
may_if opening h caller r after free are =
    last_of (not (has_stop h)) (suits opening h (Admit r)) (is_none (passed opening (h ++ by caller (Admit r) ∷ []))) free ∙ ap is_none (passed_is opening (h ++ by caller (Admit r) ∷ []) after are)

pub none_of : (o : Option Which) → is_some o ≡ true → is_none o ≡ false
none_of None e = sym e
none_of (Some which) e = refl

pub none_left : (o : Option Which) → is_some o ≡ false → is_none o ≡ true
none_left None e = refl
none_left (Some which) e = sym e
