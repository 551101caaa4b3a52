-- What is read as a waiver has its form.
use Rattle.std.proofs.Common.{◌≡◌, ◌∙◌, ℕ, ◌+◌, ◌<◌, List, [], ◌∷◌, ◌++◌, length, take, drop, get_or, Bool, true, false, Result, Ok, Err, refl, sym, ap, subst, append_assoc, arith, ◌⊎◌, inl, inr}
use Rattle.std.specs.Prelude.{◌&&◌, ◌==◌, IsTrue, codes, nat_lt, if◌then◌else◌}
use Rattle.std.specs.List.{position_or_len}
use Rattle.std.proofs.lemmas.Bool.{and_parts, both_ways, eqb-true, ne_eqb, ltb-true}
use Rattle.std.proofs.lemmas.List.{append-nil, length-append}
use Rattle.std.proofs.lemmas.List.Sums.{split_at_first, passes_at_first}
use Rattle.waivers.specs.declared.waiver.Waiver.{Waiver}
use Rattle.waivers.specs.declared.fault.LineFault.{LineFault}
use Rattle.waivers.specs.declared.fault.LineFault.TheVariants as line
use Rattle.waivers.specs.declared.fault.FaultKind.TheVariants.{Extra}
use Rattle.waivers.specs.Patterns.{IsMatch, is_match, parts}
use Rattle.waivers.specs.Lines.{is_blank, is_quote, is_pattern, matches_root, is_reason, reason_in, behind_reason, begins_reason, is_parted, is_name, is_date, has_date_form, skip, word, behind, is, at_end, at_on, at_by, at_reason, at_pattern, at_waive}
use Rattle.waivers.specs.Forms.{are_blanks, IsGap, IsOptional, IsWaiver}
use Rattle.waivers.proofs.Meaning.{fits_back}
use Rattle.waivers.proofs.Runs.{Ends, IsFirstWord, word_split, skip_split, skip_ends, equal_bytes}
use Rattle.waivers.proofs.Runs as runs

-- ---- tests on the way to a value

pub either_ok : {A E : Type 0} (b : Bool) (x y : Result A E) (value : A) → (if b then x else y) ≡ Ok value → ((b ≡ true) × (x ≡ Ok value)) ⊎ ((b ≡ false) × (y ≡ Ok value))
either_ok true x y value e = inl (refl, e)
either_ok false x y value e = inr (refl, e)

pub guard_ok : {A E : Type 0} (b : Bool) (x : Result A E) (told : E) (value : A) → (if b then x else Err told) ≡ Ok value → (b ≡ true) × (x ≡ Ok value)
guard_ok true x told value e = (refl, e)
guard_ok false x told value e = absurd cc

pub guard_not : {A E : Type 0} (b : Bool) (x : Result A E) (told : E) (value : A) → (if b then Err told else x) ≡ Ok value → (b ≡ false) × (x ≡ Ok value)
guard_not true x told value e = absurd cc
guard_not false x told value e = (refl, e)

no_bytes : (bytes : List ℕ) → length bytes ≡ 0 → bytes ≡ []
no_bytes [] e = refl
no_bytes (byte ∷ bytes) e = absurd (omega (arith, e))

abbrev ok_of : Waiver → Result Waiver LineFault
ok_of waiver = Ok waiver

same_value : (made waiver : Waiver) → ok_of made ≡ ok_of waiver → waiver ≡ made
same_value made waiver e = cc

pub some_name : (given : List ℕ) → is_name given ≡ true → 0 < length given
unfolding is_name
some_name given e = ltb-true 0 (length given) (and_parts (nat_lt 0 (length given)) _ e).0

pub date_long : (given : List ℕ) → is_date given ≡ true → length given ≡ 10
unfolding is_date
date_long given e = eqb-true (length given) 10 (and_parts (length given == 10) _ (and_parts (length given == 10 && has_date_form given) _ e).0).0

-- ---- a word and what is given behind it

pub record IsSaidFirst (key : List ℕ) (test : List ℕ → Bool) (given text rest : List ℕ) : Type 0 where
  pub part : List ℕ
  pub gap : List ℕ
  pub spelled : text ≡ part ++ (gap ++ rest)
  pub given_so : IsOptional key test given part
  pub blank : IsTrue (are_blanks gap)
  pub parted : 0 < length rest → 0 < length gap

not_given : (key : List ℕ) (test : List ℕ → Bool) (gap rest : List ℕ) → IsTrue (are_blanks gap) → (0 < length rest → 0 < length gap) → IsSaidFirst key test [] (gap ++ rest) rest
not_given key test gap rest blank parted = record { part = []; gap = gap; spelled = refl; given_so = inl (refl, refl); blank = blank; parted = parted }

regrouped : (a b c d e : List ℕ) → a ++ (b ++ (c ++ (d ++ e))) ≡ (a ++ (b ++ (c ++ d))) ++ e
regrouped a b c d e = sym (append_assoc a (b ++ (c ++ d)) e ∙ ap (λ (l : List ℕ). a ++ l) (append_assoc b (c ++ d) e ∙ ap (λ (l : List ℕ). b ++ l) (append_assoc c d e)))

longer : (first rest bytes : List ℕ) → bytes ≡ first ++ rest → 0 < length first → 0 < length bytes
longer first rest bytes same some = omega (arith, some, ap length same, length-append first rest)

is_given : (key : List ℕ) (test : List ℕ → Bool) (gap rest : List ℕ) → IsTrue (are_blanks gap) → (0 < length rest → 0 < length gap)
    → 0 < length key → 0 < length (word (behind rest)) → is (word rest) key ≡ true → test (word (behind rest)) ≡ true
    → IsSaidFirst key test (word (behind rest)) (gap ++ rest) (behind (behind rest))
is_given key test gap rest blank parted some given e ok =
    let here = word_split rest in
    let next = word_split (behind rest) in
    let first : word rest ≡ key = equal_bytes (word rest) key e in
    let same : rest ≡ key ++ (here.gap ++ behind rest) = here.spelled ∙ ap (λ (l : List ℕ). l ++ (here.gap ++ behind rest)) first in
    record {
      part = gap ++ (key ++ (here.gap ++ word (behind rest)));
      gap = next.gap;
      spelled = ap (λ (l : List ℕ). gap ++ l) (same ∙ ap (λ (l : List ℕ). key ++ (here.gap ++ l)) next.spelled)
          ∙ regrouped gap key here.gap (word (behind rest)) (next.gap ++ behind (behind rest));
      given_so = inr (
        ok,
        record {
          gap = gap;
          later_gap = here.gap;
          spelled = refl;
          parted = (parted (longer key (here.gap ++ behind rest) rest same some), blank);
          later_parted = (here.parted (longer (word (behind rest)) (next.gap ++ behind (behind rest)) (behind rest) next.spelled given), here.blank);
        },
      );
      blank = next.blank;
      parted = next.parted;
    }

-- ---- the parts of a line, from its end

pub record IsOnSaid (pattern reason by text : List ℕ) (waiver : Waiver) : Type 0 where
  pub on : List ℕ
  pub on_part : List ℕ
  pub trailing : List ℕ
  pub made : waiver ≡ record { pattern = pattern; reason = reason; by = by; on = on }
  pub spelled : text ≡ on_part ++ trailing
  pub given_so : IsOptional (codes "on") is_date on on_part
  pub blank : IsTrue (are_blanks trailing)

ends_so : (pattern reason by on text rest : List ℕ) (waiver : Waiver) → IsSaidFirst (codes "on") is_date on text rest
    → at_end (record { pattern = pattern; reason = reason; by = by; on = on }) rest ≡ Ok waiver → IsOnSaid pattern reason by text waiver
unfolding at_end
ends_so pattern reason by on text rest waiver h e =
    let made : Waiver = record { pattern = pattern; reason = reason; by = by; on = on } in
    let both = guard_ok (length rest == 0) (Ok made) (line.Bad Extra (length rest)) waiver e in
    let none = no_bytes rest (eqb-true (length rest) 0 both.0) in
    record {
      on = on;
      on_part = h.part;
      trailing = h.gap;
      made = same_value made waiver both.1;
      spelled = h.spelled ∙ ap (λ (l : List ℕ). h.part ++ (h.gap ++ l)) none ∙ ap (λ (l : List ℕ). h.part ++ l) (append-nil h.gap);
      given_so = h.given_so;
      blank = h.blank;
    }

on_said : (pattern reason by gap rest : List ℕ) (waiver : Waiver) → IsTrue (are_blanks gap) → (0 < length rest → 0 < length gap)
    → at_on pattern reason by rest ≡ Ok waiver → IsOnSaid pattern reason by (gap ++ rest) waiver
unfolding at_on
on_said pattern reason by gap rest waiver blank parted e =
    elim (either_ok (is (word rest) (codes "on")) _ _ waiver e) [
      | inl h ↦
          let both = guard_ok (is_date (word (behind rest))) _ _ waiver h.1 in
          let given : 0 < length (word (behind rest)) = omega (arith, date_long (word (behind rest)) both.0) in
          ends_so pattern reason by (word (behind rest)) (gap ++ rest) (behind (behind rest)) waiver (is_given (codes "on") is_date gap rest blank parted (omega arith) given h.0 both.0) both.1
      | inr h ↦ ends_so pattern reason by [] (gap ++ rest) rest waiver (not_given (codes "on") is_date gap rest blank parted) h.1
    ]

pub record IsBySaid (pattern reason text : List ℕ) (waiver : Waiver) : Type 0 where
  pub by : List ℕ
  pub by_part : List ℕ
  pub later : List ℕ
  pub spelled : text ≡ by_part ++ later
  pub given_so : IsOptional (codes "by") is_name by by_part
  pub on_said : IsOnSaid pattern reason by later waiver

by_said : (pattern reason gap rest : List ℕ) (waiver : Waiver) → IsTrue (are_blanks gap) → (0 < length rest → 0 < length gap)
    → at_by pattern reason rest ≡ Ok waiver → IsBySaid pattern reason (gap ++ rest) waiver
unfolding at_by
by_said pattern reason gap rest waiver blank parted e =
    elim (either_ok (is (word rest) (codes "by")) _ _ waiver e) [
      | inl h ↦
          let both = guard_ok (is_name (word (behind rest))) _ _ waiver h.1 in
          let so = is_given (codes "by") is_name gap rest blank parted (omega arith) (some_name (word (behind rest)) both.0) h.0 both.0 in
          record {
            by = word (behind rest);
            by_part = so.part;
            later = so.gap ++ behind (behind rest);
            spelled = so.spelled;
            given_so = so.given_so;
            on_said = on_said pattern reason (word (behind rest)) so.gap (behind (behind rest)) waiver so.blank so.parted both.1;
          }
      | inr h ↦ record {
        by = [];
        by_part = [];
        later = gap ++ rest;
        spelled = refl;
        given_so = inl (refl, refl);
        on_said = on_said pattern reason [] gap rest waiver blank parted h.1;
      }
    ]

-- ---- the reason

pub reason_said : (rest : List ℕ) → begins_reason rest ≡ true → (rest ≡ 34 ∷ (reason_in rest ++ (34 ∷ behind_reason rest))) × IsTrue (is_reason (reason_in rest))
unfolding begins_reason reason_in behind_reason
reason_said [] e = absurd cc
reason_said (byte ∷ body) e =
    let both = and_parts (is_quote byte) _ e in
    let later = and_parts (nat_lt (position_or_len is_quote body) (length body)) _ both.1 in
    let lt = ltb-true (position_or_len is_quote body) (length body) later.0 in
    let quote = eqb-true (get_or body (position_or_len is_quote body) 0) 34 (passes_at_first is_quote body 0 lt) in
    let end = drop (position_or_len is_quote body + 1) body in (
      ap (λ (b : ℕ). b ∷ body) (eqb-true byte 34 both.0)
          ∙ ap (λ (l : List ℕ). 34 ∷ l) (split_at_first is_quote body 0 lt ∙ ap (λ (b : ℕ). take (position_or_len is_quote body) body ++ (b ∷ end)) quote),
      later.1,
    )

parted_ends : (rest : List ℕ) → is_parted rest ≡ true → Ends is_blank rest
unfolding is_parted
parted_ends [] e = tt
parted_ends (byte ∷ rest) e = let some : (length (byte ∷ rest) == 0) ≡ false = ne_eqb (length (byte ∷ rest)) 0 (λ none. omega (arith, none)) in rw some at e

pub record IsReasonSaid (pattern text : List ℕ) (waiver : Waiver) : Type 0 where
  pub reason : List ℕ
  pub later : List ℕ
  pub spelled : text ≡ 34 ∷ (reason ++ (34 ∷ later))
  pub allowed : IsTrue (is_reason reason)
  pub by_said : IsBySaid pattern reason later waiver

at_reason_said : (pattern rest : List ℕ) (waiver : Waiver) → at_reason pattern rest ≡ Ok waiver → IsReasonSaid pattern rest waiver
unfolding at_reason
at_reason_said pattern rest waiver e =
    let first = guard_ok (begins_reason rest) _ _ waiver e in
    let second = guard_ok (is_parted (behind_reason rest)) _ _ waiver first.1 in
    let said = reason_said rest first.0 in
    let later = behind_reason rest in
    let h = skip_split later in
    let by_said_so = by_said pattern (reason_in rest) h.0 (skip later) waiver h.2 (runs.is_parted h.0 later (skip later) h.1 (parted_ends later second.0) (skip_ends later)) second.1 in
    record {
      reason = reason_in rest;
      later = later;
      spelled = said.0;
      allowed = said.1;
      by_said = subst (λ (l : List ℕ). IsBySaid pattern (reason_in rest) l waiver) (sym h.1) by_said_so;
    }

-- ---- the whole

root_not : (pattern : List ℕ) → matches_root pattern ≡ false → IsMatch pattern [] → ⊥
unfolding matches_root
root_not pattern e h = both_ways (is_match pattern []) e (fits_back (parts pattern) [] h)

pub some_pattern : (pattern : List ℕ) → is_pattern pattern ≡ true → 0 < length pattern
unfolding is_pattern
some_pattern pattern e = ltb-true 0 (length pattern) (and_parts (nat_lt 0 (length pattern)) _ e).0

pub record IsPatternSaid (text : List ℕ) (waiver : Waiver) : Type 0 where
  pub pattern : List ℕ
  pub gap : List ℕ
  pub later : List ℕ
  pub spelled : text ≡ pattern ++ (gap ++ later)
  pub parted : IsGap gap
  pub allowed : IsTrue (is_pattern pattern)
  pub not_all : IsMatch pattern [] → ⊥
  pub reason_said : IsReasonSaid pattern later waiver

quoted_some : (text rest : List ℕ) → text ≡ 34 ∷ rest → 0 < length text
quoted_some text rest e = omega (arith, ap length e)

at_pattern_said : (rest : List ℕ) (waiver : Waiver) → at_pattern rest ≡ Ok waiver → IsPatternSaid rest waiver
unfolding at_pattern
at_pattern_said rest waiver e =
    let first = guard_ok (is_pattern (word rest)) _ _ waiver e in
    let second = guard_not (matches_root (word rest)) _ _ waiver first.1 in
    let here = word_split rest in
    let said = at_reason_said (word rest) (behind rest) waiver second.1 in
    record {
      pattern = word rest;
      gap = here.gap;
      later = behind rest;
      spelled = here.spelled;
      parted = (here.parted (quoted_some (behind rest) _ said.spelled), here.blank);
      allowed = first.0;
      not_all = root_not (word rest) second.0;
      reason_said = said;
    }

pub waiver_said : (line : List ℕ) (waiver : Waiver) → at_waive (skip line) ≡ Ok waiver → IsWaiver line waiver
unfolding at_waive
waiver_said line waiver e =
    let rest = skip line in
    let first = guard_ok (is (word rest) (codes "waive")) _ _ waiver e in
    let indent = skip_split line in
    let here = word_split rest in
    let p = at_pattern_said (behind rest) waiver first.1 in
    let r = p.reason_said in
    let b = r.by_said in
    let o = b.on_said in
    let key : word rest ≡ codes "waive" = equal_bytes (word rest) (codes "waive") first.0 in
    let made = o.made in
    rw made (record {
      indent = indent.0;
      gap = here.gap;
      later_gap = p.gap;
      by_part = b.by_part;
      on_part = o.on_part;
      trailing = o.trailing;
      spelled = indent.1 ∙ ap (λ (l : List ℕ). indent.0 ++ l) (here.spelled
          ∙ ap (λ (l : List ℕ). l ++ (here.gap ++ behind rest)) key
          ∙ ap (λ (l : List ℕ). codes "waive" ++ (here.gap ++ l)) (p.spelled
          ∙ ap (λ (l : List ℕ). p.pattern ++ (p.gap ++ l)) (r.spelled
          ∙ ap (λ (l : List ℕ). 34 ∷ (r.reason ++ (34 ∷ l))) (b.spelled ∙ ap (λ (l : List ℕ). b.by_part ++ l) o.spelled))));
      indented = indent.2;
      parted = (here.parted (longer p.pattern (p.gap ++ p.later) (behind rest) p.spelled (some_pattern p.pattern p.allowed)), here.blank);
      later_parted = p.parted;
      trailed = o.blank;
      pattern_allowed = p.allowed;
      not_all = p.not_all;
      reason_allowed = r.allowed;
      name_given = b.given_so;
      date_given = o.given_so;
    })
