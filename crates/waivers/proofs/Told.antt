-- What lines and texts are read as, and what they say.
use Rattle.std.proofs.Common.{◌≡◌, ◌∙◌, ℕ, ◌+◌, ◌<◌, ◌≤◌, List, [], ◌∷◌, ◌++◌, length, map, true, false, Result, Ok, Err, Option, Some, None, refl, sym, ap, subst, append_assoc, arith, ◌⊎◌, inl, inr}
use Rattle.std.specs.Prelude.{◌==◌, codes, nat_lt}
use Rattle.std.specs.List.{slice_split}
use Rattle.std.proofs.lemmas.Bool.{eqb-true, ne_eqb, or_right, ltb-true, ltb-false, lt-ltb, le-ltb}
use Rattle.std.proofs.lemmas.List.{append-nil, length-append}
use Rattle.waivers.specs.declared.waiver.Waiver.{Waiver}
use Rattle.waivers.specs.declared.fault.FaultKind.TheVariants.{TooMany}
use Rattle.waivers.specs.declared.fault.LineFault.{LineFault}
use Rattle.waivers.specs.declared.fault.LineFault.TheVariants as line
use Rattle.waivers.specs.declared.fault.WaiverFault.{WaiverFault}
use Rattle.waivers.specs.declared.fault.WaiverFault.TheVariants.{Bad}
use Rattle.waivers.specs.Lines.{skip, at_waive, is_idle}
use Rattle.waivers.specs.Reading.{longest_text, longest_line, most_waivers, ◌>>=◌, told, without_return, read_line, added, with_line, with_lines, is_newline, reading}
use Rattle.waivers.specs.Forms.{IsWaiver, IsPassedOver, AreWaivers, HasWaivers, LinesSayWaivers, LinesSayNothing, TextsSayWaivers}
use Rattle.waivers.proofs.Runs.{skip_split, skip_at}
use Rattle.waivers.proofs.Said.{either_ok, guard_ok, guard_not, waiver_said}
use Rattle.waivers.proofs.Heard.{skip_none, line_begins, waiver_heard}

-- ---- one line

told_some : (end : ℕ) (read : Result Waiver LineFault) (waiver : Waiver) → told end read ≡ Ok (Some waiver) → read ≡ Ok waiver
unfolding told
told_some end (Ok made) waiver e = cc
told_some end (Err (line.Bad kind left)) waiver e = absurd cc
told_some end (Err line.Memory) waiver e = absurd cc

told_none : (end : ℕ) (read : Result Waiver LineFault) → told end read ≡ Ok None → ⊥
unfolding told
told_none end (Ok made) e = absurd cc
told_none end (Err (line.Bad kind left)) e = absurd cc
told_none end (Err line.Memory) e = absurd cc

line_some : (at : ℕ) (line : List ℕ) (waiver : Waiver) → read_line at line ≡ Ok (Some waiver) → at_waive (skip line) ≡ Ok waiver
unfolding read_line
line_some at line waiver e =
    let short = guard_not (nat_lt longest_line (length line)) _ _ (Some waiver) e in
    elim (either_ok (is_idle (skip line)) _ _ (Some waiver) short.1) [
      | inl h ↦ absurd cc
      | inr h ↦ told_some (at + length line) (at_waive (skip line)) waiver h.1
    ]

line_within : (at : ℕ) (line : List ℕ) (found : Option Waiver) → read_line at line ≡ Ok found → length line ≤ longest_line
unfolding read_line
line_within at line found e = ltb-false longest_line (length line) (guard_not (nat_lt longest_line (length line)) _ _ found e).0

not_idle : (rest : List ℕ) → is_idle (codes "waive" ++ rest) ≡ false
unfolding is_idle
not_idle rest = let some : (length (codes "waive" ++ rest) == 0) ≡ false = ne_eqb (length (codes "waive" ++ rest)) 0 (λ none. omega (arith, none)) in rw some refl

some_line : (at : ℕ) (line : List ℕ) (waiver : Waiver) → length line ≤ longest_line → is_idle (skip line) ≡ false → at_waive (skip line) ≡ Ok waiver → read_line at line ≡ Ok (Some waiver)
unfolding read_line told
some_line at line waiver within busy e = let short : nat_lt longest_line (length line) ≡ false = le-ltb longest_line (length line) within in rw (short, busy, e) refl

pub says_waiver : (at : ℕ) (line : List ℕ) (waiver : Waiver) → IsWaiver line waiver → length line ≤ longest_line → read_line at line ≡ Ok (Some waiver)
says_waiver at line waiver h within = some_line at line waiver within (ap is_idle (line_begins line waiver h) ∙ not_idle _) (waiver_heard line waiver h)

pub lines_say_waivers : LinesSayWaivers
lines_say_waivers at line waiver within = (λ e. waiver_said line waiver (line_some at line waiver e), λ h. says_waiver at line waiver h within)

-- ---- a line that is passed over

idle_is : (rest : List ℕ) → is_idle rest ≡ true → (rest ≡ []) ⊎ ((text : List ℕ) × (rest ≡ 35 ∷ text))
unfolding is_idle
idle_is [] e = inl refl
idle_is (byte ∷ rest) e =
    let some : (length (byte ∷ rest) == 0) ≡ false = ne_eqb (length (byte ∷ rest)) 0 (λ none. omega (arith, none)) in
    inr (rest, ap (λ (b : ℕ). b ∷ rest) (eqb-true byte 35 (rw some at e)))

idle_none : is_idle [] ≡ true
unfolding is_idle
idle_none = refl

idle_comment : (text : List ℕ) → is_idle (35 ∷ text) ≡ true
unfolding is_idle
idle_comment text = or_right (length (35 ∷ text) == 0) true refl

says_nothing : (at : ℕ) (line : List ℕ) → read_line at line ≡ Ok None → IsPassedOver line
unfolding read_line
says_nothing at line e =
    let short = guard_not (nat_lt longest_line (length line)) _ _ None e in
    elim (either_ok (is_idle (skip line)) _ _ None short.1) [
      | inl h ↦
          let split = skip_split line in
          record { indent = split.0; rest = skip line; spelled = split.1; indented = split.2; comment = idle_is (skip line) h.0 }
      | inr h ↦ absurd (told_none (at + length line) (at_waive (skip line)) h.1)
    ]

no_line : (at : ℕ) (line : List ℕ) → length line ≤ longest_line → is_idle (skip line) ≡ true → read_line at line ≡ Ok None
unfolding read_line
no_line at line within idle = let short : nat_lt longest_line (length line) ≡ false = le-ltb longest_line (length line) within in rw (short, idle) refl

passed_idle : (line : List ℕ) → IsPassedOver line → is_idle (skip line) ≡ true
passed_idle line h = elim h.comment [
  | inl none ↦ ap (λ (l : List ℕ). is_idle (skip l)) (h.spelled ∙ ap (λ (l : List ℕ). h.indent ++ l) none ∙ append-nil h.indent) ∙ ap is_idle (skip_none h.indent h.indented) ∙ idle_none
  | inr some ↦ ap (λ (l : List ℕ). is_idle (skip l)) (h.spelled ∙ ap (λ (l : List ℕ). h.indent ++ l) some.1) ∙ ap is_idle (skip_at h.indent (35 ∷ some.0) h.indented refl) ∙ idle_comment some.0
]

pub lines_say_nothing : LinesSayNothing
lines_say_nothing at line within = (λ e. says_nothing at line e, λ h. no_line at line within (passed_idle line h))

-- ---- all lines

bind_ok : {A B : Type 0} (r : Result A WaiverFault) (f : A → Result B WaiverFault) (value : B) → (r >>= f) ≡ Ok value → (found : A) × (r ≡ Ok found) × (f found ≡ Ok value)
bind_ok (Ok found) f value e = (found, refl, e)
bind_ok (Err fault) f value e = absurd cc

pub record AreSaid (before all : List Waiver) (lines : List (List ℕ)) : Type 0 where
  pub waivers : List Waiver
  pub spelled : all ≡ before ++ waivers
  pub few : length all ≤ most_waivers
  pub said : AreWaivers (map without_return lines) waivers

said_step : (at : ℕ) (before more all : List Waiver) (line : List ℕ) (lines : List (List ℕ)) (found : Option Waiver)
    → length before ≤ most_waivers → read_line at (without_return line) ≡ Ok found → added at before found ≡ Ok more
    → (length more ≤ most_waivers → AreSaid more all lines) → AreSaid before all (line ∷ lines)
unfolding added
said_step at before more all line lines None few e made later =
    let same : more ≡ before = cc in
    let h = subst (λ (l : List Waiver). AreSaid l all lines) same (later (subst (λ (l : List Waiver). length l ≤ most_waivers) (sym same) few)) in
    record {
      waivers = h.waivers;
      spelled = h.spelled;
      few = h.few;
      said = (line_within at (without_return line) None e, inl (says_nothing at (without_return line) e, h.said));
    }
said_step at before more all line lines (Some waiver) few e made later =
    let both = guard_ok (nat_lt (length before) most_waivers) (Ok (before ++ waiver ∷ [])) (Bad TooMany at) more made in
    let same : more ≡ before ++ waiver ∷ [] = cc in
    let room : length more ≤ most_waivers =
    omega (arith, ltb-true (length before) most_waivers both.0, ap length same, length-append before (waiver ∷ [])) in
    let h = later room in
    record {
      waivers = waiver ∷ h.waivers;
      spelled = h.spelled ∙ ap (λ (l : List Waiver). l ++ h.waivers) same ∙ append_assoc before (waiver ∷ []) h.waivers;
      few = h.few;
      said = (
        line_within at (without_return line) (Some waiver) e,
        inr (waiver, h.waivers, refl, waiver_said (without_return line) waiver (line_some at (without_return line) waiver e), h.said),
      );
    }

line_steps : (at : ℕ) (before more : List Waiver) (line : List ℕ) → with_line at before line ≡ Ok more
    → (found : Option Waiver) × (read_line at (without_return line) ≡ Ok found) × (added at before found ≡ Ok more)
unfolding with_line
line_steps at before more line e = bind_ok (read_line at (without_return line)) (added at before) more e

lines_said : (lines : List (List ℕ)) (at : ℕ) (before all : List Waiver) → length before ≤ most_waivers → with_lines at before lines ≡ Ok all → AreSaid before all lines
lines_said [] at before all few e =
    let same : all ≡ before = cc in
    record { waivers = []; spelled = same ∙ sym (append-nil before); few = subst (λ (l : List Waiver). length l ≤ most_waivers) (sym same) few; said = refl }
lines_said (line ∷ lines) at before all few e =
    let h = bind_ok (with_line at before line) (λ more. with_lines (at + length line + 1) more lines) all e in
    let one = line_steps at before h.0 line h.1 in
    said_step at before h.0 all line lines one.0 few one.1 one.2 (λ room. lines_said lines (at + length line + 1) h.0 all room h.2)

with_none : (at : ℕ) (before : List Waiver) (line : List ℕ) → read_line at (without_return line) ≡ Ok None → with_line at before line ≡ Ok before
unfolding with_line added
with_none at before line e = rw e refl

with_some : (at : ℕ) (before : List Waiver) (line : List ℕ) (waiver : Waiver) → read_line at (without_return line) ≡ Ok (Some waiver) → length before < most_waivers → with_line at before line ≡ Ok (before ++ waiver ∷ [])
unfolding with_line added
with_some at before line waiver e lt = let room : nat_lt (length before) most_waivers ≡ true = lt-ltb (length before) most_waivers lt in rw (e, room) refl

lines_heard : (lines : List (List ℕ)) (at : ℕ) (before waivers : List Waiver) → length (before ++ waivers) ≤ most_waivers → AreWaivers (map without_return lines) waivers
    → with_lines at before lines ≡ Ok (before ++ waivers)
lines_heard [] at before waivers few h = ap Ok (sym (append-nil before) ∙ ap (λ (l : List Waiver). before ++ l) (sym h))
lines_heard (line ∷ lines) at before waivers few h = elim h.1 [
  | inl passed ↦
      let e = no_line at (without_return line) h.0 (passed_idle (without_return line) passed.0) in
      let one = with_none at before line e in
      rw one (lines_heard lines (at + length line + 1) before waivers few passed.1)
  | inr (waiver, more, same, is, later) ↦
      let e = says_waiver at (without_return line) waiver is h.0 in
      let long : length before < most_waivers = omega (arith, few, length-append before waivers, ap length same) in
      let one = with_some at before line waiver e long in
      let grouped : before ++ waivers ≡ (before ++ waiver ∷ []) ++ more = ap (λ (l : List Waiver). before ++ l) same ∙ sym (append_assoc before (waiver ∷ []) more) in
      rw (one, grouped) (lines_heard lines (at + length line + 1) (before ++ waiver ∷ []) more (subst (λ (l : List Waiver). length l ≤ most_waivers) grouped few) later)
]

text_said : (text : List ℕ) (waivers : List Waiver) → reading text ≡ Ok waivers → HasWaivers text waivers
unfolding reading
text_said text waivers e =
    let short = guard_not (nat_lt longest_text (length text)) _ _ waivers e in
    let h = lines_said (slice_split is_newline text) 0 [] waivers (omega arith) short.1 in
    record {
      within = ltb-false longest_text (length text) short.0;
      few = h.few;
      lines = subst (λ (l : List Waiver). AreWaivers (map without_return (slice_split is_newline text)) l) (sym h.spelled) h.said;
    }

text_heard : (text : List ℕ) (waivers : List Waiver) → HasWaivers text waivers → reading text ≡ Ok waivers
unfolding reading
text_heard text waivers h =
    let short : nat_lt longest_text (length text) ≡ false = le-ltb longest_text (length text) h.within in
    rw short (lines_heard (slice_split is_newline text) 0 [] waivers h.few h.lines)

pub texts_say_waivers : TextsSayWaivers
texts_say_waivers text waivers = (λ e. text_said text waivers e, λ h. text_heard text waivers h)
