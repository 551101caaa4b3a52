-- Words and lines, as loops find them.
use Rattle.std.proofs.Common.{◌≡◌, ◌∙◌, ℕ, suc, ◌+◌, ◌-◌, ◌≤◌, ◌<◌, List, [], ◌∷◌, length, take, drop, Bool, true, false, Result, Ok, Err, Option, refl, sym, ap, arith, ◌⊎◌, inl, inr}
use Rattle.std.specs.Prelude.{nat_le, slice_index, not, if◌then◌else◌}
use Rattle.std.specs.List.{position_or_len, slice_split}
use Rattle.std.proofs.lemmas.Bool.{cases_lt, le-leb, lt-leb}
use Rattle.std.proofs.lemmas.List.{drop-drop, take_all, length-drop, length-take}
use Rattle.std.proofs.lemmas.List.Sums.{prefix_len-le-length}
use Rattle.std.proofs.lemmas.List.Splits.{slice_split_first}
use Rattle.waivers.specs.declared.waiver.Waiver.{Waiver}
use Rattle.waivers.specs.declared.fault.WaiverFault.{WaiverFault}
use Rattle.waivers.specs.declared.fault.LineFault.{LineFault}
use Rattle.waivers.specs.declared.fault.LineFault.TheVariants as line
use Rattle.waivers.specs.Lines.{Gives}
use Rattle.waivers.specs.Reading.{told, is_return, without_return, Reads, with_line, with_lines, is_newline}

pub ends_within : (p : ℕ → Bool) (bytes : List ℕ) → position_or_len p bytes ≤ length bytes
ends_within p bytes = prefix_len-le-length (λ x. not (p x)) bytes

-- the lines of a text from one on that begins at this place; none behind the last one
unfoldable pub lines_from : List ℕ → ℕ → List (List ℕ)
lines_from text at = if nat_le at (length text) then slice_split is_newline (drop at text) else []

pub lines_whole : (text : List ℕ) → lines_from text 0 ≡ slice_split is_newline text
unfolding lines_from
lines_whole text = let e : nat_le 0 (length text) ≡ true = le-leb 0 (length text) (omega arith) in rw e refl

pub lines_none : (text : List ℕ) (at : ℕ) → length text < at → lines_from text at ≡ []
unfolding lines_from
lines_none text at lt = let e : nat_le at (length text) ≡ false = lt-leb at (length text) lt in rw e refl

abbrev line_len : List ℕ → ℕ
line_len bytes = position_or_len is_newline bytes

suc_is : (n : ℕ) → 1 + n ≡ suc n
suc_is n = omega arith

-- a text without a newline is one line
whole_line : (bytes : List ℕ) → length bytes ≤ position_or_len is_newline bytes → slice_split is_newline bytes ≡ bytes ∷ []
whole_line [] le = refl
whole_line (byte ∷ bytes) le = by (is_newline byte) refl (whole_line bytes)
  where
    by : (b : Bool) → is_newline byte ≡ b → (length bytes ≤ position_or_len is_newline bytes → slice_split is_newline bytes ≡ bytes ∷ []) → slice_split is_newline (byte ∷ bytes) ≡ (byte ∷ bytes) ∷ []
    by true e later = let h : length (byte ∷ bytes) ≤ 0 = rw e at le in absurd (omega (arith, h))
    by false e later =
        let h : length (byte ∷ bytes) ≤ 1 + position_or_len is_newline bytes = rw e at le in
        rw (e, later (omega (arith, h))) refl

pub lines_at : (text : List ℕ) (at : ℕ) → at ≤ length text
    → lines_from text at ≡ take (position_or_len is_newline (drop at text)) (drop at text) ∷ lines_from text (at + position_or_len is_newline (drop at text) + 1)
unfolding lines_from
lines_at text at le =
    let e : nat_le at (length text) ≡ true = le-leb at (length text) le in
    let n = position_or_len is_newline (drop at text) in
    rw e (by (cases_lt n (length (drop at text))))
  where
    rest : List ℕ
    rest = drop at text

    by : ((position_or_len is_newline rest < length rest) ⊎ (length rest ≤ position_or_len is_newline rest))
        → slice_split is_newline rest ≡ take (position_or_len is_newline rest) rest
        ∷ (if nat_le (at + position_or_len is_newline rest + 1) (length text) then slice_split is_newline (drop (at + position_or_len is_newline rest + 1) text) else [])
    by (inl lt) =
        let f : nat_le (at + position_or_len is_newline rest + 1) (length text) ≡ true = le-leb (at + position_or_len is_newline rest + 1) (length text) (omega (arith, lt, length-drop at text)) in
        let same : drop (position_or_len is_newline rest + 1) rest ≡ drop (at + position_or_len is_newline rest + 1) text = drop-drop (position_or_len is_newline rest + 1) at text ∙ ap (λ k. drop k text) {x = at + (position_or_len is_newline rest + 1)} {y = at + position_or_len is_newline rest + 1} (omega arith) in
        rw f (slice_split_first is_newline rest 0 lt ∙ ap (λ l. take (position_or_len is_newline rest) rest ∷ slice_split is_newline l) same)
    by (inr ge) =
        let f : nat_le (at + position_or_len is_newline rest + 1) (length text) ≡ false = lt-leb (at + position_or_len is_newline rest + 1) (length text) (omega (arith, ge, le, length-drop at text)) in
        rw f (whole_line rest ge ∙ ap (λ l. l ∷ []) (sym (take_all (position_or_len is_newline rest) rest ge)))

-- one line more, a line at fault, and no line more
line_is : (line rest : List ℕ) → line ≡ take (position_or_len is_newline rest) rest → length line ≡ position_or_len is_newline rest
line_is line rest is = ap length is ∙ omega (arith, length-take (position_or_len is_newline rest) rest, ends_within is_newline rest)

split_line : (text line : List ℕ) (at next : ℕ) (before : List Waiver) → at ≤ length text → line ≡ take (position_or_len is_newline (drop at text)) (drop at text) → next ≡ at + (length line + 1)
    → with_lines at before (lines_from text at) ≡ with_lines at before (line ∷ lines_from text next)
split_line text line at next before le is place =
    let long = line_is line (drop at text) is in
    let e : at + position_or_len is_newline (drop at text) + 1 ≡ next = omega (arith, long, place) in
    ap (λ (ls : List (List ℕ)). with_lines at before ls) (lines_at text at le ∙ ap (λ (l : List ℕ). l ∷ lines_from text (at + position_or_len is_newline (drop at text) + 1)) (sym is) ∙ ap (λ (k : ℕ). line ∷ lines_from text k) e)

pub step_more : (text line : List ℕ) (at next : ℕ) (before more : List Waiver) → at ≤ length text → line ≡ take (position_or_len is_newline (drop at text)) (drop at text) → next ≡ at + (length line + 1)
    → with_line at before line ≡ Ok more → with_lines next more (lines_from text next) ≡ with_lines at before (lines_from text at)
step_more text line at next before more le is place e =
    let k : at + length line + 1 ≡ next = omega (arith, place) in
    let one : with_lines at before (line ∷ lines_from text next) ≡ with_lines (at + length line + 1) more (lines_from text next) = rw e refl in
    sym (split_line text line at next before le is place ∙ one ∙ ap (λ (n : ℕ). with_lines n more (lines_from text next)) k)

pub step_fault : (text line : List ℕ) (at : ℕ) (before : List Waiver) (fault : WaiverFault) → at ≤ length text → line ≡ take (position_or_len is_newline (drop at text)) (drop at text)
    → with_line at before line ≡ Err fault → with_lines at before (lines_from text at) ≡ Err fault
step_fault text line at before fault le is e = split_line text line at (at + (length line + 1)) before le is refl ∙ rw e refl

pub lines_end : (text : List ℕ) (at : ℕ) (before : List Waiver) → length text < at → with_lines at before (lines_from text at) ≡ Ok before
lines_end text at before lt = ap (λ (ls : List (List ℕ)). with_lines at before ls) (lines_none text at lt)

-- what a walk over the lines takes
pub ruleset line_steps = (ends_within, lines_whole, step_more, step_fault, lines_end)

-- ---- what a line is read as

pub told_reads : (end : ℕ) (read given : Result Waiver LineFault) (result : Result (Option Waiver) WaiverFault) → Gives read given → result ≡ told end read → Reads result (told end given)
unfolding told
told_reads end (Ok made) given result h e = rw (e, h) refl
told_reads end (Err (line.Bad kind left)) given result h e = rw (e, h) refl
told_reads end (Err line.Memory) given result h e = rw e tt

pub without_short : (line : List ℕ) → length (without_return line) ≤ length line
unfolding without_return
without_short line = by (is_return (slice_index line (length line - 1)))
  where
    by : (b : Bool) → length (if b then take (length line - 1) line else line) ≤ length line
    by true = omega (arith, length-take (length line - 1) line)
    by false = omega arith
