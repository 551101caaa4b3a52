-- Words and gaps.
use Rattle.std.proofs.Common.{◌≡◌, ◌∙◌, ℕ, suc, ◌+◌, ◌<◌, List, [], ◌∷◌, ◌++◌, length, take, drop, nat_eq, Bool, true, false, refl, sym, ap, subst, arith}
use Rattle.std.specs.Prelude.{not, IsTrue}
use Rattle.std.specs.List.{list_all, position_or_len}
use Rattle.std.specs.Cmp.Lexicographic.{pointwise}
use Rattle.std.proofs.lemmas.Bool.{and_parts, and_from, both_ways, not-true, eqb-true, eq-eqb}
use Rattle.std.proofs.lemmas.List.{take_at, drop_at, take-append-drop}
use Rattle.waivers.specs.Lines.{is_blank, is_word_byte, skip, word, behind, is}
use Rattle.waivers.specs.Forms.{are_blanks, IsGap}

-- nothing, or what passes comes first
abbrev pub Ends : (ℕ → Bool) → List ℕ → Type 0
Ends test [] = Unit {0}
Ends test (byte ∷ bytes) = test byte ≡ true

abbrev AreBefore : (ℕ → Bool) → List ℕ → Type 0
AreBefore test run = list_all (λ byte. not (test byte)) run ≡ true

not_not : (b : Bool) → not (not b) ≡ b
not_not true = refl
not_not false = refl

suc_is : (n : ℕ) → 1 + n ≡ suc n
suc_is n = omega arith

pub first_at : (test : ℕ → Bool) (run rest : List ℕ) → AreBefore test run → Ends test rest → position_or_len test (run ++ rest) ≡ length run
first_at test [] [] all e = refl
first_at test [] (byte ∷ rest) all e = rw e refl
first_at test (byte ∷ run) rest all e =
    let both = and_parts (not (test byte)) (list_all (λ byte. not (test byte)) run) all in
    rw both.0 (ap (λ (n : ℕ). 1 + n) (first_at test run rest both.1 e) ∙ suc_is (length run))

passes_step : (test : ℕ → Bool) (b : Bool) (byte : ℕ) (bytes : List ℕ) → test byte ≡ b → AreBefore test (take (position_or_len test bytes) bytes)
    → AreBefore test (take (position_or_len test (byte ∷ bytes)) (byte ∷ bytes))
passes_step test true byte bytes e h = rw e refl
passes_step test false byte bytes e h = rw (e, suc_is) (and_from (not (test byte)) _ (rw e refl) h)

run_passes : (test : ℕ → Bool) (bytes : List ℕ) → AreBefore test (take (position_or_len test bytes) bytes)
run_passes test [] = refl
run_passes test (byte ∷ bytes) = passes_step test (test byte) byte bytes refl (run_passes test bytes)

ends_step : (test : ℕ → Bool) (b : Bool) (byte : ℕ) (bytes : List ℕ) → test byte ≡ b → Ends test (drop (position_or_len test bytes) bytes)
    → Ends test (drop (position_or_len test (byte ∷ bytes)) (byte ∷ bytes))
ends_step test true byte bytes e h = rw e e
ends_step test false byte bytes e h = rw (e, suc_is) h

ends_after : (test : ℕ → Bool) (bytes : List ℕ) → Ends test (drop (position_or_len test bytes) bytes)
ends_after test [] = tt
ends_after test (byte ∷ bytes) = ends_step test (test byte) byte bytes refl (ends_after test bytes)

blank_run : (gap : List ℕ) → are_blanks gap ≡ true → AreBefore is_word_byte gap
blank_run [] all = refl
blank_run (byte ∷ gap) all =
    let both = and_parts (is_blank byte) (are_blanks gap) all in
    and_from (not (is_word_byte byte)) (list_all (λ byte. not (is_word_byte byte)) gap) (not_not (is_blank byte) ∙ both.0) (blank_run gap both.1)

blank_back : (gap : List ℕ) → AreBefore is_word_byte gap → are_blanks gap ≡ true
blank_back [] all = refl
blank_back (byte ∷ gap) all =
    let both = and_parts (not (is_word_byte byte)) (list_all (λ byte. not (is_word_byte byte)) gap) all in
    and_from (is_blank byte) (are_blanks gap) (sym (not_not (is_blank byte)) ∙ both.0) (blank_back gap both.1)

-- ---- what is read of words and gaps

pub word_at : (run rest : List ℕ) → list_all is_word_byte run ≡ true → Ends is_blank rest → word (run ++ rest) ≡ run
unfolding word
word_at run rest all e = ap (λ (n : ℕ). take n (run ++ rest)) (first_at is_blank run rest all e) ∙ take_at run rest (length run) refl

pub behind_at : (run rest : List ℕ) → list_all is_word_byte run ≡ true → Ends is_blank rest → behind (run ++ rest) ≡ skip rest
unfolding behind
behind_at run rest all e = ap (λ (n : ℕ). skip (drop n (run ++ rest))) (first_at is_blank run rest all e) ∙ ap skip (drop_at run rest (length run) refl)

pub skip_at : (gap rest : List ℕ) → are_blanks gap ≡ true → Ends is_word_byte rest → skip (gap ++ rest) ≡ rest
unfolding skip
skip_at gap rest all e = ap (λ (n : ℕ). drop n (gap ++ rest)) (first_at is_word_byte gap rest (blank_run gap all) e) ∙ drop_at gap rest (length gap) refl

-- a gap before anything
pub gap_ends : (gap rest : List ℕ) → IsGap gap → Ends is_blank (gap ++ rest)
gap_ends [] rest h = absurd (omega (arith, h.0))
gap_ends (byte ∷ gap) rest h = (and_parts (is_blank byte) (are_blanks gap) h.1).0

pub blanks_end : (gap : List ℕ) → are_blanks gap ≡ true → Ends is_blank gap
blanks_end [] all = tt
blanks_end (byte ∷ gap) all = (and_parts (is_blank byte) (are_blanks gap) all).0

-- some bytes of a word before anything
pub word_ends : (run rest : List ℕ) → 0 < length run → list_all is_word_byte run ≡ true → Ends is_word_byte (run ++ rest)
word_ends [] rest some all = absurd (omega (arith, some))
word_ends (byte ∷ run) rest some all = (and_parts (is_word_byte byte) (list_all is_word_byte run) all).0

-- ---- what was read is words and gaps

pub skip_ends : (bytes : List ℕ) → Ends is_word_byte (skip bytes)
unfolding skip
skip_ends bytes = ends_after is_word_byte bytes

pub skip_split : (bytes : List ℕ) → (gap : List ℕ) × (bytes ≡ gap ++ skip bytes) × IsTrue (are_blanks gap)
unfolding skip
skip_split bytes = (
  take (position_or_len is_word_byte bytes) bytes,
  sym (take-append-drop (position_or_len is_word_byte bytes) bytes),
  blank_back (take (position_or_len is_word_byte bytes) bytes) (run_passes is_word_byte bytes),
)

pub is_parted : (gap tail rest : List ℕ) → tail ≡ gap ++ rest → Ends is_blank tail → Ends is_word_byte rest → 0 < length rest → 0 < length gap
is_parted [] tail [] same e f some = absurd (omega (arith, some))
is_parted [] tail (byte ∷ rest) same e f some =
    let h : is_blank byte ≡ true = subst (λ (bytes : List ℕ). Ends is_blank bytes) same e in
    absurd (both_ways (is_blank byte) (not-true (is_blank byte) f) h)
is_parted (byte ∷ gap) tail rest same e f some = omega arith

pub record IsFirstWord (bytes first later : List ℕ) : Type 0 where
  pub gap : List ℕ
  pub spelled : bytes ≡ first ++ (gap ++ later)
  pub blank : IsTrue (are_blanks gap)
  pub parted : 0 < length later → 0 < length gap

pub word_split : (bytes : List ℕ) → IsFirstWord bytes (word bytes) (behind bytes)
unfolding word behind
word_split bytes =
    let n = position_or_len is_blank bytes in
    let h = skip_split (drop n bytes) in
    record {
      gap = h.0;
      spelled = sym (take-append-drop n bytes) ∙ ap (λ (l : List ℕ). take n bytes ++ l) h.1;
      blank = h.2;
      parted = is_parted h.0 (drop n bytes) (skip (drop n bytes)) h.1 (ends_after is_blank bytes) (skip_ends (drop n bytes));
    }

pub equal_bytes : (bytes other : List ℕ) → is bytes other ≡ true → bytes ≡ other
equal_bytes [] [] e = refl
equal_bytes [] (byte ∷ other) e = absurd cc
equal_bytes (byte ∷ bytes) [] e = absurd cc
equal_bytes (byte ∷ bytes) (next ∷ other) e =
    let both = and_parts (nat_eq byte next) (pointwise nat_eq bytes other) e in
    let first = eqb-true byte next both.0 in
    let more = equal_bytes bytes other both.1 in
    ap (λ (b : ℕ). b ∷ bytes) first ∙ ap (λ (l : List ℕ). next ∷ l) more

pub same_bytes : (bytes : List ℕ) → is bytes bytes ≡ true
same_bytes [] = refl
same_bytes (byte ∷ bytes) = and_from (nat_eq byte byte) (pointwise nat_eq bytes bytes) (eq-eqb byte byte refl) (same_bytes bytes)
