-- What has the form of a waiver is read as it.
use Rattle.std.proofs.Common.{◌≡◌, ◌∙◌, ℕ, suc, ◌+◌, ◌<◌, List, [], ◌∷◌, ◌++◌, length, take, drop, Bool, true, false, Ok, refl, sym, ap, subst, append_assoc, below_more, below_none, arith, inl, inr}
use Rattle.std.specs.Prelude.{not, ◌&&◌, ◌==◌, codes, nat_lt, nat_le, slice_index}
use Rattle.std.specs.List.{list_all, position_or_len}
use Rattle.std.proofs.lemmas.Bool.{and_parts, and_from, eqb-true, ne_eqb, ltb-true, lt-ltb, leb-true, or_from, false_from_ne_true, not_from_false}
use Rattle.std.proofs.lemmas.List.{append-nil, length-append, length_push, take_at, drop_at}
use Rattle.waivers.specs.declared.waiver.Waiver.{Waiver}
use Rattle.waivers.specs.Patterns.{IsMatch, is_match, parts}
use Rattle.waivers.specs.Lines.{is_blank, is_word_byte, is_quote, is_printable, is_pattern, matches_root, is_reason_byte, is_reason, reason_in, behind_reason, begins_reason, is_parted, is_name_byte, is_name, is_digit, are_two_digits, is_date, has_date_form, skip, word, behind, is, at_end, at_on, at_by, at_reason, at_pattern, at_waive}
use Rattle.waivers.specs.Forms.{are_blanks, IsWritten, IsOptional, IsWaiver}
use Rattle.waivers.proofs.Meaning.{fits_yes}
use Rattle.waivers.proofs.Runs.{Ends, first_at, word_at, behind_at, skip_at, gap_ends, blanks_end, word_ends}
use Rattle.waivers.proofs.Said.{some_name, some_pattern, date_long}

-- ---- what stands in words

list_all_of : (test other : ℕ → Bool) → ((byte : ℕ) → test byte ≡ true → other byte ≡ true) → (bytes : List ℕ) → list_all test bytes ≡ true → list_all other bytes ≡ true
list_all_of test other so [] all = refl
list_all_of test other so (byte ∷ bytes) all =
    let both = and_parts (test byte) (list_all test bytes) all in
    and_from (other byte) (list_all other bytes) (so byte both.0) (list_all_of test other so bytes both.1)

pub above_blank : (byte : ℕ) → 32 < byte → is_word_byte byte ≡ true
above_blank byte lt =
    let one : (byte == 32) ≡ false = ne_eqb byte 32 (λ e. omega (arith, e, lt)) in
    let two : (byte == 9) ≡ false = ne_eqb byte 9 (λ e. omega (arith, e, lt)) in
    not_from_false (is_blank byte) (or_from (byte == 32) (byte == 9) one two)

pub pattern_word : (pattern : List ℕ) → is_pattern pattern ≡ true → list_all is_word_byte pattern ≡ true
unfolding is_pattern
pattern_word pattern e =
    list_all_of is_printable is_word_byte (λ byte h. above_blank byte (ltb-true 32 byte (and_parts (nat_lt 32 byte) (nat_lt byte 127) h).0)) pattern
    (and_parts (nat_lt 0 (length pattern)) (list_all is_printable pattern) e).1

pub name_word : (name : List ℕ) → is_name name ≡ true → list_all is_word_byte name ≡ true
unfolding is_name
name_word name e =
    list_all_of is_name_byte is_word_byte (λ byte h. above_blank byte (ltb-true 32 byte (and_parts (nat_lt 32 byte) (not (byte == 127)) h).0)) name
    (and_parts (nat_lt 0 (length name)) (list_all is_name_byte name) e).1

digit_word : (byte : ℕ) → is_digit byte ≡ true → is_word_byte byte ≡ true
digit_word byte e = above_blank byte (omega (arith, leb-true 48 byte (and_parts (nat_le 48 byte) (nat_le byte 57) e).0))

dash_word : (byte : ℕ) → (byte == 45) ≡ true → is_word_byte byte ≡ true
dash_word byte e = above_blank byte (omega (arith, eqb-true byte 45 e))

two_words : (bytes : List ℕ) (place : ℕ) → are_two_digits bytes place ≡ true
    → (is_word_byte (slice_index bytes place) ≡ true) × (is_word_byte (slice_index bytes (place + 1)) ≡ true)
two_words bytes place e =
    let both = and_parts (is_digit (slice_index bytes place)) (is_digit (slice_index bytes (place + 1))) e in
    (digit_word (slice_index bytes place) both.0, digit_word (slice_index bytes (place + 1)) both.1)

words_by_place : (bytes : List ℕ) → ((k : ℕ) → k < length bytes → is_word_byte (slice_index bytes k) ≡ true) → list_all is_word_byte bytes ≡ true
words_by_place [] so = refl
words_by_place (byte ∷ bytes) so =
    and_from (is_word_byte byte) (list_all is_word_byte bytes) (so 0 (omega arith)) (words_by_place bytes (λ k lt. so (suc k) (omega (arith, lt))))

-- YYYY-MM-DD has no blank
form_word : (date : List ℕ) → length date ≡ 10 → has_date_form date ≡ true → list_all is_word_byte date ≡ true
unfolding has_date_form
form_word date long form =
    let a = and_parts _ (are_two_digits date 8) form in
    let b = and_parts _ (slice_index date 7 == 45) a.0 in
    let c = and_parts _ (are_two_digits date 5) b.0 in
    let d = and_parts _ (slice_index date 4 == 45) c.0 in
    let e = and_parts (are_two_digits date 0) (are_two_digits date 2) d.0 in
    let y = two_words date 0 e.0 in
    let z = two_words date 2 e.1 in
    let m = two_words date 5 c.1 in
    let n = two_words date 8 a.1 in
    words_by_place date (λ k lt. by_place date y.0 y.1 z.0 z.1 (dash_word (slice_index date 4) d.1) m.0 m.1 (dash_word (slice_index date 7) b.1) n.0 n.1 k (omega (arith, lt, long)))
  where
    by_place : (date : List ℕ) → is_word_byte (slice_index date 0) ≡ true → is_word_byte (slice_index date 1) ≡ true → is_word_byte (slice_index date 2) ≡ true
        → is_word_byte (slice_index date 3) ≡ true → is_word_byte (slice_index date 4) ≡ true → is_word_byte (slice_index date 5) ≡ true
        → is_word_byte (slice_index date 6) ≡ true → is_word_byte (slice_index date 7) ≡ true → is_word_byte (slice_index date 8) ≡ true
        → is_word_byte (slice_index date 9) ≡ true → (k : ℕ) → k < 10 → is_word_byte (slice_index date k) ≡ true
    by_place date a b c d e f g h i j =
        let P : ℕ → Type 0 = λ k. is_word_byte (slice_index date k) ≡ true in
        below_more P 9 (below_more P 8 (below_more P 7 (below_more P 6 (below_more P 5 (below_more P 4 (below_more P 3 (below_more P 2 (below_more P 1 (below_more P 0 (below_none P) a) b) c) d) e) f) g) h) i) j

pub date_word : (date : List ℕ) → is_date date ≡ true → list_all is_word_byte date ≡ true
unfolding is_date
date_word date e = form_word date (date_long date e) (and_parts (length date == 10) (has_date_form date) (and_parts (length date == 10 && has_date_form date) _ e).0).1

-- ---- a word and what is given behind it

pub skip_none : (gap : List ℕ) → are_blanks gap ≡ true → skip gap ≡ []
skip_none gap all = ap skip (sym (append-nil gap)) ∙ skip_at gap [] all tt

optional_ends : (key : List ℕ) (test : List ℕ → Bool) (given part rest : List ℕ) → IsOptional key test given part → Ends is_blank rest → Ends is_blank (part ++ rest)
optional_ends key test given part rest h e = elim h [
  | inl none ↦ subst (λ (l : List ℕ). Ends is_blank (l ++ rest)) (sym none.1) e
  | inr some ↦
      let w = some.1 in
      let same : part ++ rest ≡ w.gap ++ ((key ++ (w.later_gap ++ given)) ++ rest) = ap (λ (l : List ℕ). l ++ rest) w.spelled ∙ append_assoc w.gap (key ++ (w.later_gap ++ given)) rest in
      subst (λ (l : List ℕ). Ends is_blank l) (sym same) (gap_ends w.gap ((key ++ (w.later_gap ++ given)) ++ rest) w.parted)
]

pub record IsHeard (key given bytes rest : List ℕ) : Type 0 where
  pub first : word bytes ≡ key
  pub next : word (behind bytes) ≡ given
  pub later : behind (behind bytes) ≡ skip rest

heard : (key given part rest : List ℕ) → IsWritten key given part → 0 < length key → list_all is_word_byte key ≡ true → 0 < length given → list_all is_word_byte given ≡ true → Ends is_blank rest
    → IsHeard key given (skip (part ++ rest)) rest
heard key given part rest w some all some_given all_given e =
    let tail = w.later_gap ++ (given ++ rest) in
    let grouped : (key ++ (w.later_gap ++ given)) ++ rest ≡ key ++ tail =
    append_assoc key (w.later_gap ++ given) rest ∙ ap (λ (l : List ℕ). key ++ l) (append_assoc w.later_gap given rest) in
    let spelled : part ++ rest ≡ w.gap ++ (key ++ tail) =
    ap (λ (l : List ℕ). l ++ rest) w.spelled ∙ append_assoc w.gap (key ++ (w.later_gap ++ given)) rest ∙ ap (λ (l : List ℕ). w.gap ++ l) grouped in
    let bytes : skip (part ++ rest) ≡ key ++ tail = ap skip spelled ∙ skip_at w.gap (key ++ tail) w.parted.1 (word_ends key tail some all) in
    let tail_ends = gap_ends w.later_gap (given ++ rest) w.later_parted in
    let next_bytes : behind (key ++ tail) ≡ given ++ rest =
    behind_at key tail all tail_ends ∙ skip_at w.later_gap (given ++ rest) w.later_parted.1 (word_ends given rest some_given all_given) in
    record {
      first = ap word bytes ∙ word_at key tail all tail_ends;
      next = ap (λ (l : List ℕ). word (behind l)) bytes ∙ ap word next_bytes ∙ word_at given rest all_given e;
      later = ap (λ (l : List ℕ). behind (behind l)) bytes ∙ ap behind next_bytes ∙ behind_at given rest all_given e;
    }

-- ---- the parts of a line, from its end

none_on : (pattern reason by : List ℕ) → at_on pattern reason by [] ≡ Ok (record { pattern = pattern; reason = reason; by = by; on = [] })
unfolding at_on at_end word
none_on pattern reason by = refl

one_on : (pattern reason by on bytes : List ℕ) → word bytes ≡ codes "on" → word (behind bytes) ≡ on → behind (behind bytes) ≡ [] → is_date on ≡ true
    → at_on pattern reason by bytes ≡ Ok (record { pattern = pattern; reason = reason; by = by; on = on })
unfolding at_on at_end
one_on pattern reason by on bytes first next none allowed = rw (first, next, none, allowed) refl

on_heard : (pattern reason by on on_part trailing : List ℕ) → IsOptional (codes "on") is_date on on_part → are_blanks trailing ≡ true
    → at_on pattern reason by (skip (on_part ++ trailing)) ≡ Ok (record { pattern = pattern; reason = reason; by = by; on = on })
on_heard pattern reason by on on_part trailing h blank = elim h [
  | inl none ↦
      ap (λ (l : List ℕ). at_on pattern reason by (skip (l ++ trailing))) none.1 ∙ ap (at_on pattern reason by) (skip_none trailing blank) ∙ none_on pattern reason by
      ∙ ap (λ (l : List ℕ). Ok (record { pattern = pattern; reason = reason; by = by; on = l })) (sym none.0)
  | inr some ↦
      let given : 0 < length on = omega (arith, date_long on some.0) in
      let so = heard (codes "on") on on_part trailing some.1 (omega arith) refl given (date_word on some.0) (blanks_end trailing blank) in
      one_on pattern reason by on (skip (on_part ++ trailing)) so.first so.next (so.later ∙ skip_none trailing blank) some.0
]

no_word : word [] ≡ []
unfolding word
no_word = refl

not_by : (on on_part trailing : List ℕ) → IsOptional (codes "on") is_date on on_part → are_blanks trailing ≡ true → is (word (skip (on_part ++ trailing))) (codes "by") ≡ false
not_by on on_part trailing h blank = elim h [
  | inl none ↦
      let e : word (skip (on_part ++ trailing)) ≡ [] = ap (λ (l : List ℕ). word (skip (l ++ trailing))) none.1 ∙ ap word (skip_none trailing blank) ∙ no_word in
      rw e refl
  | inr some ↦
      let given : 0 < length on = omega (arith, date_long on some.0) in
      let so = heard (codes "on") on on_part trailing some.1 (omega arith) refl given (date_word on some.0) (blanks_end trailing blank) in
      rw so.first refl
]

none_by : (pattern reason bytes : List ℕ) → is (word bytes) (codes "by") ≡ false → at_by pattern reason bytes ≡ at_on pattern reason [] bytes
unfolding at_by
none_by pattern reason bytes e = rw e refl

one_by : (pattern reason by bytes rest : List ℕ) → word bytes ≡ codes "by" → word (behind bytes) ≡ by → behind (behind bytes) ≡ rest → is_name by ≡ true
    → at_by pattern reason bytes ≡ at_on pattern reason by rest
unfolding at_by
one_by pattern reason by bytes rest first next later allowed = rw (first, next, later, allowed) refl

by_heard : (pattern reason by by_part on on_part trailing : List ℕ) → IsOptional (codes "by") is_name by by_part → IsOptional (codes "on") is_date on on_part → are_blanks trailing ≡ true
    → at_by pattern reason (skip (by_part ++ (on_part ++ trailing))) ≡ Ok (record { pattern = pattern; reason = reason; by = by; on = on })
by_heard pattern reason by by_part on on_part trailing h k blank = elim h [
  | inl none ↦
      ap (λ (l : List ℕ). at_by pattern reason (skip (l ++ (on_part ++ trailing)))) none.1
      ∙ none_by pattern reason (skip (on_part ++ trailing)) (not_by on on_part trailing k blank)
      ∙ on_heard pattern reason [] on on_part trailing k blank
      ∙ ap (λ (l : List ℕ). Ok (record { pattern = pattern; reason = reason; by = l; on = on })) (sym none.0)
  | inr some ↦
      let ends = optional_ends (codes "on") is_date on on_part trailing k (blanks_end trailing blank) in
      let so = heard (codes "by") by by_part (on_part ++ trailing) some.1 (omega arith) refl (some_name by some.0) (name_word by some.0) ends in
      one_by pattern reason by (skip (by_part ++ (on_part ++ trailing))) (skip (on_part ++ trailing)) so.first so.next so.later some.0
      ∙ on_heard pattern reason by on on_part trailing k blank
]

-- ---- the reason

no_quotes : (reason : List ℕ) → is_reason reason ≡ true → list_all (λ byte. not (is_quote byte)) reason ≡ true
unfolding is_reason
no_quotes reason e =
    list_all_of is_reason_byte (λ byte. not (is_quote byte))
    (λ byte h. (and_parts (not (byte == 127)) (not (is_quote byte)) (and_parts (nat_le 32 byte) (not (byte == 127) && not (is_quote byte)) h).1).1) reason
    (and_parts (nat_lt 0 (length reason)) (list_all is_reason_byte reason) e).1

behind_quote : (reason later : List ℕ) → drop (length reason + 1) (reason ++ (34 ∷ later)) ≡ later
behind_quote reason later =
    ap (λ (l : List ℕ). drop (length reason + 1) l) (sym (append_assoc reason (34 ∷ []) later))
    ∙ drop_at (reason ++ (34 ∷ [])) later (length reason + 1) (length_push reason 34)

reason_is : (reason later : List ℕ) → is_reason reason ≡ true
    → (begins_reason (34 ∷ (reason ++ (34 ∷ later))) ≡ true) × (reason_in (34 ∷ (reason ++ (34 ∷ later))) ≡ reason) × (behind_reason (34 ∷ (reason ++ (34 ∷ later))) ≡ later)
unfolding begins_reason reason_in behind_reason
reason_is reason later e =
    let body = reason ++ (34 ∷ later) in
    let place : position_or_len is_quote body ≡ length reason = first_at is_quote reason (34 ∷ later) (no_quotes reason e) refl in
    let inner : take (position_or_len is_quote body) body ≡ reason = ap (λ (n : ℕ). take n body) place ∙ take_at reason (34 ∷ later) (length reason) refl in
    let within : nat_lt (position_or_len is_quote body) (length body) ≡ true =
    lt-ltb (position_or_len is_quote body) (length body) (omega (arith, place, length-append reason (34 ∷ later))) in (
      and_from (nat_lt (position_or_len is_quote body) (length body)) (is_reason (take (position_or_len is_quote body) body)) within (ap is_reason inner ∙ e),
      inner,
      ap (λ (n : ℕ). drop (n + 1) body) place ∙ behind_quote reason later,
    )

ends_parted : (rest : List ℕ) → Ends is_blank rest → is_parted rest ≡ true
unfolding is_parted
ends_parted [] e = refl
ends_parted (byte ∷ rest) e = let some : (length (byte ∷ rest) == 0) ≡ false = ne_eqb (length (byte ∷ rest)) 0 (λ none. omega (arith, none)) in rw some e

one_reason : (pattern reason bytes later : List ℕ) → begins_reason bytes ≡ true → reason_in bytes ≡ reason → behind_reason bytes ≡ later → is_parted later ≡ true
    → at_reason pattern bytes ≡ at_by pattern reason (skip later)
unfolding at_reason
one_reason pattern reason bytes later begins inner behind_it parted = rw (begins, inner, behind_it, parted) refl

reason_heard : (pattern reason later : List ℕ) → is_reason reason ≡ true → Ends is_blank later → at_reason pattern (34 ∷ (reason ++ (34 ∷ later))) ≡ at_by pattern reason (skip later)
reason_heard pattern reason later e ends =
    let so = reason_is reason later e in
    one_reason pattern reason (34 ∷ (reason ++ (34 ∷ later))) later so.0 so.1 so.2 (ends_parted later ends)

-- ---- the whole

not_root : (pattern : List ℕ) → (IsMatch pattern [] → ⊥) → matches_root pattern ≡ false
unfolding matches_root
not_root pattern h = false_from_ne_true (is_match pattern []) (λ e. h (fits_yes (parts pattern) [] e))

one_pattern : (pattern bytes rest : List ℕ) → word bytes ≡ pattern → behind bytes ≡ rest → is_pattern pattern ≡ true → matches_root pattern ≡ false → at_pattern bytes ≡ at_reason pattern rest
unfolding at_pattern
one_pattern pattern bytes rest first next allowed not_all = rw (first, next, allowed, not_all) refl

one_waive : (bytes rest : List ℕ) → word bytes ≡ codes "waive" → behind bytes ≡ rest → at_waive bytes ≡ at_pattern rest
unfolding at_waive
one_waive bytes rest first next = rw (first, next) refl

pub line_begins : (line : List ℕ) (waiver : Waiver) → (h : IsWaiver line waiver)
    → skip line ≡ codes "waive" ++ (h.gap ++ (waiver.pattern ++ (h.later_gap ++ (34 ∷ (waiver.reason ++ (34 ∷ (h.by_part ++ (h.on_part ++ h.trailing))))))))
line_begins line waiver h =
    let after = h.gap ++ (waiver.pattern ++ (h.later_gap ++ (34 ∷ (waiver.reason ++ (34 ∷ (h.by_part ++ (h.on_part ++ h.trailing))))))) in
    ap skip h.spelled ∙ skip_at h.indent (codes "waive" ++ after) h.indented (word_ends (codes "waive") after (omega arith) refl)

pub waiver_heard : (line : List ℕ) (waiver : Waiver) → IsWaiver line waiver → at_waive (skip line) ≡ Ok waiver
waiver_heard line waiver h =
    let tail = h.on_part ++ h.trailing in
    let later = h.by_part ++ tail in
    let quoted = 34 ∷ (waiver.reason ++ (34 ∷ later)) in
    let after = waiver.pattern ++ (h.later_gap ++ quoted) in
    let whole = codes "waive" ++ (h.gap ++ after) in
    let some = some_pattern waiver.pattern h.pattern_allowed in
    let all = pattern_word waiver.pattern h.pattern_allowed in
    let bytes : skip line ≡ whole = line_begins line waiver h in
    let gap_first = gap_ends h.gap after h.parted in
    let later_first = gap_ends h.later_gap quoted h.later_parted in
    let tail_ends = optional_ends (codes "on") is_date waiver.on h.on_part h.trailing h.date_given (blanks_end h.trailing h.trailed) in
    let later_ends = optional_ends (codes "by") is_name waiver.by h.by_part tail h.name_given tail_ends in
    ap at_waive bytes
    ∙ one_waive whole after (word_at (codes "waive") (h.gap ++ after) refl gap_first)
    (behind_at (codes "waive") (h.gap ++ after) refl gap_first ∙ skip_at h.gap after h.parted.1 (word_ends waiver.pattern (h.later_gap ++ quoted) some all))
    ∙ one_pattern waiver.pattern after quoted (word_at waiver.pattern (h.later_gap ++ quoted) all later_first)
    (behind_at waiver.pattern (h.later_gap ++ quoted) all later_first ∙ skip_at h.later_gap quoted h.later_parted.1 refl) h.pattern_allowed (not_root waiver.pattern h.not_all)
    ∙ reason_heard waiver.pattern waiver.reason later h.reason_allowed later_ends
    ∙ by_heard waiver.pattern waiver.reason waiver.by h.by_part waiver.on h.on_part h.trailing h.name_given h.date_given h.trailed
