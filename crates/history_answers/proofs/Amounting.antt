-- Amounts before and after a change.
use Rattle.std.proofs.Common.{◌≡◌, ◌∙◌, ℕ, ◌+◌, ◌<◌, ◌≤◌, Bool, true, false, not, cond, ◌&&◌, ◌||◌, List, [], ◌∷◌, ◌++◌, length, refl, sym, ap, subst, arith, Option, Some, None, is_none}
use Rattle.std.specs.Prelude.{sum_by, count_by, filter, ◌^◌}
use Rattle.std.proofs.lemmas.List.{length_push}
use Rattle.std.proofs.lemmas.List.Sums.{sum_by_push}
use Rattle.design_data.specs.declared.design.Design.{Design}
use Rattle.ucis_model.specs.declared.answers.Answer.{Answer}
use Rattle.ucis_model.specs.declared.answers.Which.{Which}
use Rattle.ucis_model.specs.declared.answers.Which.TheVariants.{Tests, Bytes, Entries, History}
use Rattle.cov_history.specs.declared.entry.Revision.{Revision}
use Rattle.cov_history.specs.declared.entry.Event.TheVariants.{Exclude, Revise}
use Rattle.cov_history.specs.declared.entry.Entry.{Entry}
use Rattle.cov_history.specs.History.{design_of, tests_of, bytes_in, contents, out_of, is_found, is_stop, has_stop, bins_hit, amount, most, passed, suits, may_follow, is_legal}
use Rattle.cov_history.specs.Answers.{by, unless_full, change}
use Rattle.cov_history.proofs.Bools.{and_left}
use Rattle.cov_history.proofs.Snoc.{test_count_snoc, bytes_snoc, entries_snoc, history_snoc, stop_snoc}
use Rattle.cov_history.proofs.Legal.{kept_along, legal_within, within_of}
use Rattle.cov_history.proofs.Amounting.{passed_is, full_is}
use Rattle.cov_history.specs.Amounts.{Amounts, AreAmounts, amount_in, first_passed}
use Rattle.history_answers.specs.Amounts.{told_by}

-- ---- legal histories are short

abbrev changes : List Entry → ℕ
changes h = count_by (λ e. not (is_stop e.event)) h

abbrev IsShort : List Entry → Type 0
IsShort h = length h ≤ changes h + cond (has_stop h) 1 0

not_true : (b : Bool) → not b ≡ true → b ≡ false
not_true false e = refl
not_true true e = sym e

short_step : (opening : Design) (h : List Entry) (e : Entry) → IsShort h → may_follow opening h e ≡ true → IsShort (h ++ e ∷ [])
short_step opening h e s m =
    let go : has_stop h ≡ false = not_true (has_stop h) (and_left (not (has_stop h)) (suits opening h e.event && is_none (passed opening (h ++ e ∷ []))) m) in
    let was : length h ≤ changes h + 0 = subst (λ (b : Bool). length h ≤ changes h + cond b 1 0) go s in
    let len = length_push h e in
    let c = sum_by_push (λ (x : Entry). cond (not (is_stop x.event)) 1 0) h e in
    let now : has_stop (h ++ e ∷ []) ≡ is_stop e.event = stop_snoc h e ∙ ap (λ b. b || is_stop e.event) go in
    let split : ◌≡◌ {A = ℕ} (cond (not (is_stop e.event)) 1 0 + cond (has_stop (h ++ e ∷ [])) 1 0) 1 = ap (λ (b : Bool). cond (not (is_stop e.event)) 1 0 + cond b 1 0) now ∙ one (is_stop e.event) in
    omega (arith, was, len, c, split)
  where
    one : (b : Bool) → ◌≡◌ {A = ℕ} (cond (not b) 1 0 + cond b 1 0) 1
    one true = refl
    one false = refl

at_most_one : (b : Bool) → cond b 1 0 ≤ 1
at_most_one true = omega arith
at_most_one false = omega arith

pub legal_amounts : (opening : Design) (h : List Entry) → is_legal opening h ≡ true → (which : Which) → amount opening h which ≤ most which
legal_amounts opening h l which = within_of opening h (legal_within opening h l) which

pub legal_short : (opening : Design) (h : List Entry) → is_legal opening h ≡ true → length h < 2 ^ 32
legal_short opening h l =
    let s : IsShort h = kept_along opening IsShort (short_step opening) [] h (omega arith) l in
    let one = at_most_one (has_stop h) in
    let most_changes = legal_amounts opening h l History in
    omega (arith, s, one, most_changes)

pub amounts_are : (opening : Design) (h : List Entry) (a : Amounts) → a.tests ≡ length (tests_of h) → a.bytes ≡ sum_by (λ (e : Entry). bytes_in e.event) h → a.entries ≡ sum_by (bins_hit (design_of opening h)) (contents h)
    → a.history ≡ count_by (λ (e : Entry). not (is_stop e.event)) h + length (out_of h) → AreAmounts opening h a
amounts_are opening h a t b e o = record { tests = t; bytes = b; entries = e; history = o }

pub amount_is : (opening : Design) (h : List Entry) (a : Amounts) → AreAmounts opening h a → (which : Which) → amount_in a which ≡ amount opening h which
amount_is opening h a are Tests = are.tests
amount_is opening h a are Bytes = are.bytes
amount_is opening h a are Entries = are.entries
amount_is opening h a are History = are.history

-- ---- one more change

pub excluded_amounts : (opening : Design) (h : List Entry) (caller : ℕ) (path : List ℕ) (before after : Amounts) → AreAmounts opening h before → after.tests ≡ before.tests → after.bytes ≡ before.bytes
    → after.entries ≡ before.entries → after.history ≡ before.history + 2 → AreAmounts opening (h ++ by caller (Exclude path) ∷ []) after
excluded_amounts opening h caller path before after are t b e o =
    let x = by caller (Exclude path) in
    let n = test_count_snoc opening h x in
    let m = bytes_snoc opening h x in
    let s = entries_snoc opening h x in
    let l = history_snoc opening h x in
    let p = length_push (out_of h) path in
    record {
      tests = omega (arith, t, are.tests, n);
      bytes = omega (arith, b, are.bytes, m);
      entries = omega (arith, e, are.entries, s);
      history = omega (arith, o, are.history, l, p);
    }

pub revised_amounts : (opening : Design) (h : List Entry) (caller : ℕ) (revision : Revision) (before after : Amounts) → AreAmounts opening h before → after.tests ≡ before.tests → after.bytes ≡ before.bytes + length revision.text
    → after.entries ≡ sum_by (bins_hit revision.design) (contents h) → after.history ≡ (count_by (λ e. not (is_stop e.event)) h + 1) + length (filter (is_found revision.design) (out_of h)) → AreAmounts opening (h ++ by caller (Revise revision) ∷ []) after
revised_amounts opening h caller revision before after are t b e o =
    let x = by caller (Revise revision) in
    let n = test_count_snoc opening h x in
    let m = bytes_snoc opening h x in
    let s = entries_snoc opening h x in
    let l = history_snoc opening h x in
    record {
      tests = omega (arith, t, are.tests, n);
      bytes = omega (arith, b, are.bytes, m);
      entries = omega (arith, e, s);
      history = omega (arith, o, l);
    }

-- ---- the answer

pub change_is : (opening : Design) (h : List Entry) (e : Entry) (before after : Amounts) (made answer : Answer) → AreAmounts opening h before → AreAmounts opening (h ++ e ∷ []) after → answer ≡ told_by before after (first_passed after) made → answer ≡ change opening h e made
change_is opening h e before after made answer b a is = is ∙ same (first_passed after) ∙ ap (λ (o : Option Which). unless_full opening h (h ++ e ∷ []) o made) first
  where
    same : (o : Option Which) → told_by before after o made ≡ unless_full opening h (h ++ e ∷ []) o made
    same None = refl
    same (Some which) = sym (full_is opening h (h ++ e ∷ []) before after b a which)

    first : first_passed after ≡ passed opening (h ++ e ∷ [])
    first = sym (passed_is opening (h ++ e ∷ []) after a)
