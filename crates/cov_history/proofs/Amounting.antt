-- Amounts at once, and with one more test.
use Rattle.std.proofs.Common.{◌≡◌, ℕ, ◌+◌, List, [], ◌∷◌, ◌++◌, length, refl, sym, ap, arith, nat_lt}
use Rattle.design_data.specs.declared.design.Design.{Design}
use Rattle.record_codec.specs.declared.record.Record.{Record}
use Rattle.record_codec.specs.Spelling.{spelling}
use Rattle.ucis_model.specs.declared.answers.Which.{Which}
use Rattle.ucis_model.specs.declared.answers.Which.TheVariants.{Tests, Bytes, Entries, History}
use Rattle.ucis_model.specs.declared.answers.Answer.TheVariants as answer
use Rattle.cov_history.specs.declared.entry.Event.TheVariants.{Admit}
use Rattle.cov_history.specs.declared.entry.Entry.{Entry}
use Rattle.cov_history.specs.Amounts.{Amounts, AreAmounts, amount_in, first_passed}
use Rattle.cov_history.specs.Answers.{by}
use Rattle.cov_history.specs.History.{design_of, bins_hit, amount, is_over, passed}
use Rattle.cov_history.proofs.Snoc.{test_count_snoc, bytes_snoc, entries_snoc, history_snoc}

-- the first limit that is passed, by the amounts
pub passed_is : (opening : Design) (h : List Entry) (a : Amounts) → AreAmounts opening h a → passed opening h ≡ first_passed a
passed_is opening h a are =
    let t : is_over opening h Tests ≡ nat_lt 4096 a.tests = ap (nat_lt 4096) (sym are.tests) in
    let b : is_over opening h Bytes ≡ nat_lt 268435456 a.bytes = ap (nat_lt 268435456) (sym are.bytes) in
    let e : is_over opening h Entries ≡ nat_lt 16777216 a.entries = ap (nat_lt 16777216) (sym are.entries) in
    let y : is_over opening h History ≡ nat_lt 1048576 a.history = ap (nat_lt 1048576) (sym are.history) in
    rw (t, b, e, y) refl

pub full_is : (opening : Design) (before after : List Entry) (now later : Amounts) → AreAmounts opening before now → AreAmounts opening after later → (w : Which) → answer.Full w (amount opening before w) (amount opening after w) ≡ answer.Full w (amount_in now w) (amount_in later w)
full_is opening before after now later a b Tests = λ i. answer.Full Tests (sym a.tests i) (sym b.tests i)
full_is opening before after now later a b Bytes = λ i. answer.Full Bytes (sym a.bytes i) (sym b.bytes i)
full_is opening before after now later a b Entries = λ i. answer.Full Entries (sym a.entries i) (sym b.entries i)
full_is opening before after now later a b History = λ i. answer.Full History (sym a.history i) (sym b.history i)

-- the amounts with one more test
pub amounts_more : (opening : Design) (h : List Entry) (caller : ℕ) (r : Record) (now after : Amounts) → AreAmounts opening h now → after.tests ≡ now.tests + 1 → after.bytes ≡ now.bytes + length (spelling r) → after.entries ≡ now.entries + bins_hit (design_of opening h) r → after.history ≡ now.history + 1 → AreAmounts opening (h ++ by caller (Admit r) ∷ []) after
amounts_more opening h caller r now after a t b e y =
    let x = by caller (Admit r) in
    let n = test_count_snoc opening h x in
    let m = bytes_snoc opening h x in
    let s = entries_snoc opening h x in
    let o = history_snoc opening h x in
    record {
      tests = omega (arith, t, a.tests, n);
      bytes = omega (arith, b, a.bytes, m);
      entries = omega (arith, e, a.entries, s);
      history = omega (arith, y, a.history, o);
    }
