-- Bytes that begin with an item, or with none.
use Rattle.std.proofs.Common.{◌≡◌, ℕ, ◌+◌, ◌≤◌, ◌<◌, ◌^◌, List, ◌∷◌, ◌++◌, length, get_or, take, drop, sym, ap, ◌∙◌, subst, arith, append_assoc, length-append, length-drop, take-append-drop}
use Rattle.std.specs.Int.{w32, to_be_bytes}
use Rattle.std.proofs.lemmas.List.{drop_more, drop-drop, length-take-le}
use Rattle.journal_bytes.specs.Items.{Item, head_of, part_of}
use Rattle.journal_bytes.proofs.Heads.{same_number}
use Rattle.journal_file.specs.Stands.{StartsWith, StartsWithNone}
use Rattle.journal_file.specs.Ending.{item_with}
use Rattle.journal_file.proofs.Longer.{part_long}

long_start : (bytes : List ℕ) (item : Item) → StartsWith item bytes → 9 + length item.content < length bytes
long_start bytes item s = omega (arith, ap (λ (l : List ℕ). length l) s.is, length-append (part_of item) (s.gate ∷ s.rest), part_long item)

pub no_head : (bytes : List ℕ) → length bytes < 9 → StartsWithNone bytes
no_head bytes short item s = absurd (omega (arith, short, long_start bytes item s))

module _ (bytes : List ℕ) (caller kind n : ℕ) (head : take 9 bytes ≡ to_be_bytes w32 caller ++ kind ∷ to_be_bytes w32 n) (fits : n < 2 ^ 32) where
  stated : (item : Item) → StartsWith item bytes → n ≡ length item.content
  stated item s =
      let split : bytes ≡ head_of item ++ (item.content ++ s.gate ∷ s.rest) = s.is ∙ append_assoc (head_of item) item.content (s.gate ∷ s.rest) in
      let heads : to_be_bytes w32 caller ++ kind ∷ to_be_bytes w32 n ≡ head_of item = sym head ∙ ap (take 9) split in
      same_number n (length item.content) fits s.writable.length (ap (drop 5) heads)

  pub no_content : length bytes ≤ 9 + n → StartsWithNone bytes
  no_content short item s = absurd (omega (arith, short, long_start bytes item s, stated item s))

  pub an_item : (content : List ℕ) → caller < 2 ^ 32 → content ≡ take n (drop 9 bytes) → 9 + n < length bytes → StartsWith (item_with caller kind content) bytes
  an_item content caller_fits is long =
      let size : length content ≡ n = ap (λ (l : List ℕ). length l) is ∙ length-take-le n (drop 9 bytes) (omega (arith, long, length-drop 9 bytes)) in
      let gate = get_or bytes (9 + n) 0 in
      let rest = drop (9 + n + 1) bytes in
      let behind : drop n (drop 9 bytes) ≡ gate ∷ rest = drop-drop n 9 bytes ∙ drop_more bytes (9 + n) 0 long in
      let body : drop 9 bytes ≡ content ++ gate ∷ rest = sym (take-append-drop n (drop 9 bytes)) ∙ (λ i. sym is i ++ behind i) in
      let front : take 9 bytes ≡ head_of (item_with caller kind content) = head ∙ ap (λ (m : ℕ). to_be_bytes w32 caller ++ kind ∷ to_be_bytes w32 m) (sym size) in
      record {
        writable = record { caller = caller_fits; length = subst (λ (m : ℕ). m < 2 ^ 32) (sym size) fits };
        gate = gate;
        rest = rest;
        is = sym (take-append-drop 9 bytes) ∙ (λ i. front i ++ body i) ∙ sym (append_assoc (head_of (item_with caller kind content)) content (gate ∷ rest));
      }
