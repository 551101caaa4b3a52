-- One item more in a journal.
use Rattle.std.proofs.Common.{◌≡◌, ℕ, ◌+◌, ◌*◌, List, [], ◌∷◌, ◌++◌, length, refl, sym, ap, ◌∙◌, arith, append_assoc, length-append}
use Rattle.std.proofs.lemmas.List.{flat_map_more, append-nil}
use Rattle.std.proofs.lemmas.List.Elements.{All-push}
use Rattle.sha2.specs.Sha256.{sha256}
use Rattle.sha2.proofs.Facts256.{length-sha256}
use Rattle.journal_bytes.specs.Items.{Item, IsWritable, header, head_of, part_of, gated, journal_of}
use Rattle.journal_bytes.specs.Sums.{sum_behind, sum_of, sums_of}
use Rattle.journal_file.specs.declared.end.End.{End}
use Rattle.journal_file.specs.Stands.{Begins, StartsWith}
use Rattle.journal_file.specs.Ending.{EndsAt}

pub journal_more : (digest : List ℕ) (items : List Item) (item : Item) → journal_of digest (items ++ item ∷ []) ≡ journal_of digest items ++ 1 ∷ part_of item
journal_more digest items item = sym (flat_map_more gated (header digest) items item)

pub part_long : (item : Item) → length (part_of item) ≡ 9 + length item.content
part_long item = omega (arith, length-append (head_of item) item.content)

pub journal_longer : (digest : List ℕ) (items : List Item) (item : Item) → length (journal_of digest (items ++ item ∷ [])) ≡ length (journal_of digest items) + (10 + length item.content)
journal_longer digest items item =
    omega (arith, ap (λ (l : List ℕ). length l) (journal_more digest items item), length-append (journal_of digest items) (1 ∷ part_of item), part_long item)

pub one_longer : (items : List Item) (item : Item) → length (items ++ item ∷ []) ≡ length items + 1
one_longer items item = omega (arith, length-append items (item ∷ []))

pub sum_more : (before : List ℕ) (items : List Item) (item : Item) → sum_of before (items ++ item ∷ []) ≡ sum_behind (sum_of before items) item
sum_more before [] item = refl
sum_more before (x ∷ xs) item = sum_more (sum_behind before x) xs item

pub sums_more : (before : List ℕ) (items : List Item) (item : Item) → sums_of before (items ++ item ∷ []) ≡ sums_of before items ++ sum_of before (items ++ item ∷ [])
sums_more before [] item = append-nil (sum_behind before item)
sums_more before (x ∷ xs) item =
    ap (λ (l : List ℕ). sum_behind before x ++ l) (sums_more (sum_behind before x) xs item)
    ∙ sym (append_assoc (sum_behind before x) (sums_of (sum_behind before x) xs) (sum_of (sum_behind before x) (xs ++ item ∷ [])))

pub sums_long : (before : List ℕ) (items : List Item) → length (sums_of before items) ≡ 32 * length items
sums_long before [] = refl
sums_long before (x ∷ xs) =
    omega (arith, length-append (sum_behind before x) (sums_of (sum_behind before x) xs), length-sha256 (before ++ (head_of x ++ sha256 x.content)), sums_long (sum_behind before x) xs)

-- where the items end with one more, of this head and content
pub ends_more : (digest : List ℕ) (items : List Item) (item : Item) (head content : List ℕ) (end new : End) → EndsAt digest items end → head ≡ head_of item → content ≡ item.content
    → new.place ≡ end.place + (10 + length content) → new.count ≡ end.count + 1 → new.sum ≡ sha256 (end.sum ++ (head ++ sha256 content)) → EndsAt digest (items ++ item ∷ []) new
ends_more digest items item head content end new e h k place count sum = record {
  place = omega (arith, place, e.place, journal_longer digest items item, ap (λ (l : List ℕ). length l) k);
  count = omega (arith, count, e.count, one_longer items item);
  sum = sum ∙ (λ i. sha256 (e.sum i ++ (h i ++ sha256 (k i)))) ∙ sym (sum_more digest items item);
}

-- an item behind the open gate, in the file
pub begins_more : (digest : List ℕ) (items : List Item) (item : Item) (file rest : List ℕ) → Begins digest items file → file ≡ journal_of digest items ++ 1 ∷ rest → StartsWith item rest
    → Begins digest (items ++ item ∷ []) file
begins_more digest items item file rest b is s = record {
  writable = All-push IsWritable items item b.writable s.writable;
  gate = s.gate;
  rest = s.rest;
  is = is
      ∙ ap (λ (l : List ℕ). journal_of digest items ++ 1 ∷ l) s.is
      ∙ sym (append_assoc (journal_of digest items) (1 ∷ part_of item) (s.gate ∷ s.rest))
      ∙ ap (λ (l : List ℕ). l ++ s.gate ∷ s.rest) (sym (journal_more digest items item));
}
