-- Sums beside a journal, held against its items.
use Rattle.std.proofs.Common.{◌≡◌, inl, inr, ℕ, ◌+◌, ◌*◌, ◌≤◌, ◌<◌, List, [], ◌∷◌, ◌++◌, length, take, drop, sym, ap, ◌∙◌, arith}
use Rattle.std.proofs.lemmas.List.{drop_all, drop-append-le, take-append-le, take_all}
use Rattle.std.proofs.lemmas.Bool.{cases_eq}
use Rattle.journal_bytes.specs.Items.{Item}
use Rattle.journal_bytes.specs.Sums.{sum_of, sums_of}
use Rattle.journal_file.specs.Damage.{whole, sum_at, Agrees}
use Rattle.journal_file.proofs.Longer.{one_longer, sums_more, sums_long}

module _ (digest sums : List ℕ) (items : List Item) (item : Item) (sum : List ℕ) where
  before : Agrees digest sums items → (k : ℕ) → k < length items → k < whole sums → sum_at sums k ≡ sum_of digest (take (k + 1) (items ++ item ∷ []))
  before a k lt w = a k lt w ∙ ap (sum_of digest) (sym (take-append-le (k + 1) items (item ∷ []) (omega (arith, lt))))

  last : (length items < whole sums → sum_at sums (length items) ≡ sum) → sum ≡ sum_of digest (items ++ item ∷ []) → (k : ℕ) → k ≡ length items → k < whole sums
      → sum_at sums k ≡ sum_of digest (take (k + 1) (items ++ item ∷ []))
  last here is k same w =
      ap (sum_at sums) same ∙ here (omega (arith, same, w)) ∙ is
      ∙ ap (sum_of digest) (sym (take_all (k + 1) (items ++ item ∷ []) (omega (arith, same, one_longer items item))))

  pub agrees_more : Agrees digest sums items → (length items < whole sums → sum_at sums (length items) ≡ sum) → sum ≡ sum_of digest (items ++ item ∷ []) → Agrees digest sums (items ++ item ∷ [])
  agrees_more a here is k lt w = elim (cases_eq k (length items)) [
    | inl same ↦ last here is k same w
    | inr other ↦ before a k (omega (arith, other, lt, one_longer items item)) w
  ]

  -- there is a whole sum for the item
  pub nothing_missing : (missing : List ℕ) → length items < whole sums → missing ≡ drop (32 * whole sums) (sums_of digest items)
      → missing ≡ drop (32 * whole sums) (sums_of digest (items ++ item ∷ []))
  nothing_missing missing there was =
      was ∙ drop_all (32 * whole sums) (sums_of digest items) (omega (arith, there, sums_long digest items))
      ∙ sym (drop_all (32 * whole sums) (sums_of digest (items ++ item ∷ [])) (omega (arith, there, sums_long digest (items ++ item ∷ []), one_longer items item)))

  -- there is none
  pub one_missing : (missing : List ℕ) → whole sums ≤ length items → sum ≡ sum_of digest (items ++ item ∷ []) → missing ≡ drop (32 * whole sums) (sums_of digest items)
      → missing ++ sum ≡ drop (32 * whole sums) (sums_of digest (items ++ item ∷ []))
  one_missing missing none is was =
      (λ i. was i ++ is i)
      ∙ sym (drop-append-le (32 * whole sums) (sums_of digest items) (sum_of digest (items ++ item ∷ [])) (omega (arith, none, sums_long digest items)))
      ∙ ap (drop (32 * whole sums)) (sym (sums_more digest items item))
