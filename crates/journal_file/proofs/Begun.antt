-- A journal that is begun in an empty file.
use Rattle.std.proofs.Common.{◌≡◌, ℕ, ◌≤◌, List, [], length, ap, arith}
use Rattle.cov_disk.specs.Files.{Torn, Follows, Elapses, LeavesOnly}
use Rattle.cov_disk.proofs.Moments.{started, goes_on}

module _ {D : Type 0} (moment : D → ℕ) (left_since : D → ℕ → List ℕ → Type 0) (may_leave : D → List ℕ → Type 0) (old : D) where
  abbrev Short : List ℕ → Type 0
  Short image = length image ≤ 41

  module _ (bare : (c : List ℕ) → may_leave old c → c ≡ []) (now : (c : List ℕ) → left_since old (moment old) c → may_leave old c) where
    short_at_first : LeavesOnly moment left_since old old Short
    short_at_first = started moment left_since old Short (λ c left. omega (arith, ap (λ (l : List ℕ). length l) (bare c (now c left))))

    module _ (mid : D) (n : ℕ) (few : n ≤ 41) (torn : Follows (Torn 0 n) (may_leave old) (may_leave mid)) where
      pub short_torn : (c : List ℕ) → may_leave mid c → Short c
      short_torn c left =
          let f = torn c left in
          omega (arith, f.2.no_longer, few, ap (λ (l : List ℕ). length l) (bare f.0 f.1))

      pub short_written : Elapses (moment old) (moment mid) (left_since old) (left_since mid) (may_leave mid) → LeavesOnly moment left_since old mid Short
      short_written time = goes_on moment left_since old old mid Short (may_leave mid) short_at_first time short_torn

      pub short_synced : (new : D) → Elapses (moment old) (moment mid) (left_since old) (left_since mid) (may_leave mid)
          → Elapses (moment mid) (moment new) (left_since mid) (left_since new) (may_leave new) → ((c : List ℕ) → may_leave new c → may_leave mid c) → LeavesOnly moment left_since old new Short
      short_synced new time more same = goes_on moment left_since old mid new Short (may_leave new) (short_written time) more (λ c left. short_torn c (same c left))
