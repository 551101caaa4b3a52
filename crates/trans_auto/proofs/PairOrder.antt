-- Pairs of masks in order, each once.
use Rattle.std.proofs.Common.{◌≡◌, ◌≢◌, ℕ, List, [], get_or, ap, sym, ◌∙◌, Bool, true, ◌&&◌}
use Rattle.std.specs.Prelude.{◌==◌, Contains, AllPairs}
use Rattle.std.specs.Ordering.{nat_cmp, ordering_then, eq_by_cmp}
use Rattle.std.specs.declared.cmp.Ordering.{Ordering}
use Rattle.std.specs.declared.cmp.Ordering.TheVariants.{Less, Equal}
use Rattle.std.specs.Cmp.{IsTotalOrder, IsEquivalence, both_tied, unsigned_ties, then_total, on_total, nat_cmp_total, and_equiv, on_equiv, nat_eq_equiv}
use Rattle.std.specs.List.Retain.{IsFiltered, DiffersFromLast}
use Rattle.std.specs.List.Sorted.{IsSorted}
use Rattle.std.proofs.lemmas.Cmp.{tied_itself}
use Rattle.std.proofs.lemmas.List.Filters.{dedup_is}
use Rattle.std.proofs.lemmas.List.Kept.{Contains-dedup, Contains-from_dedup, IsStrictlySortedBy-dedup}
use Rattle.std.proofs.lemmas.Map.Keys.{Less-from_sorted}
use Rattle.std.proofs.lemmas.Map.Lookups.{exact_pairs, exact_unsigned}
use Rattle.std.proofs.lemmas.Map.Views.{tells_apart}

abbrev pub pair_cmp : ℕ × ℕ → ℕ × ℕ → Ordering
pair_cmp a b = ordering_then (nat_cmp a.0 b.0) (nat_cmp a.1 b.1)

abbrev pub pair_eq : ℕ × ℕ → ℕ × ℕ → Bool
pair_eq a b = (a.0 == b.0) && (a.1 == b.1)

pair_total : IsTotalOrder pair_cmp
pair_total = then_total {R = λ (a b : ℕ × ℕ). nat_cmp a.0 b.0} {S = λ (a b : ℕ × ℕ). nat_cmp a.1 b.1} (on_total (λ (a : ℕ × ℕ). a.0) nat_cmp_total) (on_total (λ (a : ℕ × ℕ). a.1) nat_cmp_total)

pair_ties : (a b : ℕ × ℕ) → pair_eq a b ≡ eq_by_cmp pair_cmp a b
pair_ties a b = both_tied (a.0 == b.0) (a.1 == b.1) (nat_cmp a.0 b.0) (nat_cmp a.1 b.1) (unsigned_ties a.0 b.0) (unsigned_ties a.1 b.1)

pair_equiv : IsEquivalence pair_eq
pair_equiv = and_equiv {E = λ (a b : ℕ × ℕ). a.0 == b.0} {F = λ (a b : ℕ × ℕ). a.1 == b.1} (on_equiv (λ (a : ℕ × ℕ). a.0) nat_eq_equiv) (on_equiv (λ (a : ℕ × ℕ). a.1) nat_eq_equiv)

pair_same : (a b : ℕ × ℕ) → pair_eq a b ≡ true → a ≡ b
pair_same a b e = tells_apart (exact_pairs nat_cmp nat_cmp exact_unsigned exact_unsigned) a b (sym (pair_ties a b) ∙ e)

less_apart : (a b : ℕ × ℕ) → pair_cmp a b ≡ Less → a ≡ b → ⊥
less_apart a b less e =
    let same : pair_cmp a b ≡ Equal = ap (λ x. pair_cmp a x) (sym e) ∙ tied_itself pair_total a in
    let apart : Less ≡ Equal = sym less ∙ same in
    cc

-- what a sort and a `dedup` leave of a list: each of its pairs, once
pub once_sorted : (xs ys : List (ℕ × ℕ)) → IsFiltered (DiffersFromLast pair_eq) [] xs ys → IsSorted pair_cmp xs → AllPairs (λ a b. a ≢ b) ys
once_sorted xs ys kept sorted i j d before within =
    let strict = IsStrictlySortedBy-dedup pair_total pair_ties xs sorted in
    let is = dedup_is pair_eq xs ys kept in
    less_apart (get_or ys i d) (get_or ys j d) (Less-from_sorted pair_cmp ys i j d (rw is strict) before within)

pub dedup-kept : (xs ys : List (ℕ × ℕ)) → IsFiltered (DiffersFromLast pair_eq) [] xs ys → (a : ℕ × ℕ) → Contains xs a → Contains ys a
dedup-kept xs ys kept a h = rw (dedup_is pair_eq xs ys kept) (Contains-dedup pair_equiv pair_same xs a h)

pub dedup-only : (xs ys : List (ℕ × ℕ)) → IsFiltered (DiffersFromLast pair_eq) [] xs ys → (a : ℕ × ℕ) → Contains ys a → Contains xs a
dedup-only xs ys kept a h = Contains-from_dedup pair_eq xs a (rw (dedup_is pair_eq xs ys kept) at h)
