-- Calls that only read, one after another.
use Rattle.std.proofs.Common.{ℕ, List, Bool, refl, ◌∙◌}
use Rattle.cov_disk.proofs.Moments.{joined, started}
use Rattle.journal_file.specs.Looking.{Looks, Keeps}

pub looks_twice : {D : Type 0} (told : D → Bool) (seen : D → List ℕ) (may_leave : D → List ℕ → Type 0) (moment : D → ℕ) (left_since : D → ℕ → List ℕ → Type 0) (old mid new : D)
    → Looks told seen may_leave moment left_since old mid → Looks told seen may_leave moment left_since mid new → Looks told seen may_leave moment left_since old new
looks_twice told seen may_leave moment left_since old mid new a b = record {
  told_on = b.told_on ∙ a.told_on;
  seen_on = b.seen_on ∙ a.seen_on;
  images = λ c now. a.images c (b.images c now);
  there = λ was. b.there (a.there was);
  moments = joined moment left_since old mid new (may_leave old) (may_leave mid) (may_leave old) a.moments b.moments (λ c p. p) (λ c q. a.images c q);
}

pub keeps_then_looks : {D : Type 0} (told : D → Bool) (seen : D → List ℕ) (may_leave : D → List ℕ → Type 0) (moment : D → ℕ) (left_since : D → ℕ → List ℕ → Type 0) (old mid new : D)
    → Keeps told may_leave moment left_since old mid → Looks told seen may_leave moment left_since mid new → Keeps told may_leave moment left_since old new
keeps_then_looks told seen may_leave moment left_since old mid new a b = record {
  told_on = b.told_on ∙ a.told_on;
  images = λ c now. a.images c (b.images c now);
  moments = joined moment left_since old mid new (may_leave old) (may_leave mid) (may_leave old) a.moments b.moments (λ c p. p) (λ c q. a.images c q);
}

-- before the first call
pub looks_here : {D : Type 0} (told : D → Bool) (seen : D → List ℕ) (may_leave : D → List ℕ → Type 0) (moment : D → ℕ) (left_since : D → ℕ → List ℕ → Type 0) (old : D)
    → ((c : List ℕ) → left_since old (moment old) c → may_leave old c) → Looks told seen may_leave moment left_since old old
looks_here told seen may_leave moment left_since old now = record {
  told_on = refl;
  seen_on = refl;
  images = λ c is. is;
  there = λ was. was;
  moments = started moment left_since old (may_leave old) now;
}
