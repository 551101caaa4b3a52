-- How a run of calls on a disk goes on.
use Rattle.std.proofs.Common.{inl, inr, ⊎_elim, ℕ, List, arith}
use Rattle.std.specs.Prelude.{Result, Ok, Err, OnOk}
use Rattle.cov_disk.specs.Files.{Elapses, LeavesOnly}

module _ {D : Type 0} (moment : D → ℕ) (left_since : D → ℕ → List ℕ → Type 0) where
  -- before the first call
  pub started : (old : D) (P : List ℕ → Type 0) → ((c : List ℕ) → left_since old (moment old) c → P c) → LeavesOnly moment left_since old old P
  started old P here = record { later = omega arith; each = here; before = λ t c le left. inl left }

  -- one call more, after which each image has P
  pub goes_on : (old mid new : D) (P may_leave : List ℕ → Type 0) → LeavesOnly moment left_since old mid P → Elapses (moment mid) (moment new) (left_since mid) (left_since new) may_leave
      → ((c : List ℕ) → may_leave c → P c) → LeavesOnly moment left_since old new P
  goes_on old mid new P may_leave so_far time here = record {
    later = omega (arith, so_far.later, time.later);
    each = λ c left. ⊎_elim (so_far.each c) (here c) (time.nothing_else (moment old) c so_far.later left);
    before = λ t c le left. ⊎_elim (so_far.before t c le) (λ now. inr (here c now)) (time.nothing_else t c (omega (arith, le, so_far.later)) left);
  }

  -- two runs, one after the other
  pub joined : (old mid new : D) (P Q R : List ℕ → Type 0) → LeavesOnly moment left_since old mid P → LeavesOnly moment left_since mid new Q
      → ((c : List ℕ) → P c → R c) → ((c : List ℕ) → Q c → R c) → LeavesOnly moment left_since old new R
  joined old mid new P Q R a b p q = record {
    later = omega (arith, a.later, b.later);
    each = λ c left. ⊎_elim (λ was. p c (a.each c was)) (q c) (b.before (moment old) c a.later left);
    before = λ t c le left. ⊎_elim (λ was. ⊎_elim (λ past. inl past) (λ x. inr (p c x)) (a.before t c le was)) (λ now. inr (q c now)) (b.before t c (omega (arith, le, a.later)) left);
  }

  -- what holds of each image in a way holds in a weaker way
  pub weaker : (old new : D) (P Q : List ℕ → Type 0) → ((c : List ℕ) → P c → Q c) → LeavesOnly moment left_since old new P → LeavesOnly moment left_since old new Q
  weaker old new P Q p a = record {
    later = a.later;
    each = λ c left. p c (a.each c left);
    before = λ t c le left. ⊎_elim (λ past. inl past) (λ x. inr (p c x)) (a.before t c le left);
  }

-- where a call succeeds, what follows from what it says then
pub on_ok : {T E P Q : Type 0} (r : Result T E) → (P → Q) → OnOk r P → OnOk r Q
on_ok (Ok x) f p = f p
on_ok (Err e) f p = p
