-- What a seat knows by its stage where another seat steps, and the longer of two histories.
use Rattle.std.proofs.Common.{◌≡◌, ◌≢◌, ℕ, ◌+◌, ◌<◌, ◌≤◌, List, length, Bool, true, false, true≢false, nat_lt, if◌then◌else◌, sym, ap, ◌∙◌, subst, arith, lt-ltb, le-ltb, lt_of_not-le}
use mathlib.Core.List.{IsPrefix}
use mathlib.Core.Logic.{dite}
use native.Mathlib.Decide.{dec_le}
use Rattle.turn_lock.specs.declared.board.Stage.{Stage}
use Rattle.turn_lock.specs.declared.board.Stage.TheVariants.{Spent, Idle, Waiting, Served, Done}
use Rattle.turn_lock.specs.History.{longer}
use Rattle.turn_lock.specs.Views.{tickets_of, lives_of}
use Rattle.turn_lock.specs.Rule.{Knows}
use Rattle.turn_lock.proofs.Totals.{put, put_else}
use Rattle.turn_lock.proofs.Prefixes.{prefix_self, prefix_shorter}

pub few_tickets : {E : Type 0} (st : Stage E) → tickets_of st ≤ lives_of st
few_tickets Spent = omega arith
few_tickets Idle = omega arith
few_tickets (Waiting p) = omega arith
few_tickets (Served p taken) = omega arith
few_tickets (Done p) = omega arith

module _ {E : Type 0} where
  -- what a seat knows where another draws a ticket
  pub still_knows : (n served : ℕ) (owner : ℕ → ℕ) (busy : Bool) (log : List E) (id j : ℕ) (seen : List E) (st : Stage E) → Knows n served owner busy log j seen st → Knows (n + 1) served (put owner n id) busy log j seen st
  still_knows n served owner busy log id j seen Spent k = tt
  still_knows n served owner busy log id j seen Idle k = tt
  still_knows n served owner busy log id j seen (Waiting p) k = let below : p < n = k.1 in (k.0, omega arith, put_else owner n id p (λ e. omega arith) ∙ k.2)
  still_knows n served owner busy log id j seen (Served p taken) k = let below : p < n = k.1 in (k.0, omega arith, put_else owner n id p (λ e. omega arith) ∙ k.2, k.3, k.4)
  still_knows n served owner busy log id j seen (Done p) k = let below : p < n = k.1 in (k.0, omega arith, put_else owner n id p (λ e. omega arith) ∙ k.2, k.3, k.4)

  -- where a seat that waited is served
  pub now_busy : (n served : ℕ) (owner : ℕ → ℕ) (log : List E) (j : ℕ) (seen : List E) (st : Stage E) → Knows n served owner false log j seen st → Knows n served owner true log j seen st
  now_busy n served owner log j seen Spent k = tt
  now_busy n served owner log j seen Idle k = tt
  now_busy n served owner log j seen (Waiting p) k = k
  now_busy n served owner log j seen (Served p taken) k = absurd (true≢false (sym k.3))
  now_busy n served owner log j seen (Done p) k = absurd (true≢false (sym k.3))

  -- where the seat that has the turn fixes a history
  pub others_fixed : (n served id j : ℕ) (owner : ℕ → ℕ) (b : Bool) (log log' : List E) → owner served ≡ id → j ≢ id → (seen : List E) (st : Stage E) → Knows n served owner b log j seen st → Knows n served owner b log' j seen st
  others_fixed n served id j owner b log log' mine other seen Spent k = tt
  others_fixed n served id j owner b log log' mine other seen Idle k = tt
  others_fixed n served id j owner b log log' mine other seen (Waiting p) k = k
  others_fixed n served id j owner b log log' mine other seen (Served p taken) k = absurd (other (sym k.2 ∙ (ap owner k.0 ∙ mine)))
  others_fixed n served id j owner b log log' mine other seen (Done p) k = absurd (other (sym k.2 ∙ (ap owner k.0 ∙ mine)))

  -- where it passes its turn on
  pub still_waits : (n served id j : ℕ) (owner : ℕ → ℕ) (b : Bool) (log : List E) → owner served ≡ id → j ≢ id → (seen : List E) (st : Stage E) → Knows n served owner b log j seen st → Knows n (served + 1) owner false log j seen st
  still_waits n served id j owner b log mine other seen Spent k = tt
  still_waits n served id j owner b log mine other seen Idle k = tt
  still_waits n served id j owner b log mine other seen (Waiting p) k =
      let low : served ≤ p = k.0 in
      let apart : served ≢ p = λ e. other (sym k.2 ∙ (ap owner (sym e) ∙ mine)) in
      (omega arith, k.1, k.2)
  still_waits n served id j owner b log mine other seen (Served p taken) k = absurd (other (sym k.2 ∙ (ap owner k.0 ∙ mine)))
  still_waits n served id j owner b log mine other seen (Done p) k = absurd (other (sym k.2 ∙ (ap owner k.0 ∙ mine)))

  -- who holds no ticket knows nothing of them
  pub quiet_knows : (n served : ℕ) (owner : ℕ → ℕ) (b : Bool) (log : List E) (j : ℕ) (seen : List E) (st : Stage E) → tickets_of st ≡ 0 → Knows n served owner b log j seen st
  quiet_knows n served owner b log j seen Spent e = tt
  quiet_knows n served owner b log j seen Idle e = tt
  quiet_knows n served owner b log j seen (Waiting p) e = absurd (omega arith)
  quiet_knows n served owner b log j seen (Served p taken) e = absurd (omega arith)
  quiet_knows n served owner b log j seen (Done p) e = absurd (omega arith)

  pub longer_is : (P : List E → Type 0) (xs ys : List E) → P xs → P ys → P (longer xs ys)
  longer_is P xs ys p q = pick (nat_lt (length xs) (length ys))
    where
      pick : (b : Bool) → P (if b then ys else xs)
      pick true = q
      pick false = p

  pub longer_begins : (xs ys log : List E) → IsPrefix xs log → IsPrefix ys log → IsPrefix xs (longer xs ys) × IsPrefix ys (longer xs ys)
  longer_begins xs ys log p q = dite (dec_le (length ys) (length xs))
      (λ le. let is : longer xs ys ≡ xs = ap (λ b. if b then ys else xs) (le-ltb (length xs) (length ys) le) in
      (subst (IsPrefix xs) (sym is) (prefix_self xs), subst (IsPrefix ys) (sym is) (prefix_shorter ys xs log q p le)))
      (λ not. let lt : length xs < length ys = lt_of_not-le not in
      let is : longer xs ys ≡ ys = ap (λ b. if b then ys else xs) (lt-ltb (length xs) (length ys) lt) in
      (subst (IsPrefix xs) (sym is) (prefix_shorter xs ys log p q (omega arith)), subst (IsPrefix ys) (sym is) (prefix_self ys)))
