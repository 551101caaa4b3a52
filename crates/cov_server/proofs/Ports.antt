-- What a core serves in a turn is what a port promises, over what its seat had seen.
use Rattle.std.proofs.Common.{◌≡◌, ◌⊎◌, inl, inr, ℕ, ◌+◌, ◌≤◌, List, [], ◌∷◌, ◌++◌, length, take, Bool, true, false, if◌then◌else◌, refl, sym, ap, ◌∙◌, subst, append-nil, append_assoc, arith, length-append}
use Rattle.std.proofs.lemmas.List.{take-append-le}
use mathlib.Core.List.{IsPrefix}
use Rattle.design_data.specs.declared.design.Design.{Design}
use Rattle.ucis_model.specs.declared.answers.Answer.{Answer}
use Rattle.cov_history.specs.declared.entry.Entry.{Entry}
use Rattle.cov_history.specs.declared.entry.Event.TheVariants as event
use Rattle.cov_history.specs.declared.asks.Ask.{Ask as At}
use Rattle.cov_history.specs.declared.asks.Ask.TheVariants as at
use Rattle.cov_history.specs.Answers.{by, is_made, entries_of}
use Rattle.cov_history.specs.History.{design_of, contents}
use Rattle.cov_history.specs.Turns.{PortTurn, PortTurns, PortWants, Grown, ServesOrStops}
use Rattle.store_core.specs.declared.asks.Ask.{Ask}
use Rattle.store_core.specs.declared.asks.Ask.TheVariants as ask
use Rattle.store_core.specs.Asks.{Meets}
use Rattle.turn_lock.specs.History.{AtMostOneMore}
use Rattle.cov_session.proofs.Single.{served_turn, served_grown}

-- ---- histories that begin with one another

prefix_long : {A : Type 0} (xs ys : List A) → IsPrefix xs ys → length xs ≤ length ys
prefix_long xs ys p = omega (arith, ap length p.1, length-append xs p.0)

-- a front of the first stands in the second
front_same : (seen h : List Entry) (n : ℕ) → IsPrefix seen h → n ≤ length seen → take n h ≡ take n seen
front_same seen h n p le = ap (take n) (sym p.1) ∙ take-append-le n seen p.0 le

pub grown_later : (seen h after : List Entry) → IsPrefix seen h → Grown h after → Grown seen after
grown_later seen h after p g = record { more = p.0 ++ g.more; is = g.is ∙ (ap (λ l. l ++ g.more) (sym p.1) ∙ append_assoc seen p.0 g.more) }

pub turn_later : (opening : Design) (seen h after : List Entry) (own own_after : List (ℕ × Entry)) (caller : ℕ) (a : At) (given : Answer) (to : ℕ)
    → IsPrefix seen h → PortTurn opening h own after own_after caller a given to → PortTurn opening seen own after own_after caller a given to
turn_later opening seen h after own own_after caller a given to p t = record { added = t.added; turn = later t.turn; owns = t.owns }
  where
    later : PortTurns opening h after caller a given t.added to ⊎ PortWants h after a given t.added to → PortTurns opening seen after caller a given t.added to ⊎ PortWants seen after a given t.added to
    later (inl s) = inl (record { at = s.at; entries = s.entries; low = omega (arith, prefix_long seen h p, s.low); high = s.high; point = s.point; answer = s.answer; there = s.there; adds = s.adds })
    later (inr w) = inr (record { may = w.may; answer = w.answer; low = omega (arith, prefix_long seen h p, w.low); high = w.high; adds = w.adds })

-- what an ask comes with stays right as the history grows
pub meets_later : (opening : Design) (seen h : List Entry) (a : Ask) → IsPrefix seen h → Meets opening seen a → Meets opening h a
meets_later opening seen h (ask.Admit since p) before m = record {
  reached = omega (arith, prefix_long seen h before, m.reached);
  under = m.under ∙ ap (design_of opening) (sym (front_same seen h since before m.reached));
  fit = m.fit;
}
meets_later opening seen h (ask.Revise r) before m = record {
  reached = omega (arith, prefix_long seen h before, m.reached);
  tables = m.tables;
  records = m.records ∙ ap contents (sym (front_same seen h r.since before m.reached));
  declared = m.declared;
}
meets_later opening seen h other before m = m

-- ---- what is made

entries_most : (number : Entry → ℕ) → ((e : Entry) → number e ≡ e.caller) → (n : ℕ) (h : List Entry) (a : At) → AtMostOneMore number n h (h ++ entries_of n a)
entries_most number is n h (at.Admit since r) = inr (by n (event.Admit r), is (by n (event.Admit r)), refl)
entries_most number is n h (at.Revise since revision) = inr (by n (event.Revise revision), is (by n (event.Revise revision)), refl)
entries_most number is n h (at.Exclude path) = inr (by n (event.Exclude path), is (by n (event.Exclude path)), refl)
entries_most number is n h (at.Include path) = inr (by n (event.Include path), is (by n (event.Include path)), refl)
entries_most number is n h other = inl (append-nil h)

made_most : (number : Entry → ℕ) (n : ℕ) (h es : List Entry) (b : Bool) → AtMostOneMore number n h (h ++ es) → AtMostOneMore number n h (h ++ (if b then es else []))
made_most number n h es true m = m
made_most number n h es false m = inl (append-nil h)

pub serves_most : (number : Entry → ℕ) → ((e : Entry) → number e ≡ e.caller) → (opening : Design) (n : ℕ) (h after : List Entry) (a : At) (given : Answer) (faults now : ℕ) → ServesOrStops opening n h a given after faults now → AtMostOneMore number n h after
serves_most number is opening n h after a given faults now (inl (inl s)) = subst (λ l. AtMostOneMore number n h l) (sym s.1) (made_most number n h (entries_of n a) (is_made given) (entries_most number is n h a))
serves_most number is opening n h after a given faults now (inl (inr w)) = inl w.1
serves_most number is opening n h after a given faults now (inr s) = inr (by n event.Stop, is (by n event.Stop), s.entries)

-- ---- a turn

-- a core's answer at its entries is a turn of a seat whose history begins them
pub served_later : (opening : Design) (caller : ℕ) (seen h after : List Entry) (own own_after : List (ℕ × Entry)) (a : At) (given : Answer) (to faults now : ℕ)
    → ServesOrStops opening caller h a given after faults now → IsPrefix seen h → to ≡ length after
    → (after ≡ h → own_after ≡ own) → ((e : Entry) → after ≡ h ++ e ∷ [] → own_after ≡ own ++ (length h, e) ∷ [])
    → PortTurn opening seen own after own_after caller a given to
served_later opening caller seen h after own own_after a given to faults now s p point same more =
    turn_later opening seen h after own own_after caller a given to p
    (served_turn opening caller h after own own_after a given to faults now s point (record { same = same; more = λ e is. more e }))

pub grown_by : (opening : Design) (caller : ℕ) (h after : List Entry) (a : At) (given : Answer) (faults now : ℕ) → ServesOrStops opening caller h a given after faults now → Grown h after
grown_by opening caller h after a given faults now s = served_grown opening caller h after a given faults now s
