-- From what a core answers to what a port promises.
use Rattle.std.proofs.Common.{◌≡◌, ◌⊎◌, ◌==◌, inl, inr, ℕ, suc, ◌+◌, Bool, true, false, not, if◌then◌else◌, List, [], ◌∷◌, ◌++◌, length, take, refl, sym, ap, ◌∙◌, subst, append-nil, arith, length-append, eq-eqb}
use Rattle.std.specs.Prelude.{map}
use Rattle.std.proofs.Math.Seq.{take-append_seam, take-length}
use Rattle.design_data.specs.declared.design.Design.{Design}
use Rattle.ucis_model.specs.declared.answers.Answer.{Answer}
use Rattle.cov_history.specs.declared.entry.Entry.{Entry}
use Rattle.cov_history.specs.declared.entry.Event.TheVariants as event
use Rattle.cov_history.specs.declared.asks.Ask.{Ask}
use Rattle.cov_history.specs.declared.asks.Ask.TheVariants as ask
use Rattle.cov_history.specs.Answers.{answer_at, by, is_made, entries_of, made}
use Rattle.cov_history.specs.Turns.{wish_of, Answers, PortTurn, Grown, ServesOrStops}
use Rattle.session_table.specs.Alone.{own_from, others}
use Rattle.session_table.proofs.Wishing.{made_wished}

-- none, or one of this caller
abbrev pub AtMostOne : ℕ → List Entry → Type 0
AtMostOne n es = (es ≡ []) ⊎ ((e : Entry) × (e.caller ≡ n) × (es ≡ e ∷ []))

one : (n : ℕ) (e : Entry) → e.caller ≡ n → AtMostOne n (e ∷ [])
one n e is = inr (e, is, refl)

entries_one : (n : ℕ) (a : Ask) → AtMostOne n (entries_of n a)
entries_one n (ask.Admit since r) = one n _ refl
entries_one n (ask.Revise since revision) = one n _ refl
entries_one n (ask.Exclude path) = one n _ refl
entries_one n (ask.Include path) = one n _ refl
entries_one n other = inl refl

chosen : (n : ℕ) (es : List Entry) (b : Bool) → AtMostOne n es → AtMostOne n (if b then es else [])
chosen n es true m = m
chosen n es false m = inl refl

made_one : (n : ℕ) (a : Ask) (given : Answer) → AtMostOne n (made n a given)
made_one n a given = chosen n (entries_of n a) (is_made given) (entries_one n a)

-- ---- a core's answer at its entries, whatever a caller's own entries are

-- what one entry more at most does to the own entries
pub record Owns (n : ℕ) (h after : List Entry) (own own_after : List (ℕ × Entry)) : Type 0 where
  pub same : after ≡ h → own_after ≡ own
  pub more : (e : Entry) → e.caller ≡ n → after ≡ h ++ e ∷ [] → own_after ≡ own ++ (length h, e) ∷ []

owned : (n : ℕ) (h after es : List Entry) (own own_after : List (ℕ × Entry)) → AtMostOne n es → after ≡ h ++ es → Owns n h after own own_after → own_after ≡ own ++ map (λ e. (length h, e)) es
owned n h after es own own_after (inl none) grows o = o.same (grows ∙ (ap (λ l. h ++ l) none ∙ append-nil h)) ∙ (sym (append-nil own) ∙ ap (λ (l : List Entry). own ++ map (λ e. (length h, e)) l) (sym none))
owned n h after es own own_after (inr t) grows o = o.more t.0 t.1 (grows ∙ ap (λ l. h ++ l) t.2) ∙ ap (λ (l : List Entry). own ++ map (λ e. (length h, e)) l) (sym t.2)

turn_made : (opening : Design) (caller : ℕ) (h after es : List Entry) (own own_after : List (ℕ × Entry)) (a : Ask) (given : Answer) (to : ℕ)
    → AtMostOne caller es → after ≡ h ++ es → to ≡ length after → Owns caller h after own own_after → Answers caller (wish_of a) (answer_at opening h caller a) given es → PortTurn opening h own after own_after caller a given to
turn_made opening caller h after es own own_after a given to few grows point o answers =
    let front : take (length h) after ≡ h = ap (take (length h)) grows ∙ take-append_seam h es in
    record {
      added = map (λ e. (length h, e)) es;
      turn = inl (record {
        at = length h;
        entries = es;
        low = omega arith;
        high = omega (arith, point);
        point = point ∙ (ap length grows ∙ length-append h es);
        answer = subst (λ l. Answers caller (wish_of a) (answer_at opening l caller a) given es) (sym front) answers;
        there = ap (λ n. take n after) point ∙ (take-length after ∙ (grows ∙ ap (λ l. l ++ es) (sym front)));
        adds = refl;
      });
      owns = owned caller h after es own own_after few grows o;
    }

-- one ask served at the entries is one turn
pub served_turn : (opening : Design) (caller : ℕ) (h after : List Entry) (own own_after : List (ℕ × Entry)) (a : Ask) (given : Answer) (to faults now : ℕ)
    → ServesOrStops opening caller h a given after faults now → to ≡ length after → Owns caller h after own own_after → PortTurn opening h own after own_after caller a given to
served_turn opening caller h after own own_after a given to faults now (inl (inl p)) point o =
    turn_made opening caller h after (made caller a given) own own_after a given to (made_one caller a given) p.1 point o (inl (p.0, made_wished caller a given))
served_turn opening caller h after own own_after a given to faults now (inl (inr w)) point o = record {
  added = [];
  turn = inr (record { may = w.2; answer = w.0; low = omega (arith, point, ap length w.1); high = omega (arith, point); adds = refl });
  owns = o.same w.1 ∙ sym (append-nil own);
}
served_turn opening caller h after own own_after a given to faults now (inr s) point o =
    turn_made opening caller h after (by caller event.Stop ∷ []) own own_after a given to (one caller (by caller event.Stop) refl) s.entries point o (inr (s.change, s.answer, refl))

-- and its history grew by an entry of the caller at most
pub served_grown : (opening : Design) (caller : ℕ) (h after : List Entry) (a : Ask) (given : Answer) (faults now : ℕ) → ServesOrStops opening caller h a given after faults now → Grown h after
served_grown opening caller h after a given faults now (inl (inl p)) = record { more = made caller a given; is = p.1 }
served_grown opening caller h after a given faults now (inl (inr w)) = record { more = []; is = w.1 ∙ sym (append-nil h) }
served_grown opening caller h after a given faults now (inr s) = record { more = by caller event.Stop ∷ []; is = s.entries }

-- ---- the only caller

own_push : (n k : ℕ) (xs : List Entry) (e : Entry) → e.caller ≡ n → own_from n k (xs ++ e ∷ []) ≡ own_from n k xs ++ (k + length xs, e) ∷ []
own_push n k [] e is = ap (λ b. if b then (k, e) ∷ [] else []) (eq-eqb e.caller n is) ∙ ap (λ (i : ℕ). (i, e) ∷ []) (omega arith)
own_push n k (x ∷ xs) e is = ap (λ (l : List (ℕ × Entry)). if x.caller == n then (k, x) ∷ l else l) (own_push n (suc k) xs e is) ∙ moved (x.caller == n)
  where
    moved : (b : Bool) → (if b then (k, x) ∷ (own_from n (suc k) xs ++ (suc k + length xs, e) ∷ []) else own_from n (suc k) xs ++ (suc k + length xs, e) ∷ [])
        ≡ (if b then (k, x) ∷ own_from n (suc k) xs else own_from n (suc k) xs) ++ (k + suc (length xs), e) ∷ []
    moved true = ap (λ (i : ℕ). (k, x) ∷ (own_from n (suc k) xs ++ (i, e) ∷ [])) (omega arith)
    moved false = ap (λ (i : ℕ). own_from n (suc k) xs ++ (i, e) ∷ []) (omega arith)

others_push : (n : ℕ) (xs : List Entry) (e : Entry) → e.caller ≡ n → others n (xs ++ e ∷ []) ≡ others n xs
others_push n [] e is = ap (λ b. if not b then e ∷ [] else []) (eq-eqb e.caller n is)
others_push n (x ∷ xs) e is = ap (λ (l : List Entry). if not (x.caller == n) then x ∷ l else l) (others_push n xs e is)

others_made : (n : ℕ) (h es : List Entry) → AtMostOne n es → others n (h ++ es) ≡ others n h
others_made n h es (inl e) = ap (λ l. others n (h ++ l)) e ∙ ap (others n) (append-nil h)
others_made n h es (inr t) = ap (λ l. others n (h ++ l)) t.2 ∙ others_push n h t.0 t.1

alone_owns : (n : ℕ) (h after : List Entry) → Owns n h after (own_from n 0 h) (own_from n 0 after)
alone_owns n h after = record {
  same = λ e. ap (own_from n 0) e;
  more = λ e is grows. ap (own_from n 0) grows ∙ (own_push n 0 h e is ∙ ap (λ (i : ℕ). own_from n 0 h ++ (i, e) ∷ []) (omega arith));
}

pub alone_turn : (opening : Design) (n : ℕ) (h after : List Entry) (a : Ask) (given : Answer) (to faults now : ℕ) → ServesOrStops opening n h a given after faults now → to ≡ length after → PortTurn opening h (own_from n 0 h) after (own_from n 0 after) n a given to
alone_turn opening n h after a given to faults now s point = served_turn opening n h after (own_from n 0 h) (own_from n 0 after) a given to faults now s point (alone_owns n h after)

pub alone_rest : (opening : Design) (n : ℕ) (h after : List Entry) (a : Ask) (given : Answer) (faults now : ℕ) → ServesOrStops opening n h a given after faults now → others n after ≡ others n h
alone_rest opening n h after a given faults now (inl (inl p)) = ap (others n) p.1 ∙ others_made n h (made n a given) (made_one n a given)
alone_rest opening n h after a given faults now (inl (inr w)) = ap (others n) w.1
alone_rest opening n h after a given faults now (inr s) = ap (others n) s.entries ∙ others_push n h (by n event.Stop) refl
