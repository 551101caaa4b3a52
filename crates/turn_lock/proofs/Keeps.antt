-- Each step keeps the rule of the tickets and of the history.
use Rattle.std.proofs.Common.{◌≡◌, ◌≢◌, ℕ, zero, suc, ◌+◌, ◌-◌, ◌%◌, ◌^◌, ◌<◌, ◌≤◌, List, [], ◌∷◌, ◌++◌, drop, length, get_or, set, Bool, true, false, true≢false, Option, Some, None, sym, refl, ap, ◌∙◌, subst, ⊎_elim, arith, length-set, get_or-set_other, get_or-set_same}
use Rattle.std.proofs.Math.Nat.{mod-add-mod, mod-eq_of_lt}
use mathlib.Core.List.{IsPrefix}
use mathlib.Core.Logic.{dite}
use mathlib.Core.Option.{none, some, some-injective}
use mathlib.Core.Option as maybe
use native.Mathlib.Decide.{ℕ_discrete}
use lib.ListN.{get_elem?}
use lib.Seq.{set-get_or}
use Rattle.atomic_table.specs.Table.{State, step, Act, keeps, takes, gives, Valid, carried_after, stepped, Allows, Splits, Joins}
use Rattle.atomic_table.proofs.Lists.{at_set, set_here, set_else, set_again, at_snoc, at_longer, one_turn}
use Rattle.turn_lock.specs.declared.board.View.{View}
use Rattle.turn_lock.specs.declared.board.Stage.{Stage}
use Rattle.turn_lock.specs.declared.board.Stage.TheVariants.{Spent, Idle, Waiting, Served, Done}
use Rattle.turn_lock.specs.History.{longer, NoneBy, AtMostOneMore}
use Rattle.turn_lock.specs.Views.{view, at_stage, spent, who_is, pending_or, kept_part, new_part, note_of, informed, merged, lefts, tickets_of, lives_of, ticket_of, taken_of, HasTurn, tickets, places, total}
use Rattle.turn_lock.specs.Rule.{Knows, Based, Saw, SlotIs, IsPending, Owns, Kept}
use Rattle.turn_lock.specs.Steps.{Sat, drew, Serves, looked, fixed, drew_number, passed, learned}
use Rattle.turn_lock.proofs.Totals.{total_set, total_snoc, total_least, seats_set, put, put_here, put_else}
use Rattle.turn_lock.proofs.Prefixes.{prefix_self, prefix_trans, prefix_length}
use Rattle.turn_lock.proofs.Numbers.{none_news, total_only, at_most_total, snoc_at, none_front, none_deeper, none_past, owns_fixed, owns_drawn, owns_named}
use Rattle.turn_lock.proofs.Stages.{few_tickets, still_knows, now_busy, others_fixed, still_waits, quiet_knows, longer_is, longer_begins}

module _ {T B E : Type 0} (base : T → B) (entries : T → List E) (sound : B → List E → Type 0) (number : E → ℕ) (home : B) (opened most : ℕ) where
  abbrev D : Type 0
  D = View B E

  abbrev St : Type 0
  St = State (Option T) D

  abbrev Rule : St → Type 0
  Rule = Kept base entries sound number home opened most

  abbrev M : Type 0
  M = Sat T B E

  abbrev Sees : List E → D → Type 0
  Sees = Saw base entries sound number home opened most

  abbrev Slot : Bool → ℕ → ℕ → List E → List (maybe.Option (Option T)) → List D → Type 0
  Slot = SlotIs base entries sound number home opened most

  -- all that the rule says of one seat
  abbrev pub Fine : (drawn served : ℕ) → (ℕ → ℕ) → Bool → List E → (next keeper : ℕ) → (ℕ → ℕ) → ℕ → D → Type 0
  Fine drawn served owner busy log next keeper seat_of j d = Knows drawn served owner busy log j d.seen d.stage × Sees log d × Owns number opened next keeper seat_of log j d

  -- a seat that lived and lives owns as much at another stage
  owns_stage : (next keeper : ℕ) (seat_of : ℕ → ℕ) (log : List E) (j : ℕ) (d : D) (st : Stage E) → lives_of d.stage ≡ 1 → Owns number opened next keeper seat_of log j d → Owns number opened next keeper seat_of log j (at_stage st d)
  owns_stage next keeper seat_of log j d st lives o = (o.0, λ _. o.1 lives)

  begins_more : (n : ℕ) (xs ys : List E) → AtMostOneMore number n xs ys → IsPrefix xs ys
  begins_more n xs ys more = ⊎_elim (λ (same : ys ≡ xs). subst (IsPrefix xs) (sym same) (prefix_self xs)) (λ (one : (e : E) × (number e ≡ n) × (ys ≡ xs ++ e ∷ [])). (one.0 ∷ [], sym one.2)) more

  sees_more : (log log' : List E) (d : D) → IsPrefix log log' → Sees log d → Sees log' d
  sees_more log log' d more s = (prefix_trans d.seen log log' s.0 more, prefix_trans d.told log log' s.1 more, s.2)

  -- the slot where a seat that has not the turn gets another view
  slot_stays : (b : Bool) (served holder holder' id : ℕ) (log : List E) (homes : List (maybe.Option (Option T))) (views : List D) (d w : D) → get_elem? views id ≡ some d → (HasTurn served d.stage → ⊥)
      → (b ≡ true → holder' ≡ holder) → Slot b served holder log homes views → Slot b served holder' log homes (set views id w)
  slot_stays false served holder holder' id log homes views d w at not same s = s
  slot_stays true served holder holder' id log homes views d w at not same s =
      let apart : holder ≢ id = λ e. not (subst (λ (z : D). HasTurn served z.stage) (some-injective s.0 d (sym (subst (λ (i : ℕ). get_elem? views i ≡ some s.0) e s.1) ∙ at)) s.2) in
      (s.0, subst (λ (i : ℕ). get_elem? (set views id w) i ≡ some s.0) (sym (same refl)) (set_else views id holder w apart ∙ s.1), s.2, s.3)

  slot_longer : (b : Bool) (served holder : ℕ) (log : List E) (homes : List (maybe.Option (Option T))) (views : List D) (v : D) → Slot b served holder log homes views → Slot b served holder log homes (views ++ v ∷ [])
  slot_longer false served holder log homes views v s = s
  slot_longer true served holder log homes views v s = (s.0, at_longer views (v ∷ []) holder s.0 s.1, s.2, s.3)

  -- who has the turn has a ticket below those drawn
  turn_drawn : (s : St) (r : Rule s) (b : Bool) → Slot b r.served (r.owner r.served) r.log s.homes s.views → b ≡ true → r.served < r.drawn
  turn_drawn s r false slot is = absurd (true≢false (sym is))
  turn_drawn s r true slot is = below slot.0.stage slot.2 (r.each_seat (r.owner r.served) slot.0 slot.1).0
    where
      below : (st : Stage E) → HasTurn r.served st → Knows r.drawn r.served r.owner r.busy r.log (r.owner r.served) slot.0.seen st → r.served < r.drawn
      below (Served p taken) h k = let low : p < r.drawn = k.1 in let is : p ≡ r.served = h in omega arith
      below (Done p) h k = let low : p < r.drawn = k.1 in let is : p ≡ r.served = h in omega arith
      below Spent h k = absurd h
      below Idle h k = absurd h
      below (Waiting p) h k = absurd h

  no_turn : (served : ℕ) (st : Stage E) → st ≡ Idle → HasTurn served st → ⊥
  no_turn served st is h = subst (HasTurn served) is h

  pub draws : (slots id : ℕ) (me : M) → me.0.stage ≡ Idle → Allows Rule slots id me 1 (λ n. (n + 1) % 2 ^ 64) (drew (step slots 1 1 0 none) me)
  draws slots id me is s r wide at small =
      let n : ℕ = r.drawn in
      let d : D = me.0 in
      let w : D = at_stage (Waiting n) d in
      let new : ℕ = (get_or s.words 1 0 + 1) % 2 ^ 64 in
      let held = r.held in
      let few = r.few in
      let one = total_set tickets s.views id d w at in
      let two = total_set places s.views id d w at in
      let three = total_set lefts s.views id d w at in
      let left_over = r.left_over in
      let known = r.each_seat id d at in
      let none_held : tickets_of d.stage ≡ 0 = ap tickets_of is in
      let lives : lives_of d.stage ≡ 1 = ap lives_of is in
      let t : ℕ = total tickets s.views in
      let below : r.served ≤ n = omega arith in (
        w,
        keeps,
        tt,
        record {
          drawn = n + 1;
          served = r.served;
          owner = put r.owner n id;
          busy = r.busy;
          log = r.log;
          next = r.next;
          keeper = r.keeper;
          seat_of = r.seat_of;
          wide = length-set s.words 1 new ∙ r.wide;
          long = r.long;
          length_is = get_or-set_other s.words 1 0 new 0 (λ e. omega arith) ∙ r.length_is;
          ticket_is = get_or-set_same s.words 1 new 0 (let wide = r.wide in omega arith) ∙ (ap (λ (x : ℕ). (x + 1) % 2 ^ 64) r.ticket_is ∙ mod-add-mod n (2 ^ 64) 1);
          serving_is = get_or-set_other s.words 1 2 new 0 (λ e. omega arith) ∙ r.serving_is;
          next_is = get_or-set_other s.words 1 3 new 0 (λ e. omega arith) ∙ r.next_is;
          left_over = omega arith;
          unused = r.unused;
          within = r.within;
          bound = r.bound;
          held = omega arith;
          few = omega arith;
          each_seat = seats_set (Fine (n + 1) r.served (put r.owner n id) r.busy r.log r.next r.keeper r.seat_of) s.views id w
              ((below, omega arith, put_here r.owner n id), known.1, owns_stage r.next r.keeper r.seat_of r.log id d (Waiting n) lives known.2)
              (λ j e other there. let k = r.each_seat j e there in (still_knows n r.served r.owner r.busy r.log id j e.seen e.stage k.0, k.1, k.2));
          slot = slot_stays r.busy r.served (r.owner r.served) (put r.owner n id r.served) id r.log s.homes s.views d w at (no_turn r.served d.stage is)
              (λ b. let low : r.served < n = turn_drawn s r r.busy r.slot b in put_else r.owner n id r.served (λ e. omega arith)) r.slot;
        },
        (n, r.ticket_is, refl),
      )

  -- nothing changes
  stays : (s : St) (r : Rule s) (i id : ℕ) (c : List (ℕ × Option T)) (d : D) → get_elem? s.views id ≡ some d → Rule (stepped s i (get_or s.words i 0) id c d keeps)
  stays s r i id c d at = subst (λ (x : List ℕ × List D). Rule record { words = x.0; homes = s.homes; views = x.1 }) (λ k. (sym (set-get_or s.words i 0) k, sym (set_again s.views id d at) k)) r

  there_set : (vs : List D) (i : ℕ) (v w : D) → get_elem? vs i ≡ some v → get_elem? (set vs i w) i ≡ some w
  there_set [] i v w e = absurd (cc)
  there_set (y ∷ ys) zero v w e = refl
  there_set (y ∷ ys) (suc i) v w e = there_set ys i v w e

  -- the step can go on, and keeps the rule
  abbrev Goes : St → ℕ → ℕ → M → (ℕ → M → Type 0) → ℕ → Type 0
  Goes s i id me told x = (w : D) × (a : Act (Option T)) × Valid s.homes me.1 a × Rule (stepped s i x id me.1 w a) × told (get_or s.words i 0) (w, carried_after me.1 a)

  waiting_not : (served p : ℕ) (st : Stage E) → st ≡ Waiting p → HasTurn served st → ⊥
  waiting_not served p st is h = subst (HasTurn served) is h

  based_home : (ob : Option B) (b : B) (seen told : List E) → ob ≡ Some b → Based base entries sound number home opened most ob seen told → Some home ≡ ob
  based_home None b seen told is k = absurd (cc)
  based_home (Some c) b seen told is k = ap Some (sym k.0)

  -- a seat whose ticket is served takes the slot
  served_now : (b : Bool) (s : St) (r : Rule s) (id : ℕ) (me : M) (p : ℕ) (c : B) → me.0.stage ≡ Waiting p → me.0.base ≡ Some c → get_elem? s.views id ≡ some me.0 → r.busy ≡ b → r.served ≡ p
      → Slot b r.served (r.owner r.served) r.log s.homes s.views → Goes s 2 id me (λ n m'. Serves base entries number p me m') (get_or s.words 2 0)
  served_now true s r id me p c is cs at busy now slot =
      let k = subst (Knows r.drawn r.served r.owner r.busy r.log id me.0.seen) is (r.each_seat id me.0 at).0 in
      let mine : r.owner r.served ≡ id = ap r.owner now ∙ k.2 in
      absurd (waiting_not r.served p me.0.stage is (subst (λ (z : D). HasTurn r.served z.stage) (some-injective slot.0 me.0 (sym (subst (λ (i : ℕ). get_elem? s.views i ≡ some slot.0) mine slot.1) ∙ at)) slot.2))
  served_now false s r id me p c is cs at busy now slot =
      let known = r.each_seat id me.0 at in
      let k = subst (Knows r.drawn r.served r.owner r.busy r.log id me.0.seen) is known.0 in
      let d : D = me.0 in
      let x : T = slot.0 in
      let w : D = at_stage (Served p (entries x)) d in
      let one = total_set tickets s.views id d w at in
      let two = total_set places s.views id d w at in
      let held = r.held in
      let few = r.few in
      let three = total_set lefts s.views id d w at in
      let left_over = r.left_over in
      let holds : tickets_of d.stage ≡ 1 = ap tickets_of is in
      let lives : lives_of d.stage ≡ 1 = ap lives_of is in
      let mine : r.owner r.served ≡ id = ap r.owner now ∙ k.2 in (
        w,
        takes 0 (Some x),
        slot.3,
        subst (λ (ws : List ℕ). Rule record { words = ws; homes = set s.homes 0 none; views = set s.views id w }) (sym (set-get_or s.words 2 0)) record {
          drawn = r.drawn;
          served = r.served;
          owner = r.owner;
          busy = true;
          log = r.log;
          next = r.next;
          keeper = r.keeper;
          seat_of = r.seat_of;
          wide = r.wide;
          long = length-set s.homes 0 none ∙ r.long;
          length_is = r.length_is;
          ticket_is = r.ticket_is;
          serving_is = r.serving_is;
          next_is = r.next_is;
          left_over = omega arith;
          unused = r.unused;
          within = r.within;
          bound = r.bound;
          held = omega arith;
          few = omega arith;
          each_seat = seats_set (Fine r.drawn r.served r.owner true r.log r.next r.keeper r.seat_of) s.views id w
              ((sym now, k.1, k.2, refl, slot.2), known.1, owns_stage r.next r.keeper r.seat_of r.log id d (Served p (entries x)) lives known.2)
              (λ j e other there. let h = r.each_seat j e there in (now_busy r.drawn r.served r.owner r.log j e.seen e.stage (subst (λ (b : Bool). Knows r.drawn r.served r.owner b r.log j e.seen e.stage) busy h.0), h.1, h.2));
          slot = (w, subst (λ (i : ℕ). get_elem? (set s.views id w) i ≡ some w) (sym mine) (there_set s.views id d w at), sym now, set_here s.homes 0 none (let long = r.long in omega arith));
        },
        (x, ap Some slot.1 ∙ based_home d.base c d.seen d.told cs known.1.2, subst (IsPrefix d.seen) (sym slot.2) known.1.0, subst (λ (l : List E). NoneBy number d.who.number (drop (length d.seen) l)) (sym slot.2) (known.2.1 lives).4, refl),
      )

  pub looks : (slots id : ℕ) (me : M) (p : ℕ) (c : B) → me.0.stage ≡ Waiting p → me.0.base ≡ Some c → Allows Rule slots id me 2 (λ n. n) (looked base entries number (step slots 2 0 0 none) me)
  looks slots id me p c is cs s r wide at small =
      let k = subst (Knows r.drawn r.served r.owner r.busy r.log id me.0.seen) is (r.each_seat id me.0 at).0 in
      let found : ℕ = get_or s.words 2 0 in
      let one_p : (q : ℕ) → me.0.stage ≡ Waiting q → p ≡ q = λ q e. ap ticket_of (sym is ∙ e) in
      let t = total_least tickets places s.views (λ d. let f = few_tickets d.stage in omega arith) in
      let held = r.held in
      let few = r.few in
      let bound = r.bound in
      let low : r.served ≤ p = k.0 in
      let high : p < r.drawn = k.1 in
      dite (ℕ_discrete found (p % 2 ^ 64))
      (λ hit.
      let now : r.served ≡ p = one_turn r.served p (2 ^ 64) low (omega arith) (sym r.serving_is ∙ hit) in
      let go = served_now r.busy s r id me p c is cs at refl now r.slot in
      let after : M = (go.0, carried_after me.1 go.1) in (
        go.0,
        go.1,
        go.2,
        go.3,
        λ q b e _. subst (λ (z : ℕ). (found ≡ z % 2 ^ 64 → Serves base entries number z me after) × (found ≢ z % 2 ^ 64 → after ≡ me)) (one_p q e)
            ((λ _. go.4), λ (miss : found ≢ p % 2 ^ 64). absurd {A = after ≡ me} (miss hit)),
      ))
      (λ miss. (me.0, keeps, tt, stays s r 2 id me.1 me.0 at, λ q b e _. ((λ hit. absurd (miss (hit ∙ ap (λ (z : ℕ). z % 2 ^ 64) (sym (one_p q e))))), λ _. refl)))

  -- the seat that has the turn fixes a history, and is done
  pub fixes : (slots id : ℕ) (d : D) (c : List (ℕ × Option T)) (p k : ℕ) (old news : List E) → d.stage ≡ Served p old → d.base ≡ Some home → AtMostOneMore number d.who.number old news → length news ≡ length old + k → sound home news
      → Allows Rule slots id (d, c) 0 (λ n. (n + k) % 2 ^ 64) (fixed news (step slots 0 k 0 none) (d, c))
  fixes slots id d c p k old news is based longer_by more fits s r wide at small =
      let known = r.each_seat id d at in
      let has = subst (Knows r.drawn r.served r.owner r.busy r.log id d.seen) is known.0 in
      let was : old ≡ r.log = has.4 in
      let w : D = view (Done (ticket_of d.stage)) d.free d.base news d.told d.who in
      let new : ℕ = (get_or s.words 0 0 + k) % 2 ^ 64 in
      let one = total_set tickets s.views id d w at in
      let two = total_set places s.views id d w at in
      let held = r.held in
      let few = r.few in
      let holds : tickets_of d.stage ≡ 1 = ap tickets_of is in
      let lives : lives_of d.stage ≡ 1 = ap lives_of is in
      let ticket : ticket_of d.stage ≡ p = ap ticket_of is in
      let mine : r.owner r.served ≡ id = ap r.owner (sym has.0) ∙ has.2 in
      let adds : AtMostOneMore number d.who.number r.log news = subst (λ (l : List E). AtMostOneMore number d.who.number l news) was longer_by in
      let grows : IsPrefix r.log news = begins_more d.who.number r.log news adds in
      let three = total_set lefts s.views id d w at in
      let left_over = r.left_over in
      let mine_own = known.2.1 lives in
      let within = r.within in
      let longer_now : length r.log ≤ length news = prefix_length r.log news grows in
      let mine_told = subst (λ (b : Option B). Based base entries sound number home opened most b d.seen d.told) based known.1.2 in (
        w,
        keeps,
        tt,
        record {
          drawn = r.drawn;
          served = r.served;
          owner = r.owner;
          busy = r.busy;
          log = news;
          next = r.next;
          keeper = r.keeper;
          seat_of = r.seat_of;
          wide = length-set s.words 0 new ∙ r.wide;
          long = r.long;
          length_is = get_or-set_same s.words 0 new 0 (let wide = r.wide in omega arith)
              ∙ (ap (λ (x : ℕ). (x + k) % 2 ^ 64) r.length_is ∙ (mod-add-mod (length r.log) (2 ^ 64) k ∙ ap (λ (x : ℕ). x % 2 ^ 64) (sym (more ∙ ap (λ (l : List E). length l + k) was))));
          ticket_is = get_or-set_other s.words 0 1 new 0 (λ e. omega arith) ∙ r.ticket_is;
          serving_is = get_or-set_other s.words 0 2 new 0 (λ e. omega arith) ∙ r.serving_is;
          next_is = get_or-set_other s.words 0 3 new 0 (λ e. omega arith) ∙ r.next_is;
          left_over = omega arith;
          unused = λ n le. let low : d.who.number < r.next = mine_own.0 in none_news number d.who.number n opened r.log news adds (λ e. omega arith) r.within (r.unused n le);
          within = omega arith;
          bound = r.bound;
          held = omega arith;
          few = omega arith;
          each_seat = seats_set (Fine r.drawn r.served r.owner r.busy news r.next r.keeper r.seat_of) s.views id w (
            subst (λ (q : ℕ). (q ≡ r.served) × (q < r.drawn) × (r.owner q ≡ id) × (r.busy ≡ true) × (news ≡ news)) (sym ticket) (has.0, has.1, has.2, has.3, refl),
            (prefix_self news, prefix_trans d.told r.log news known.1.1 grows, subst (λ (b : Option B). Based base entries sound number home opened most b news d.told) (sym based) (refl, fits, mine_told.2)),
            (known.2.0, λ _. (mine_own.0, mine_own.1, mine_own.2, omega arith, none_past number d.who.number news, pending_fixed d.who.number id r d.who.pending mine_own.5 adds)),
          )
              (λ j e other there. let h = r.each_seat j e there in (others_fixed r.drawn r.served id j r.owner r.busy r.log news mine other e.seen e.stage h.0, sees_more r.log news e grows h.1, owns_fixed number opened r.next r.keeper r.seat_of d.who.number id j r.log news e mine_own.1 other adds r.within h.1.0 h.2));
          slot = slot_fixed r.busy s r id d w at mine (ticket ∙ has.0) r.slot has.3;
        },
        refl,
      )
    where
      pending_fixed : (mine id : ℕ) {s : St} (r : Rule s) (q : Option ℕ) → IsPending number opened r.next r.keeper r.seat_of r.log id mine q → AtMostOneMore number mine r.log news → IsPending number opened r.next r.keeper r.seat_of news id mine q
      pending_fixed mine id r None k adds = tt
      pending_fixed mine id r (Some n) k adds = (k.0, k.1, k.2, none_news number mine n opened r.log news adds (λ e. k.2 (sym e)) r.within k.3)

      slot_fixed : (b : Bool) (s : St) (r : Rule s) (id : ℕ) (d w : D) → get_elem? s.views id ≡ some d → r.owner r.served ≡ id → HasTurn r.served w.stage → Slot b r.served (r.owner r.served) r.log s.homes s.views → b ≡ true
          → Slot b r.served (r.owner r.served) news s.homes (set s.views id w)
      slot_fixed false s r id d w at mine has slot is = absurd (true≢false (sym is))
      slot_fixed true s r id d w at mine has slot is = (w, subst (λ (i : ℕ). get_elem? (set s.views id w) i ≡ some w) (sym mine) (there_set s.views id d w at), has, slot.3)

  -- a seat that is done gives the slot back, and its ticket up
  pub passes : (slots id : ℕ) (d : D) (p : ℕ) (x : T) → d.stage ≡ Done p → base x ≡ home → entries x ≡ d.seen → Allows Rule slots id (d, (0, Some x) ∷ []) 2 (λ n. (n + 1) % 2 ^ 64) (passed (step slots 2 1 0 none) (d, (0, Some x) ∷ []))
  passes slots id d p x is based whole s r wide at small =
      let known = r.each_seat id d at in
      let k = subst (Knows r.drawn r.served r.owner r.busy r.log id d.seen) is known.0 in
      let w : D = at_stage Idle d in
      let new : ℕ = (get_or s.words 2 0 + 1) % 2 ^ 64 in
      let one = total_set tickets s.views id d w at in
      let two = total_set places s.views id d w at in
      let held = r.held in
      let few = r.few in
      let three = total_set lefts s.views id d w at in
      let left_over = r.left_over in
      let holds : tickets_of d.stage ≡ 1 = ap tickets_of is in
      let lives : lives_of d.stage ≡ 1 = ap lives_of is in
      let mine : r.owner r.served ≡ id = ap r.owner (sym k.0) ∙ k.2 in (
        w,
        gives,
        tt,
        record {
          drawn = r.drawn;
          served = r.served + 1;
          owner = r.owner;
          busy = false;
          log = r.log;
          next = r.next;
          keeper = r.keeper;
          seat_of = r.seat_of;
          wide = length-set s.words 2 new ∙ r.wide;
          long = length-set s.homes 0 (some (Some x)) ∙ r.long;
          length_is = get_or-set_other s.words 2 0 new 0 (λ e. omega arith) ∙ r.length_is;
          ticket_is = get_or-set_other s.words 2 1 new 0 (λ e. omega arith) ∙ r.ticket_is;
          serving_is = get_or-set_same s.words 2 new 0 (let wide = r.wide in omega arith) ∙ (ap (λ (x : ℕ). (x + 1) % 2 ^ 64) r.serving_is ∙ mod-add-mod r.served (2 ^ 64) 1);
          next_is = get_or-set_other s.words 2 3 new 0 (λ e. omega arith) ∙ r.next_is;
          left_over = omega arith;
          unused = r.unused;
          within = r.within;
          bound = r.bound;
          held = omega arith;
          few = omega arith;
          each_seat = seats_set (Fine r.drawn (r.served + 1) r.owner false r.log r.next r.keeper r.seat_of) s.views id w
              (tt, known.1, owns_stage r.next r.keeper r.seat_of r.log id d Idle lives known.2)
              (λ j e other there. let h = r.each_seat j e there in (still_waits r.drawn r.served id j r.owner r.busy r.log mine other e.seen e.stage h.0, h.1, h.2));
          slot = (x, based, whole ∙ k.4, set_here s.homes 0 (some (Some x)) (let long = r.long in omega arith));
        },
        refl,
      )

  -- a step of the views alone
  with_views : (s : St) (r : Rule s) (views : List D) (keeper : ℕ) (seat_of : ℕ → ℕ) → total tickets views ≡ total tickets s.views → total lefts views ≡ total lefts s.views → total places views ≤ most
      → ((j : ℕ) (d : D) → get_elem? views j ≡ some d → Fine r.drawn r.served r.owner r.busy r.log r.next keeper seat_of j d)
      → Slot r.busy r.served (r.owner r.served) r.log s.homes views → Rule record { words = s.words; homes = s.homes; views = views }
  with_views s r views keeper seat_of same left few each slot = record {
    drawn = r.drawn;
    served = r.served;
    owner = r.owner;
    busy = r.busy;
    log = r.log;
    next = r.next;
    keeper = keeper;
    seat_of = seat_of;
    wide = r.wide;
    long = r.long;
    length_is = r.length_is;
    ticket_is = r.ticket_is;
    serving_is = r.serving_is;
    next_is = r.next_is;
    left_over = ap (λ (n : ℕ). r.next + n) left ∙ r.left_over;
    unused = r.unused;
    within = r.within;
    bound = r.bound;
    held = r.held ∙ ap (λ (n : ℕ). r.served + n) (sym same);
    few = few;
    each_seat = each;
    slot = slot;
  }

  nothing : (log : List E) → Sees log spent
  nothing log = ((log, refl), (log, refl), tt)

  -- a note_of lives not, and has no number left
  owns_nothing : (next keeper : ℕ) (seat_of : ℕ → ℕ) (log : List E) (j : ℕ) (d : D) → d.stage ≡ Spent → d.who.left ≡ 0 → Owns number opened next keeper seat_of log j d
  owns_nothing next keeper seat_of log j d gone zero_left = ((λ lt. absurd (omega arith)), λ lives. let e : lives_of d.stage ≡ 0 = ap lives_of gone in absurd (omega arith))

  pub notes : (id : ℕ) (d : D) → Splits Rule id d d (note_of d)
  notes id d s r at =
      let v : D = note_of d in
      let same : set s.views id d ≡ s.views = set_again s.views id d at in
      subst (λ (vs : List D). Rule record { words = s.words; homes = s.homes; views = vs ++ v ∷ [] }) (sym same)
      (with_views s r (s.views ++ v ∷ []) r.keeper r.seat_of (let t = total_snoc tickets s.views v in omega arith) (let t = total_snoc lefts s.views v in omega arith) (let t = total_snoc places s.views v in let few = r.few in omega arith)
      (λ j e there. ⊎_elim (r.each_seat j e)
      (λ (is : v ≡ e). subst (Fine r.drawn r.served r.owner r.busy r.log r.next r.keeper r.seat_of j) is (tt, (r.each_seat id d at).1, owns_nothing r.next r.keeper r.seat_of r.log j v refl refl))
      (at_snoc s.views v e j there))
      (slot_longer r.busy r.served (r.owner r.served) r.log s.homes s.views v r.slot))

  -- the seat draws the number that the word shows
  pub numbers : (slots id : ℕ) (me : M) → me.0.stage ≡ Idle → me.0.who.pending ≡ None → 0 < me.0.who.left → Allows Rule slots id me 3 (λ n. (n + 1) % 2 ^ 64) (drew_number number (step slots 3 1 0 none) me)
  numbers slots id me is settled some_left s r wide at small =
      let d : D = me.0 in
      let n : ℕ = r.next in
      let w : D = view d.stage d.free d.base d.seen d.told (who_is d.who.number (d.who.left - 1) d.who.opened (Some (get_or s.words 3 0))) in
      let new : ℕ = (get_or s.words 3 0 + 1) % 2 ^ 64 in
      let one = total_set tickets s.views id d w at in
      let two = total_set places s.views id d w at in
      let three = total_set lefts s.views id d w at in
      let left_over = r.left_over in
      let found : get_or s.words 3 0 ≡ n = r.next_is in
      let held = r.held in
      let few = r.few in
      let lives : lives_of d.stage ≡ 1 = ap lives_of is in
      let quiet : tickets_of d.stage ≡ 0 = ap tickets_of is in
      let known = r.each_seat id d at in
      let owns = known.2.1 lives in
      let low : d.who.number < n = owns.0 in
      let mine : id ≡ r.keeper = known.2.0 some_left in
      let all : total lefts s.views ≡ d.who.left = total_only lefts s.views id d at (λ j e there apart. let h = (r.each_seat j e there).2.0 in not_positive e.who.left (λ lt. apart (h lt ∙ sym mine))) in
      let is_new : new ≡ n + 1 = ap (λ (x : ℕ). (x + 1) % 2 ^ 64) found ∙ mod-eq_of_lt (omega arith) in
      let unused : NoneBy number n (drop opened r.log) = r.unused n (omega arith) in (
        w,
        keeps,
        tt,
        record {
          drawn = r.drawn;
          served = r.served;
          owner = r.owner;
          busy = r.busy;
          log = r.log;
          next = n + 1;
          keeper = r.keeper;
          seat_of = put r.seat_of n id;
          wide = length-set s.words 3 new ∙ r.wide;
          long = r.long;
          length_is = get_or-set_other s.words 3 0 new 0 (λ e. omega arith) ∙ r.length_is;
          ticket_is = get_or-set_other s.words 3 1 new 0 (λ e. omega arith) ∙ r.ticket_is;
          serving_is = get_or-set_other s.words 3 2 new 0 (λ e. omega arith) ∙ r.serving_is;
          next_is = get_or-set_same s.words 3 new 0 (let wide = r.wide in omega arith) ∙ is_new;
          left_over = omega arith;
          unused = λ m le. r.unused m (omega arith);
          within = r.within;
          bound = r.bound;
          held = omega arith;
          few = omega arith;
          each_seat = seats_set (Fine r.drawn r.served r.owner r.busy r.log (n + 1) r.keeper (put r.seat_of n id)) s.views id w (
            quiet_knows r.drawn r.served r.owner r.busy r.log id w.seen w.stage quiet,
            known.1,
            (
              (λ _. mine),
              λ _. (
                omega arith,
                put_else r.seat_of n id d.who.number (λ e. omega arith) ∙ owns.1,
                owns.2,
                owns.3,
                owns.4,
                subst (λ (m : ℕ). (m < n + 1) × (put r.seat_of n id m ≡ id) × (m ≢ d.who.number) × NoneBy number m (drop opened r.log)) (sym found) (omega arith, put_here r.seat_of n id, (λ e. omega arith), unused),
              ),
            ),
          )
              (λ j e other there. let h = r.each_seat j e there in (h.0, h.1, owns_drawn number opened n r.keeper r.seat_of id j r.log e h.2));
          slot = slot_stays r.busy r.served (r.owner r.served) (r.owner r.served) id r.log s.homes s.views d w at (no_turn r.served d.stage is) (λ _. refl) r.slot;
        },
        (
          ap (λ (x : ℕ). x + d.who.left) found ∙ (ap (λ (x : ℕ). n + x) (sym all) ∙ left_over),
          subst (λ (m : ℕ). NoneBy number m (drop d.who.opened d.seen)) (sym found)
              (subst (λ (k : ℕ). NoneBy number n (drop k d.seen)) (sym owns.2) (none_front number n opened d.seen r.log known.1.0 owns.3 unused)),
          refl,
        ),
      )
    where
      not_positive : (n : ℕ) → (0 < n → ⊥) → n ≡ 0
      not_positive zero h = refl
      not_positive (suc n) h = absurd (h (omega arith))

  pub splits : (id : ℕ) (d : D) (m : ℕ) → d.stage ≡ Idle → 0 < d.free → d.who.pending ≡ Some m → Splits Rule id d (kept_part d) (new_part d)
  splits id d m is room drew s r at =
      let w : D = kept_part d in
      let v : D = new_part d in
      let vs : List D = set s.views id w in
      let here : ℕ = length vs in
      let one = total_set tickets s.views id d w at in
      let two = total_set places s.views id d w at in
      let left = total_set lefts s.views id d w at in
      let three = total_snoc tickets vs v in
      let four = total_snoc places vs v in
      let left' = total_snoc lefts vs v in
      let few = r.few in
      let quiet : tickets_of d.stage ≡ 0 = ap tickets_of is in
      let lives : lives_of d.stage ≡ 1 = ap lives_of is in
      let known = r.each_seat id d at in
      let owns = known.2.1 lives in
      let pend : IsPending number opened r.next r.keeper r.seat_of r.log id d.who.number (Some m) = subst (IsPending number opened r.next r.keeper r.seat_of r.log id d.who.number) drew owns.5 in
      let seat_of : ℕ → ℕ = put r.seat_of m here in
      let new_is : pending_or d.who.pending ≡ m = ap pending_or drew in
      with_views s r (vs ++ v ∷ []) r.keeper seat_of (omega arith) (omega arith) (omega arith)
      (λ j e there. ⊎_elim
      (seats_set (Fine r.drawn r.served r.owner r.busy r.log r.next r.keeper seat_of) s.views id w
      (known.0, known.1, (known.2.0, λ _. (owns.0, put_else r.seat_of m here d.who.number (λ e. pend.2 (sym e)) ∙ owns.1, owns.2, owns.3, owns.4, tt)))
      (λ j e other there. let h = r.each_seat j e there in (h.0, h.1, others_named r id m here j e other pend.1 h.2))
      j e)
      (λ (t : (j ≡ here) × (v ≡ e)). subst (λ (z : ℕ × D). Fine r.drawn r.served r.owner r.busy r.log r.next r.keeper seat_of z.0 z.1) (λ i. (sym t.0 i, t.1 i)) (
        tt,
        known.1,
        (
          (λ lt. absurd (omega arith)),
          λ _. subst (λ (n : ℕ). (n < r.next) × (seat_of n ≡ here) × (d.who.opened ≡ opened) × (opened ≤ length d.seen) × NoneBy number n (drop (length d.seen) r.log) × Unit {0}) (sym new_is)
              (pend.0, put_here r.seat_of m here, owns.2, owns.3, none_deeper number m opened (length d.seen) r.log owns.3 pend.3, tt),
        ),
      ))
      (snoc_at vs v e j there))
      (slot_longer r.busy r.served (r.owner r.served) r.log s.homes vs v (slot_stays r.busy r.served (r.owner r.served) (r.owner r.served) id r.log s.homes s.views d w at (no_turn r.served d.stage is) (λ _. refl) r.slot))
    where
      others_named : {s : St} (r : Rule s) (id m here j : ℕ) (e : D) → j ≢ id → r.seat_of m ≡ id → Owns number opened r.next r.keeper r.seat_of r.log j e → Owns number opened r.next r.keeper (put r.seat_of m here) r.log j e
      others_named r id m here j e other mine o = (
        o.0,
        λ lives. let h = o.1 lives in
            (owns_named number opened r.next r.keeper r.seat_of m here j r.log e (λ same. other (sym h.1 ∙ (ap r.seat_of same ∙ mine)))
            (λ n is same. let k : IsPending number opened r.next r.keeper r.seat_of r.log j e.who.number (Some n) = subst (IsPending number opened r.next r.keeper r.seat_of r.log j e.who.number) is h.5 in other (sym k.1 ∙ (ap r.seat_of same ∙ mine))) o).1 lives,
      )

  quiet_set : (s : St) (r : Rule s) (keeper : ℕ) (views : List D) (id : ℕ) (d w : D) → get_elem? views id ≡ some d → tickets_of w.stage ≡ 0 → Sees r.log w → Owns number opened r.next keeper r.seat_of r.log id w
      → ((j : ℕ) (e : D) → j ≢ id → get_elem? views j ≡ some e → Fine r.drawn r.served r.owner r.busy r.log r.next keeper r.seat_of j e)
      → (j : ℕ) (e : D) → get_elem? (set views id w) j ≡ some e → Fine r.drawn r.served r.owner r.busy r.log r.next keeper r.seat_of j e
  quiet_set s r keeper views id d w at quiet saw owns each = seats_set (Fine r.drawn r.served r.owner r.busy r.log r.next keeper r.seat_of) views id w
      (quiet_knows r.drawn r.served r.owner r.busy r.log id w.seen w.stage quiet, saw, owns) each

  -- what one seat knows of the history, when it is told what another has seen
  sees_told : (log : List E) (d e : D) (free : ℕ) → d.base ≡ Some home → e.base ≡ Some home → Sees log d → Sees log e → IsPrefix d.seen log × IsPrefix e.seen log × Based base entries sound number home opened most d.base d.seen e.seen
  sees_told log d e free based based' saw saw' =
      let b = subst (λ (b : Option B). Based base entries sound number home opened most b d.seen d.told) based saw.2 in
      let b' = subst (λ (b : Option B). Based base entries sound number home opened most b e.seen e.told) based' saw'.2 in
      (saw.0, saw'.0, subst (λ (b : Option B). Based base entries sound number home opened most b d.seen e.seen) (sym based) (refl, b.1, b'.1))

  pub tells : (id : ℕ) (d : D) (other : ℕ) (e : D) → d.stage ≡ Idle → e.stage ≡ Spent → e.who.left ≡ 0 → d.base ≡ Some home → e.base ≡ Some home → Joins Rule id d other e (informed d e) spent
  tells id d other e is gone zero_left based based' s r at apart there =
      let w : D = informed d e in
      let vs : List D = set s.views id w in
      let there' : get_elem? s.views other ≡ some e = sym (set_else s.views id other w apart) ∙ there in
      let one = total_set tickets s.views id d w at in
      let two = total_set places s.views id d w at in
      let left = total_set lefts s.views id d w at in
      let three = total_set tickets vs other e spent there in
      let four = total_set places vs other e spent there in
      let left' = total_set lefts vs other e spent there in
      let few = r.few in
      let quiet : tickets_of d.stage ≡ 0 = ap tickets_of is in
      let quiet' : tickets_of e.stage ≡ 0 = ap tickets_of gone in
      let known = r.each_seat id d at in
      with_views s r (set vs other spent) r.keeper r.seat_of (omega arith) (omega arith) (omega arith)
      (quiet_set s r r.keeper vs other e spent there refl (nothing r.log) (owns_nothing r.next r.keeper r.seat_of r.log other spent refl refl)
      (λ j u _ at'. quiet_set s r r.keeper s.views id d w at quiet (sees_told r.log d e 0 based based' known.1 (r.each_seat other e there').1) known.2 (λ i v _ h. r.each_seat i v h) j u at'))
      (slot_stays r.busy r.served (r.owner r.served) (r.owner r.served) other r.log s.homes vs e spent there (λ h. subst (HasTurn r.served) gone h) (λ _. refl)
      (slot_stays r.busy r.served (r.owner r.served) (r.owner r.served) id r.log s.homes s.views d w at (no_turn r.served d.stage is) (λ _. refl) r.slot))

  -- a seat takes in another, with its numbers
  pub merges : (id : ℕ) (d : D) (other : ℕ) (e : D) → d.stage ≡ Idle → e.stage ≡ Idle → d.base ≡ Some home → e.base ≡ Some home → Joins Rule id d other e (merged d e) spent
  merges id d other e is is' based based' s r at apart there =
      let w : D = merged d e in
      let vs : List D = set s.views id w in
      let there' : get_elem? s.views other ≡ some e = sym (set_else s.views id other w apart) ∙ there in
      let one = total_set tickets s.views id d w at in
      let two = total_set places s.views id d w at in
      let left = total_set lefts s.views id d w at in
      let three = total_set tickets vs other e spent there in
      let four = total_set places vs other e spent there in
      let left' = total_set lefts vs other e spent there in
      let few = r.few in
      let quiet : tickets_of d.stage ≡ 0 = ap tickets_of is in
      let quiet' : tickets_of e.stage ≡ 0 = ap tickets_of is' in
      let lives : lives_of d.stage ≡ 1 = ap lives_of is in
      let lives' : lives_of e.stage ≡ 1 = ap lives_of is' in
      let known = r.each_seat id d at in
      let known' = r.each_seat other e there' in
      let keep = keeper_after id d.who.left other e.who.left r.keeper known.2.0 known'.2.0 in
      with_views s r (set vs other spent) keep.0 r.seat_of (omega arith) (omega arith) (omega arith)
      (quiet_set s r keep.0 vs other e spent there refl (nothing r.log) (owns_nothing r.next keep.0 r.seat_of r.log other spent refl refl)
      (λ j u not at'. ⊎_elim
      (λ (t : (j ≡ id) × (w ≡ u)). subst (λ (z : ℕ × D). Fine r.drawn r.served r.owner r.busy r.log r.next keep.0 r.seat_of z.0 z.1) (λ i. (sym t.0 i, t.1 i))
      (quiet_knows r.drawn r.served r.owner r.busy r.log id w.seen w.stage quiet, sees_told r.log d e 0 based based' known.1 known'.1, (keep.1, λ _. known.2.1 lives)))
      (λ (t : (j ≢ id) × (get_elem? s.views j ≡ some u)). let h = r.each_seat j u t.1 in (h.0, h.1, ((λ lt. keep.2 j t.0 not (h.2.0 lt)), h.2.1)))
      (at_set s.views id j w u at')))
      (slot_stays r.busy r.served (r.owner r.served) (r.owner r.served) other r.log s.homes vs e spent there (no_turn r.served e.stage is') (λ _. refl)
      (slot_stays r.busy r.served (r.owner r.served) (r.owner r.served) id r.log s.homes s.views d w at (no_turn r.served d.stage is) (λ _. refl) r.slot))
    where
      either_one : (id a b keeper : ℕ) → (0 < a → id ≡ keeper) → (0 < b → ⊥) → 0 < a + b → id ≡ keeper
      either_one id zero b keeper mine not lt = absurd (not (omega arith))
      either_one id (suc a) b keeper mine not lt = mine (omega arith)

      keeper_after : (id a other b keeper : ℕ) → (0 < a → id ≡ keeper) → (0 < b → other ≡ keeper) → (k : ℕ) × (0 < a + b → id ≡ k) × ((j : ℕ) → j ≢ id → j ≢ other → j ≡ keeper → j ≡ k)
      keeper_after id a other b keeper mine theirs = dite (ℕ_discrete keeper other)
          (λ e. (id, (λ _. refl), λ j _ not is. absurd (not (is ∙ e))))
          (λ ne. (keeper, (λ lt. either_one id a b keeper mine (λ h. ne (sym (theirs h))) lt), λ j _ _ is. is))

  pub learns : (slots id : ℕ) (me : M) → me.0.stage ≡ Idle → me.0.base ≡ Some home → Allows Rule slots id me 0 (λ n. n) (learned sound number (step slots 0 0 0 none) me)
  learns slots id me is based s r wide at small =
      let d : D = me.0 in
      let all : List E = longer d.seen d.told in
      let w : D = view d.stage d.free d.base all d.told d.who in
      let vs : List D = set s.views id w in
      let one = total_set tickets s.views id d w at in
      let two = total_set places s.views id d w at in
      let three = total_set lefts s.views id d w at in
      let few = r.few in
      let bound = r.bound in
      let left_over = r.left_over in
      let quiet : tickets_of d.stage ≡ 0 = ap tickets_of is in
      let lives : lives_of d.stage ≡ 1 = ap lives_of is in
      let known = r.each_seat id d at in
      let saw = known.1 in
      let owns = known.2.1 lives in
      let low : d.who.number < r.next = owns.0 in
      let b = subst (λ (b : Option B). Based base entries sound number home opened most b d.seen d.told) based saw.2 in
      let fits : sound home all = longer_is (sound home) d.seen d.told b.1 b.2 in
      let begins = longer_begins d.seen d.told r.log saw.0 saw.1 in
      let whole : IsPrefix all r.log = longer_is (λ (l : List E). IsPrefix l r.log) d.seen d.told saw.0 saw.1 in
      let more : length d.seen ≤ length all = prefix_length d.seen all begins.0 in
      let past : opened ≤ length d.seen = owns.3 in
      let left_most = at_most_total lefts s.views id d at in
      let place_most = at_most_total places s.views id d at in (
        w,
        keeps,
        tt,
        subst (λ (ws : List ℕ). Rule record { words = ws; homes = s.homes; views = vs }) (sym (set-get_or s.words 0 0))
            (with_views s r vs r.keeper r.seat_of (omega arith) (omega arith) (omega arith)
            (quiet_set s r r.keeper s.views id d w at quiet (whole, saw.1, subst (λ (b : Option B). Based base entries sound number home opened most b all d.told) (sym based) (refl, fits, b.2))
            (known.2.0, λ _. (owns.0, owns.1, owns.2, omega arith, none_deeper number d.who.number (length d.seen) (length all) r.log more owns.4, owns.5))
            (λ j e _ there. r.each_seat j e there))
            (slot_stays r.busy r.served (r.owner r.served) (r.owner r.served) id r.log s.homes s.views d w at (no_turn r.served d.stage is) (λ _. refl) r.slot)),
        (
          refl,
          begins.0,
          begins.1,
          (λ c e. subst (λ (z : B). sound z all) (some_is home c (sym based ∙ e)) fits),
          none_front number d.who.number (length d.seen) all r.log whole more owns.4,
          omega arith,
          omega arith,
          subst (λ (k : ℕ). k ≤ length d.seen) (sym owns.2) past,
        ),
      )
    where
      some_is : (x y : B) → Some x ≡ Some y → x ≡ y
      some_is x y e = cc

  -- the same, where the seat and the slots are known by equations
  pub passes_as : (slots id : ℕ) (me : M) (p : ℕ) (x : T) → me ≡ (view (Done p) me.0.free me.0.base (entries x) me.0.told me.0.who, (0, Some x) ∷ []) → base x ≡ home
      → Allows Rule slots id me 2 (λ n. (n + 1) % 2 ^ 64) (passed (step slots 2 1 0 none) me)
  passes_as slots id me p x is based = subst (λ (z : M). Allows Rule slots id z 2 (λ n. (n + 1) % 2 ^ 64) (passed (step slots 2 1 0 none) z)) (sym is) (passes slots id (view (Done p) me.0.free me.0.base (entries x) me.0.told me.0.who) p x refl based refl)

  pub fixes_as : (slots id : ℕ) (me : M) (k : ℕ) (news : List E) → me ≡ (at_stage (Served (ticket_of me.0.stage) (taken_of me.0.stage)) me.0, (0, None) ∷ []) → me.0.base ≡ Some home
      → AtMostOneMore number me.0.who.number (taken_of me.0.stage) news → length news ≡ length (taken_of me.0.stage) + k → sound home news → Allows Rule slots id me 0 (λ n. (n + k) % 2 ^ 64) (fixed news (step slots 0 k 0 none) me)
  fixes_as slots id me k news is based more long fits = fixes slots id me.0 me.1 (ticket_of me.0.stage) k (taken_of me.0.stage) news (ap (λ (z : M). z.0.stage) is) based more long fits
