-- What the automata of a point say of the next value.
use Rattle.std.proofs.Common.{◌≡◌, ◌≢◌, ◌⊎◌, ◌↔◌, ℕ, ◌+◌, ◌<◌, ◌≤◌, List, [], ◌∷◌, ◌++◌, length, get_or, take, Bool, true, false, cond, refl, ap, sym, subst, ◌∙◌, inl, inr, arith, IsTrue}
use Rattle.std.specs.Prelude.{Contains, AllPairs, slice_set}
use Rattle.std.proofs.lemmas.Bool.{false≢true, cases_lt}
use Rattle.std.proofs.lemmas.List.{append-nil, get_or-set_same, get_or-set_other, get_or_default, get_or-take, length-take-le, get_or_append_left}
use Rattle.std.proofs.Math.Seq.{get_or-append_seam}
use Rattle.std.proofs.lemmas.List.Elements.{Contains-append_left, Contains-append_right, Contains-append_cases, Contains-push, Contains-push_cases, Contains-get_or}
use Rattle.std.proofs.lemmas.List.Quantifiers.{all_pairs_push}
use Rattle.trans_seq.specs.Windows.{EndsKept, EndsWindow}
use Rattle.trans_auto.specs.State.{Stands}
use Rattle.design_data.specs.Laws.{Value}
use Rattle.word_table.specs.declared.row.PlacedWord.{PlacedWord}
use Rattle.word_table.specs.Placed.{HasPlace, EndsAt, AddsEnded}
use Rattle.word_table.proofs.Keeping.{last_itself}
use Rattle.point_tables.specs.declared.tables.Machine.{Machine}
use Rattle.point_tables.specs.declared.tables.Removers.{Removers}
use Rattle.point_sampler.specs.declared.plan.PointPlan.{PointPlan}
use Rattle.point_tables.specs.Tables.{removed_by}
use Rattle.point_sampler.specs.Points.{RunsStand, AreRecent}
use Rattle.point_sampler.specs.Met.{IsPlaceOf, MetBy, EndedBy, Answered, SomeTaken, Ascend, StandApart, IsTracePlace, AreTransMet}
use Rattle.point_tables.proofs.Places.{in_none}
use Rattle.point_sampler.proofs.Places.{once_append}

-- ---- what they say

pub answered_none : (removers : Removers) (w : List Value) (met : List ℕ) (ended : Bool) → met ≡ [] → ended ≡ false → Answered [] removers w met ended
answered_none removers w met ended e f = record {
  met_by = λ place. ((λ c. absurd (in_none place (subst (λ (m : List ℕ). Contains m place) e c))), (λ h. absurd (in_none h.machine h.is_one)));
  ended_by = ((λ t. absurd (false≢true (sym f ∙ t))), (λ h. absurd (in_none h.machine h.is_one)));
}

noted_cases : (counts : Bool) (met : List ℕ) (place p : ℕ) → Contains (cond counts (met ++ place ∷ []) met) p → Contains met p ⊎ ((counts ≡ true) × (place ≡ p))
noted_cases true met place p c = elim (Contains-push_cases met place p c) [ inl old ↦ inl old | inr e ↦ inr (refl, e) ]
noted_cases false met place p c = inl c

noted_old : (counts : Bool) (met : List ℕ) (place p : ℕ) → Contains met p → Contains (cond counts (met ++ place ∷ []) met) p
noted_old true met place p c = Contains-append_left met (place ∷ []) p c
noted_old false met place p c = c

noted_new : (counts : Bool) (met : List ℕ) (place : ℕ) → counts ≡ true → Contains (cond counts (met ++ place ∷ []) met) place
noted_new true met place e = Contains-push met place
noted_new false met place e = absurd (false≢true e)

module _ (removers : Removers) (w : List Value) (front : List Machine) (machine : Machine) where
  met_more : (p : ℕ) → MetBy front removers w p → MetBy (front ++ machine ∷ []) removers w p
  met_more p h = record { machine = h.machine; is_one = Contains-append_left front (machine ∷ []) h.machine h.is_one; is_place = h.is_place; kept = h.kept }

  met_here : EndsKept machine.watcher (removed_by removers machine.kind) w → MetBy (front ++ machine ∷ []) removers w machine.place
  met_here k = record { machine = machine; is_one = Contains-push front machine; is_place = refl; kept = k }

  met_cases : (p : ℕ) → MetBy (front ++ machine ∷ []) removers w p → MetBy front removers w p ⊎ ((machine.place ≡ p) × EndsKept machine.watcher (removed_by removers machine.kind) w)
  met_cases p h = elim (Contains-push_cases front machine h.machine h.is_one) [
    | inl old ↦ inl (record { machine = h.machine; is_one = old; is_place = h.is_place; kept = h.kept })
    | inr e ↦ inr (ap (λ (m : Machine). m.place) e ∙ h.is_place, subst (λ (m : Machine). EndsKept m.watcher (removed_by removers m.kind) w) (sym e) h.kept)
  ]

  ended_cases : EndedBy (front ++ machine ∷ []) w → EndedBy front w ⊎ EndsWindow machine.watcher w
  ended_cases h = elim (Contains-push_cases front machine h.machine h.is_one) [
    | inl old ↦ inl (record { machine = h.machine; is_one = old; ends = h.ends })
    | inr e ↦ inr (subst (λ (m : Machine). EndsWindow m.watcher w) (sym e) h.ends)
  ]

  pub answered_more : (counts ends : Bool) (met next : List ℕ) (ended now : Bool) → Answered front removers w met ended
      → (IsTrue counts ↔ EndsKept machine.watcher (removed_by removers machine.kind) w) → (IsTrue ends ↔ EndsWindow machine.watcher w)
      → next ≡ cond counts (met ++ machine.place ∷ []) met → (IsTrue now ↔ (IsTrue ended ⊎ IsTrue ends))
      → Answered (front ++ machine ∷ []) removers w next now
  answered_more counts ends met next ended now h says_counts says_ends is says_now = record {
    met_by = λ p. (
      (λ c. elim (noted_cases counts met machine.place p (subst (λ (m : List ℕ). Contains m p) is c)) [
        | inl old ↦ met_more p ((h.met_by p).0 old)
        | inr new ↦ subst (λ (q : ℕ). MetBy (front ++ machine ∷ []) removers w q) new.1 (met_here (says_counts.0 new.0))
      ]),
      (λ m. subst (λ (ps : List ℕ). Contains ps p) (sym is) (elim (met_cases p m) [
        | inl old ↦ noted_old counts met machine.place p ((h.met_by p).1 old)
        | inr new ↦ subst (λ (q : ℕ). Contains (cond counts (met ++ machine.place ∷ []) met) q) new.0 (noted_new counts met machine.place (says_counts.1 new.1))
      ])),
    );
    ended_by = (
      (λ t. elim (says_now.0 t) [
        | inl old ↦ let e = h.ended_by.0 old in record { machine = e.machine; is_one = Contains-append_left front (machine ∷ []) e.machine e.is_one; ends = e.ends }
        | inr new ↦ record { machine = machine; is_one = Contains-push front machine; ends = says_ends.0 new }
      ]),
      (λ e. elim (ended_cases e) [
        | inl old ↦ says_now.1 (inl (h.ended_by.1 old))
        | inr new ↦ says_now.1 (inr (says_ends.1 new))
      ]),
    );
  }

-- ---- where they stand

module _ (machines : List Machine) (removers : Removers) (w : List Value) (v : Value) where
  pub taken_first : (runs : List (List (ℕ × ℕ))) (k : ℕ) → k ≡ 0 → RunsStand machines removers runs w → SomeTaken machines removers w v k runs
  taken_first runs k e h = record { done = λ j d r lt within. absurd (omega (arith, lt, e)); left = λ j d r le within. h j d r within }

  pub taken_last : (runs : List (List (ℕ × ℕ))) (k : ℕ) → length machines ≤ k → SomeTaken machines removers w v k runs → RunsStand machines removers runs (w ++ v ∷ [])
  taken_last runs k le h = λ j d r lt. h.done j d r (omega (arith, le, lt)) lt

  abbrev At : ℕ → Machine → List (ℕ × ℕ) → List Value → Type 0
  At j d run u = Stands (get_or machines j d).watcher (removed_by removers (get_or machines j d).kind) run u

  pub taken_more : (runs : List (List (ℕ × ℕ))) (k : ℕ) (machine : Machine) (new : List (ℕ × ℕ)) → k < length machines → length runs ≡ length machines → machine ≡ get_or machines k machine
      → Stands machine.watcher (removed_by removers machine.kind) new (w ++ v ∷ []) → SomeTaken machines removers w v k runs → SomeTaken machines removers w v (k + 1) (slice_set runs k new)
  taken_more runs k machine new lt same is here h = record {
    done = λ j d r less within. elim (cases_lt j k) [
      | inl lower ↦ subst (λ (x : List (ℕ × ℕ)). At j d x (w ++ v ∷ [])) (sym (get_or-set_other runs k j new r (λ e. absurd (omega (arith, e, lower))))) (h.done j d r lower within)
      | inr past ↦ let e : k ≡ j = omega (arith, less, past) in
          subst (λ (i : ℕ). At i d (get_or (slice_set runs k new) i r) (w ++ v ∷ [])) e
          (subst (λ (x : List (ℕ × ℕ)). At k d x (w ++ v ∷ [])) (sym (get_or-set_same runs k new r (omega (arith, lt, same))))
          (subst (λ (m : Machine). Stands m.watcher (removed_by removers m.kind) new (w ++ v ∷ [])) (is ∙ get_or_default machines k machine d lt) here))
    ];
    left = λ j d r le within. subst (λ (x : List (ℕ × ℕ)). At j d x w) (sym (get_or-set_other runs k j new r (λ e. absurd (omega (arith, e, le))))) (h.left j d r (omega (arith, le)) within);
  }

-- ---- which places they give

pub place_more : (front : List Machine) (machine : Machine) (p : ℕ) → IsPlaceOf front p → IsPlaceOf (front ++ machine ∷ []) p
place_more front machine p h = record { machine = h.machine; is_one = Contains-append_left front (machine ∷ []) h.machine h.is_one; is_place = h.is_place }

pub among_more : (front : List Machine) (machine : Machine) (counts : Bool) (met next : List ℕ) → next ≡ cond counts (met ++ machine.place ∷ []) met
    → ((p : ℕ) → Contains met p → IsPlaceOf front p) → (p : ℕ) → Contains next p → IsPlaceOf (front ++ machine ∷ []) p
among_more front machine counts met next is h p c = elim (noted_cases counts met machine.place p (subst (λ (m : List ℕ). Contains m p) is c)) [
  | inl old ↦ place_more front machine p (h p old)
  | inr new ↦ record { machine = machine; is_one = Contains-push front machine; is_place = new.1 }
]

once_by : (counts : Bool) (met : List ℕ) (place : ℕ) → AllPairs (λ a b. a ≢ b) met → ((p : ℕ) → Contains met p → p < place) → AllPairs (λ a b. a ≢ b) (cond counts (met ++ place ∷ []) met)
once_by true met place h below = all_pairs_push (λ a b. a ≢ b) met place h (λ k d lt e. absurd (omega (arith, e, below (get_or met k d) (Contains-get_or met k d lt))))
once_by false met place h below = h

-- the places of the automata before the k-th are below its own
lower : (machines : List Machine) (k : ℕ) (machine : Machine) (p : ℕ) → Ascend machines → k < length machines → machine ≡ get_or machines k machine → IsPlaceOf (take k machines) p → p < machine.place
lower machines k machine p ascend lt is h =
    let j = h.is_one.0 in
    let within : j < k = omega (arith, h.is_one.1, length-take-le k machines (omega (arith, lt))) in
    let e : get_or machines j h.machine ≡ h.machine = sym (get_or-take k machines j h.machine within) ∙ h.is_one.2 in
    let less : (get_or machines j h.machine).place < (get_or machines k h.machine).place = ascend j k h.machine within lt in
    omega (arith, less, ap (λ (m : Machine). m.place) e, h.is_place, ap (λ (m : Machine). m.place) (is ∙ get_or_default machines k machine h.machine lt))

pub once_more : (machines : List Machine) (k : ℕ) (machine : Machine) (counts : Bool) (met next : List ℕ) → Ascend machines → k < length machines → machine ≡ get_or machines k machine
    → next ≡ cond counts (met ++ machine.place ∷ []) met → ((p : ℕ) → Contains met p → IsPlaceOf (take k machines) p) → AllPairs (λ a b. a ≢ b) met → AllPairs (λ a b. a ≢ b) next
once_more machines k machine counts met next ascend lt is e among once =
    subst (AllPairs (λ a b. a ≢ b)) (sym e) (once_by counts met machine.place once (λ p c. lower machines k machine p ascend lt is (among p c)))

-- ---- with the default sequences

joined_cases : (b : Bool) (met more : List ℕ) (p : ℕ) → Contains (cond b (met ++ more) met) p → Contains met p ⊎ ((b ≡ true) × Contains more p)
joined_cases true met more p c = elim (Contains-append_cases met more p c) [ inl old ↦ inl old | inr new ↦ inr (refl, new) ]
joined_cases false met more p c = inl c

joined_old : (b : Bool) (met more : List ℕ) (p : ℕ) → Contains met p → Contains (cond b (met ++ more) met) p
joined_old true met more p c = Contains-append_left met more p c
joined_old false met more p c = c

joined_new : (b : Bool) (met more : List ℕ) (p : ℕ) → b ≡ true → Contains more p → Contains (cond b (met ++ more) met) p
joined_new true met more p e c = Contains-append_right met more p c
joined_new false met more p e c = absurd (false≢true e)

joined_once : (b : Bool) (met more : List ℕ) → AllPairs (λ a b. a ≢ b) met → AllPairs (λ a b. a ≢ b) (met ++ more) → AllPairs (λ a b. a ≢ b) (cond b (met ++ more) met)
joined_once true met more h all = all
joined_once false met more h all = h

some_in : (found : List ℕ) (p : ℕ) → Contains found p → 0 < length found
some_in found p c = omega (arith, c.1)

module _ (plan : PointPlan) (w : List Value) (v : Value) (met found both next : List ℕ) (begun ended some now alone : Bool) (joined : both ≡ met ++ found) (is : next ≡ cond alone (both ++ plan.sequences.items) both) where
  in_both : (p : ℕ) → Contains both p → Contains met p ⊎ Contains found p
  in_both p c = Contains-append_cases met found p (subst (λ (ps : List ℕ). Contains ps p) joined c)

  met_both : (p : ℕ) → Contains met p → Contains both p
  met_both p c = subst (λ (ps : List ℕ). Contains ps p) (sym joined) (Contains-append_left met found p c)

  found_both : (p : ℕ) → Contains found p → Contains both p
  found_both p c = subst (λ (ps : List ℕ). Contains ps p) (sym joined) (Contains-append_right met found p c)

  pub trans_met : Answered plan.machines.items plan.removers (w ++ v ∷ []) met ended → ((p : ℕ) → Contains found p ↔ EndsAt plan.words (w ++ v ∷ []) p) → (IsTrue some ↔ (0 < length found)) → (IsTrue now ↔ (IsTrue ended ⊎ IsTrue some))
      → (0 < length plan.sequences.items → IsTrue begun ↔ (0 < length w))
      → (0 < length plan.sequences.items → IsTrue alone ↔ (IsTrue begun × (IsTrue now → ⊥) × (EndsWindow plan.others (w ++ v ∷ []) → ⊥)))
      → AreTransMet plan w v next
  trans_met h are is_some either later says = λ p. (
    (λ c. elim (joined_cases alone both plan.sequences.items p (subst (λ (m : List ℕ). Contains m p) is c)) [
      | inl old ↦ elim (in_both p old) [ inl m ↦ inl ((h.met_by p).0 m) | inr f ↦ inr (inl ((are p).0 f)) ]
      | inr new ↦
          let all = (says (some_in plan.sequences.items p new.1)).0 new.0 in
          inr (inr (
            new.1,
            record {
              later = (later (some_in plan.sequences.items p new.1)).0 all.0;
              machines = λ e. all.1 (either.1 (inl (h.ended_by.1 e)));
              words = λ q e. all.1 (either.1 (inr (is_some.1 (some_in found q ((are q).1 e)))));
              others = all.2;
            },
          ))
    ]),
    (λ m. subst (λ (ps : List ℕ). Contains ps p) (sym is) (elim m [
      | inl kept ↦ joined_old alone both plan.sequences.items p (met_both p ((h.met_by p).1 kept))
      | inr (inl word) ↦ joined_old alone both plan.sequences.items p (found_both p ((are p).1 word))
      | inr (inr new) ↦
          let quiet : IsTrue now → ⊥ = λ t. elim (either.0 t) [
            | inl e ↦ new.1.machines (h.ended_by.0 e)
            | inr s ↦ let q = get_or found 0 0 in new.1.words q ((are q).0 (Contains-get_or found 0 0 (is_some.0 s)))
          ] in
          joined_new alone both plan.sequences.items p ((says (some_in plan.sequences.items p new.0)).1 ((later (some_in plan.sequences.items p new.0)).1 new.1.later, quiet, new.1.others)) new.0
    ])),
  )

  pub trans_among : ((p : ℕ) → Contains met p → IsPlaceOf plan.machines.items p) → ((p : ℕ) → Contains found p → HasPlace plan.words p) → (p : ℕ) → Contains next p → IsTracePlace plan p
  trans_among among words p c = elim (joined_cases alone both plan.sequences.items p (subst (λ (m : List ℕ). Contains m p) is c)) [
    | inl old ↦ inl (elim (in_both p old) [ inl m ↦ inl (among p m) | inr f ↦ inr (words p f) ])
    | inr new ↦ inr new.1
  ]

  pub trans_once : StandApart plan → ((p : ℕ) → Contains met p → IsPlaceOf plan.machines.items p) → ((p : ℕ) → Contains found p → HasPlace plan.words p) → AllPairs (λ a b. a ≢ b) met → AllPairs (λ a b. a ≢ b) found → AllPairs (λ a b. a ≢ b) next
  trans_once apart among words once found_once =
      let both_once : AllPairs (λ a b. a ≢ b) both = subst (AllPairs (λ a b. a ≢ b)) (sym joined) (once_append met found once found_once (λ p a b. apart.words p (among p a) (words p b))) in
      subst (AllPairs (λ a b. a ≢ b)) (sym is) (joined_once alone both plan.sequences.items both_once (once_append both plan.sequences.items both_once apart.once (λ p a b.
      apart.apart p (elim (in_both p a) [ inl m ↦ inl (among p m) | inr f ↦ inr (words p f) ]) b)))

-- ---- words

pub ends_placed : (rows : List PlacedWord) (w : List Value) (place : ℕ) → EndsAt rows w place → HasPlace rows place
ends_placed rows w place e = record { row = e.row; is_one = e.is_one; is_place = e.is_place }

-- the places that were found are those of the words that the trace ends with, where the last values are kept only for words
pub found_ends : (rows : List PlacedWord) (recent : List Value) (old new : List ℕ) (some : Bool) (adds : AddsEnded rows recent old new some) (w : List Value) → AreRecent rows recent w → (place : ℕ) → Contains adds.found place ↔ EndsAt rows w place
found_ends rows recent old new some adds w last place = (
  (λ c. let has = (adds.are recent (last_itself recent) place).0 c in (adds.are w (last (omega (arith, has.is_one.1))) place).0 c),
  (λ e. (adds.are w (last (omega (arith, e.is_one.1))) place).1 e),
)

pub found_placed : (rows : List PlacedWord) (recent : List Value) (old new : List ℕ) (some : Bool) (adds : AddsEnded rows recent old new some) (place : ℕ) → Contains adds.found place → HasPlace rows place
found_placed rows recent old new some adds place c = ends_placed rows recent place ((adds.are recent (last_itself recent) place).0 c)

pub adds_none : (rows : List PlacedWord) (recent : List Value) (met : List ℕ) → rows ≡ [] → AddsEnded rows recent met met false
adds_none rows recent met e = record {
  found = [];
  is_new = sym (append-nil met);
  are = λ w last place. ((λ c. absurd (in_none place c)), (λ h. absurd (in_none h.row (subst (λ (rs : List PlacedWord). Contains rs h.row) e h.is_one))));
  once = λ once i j d lt within. absurd (omega (arith, within));
  is_some = ((λ t. absurd (false≢true t)), (λ lt. absurd (omega (arith, lt))));
}

-- ---- before the first value

pub first_more : (machines : List Machine) (removers : Removers) (runs : List (List (ℕ × ℕ))) (i : ℕ) (machine : Machine) (new : List (ℕ × ℕ)) → length runs ≡ i → i < length machines → machine ≡ get_or machines i machine
    → Stands machine.watcher (removed_by removers machine.kind) new []
    → ((k : ℕ) (d : Machine) (r : List (ℕ × ℕ)) → k < i → k < length machines → Stands (get_or machines k d).watcher (removed_by removers (get_or machines k d).kind) (get_or runs k r) [])
    → (k : ℕ) (d : Machine) (r : List (ℕ × ℕ)) → k < i + 1 → k < length machines → Stands (get_or machines k d).watcher (removed_by removers (get_or machines k d).kind) (get_or (runs ++ new ∷ []) k r) []
first_more machines removers runs i machine new len lt is here h k d r less within = elim (cases_lt k i) [
  | inl lower ↦ subst (λ (x : List (ℕ × ℕ)). Stands (get_or machines k d).watcher (removed_by removers (get_or machines k d).kind) x []) (sym (get_or_append_left runs (new ∷ []) r k (omega (arith, lower, len)))) (h k d r lower within)
  | inr past ↦
      let e : i ≡ k = omega (arith, less, past) in
      let at : get_or (runs ++ new ∷ []) k r ≡ new = ap (λ (n : ℕ). get_or (runs ++ new ∷ []) n r) (sym (len ∙ e)) ∙ get_or-append_seam runs new [] r in
      subst (λ (x : List (ℕ × ℕ)). Stands (get_or machines k d).watcher (removed_by removers (get_or machines k d).kind) x []) (sym at)
      (subst (λ (n : ℕ). Stands (get_or machines n d).watcher (removed_by removers (get_or machines n d).kind) new []) e
      (subst (λ (m : Machine). Stands m.watcher (removed_by removers m.kind) new []) (is ∙ get_or_default machines i machine d lt) here))
]
