-- From the runs before a sample to the runs after it.
use Rattle.std.proofs.Common.{◌≡◌, ◌≢◌, ℕ, ◌+◌, ◌<◌, ◌≤◌, ◌⊎◌, ◌↔◌, List, [], ◌∷◌, ◌++◌, length, drop, get_or, zero, suc, refl, ap, sym, ◌∙◌, subst, inl, inr, arith, length-append, length-drop, Bool, true, false, Option}
use Rattle.std.specs.Prelude.{ℤ, Contains, AllPairs, not, ◌==◌}
use Rattle.std.specs.List.{filter}
use Rattle.trans_seq.proofs.Members.{in_filter, from_filter}
use Rattle.std.proofs.Math.ListN.{get_or-append}
use Rattle.std.proofs.Math.Seq.{get_or-append_seam}
use Rattle.std.proofs.lemmas.List.{drop-append-le, drop_at, get_or_default}
use Rattle.std.proofs.lemmas.List.Elements.{Contains-get_or}
use Rattle.std.proofs.lemmas.Bool.{cases_lt, false≢true, true≢false, ne_eqb}
use Rattle.trans_seq.specs.declared.seq.Seq.{Seq}
use Rattle.trans_seq.specs.Windows.{InSome, EndsWindow, EndsKept}
use Rattle.trans_auto.specs.Masks.{SeqsHold, IsEmpty}
use Rattle.trans_auto.specs.Steps.{SomeAccepts}
use Rattle.trans_auto.specs.State.{PairHolds, Covers, Stands, Remains, PairSteps, Advances}
use Rattle.trans_auto.proofs.Languages.{seqs-step, seqs-start, seqs-dead, not_fresh, some_accepts-means, some_accepts-dead}

must : (b : Bool) → (b ≡ false → ⊥) → b ≡ true
must true n = refl
must false n = absurd (n refl)

module _ (own removed : List Seq) where
  pub stands-start : Stands own removed [] []
  stands-start = record { sound = λ r i. absurd (omega (arith, i.1)); complete = λ n h. absurd (omega (arith, h)); once = λ i j d h k. absurd (omega (arith, h, k)) }

  -- a run's step, later and at its beginning
  pair-later : (v : Option ℤ) (a b : ℕ × ℕ) (u : List (Option ℤ)) → (u ≡ [] → ⊥) → PairHolds own removed a u → PairSteps own removed v false a b → PairHolds own removed b (u ++ v ∷ [])
  pair-later v a b u some h s =
      let later = not_fresh u some in
      (seqs-step false 0 a.0 b.0 u v own later h.0 s.0, seqs-step false 0 a.1 b.1 u v removed later h.1 s.1)

  pair-fresh : (v : Option ℤ) (b : ℕ × ℕ) → PairSteps own removed v true (0, 0) b → PairHolds own removed b (v ∷ [])
  pair-fresh v b s =
      let fresh : (true ≡ true) ↔ IsEmpty [] = ((λ e. refl), (λ e. refl)) in
      (seqs-step true 0 0 b.0 [] v own fresh (seqs-start 0 own) s.0, seqs-step true 0 0 b.1 [] v removed fresh (seqs-start 0 removed) s.1)

  dead-later : (v : Option ℤ) (u : List (Option ℤ)) → (u ≡ [] → ⊥) → SeqsHold 0 0 u own → SeqsHold 0 0 (u ++ v ∷ []) own
  dead-later v u some h = seqs-step false 0 0 0 u v own (not_fresh u some) h (seqs-dead 0 v own)

  covers-from : (next : List (ℕ × ℕ)) (b : ℕ × ℕ) (u : List (Option ℤ)) → PairHolds own removed b u → (b.0 ≡ 0) ⊎ Contains next b → Covers own removed next u
  covers-from next b u h c = elim c [ inl e ↦ inl (subst (λ n. SeqsHold 0 n u own) e h.0) | inr i ↦ inr (b, i, h) ]

  pub some-drop : (w : List (Option ℤ)) (n : ℕ) → n < length w → drop n w ≡ [] → ⊥
  some-drop w n h e = omega (arith, h, length-drop n w, ap length e)

  drop-push : (w : List (Option ℤ)) (v : Option ℤ) (n : ℕ) → n < length w → drop n w ++ v ∷ [] ≡ drop n (w ++ v ∷ [])
  drop-push w v n h = sym (drop-append-le n w (v ∷ []) (omega (arith, h)))

  pub stands-more : (v : Option ℤ) (runs next : List (ℕ × ℕ)) (w : List (Option ℤ)) → Stands own removed runs w → Advances own removed v runs next → Stands own removed next (w ++ v ∷ [])
  stands-more v runs next w st ad = record {
    sound = λ b i.
        let s = ad.sound b i in
        let longer : length (w ++ v ∷ []) ≡ length w + 1 = length-append w (v ∷ []) in
        elim s.1 [
          | inl f ↦ (s.0, length w, omega (arith, longer), subst (PairHolds own removed b) (sym (drop_at w (v ∷ []) (length w) refl)) (pair-fresh v b f))
          | inr a ↦
              let before = st.sound a.0 a.1 in
              let n = before.1 in
              let h : n < length w = before.2 in
              (s.0, n, omega (arith, longer, h), subst (PairHolds own removed b) (drop-push w v n h) (pair-later v a.0 b (drop n w) (some-drop w n h) before.3 a.2))
        ];
    complete = λ n h. elim (cases_lt n (length w)) [
      | inl lt ↦ subst (Covers own removed next) (drop-push w v n lt) (elim (st.complete n lt) [
        | inl dead ↦ inl (dead-later v (drop n w) (some-drop w n lt) dead)
        | inr a ↦
            let m = ad.complete a.0 a.1 in
            covers-from next m.0 (drop n w ++ v ∷ []) (pair-later v a.0 m.0 (drop n w) (some-drop w n lt) a.2 m.1) m.2
      ])
      | inr ge ↦
          let e : length w ≡ n = let l : n < length (w ++ v ∷ []) = h in omega (arith, l, length-append w (v ∷ []), ge) in
          subst (λ k. Covers own removed next (drop k (w ++ v ∷ []))) e
          (subst (Covers own removed next) (sym (drop_at w (v ∷ []) (length w) refl))
          (covers-from next ad.fresh.0 (v ∷ []) (pair-fresh v ad.fresh.0 ad.fresh.1) ad.fresh.2))
    ];
    once = ad.once;
  }

  -- from the runs with the one that begins, over those that are moved, to those that are kept
  pub advances-from : (v : Option ℤ) (runs all moved next : List (ℕ × ℕ)) (b : ℕ × ℕ)
      → PairSteps own removed v true (0, 0) b
      → ((b.0 ≢ 0) × (all ≡ runs ++ b ∷ [])) ⊎ ((b.0 ≡ 0) × (all ≡ runs))
      → length moved ≡ length all
      → ((k : ℕ) (d : ℕ × ℕ) → k < length runs → PairSteps own removed v false (get_or all k d) (get_or moved k d))
      → ((k : ℕ) (d : ℕ × ℕ) → length runs ≤ k → get_or moved k d ≡ get_or all k d)
      → ((r : ℕ × ℕ) → Contains moved r → r.0 ≢ 0 → Contains next r)
      → ((r : ℕ × ℕ) → Contains next r → Contains moved r × (r.0 ≢ 0))
      → AllPairs (λ a b. a ≢ b) next
      → Advances own removed v runs next
  advances-from v runs all moved next b begins added len steps rest kept only once = record {
    sound = λ r i. let was = only r i in let k = was.0.0 in (
      was.1,
      elim (cases_lt k (length runs)) [
        | inl lt ↦ inr (
          get_or runs k r,
          Contains-get_or runs k r lt,
          subst (λ q. PairSteps own removed v false (get_or runs k r) q) was.0.2
              (subst (λ q. PairSteps own removed v false q (get_or moved k r)) (before k r lt) (steps k r lt)),
        )
        | inr ge ↦ inl (elim added [
          | inl new ↦
              let longer : length all ≡ length runs + 1 = ap length new.1 ∙ length-append runs (b ∷ []) in
              let e : k ≡ length runs = let h : k < length moved = was.0.1 in omega (arith, h, ge, len, longer) in
              let here : get_or all (length runs) r ≡ b = ap (λ l. get_or l (length runs) r) new.1 ∙ get_or-append_seam runs b [] r in
              let is : b ≡ r = sym here ∙ ap (λ j. get_or all j r) (sym e) ∙ sym (rest k r ge) ∙ was.0.2 in
              subst (PairSteps own removed v true (0, 0)) is begins
          | inr none ↦ absurd (let h : k < length moved = was.0.1 in omega (arith, h, ge, len, ap length none.1))
        ])
      ],
    );
    complete = λ a i. let k = i.0 in let lt : k < length runs = i.1 in
        let m = get_or moved k a in
        let is : get_or all k a ≡ a = before k a lt ∙ i.2 in
        let inside : k < length moved = omega (arith, lt, len, long) in
        (m, subst (λ q. PairSteps own removed v false q m) is (steps k a lt), ends m (Contains-get_or moved k a inside));
    fresh = (
      b,
      begins,
      elim added [
        | inl new ↦ inr (kept b (
            let longer : length all ≡ length runs + 1 = ap length new.1 ∙ length-append runs (b ∷ []) in (
              length runs,
              omega (arith, len, longer),
              rest (length runs) b (omega arith) ∙ ap (λ l. get_or l (length runs) b) new.1 ∙ get_or-append_seam runs b [] b,
            )) new.0)
        | inr none ↦ inl none.0
      ],
    );
    once = once;
  }
    where
      long : length runs ≤ length all
      long = elim added [ inl new ↦ omega (arith, ap length new.1 ∙ length-append runs (b ∷ [])) | inr none ↦ omega (arith, ap length none.1) ]

      before : (k : ℕ) (d : ℕ × ℕ) → k < length runs → get_or all k d ≡ get_or runs k d
      before k d lt = elim added [
        | inl new ↦ ap (λ l. get_or l k d) new.1 ∙ get_or-append runs (b ∷ []) d k lt
        | inr none ↦ ap (λ l. get_or l k d) none.1
      ]

      zero-cases : (n : ℕ) → (n ≡ 0) ⊎ (n ≢ 0)
      zero-cases zero = inl refl
      zero-cases (suc n) = inr (λ e. omega (arith, e))

      ends : (m : ℕ × ℕ) → Contains moved m → (m.0 ≡ 0) ⊎ Contains next m
      ends m h = elim (zero-cases m.0) [ inl e ↦ inl e | inr ne ↦ inr (kept m h ne) ]

  -- what a run's masks say of each list that it stands for
  pub ends-from : (run : ℕ × ℕ) (w : List (Option ℤ)) (a : Bool) → (w ≡ [] → ⊥) → PairHolds own removed run w → SomeAccepts false 0 run.0 own a → (a ≡ true) ↔ InSome own w
  ends-from run w a some h x = some_accepts-means false 0 run.0 w own a (not_fresh w some) h.0 x

  pub remains-from : (run : ℕ × ℕ) (w : List (Option ℤ)) (a b : Bool) → (w ≡ [] → ⊥) → PairHolds own removed run w → SomeAccepts false 0 run.0 own a → SomeAccepts false 0 run.1 removed b → ((a ≡ true) × (b ≡ false)) ↔ Remains own removed w
  remains-from run w a b some h x y =
      let mine = ends-from run w a some h x in
      let theirs = some_accepts-means false 0 run.1 w removed b (not_fresh w some) h.1 y in (
        (λ p. (mine.0 p.0, λ i. true≢false (sym (theirs.1 i) ∙ p.1))),
        (λ r. (mine.1 r.0, not_true b (λ e. r.1 (theirs.0 e)))),
      )
    where
      not_true : (b : Bool) → (b ≡ true → ⊥) → b ≡ false
      not_true true n = absurd (n refl)
      not_true false n = refl

  -- some window that ends with the last sample is a list of Q
  abbrev pub SomeEnd : (List (Option ℤ) → Type 0) → List (Option ℤ) → Type 0
  SomeEnd Q w = (from : ℕ) × (from < length w) × Q (drop from w)

  -- one of the runs stands for lists of Q
  abbrev pub SomeRunHas : (List (Option ℤ) → Type 0) → List (ℕ × ℕ) → Type 0
  SomeRunHas Q runs = (run : ℕ × ℕ) × Contains runs run × ((u : List (Option ℤ)) → (u ≡ [] → ⊥) → PairHolds own removed run u → Q u)

  -- none of them does
  abbrev pub NoRunHas : (List (Option ℤ) → Type 0) → List (ℕ × ℕ) → Type 0
  NoRunHas Q runs = (run : ℕ × ℕ) → Contains runs run → (u : List (Option ℤ)) → (u ≡ [] → ⊥) → PairHolds own removed run u → Q u → ⊥

  -- none of those below the index does
  abbrev pub NoneBelowHas : (List (Option ℤ) → Type 0) → List (ℕ × ℕ) → ℕ → Type 0
  NoneBelowHas Q runs i = (k : ℕ) (d : ℕ × ℕ) → k < i → (u : List (Option ℤ)) → (u ≡ [] → ⊥) → PairHolds own removed (get_or runs k d) u → Q u → ⊥

  pub none_more : (Q : List (Option ℤ) → Type 0) (runs : List (ℕ × ℕ)) (i : ℕ) (d : ℕ × ℕ) → i < length runs → NoneBelowHas Q runs i
      → ((u : List (Option ℤ)) → (u ≡ [] → ⊥) → PairHolds own removed (get_or runs i d) u → Q u → ⊥) → NoneBelowHas Q runs (i + 1)
  none_more Q runs i d within below here k e h u some holds q = elim (cases_lt k i) [
    | inl lt ↦ below k e lt u some holds q
    | inr ge ↦
        let is : k ≡ i = omega (arith, h, ge) in
        let same : get_or runs k e ≡ get_or runs i d = ap (λ j. get_or runs j e) is ∙ get_or_default runs i e d within in
        here u some (subst (λ r. PairHolds own removed r u) same holds) q
  ]

  pub none_all : (Q : List (Option ℤ) → Type 0) (runs : List (ℕ × ℕ)) (i : ℕ) → length runs ≤ i → NoneBelowHas Q runs i → NoRunHas Q runs
  none_all Q runs i all below run inside u some holds q =
      let lt : inside.0 < length runs = inside.1 in
      below inside.0 run (omega (arith, lt, all)) u some (subst (λ r. PairHolds own removed r u) (sym inside.2) holds) q

  pub some_end : (Q : List (Option ℤ) → Type 0) (runs : List (ℕ × ℕ)) (w : List (Option ℤ)) → Stands own removed runs w → SomeRunHas Q runs → SomeEnd Q w
  some_end Q runs w st r = let s = st.sound r.0 r.1 in (s.1, s.2, r.2 (drop s.1 w) (some-drop w s.1 s.2) s.3)

  pub no_end : (Q : List (Option ℤ) → Type 0) (runs : List (ℕ × ℕ)) (w : List (Option ℤ)) → ((u : List (Option ℤ)) → Q u → InSome own u) → Stands own removed runs w → NoRunHas Q runs → SomeEnd Q w → ⊥
  no_end Q runs w within st none e =
      let u = drop e.0 w in
      let some = some-drop w e.0 e.1 in
      elim (st.complete e.0 e.1) [
        | inl dead ↦ false≢true ((some_accepts-means false 0 0 u own false (not_fresh u some) dead (some_accepts-dead 0 own)).1 (within u e.2))
        | inr r ↦ none r.0 r.1 u some r.2 e.2
      ]

  -- the runs after the sample tell whether a window counts, and whether one ends
  pub kept-from : (runs : List (ℕ × ℕ)) (w : List (Option ℤ)) (answer : Bool) → Stands own removed runs w
      → (answer ≡ true → SomeRunHas (Remains own removed) runs) → (answer ≡ false → NoRunHas (Remains own removed) runs) → (answer ≡ true) ↔ EndsKept own removed w
  kept-from runs w answer st found none = (
    (λ e. let s = some_end (Remains own removed) runs w st (found e) in record { from = s.0; some = s.1; in_own = s.2.0; not_removed = s.2.1 }),
    (λ k. must answer (λ e. no_end (Remains own removed) runs w (λ u r. r.0) st (none e) (k.from, k.some, (k.in_own, k.not_removed)))),
  )

  pub window-from : (runs : List (ℕ × ℕ)) (w : List (Option ℤ)) (answer : Bool) → Stands own removed runs w
      → (answer ≡ true → SomeRunHas (λ u. InSome own u) runs) → (answer ≡ false → NoRunHas (λ u. InSome own u) runs) → (answer ≡ true) ↔ EndsWindow own w
  window-from runs w answer st found none = (
    (λ e. let s = some_end (λ u. InSome own u) runs w st (found e) in record { from = s.0; some = s.1; is_list = s.2 }),
    (λ k. must answer (λ e. no_end (λ u. InSome own u) runs w (λ u i. i) st (none e) (k.from, k.some, k.is_list))),
  )

-- the runs that still reach an own cell
abbrev pub is_live : ℕ × ℕ → Bool
is_live run = not (run.0 == 0)

live-not_zero : (n : ℕ) → not (n == 0) ≡ true → n ≢ 0
live-not_zero zero e = absurd (false≢true e)
live-not_zero (suc n) e = λ f. omega (arith, f)

not_zero-live : (n : ℕ) → n ≢ 0 → not (n == 0) ≡ true
not_zero-live n ne = ap not (ne_eqb n 0 ne)

pub live-kept : (runs : List (ℕ × ℕ)) (r : ℕ × ℕ) → Contains runs r → r.0 ≢ 0 → Contains (filter is_live runs) r
live-kept runs r h ne = in_filter is_live runs r h (not_zero-live r.0 ne)

pub live-only : (runs : List (ℕ × ℕ)) (r : ℕ × ℕ) → Contains (filter is_live runs) r → Contains runs r × (r.0 ≢ 0)
live-only runs r h = let both = from_filter is_live runs r h in (both.0, live-not_zero r.0 both.1)
