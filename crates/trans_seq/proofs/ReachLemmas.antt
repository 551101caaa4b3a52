-- From the cuts before an item to those behind it.
use Rattle.std.proofs.Common.{◌≡◌, ℕ, ◌+◌, ◌<◌, ◌≤◌, ◌⊎◌, ◌↔◌, min, List, [], ◌∷◌, ◌++◌, length, take, drop, get_or, set, refl, ap, sym, ◌∙◌, subst, inl, inr, arith, length-drop, length-take, Bool, true, false, not, ◌&&◌, ◌||◌, zero, suc, Option, None}
use Rattle.std.specs.Prelude.{ℤ, replicate, nat_eq}
use Rattle.std.proofs.lemmas.Bool.{and_parts, and_from, or_cases, or_left, or_right, not-true, not_from_false, false≢true, cases_lt, cases_eq, eq-eqb, ne_eqb}
use Rattle.std.proofs.lemmas.List.{take_more, take-take, take_all, drop_all, take-append-drop, drop_more, get_or-replicate, get_or_past, get_or-set_same, get_or-set_other, get_or_default, length-replicate}
use Rattle.std.proofs.lemmas.List.Elements.{All-nil, All-append, All-take, All-drop}
use Rattle.trans_seq.specs.declared.seq.Item.{Item}
use Rattle.trans_seq.specs.Windows.{Then, AllInside, AllOutside, IsOne, IsBlock, IsGap, IsRun, IsBlocks, InItem, InSeq, is_end}
use Rattle.trans_seq.specs.Reach.{IsReached, Leads, IsPart, IsParts, IsRepeated}
use Rattle.trans_seq.proofs.Cuts.{then-map, then-assoc, then-assoc_back, then-empty, then-nil}
use Rattle.trans_seq.proofs.Blocks.{run-zero, blocks-zero, run_at-push, run_at-push_back, after-push, after-push_back, open-cases, open-from}

module _ {X : Type 0} where
  -- a cut of a front
  at-front : (cuts : List Bool) (w : List X) (n : ℕ) → n ≤ length w → IsReached cuts (take n w) ↔ (get_or cuts n false ≡ true)
  at-front cuts w n h =
      let e : length (take n w) ≡ n = omega (arith, length-take n w, h) in
      let same : get_or cuts (length (take n w)) false ≡ get_or cuts n false = ap (λ m. get_or cuts m false) e in
      ((λ r. sym same ∙ r), (λ r. same ∙ r))

  -- lists of P and then lists of Q
  pub leads-then : (P Q : List X → Type 0) (w : List X) (a b c : List Bool) → Leads P w a b → Leads Q w b c → Leads (Then P Q) w a c
  leads-then P Q w a b c f g k h = (
    (λ e. let t = (g k h).0 e in
        let n = t.cut in
        let within : n ≤ length (take k w) = t.within in
        let le : n ≤ length w = omega (arith, within, length-take k w) in
        let same : take n (take k w) ≡ take n w = take-take n k w (omega (arith, within, length-take k w)) in
        then-assoc (IsReached a) P Q (take k w) (record {
          cut = n;
          within = t.within;
          first = subst (Then (IsReached a) P) (sym same) ((f n le).0 ((at-front b w n le).0 (subst (IsReached b) same t.first)));
          rest = t.rest;
        })),
    (λ s. let t = then-assoc_back (IsReached a) P Q (take k w) s in
        let n = t.cut in
        let within : n ≤ length (take k w) = t.within in
        let le : n ≤ length w = omega (arith, within, length-take k w) in
        let same : take n (take k w) ≡ take n w = take-take n k w (omega (arith, within, length-take k w)) in
        (g k h).1 (record {
          cut = n;
          within = t.within;
          first = subst (IsReached b) (sym same) ((at-front b w n le).1 ((f n le).1 (subst (Then (IsReached a) P) same t.first)));
          rest = t.rest;
        })),
  )

  -- the same lists, said otherwise
  pub leads-map : (P Q : List X → Type 0) (w : List X) (a b : List Bool) → ((u : List X) → length u ≤ length w → P u → Q u) → ((u : List X) → length u ≤ length w → Q u → P u) → Leads P w a b → Leads Q w a b
  leads-map P Q w a b to from f k h = (
    (λ e. let t = (f k h).0 e in record { cut = t.cut; within = t.within; first = t.first; rest = to (drop t.cut (take k w)) (short k t.cut) t.rest }),
    (λ t. (f k h).1 (record { cut = t.cut; within = t.within; first = t.first; rest = from (drop t.cut (take k w)) (short k t.cut) t.rest })),
  )
    where
      short : (k n : ℕ) → length (drop n (take k w)) ≤ length w
      short k n = omega (arith, length-drop n (take k w), length-take k w)

  -- lists of P or of Q
  pub leads-either : (P Q : List X → Type 0) (w : List X) (a b c d : List Bool) → ((k : ℕ) → get_or d k false ≡ (get_or b k false || get_or c k false)) → Leads P w a b → Leads Q w a c → Leads (λ u. P u ⊎ Q u) w a d
  leads-either P Q w a b c d each f g k h =
      let R = IsReached a in (
        (λ e. elim (or_cases (get_or b k false) (get_or c k false) (sym (each k) ∙ e)) [
          | inl x ↦ then-map R P R (λ u. P u ⊎ Q u) (λ u r. r) (λ u p. inl p) (take k w) ((f k h).0 x)
          | inr y ↦ then-map R Q R (λ u. P u ⊎ Q u) (λ u r. r) (λ u q. inr q) (take k w) ((g k h).0 y)
        ]),
        (λ t. each k ∙ elim t.rest [
          | inl p ↦ or_left (get_or b k false) (get_or c k false) ((f k h).1 (record { cut = t.cut; within = t.within; first = t.first; rest = p }))
          | inr q ↦ or_right (get_or b k false) (get_or c k false) ((g k h).1 (record { cut = t.cut; within = t.within; first = t.first; rest = q }))
        ]),
      )

  -- no cut
  pub leads-none : (P : List X → Type 0) (w : List X) (a none : List Bool) → ((k : ℕ) → get_or none k false ≡ false) → ((u : List X) → P u → ⊥) → Leads P w a none
  leads-none P w a none empty never k h = ((λ e. absurd (false≢true (sym (empty k) ∙ e))), (λ t. absurd (never (drop t.cut (take k w)) t.rest)))

pub none-marked : (n k : ℕ) → get_or (replicate n false) k false ≡ false
none-marked n k = elim (cases_lt k n) [
  | inl lt ↦ get_or-replicate n k false false lt
  | inr ge ↦ get_or_past (replicate n false) k false (omega (arith, ge, length-replicate n false))
]

module _ (p : Option ℤ → Bool) (w : List (Option ℤ)) (cuts : List Bool) where
  sample : ℕ → Option ℤ
  sample k = get_or w k None

  one-more : (k : ℕ) → k < length w → take (suc k) w ≡ take k w ++ get_or w k None ∷ []
  one-more k lt = let one : suc k ≡ k + 1 = omega arith in ap (λ n. take n w) one ∙ take_more w k None lt

  -- one sample inside
  pub one-leads : (next : List Bool) → get_or next 0 false ≡ false → ((k : ℕ) → k < length w → get_or next (k + 1) false ≡ (get_or cuts k false && p (get_or w k None))) → Leads (IsOne p) w cuts next
  one-leads next none step zero h = (
    (λ e. absurd (false≢true (sym none ∙ e))),
    (λ t. let n = then-nil (IsReached cuts) (IsOne p) t in absurd (omega (arith, n.1.0))),
  )
  one-leads next none step (suc k) h =
      let lt : k < length w = omega (arith, h) in
      let v = get_or w k None in
      let u = take k w in
      let R = IsReached cuts in
      let one : suc k ≡ k + 1 = omega arith in
      let is : get_or next (suc k) false ≡ (get_or cuts k false && p v) = ap (λ n. get_or next n false) one ∙ step k lt in
      let front = at-front cuts w k (omega (arith, lt)) in (
        (λ e. let both = and_parts (get_or cuts k false) (p v) (sym is ∙ e) in
            subst (Then R (IsOne p)) (sym (one-more k lt)) (run_at-push_back p R 0 u v both.1 ((run-zero p R u).0 (front.1 both.0)))),
        (λ t. let both = run_at-push p R 0 u v (subst (Then R (IsOne p)) (one-more k lt) t) in
            is ∙ and_from (get_or cuts k false) (p v) (front.0 ((run-zero p R u).1 both.1)) both.0),
      )

  -- any number of samples outside
  abbrev pub opened : ℕ → Bool
  opened zero = get_or cuts 0 false
  opened (suc k) = get_or cuts (suc k) false || (opened k && not (p (get_or w k None)))

  opened-means : (k : ℕ) → k ≤ length w → (opened k ≡ true) ↔ Then (IsReached cuts) (AllOutside p) (take k w)
  opened-means zero h = (
    (λ e. then-empty (IsReached cuts) (AllOutside p) [] e (All-nil (λ v. p v ≡ false))),
    (λ t. (then-nil (IsReached cuts) (AllOutside p) t).0),
  )
  opened-means (suc k) h =
      let lt : k < length w = omega (arith, h) in
      let v = get_or w k None in
      let u = take k w in
      let R = IsReached cuts in
      let front = at-front cuts w (suc k) h in
      let more = one-more k lt in
      let before = opened-means k (omega (arith, lt)) in (
        (λ e. elim (or_cases (get_or cuts (suc k) false) (opened k && not (p v)) e) [
          | inl here ↦ open-from p R (take (suc k) w) (inl (front.1 here))
          | inr on ↦
              let both = and_parts (opened k) (not (p v)) on in
              subst (Then R (AllOutside p)) (sym more) (open-from p R (u ++ v ∷ []) (inr (after-push_back p R u v (not-true (p v) both.1) (open-cases p R u (before.0 both.0)))))
        ]),
        (λ t. elim (open-cases p R (take (suc k) w) t) [
          | inl here ↦ or_left (get_or cuts (suc k) false) (opened k && not (p v)) (front.0 here)
          | inr gap ↦
              let both = after-push p R u v (subst (Then R (IsGap p)) more gap) in
              or_right (get_or cuts (suc k) false) (opened k && not (p v))
              (and_from (opened k) (not (p v)) (before.1 (open-from p R u both.1)) (not_from_false (p v) both.0))
        ]),
      )

  pub outside-leads : (next : List Bool) → ((k : ℕ) → k ≤ length w → get_or next k false ≡ opened k) → Leads (AllOutside p) w cuts next
  outside-leads next is k h = let means = opened-means k h in ((λ e. means.0 (sym (is k h) ∙ e)), (λ t. is k h ∙ means.1 t))

-- ---- one cut more

-- an element is written behind those that are as they are to be
pub set-more : (xs : List Bool) (i : ℕ) (v : Bool) (F : ℕ → Bool) → i < length xs → ((j : ℕ) → j < i → get_or xs j false ≡ F j) → v ≡ F i → (j : ℕ) → j < i + 1 → get_or (set xs i v) j false ≡ F j
set-more xs i v F within before here j h = elim (cases_lt j i) [
  | inl lt ↦ get_or-set_other xs i j v false (λ e. omega (arith, e, lt)) ∙ before j lt
  | inr ge ↦ let same : j ≡ i = omega (arith, ge, h) in ap (λ k. get_or (set xs i v) k false) same ∙ get_or-set_same xs i v false within ∙ here ∙ ap F (sym same)
]

pub inside-at : (p : Option ℤ → Bool) (w : List (Option ℤ)) (k : ℕ) (s : Option ℤ) (b : Bool) → k < length w → s ≡ get_or w k s → b ≡ p s → b ≡ p (get_or w k None)
inside-at p w k s b lt is e = e ∙ ap p (is ∙ get_or_default w k s None lt)

module _ (p : Option ℤ → Bool) (w : List (Option ℤ)) (cuts next : List Bool) (k : ℕ) (b : Bool) (lt : k < length w) (room : length w < length next) (is : b ≡ p (get_or w k None)) where
  abbrev pub inside_set : List Bool
  inside_set = set next (k + 1) (get_or cuts k false && b)

  pub one-first : get_or next 0 false ≡ false → get_or inside_set 0 false ≡ false
  one-first first = get_or-set_other next (k + 1) 0 (get_or cuts k false && b) false (λ e. omega (arith, e)) ∙ first

  pub one-done : ((j : ℕ) → j < k → get_or next (j + 1) false ≡ (get_or cuts j false && p (get_or w j None))) → (j : ℕ) → j < k + 1 → get_or inside_set (j + 1) false ≡ (get_or cuts j false && p (get_or w j None))
  one-done done j h = elim (cases_lt j k) [
    | inl less ↦ get_or-set_other next (k + 1) (j + 1) (get_or cuts k false && b) false (λ e. omega (arith, e, less)) ∙ done j less
    | inr ge ↦
        let same : j ≡ k = omega (arith, ge, h) in
        ap (λ n. get_or inside_set (n + 1) false) same ∙ get_or-set_same next (k + 1) (get_or cuts k false && b) false (omega (arith, lt, room))
        ∙ ap (λ c. get_or cuts k false && c) is ∙ ap (λ n. get_or cuts n false && p (get_or w n None)) (sym same)
  ]

-- what is reached by samples outside, one sample further
pub opened-more : (p : Option ℤ → Bool) (w : List (Option ℤ)) (cuts : List Bool) (k : ℕ) (reached b : Bool) → b ≡ p (get_or w k None) → reached ≡ opened p w cuts k
    → (get_or cuts (k + 1) false || (reached && not b)) ≡ opened p w cuts (k + 1)
opened-more p w cuts k reached b is last =
    let one : suc k ≡ k + 1 = omega arith in
    ap (λ c. get_or cuts (k + 1) false || (c && not b)) last
    ∙ ap (λ c. get_or cuts (k + 1) false || (opened p w cuts k && not c)) is
    ∙ ap (λ n. get_or cuts n false || (opened p w cuts k && not (p (get_or w k None)))) (sym one)
    ∙ ap (λ n. opened p w cuts n) one

pub first-size : {X : Type 0} (w : List X) (cuts found : List Bool) (low : ℕ) → length cuts ≡ length w + 1 → (low ≡ 0 → found ≡ cuts) → (0 < low → found ≡ replicate (length w + 1) false) → length found ≡ length w + 1
first-size w cuts found low size here none = elim (cases_lt 0 low) [
  | inl some ↦ ap length (none some) ∙ length-replicate (length w + 1) false
  | inr ge ↦ ap length (here (omega (arith, ge))) ∙ size
]

-- ---- so many parts

module _ (p : Option ℤ → Bool) where
  run-more : (m : ℕ) (u : List (Option ℤ)) → Then (IsRun p m) (IsOne p) u ↔ IsRun p (suc m) u
  run-more m u = (
    (λ t. (
      let long : length (take t.cut u) ≡ m = t.first.0 in
          let one : length (drop t.cut u) ≡ 1 = t.rest.0 in
          omega (arith, long, one, length-take t.cut u, length-drop t.cut u),
      subst (AllInside p) (take-append-drop t.cut u) (All-append (λ v. p v ≡ true) (take t.cut u) (drop t.cut u) t.first.1 t.rest.1),
    )),
    (λ r. let long : length u ≡ suc m = r.0 in record {
      cut = m;
      within = omega (arith, long);
      first = (omega (arith, long, length-take m u), All-take (λ v. p v ≡ true) m u r.1);
      rest = (omega (arith, long, length-drop m u), All-drop (λ v. p v ≡ true) m u r.1);
    }),
  )

  pub parts-zero : (blocks : Bool) (w : List (Option ℤ)) (cuts : List Bool) → Leads (IsParts p blocks 0) w cuts cuts
  parts-zero true w cuts k h = let z = blocks-zero p (IsReached cuts) (take k w) in let f = at-front cuts w k h in ((λ e. z.0 (f.1 e)), (λ t. f.0 (z.1 t)))
  parts-zero false w cuts k h = let z = run-zero p (IsReached cuts) (take k w) in let f = at-front cuts w k h in ((λ e. z.0 (f.1 e)), (λ t. f.0 (z.1 t)))

  pub parts-more : (blocks : Bool) (w : List (Option ℤ)) (cuts now next : List Bool) (m : ℕ) → Leads (IsParts p blocks m) w cuts now → Leads (IsPart p blocks) w now next → Leads (IsParts p blocks (m + 1)) w cuts next
  parts-more true w cuts now next m f g = let one : suc m ≡ m + 1 = omega arith in subst (λ n. Leads (IsBlocks p n) w cuts next) one (leads-then (IsBlocks p m) (IsBlock p) w cuts now next f g)
  parts-more false w cuts now next m f g =
      let one : suc m ≡ m + 1 = omega arith in
      subst (λ n. Leads (IsRun p n) w cuts next) one
      (leads-map (Then (IsRun p m) (IsOne p)) (IsRun p (suc m)) w cuts next (λ u h. (run-more m u).0) (λ u h. (run-more m u).1) (leads-then (IsRun p m) (IsOne p) w cuts now next f g))

  parts-long : (blocks : Bool) (m : ℕ) (u : List (Option ℤ)) → IsParts p blocks m u → m ≤ length u
  parts-long false m u r = omega (arith, r.0)
  parts-long true zero u r = omega arith
  parts-long true (suc m) u r =
      let first : m ≤ length (take r.cut u) = parts-long true m (take r.cut u) r.first in
      let last : length (drop r.rest.cut (drop r.cut u)) ≡ 1 = r.rest.rest.0 in
      omega (arith, first, last, length-drop r.rest.cut (drop r.cut u), length-take r.cut u, length-drop r.cut u)

  -- as many as a number from low to the number so far says
  pub repeated-start : (blocks : Bool) (w : List (Option ℤ)) (cuts : List Bool) (low : ℕ) → low ≡ 0 → Leads (IsRepeated p blocks low 0) w cuts cuts
  repeated-start blocks w cuts low none =
      leads-map (IsParts p blocks 0) (IsRepeated p blocks low 0) w cuts cuts
      (λ u h r. (0, omega (arith, none), omega arith, r))
      (λ u h r. let le : r.0 ≤ 0 = r.2 in let zero : r.0 ≡ 0 = omega (arith, le) in subst (λ n. IsParts p blocks n u) zero r.3)
      (parts-zero blocks w cuts)

  pub repeated-none : (blocks : Bool) (w : List (Option ℤ)) (cuts none : List Bool) (low : ℕ) → 0 < low → ((k : ℕ) → get_or none k false ≡ false) → Leads (IsRepeated p blocks low 0) w cuts none
  repeated-none blocks w cuts none low some empty = leads-none (IsRepeated p blocks low 0) w cuts none empty (λ u r. let lo : low ≤ r.0 = r.1 in let hi : r.0 ≤ 0 = r.2 in omega (arith, lo, hi, some))

  pub repeated-first : (blocks : Bool) (w : List (Option ℤ)) (cuts found : List Bool) (low : ℕ) → (low ≡ 0 → found ≡ cuts) → (0 < low → found ≡ replicate (length w + 1) false) → Leads (IsRepeated p blocks low 0) w cuts found
  repeated-first blocks w cuts found low here none = elim (cases_lt 0 low) [
    | inl some ↦ subst (λ f. Leads (IsRepeated p blocks low 0) w cuts f) (sym (none some)) (repeated-none blocks w cuts (replicate (length w + 1) false) low some (λ k. none-marked (length w + 1) k))
    | inr ge ↦ let zero : low ≡ 0 = omega (arith, ge) in subst (λ f. Leads (IsRepeated p blocks low 0) w cuts f) (sym (here zero)) (repeated-start blocks w cuts low zero)
  ]

  pub repeated-more : (blocks : Bool) (w : List (Option ℤ)) (cuts found now next : List Bool) (low m : ℕ) → low ≤ m + 1
      → ((k : ℕ) → get_or next k false ≡ (get_or found k false || get_or now k false))
      → Leads (IsRepeated p blocks low m) w cuts found → Leads (IsParts p blocks (m + 1)) w cuts now → Leads (IsRepeated p blocks low (m + 1)) w cuts next
  repeated-more blocks w cuts found now next low m le each f g =
      leads-map (λ u. IsRepeated p blocks low m u ⊎ IsParts p blocks (m + 1) u) (IsRepeated p blocks low (m + 1)) w cuts next
      (λ u h c. elim c [ inl r ↦ (let hi : r.0 ≤ m = r.2 in (r.0, r.1, omega (arith, hi), r.3)) | inr r ↦ (m + 1, le, omega arith, r) ])
      (λ u h r. let hi : r.0 ≤ m + 1 = r.2 in elim (cases_lt m r.0) [
        | inl lt ↦ (let same : r.0 ≡ m + 1 = omega (arith, hi, lt) in inr (subst (λ n. IsParts p blocks n u) same r.3))
        | inr ge ↦ inl (r.0, r.1, ge, r.3)
      ])
      (leads-either (IsRepeated p blocks low m) (IsParts p blocks (m + 1)) w cuts found now next each f g)

  pub repeated-same : (blocks : Bool) (w : List (Option ℤ)) (cuts found : List Bool) (low m : ℕ) → m + 1 < low → Leads (IsRepeated p blocks low m) w cuts found → Leads (IsRepeated p blocks low (m + 1)) w cuts found
  repeated-same blocks w cuts found low m lt f =
      leads-map (IsRepeated p blocks low m) (IsRepeated p blocks low (m + 1)) w cuts found
      (λ u h r. let lo : low ≤ r.0 = r.1 in let hi : r.0 ≤ m = r.2 in absurd (omega (arith, lo, hi, lt)))
      (λ u h r. let lo : low ≤ r.0 = r.1 in let hi : r.0 ≤ m + 1 = r.2 in absurd (omega (arith, lo, hi, lt))) f

  -- there are no more parts than samples
  pub repeated-all : (blocks : Bool) (w : List (Option ℤ)) (cuts found : List Bool) (low m high : ℕ) → m ≡ min (length w) high → Leads (IsRepeated p blocks low m) w cuts found → Leads (IsRepeated p blocks low high) w cuts found
  repeated-all blocks w cuts found low m high is f =
      leads-map (IsRepeated p blocks low m) (IsRepeated p blocks low high) w cuts found
      (λ u h r. let hi : r.0 ≤ m = r.2 in (r.0, r.1, omega (arith, hi, is), r.3))
      (λ u h r. let hi : r.0 ≤ high = r.2 in (r.0, r.1, omega (arith, hi, is, h, parts-long blocks r.0 u r.3), r.3)) f

  -- runs by their lengths
  pub runs-leads : (w : List (Option ℤ)) (cuts next : List Bool) (low high : ℕ) → Leads (IsRepeated p false low high) w cuts next → Leads (λ u. (low ≤ length u) × (length u ≤ high) × AllInside p u) w cuts next
  runs-leads w cuts next low high f =
      leads-map (IsRepeated p false low high) (λ u. (low ≤ length u) × (length u ≤ high) × AllInside p u) w cuts next
      (λ u h r. let lo : low ≤ r.0 = r.1 in let hi : r.0 ≤ high = r.2 in (omega (arith, lo, r.3.0), omega (arith, hi, r.3.0), r.3.1))
      (λ u h r. (length u, r.0, r.1, (refl, r.2))) f

-- ---- one item after the other

abbrev pub Left : List Item → List (Option ℤ) → List Bool → ℕ → Type 0
Left items w cuts i = InSeq items w ↔ Then (IsReached cuts) (InSeq (drop i items)) w

pub left-start : (items : List Item) (w : List (Option ℤ)) (cuts : List Bool) → get_or cuts 0 false ≡ true → ((k : ℕ) → 0 < k → get_or cuts k false ≡ false) → Left items w cuts 0
left-start items w cuts first others = (
  (λ s. record { cut = 0; within = omega arith; first = first; rest = s }),
  (λ t. let within : t.cut ≤ length w = t.within in
      let none : length (take t.cut w) ≡ 0 = first-only (length (take t.cut w)) t.first in
      let zero : t.cut ≡ 0 = omega (arith, none, within, length-take t.cut w) in
      subst (λ n. InSeq items (drop n w)) zero t.rest),
)
  where
    first-only : (n : ℕ) → get_or cuts n false ≡ true → n ≡ 0
    first-only zero e = refl
    first-only (suc n) e = absurd (false≢true (sym (others (suc n) (omega arith)) ∙ e))

-- whether the item at an index is the last one
not-end : (xs : List Item) → 0 < length xs → is_end xs ≡ false
not-end [] h = absurd (omega (arith, h))
not-end (x ∷ xs) h = refl

pub end-at : (items : List Item) (i : ℕ) → i < length items → nat_eq (i + 1) (length items) ≡ is_end (drop (i + 1) items)
end-at items i lt = elim (cases_eq (i + 1) (length items)) [
  | inl e ↦ eq-eqb (i + 1) (length items) e ∙ sym (ap is_end (drop_all (i + 1) items (omega (arith, e))))
  | inr ne ↦ ne_eqb (i + 1) (length items) ne ∙ sym (not-end (drop (i + 1) items) (omega (arith, ne, lt, length-drop (i + 1) items)))
]

pub left-more : (items : List Item) (item : Item) (w : List (Option ℤ)) (cuts next : List Bool) (i : ℕ) (last : Bool) → i < length items → item ≡ get_or items i item → last ≡ is_end (drop (i + 1) items)
    → Left items w cuts i → Leads (InItem item last) w cuts next → Left items w next (i + 1)
left-more items item w cuts next i last lt is end left leads =
    let rest = drop (i + 1) items in
    let parts : drop i items ≡ item ∷ rest = drop_more items i item lt ∙ ap (λ x. x ∷ rest) (sym is) in
    let P = InItem item last in
    let same : InItem item (is_end rest) ≡ P = ap (λ b. InItem item b) (sym end) in
    let whole = take_all (length w) w (omega arith) in (
      (λ s. let t : Then (IsReached cuts) (Then P (InSeq rest)) w = subst (λ Q. Then (IsReached cuts) (Then Q (InSeq rest)) w) same (subst (λ xs. Then (IsReached cuts) (InSeq xs) w) parts (left.0 s)) in
          let u = then-assoc_back (IsReached cuts) P (InSeq rest) w t in
          record { cut = u.cut; within = u.within; first = (at-front next w u.cut u.within).1 ((leads u.cut u.within).1 u.first); rest = u.rest }),
      (λ t. let u : Then (Then (IsReached cuts) P) (InSeq rest) w = record { cut = t.cut; within = t.within; first = (leads t.cut t.within).0 ((at-front next w t.cut t.within).0 t.first); rest = t.rest } in
          let v : Then (IsReached cuts) (Then P (InSeq rest)) w = then-assoc (IsReached cuts) P (InSeq rest) w u in
          left.1 (subst (λ xs. Then (IsReached cuts) (InSeq xs) w) (sym parts) (subst (λ Q. Then (IsReached cuts) (Then Q (InSeq rest)) w) (sym same) v))),
    )

pub left-end : (items : List Item) (w : List (Option ℤ)) (cuts : List Bool) (i : ℕ) → length items ≤ i → Left items w cuts i → (get_or cuts (length w) false ≡ true) ↔ InSeq items w
left-end items w cuts i all left =
    let none : drop i items ≡ [] = drop_all i items all in
    let zero = blocks-zero (λ (v : Option ℤ). true) (IsReached cuts) w in (
      (λ e. left.1 (subst (λ xs. Then (IsReached cuts) (InSeq xs) w) (sym none) (zero.0 e))),
      (λ s. zero.1 (subst (λ xs. Then (IsReached cuts) (InSeq xs) w) none (left.0 s))),
    )
