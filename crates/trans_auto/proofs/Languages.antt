-- Items and sequences, by the last sample.
use Rattle.std.proofs.Common.{◌≡◌, ℕ, ◌+◌, ◌*◌, ◌<◌, ◌≤◌, ◌⊎◌, ◌↔◌, List, [], ◌∷◌, ◌++◌, length, drop, refl, ap, sym, ◌∙◌, subst, inl, inr, arith, Bool, true, false, not, get_or, length-take, zero, suc, Option, Some, map, take}
use Rattle.std.specs.Prelude.{ℤ, nat_eq, Any}
use Rattle.std.proofs.lemmas.Bool.{or_cases, or_left, or_right, and_right, or_from, false≢true, ne_eqb}
use Rattle.std.proofs.lemmas.List.{take_more, map-append}
use Rattle.std.proofs.lemmas.Nat.Bits.{bit_at-zero}
use Rattle.trans_seq.specs.declared.seq.Item.{Item}
use Rattle.trans_seq.specs.declared.seq.Seq.{Seq}
use Rattle.trans_seq.specs.declared.seq.Repeat.{Repeat}
use Rattle.trans_seq.specs.declared.seq.Repeat.TheVariants.{Once, Consec, Goto, NonConsec}
use Rattle.trans_seq.specs.Windows.{Then, InItem, InSeq, InSome, IsBlock, IsBlocks, IsGap, IsRun, IsOne, AllOutside, is_end, is_known_in}
use Rattle.trans_seq.proofs.Cuts.{then-assoc, then-assoc_back, then-nil}
use Rattle.trans_seq.specs.Cells.{cells_of_repeat, cells_of_items}
use Rattle.trans_auto.specs.Masks.{has_bit, ItemsHold, SeqsHold, IsEmpty, RepeatHolds, RunsHold, BlocksHold}
use Rattle.trans_auto.specs.Steps.{ItemsStep, SeqsStep, Accepts, SomeAccepts, Leaves, RepeatSteps, RunsStep, BlocksStep, run_bit, at_bit, from_bit, done_bit}
use Rattle.trans_seq.proofs.Blocks.{blocks-zero}
use Rattle.trans_auto.proofs.Parts.{repeat-step, leaves-means}

pub items-step : (E : List (Option ℤ) → Type 0) (enter : Bool) (base old new : ℕ) (w : List (Option ℤ)) (v : Option ℤ) (items : List Item) → (enter ≡ true) ↔ E w → ItemsHold E base old w items → ItemsStep enter base old new v items → ItemsHold E base new (w ++ v ∷ []) items
items-step E enter base old new w v [] entered holds step = tt
items-step E enter base old new w v (item ∷ items) entered holds step =
    let leaves = leaves-means (is_known_in item.set) E base old enter w entered item.repeat (is_end items) holds.0 in (
      repeat-step (is_known_in item.set) E base old enter w entered v new item.repeat holds.0 step.0,
      items-step (Then E (InItem item (is_end items))) step.1 (base + cells_of_repeat item.repeat) old new w v items
          ((λ b. leaves.0 (step.2.0 b)), (λ t. step.2.1 (leaves.1 t))) holds.1 step.3,
    )

pub seqs-step : (fresh : Bool) (base old new : ℕ) (w : List (Option ℤ)) (v : Option ℤ) (seqs : List Seq) → (fresh ≡ true) ↔ IsEmpty w → SeqsHold base old w seqs → SeqsStep fresh base old new v seqs → SeqsHold base new (w ++ v ∷ []) seqs
seqs-step fresh base old new w v [] entered holds step = step
seqs-step fresh base old new w v (seq ∷ seqs) entered holds step = (
  items-step IsEmpty fresh base old new w v seq.items entered holds.0 step.0,
  seqs-step fresh (base + cells_of_items seq.items) old new w v seqs entered holds.1 step.1,
)

pub accepts-means : (E : List (Option ℤ) → Type 0) (enter : Bool) (base mask : ℕ) (w : List (Option ℤ)) (items : List Item) (answer : Bool) → (enter ≡ true) ↔ E w → ItemsHold E base mask w items → Accepts enter base mask items answer → (answer ≡ true) ↔ Then E (InSeq items) w
accepts-means E enter base mask w [] answer entered holds step =
    let none = blocks-zero (λ (v : Option ℤ). true) E w in
    ((λ b. none.0 (entered.0 (sym step ∙ b))), (λ t. step ∙ entered.1 (none.1 t)))
accepts-means E enter base mask w (item ∷ items) answer entered holds step =
    let leaves = leaves-means (is_known_in item.set) E base mask enter w entered item.repeat (is_end items) holds.0 in
    let rest = accepts-means (Then E (InItem item (is_end items))) step.0 (base + cells_of_repeat item.repeat) mask w items answer
    ((λ b. leaves.0 (step.1.0 b)), (λ t. step.1.1 (leaves.1 t))) holds.1 step.2 in (
      (λ b. then-assoc E (InItem item (is_end items)) (InSeq items) w (rest.0 b)),
      (λ t. rest.1 (then-assoc_back E (InItem item (is_end items)) (InSeq items) w t)),
    )

-- the second part is the whole list, after an empty one
from-start : (Q : List (Option ℤ) → Type 0) (w : List (Option ℤ)) → Then IsEmpty Q w ↔ Q w
from-start Q w = (
  (λ t. let e : t.cut ≡ 0 = let h : t.cut ≤ length w = t.within in omega (arith, ap length t.first, length-take t.cut w, h) in
      subst (λ n. Q (drop n w)) e t.rest),
  (λ q. record { cut = 0; within = omega arith; first = refl; rest = q }),
)

module _ {X : Type 0} (P : X → Type 0) where
  pub any-cases : (x : X) (xs : List X) → Any P (x ∷ xs) → P x ⊎ Any P xs
  any-cases x xs a = go a.0 a.1 a.2 a.3 a.4
    where
      go : (k : ℕ) (y : X) → k < length (x ∷ xs) → get_or (x ∷ xs) k y ≡ y → P y → P x ⊎ Any P xs
      go zero y h e q = inl (subst P (sym e) q)
      go (suc k) y h e q = inr (k, y, omega arith, e, q)

  pub any-here : (x : X) (xs : List X) → P x → Any P (x ∷ xs)
  any-here x xs h = (0, x, omega arith, refl, h)

  pub any-later : (x : X) (xs : List X) → Any P xs → Any P (x ∷ xs)
  any-later x xs a = let h : a.0 < length xs = a.2 in (suc a.0, a.1, omega (arith, h), a.3, a.4)

-- a list of some sequence
pub some_accepts-means : (fresh : Bool) (base mask : ℕ) (w : List (Option ℤ)) (seqs : List Seq) (answer : Bool) → (fresh ≡ true) ↔ IsEmpty w → SeqsHold base mask w seqs → SomeAccepts fresh base mask seqs answer → (answer ≡ true) ↔ InSome seqs w
some_accepts-means fresh base mask w [] answer entered holds step =
    ((λ b. absurd (false≢true (sym step ∙ b))), (λ a. absurd (omega (arith, a.2))))
some_accepts-means fresh base mask w (seq ∷ seqs) answer entered holds step =
    let P : Seq → Type 0 = λ s. InSeq s.items w in
    let one = accepts-means IsEmpty fresh base mask w seq.items step.0 entered holds.0 step.2 in
    let whole = from-start (InSeq seq.items) w in
    let others = some_accepts-means fresh (base + cells_of_items seq.items) mask w seqs step.1 entered holds.1 step.3 in (
      (λ b. elim (or_cases step.0 step.1 (sym step.4 ∙ b)) [
        | inl x ↦ any-here P seq seqs (whole.0 (one.0 x))
        | inr y ↦ any-later P seq seqs (others.0 y)
      ]),
      (λ a. elim (any-cases P seq seqs a) [
        | inl x ↦ step.4 ∙ or_left step.0 step.1 (one.1 (whole.1 x))
        | inr y ↦ step.4 ∙ or_right step.0 step.1 (others.1 y)
      ]),
    )

-- a list that isn't empty
pub not_fresh : (w : List (Option ℤ)) → (w ≡ [] → ⊥) → (false ≡ true) ↔ IsEmpty w
not_fresh w some = ((λ e. absurd (false≢true e)), (λ e. absurd (some e)))

-- nothing is reached by the empty list
zero-bit : (k : ℕ) → has_bit 0 k ≡ false
zero-bit k = ap (λ n. nat_eq n 1) (bit_at-zero k)

no-bit : (k : ℕ) → has_bit 0 k ≡ true → ⊥
no-bit k b = false≢true (sym (zero-bit k) ∙ b)

runs-start : (p : Option ℤ → Bool) (E : List (Option ℤ) → Type 0) (base high : ℕ) → RunsHold p E base 0 [] high
runs-start p E base high m h = (
  (λ b. absurd (no-bit (base + m) b)),
  (λ t. let n = then-nil E (IsRun p (suc m)) t in absurd (omega (arith, n.1.0))),
)

blocks-start : (p : Option ℤ → Bool) (E : List (Option ℤ) → Type 0) (base high gaps : ℕ) → BlocksHold p E base 0 [] high gaps
blocks-start p E base high gaps = record {
  at = λ m h. (
    (λ b. absurd (no-bit (base + 2 * m + 1) b)),
    (λ t. let n = then-nil E (IsBlocks p (suc m)) t in
        let k = then-nil (IsBlocks p m) (IsBlock p) n.1 in
        let j = then-nil (AllOutside p) (IsOne p) k.1 in absurd (omega (arith, j.1.0))),
  );
  after = λ m h. (
    (λ b. absurd (no-bit (base + 2 * m) b)),
    (λ t. let n = then-nil (Then E (IsBlocks p m)) (IsGap p) t in absurd (omega (arith, n.1.0))),
  );
}

repeat-start : (p : Option ℤ → Bool) (E : List (Option ℤ) → Type 0) (base : ℕ) (r : Repeat) → RepeatHolds p E base 0 [] r
repeat-start p E base Once = runs-start p E base 1
repeat-start p E base (Consec low high) = runs-start p E base high
repeat-start p E base (Goto low high) = blocks-start p E base high high
repeat-start p E base (NonConsec low high) = blocks-start p E base high (high + 1)

items-start : (E : List (Option ℤ) → Type 0) (base : ℕ) (items : List Item) → ItemsHold E base 0 [] items
items-start E base [] = tt
items-start E base (item ∷ items) = (repeat-start (is_known_in item.set) E base item.repeat, items-start (Then E (InItem item (is_end items))) (base + cells_of_repeat item.repeat) items)

pub seqs-start : (base : ℕ) (seqs : List Seq) → SeqsHold base 0 [] seqs
seqs-start base [] = λ k h. zero-bit k
seqs-start base (seq ∷ seqs) = (items-start IsEmpty base seq.items, seqs-start (base + cells_of_items seq.items) seqs)

-- where nothing is reached nothing is reached later
module _ (base : ℕ) where
  run-dead : (m : ℕ) → run_bit false base 0 m ≡ false
  run-dead zero = refl
  run-dead (suc m) = zero-bit (base + m)

  at-dead : (m : ℕ) → at_bit false base 0 m ≡ false
  at-dead zero = refl
  at-dead (suc m) = zero-bit (base + 2 * m + 1)

  from-dead : (m : ℕ) → from_bit false base 0 m ≡ false
  from-dead m = or_from (at_bit false base 0 m) (has_bit 0 (base + 2 * m)) (at-dead m) (zero-bit (base + 2 * m))

  done-dead : (trailing : Bool) (m : ℕ) → done_bit false base 0 trailing m ≡ false
  done-dead true m = from-dead m
  done-dead false m = at-dead m

  runs-dead : (inside : Bool) (high : ℕ) → RunsStep false base 0 inside 0 high
  runs-dead inside high m h = zero-bit (base + m) ∙ sym (and_right inside (run_bit false base 0 m) (run-dead m))

  blocks-dead : (inside : Bool) (high gaps : ℕ) → BlocksStep false base 0 inside 0 high gaps
  blocks-dead inside high gaps = record {
    at = λ m h. zero-bit (base + 2 * m + 1) ∙ sym (and_right inside (from_bit false base 0 m) (from-dead m));
    after = λ m h. zero-bit (base + 2 * m) ∙ sym (and_right (not inside) (from_bit false base 0 m) (from-dead m));
  }

  repeat-dead : (inside : Bool) (r : Repeat) → RepeatSteps false base 0 inside 0 r
  repeat-dead inside Once = runs-dead inside 1
  repeat-dead inside (Consec low high) = runs-dead inside high
  repeat-dead inside (Goto low high) = blocks-dead inside high high
  repeat-dead inside (NonConsec low high) = blocks-dead inside high (high + 1)

  leaves-dead : (r : Repeat) (last : Bool) → Leaves false base 0 r last → ⊥
  leaves-dead Once last l = false≢true (sym (run-dead 1) ∙ l)
  leaves-dead (Consec low high) last l = false≢true (sym (run-dead l.0) ∙ l.3)
  leaves-dead (Goto low high) last l = false≢true (sym (at-dead l.0) ∙ l.3)
  leaves-dead (NonConsec low high) last l = false≢true (sym (done-dead (not last) l.0) ∙ l.3)

items-dead : (base : ℕ) (v : Option ℤ) (items : List Item) → ItemsStep false base 0 0 v items
items-dead base v [] = tt
items-dead base v (item ∷ items) = (
  repeat-dead base (is_known_in item.set v) item.repeat,
  false,
  ((λ b. absurd (false≢true b)), (λ l. absurd (leaves-dead base item.repeat (is_end items) l))),
  items-dead (base + cells_of_repeat item.repeat) v items,
)

pub seqs-dead : (base : ℕ) (v : Option ℤ) (seqs : List Seq) → SeqsStep false base 0 0 v seqs
seqs-dead base v [] = λ k h. zero-bit k
seqs-dead base v (seq ∷ seqs) = (items-dead base v seq.items, seqs-dead (base + cells_of_items seq.items) v seqs)

accepts-dead : (base : ℕ) (items : List Item) → Accepts false base 0 items false
accepts-dead base [] = refl
accepts-dead base (item ∷ items) = (
  false,
  ((λ b. absurd (false≢true b)), (λ l. absurd (leaves-dead base item.repeat (is_end items) l))),
  accepts-dead (base + cells_of_repeat item.repeat) items,
)

pub some_accepts-dead : (base : ℕ) (seqs : List Seq) → SomeAccepts false base 0 seqs false
some_accepts-dead base [] = refl
some_accepts-dead base (seq ∷ seqs) = (false, false, accepts-dead base seq.items, some_accepts-dead (base + cells_of_items seq.items) seqs, refl)

-- ---- lists of known values

pub known-empty : (list : List ℤ) (b : Bool) → b ≡ nat_eq (length list) 0 → (b ≡ true) ↔ IsEmpty (map Some list)
known-empty [] b e = ((λ t. refl), (λ none. e))
known-empty (x ∷ xs) b e = (
  (λ t. absurd (false≢true (sym (e ∙ ne_eqb (length (x ∷ xs)) 0 (λ z. omega (arith, z))) ∙ t))),
  (λ none. absurd (omega (arith, ap length none))),
)

pub known-front : (list : List ℤ) (k : ℕ) → k < length list → (nat_eq k 0 ≡ true) ↔ IsEmpty (map Some (take k list))
known-front list k lt = let long : k ≡ length (take k list) = omega (arith, lt, length-take k list) in known-empty (take k list) (nat_eq k 0) (ap (λ n. nat_eq n 0) long)

pub known-more : (list : List ℤ) (k : ℕ) (x : ℤ) → k < length list → x ≡ get_or list k x → map Some (take k list) ++ Some x ∷ [] ≡ map Some (take (k + 1) list)
known-more list k x lt is = sym (ap (map Some) (take_more list k x lt ∙ ap (λ y. take k list ++ y ∷ []) (sym is)) ∙ map-append Some (take k list) (x ∷ []))
