-- What a look tells a seat that waits.
use Rattle.std.proofs.Common.{◌≡◌, ℕ, ◌+◌, ◌-◌, ◌^◌, ◌≤◌, drop, length, arith, List, [], ◌∷◌, ◌++◌, Option, Some, sym, refl, ap, ◌∙◌, subst}
use mathlib.Core.List.{IsPrefix}
use mathlib.Core.Option.{none}
use Rattle.atomic_table.specs.Table.{step, rest}
use Rattle.turn_lock.specs.declared.board.View.{View}
use Rattle.turn_lock.specs.declared.board.Stage.TheVariants.{Waiting}
use Rattle.turn_lock.specs.declared.board.Who.{Who}
use Rattle.turn_lock.specs.History.{NoneBy, AtMostOneMore, own_from}
use Rattle.turn_lock.proofs.Numbers.{own_same, own_none, own_more, more_number}
use Rattle.turn_lock.specs.Views.{informed, merged, new_part, who_is, view, at_stage}
use Rattle.turn_lock.specs.Steps.{Sat, Serves, looked, Waits, drew_number, learned}

module _ {T B E : Type 0} (base : T → B) (entries : T → List E) (number : E → ℕ) where
  pub served_told : (slots ticket found : ℕ) (m me m' : Sat T B E) (b : B) (w : Waits ticket m) → m.0.base ≡ Some b → me ≡ m → looked base entries number (step slots 2 0 0 none) me found m' → found ≡ ticket → Serves base entries number w.0 (at_stage (Waiting w.0) m.0, []) m'
  served_told slots ticket found m me m' b w based same told hit =
      (subst (λ (z : Sat T B E). looked base entries number (step slots 2 0 0 none) z found m') (same ∙ w.2) told w.0 b refl based).0 (hit ∙ w.1)

  abbrev pub Has : ℕ → Sat T B E → Sat T B E → Type 0
  Has p m m' = Serves base entries number p (at_stage (Waiting p) m.0, []) m'

  pub slot_told : (p : ℕ) (m m' : Sat T B E) → Has p m m' → (old : Option T) × (m'.1 ≡ (0, old) ∷ rest m'.1)
  slot_told p m m' t = (Some t.0, subst (λ (z : List (ℕ × Option T)). z ≡ (0, Some t.0) ∷ rest z) (sym (ap (λ (z : Sat T B E). z.1) t.4)) refl)

module _ {B E : Type 0} (number : E → ℕ) where
  abbrev pub own_of : View B E → List (ℕ × E)
  own_of d = own_from number d.who.number d.who.opened (drop d.who.opened d.seen)

module _ {T B E : Type 0} (number : E → ℕ) where
  -- what a seat learns has none of its own entries besides those that it knew
  pub own_learned : (sound : B → List E → Type 0) (m m' : Sat T B E) (r : ℕ) → learned sound number (step 0 0 0 0 none) m r m' → own_of number m'.0 ≡ own_of number m.0
  own_learned sound m m' r t =
      let who : m'.0.who ≡ m.0.who = ap (λ (z : Sat T B E). z.0.who) t.0 in
      ap (λ (w : Who). own_from number w.number w.opened (drop w.opened m'.0.seen)) who ∙ own_same number m.0.who.number m.0.who.opened m.0.seen m'.0.seen t.1 t.7 t.4

  pub own_told : (sound : B → List E → Type 0) (d e : View B E) (c : List (ℕ × Option T)) (m m' : Sat T B E) (r : ℕ) → m ≡ (informed d e, c) → learned sound number (step 0 0 0 0 none) m r m' → own_of number m'.0 ≡ own_of number d
  own_told sound d e c m m' r is t = own_learned sound m m' r t ∙ ap (λ (z : Sat T B E). own_of number z.0) is

  pub own_merged : (sound : B → List E → Type 0) (d e : View B E) (c : List (ℕ × Option T)) (m m' : Sat T B E) (r : ℕ) → m ≡ (merged d e, c) → learned sound number (step 0 0 0 0 none) m r m' → own_of number m'.0 ≡ own_of number d
  own_merged sound d e c m m' r is t = own_learned sound m m' r t ∙ ap (λ (z : Sat T B E). own_of number z.0) is

  -- the number that was drawn, and the own entries of its seat, of which there are none
  pub number_told : (m m' : Sat T B E) (r : ℕ) (w : View B E) → drew_number number (step 0 0 0 0 none) m r m' → w ≡ new_part m'.0 → (w.who.number ≡ 2 ^ 32 - m.0.who.left) × (own_of number w ≡ [])
  number_told m m' r w t is =
      let new : w ≡ new_part (view m.0.stage m.0.free m.0.base m.0.seen m.0.told (who_is m.0.who.number (m.0.who.left - 1) m.0.who.opened (Some r))) = is ∙ ap (λ (z : Sat T B E). new_part z.0) t.2 in
      let drawn : w.who.number ≡ r = ap (λ (z : View B E). z.who.number) new in
      let sum : r + m.0.who.left ≡ 2 ^ 32 = t.0 in
      (omega arith, ap (own_of number) new ∙ own_none number r m.0.who.opened (drop m.0.who.opened m.0.seen) t.1)

-- the own entries of a turn, and of the seat that gives it back
module _ {E : Type 0} (number : E → ℕ) where
  pub own_taken : (n n' k k' : ℕ) (seen taken es : List E) → n' ≡ n → k' ≡ k → taken ≡ es → IsPrefix seen es → k ≤ length seen → NoneBy number n (drop (length seen) es)
      → own_from number n' k' (drop k' taken) ≡ own_from number n k (drop k seen)
  own_taken n n' k k' seen taken es is since same begins past others =
      ap (λ (z : ℕ × ℕ × List E). own_from number z.0 z.1 (drop z.1 z.2)) (λ i. (is i, since i, same i)) ∙ own_same number n k seen es begins past others

  pub own_given : (n n' k k' : ℕ) (taken seen es : List E) (e : E) → n' ≡ n → k' ≡ k → seen ≡ es → es ≡ taken ++ e ∷ [] → k ≤ length taken → AtMostOneMore number n taken es
      → own_from number n' k' (drop k' seen) ≡ own_from number n k (drop k taken) ++ (length taken, e) ∷ []
  own_given n n' k k' taken seen es e is since same more past one =
      ap (λ (z : ℕ × ℕ × List E). own_from number z.0 z.1 (drop z.1 z.2)) (λ i. (is i, since i, (same ∙ more) i))
      ∙ own_more number n k taken e past (more_number number n taken e (subst (AtMostOneMore number n taken) more one))
