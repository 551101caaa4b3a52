-- The table at the start keeps the rule.
use Rattle.std.proofs.Common.{◌≡◌, ℕ, zero, suc, ◌+◌, ◌^◌, ◌<◌, ◌≤◌, List, [], ◌∷◌, length, false, Option, Some, sym, refl, ◌∙◌, subst, arith}
use Rattle.std.proofs.Math.Nat.{mod-eq_of_lt}
use mathlib.Core.Option.{some, some-injective}
use lib.ListN.{get_elem?}
use Rattle.atomic_table.specs.Table.{opening}
use Rattle.turn_lock.specs.declared.board.View.{View}
use Rattle.turn_lock.specs.Views.{idle, first_who}
use Rattle.turn_lock.specs.Rule.{Kept}
use Rattle.turn_lock.proofs.Prefixes.{prefix_self}
use Rattle.turn_lock.proofs.Numbers.{none_past}
use Rattle.turn_lock.proofs.Keeps.{Fine}

module _ {T B E : Type 0} (base : T → B) (entries : T → List E) (sound : B → List E → Type 0) (number : E → ℕ) where
  first : (x : T) (free : ℕ) (most : ℕ) → sound (base x) (entries x) → (j : ℕ) (d : View B E) → get_elem? (idle free (base x) (entries x) (entries x) (first_who (length (entries x))) ∷ []) j ≡ some d
      → Fine base entries sound number (base x) (length (entries x)) most 0 0 (λ _. 0) false (entries x) 1 0 (λ _. 0) j d
  first x free most fits zero d there = subst (Fine base entries sound number (base x) (length (entries x)) most 0 0 (λ _. 0) false (entries x) 1 0 (λ _. 0) zero) (some-injective _ d there)
      (tt, (prefix_self (entries x), prefix_self (entries x), (refl, fits, fits)), ((λ _. refl), λ _. (omega arith, refl, refl, omega arith, none_past number 0 (entries x), tt)))
  first x free most fits (suc j) d there = absurd (cc)

  opens : (x : T) (n free most : ℕ) → n ≡ length (entries x) → n < 2 ^ 64 → free + 1 ≤ most → most ≤ 4096 → sound (base x) (entries x)
      → Kept base entries sound number (base x) (length (entries x)) most (opening (n ∷ 0 ∷ 0 ∷ 1 ∷ []) (Some x ∷ []) (idle free (base x) (entries x) (entries x) (first_who (length (entries x)))))
  opens x n free most is small room bound fits = record {
    drawn = 0;
    served = 0;
    owner = λ _. 0;
    busy = false;
    log = entries x;
    next = 1;
    keeper = 0;
    seat_of = λ _. 0;
    wide = refl;
    long = refl;
    length_is = is ∙ sym (mod-eq_of_lt (omega arith));
    ticket_is = refl;
    serving_is = refl;
    next_is = refl;
    left_over = refl;
    unused = λ m _. none_past number m (entries x);
    within = omega arith;
    bound = bound;
    held = refl;
    few = omega arith;
    each_seat = first x free most fits;
    slot = (x, refl, refl, refl);
  }

  -- the same, where the value's base and entries are known by equations
  pub opens_as : (x : T) (b : B) (es : List E) (items : List (Option T)) (n free most : ℕ) → base x ≡ b → entries x ≡ es → items ≡ Some x ∷ [] → n ≡ length es → n < 2 ^ 64 → free + 1 ≤ most → most ≤ 4096 → sound b es
      → Kept base entries sound number b (length es) most (opening (n ∷ 0 ∷ 0 ∷ 1 ∷ []) items (idle free b es es (first_who (length es))))
  opens_as x b es items n free most based is long same small room bound fits = subst
      (λ (z : B × List E × List (Option T)). sound z.0 z.1 → n ≡ length z.1 → Kept base entries sound number z.0 (length z.1) most (opening (n ∷ 0 ∷ 0 ∷ 1 ∷ []) z.2 (idle free z.0 z.1 z.1 (first_who (length z.1)))))
      (λ k. (based k, is k, sym long k)) (λ fits' same'. opens x n free most same' small room bound fits') fits same
