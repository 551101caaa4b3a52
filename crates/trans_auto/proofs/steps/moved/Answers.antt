use Rattle.std.proofs.Common.{◌≡◌, ℕ, ◌*◌, ◌-◌, ◌%◌, ◌^◌, ◌<◌, ◌≤◌, ◌&&◌, ◌||◌, not, Bool, false, ap, ◌∙◌, refl, arith, zero, suc}
use Rattle.std.specs.Prelude.{bit_or, bit_and}
use Rattle.std.proofs.Math.Bool.{and-false}
use Rattle.trans_auto.specs.declared.steps.Masks.{Masks}
use Rattle.trans_auto.specs.Masks.{has_bit}
use Rattle.trans_auto.specs.Layout.{bit_before, stands_before, stands_open, open_before, moved_bit}
use Rattle.trans_auto.proofs.BitLemmas.{has-or, has-and, has-not, has-shifted, has-above}
use Rattle.trans_auto.proofs.steps.moved.Goals as goal

both : (a b : ℕ) (k : ℕ) (x y : Bool) → has_bit a k ≡ x → has_bit b k ≡ y → has_bit (bit_and a b) k ≡ (x && y)
both a b k x y e f = has-and a b k ∙ ap (λ z. z && has_bit b k) e ∙ ap (λ z. x && z) f

either : (a b : ℕ) (k : ℕ) (x y : Bool) → has_bit a k ≡ x → has_bit b k ≡ y → has_bit (bit_or a b) k ≡ (x || y)
either a b k x y e f = has-or a b k ∙ ap (λ z. z || has_bit b k) e ∙ ap (λ z. x || z) f

module _ (masks : Masks) (inside enters old : ℕ) where
  abbrev before : ℕ
  before = bit_or enters (bit_and (old * 2 % 2 ^ 128) masks.later)

  abbrev opened : ℕ
  opened = bit_and (bit_or before old) masks.gaps

  before-bit : (k : ℕ) → k < 128 → has_bit before k ≡ stands_before masks inside enters old k
  before-bit k lt = either enters (bit_and (old * 2 % 2 ^ 128) masks.later) k (has_bit enters k) (bit_before old k && has_bit masks.later k) refl (both (old * 2 % 2 ^ 128) masks.later k (bit_before old k) (has_bit masks.later k) (has-shifted old k lt) refl)

  opened-bit : (k : ℕ) → k < 128 → has_bit opened k ≡ stands_open masks inside enters old k
  opened-bit k lt = both (bit_or before old) masks.gaps k (stands_before masks inside enters old k || has_bit old k) (has_bit masks.gaps k) (either before old k (stands_before masks inside enters old k) (has_bit old k) (before-bit k lt) refl) refl

  before-open : (k : ℕ) → k < 128 → bit_before opened k ≡ open_before masks inside enters old k
  before-open zero lt = refl
  before-open (suc k) lt = opened-bit k (omega (arith, lt))

  whole-bit : inside < 2 ^ 128 → (k : ℕ) → k < 128 → has_bit (bit_or (bit_or (bit_and (bit_and before masks.runs) inside) (bit_and (bit_and (opened * 2 % 2 ^ 128) masks.ends) inside)) (bit_and opened (2 ^ 128 - 1 - inside))) k ≡ moved_bit masks inside enters old k
  whole-bit small k lt =
      let b = stands_before masks inside enters old k in
      let o = stands_open masks inside enters old k in
      let p = open_before masks inside enters old k in
      let i = has_bit inside k in
      let r = has_bit masks.runs k in
      let e = has_bit masks.ends k in
      either _ _ k (b && r && i || p && e && i) (o && not i)
      (either _ _ k (b && r && i) (p && e && i)
      (both _ inside k (b && r) i (both before masks.runs k b r (before-bit k lt) refl) refl)
      (both _ inside k (p && e) i (both (opened * 2 % 2 ^ 128) masks.ends k p e (has-shifted opened k lt ∙ before-open k lt) refl) refl))
      (both opened (2 ^ 128 - 1 - inside) k o (not i) (opened-bit k lt) (has-not inside k small lt))

  far-bit : inside < 2 ^ 128 → (k : ℕ) → 128 ≤ k → has_bit (bit_or (bit_or (bit_and (bit_and before masks.runs) inside) (bit_and (bit_and (opened * 2 % 2 ^ 128) masks.ends) inside)) (bit_and opened (2 ^ 128 - 1 - inside))) k ≡ false
  far-bit small k le =
      let none : (a : ℕ) → has_bit (bit_and a inside) k ≡ false = λ a. has-and a inside k ∙ ap (λ b. has_bit a k && b) (has-above inside 128 k small le) ∙ and-false (has_bit a k) in
      either _ _ k false false
      (either _ _ k false false (none (bit_and before masks.runs)) (none (bit_and (opened * 2 % 2 ^ 128) masks.ends)))
      (has-and opened (2 ^ 128 - 1 - inside) k ∙ ap (λ b. has_bit opened k && b) (has-above (2 ^ 128 - 1 - inside) 128 k (omega arith) le) ∙ and-false (has_bit opened k))

pub returns-clause-here : goal.returns-clause-here
returns-clause-here c = λ k lt. whole-bit c.args.masks.now c.args.inside c.args.enters c.args.old (omega arith) k lt

pub returns-clause-above : goal.returns-clause-above
returns-clause-above c = λ k le. far-bit c.args.masks.now c.args.inside c.args.enters c.args.old (omega arith) k le
