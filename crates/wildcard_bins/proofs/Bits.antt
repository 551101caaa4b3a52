-- Tests of all places, and the bits of numbers that are so much higher.
use Rattle.std.proofs.Common.{◌≡◌, ◌∙◌, refl, ap, sym, ℕ, zero, suc, ◌+◌, ◌-◌, ◌*◌, ◌/◌, ◌%◌, ◌^◌, ◌<◌, nat_lt, List, [], ◌∷◌, ◌++◌, arith, Bool, true, false, inl, inr, pow-suc}
use Rattle.std.specs.Prelude.{◌&&◌, ◌⊎◌}
use Rattle.std.specs.List.{list_all}
use Rattle.std.specs.Int.{bit_at}
use Rattle.std.proofs.lemmas.Grind.{common_steps}
use Rattle.std.proofs.lemmas.Bool.Decides.{nat_tests}
use Rattle.std.proofs.lemmas.Nat.{div-mul-add, pow-add, pow_pos}
use Rattle.std.proofs.Math.Nat.{add-mul-div_right, add-mul-mod_self_right}
use Rattle.bin_spec.specs.Parts.{places}

-- ---- all places

list_all-last : {X : Type 0} → (f : X → Bool) (xs : List X) (x : X) → list_all f (xs ++ x ∷ []) ≡ (list_all f xs && f x)
list_all-last f [] x = grind (arith, common_steps)
list_all-last f (y ∷ ys) x = grind (arith, common_steps, list_all-last f ys x)

pub all-suc : (f : ℕ → Bool) (n : ℕ) → list_all f (places (suc n)) ≡ (list_all f (places n) && f n)
all-suc f n = list_all-last f (places n) n

-- a test that answers alike at each place
pub all_same : (f g : ℕ → Bool) (n : ℕ) → ((place : ℕ) → place < n → f place ≡ g place) → list_all f (places n) ≡ list_all g (places n)
all_same f g zero same = refl
all_same f g (suc n) same = all-suc f n ∙ (both (all_same f g n (λ place lt. same place (omega arith))) (same n (omega arith)) ∙ sym (all-suc g n))
  where
    both : {a b c d : Bool} → a ≡ c → b ≡ d → (a && b) ≡ (c && d)
    both e h = λ i. e i && h i

less : (a b : ℕ) → nat_lt a b ≡ true → a < b
less a b e = grind (arith, nat_tests)

equal : (a b : ℕ) → a < suc b → nat_lt a b ≡ false → a ≡ b
equal a b h e = grind (arith, nat_tests)

pub each_of_all : (f : ℕ → Bool) (n : ℕ) → list_all f (places n) ≡ true → (place : ℕ) → place < n → f place ≡ true
each_of_all f zero all place lt = absurd (omega arith)
each_of_all f (suc n) all place lt =
    let split : (list_all f (places n) && f n) ≡ true = sym (all-suc f n) ∙ all in
    elim (last_or_before place n lt) [
      | inl e ↦ ap f e ∙ second (list_all f (places n)) (f n) split
      | inr before ↦ each_of_all f n (first (list_all f (places n)) (f n) split) place before
    ]
  where
    last_or_before : (a b : ℕ) → a < suc b → (a ≡ b) ⊎ (a < b)
    last_or_before a b h = by (nat_lt a b) refl
      where
        by : (t : Bool) → nat_lt a b ≡ t → (a ≡ b) ⊎ (a < b)
        by true e = inr (less a b e)
        by false e = inl (equal a b h e)

    first : (a b : Bool) → (a && b) ≡ true → a ≡ true
    first a b e = grind (arith, common_steps)

    second : (a b : Bool) → (a && b) ≡ true → b ≡ true
    second a b e = grind (arith, common_steps)

pub all_of_each : (f : ℕ → Bool) (n : ℕ) → ((place : ℕ) → place < n → f place ≡ true) → list_all f (places n) ≡ true
all_of_each f zero each = refl
all_of_each f (suc n) each = all-suc f n ∙ both (list_all f (places n)) (f n) (all_of_each f n (λ place lt. each place (omega arith))) (each n (omega arith))
  where
    both : (a b : Bool) → a ≡ true → b ≡ true → (a && b) ≡ true
    both a b e h = grind (arith, common_steps)

-- ---- bits of u + 2 ^ k, where u is below 2 ^ k

pub bit_at-add_same : (u k : ℕ) → u < 2 ^ k → bit_at (u + 2 ^ k) k ≡ 1
bit_at-add_same u k lt =
    let one : u + 2 ^ k ≡ 1 * 2 ^ k + u = omega arith in
    ap (λ (n : ℕ). n / 2 ^ k % 2) one ∙ ap (λ (n : ℕ). n % 2) (div-mul-add 1 (2 ^ k) u lt)

pub bit_at-add_below : (u k i : ℕ) → i < k → bit_at (u + 2 ^ k) i ≡ bit_at u i
bit_at-add_below u k i lt =
    let there : k ≡ suc (k - i - 1) + i = omega arith in
    let twice : 2 ^ k ≡ (2 ^ (k - i - 1) * 2) * 2 ^ i = ap (λ (n : ℕ). 2 ^ n) there ∙ (pow-add 2 (suc (k - i - 1)) i ∙ ap (λ (n : ℕ). n * 2 ^ i) (pow-suc 2 (k - i - 1))) in
    ap (λ (n : ℕ). (u + n) / 2 ^ i % 2) twice ∙ (ap (λ (n : ℕ). n % 2) (add-mul-div_right u (2 ^ (k - i - 1) * 2) (pow_pos i)) ∙ add-mul-mod_self_right (u / 2 ^ i) (2 ^ (k - i - 1)) 2)
