-- Two words, three, and five.
use Rattle.std.proofs.Common.{◌≡◌, ◌≤◌, ◌<◌, List, [], ◌∷◌, length, get_or, sym, arith}

-- two elements that were read are the list
pub two_items : {A : Type 0} (xs : List A) (a b : A) → 2 ≤ length xs → length xs < 3 → a ≡ get_or xs 0 a → b ≡ get_or xs 1 b → xs ≡ a ∷ b ∷ []
two_items [] a b le lt p q = absurd (omega arith)
two_items (x ∷ []) a b le lt p q = absurd (omega arith)
two_items (x ∷ y ∷ []) a b le lt p q = let k : a ∷ b ∷ [] ≡ x ∷ y ∷ [] = λ i. p i ∷ q i ∷ [] in sym k
two_items (x ∷ y ∷ z ∷ zs) a b le lt p q = absurd (omega arith)

-- three elements that were read are the list
pub three_items : {A : Type 0} (xs : List A) (a b c : A) → 3 ≤ length xs → length xs < 4 → a ≡ get_or xs 0 a → b ≡ get_or xs 1 b → c ≡ get_or xs 2 c → xs ≡ a ∷ b ∷ c ∷ []
three_items [] a b c le lt p q r = absurd (omega arith)
three_items (x ∷ []) a b c le lt p q r = absurd (omega arith)
three_items (x ∷ y ∷ []) a b c le lt p q r = absurd (omega arith)
three_items (x ∷ y ∷ z ∷ []) a b c le lt p q r = let k : a ∷ b ∷ c ∷ [] ≡ x ∷ y ∷ z ∷ [] = λ i. p i ∷ q i ∷ r i ∷ [] in sym k
three_items (x ∷ y ∷ z ∷ w ∷ ws) a b c le lt p q r = absurd (omega arith)

-- five elements that were read are the list
pub five_items : {A : Type 0} (xs : List A) (a b c d e : A) → 5 ≤ length xs → length xs < 6 → a ≡ get_or xs 0 a → b ≡ get_or xs 1 b → c ≡ get_or xs 2 c → d ≡ get_or xs 3 d → e ≡ get_or xs 4 e
    → xs ≡ a ∷ b ∷ c ∷ d ∷ e ∷ []
five_items [] a b c d e le lt p q r s t = absurd (omega arith)
five_items (x ∷ []) a b c d e le lt p q r s t = absurd (omega arith)
five_items (x ∷ y ∷ []) a b c d e le lt p q r s t = absurd (omega arith)
five_items (x ∷ y ∷ z ∷ []) a b c d e le lt p q r s t = absurd (omega arith)
five_items (x ∷ y ∷ z ∷ u ∷ []) a b c d e le lt p q r s t = absurd (omega arith)
five_items (x ∷ y ∷ z ∷ u ∷ v ∷ []) a b c d e le lt p q r s t = let k : a ∷ b ∷ c ∷ d ∷ e ∷ [] ≡ x ∷ y ∷ z ∷ u ∷ v ∷ [] = λ i. p i ∷ q i ∷ r i ∷ s i ∷ t i ∷ [] in sym k
five_items (x ∷ y ∷ z ∷ u ∷ v ∷ w ∷ ws) a b c d e le lt p q r s t = absurd (omega arith)
