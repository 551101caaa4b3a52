-- Three pieces behind a text, one after the other.
use Rattle.std.proofs.Common.{◌≡◌, ℕ, List, [], ◌++◌, sym, ◌∙◌, ap, append_assoc, append-nil}

pub three : (old x y z m n : List ℕ) → m ≡ old ++ x → n ≡ m ++ y → n ++ z ≡ old ++ (x ++ (y ++ z))
three old x y z m n p q =
    ap (λ (bytes : List ℕ). bytes ++ z) (q ∙ ap (λ (bytes : List ℕ). bytes ++ y) p)
    ∙ append_assoc (old ++ x) y z ∙ append_assoc old x (y ++ z)

-- the same, where nothing follows in a list
pub three_all : (old x y z m n : List ℕ) → m ≡ old ++ x → n ≡ m ++ y → n ++ z ≡ old ++ (x ++ (y ++ (z ++ [])))
three_all old x y z m n p q = three old x y z m n p q ∙ ap (λ (bytes : List ℕ). old ++ (x ++ (y ++ bytes))) (sym (append-nil z))
