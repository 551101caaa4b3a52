-- Pieces behind a text, one after the other.
use Rattle.std.proofs.Common.{◌≡◌, List, ◌++◌, ℕ, ap, ◌∙◌, append_assoc}

-- one piece more behind those that are there
pub one_more : (old x y m n : List ℕ) → m ≡ old ++ x → n ≡ m ++ y → n ≡ old ++ (x ++ y)
one_more old x y m n p q = q ∙ ap (λ (bytes : List ℕ). bytes ++ y) p ∙ append_assoc old x y

pub three : (old x y z m n : List ℕ) → m ≡ old ++ x → n ≡ m ++ y → n ++ z ≡ old ++ (x ++ (y ++ z))
three old x y z m n p q = ap (λ (bytes : List ℕ). bytes ++ z) (one_more old x y m n p q) ∙ append_assoc old (x ++ y) z ∙ ap (λ (bytes : List ℕ). old ++ bytes) (append_assoc x y z)

-- an element with what stands in it, in a line
pub enclosed : (old start inside end line m n k : List ℕ) → m ≡ old ++ start → n ≡ m ++ inside → k ≡ n ++ end → k ++ line ≡ old ++ ((start ++ (inside ++ end)) ++ line)
enclosed old start inside end line m n k p q r =
    ap (λ (bytes : List ℕ). bytes ++ line) (one_more old start (inside ++ end) m k p (one_more m inside end n k q r)) ∙ append_assoc old (start ++ (inside ++ end)) line

-- the same, whose beginning is written in one piece with its first tag
pub closed : (old start head inside end line m n k : List ℕ) → m ≡ old ++ (start ++ head) → n ≡ m ++ inside → k ≡ n ++ end
    → k ++ line ≡ old ++ ((start ++ ((head ++ inside) ++ end)) ++ line)
closed old start head inside end line m n k p q r =
    let begun : n ≡ old ++ (start ++ (head ++ inside)) = one_more old (start ++ head) inside m n p q ∙ ap (λ (bytes : List ℕ). old ++ bytes) (append_assoc start head inside) in
    let ended : k ≡ old ++ (start ++ ((head ++ inside) ++ end)) =
    one_more old (start ++ (head ++ inside)) end n k begun r ∙ ap (λ (bytes : List ℕ). old ++ bytes) (append_assoc start (head ++ inside) end) in
    ap (λ (bytes : List ℕ). bytes ++ line) ended ∙ append_assoc old (start ++ ((head ++ inside) ++ end)) line
