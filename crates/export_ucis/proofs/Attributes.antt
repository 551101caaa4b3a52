-- Attributes behind others, and four of them behind a text.
use Rattle.std.proofs.Common.{◌≡◌, List, [], ◌∷◌, ◌++◌, ℕ, refl, sym, ap, ◌∙◌, append_assoc, append-nil}
use Rattle.markup.specs.Trees.{Attribute, attribute_text, attributes_text}
use Rattle.export_ucis.proofs.Chains.{one_more, three}

pub attributes_more : (xs ys : List Attribute) → attributes_text (xs ++ ys) ≡ attributes_text xs ++ attributes_text ys
attributes_more [] ys = refl
attributes_more (x ∷ xs) ys =
    ap (λ (bytes : List ℕ). attribute_text x ++ bytes) (attributes_more xs ys)
    ∙ sym (append_assoc (attribute_text x) (attributes_text xs) (attributes_text ys))

pub four_all : (old a b c d m n k : List ℕ) → m ≡ old ++ a → n ≡ m ++ b → k ≡ n ++ c → k ++ d ≡ old ++ (a ++ (b ++ (c ++ (d ++ []))))
four_all old a b c d m n k p q r =
    let three : k ≡ old ++ (a ++ (b ++ c)) = one_more old a (b ++ c) m k p (r ∙ ap (λ (bytes : List ℕ). bytes ++ c) q ∙ append_assoc m b c) in
    ap (λ (bytes : List ℕ). bytes ++ d) three ∙ append_assoc old (a ++ (b ++ c)) d
    ∙ ap (λ (bytes : List ℕ). old ++ bytes) (append_assoc a (b ++ c) d ∙ ap (λ (bytes : List ℕ). a ++ bytes) (append_assoc b c d ∙ ap (λ (bytes : List ℕ). b ++ (c ++ bytes)) (sym (append-nil d))))

-- an element of two lists of attributes that has nothing in it, in a line
pub two_lists : (old tag : List ℕ) (xs ys : List Attribute) (end line m n k l : List ℕ) → m ≡ old ++ tag → n ≡ m ++ attributes_text xs → k ≡ n ++ attributes_text ys → l ≡ k ++ end
    → l ++ line ≡ old ++ ((tag ++ (attributes_text (xs ++ ys) ++ end)) ++ line)
two_lists old tag xs ys end line m n k l p q r s =
    let both : k ≡ m ++ attributes_text (xs ++ ys) = one_more m _ _ n k q r ∙ ap (λ (bytes : List ℕ). m ++ bytes) (sym (attributes_more xs ys)) in
    let all : l ≡ old ++ (tag ++ (attributes_text (xs ++ ys) ++ end)) = one_more old tag _ m l p (one_more m _ end k l both s) in
    ap (λ (bytes : List ℕ). bytes ++ line) all ∙ append_assoc old _ line

-- the first tag of an element with three lists of attributes
pub three_lists : (old tag : List ℕ) (xs ys zs : List Attribute) (end m n k l : List ℕ) → m ≡ old ++ tag → n ≡ m ++ attributes_text xs → k ≡ n ++ attributes_text ys → l ≡ k ++ attributes_text zs
    → l ++ end ≡ old ++ (tag ++ (attributes_text (xs ++ (ys ++ zs)) ++ end))
three_lists old tag xs ys zs end m n k l p q r s =
    let last : l ≡ n ++ attributes_text (ys ++ zs) = one_more n _ _ k l r s ∙ ap (λ (bytes : List ℕ). n ++ bytes) (sym (attributes_more ys zs)) in
    let all : l ≡ m ++ attributes_text (xs ++ (ys ++ zs)) = one_more m _ _ n l q last ∙ ap (λ (bytes : List ℕ). m ++ bytes) (sym (attributes_more xs (ys ++ zs))) in
    ap (λ (bytes : List ℕ). bytes ++ end) (one_more old tag _ m l p all) ∙ append_assoc old _ end ∙ ap (λ (bytes : List ℕ). old ++ bytes) (append_assoc tag _ end)

-- the first tag of an element with one attribute, and with three
pub one_attribute : (old tag a end m n : List ℕ) → m ≡ old ++ tag → n ≡ m ++ a → n ++ end ≡ old ++ (tag ++ ((a ++ []) ++ end))
one_attribute old tag a end m n p q =
    three old tag a end m n p q ∙ ap (λ (bytes : List ℕ). old ++ (tag ++ (bytes ++ end))) (sym (append-nil a))

pub three_attributes : (old tag a b c end m n k l : List ℕ) → m ≡ old ++ tag → n ≡ m ++ a → k ≡ n ++ b → l ≡ k ++ c → l ++ end ≡ old ++ (tag ++ ((a ++ (b ++ (c ++ []))) ++ end))
three_attributes old tag a b c end m n k l p q r s =
    let all : l ≡ m ++ (a ++ (b ++ (c ++ []))) =
    one_more m a (b ++ c) n l q (one_more n b c k l r s) ∙ ap (λ (bytes : List ℕ). m ++ (a ++ (b ++ bytes))) (sym (append-nil c)) in
    three old tag (a ++ (b ++ (c ++ []))) end m l p all

-- an element with two attributes that has nothing in it, in a line
pub two_attributes : (old tag a b end line m n k l : List ℕ) → m ≡ old ++ tag → n ≡ m ++ a → k ≡ n ++ b → l ≡ k ++ end
    → l ++ line ≡ old ++ ((tag ++ ((a ++ (b ++ [])) ++ end)) ++ line)
two_attributes old tag a b end line m n k l p q r s =
    let both : k ≡ m ++ (a ++ (b ++ [])) = one_more m a b n k q r ∙ ap (λ (bytes : List ℕ). m ++ (a ++ bytes)) (sym (append-nil b)) in
    ap (λ (bytes : List ℕ). bytes ++ line) (one_more old tag ((a ++ (b ++ [])) ++ end) m l p (one_more m (a ++ (b ++ [])) end k l both s))
    ∙ append_assoc old (tag ++ ((a ++ (b ++ [])) ++ end)) line
