-- An item is known from its bytes.
use Rattle.std.proofs.Common.{◌≡◌, ◌≢◌, ℕ, ◌<◌, ◌^◌, List, [], ◌∷◌, ◌++◌, length, take, drop, get_or, refl, sym, ◌∙◌, ap, subst, append_assoc}
use Rattle.std.specs.List.{AllByRecursion}
use Rattle.std.specs.Int.{w32, to_be_bytes, from_be_bytes}
use Rattle.std.specs.List.{flat_map}
use Rattle.std.proofs.lemmas.Nat.{from_be_bytes-to_be_bytes_4}
use Rattle.std.proofs.lemmas.List.Elements.{recursion_from_All}
use Rattle.std.proofs.lemmas.List.{append_cancel_left, take_at}
use Rattle.journal_bytes.specs.Items.{Item, IsWritable, head_of, part_of, gated, header}
use Rattle.journal_bytes.specs.Laws.{HaveOneJournal}

-- four bytes have one number
pub same_number : (a b : ℕ) → a < 2 ^ 32 → b < 2 ^ 32 → to_be_bytes w32 a ≡ to_be_bytes w32 b → a ≡ b
same_number a b low high same = sym (from_be_bytes-to_be_bytes_4 a low) ∙ ap (from_be_bytes w32) same ∙ from_be_bytes-to_be_bytes_4 b high

-- heads that agree are of items of the same caller, kind and length
pub record IsAlike (a b : Item) : Type 0 where
  pub caller : a.caller ≡ b.caller
  pub kind : a.kind ≡ b.kind
  pub length : length a.content ≡ length b.content

pub same_head : (a b : Item) → IsWritable a → IsWritable b → head_of a ≡ head_of b → IsAlike a b
same_head a b one other same = record {
  caller = same_number a.caller b.caller one.caller other.caller (ap (take 4) same);
  kind = ap (λ (l : List ℕ). get_or l 4 0) same;
  length = same_number (length a.content) (length b.content) one.length other.length (ap (drop 5) same);
}

pub same_item : (a b : Item) → IsAlike a b → a.content ≡ b.content → a ≡ b
same_item a b alike same = λ i. record { caller = alike.caller i; kind = alike.kind i; content = same i }

-- items in front of other bytes
pub item_read : (a b : Item) (x y : List ℕ) → IsWritable a → IsWritable b → part_of a ++ x ≡ part_of b ++ y → (a ≡ b) × (x ≡ y)
item_read a b x y one other same =
    let split : head_of a ++ (a.content ++ x) ≡ head_of b ++ (b.content ++ y) = sym (append_assoc (head_of a) a.content x) ∙ same ∙ append_assoc (head_of b) b.content y in
    let heads : head_of a ≡ head_of b = ap (take 9) split in
    let alike = same_head a b one other heads in
    let rest : a.content ++ x ≡ b.content ++ y = ap (drop 9) split in
    let contents : a.content ≡ b.content = sym (take_at a.content x (length a.content) refl) ∙ ap (take (length a.content)) rest ∙ take_at b.content y (length a.content) (sym alike.length) in
    let behind : x ≡ y = append_cancel_left a.content x y (rest ∙ ap (λ (l : List ℕ). l ++ y) (sym contents)) in
    (same_item a b alike contents, behind)

-- a gate that isn't open, in front of other bytes
abbrev Shut : List ℕ → Type 0
Shut [] = ⊥
Shut (gate ∷ rest) = gate ≢ 1

one_list : (items others : List Item) (x y : List ℕ) → AllByRecursion IsWritable items → AllByRecursion IsWritable others → Shut x → Shut y → flat_map gated items ++ x ≡ flat_map gated others ++ y → items ≡ others
one_list [] [] x y fit fits shut other same = refl
one_list [] (b ∷ bs) x y fit fits shut other same = absurd (subst Shut same shut refl)
one_list (a ∷ as') [] x y fit fits shut other same = absurd (subst Shut (sym same) other refl)
one_list (a ∷ as') (b ∷ bs) x y fit fits shut other same =
    let more : part_of a ++ (flat_map gated as' ++ x) ≡ part_of b ++ (flat_map gated bs ++ y) = sym (append_assoc (part_of a) (flat_map gated as') x) ∙ ap (drop 1) same ∙ append_assoc (part_of b) (flat_map gated bs) y in
    let both = item_read a b (flat_map gated as' ++ x) (flat_map gated bs ++ y) fit.0 fits.0 more in
    λ i. both.0 i ∷ one_list as' bs x y fit.1 fits.1 shut other both.1 i

pub one_journal : HaveOneJournal
one_journal digest file items others fit fits a b =
    let same : flat_map gated items ++ (a.gate ∷ a.rest) ≡ flat_map gated others ++ (b.gate ∷ b.rest) = append_cancel_left (header digest) _ _ (sym (append_assoc (header digest) (flat_map gated items) (a.gate ∷ a.rest)) ∙ sym a.is ∙ b.is ∙ append_assoc (header digest) (flat_map gated others) (b.gate ∷ b.rest)) in
    one_list items others (a.gate ∷ a.rest) (b.gate ∷ b.rest) (recursion_from_All IsWritable items fit) (recursion_from_All IsWritable others fits) a.shut b.shut same
