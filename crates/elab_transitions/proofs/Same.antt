-- Sequences that are the same, and what is in a set, as tests.
use Rattle.std.proofs.Common.{◌≡◌, ◌↔◌, ℕ, ℤ, List, [], ◌∷◌, length, Bool, true, false, refl, ap, arith}
use Rattle.std.specs.Prelude.{◌==◌, ◌&&◌, not, IsTrue}
use Rattle.std.specs.Bool.{Decides}
use Rattle.std.specs.Cmp.Lexicographic.{pointwise, pointwise_decides}
use Rattle.std.proofs.lemmas.Bool.{and_parts, and_from, false≢true}
use Rattle.std.proofs.lemmas.Bool.Decides.{Decides-eqb, same_from_decides}
use Rattle.trans_seq.specs.declared.seq.Item.{Item}
use Rattle.trans_seq.specs.declared.seq.Seq.{Seq}
use Rattle.trans_seq.specs.declared.seq.Repeat.{Repeat}
use Rattle.trans_seq.specs.declared.seq.Repeat.TheVariants.{Once, Consec, Goto, NonConsec}
use Rattle.trans_seq.proofs.SameLemmas.{same-ranges}
use Rattle.design_data.specs.Left.{is_same_repeat, is_same_range, is_same_item, is_same_seq, has_numbers}

two_same : (a b c d : ℕ) → Decides (a == c && b == d) ((a ≡ c) × (b ≡ d))
two_same a b c d = (
  (λ e. let both = and_parts (a == c) (b == d) e in ((Decides-eqb a c).0 both.0, (Decides-eqb b d).0 both.1)),
  (λ h. and_from (a == c) (b == d) ((Decides-eqb a c).1 h.0) ((Decides-eqb b d).1 h.1)),
)

repeat_same : (a b : Repeat) → Decides (is_same_repeat a b) (a ≡ b)
repeat_same Once Once = (λ e. refl, λ e. refl)
repeat_same (Consec low high) (Consec l h) = (λ e. let t = (two_same low high l h).0 e in cc, λ e. (two_same low high l h).1 (cc, cc))
repeat_same (Goto low high) (Goto l h) = (λ e. let t = (two_same low high l h).0 e in cc, λ e. (two_same low high l h).1 (cc, cc))
repeat_same (NonConsec low high) (NonConsec l h) = (λ e. let t = (two_same low high l h).0 e in cc, λ e. (two_same low high l h).1 (cc, cc))
repeat_same a b = (λ e. absurd (false≢true e), λ e. absurd cc)

item_same : (a b : Item) → Decides (is_same_item a b) (a ≡ b)
item_same a b = (
  (λ e. let both = and_parts (pointwise is_same_range a.set b.set) (is_same_repeat a.repeat b.repeat) e in
      let set : a.set ≡ b.set = (same-ranges a.set b.set).0 both.0 in
      let repeat : a.repeat ≡ b.repeat = (repeat_same a.repeat b.repeat).0 both.1 in
      λ i. record { set = set i; repeat = repeat i }),
  (λ e. and_from (pointwise is_same_range a.set b.set) (is_same_repeat a.repeat b.repeat) ((same-ranges a.set b.set).1 (λ i. (e i).set)) ((repeat_same a.repeat b.repeat).1 (λ i. (e i).repeat))),
)

pub seq_same : (a b : Seq) → Decides (is_same_seq a b) (a ≡ b)
seq_same a b = (
  (λ e. let items : a.items ≡ b.items = (pointwise_decides item_same a.items b.items).0 e in λ i. record { items = items i }),
  (λ e. (pointwise_decides item_same a.items b.items).1 (λ i. (e i).items)),
)

pub same_answer : (r : Bool) (a b : Seq) → IsTrue r ↔ (a ≡ b) → r ≡ is_same_seq a b
same_answer r a b h = same_from_decides r (is_same_seq a b) (h.0, h.1) (seq_same a b)

pub some_numbers : (set : List (ℤ × ℤ)) → not (length set == 0) ≡ has_numbers set
some_numbers [] = refl
some_numbers (range ∷ ranges) = let e : (length (range ∷ ranges) == 0) ≡ false = grind arith in ap not e
