-- Sequences that are written alike are the same.
use Rattle.std.proofs.Common.{◌≡◌, ◌↔◌, ℕ, ◌&&◌, ◌||◌, eqb, List, ◌++◌, Bool, true, refl}
use Rattle.std.specs.Prelude.{ℤ}
use Rattle.std.specs.Bool.{Decides, one_answer}
use Rattle.std.specs.Ordering.{int_eq}
use Rattle.std.specs.List.{list_any}
use Rattle.std.specs.Cmp.Lexicographic.{pointwise, pointwise_decides}
use Rattle.std.proofs.lemmas.Bool.{and_parts, and_from}
use Rattle.std.proofs.lemmas.Bool.Decides.{Decides-int_eq, Decides-eqb}
use Rattle.std.proofs.lemmas.List.Folds.{list_any-append}
use Rattle.trans_seq.specs.declared.seq.Item.{Item}
use Rattle.trans_seq.specs.declared.seq.Seq.{Seq}
use Rattle.trans_seq.specs.declared.seq.Repeat.{Repeat}
use Rattle.trans_seq.specs.declared.seq.Repeat.TheVariants.{Once, Consec, Goto, NonConsec}
use Rattle.design_data.specs.Left.{is_same_range, is_same_repeat, is_same_item, is_same_seq}

one_range : (r s : ℤ × ℤ) → Decides (is_same_range r s) (r ≡ s)
one_range r s = (
  (λ t. let both = and_parts (int_eq r.0 s.0) (int_eq r.1 s.1) t in
      let low : r.0 ≡ s.0 = (Decides-int_eq r.0 s.0).0 both.0 in
      let high : r.1 ≡ s.1 = (Decides-int_eq r.1 s.1).0 both.1 in
      λ i. (low i, high i)),
  (λ e. and_from (int_eq r.0 s.0) (int_eq r.1 s.1) ((Decides-int_eq r.0 s.0).1 (λ i. (e i).0)) ((Decides-int_eq r.1 s.1).1 (λ i. (e i).1))),
)

-- two ends that are the same, behind the word of a repetition that tells them
ends_same : (word : ℕ → ℕ → Repeat) (l h m k : ℕ) → (word l h ≡ word m k → l ≡ m) → (word l h ≡ word m k → h ≡ k) → Decides (eqb l m && eqb h k) (word l h ≡ word m k)
ends_same word l h m k low high = (
  (λ t. let both = and_parts (eqb l m) (eqb h k) t in
      let p : l ≡ m = (Decides-eqb l m).0 both.0 in
      let q : h ≡ k = (Decides-eqb h k).0 both.1 in
      λ i. word (p i) (q i)),
  (λ e. and_from (eqb l m) (eqb h k) ((Decides-eqb l m).1 (low e)) ((Decides-eqb h k).1 (high e))),
)

one_repeat : (a b : Repeat) → Decides (is_same_repeat a b) (a ≡ b)
one_repeat Once Once = (λ _. refl, λ _. refl)
one_repeat Once (Consec m k) = (λ e. absurd cc, λ e. absurd cc)
one_repeat Once (Goto m k) = (λ e. absurd cc, λ e. absurd cc)
one_repeat Once (NonConsec m k) = (λ e. absurd cc, λ e. absurd cc)
one_repeat (Consec l h) Once = (λ e. absurd cc, λ e. absurd cc)
one_repeat (Consec l h) (Consec m k) = ends_same Consec l h m k (λ e. cc) (λ e. cc)
one_repeat (Consec l h) (Goto m k) = (λ e. absurd cc, λ e. absurd cc)
one_repeat (Consec l h) (NonConsec m k) = (λ e. absurd cc, λ e. absurd cc)
one_repeat (Goto l h) Once = (λ e. absurd cc, λ e. absurd cc)
one_repeat (Goto l h) (Consec m k) = (λ e. absurd cc, λ e. absurd cc)
one_repeat (Goto l h) (Goto m k) = ends_same Goto l h m k (λ e. cc) (λ e. cc)
one_repeat (Goto l h) (NonConsec m k) = (λ e. absurd cc, λ e. absurd cc)
one_repeat (NonConsec l h) Once = (λ e. absurd cc, λ e. absurd cc)
one_repeat (NonConsec l h) (Consec m k) = (λ e. absurd cc, λ e. absurd cc)
one_repeat (NonConsec l h) (Goto m k) = (λ e. absurd cc, λ e. absurd cc)
one_repeat (NonConsec l h) (NonConsec m k) = ends_same NonConsec l h m k (λ e. cc) (λ e. cc)

one_item : (a b : Item) → Decides (is_same_item a b) (a ≡ b)
one_item a b = (
  (λ t. let both = and_parts (pointwise is_same_range a.set b.set) (is_same_repeat a.repeat b.repeat) t in
      let set : a.set ≡ b.set = (pointwise_decides one_range a.set b.set).0 both.0 in
      let repeat : a.repeat ≡ b.repeat = (one_repeat a.repeat b.repeat).0 both.1 in
      λ i. record { set = set i; repeat = repeat i }),
  (λ e. and_from (pointwise is_same_range a.set b.set) (is_same_repeat a.repeat b.repeat) ((pointwise_decides one_range a.set b.set).1 (λ i. (e i).set)) ((one_repeat a.repeat b.repeat).1 (λ i. (e i).repeat))),
)

one_seq : (a b : Seq) → Decides (is_same_seq a b) (a ≡ b)
one_seq a b = (
  (λ t. let items : a.items ≡ b.items = (pointwise_decides one_item a.items b.items).0 t in λ i. record { items = items i }),
  (λ e. (pointwise_decides one_item a.items b.items).1 (λ i. (e i).items)),
)

pub seq_same : (a b : Seq) (r : Bool) → (r ≡ true) ↔ (a ≡ b) → r ≡ is_same_seq a b
seq_same a b r h = one_answer r (is_same_seq a b) h (one_seq a b)

-- a test of two lists, one behind the other
pub in_either : (seq : Seq) (a b : List Seq) → list_any (is_same_seq seq) (a ++ b) ≡ (list_any (is_same_seq seq) a || list_any (is_same_seq seq) b)
in_either seq a b = list_any-append (is_same_seq seq) a b
