-- What holds of a scalar bin that stays.
use Rattle.std.proofs.Common.{◌≡◌, ◌≤◌, ℤ, List, [], ◌∷◌, length, Bool, true, false, refl, sym, subst, arith}
use Rattle.std.specs.Prelude.{not, Contains}
use Rattle.std.specs.List.{All, list_all, list_any}
use Rattle.std.proofs.lemmas.Bool.{and_parts, and_from, false≢true}
use Rattle.std.proofs.lemmas.List.Folds.{Any-from_list_any, list_any-from_Any}
use Rattle.std.proofs.lemmas.List.Elements.{All-head, All-rest, All-cons, All-nil}
use Rattle.trans_seq.specs.declared.seq.Item.{Item}
use Rattle.trans_seq.specs.declared.seq.Seq.{Seq}
use Rattle.design_data.specs.Left.{is_same_seq, has_lists, has_numbers}
use Rattle.elab_transitions.specs.Removal.{is_seq_left}
use Rattle.elab_transitions.specs.Laws.{IsSeqLeft, ScalarStays}
use Rattle.elab_transitions.proofs.Same.{seq_same}

abbrev HasSome : Item → Type 0
HasSome item = 1 ≤ length item.set

some_there : (set : List (ℤ × ℤ)) → has_numbers set ≡ true → 1 ≤ length set
some_there [] e = absurd (false≢true e)
some_there (range ∷ ranges) e = omega arith

some_back : (set : List (ℤ × ℤ)) → 1 ≤ length set → has_numbers set ≡ true
some_back [] h = absurd (omega (arith, h))
some_back (range ∷ ranges) h = refl

all_there : (items : List Item) → list_all (λ (item : Item). has_numbers item.set) items ≡ true → All (λ (item : Item). 1 ≤ length item.set) items
all_there [] e = All-nil (λ (item : Item). 1 ≤ length item.set)
all_there (x ∷ xs) e =
    let both = and_parts (has_numbers x.set) (list_all (λ (item : Item). has_numbers item.set) xs) e in
    All-cons (λ (item : Item). 1 ≤ length item.set) x xs (some_there x.set both.0) (all_there xs both.1)

all_back : (items : List Item) → All (λ (item : Item). 1 ≤ length item.set) items → list_all (λ (item : Item). has_numbers item.set) items ≡ true
all_back [] h = refl
all_back (x ∷ xs) h =
    and_from (has_numbers x.set) (list_all (λ (item : Item). has_numbers item.set) xs)
    (some_back x.set (All-head (λ (item : Item). 1 ≤ length item.set) x xs h)) (all_back xs (All-rest (λ (item : Item). 1 ≤ length item.set) x xs (x ∷ xs) refl h))

not_there : (b : Bool) → not b ≡ true → b ≡ true → ⊥
not_there true e h = false≢true e
not_there false e h = false≢true h

not_back : (b : Bool) → (b ≡ true → ⊥) → not b ≡ true
not_back true h = absurd (h refl)
not_back false h = refl

left_there : (removing : List Seq) (seq : Seq) → is_seq_left false removing seq ≡ true → IsSeqLeft removing seq
left_there removing seq e =
    let both = and_parts (has_lists seq) (not (list_any (is_same_seq seq) removing)) e in
    record {
      numbers = all_there seq.items both.0;
      not_removing = λ h. not_there (list_any (is_same_seq seq) removing) both.1 (list_any-from_Any (is_same_seq seq) removing (h.0, seq, h.1, h.2, (seq_same seq seq).1 refl));
    }

left_back : (removing : List Seq) (seq : Seq) → IsSeqLeft removing seq → is_seq_left false removing seq ≡ true
left_back removing seq h = and_from (has_lists seq) (not (list_any (is_same_seq seq) removing)) (all_back seq.items h.numbers)
    (not_back (list_any (is_same_seq seq) removing) (λ e.
    let a = Any-from_list_any (is_same_seq seq) removing e in
    h.not_removing (subst (Contains removing) (sym ((seq_same seq a.1).0 a.4)) (a.0, a.2, a.3))))

pub stays : ScalarStays
stays removing seqs = (
  (λ e. let a = Any-from_list_any (is_seq_left false removing) seqs e in (a.0, a.1, a.2, a.3, left_there removing a.1 a.4)),
  (λ a. list_any-from_Any (is_seq_left false removing) seqs (a.0, a.1, a.2, a.3, left_back removing a.1 a.4)),
)
