-- Sequences of single values have one list.
use Rattle.std.proofs.Common.{◌≡◌, ◌↔◌, ℕ, zero, suc, ◌-◌, ◌<◌, ◌≤◌, ℤ, List, [], ◌∷◌, ◌++◌, length, get_or, take, drop, Bool, true, false, Option, Some, None, refl, ap, sym, subst, ◌∙◌, arith, int_le, int_eq, length-drop}
use Rattle.std.specs.Prelude.{Any, ◌&&◌, ◌||◌, if◌then◌else◌}
use Rattle.std.proofs.lemmas.Grind.{common_steps}
use Rattle.std.proofs.lemmas.Int.{ints}
use Rattle.std.proofs.lemmas.List.{length-map, take-append-drop}
use Rattle.std.specs.List.{All}
use Rattle.std.proofs.lemmas.List.Elements.{All-head, All-cons, All-nil}
use Rattle.std.proofs.lemmas.Bool.{false≢true}
use Rattle.std.proofs.lemmas.Option.{cond_some}
use Rattle.cov_base.specs.Sets.{is_in, written}
use Rattle.cov_base.proofs.Members.{is_in-written}
use Rattle.trans_seq.specs.declared.seq.Item.{Item}
use Rattle.trans_seq.specs.declared.seq.Seq.{Seq}
use Rattle.trans_seq.specs.declared.seq.Repeat.{Repeat}
use Rattle.trans_seq.specs.declared.seq.Repeat.TheVariants.{Once, Consec, Goto, NonConsec}
use Rattle.trans_seq.specs.Windows.{IsOne, InSeq, InSome, InRepeat, EndsKept, is_known_in, is_end}
use Rattle.trans_seq.specs.Words.{one_of, value_once, with_value, word_of, known, EndsWith}

-- `cond true (Some x) None` is `Some x`
some-injective : {A : Type 0} (x y : A) → Some x ≡ Some y → x ≡ y
some-injective x y e = (cond_some true x y e).1

some-ne-none : {A : Type 0} (x : A) → Some x ≡ None → ⊥
some-ne-none x e = false≢true (cond_some false x x (sym e)).0

-- ---- one item

between : (a b v : ℤ) → int_eq a b ≡ true → ((int_le a v && int_le v b) || false) ≡ true → v ≡ a
between a b v e h = grind (arith, common_steps, ints)

within : (a b : ℤ) → int_eq a b ≡ true → ((int_le a a && int_le a b) || false) ≡ true
within a b e = grind (arith, common_steps, ints)

one_case : (r : ℤ × ℤ) (a : ℤ) (b : Bool) → int_eq r.0 r.1 ≡ b → (if b then Some r.0 else None) ≡ Some a → (b ≡ true) × (r.0 ≡ a)
one_case r a true e is = (refl, some-injective r.0 a is)
one_case r a false e is = absurd (some-ne-none a (sym is))

-- a set of one number has that one alone
pub one_member : (set : List (ℤ × ℤ)) (a v : ℤ) → one_of set ≡ Some a → is_in (written set) v ≡ true → v ≡ a
one_member [] a v is h = absurd (some-ne-none a (sym is))
one_member (r ∷ []) a v is h =
    let one : (int_eq r.0 r.1 ≡ true) × (r.0 ≡ a) = one_case r a (int_eq r.0 r.1) refl is in
    between r.0 r.1 v one.0 (sym (is_in-written (r ∷ []) v) ∙ h) ∙ one.1
one_member (r ∷ s ∷ rs) a v is h = absurd (some-ne-none a (sym is))

pub member_one : (set : List (ℤ × ℤ)) (a : ℤ) → one_of set ≡ Some a → is_in (written set) a ≡ true
member_one [] a is = absurd (some-ne-none a (sym is))
member_one (r ∷ []) a is =
    let one : (int_eq r.0 r.1 ≡ true) × (r.0 ≡ a) = one_case r a (int_eq r.0 r.1) refl is in
    subst (λ (v : ℤ). is_in (written (r ∷ [])) v ≡ true) one.1 (is_in-written (r ∷ []) r.0 ∙ within r.0 r.1 one.0)
member_one (r ∷ s ∷ rs) a is = absurd (some-ne-none a (sym is))

known_one : (set : List (ℤ × ℤ)) (a : ℤ) (v : Option ℤ) → one_of set ≡ Some a → is_known_in set v ≡ true → v ≡ Some a
known_one set a None is h = absurd (false≢true h)
known_one set a (Some x) is h = ap (λ (z : ℤ). Some z) (one_member set a x is h)

once : (repeat : Repeat) (set : List (ℤ × ℤ)) (a : ℤ) → value_once repeat set ≡ Some a → (repeat ≡ Once) × (one_of set ≡ Some a)
once Once set a is = (refl, is)
once (Consec low high) set a is = absurd (some-ne-none a (sym is))
once (Goto low high) set a is = absurd (some-ne-none a (sym is))
once (NonConsec low high) set a is = absurd (some-ne-none a (sym is))

parts : (x : Option ℤ) (y : Option (List ℤ)) (word : List ℤ) → with_value x y ≡ Some word → (a : ℤ) × (rest : List ℤ) × (x ≡ Some a) × (y ≡ Some rest) × (word ≡ a ∷ rest)
parts None y word e = absurd (some-ne-none word (sym e))
parts (Some a) None word e = absurd (some-ne-none word (sym e))
parts (Some a) (Some rest) word e = (a, rest, refl, refl, sym (some-injective (a ∷ rest) word e))

single : (p : Option ℤ → Bool) (w : List (Option ℤ)) → IsOne p w → (v : Option ℤ) × (w ≡ v ∷ []) × (p v ≡ true)
single p [] h = absurd (omega (arith, h.0))
single p (v ∷ []) h = (v, refl, All-head (λ (x : Option ℤ). p x ≡ true) v [] h.1)
single p (v ∷ u ∷ w) h = absurd (omega (arith, h.0))

-- ---- sequences

pub in_seq_word : (items : List Item) (word : List ℤ) (w : List (Option ℤ)) → word_of items ≡ Some word → InSeq items w → w ≡ known word
in_seq_word [] word w is h = h ∙ ap known (some-injective [] word is)
in_seq_word (item ∷ items) word w is h =
    let p = parts (value_once item.repeat item.set) (word_of items) word is in
    let o : (item.repeat ≡ Once) × (one_of item.set ≡ Some p.0) = once item.repeat item.set p.0 p.2 in
    let first : IsOne (is_known_in item.set) (take h.cut w) = subst (λ (r : Repeat). InRepeat (is_known_in item.set) r (is_end items) (take h.cut w)) o.0 h.first in
    let s : (v : Option ℤ) × (take h.cut w ≡ v ∷ []) × (is_known_in item.set v ≡ true) = single (is_known_in item.set) (take h.cut w) first in
    let rest : drop h.cut w ≡ known p.1 = in_seq_word items p.1 (drop h.cut w) p.3 h.rest in
    sym (take-append-drop h.cut w) ∙ ap (λ (xs : List (Option ℤ)). xs ++ drop h.cut w) s.1 ∙ ap (λ (xs : List (Option ℤ)). s.0 ∷ xs) rest
    ∙ ap (λ (v : Option ℤ). v ∷ known p.1) (known_one item.set p.0 s.0 o.1 s.2) ∙ ap known (sym p.4)

pub word_in_seq : (items : List Item) (word : List ℤ) → word_of items ≡ Some word → InSeq items (known word)
word_in_seq [] word is = ap known (sym (some-injective [] word is))
word_in_seq (item ∷ items) word is =
    let p = parts (value_once item.repeat item.set) (word_of items) word is in
    let o : (item.repeat ≡ Once) × (one_of item.set ≡ Some p.0) = once item.repeat item.set p.0 p.2 in
    subst (λ (x : List ℤ). InSeq (item ∷ items) (known x)) (sym p.4) (record {
      cut = 1;
      within = omega arith;
      first = subst (λ (r : Repeat). InRepeat (is_known_in item.set) r (is_end items) (Some p.0 ∷ [])) (sym o.0) (refl, one (is_known_in item.set) (Some p.0) (member_one item.set p.0 o.1));
      rest = word_in_seq items p.1 p.3;
    })
  where
    one : (p : Option ℤ → Bool) (v : Option ℤ) → p v ≡ true → All (λ (x : Option ℤ). p x ≡ true) (v ∷ [])
    one p v e = All-cons (λ (x : Option ℤ). p x ≡ true) v [] e (All-nil (λ (x : Option ℤ). p x ≡ true))

pub one_list : (seq : Seq) (word : List ℤ) (w : List (Option ℤ)) → word_of seq.items ≡ Some word → InSeq seq.items w ↔ (w ≡ known word)
one_list seq word w is = (λ h. in_seq_word seq.items word w is h, λ e. subst (λ (x : List (Option ℤ)). InSeq seq.items x) (sym e) (word_in_seq seq.items word is))

-- ---- counts

any_one : (P : Seq → Type 0) (s : Seq) → Any P (s ∷ []) → P s
any_one P s a = go a.0 a.1 a.2 a.3 a.4
  where
    go : (k : ℕ) (y : Seq) → k < length (s ∷ []) → get_or (s ∷ []) k y ≡ y → P y → P s
    go zero y h e q = subst P (sym e) q
    go (suc k) y h e q = absurd (omega (arith, h))

one_any : (P : Seq → Type 0) (s : Seq) → P s → Any P (s ∷ [])
one_any P s h = (0, s, omega arith, refl, h)

pub counts_word : (seq : Seq) (removed : List Seq) (word : List ℤ) (w : List (Option ℤ)) → word_of seq.items ≡ Some word → 0 < length word
    → EndsKept (seq ∷ []) removed w ↔ (EndsWith word w × (InSome removed (known word) → ⊥))
counts_word seq removed word w is some = (there, back)
  where
    there : EndsKept (seq ∷ []) removed w → EndsWith word w × (InSome removed (known word) → ⊥)
    there c =
        let e : drop c.from w ≡ known word = in_seq_word seq.items word (drop c.from w) is (any_one (λ (s : Seq). InSeq s.items (drop c.from w)) seq c.in_own) in
        let len : length w - c.from ≡ length word = sym (length-drop c.from w) ∙ ap length e ∙ length-map word (λ (v : ℤ). Some v) in
        let lt : c.from < length w = c.some in
        let at : c.from ≡ length w - length word = omega (arith, len, lt) in
        ((omega (arith, len), subst (λ (k : ℕ). drop k w ≡ known word) at e), λ r. c.not_removed (subst (λ (x : List (Option ℤ)). InSome removed x) (sym e) r))

    back : EndsWith word w × (InSome removed (known word) → ⊥) → EndsKept (seq ∷ []) removed w
    back h = record {
      from = length w - length word;
      some = let le : length word ≤ length w = h.0.0 in omega (arith, le, some);
      in_own = one_any (λ (s : Seq). InSeq s.items (drop (length w - length word) w)) seq (subst (λ (x : List (Option ℤ)). InSeq seq.items x) (sym h.0.1) (word_in_seq seq.items word is));
      not_removed = λ r. h.1 (subst (λ (x : List (Option ℤ)). InSome removed x) h.0.1 r);
    }
