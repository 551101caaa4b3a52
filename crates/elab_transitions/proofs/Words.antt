-- The tests of lists of known values decide the relations of windows.
use Rattle.std.proofs.Common.{◌≡◌, ◌∙◌, ℕ, zero, suc, ◌+◌, ◌-◌, ◌<◌, ◌≤◌, ◌↔◌, ℤ, List, [], ◌∷◌, length, map, take, drop, Option, Some, Bool, true, false, refl, sym, subst, inl, inr, arith}
use Rattle.std.specs.Prelude.{◌&&◌, ◌==◌, not, nat_le, IsTrue}
use Rattle.std.specs.Bool.{Decides}
use Rattle.std.specs.List.{All, list_all, list_any}
use Rattle.std.proofs.lemmas.Bool.{and_parts, and_from, or_cases, or_left, or_right, true≢false, false≢true}
use Rattle.std.proofs.lemmas.Bool.Decides.{Decides-eqb, same_from_decides}
use Rattle.std.proofs.lemmas.List.{take-map, drop-map, length-map}
use Rattle.std.proofs.lemmas.List.Folds.{Any-from_list_any, list_any-from_Any}
use Rattle.std.proofs.lemmas.List.Elements.{All-head, All-rest, All-cons, All-nil}
use Rattle.cov_base.specs.Sets.{written, is_in}
use Rattle.trans_seq.specs.declared.seq.Item.{Item}
use Rattle.trans_seq.specs.declared.seq.Seq.{Seq}
use Rattle.trans_seq.specs.declared.seq.Repeat.{Repeat}
use Rattle.trans_seq.specs.declared.seq.Repeat.TheVariants.{Once, Consec, Goto, NonConsec}
use Rattle.trans_lists.specs.Lists.{from_on}
use Rattle.trans_seq.specs.Windows.{Then, AllInside, AllOutside, IsOne, IsBlock, IsBlocks, IsGoto, InBlocks, InRepeat, InSeq, SomeHasWord, is_end, is_known_in}
use Rattle.elab_transitions.specs.Tests.{is_then, are_inside, are_outside, is_one, is_block, are_blocks, is_goto, in_blocks, in_repeat, in_seq, in_some}

-- the test says which lists of known values have the property
pub record Tells (p : List ℤ → Bool) (P : List (Option ℤ) → Type 0) : Type 0 where
  pub there : (w : List ℤ) → p w ≡ true → P (map Some w)
  pub back : (w : List ℤ) → P (map Some w) → p w ≡ true

-- ---- numbers in a row

some_below : (f : ℕ → Bool) (low n : ℕ) → list_any f (from_on low n) ≡ true → (k : ℕ) × (low ≤ k) × (k < low + n) × (f k ≡ true)
some_below f low zero e = absurd (false≢true e)
some_below f low (suc n) e = elim (or_cases (f low) (list_any f (from_on (low + 1) n)) e) [
  | inl h ↦ (low, omega arith, omega arith, h)
  | inr h ↦ let r = some_below f (low + 1) n h in (r.0, omega (arith, r.1), omega (arith, r.2), r.3)
]

first_or_later : (f : ℕ → Bool) (low n k : ℕ) (b : Bool) → nat_le k low ≡ b → low ≤ k → f k ≡ true → (low + 1 ≤ k → list_any f (from_on (low + 1) n) ≡ true) → list_any f (from_on low (suc n)) ≡ true
first_or_later f low n k true is le e later = let same : k ≡ low = grind (arith, le, is) in or_left (f low) (list_any f (from_on (low + 1) n)) (subst (λ (j : ℕ). f j ≡ true) same e)
first_or_later f low n k false is le e later = or_right (f low) (list_any f (from_on (low + 1) n)) (later (grind (arith, le, is)))

below_some : (f : ℕ → Bool) (low n k : ℕ) → low ≤ k → k < low + n → f k ≡ true → list_any f (from_on low n) ≡ true
below_some f low zero k le lt e = absurd (omega (arith, le, lt))
below_some f low (suc n) k le lt e = first_or_later f low n k (nat_le k low) refl le e (λ more. below_some f (low + 1) n k more (omega (arith, lt)) e)

-- ---- parts

pub tells_then : {p q : List ℤ → Bool} {P Q : List (Option ℤ) → Type 0} → Tells p P → Tells q Q → Tells (is_then p q) (Then P Q)
tells_then {p = p} {q = q} {P = P} {Q = Q} a b = record { there = there; back = back }
  where
    there : (w : List ℤ) → is_then p q w ≡ true → Then P Q (map Some w)
    there w e =
        let s = some_below (λ cut. p (take cut w) && q (drop cut w)) 0 (length w + 1) e in
        let both = and_parts (p (take s.0 w)) (q (drop s.0 w)) s.3 in
        record {
          cut = s.0;
          within = omega (arith, s.2, length-map w (λ (v : ℤ). Some v));
          first = subst P (sym (take-map (λ (v : ℤ). Some v) s.0 w)) (a.there (take s.0 w) both.0);
          rest = subst Q (sym (drop-map (λ (v : ℤ). Some v) s.0 w)) (b.there (drop s.0 w) both.1);
        }

    back : (w : List ℤ) → Then P Q (map Some w) → is_then p q w ≡ true
    back w h =
        let f : ℕ → Bool = λ cut. p (take cut w) && q (drop cut w) in
        let first = a.back (take h.cut w) (subst P (take-map (λ (v : ℤ). Some v) h.cut w) h.first) in
        let rest = b.back (drop h.cut w) (subst Q (drop-map (λ (v : ℤ). Some v) h.cut w) h.rest) in
        let within : h.cut ≤ length (map (λ (v : ℤ). Some v) w) = h.within in
        below_some f 0 (length w + 1) h.cut (omega arith) (omega (arith, within, length-map w (λ (v : ℤ). Some v))) (and_from (p (take h.cut w)) (q (drop h.cut w)) first rest)

tells_both : {p q : List ℤ → Bool} {P Q : List (Option ℤ) → Type 0} → Tells p P → Tells q Q → Tells (λ w. p w && q w) (λ w. P w × Q w)
tells_both {p = p} {q = q} a b = record {
  there = λ w e. let both = and_parts (p w) (q w) e in (a.there w both.0, b.there w both.1);
  back = λ w h. and_from (p w) (q w) (a.back w h.0) (b.back w h.1);
}

tells_all : (f : ℤ → Bool) (P : Option ℤ → Type 0) → ((v : ℤ) → Decides (f v) (P (Some v))) → Tells (list_all f) (All P)
tells_all f P each = record { there = there; back = back }
  where
    there : (w : List ℤ) → list_all f w ≡ true → All P (map Some w)
    there [] e = All-nil P
    there (v ∷ vs) e = let both = and_parts (f v) (list_all f vs) e in All-cons P (Some v) (map Some vs) ((each v).0 both.0) (there vs both.1)

    back : (w : List ℤ) → All P (map Some w) → list_all f w ≡ true
    back [] h = refl
    back (v ∷ vs) h = and_from (f v) (list_all f vs) ((each v).1 (All-head P (Some v) (map Some vs) h)) (back vs (All-rest P (Some v) (map Some vs) (map Some (v ∷ vs)) refl h))

tells_length : (n : ℕ) → Tells (λ w. length w == n) (λ w. length w ≡ n)
tells_length n = record {
  there = λ w e. length-map w (λ (v : ℤ). Some v) ∙ (Decides-eqb (length w) n).0 e;
  back = λ w h. (Decides-eqb (length w) n).1 (sym (length-map w (λ (v : ℤ). Some v)) ∙ h);
}

tells_none : Tells (λ w. length w == 0) (λ w. w ≡ [])
tells_none = record { there = there; back = back }
  where
    there : (w : List ℤ) → (length w == 0) ≡ true → map Some w ≡ []
    there [] e = refl
    there (v ∷ vs) e = absurd (omega (arith, (Decides-eqb (length (v ∷ vs)) 0).0 e))

    back : (w : List ℤ) → map Some w ≡ [] → (length w == 0) ≡ true
    back [] h = refl
    back (v ∷ vs) h = absurd cc

-- ---- items

not_decides : (b : Bool) → Decides (not b) (b ≡ false)
not_decides true = (λ e. absurd (false≢true e), λ e. absurd (true≢false e))
not_decides false = (λ e. refl, λ e. refl)

module _ (set : List (ℤ × ℤ)) where
  tells_inside : Tells (are_inside set) (AllInside (is_known_in set))
  tells_inside = tells_all (is_in (written set)) (λ v. is_known_in set v ≡ true) (λ v. (λ e. e, λ e. e))

  tells_outside : Tells (are_outside set) (AllOutside (is_known_in set))
  tells_outside = tells_all (λ v. not (is_in (written set) v)) (λ v. is_known_in set v ≡ false) (λ v. not_decides (is_in (written set) v))

  tells_one : Tells (is_one set) (IsOne (is_known_in set))
  tells_one = tells_both (tells_length 1) tells_inside

  tells_block : Tells (is_block set) (IsBlock (is_known_in set))
  tells_block = tells_then tells_outside tells_one

  tells_blocks : (m : ℕ) → Tells (are_blocks set m) (IsBlocks (is_known_in set) m)
  tells_blocks zero = tells_none
  tells_blocks (suc m) = tells_then (tells_blocks m) tells_block

  tells_goto : (low high : ℕ) → Tells (is_goto set low high) (IsGoto (is_known_in set) low high)
  tells_goto low high = record {
    there = λ w e. let s = some_below (λ m. are_blocks set m w) low (high + 1 - low) e in (s.0, s.1, omega (arith, s.1, s.2), (tells_blocks s.0).there w s.3);
    back = λ w h. below_some (λ m. are_blocks set m w) low (high + 1 - low) h.0 h.1 (omega (arith, h.1, h.2)) ((tells_blocks h.0).back w h.3);
  }

  tells_in_blocks : (low high : ℕ) (trailing : Bool) → Tells (in_blocks set low high trailing) (InBlocks (is_known_in set) low high trailing)
  tells_in_blocks low high true = tells_then (tells_goto low high) tells_outside
  tells_in_blocks low high false = tells_goto low high

  tells_low : (low : ℕ) → Tells (λ w. nat_le low (length w)) (λ w. low ≤ length w)
  tells_low low = record {
    there = λ w e. let l = length-map w (λ (v : ℤ). Some v) in grind (arith, l, e);
    back = λ w h. let l = length-map w (λ (v : ℤ). Some v) in grind (arith, l, h);
  }

  tells_high : (high : ℕ) → Tells (λ w. nat_le (length w) high) (λ w. length w ≤ high)
  tells_high high = record {
    there = λ w e. let l = length-map w (λ (v : ℤ). Some v) in grind (arith, l, e);
    back = λ w h. let l = length-map w (λ (v : ℤ). Some v) in grind (arith, l, h);
  }

  tells_run : (low high : ℕ) → Tells (λ w. nat_le low (length w) && (nat_le (length w) high && are_inside set w)) (λ w. (low ≤ length w) × (length w ≤ high) × AllInside (is_known_in set) w)
  tells_run low high =
      let t = tells_both (tells_low low) (tells_both (tells_high high) tells_inside) in
      record { there = λ w e. let h = t.there w e in (h.0, h.1.0, h.1.1); back = λ w h. t.back w (h.0, (h.1, h.2)) }

  pub tells_repeat : (repeat : Repeat) (last : Bool) → Tells (in_repeat set repeat last) (InRepeat (is_known_in set) repeat last)
  tells_repeat Once last = tells_one
  tells_repeat (Consec low high) last = tells_run low high
  tells_repeat (Goto low high) last = tells_in_blocks low high false
  tells_repeat (NonConsec low high) last = tells_in_blocks low high (not last)

-- ---- sequences

pub tells_seq : (items : List Item) → Tells (in_seq items) (InSeq items)
tells_seq [] = tells_none
tells_seq (item ∷ items) = tells_then (tells_repeat item.set item.repeat (is_end items)) (tells_seq items)

pub some_there : (seqs : List Seq) (w : List ℤ) → in_some seqs w ≡ true → SomeHasWord seqs w
unfolding in_some
some_there seqs w e =
    let a = Any-from_list_any (λ seq. in_seq seq.items w) seqs e in
    (a.0, a.1, a.2, a.3, (tells_seq a.1.items).there w a.4)

pub some_back : (seqs : List Seq) (w : List ℤ) → SomeHasWord seqs w → in_some seqs w ≡ true
unfolding in_some
some_back seqs w a = list_any-from_Any (λ seq. in_seq seq.items w) seqs (a.0, a.1, a.2, a.3, (tells_seq a.1.items).back w a.4)

pub some_decides : (seqs : List Seq) (w : List ℤ) → Decides (in_some seqs w) (SomeHasWord seqs w)
some_decides seqs w = (some_there seqs w, some_back seqs w)

pub same_test : (r : Bool) (seqs : List Seq) (w : List ℤ) → IsTrue r ↔ SomeHasWord seqs w → r ≡ in_some seqs w
same_test r seqs w h = same_from_decides r (in_some seqs w) (h.0, h.1) (some_decides seqs w)
