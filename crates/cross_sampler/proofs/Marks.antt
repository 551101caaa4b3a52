-- A bin rises once at a sample.
use Rattle.std.proofs.Common.{◌≡◌, ℕ, ◌+◌, ◌-◌, ◌^◌, ◌<◌, ◌≤◌, List, [], ◌∷◌, ◌++◌, length, get_or, set, take, Bool, true, false, cond, refl, ap, sym, subst, ◌∙◌, inl, inr, arith}
use Rattle.std.specs.Prelude.{◌==◌, ◌&&◌, ◌||◌, not}
use Rattle.std.proofs.lemmas.List.{length-set, get_or-set_same, get_or-set_other, take_more}
use Rattle.std.proofs.lemmas.List.Folds.{list_any-append}
use Rattle.std.proofs.lemmas.Bool.{eq-eqb, eqb-true, eqb-false, ne_eqb}
use Rattle.cross_sampler.specs.Once.{is_among, bit, Once, HasRoom, IsOutside}

module _ (g : ℕ → Bool) (first mark : ℕ) where
  pub once_none : (stamps counts : List ℕ) → Once g first mark [] stamps counts stamps counts
  once_none stamps counts = record { same = refl; same_stamps = refl; stamped = λ b lt. refl; at = λ b lt. omega arith; others = λ n o. refl }

  -- ---- one after the other
  stamp_both : (x y : Bool) (old : ℕ) → cond y mark (cond x mark old) ≡ cond (x || y) mark old
  stamp_both true true old = refl
  stamp_both true false old = refl
  stamp_both false true old = refl
  stamp_both false false old = refl

  count_both : (x y : Bool) (old mid count : ℕ) (gb : Bool) → mid ≡ cond x mark old
      → (count + bit (x && (not (old == mark) && gb))) + bit (y && (not (mid == mark) && gb)) ≡ count + bit ((x || y) && (not (old == mark) && gb))
  count_both false y old mid count gb e = rw e (omega arith)
  count_both true false old mid count gb e = omega arith
  count_both true true old mid count gb e = rw (eq-eqb mid mark e) (omega arith)

  pub once_append : (xs ys s c s1 c1 s2 c2 : List ℕ) → Once g first mark xs s c s1 c1 → Once g first mark ys s1 c1 s2 c2 → Once g first mark (xs ++ ys) s c s2 c2
  once_append xs ys s c s1 c1 s2 c2 h k = record {
    same = k.same ∙ h.same;
    same_stamps = k.same_stamps ∙ h.same_stamps;
    stamped = λ b lt. let lt1 : b < length s1 = omega (arith, lt, h.same_stamps) in
        k.stamped b lt1 ∙ ap (λ (n : ℕ). cond (is_among b ys) mark n) (h.stamped b lt) ∙ stamp_both (is_among b xs) (is_among b ys) (get_or s b 0) ∙ ap (λ (t : Bool). cond t mark (get_or s b 0)) (sym (list_any-append (λ (x : ℕ). x == b) xs ys));
    at = λ b lt. let lt1 : b < length s1 = omega (arith, lt, h.same_stamps) in
        k.at b lt1 ∙ ap (λ (n : ℕ). n + bit (is_among b ys && (not (get_or s1 b 0 == mark) && g b))) (h.at b lt)
        ∙ count_both (is_among b xs) (is_among b ys) (get_or s b 0) (get_or s1 b 0) (get_or c (first + b) 0) (g b) (h.stamped b lt)
        ∙ ap (λ (t : Bool). get_or c (first + b) 0 + bit (t && (not (get_or s b 0 == mark) && g b))) (sym (list_any-append (λ (x : ℕ). x == b) xs ys));
    others = λ n o. k.others n (subst (λ (len : ℕ). IsOutside first len n) (sym h.same_stamps) o) ∙ h.others n o;
  }

  -- a bin without the mark still has room
  kept_by : (x : Bool) (old new count now : ℕ) (gb : Bool) → new ≡ cond x mark old → (new ≡ mark → ⊥) → now ≡ count + bit (x && (not (old == mark) && gb)) → ((old ≡ mark → ⊥) → count < 2 ^ 64 - 1) → now < 2 ^ 64 - 1
  kept_by true old new count now gb e ne at room = absurd (ne e)
  kept_by false old new count now gb e ne at room = let r : count < 2 ^ 64 - 1 = room (λ h. ne (e ∙ h)) in omega (arith, r, at)

  pub room_kept : (xs s c s1 c1 : List ℕ) → Once g first mark xs s c s1 c1 → HasRoom first mark s c → HasRoom first mark s1 c1
  room_kept xs s c s1 c1 h room = λ b lt ne. let lt0 : b < length s = omega (arith, lt, h.same_stamps) in
      kept_by (is_among b xs) (get_or s b 0) (get_or s1 b 0) (get_or c (first + b) 0) (get_or c1 (first + b) 0) (g b) (h.stamped b lt0) ne (h.at b lt0) (λ ne0. room b lt0 ne0)

  -- one bin more, where there was room before
  pub once_more : (hit s c s1 c1 s2 c2 : List ℕ) (i : ℕ) → i < length hit → HasRoom first mark s c → Once g first mark (take i hit) s c s1 c1
      → (HasRoom first mark s1 c1 → Once g first mark (get_or hit i 0 ∷ []) s1 c1 s2 c2) → Once g first mark (take (i + 1) hit) s c s2 c2
  once_more hit s c s1 c1 s2 c2 i lt room h step = subst (λ (xs : List ℕ). Once g first mark xs s c s2 c2) (sym (take_more hit i 0 lt))
      (once_append (take i hit) (get_or hit i 0 ∷ []) s c s1 c1 s2 c2 h (step (room_kept (take i hit) s c s1 c1 h room)))

  -- ---- one bin
  pub one_marked : (x : ℕ) (s c : List ℕ) → get_or s x 0 ≡ mark → Once g first mark (x ∷ []) s c s c
  one_marked x s c is = record { same = refl; same_stamps = refl; stamped = λ b lt. stamped b (x == b) refl; at = λ b lt. at b (x == b) refl; others = λ n o. refl }
    where
      stamped : (b : ℕ) (t : Bool) → (x == b) ≡ t → get_or s b 0 ≡ cond (is_among b (x ∷ [])) mark (get_or s b 0)
      stamped b true e = subst (λ (k : ℕ). get_or s k 0 ≡ mark) (eqb-true x b e) is ∙ ap (λ (t : Bool). cond (t || false) mark (get_or s b 0)) (sym e)
      stamped b false e = ap (λ (t : Bool). cond (t || false) mark (get_or s b 0)) (sym e)

      at : (b : ℕ) (t : Bool) → (x == b) ≡ t → get_or c (first + b) 0 ≡ get_or c (first + b) 0 + bit (is_among b (x ∷ []) && (not (get_or s b 0 == mark) && g b))
      at b true e = let m : (get_or s b 0 == mark) ≡ true = eq-eqb (get_or s b 0) mark (subst (λ (k : ℕ). get_or s k 0 ≡ mark) (eqb-true x b e) is) in rw (e, m) (omega arith)
      at b false e = rw e (omega arith)

  -- a bin without the mark, whose count becomes `count`
  pub one_fresh : (x count : ℕ) (s c : List ℕ) → (get_or s x 0 ≡ mark → ⊥) → x < length s → first + length s ≤ length c → (get_or c (first + x) 0 < 2 ^ 64 - 1 → count ≡ get_or c (first + x) 0 + bit (g x)) → HasRoom first mark s c
      → Once g first mark (x ∷ []) s c (set s x mark) (set c (first + x) count)
  one_fresh x count s c ne inside len rises room = record {
    same = length-set c (first + x) count;
    same_stamps = length-set s x mark;
    stamped = λ b lt. stamped b (x == b) refl;
    at = λ b lt. at b (x == b) refl;
    others = λ n o. get_or-set_other c (first + x) n count 0 (λ e. outside n o e);
  }
    where
      outside : (n : ℕ) → IsOutside first (length s) n → n ≡ first + x → ⊥
      outside n (inl lower) e = absurd (omega (arith, lower, e))
      outside n (inr upper) e = absurd (omega (arith, upper, e, inside))

      is : count ≡ get_or c (first + x) 0 + bit (g x)
      is = rises (room x inside ne)

      stamped : (b : ℕ) (t : Bool) → (x == b) ≡ t → get_or (set s x mark) b 0 ≡ cond (is_among b (x ∷ [])) mark (get_or s b 0)
      stamped b true e = ap (λ (k : ℕ). get_or (set s x mark) k 0) (sym (eqb-true x b e)) ∙ get_or-set_same s x mark 0 inside ∙ ap (λ (t : Bool). cond (t || false) mark (get_or s b 0)) (sym e)
      stamped b false e = get_or-set_other s x b mark 0 (λ h. eqb-false x b e (sym h)) ∙ ap (λ (t : Bool). cond (t || false) mark (get_or s b 0)) (sym e)

      at : (b : ℕ) (t : Bool) → (x == b) ≡ t → get_or (set c (first + x) count) (first + b) 0 ≡ get_or c (first + b) 0 + bit (is_among b (x ∷ []) && (not (get_or s b 0 == mark) && g b))
      at b true e = let same : x ≡ b = eqb-true x b e in
          let m : (get_or s b 0 == mark) ≡ false = ne_eqb (get_or s b 0) mark (λ h. ne (ap (λ (k : ℕ). get_or s k 0) same ∙ h)) in
          ap (λ (k : ℕ). get_or (set c (first + x) count) (first + k) 0) (sym same) ∙ get_or-set_same c (first + x) count 0 (omega (arith, inside, len)) ∙ is ∙ ap (λ (k : ℕ). get_or c (first + k) 0 + bit (g k)) same ∙ rw (e, m) refl
      at b false e = get_or-set_other c (first + x) (first + b) count 0 (λ h. eqb-false x b e (omega (arith, h))) ∙ rw e (omega arith)

  -- the bins of one product more
  pub once_next : (xs ys s c s1 c1 s2 c2 : List ℕ) → (HasRoom first mark s c → Once g first mark xs s c s1 c1) → (HasRoom first mark s1 c1 → Once g first mark ys s1 c1 s2 c2)
      → HasRoom first mark s c → Once g first mark (xs ++ ys) s c s2 c2
  once_next xs ys s c s1 c1 s2 c2 h k room = let one = h room in once_append xs ys s c s1 c1 s2 c2 one (k (room_kept xs s c s1 c1 one room))
