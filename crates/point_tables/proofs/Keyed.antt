-- Sets of keys, and what an index of them finds.
use Rattle.std.proofs.Common.{◌≡◌, ℤ, pos, ◌+ℤ◌, ◌≤ℤ◌, ℕ, zero, suc, ◌+◌, ◌-◌, ◌^◌, ◌<◌, ◌≤◌, List, [], ◌∷◌, ◌++◌, length, get_or, map, take, All, Bool, true, false, cond, Some, None, not, refl, ap, sym, subst, ◌∙◌, arith, length-append}
use Rattle.std.specs.Prelude.{int_le, nat_le}
use mathlib.Core.Bool.{◌&&◌, ◌||◌}
use Rattle.std.proofs.lemmas.List.{length-take-le, take_all}
use Rattle.std.proofs.lemmas.Grind.{common_steps}
use Rattle.std.proofs.lemmas.Int.{ints}
use Rattle.std.proofs.lemmas.List.Elements.{All-push}
use Rattle.std.proofs.lemmas.List.Folds.{list_any-append}
use Rattle.std.proofs.lemmas.List.Kept.{AllPairs-cons}
use Rattle.std.proofs.lemmas.Bool.{leb-true, leb-false}
use Rattle.cov_base.specs.Sets.{written, is_in, is_within, covers, IsNormalFrom, IsNormalForm, least}
use Rattle.cov_base.proofs.Members.{is_in-written}
use Rattle.design_data.specs.declared.infos.BinInfo.{BinInfo}
use Rattle.design_data.specs.declared.infos.BinRule.{BinRule}
use Rattle.design_data.specs.declared.infos.BinRule.TheVariants.{Values, Patterns, Trans, Default, DefaultValues, DefaultSequence, Picked, Product}
use Rattle.design_data.specs.Laws.{lists, is_listed}
use Rattle.value_index.specs.declared.sets.Span.{Span}
use Rattle.value_index.specs.Found.{in_span, in_set, places, Apart}
use Rattle.point_tables.specs.Tables.{has_value}
use Rattle.point_tables.specs.Keys.{range_at, AreKeysOf, HasOneMore, AreSetsOf}
use Rattle.point_tables.proofs.Places.{places_more}

-- ---- keys

same_le : (base : ℤ) (m n : ℕ) (b : Bool) → nat_le m n ≡ b → int_le (base +ℤ pos m) (base +ℤ pos n) ≡ b
same_le base m n true e = let le : m ≤ n = leb-true m n e in grind (arith, common_steps, ints)
same_le base m n false e = let gt : n < m = leb-false m n e in grind (arith, common_steps, ints)

module _ (base : ℤ) where
  in_range : (key : ℕ) (span : Span) → in_span key span ≡ is_within (base +ℤ pos key) (range_at base span)
  in_range key span =
      ap (λ (b : Bool). b && nat_le key span.high) (sym (same_le base span.low key (nat_le span.low key) refl))
      ∙ ap (λ (b : Bool). int_le (base +ℤ pos span.low) (base +ℤ pos key) && b) (sym (same_le base key span.high (nat_le key span.high) refl))

  in_ranges : (key : ℕ) (spans : List Span) → in_set key spans ≡ covers (map (range_at base) spans) (base +ℤ pos key)
  in_ranges key [] = refl
  in_ranges key (span ∷ spans) =
      ap (λ (b : Bool). b || in_set key spans) (in_range key span)
      ∙ ap (λ (b : Bool). is_within (base +ℤ pos key) (range_at base span) || b) (in_ranges key spans)

  higher : (low : ℤ) (spans : List Span) → IsNormalFrom low (map (range_at base) spans) → All (λ span. low ≤ℤ (base +ℤ pos span.low)) spans
  higher low [] h k d lt = absurd (omega (arith, lt))
  higher low (span ∷ spans) h zero d lt = h.0
  higher low (span ∷ spans) h (suc k) d lt =
      let later : ((base +ℤ pos span.high) +ℤ pos 2) ≤ℤ (base +ℤ pos (get_or spans k d).low) = higher ((base +ℤ pos span.high) +ℤ pos 2) spans h.2 k d (omega (arith, lt)) in
      omega (arith, ints, later, h.0, h.1)

  apart_of : (low : ℤ) (spans : List Span) → IsNormalFrom low (map (range_at base) spans) → Apart spans
  apart_of low [] h = λ i j d lt within. absurd (omega (arith, within))
  apart_of low (span ∷ spans) h = AllPairs-cons (λ a b. a.high < b.low) span spans
      (λ k d lt.
      let later : ((base +ℤ pos span.high) +ℤ pos 2) ≤ℤ (base +ℤ pos (get_or spans k d).low) = higher ((base +ℤ pos span.high) +ℤ pos 2) spans h.2 k d lt in
      omega (arith, ints, later))
      (apart_of ((base +ℤ pos span.high) +ℤ pos 2) spans h.2)

  pub keys_of_set : (spans : List Span) (ranges numbers : List (ℤ × ℤ)) (i : ℕ) → map (range_at base) spans ≡ take i numbers → ranges ≡ numbers → length ranges ≤ i → IsNormalForm numbers → AreKeysOf base numbers spans
  keys_of_set spans ranges numbers i taken same_ranges done normal =
      let e : map (range_at base) spans ≡ numbers = taken ∙ take_all i numbers (subst (λ (rs : List (ℤ × ℤ)). length rs ≤ i) same_ranges done) in
      record {
        apart = apart_of least spans (subst (IsNormalFrom least) (sym e) normal.normal);
        same = λ key. in_ranges key spans ∙ ap (λ (rs : List (ℤ × ℤ)). covers rs (base +ℤ pos key)) e ∙ sym (is_in-written numbers (base +ℤ pos key));
      }

-- ---- what is listed

-- the numbers of further ranges
pub ranges_more : (old set new : List (ℤ × ℤ)) (v : ℤ) → new ≡ old ++ set → is_in (written new) v ≡ (is_in (written old) v || is_in (written set) v)
ranges_more old set new v e =
    is_in-written new v ∙ ap (λ (ranges : List (ℤ × ℤ)). covers ranges v) e ∙ list_any-append (is_within v) old set
    ∙ ap (λ (b : Bool). b || covers set v) (sym (is_in-written old v))
    ∙ ap (λ (b : Bool). is_in (written old) v || b) (sym (is_in-written set v))

pub listed_more : (old set new : List (ℤ × ℤ)) (rule : BinRule) (v : ℤ) → new ≡ old ++ set → rule ≡ Values set → is_in (written new) v ≡ (is_in (written old) v || lists (Some v) rule)
listed_more old set new rule v e is = ranges_more old set new v e ∙ ap (λ (r : BinRule). is_in (written old) v || lists (Some v) r) (sym is)

pub none_listed : (ranges : List (ℤ × ℤ)) (v : ℤ) → ranges ≡ [] → is_in (written ranges) v ≡ false
none_listed ranges v e = ap (λ (rs : List (ℤ × ℤ)). is_in (written rs) v) e ∙ is_in-written [] v

pub never_listed : (bins : List BinInfo) → is_listed bins None ≡ false
never_listed [] = refl
never_listed (bin ∷ bins) = ap (λ (b : Bool). b || is_listed bins None) (unlisted bin.rule) ∙ never_listed bins
  where
    unlisted : (rule : BinRule) → lists None rule ≡ false
    unlisted (Values set) = refl
    unlisted (Patterns patterns) = refl
    unlisted (Trans seqs) = refl
    unlisted Default = refl
    unlisted (DefaultValues set) = refl
    unlisted DefaultSequence = refl
    unlisted (Picked select) = refl
    unlisted (Product members) = refl

in_whole : (base last : ℤ) (key : ℕ) → last ≡ (base +ℤ pos (2 ^ 64 - 1)) → key < 2 ^ 64 → (is_within (base +ℤ pos key) (base, last) || false) ≡ true
in_whole base last key e fits = grind (arith, common_steps, ints)

pub left_of : (base last : ℤ) (whole listed ranges rest : List (ℤ × ℤ)) (key : ℕ) → last ≡ (base +ℤ pos (2 ^ 64 - 1)) → key < 2 ^ 64
    → ((v : ℤ) → is_in (written whole) v ≡ is_in (written ((base, last) ∷ [])) v) → ((v : ℤ) → is_in (written listed) v ≡ is_in (written ranges) v)
    → ((v : ℤ) → is_in (written rest) v ≡ (is_in (written whole) v && not (is_in (written listed) v)))
    → is_in (written rest) (base +ℤ pos key) ≡ not (is_in (written ranges) (base +ℤ pos key))
left_of base last whole listed ranges rest key e fits is_whole is_from is_rest =
    let v : ℤ = base +ℤ pos key in
    is_rest v ∙ ap (λ (b : Bool). b && not (is_in (written listed) v)) (is_whole v ∙ is_in-written ((base, last) ∷ []) v ∙ in_whole base last key e fits)
    ∙ ap not (is_from v)

-- ---- places

places_append : (key first : ℕ) (sets : List (List Span)) (keys : List Span) → places key first (sets ++ keys ∷ []) ≡ places key first sets ++ cond (in_set key keys) ((first + length sets) ∷ []) []
places_append key first [] keys = let e : first ≡ first + 0 = omega arith in ap (λ (n : ℕ). cond (in_set key keys) (n ∷ []) []) e
places_append key first (set ∷ sets) keys =
    let e : first + 1 + length sets ≡ first + length (set ∷ sets) = omega arith in
    consed (in_set key set) (places key (first + 1) (sets ++ keys ∷ [])) (places key (first + 1) sets) (cond (in_set key keys) ((first + length (set ∷ sets)) ∷ []) [])
    (places_append key (first + 1) sets keys ∙ ap (λ (n : ℕ). places key (first + 1) sets ++ cond (in_set key keys) (n ∷ []) []) e)
  where
    consed : (b : Bool) (all front back : List ℕ) → all ≡ front ++ back → cond b (first ∷ all) all ≡ cond b (first ∷ front) front ++ back
    consed true all front back h = ap (λ (ps : List ℕ). first ∷ ps) h
    consed false all front back h = h

pub sets_more : (bins : List BinInfo) (base : ℤ) (i : ℕ) (bin : BinInfo) (old new : List (List Span)) → i < length bins → bin ≡ get_or bins i bin
    → AreSetsOf bins base (take i bins) old → HasOneMore bins base bin.rule old new → AreSetsOf bins base (take (i + 1) bins) new
sets_more bins base i bin old new lt is h more =
    let long : length (take i bins) ≡ i = length-take-le i bins (omega (arith, lt)) in
    let longer : length (take (i + 1) bins) ≡ i + 1 = length-take-le (i + 1) bins (omega (arith, lt)) in
    subst (AreSetsOf bins base (take (i + 1) bins)) (sym more.is_new) (record {
      same = omega (arith, length-append old (more.keys ∷ []), h.same, long, longer);
      apart = All-push Apart old more.keys h.apart more.is_set.apart;
      meets = λ key fits.
          let test : BinInfo → Bool = λ b. has_value bins (Some (base +ℤ pos key)) b.rule in
          let here : 0 + length old ≡ i = omega (arith, h.same, long) in
          places_append key 0 old more.keys
          ∙ ap (λ (n : ℕ). places key 0 old ++ cond (in_set key more.keys) (n ∷ []) []) here
          ∙ ap (λ (b : Bool). places key 0 old ++ cond b (i ∷ []) []) (more.is_set.same key fits)
          ∙ ap (λ (ps : List ℕ). ps ++ cond (test bin) (i ∷ []) []) (h.meets key fits)
          ∙ sym (places_more test bins i bin lt is);
    })
