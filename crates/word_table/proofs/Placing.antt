-- Words with their places.
use Rattle.std.proofs.Common.{◌≡◌, ◌≢◌, ◌↔◌, ℕ, zero, suc, ℤ, ◌<◌, List, [], ◌∷◌, length, get_or, Option, Bool, true, false, IsTrue, not, ◌==◌, refl, ap, sym, subst, ◌∙◌, arith}
use Rattle.std.specs.Prelude.{map, All, AllPairs, Contains, slice_index}
use Rattle.std.proofs.lemmas.Bool.{false≢true, eqb-true, eqb-false}
use Rattle.std.proofs.lemmas.List.{length-map, get_or-map}
use Rattle.std.proofs.lemmas.List.Elements.{Contains-get_or}
use Rattle.word_table.specs.declared.row.PlacedWord.{PlacedWord}
use Rattle.word_table.specs.Words.{Ends}
use Rattle.word_table.specs.Placed.{rows_of, EndsAt, StandOnce}

pub rows_back : (rows : List PlacedWord) → rows_of (map (λ row. row.word) rows) (map (λ row. row.place) rows) ≡ rows
rows_back [] = refl
rows_back (row ∷ rows) = ap (λ (rest : List PlacedWord). row ∷ rest) (rows_back rows)

pub count_rows : (words : List (List ℤ)) (places : List ℕ) → length places ≡ length words → length (rows_of words places) ≡ length words
count_rows [] places e = refl
count_rows (word ∷ words) [] e = absurd (omega (arith, e))
count_rows (word ∷ words) (place ∷ places) e = ap suc (count_rows words places (omega (arith, e)))

pub row_at : (words : List (List ℤ)) (places : List ℕ) (k : ℕ) (d : PlacedWord) → length places ≡ length words → k < length words
    → get_or (rows_of words places) k d ≡ record { word = get_or words k []; place = get_or places k 0 }
row_at [] places k d e lt = absurd (omega (arith, lt))
row_at (word ∷ words) [] k d e lt = absurd (omega (arith, e))
row_at (word ∷ words) (place ∷ places) zero d e lt = refl
row_at (word ∷ words) (place ∷ places) (suc k) d e lt = row_at words places k d (omega (arith, e)) (omega (arith, lt))

pub no_rows : (words : List (List ℤ)) (places : List ℕ) → length places ≡ length words → length places ≡ 0 → rows_of words places ≡ []
no_rows [] places e z = refl
no_rows (word ∷ words) places e z = absurd (omega (arith, e, z))

pub places_back : (words : List (List ℤ)) (places : List ℕ) → length places ≡ length words → map (λ row. row.place) (rows_of words places) ≡ places
places_back [] [] e = refl
places_back [] (place ∷ places) e = absurd (omega (arith, e))
places_back (word ∷ words) [] e = absurd (omega (arith, e))
places_back (word ∷ words) (place ∷ places) e = ap (λ (ps : List ℕ). place ∷ ps) (places_back words places (omega (arith, e)))

-- the places of the words that a trace ends with
module _ (words : List (List ℤ)) (places : List ℕ) (same : length places ≡ length words) (hits : List ℕ) where
  abbrev rows : List PlacedWord
  rows = rows_of words places

  abbrev at : ℕ → ℕ
  at k = slice_index places k

  module _ (w : List (Option ℤ)) (says : (k : ℕ) → Contains hits k ↔ ((k < length words) × Ends (get_or words k []) w)) where
    pub found_inside : (i : ℕ) → i < length hits → get_or hits i 0 < length words
    found_inside i lt = ((says (get_or hits i 0)).0 (Contains-get_or hits i 0 lt)).0

    row : ℕ → PlacedWord
    row k = record { word = get_or words k []; place = get_or places k 0 }

    there : (place : ℕ) → Contains (map at hits) place → EndsAt rows w place
    unfolding row
    there place c =
        let i = c.0 in
        let lt : i < length hits = omega (arith, c.1, length-map hits at) in
        let k = get_or hits i 0 in
        let one = (says k).0 (Contains-get_or hits i 0 lt) in
        record {
          row = row k;
          is_one = subst (Contains rows) (row_at words places k (row k) same one.0) (Contains-get_or rows k (row k) (omega (arith, one.0, count_rows words places same)));
          is_place = sym (get_or-map at hits i 0 place lt) ∙ c.2;
          ends = one.1;
        }

    back : (place : ℕ) → EndsAt rows w place → Contains (map at hits) place
    unfolding row
    back place e =
        let k = e.is_one.0 in
        let lt : k < length words = omega (arith, e.is_one.1, count_rows words places same) in
        let is : row k ≡ e.row = sym (row_at words places k e.row same lt) ∙ e.is_one.2 in
        let hit = (says k).1 (lt, subst (λ (r : PlacedWord). Ends r.word w) (sym is) e.ends) in (
          hit.0,
          omega (arith, hit.1, length-map hits at),
          get_or-map at hits hit.0 k place hit.1 ∙ ap at hit.2 ∙ ap (λ (r : PlacedWord). r.place) is ∙ e.is_place,
        )

    pub found_are : (place : ℕ) → Contains (map at hits) place ↔ EndsAt rows w place
    found_are place = (there place, back place)

  pub found_once : All (λ k. k < length words) hits → AllPairs (λ a b. a < b) hits → StandOnce rows → AllPairs (λ a b. a ≢ b) (map at hits)
  found_once inside ascend once i j d lt within e =
      let len = length-map hits at in
      let ji : j < length hits = omega (arith, within, len) in
      let ii : i < length hits = omega (arith, lt, ji) in
      let a = get_or hits i 0 in
      let b = get_or hits j 0 in
      let less : a < b = ascend i j 0 lt ji in
      let bl : b < length places = omega (arith, inside j 0 ji, same) in
      let same_place : get_or places a 0 ≡ get_or places b 0 = sym (get_or-map at hits i 0 d ii) ∙ e ∙ get_or-map at hits j 0 d ji in
      let apart : AllPairs (λ x y. x ≢ y) places = subst (AllPairs (λ x y. x ≢ y)) (places_back words places same) once in
      apart a b 0 less bl same_place

pub some_hits : (f : ℕ → ℕ) (hits : List ℕ) (len : ℕ) (none : Bool) → len ≡ length hits → none ≡ (len == 0) → IsTrue (not none) ↔ (0 < length (map f hits))
some_hits f hits len true same is =
    let zero : len ≡ 0 = eqb-true len 0 (sym is) in
    ((λ t. absurd (false≢true t)), (λ lt. absurd (omega (arith, lt, length-map hits f, same, zero))))
some_hits f hits len false same is =
    let some : len ≡ 0 → ⊥ = eqb-false len 0 (sym is) in
    ((λ t. by len some (omega (arith, length-map hits f, same))), (λ lt. refl))
  where
    by : (len : ℕ) → (len ≡ 0 → ⊥) → len ≡ length (map f hits) → 0 < length (map f hits)
    by zero ne e = absurd (ne refl)
    by (suc n) ne e = omega (arith, e)
