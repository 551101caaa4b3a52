-- Words after a sort.
use Rattle.std.proofs.Common.{◌≡◌, ℤ, ◌<◌, ◌≤◌, ◌<ℤ◌, List, [], ◌∷◌, length, get_or, Bool, false, refl, sym, subst, inl, inr, arith, eqb, int_cmp, is_lt, IsSortedBy, IsPermutation}
use Rattle.std.proofs.Common.{Less, Equal, Greater}
use Rattle.std.specs.Prelude.{map}
use Rattle.std.specs.Ordering.{ordering_then, MatchOrdering}
use Rattle.std.specs.declared.cmp.Ordering.{Ordering}
use Rattle.std.specs.Cmp.{IsStrictWeakOrder}
use Rattle.std.specs.Cmp.Lexicographic.{slice_cmp}
use Rattle.std.proofs.lemmas.Bool.{true≢false}
use Rattle.std.specs.Cmp.{unsigned_Decides}
use Rattle.std.proofs.lemmas.Cmp.{int_ranked, int_cmp_total, lists_total, nat_eq_equiv}
use Rattle.std.proofs.lemmas.Map.Keys.{IsDistinct-IsPermutation}
use Rattle.std.proofs.lemmas.Map.Made.{AllPairs-from_IsDistinct, IsDistinct-from_AllPairs}
use Rattle.std.proofs.lemmas.List.Elements.{All-map}
use Rattle.std.proofs.lemmas.List.{length-map, get_or-map}
use Rattle.std.proofs.lemmas.List.Sorted.{ranks_by, sorted_far, All-permutation, length_permutation, IsPermutation-map}
use Rattle.word_table.specs.declared.row.PlacedWord.{PlacedWord}
use Rattle.word_table.specs.Words.{WordLe, IsSorted}
use Rattle.word_table.specs.Recent.{longest}
use Rattle.word_table.specs.Tables.{AreWords}
use Rattle.word_table.specs.Placed.{ArePlaced, StandOnce}

-- one word comes before another
abbrev pub by_word : PlacedWord → PlacedWord → Bool
by_word x y = is_lt (slice_cmp int_cmp x.word y.word)

pub by_word_ranks : IsStrictWeakOrder by_word
by_word_ranks = ranks_by (lists_total int_cmp_total) (λ (row : PlacedWord). row.word)

-- a word that no other comes before
pub not_after : (x y : List ℤ) → is_lt (slice_cmp int_cmp y x) ≡ false → WordLe x y
not_after [] y e = tt
not_after (a ∷ x) [] e = absurd (true≢false e)
not_after (a ∷ x) (b ∷ y) e = by (not_after x y) (int_cmp b a) (int_ranked b a (int_cmp b a) refl) e
  where
    by : (is_lt (slice_cmp int_cmp y x) ≡ false → WordLe x y) → (o : Ordering) → MatchOrdering o (b <ℤ a) (b ≡ a) (a <ℤ b) → is_lt (ordering_then o (slice_cmp int_cmp y x)) ≡ false → WordLe (a ∷ x) (b ∷ y)
    by rest Less m f = absurd (true≢false f)
    by rest Equal m f = inr (sym m, rest f)
    by rest Greater m f = inl m

none : PlacedWord
none = record { word = []; place = 0 }

pub sorted_words : (rows : List PlacedWord) → IsSortedBy by_word rows → IsSorted (map (λ row. row.word) rows)
sorted_words rows up i j le lt =
    let word : PlacedWord → List ℤ = λ row. row.word in
    let inside : j < length rows = omega (arith, lt, length-map rows word) in
    subst (λ (x : List ℤ). WordLe x (get_or (map word rows) j [])) (sym (get_or-map word rows i none [] (omega (arith, le, inside))))
    (subst (λ (y : List ℤ). WordLe (get_or rows i none).word y) (sym (get_or-map word rows j none [] inside))
    (not_after (get_or rows i none).word (get_or rows j none).word (sorted_far by_word by_word_ranks rows up i j none le inside)))

-- ---- words that were moved

pub once_moved : (rows moved : List PlacedWord) → IsPermutation rows moved → StandOnce rows → StandOnce moved
once_moved rows moved p once =
    AllPairs-from_IsDistinct unsigned_Decides (map (λ row. row.place) moved)
    (IsDistinct-IsPermutation eqb nat_eq_equiv.symm (map (λ row. row.place) rows) (map (λ row. row.place) moved) (IsPermutation-map (λ (row : PlacedWord). row.place) rows moved p)
    (IsDistinct-from_AllPairs unsigned_Decides (map (λ row. row.place) rows) once))

pub words_moved : (rows moved : List PlacedWord) → IsPermutation rows moved → IsSorted (map (λ row. row.word) moved) → ArePlaced rows → AreWords (map (λ row. row.word) moved)
words_moved rows moved p sorted are =
    let word : PlacedWord → List ℤ = λ row. row.word in
    let inside = length_permutation rows moved p in
    record {
      sorted = sorted;
      short = All-map (λ (x : List ℤ). length x ≤ longest) word moved (All-permutation (λ (row : PlacedWord). length row.word ≤ longest) rows moved p are.short);
      few = omega (arith, inside, length-map moved word, are.few);
    }
