-- Rows of ascending bins.
use Rattle.std.proofs.Common.{◌≡◌, ℕ, ◌+◌, ◌-◌, ◌≤◌, ◌<◌, zero, suc, List, [], ◌∷◌, ◌++◌, Bool, true, false, cond, length, get_or, set, take, drop, refl, sym, ap, subst, ◌∙◌, arith, inl, inr, eqb, ltb, Ok, Err}
use Rattle.std.specs.Prelude.{count_by}
use Rattle.std.specs.List.Sorted.{IsBinarySearchResult, IsNonDecreasingBy}
use Rattle.std.specs.Ordering.{nat_cmp, ordering_index}
use Rattle.std.proofs.lemmas.Cmp.{ranked}
use Rattle.std.proofs.lemmas.List.Sorted.{IsNonDecreasingBy-from_default}
use Rattle.std.proofs.lemmas.Bool.Decides.{nat_tests}
use Rattle.std.proofs.lemmas.Bool.{cases_eq, cases_lt, eq-eqb, ne_eqb, eqb-false, eqb-true, lt-ltb}
use Rattle.std.proofs.lemmas.List.Sums.{sum_by-cons}
use Rattle.std.proofs.lemmas.List.{drop_more, get_or-set_same, get_or-set_other, length-set, get_or_default, length-drop, take_all}
use Rattle.tally.specs.Rows.{rows_from, count_in, count_from, IsAscendingFrom, Adds, HasRoom}

pub ascending_weaker : (low bin : ℕ) (rows : List (ℕ × ℕ)) → low ≤ bin → IsAscendingFrom bin rows → IsAscendingFrom low rows
ascending_weaker low bin [] le h = tt
ascending_weaker low bin (row ∷ rows) le h = (omega (arith, h.0), h.1, h.2)

pub ascending_drop : (bin i : ℕ) (rows : List (ℕ × ℕ)) → IsAscendingFrom bin rows → IsAscendingFrom bin (drop i rows)
ascending_drop bin zero rows h = h
ascending_drop bin (suc i) [] h = tt
ascending_drop bin (suc i) (row ∷ rows) h = ascending_weaker bin (row.0 + 1) (drop i rows) (omega (arith, h.0)) (ascending_drop (row.0 + 1) i rows h.2)

one_row : (bin count : ℕ) (rows : List (ℕ × ℕ)) (t : Bool) → (t ≡ false → 1 ≤ count) → IsAscendingFrom (bin + 1) rows → IsAscendingFrom bin (cond t rows ((bin, count) ∷ rows))
one_row bin count rows true some h = ascending_weaker bin (bin + 1) rows (omega arith) h
one_row bin count rows false some h = (omega arith, some refl, h)

pub ascending_rows_from : (bin : ℕ) (counts : List ℕ) → IsAscendingFrom bin (rows_from bin counts)
ascending_rows_from bin [] = tt
ascending_rows_from bin (count ∷ counts) = one_row bin count (rows_from (bin + 1) counts) (eqb count 0) (λ e. let n = eqb-false count 0 e in omega arith) (ascending_rows_from (bin + 1) counts)

-- a bin before all rows has none
pub none_below : (rows : List (ℕ × ℕ)) (low bin : ℕ) → bin < low → IsAscendingFrom low rows → count_in rows bin ≡ 0
none_below [] low bin lt h = refl
none_below (row ∷ rows) low bin lt h = rw (ne_eqb row.0 bin (λ e. absurd (omega (arith, h.0)))) (none_below rows (row.0 + 1) bin (omega (arith, h.0)) h.2)

-- each row is of a bin from the lowest on
row_after : (rows : List (ℕ × ℕ)) (low i : ℕ) (d : ℕ × ℕ) → IsAscendingFrom low rows → i < length rows → low ≤ (get_or rows i d).0
row_after [] low i d h lt = absurd (omega arith)
row_after (row ∷ rows) low zero d h lt = h.0
row_after (row ∷ rows) low (suc i) d h lt = let later = row_after rows (row.0 + 1) i d h.2 (omega arith) in omega (arith, later, h.0)

-- the count of the row at an index
pub count_at_row : (rows : List (ℕ × ℕ)) (low i : ℕ) (d : ℕ × ℕ) → IsAscendingFrom low rows → i < length rows → count_in rows (get_or rows i d).0 ≡ (get_or rows i d).1
count_at_row [] low i d h lt = absurd (omega arith)
count_at_row (row ∷ rows) low zero d h lt = rw (eq-eqb row.0 row.0 refl) refl
count_at_row (row ∷ rows) low (suc i) d h lt =
    let later = row_after rows (row.0 + 1) i d h.2 (omega arith) in
    rw (ne_eqb row.0 (get_or rows i d).0 (λ e. absurd (omega (arith, later)))) (count_at_row rows (row.0 + 1) i d h.2 (omega arith))

-- no row of the bin
pub count_none : (rows : List (ℕ × ℕ)) (bin : ℕ) → ((i : ℕ) (d : ℕ × ℕ) → i < length rows → (get_or rows i d).0 ≡ bin → ⊥) → count_in rows bin ≡ 0
count_none [] bin none = refl
count_none (row ∷ rows) bin none = rw (ne_eqb row.0 bin (none 0 row (omega arith))) (count_none rows bin (λ i d lt. none (suc i) d (omega arith)))

-- ---- rows of counts

front_count : (bin count k : ℕ) (rows : List (ℕ × ℕ)) (t : Bool) → eqb count 0 ≡ t → k ≡ bin → IsAscendingFrom (bin + 1) rows → count_in (cond t rows ((bin, count) ∷ rows)) k ≡ count
front_count bin count k rows true e is h = none_below rows (bin + 1) k (omega arith) h ∙ sym (eqb-true count 0 e)
front_count bin count k rows false e is h = rw (eq-eqb bin k (sym is)) refl

later_count : (bin count k : ℕ) (rows : List (ℕ × ℕ)) (t : Bool) → bin < k → count_in (cond t rows ((bin, count) ∷ rows)) k ≡ count_in rows k
later_count bin count k rows true lt = refl
later_count bin count k rows false lt = rw (ne_eqb bin k (λ e. absurd (omega arith))) refl

pub count_in-rows_from : (bin k : ℕ) (counts : List ℕ) → count_in (rows_from bin counts) (bin + k) ≡ get_or counts k 0
count_in-rows_from bin k [] = refl
count_in-rows_from bin zero (count ∷ counts) = front_count bin count (bin + 0) (rows_from (bin + 1) counts) (eqb count 0) refl (omega arith) (ascending_rows_from (bin + 1) counts)
count_in-rows_from bin (suc k) (count ∷ counts) =
    let same : bin + suc k ≡ (bin + 1) + k = omega arith in
    later_count bin count (bin + suc k) (rows_from (bin + 1) counts) (eqb count 0) (omega arith) ∙ ap (count_in (rows_from (bin + 1) counts)) same ∙ count_in-rows_from (bin + 1) k counts

-- one more count, with a row or without
pub next_rows : (counts : List ℕ) (i count : ℕ) (d : ℕ) (rows total : List (ℕ × ℕ)) → i < length counts → get_or counts i d ≡ count → rows ++ rows_from i (drop i counts) ≡ total → rows ++ cond (eqb count 0) (rows_from (i + 1) (drop (i + 1) counts)) ((i, count) ∷ rows_from (i + 1) (drop (i + 1) counts)) ≡ total
next_rows counts i count d rows total lt is e = ap (λ (xs : List ℕ). rows ++ rows_from i xs) (sym (drop_more counts i d lt ∙ ap (λ (n : ℕ). n ∷ drop (i + 1) counts) is)) ∙ e

one_counted : (bin count n : ℕ) (rows : List (ℕ × ℕ)) (t : Bool) → eqb count 0 ≡ t → length rows ≡ n → length (cond t rows ((bin, count) ∷ rows)) ≡ cond (ltb 0 count) 1 0 + n
one_counted bin count n rows true e is = rw (eqb-true count 0 e) (is ∙ omega arith)
one_counted bin count n rows false e is = let ne = eqb-false count 0 e in let some : ltb 0 count ≡ true = lt-ltb 0 count (omega arith) in rw some (omega arith)

-- as many rows as counts above 0
pub length-rows_from : (bin : ℕ) (counts : List ℕ) → length (rows_from bin counts) ≡ count_by (ltb 0) counts
length-rows_from bin [] = refl
length-rows_from bin (count ∷ counts) =
    one_counted bin count (count_by (ltb 0) counts) (rows_from (bin + 1) counts) (eqb count 0) refl (length-rows_from (bin + 1) counts)
    ∙ sym (sum_by-cons (λ (count : ℕ). cond (ltb 0 count) 1 0) count counts)

-- ---- adding

-- what is added so far and the rows that are left make the whole
pub record Added (first : ℕ) (rows left : List (ℕ × ℕ)) (old now : List ℕ) : Type 0 where
  pub same : length now ≡ length old
  pub at : (index : ℕ) → index < length old → get_or now index 0 + count_in left (first + index) ≡ get_or old index 0 + count_in rows (first + index)

pub all_added : (first : ℕ) (rows left : List (ℕ × ℕ)) (old now : List ℕ) → left ≡ [] → Added first rows left old now → Adds (count_from rows first) old now
all_added first rows left old now none a = record {
  same = a.same;
  at = λ index lt. let whole = a.at index lt in let no : count_in left (first + index) ≡ 0 = ap (λ (l : List (ℕ × ℕ)). count_in l (first + index)) none in omega (arith, whole, no);
}

-- the row at an index, before those after it
pub front_at : (first : ℕ) (rows : List (ℕ × ℕ)) (i : ℕ) → i < length rows → IsAscendingFrom first rows → IsAscendingFrom first (get_or rows i (0, 0) ∷ drop (i + 1) rows)
front_at first rows i lt h = subst (IsAscendingFrom first) (drop_more rows i (0, 0) lt) (ascending_drop first i rows h)

module _ (first : ℕ) (rows : List (ℕ × ℕ)) (row : ℕ × ℕ) (rest : List (ℕ × ℕ)) (old now : List ℕ) (a : Added first rows (row ∷ rest) old now) (index : ℕ) (is : first + index ≡ row.0) where
  pub row_whole : index < length old → get_or now index 0 + row.1 ≡ get_or old index 0 + count_in rows (first + index)
  row_whole lt = subst (λ (t : Bool). get_or now index 0 + cond t row.1 (count_in rest (first + index)) ≡ get_or old index 0 + count_in rows (first + index)) (eq-eqb row.0 (first + index) (sym is)) (a.at index lt)

  other_whole : (other : ℕ) → (index ≡ other → ⊥) → other < length old → get_or now other 0 + count_in rest (first + other) ≡ get_or old other 0 + count_in rows (first + other)
  other_whole other ne lt = subst (λ (t : Bool). get_or now other 0 + cond t row.1 (count_in rest (first + other)) ≡ get_or old other 0 + count_in rows (first + other)) (ne_eqb row.0 (first + other) (λ e. ne (omega (arith, e, is)))) (a.at other lt)

  pub add_row : IsAscendingFrom first (row ∷ rest) → index < length old → Added first rows rest old (set now index (get_or now index 0 + row.1))
  add_row h inside = record {
    same = length-set now index (get_or now index 0 + row.1) ∙ a.same;
    at = λ other lt. elim (cases_eq index other) [
      | inl e ↦
          let whole = row_whole inside in
          let none : count_in rest (first + index) ≡ 0 = none_below rest (row.0 + 1) (first + index) (omega arith) h.2 in
          let put : get_or (set now index (get_or now index 0 + row.1)) index 0 ≡ get_or now index 0 + row.1 = get_or-set_same now index (get_or now index 0 + row.1) 0 (omega (arith, a.same)) in
          subst (λ (b : ℕ). get_or (set now index (get_or now index 0 + row.1)) b 0 + count_in rest (first + b) ≡ get_or old b 0 + count_in rows (first + b)) e (omega (arith, whole, none, put))
      | inr ne ↦
          let put : get_or (set now index (get_or now index 0 + row.1)) other 0 ≡ get_or now other 0 = get_or-set_other now index other (get_or now index 0 + row.1) 0 (λ e. ne (sym e)) in
          let whole = other_whole other ne lt in
          omega (arith, put, whole)
    ];
  }

  -- where the row's bin is past the end, so are all later ones
  pub past_end : IsAscendingFrom first (row ∷ rest) → length old ≤ index → Adds (count_from rows first) old now
  past_end h past = record {
    same = a.same;
    at = λ other lt.
        let low : IsAscendingFrom row.0 (row ∷ rest) = (omega arith, h.1, h.2) in
        let none : count_in (row ∷ rest) (first + other) ≡ 0 = none_below (row ∷ rest) row.0 (first + other) (omega arith) low in
        let whole = a.at other lt in
        omega (arith, none, whole);
  }

-- from index 0 on
pub plain_room : (rows : List (ℕ × ℕ)) (numbers : List ℕ) → HasRoom (count_in rows) numbers → HasRoom (count_from rows 0) numbers
plain_room rows numbers room index lt = let plain : 0 + index ≡ index = omega arith in rw plain (room index lt)

pub plain_adds : (rows : List (ℕ × ℕ)) (old new : List ℕ) → Adds (count_from rows 0) old new → Adds (count_in rows) old new
plain_adds rows old new a = record { same = a.same; at = λ index lt. let plain : 0 + index ≡ index = omega arith in rw plain at (a.at index lt) }

-- the counts of the later bins alone
pub later_room : (rows left : List (ℕ × ℕ)) (first : ℕ) (numbers : List ℕ) → ((later : ℕ) → first ≤ later → count_in left later ≡ count_in rows later) → HasRoom (count_from rows first) numbers → HasRoom (count_from left first) numbers
later_room rows left first numbers same room index lt = rw (same (first + index) (omega arith)) (room index lt)

pub later_adds : (rows left : List (ℕ × ℕ)) (first : ℕ) (old new : List ℕ) → ((later : ℕ) → first ≤ later → count_in left later ≡ count_in rows later) → Adds (count_from left first) old new → Adds (count_from rows first) old new
later_adds rows left first old new same a = record { same = a.same; at = λ index lt. rw (same (first + index) (omega arith)) at (a.at index lt) }

-- ---- searching

rows_rise : (rows : List (ℕ × ℕ)) (low i j : ℕ) → IsAscendingFrom low rows → i ≤ j → j < length rows → (get_or rows i (0, 0)).0 ≤ (get_or rows j (0, 0)).0
rows_rise [] low i j h le lt = absurd (omega arith)
rows_rise (row ∷ rows) low zero zero h le lt = omega arith
rows_rise (row ∷ rows) low zero (suc j) h le lt = let later = row_after rows (row.0 + 1) j (0, 0) h.2 (omega arith) in omega (arith, later)
rows_rise (row ∷ rows) low (suc i) zero h le lt = absurd (omega arith)
rows_rise (row ∷ rows) low (suc i) (suc j) h le lt = rows_rise rows (row.0 + 1) i j h.2 (omega arith) (omega arith)

module _ (rows : List (ℕ × ℕ)) (ascending : IsAscendingFrom 0 rows) (bin : ℕ) where
  comparisons_rise : IsNonDecreasingBy (λ row. ordering_index (nat_cmp row.0 bin)) rows
  comparisons_rise = IsNonDecreasingBy-from_default (λ row. ordering_index (nat_cmp row.0 bin)) rows (0, 0) (λ i j le lt.
      let rise : (get_or rows i (0, 0)).0 ≤ (get_or rows j (0, 0)).0 = rows_rise rows 0 i j ascending le lt in
      grind (arith, nat_tests))

  -- a search by bin ends at the bin's row, or there is none
  pub found_row : (at : ℕ) → at < length rows → IsBinarySearchResult (λ row. nat_cmp row.0 bin) rows (Ok at) → (get_or rows at (0, 0)).1 ≡ count_in rows bin
  found_row at lt equal =
      let is : (get_or rows at (0, 0)).0 ≡ bin = ranked _ bin _ (sym (equal (0, 0))) in
      sym (count_at_row rows 0 at (0, 0) ascending lt) ∙ ap (count_in rows) is

  none_at : (at : ℕ) → IsBinarySearchResult (λ row. nat_cmp row.0 bin) rows (Err at) → (i : ℕ) → i < length rows → (get_or rows i (0, 0)).0 ≡ bin → ⊥
  none_at at parted i lt is =
      elim (cases_lt i at) [
        | inl before ↦ let smaller : (get_or rows i (0, 0)).0 < bin = ranked _ bin _ (sym ((parted comparisons_rise).0 i (0, 0) (omega arith) before)) in omega arith
        | inr after ↦ let greater : bin < (get_or rows i (0, 0)).0 = ranked _ bin _ (sym ((parted comparisons_rise).1 i (0, 0) after lt)) in omega arith
      ]

  pub no_row : (at : ℕ) → IsBinarySearchResult (λ row. nat_cmp row.0 bin) rows (Err at) → 0 ≡ count_in rows bin
  no_row at parted = sym (count_none rows bin (λ i d lt is. none_at at parted i lt (ap (λ (r : ℕ × ℕ). r.0) (get_or_default rows i (0, 0) d lt) ∙ is)))

-- ---- the rows from a bin on

rows_climb : (rows : List (ℕ × ℕ)) (low i j : ℕ) → IsAscendingFrom low rows → i < j → j < length rows → (get_or rows i (0, 0)).0 < (get_or rows j (0, 0)).0
rows_climb [] low i j h before lt = absurd (omega arith)
rows_climb (row ∷ rows) low i zero h before lt = absurd (omega arith)
rows_climb (row ∷ rows) low zero (suc j) h before lt = let later = row_after rows (row.0 + 1) j (0, 0) h.2 (omega arith) in omega (arith, later)
rows_climb (row ∷ rows) low (suc i) (suc j) h before lt = rows_climb rows (row.0 + 1) i j h.2 (omega arith) (omega arith)

from_at : (rows : List (ℕ × ℕ)) (at low bin : ℕ) → IsAscendingFrom low rows → (at < length rows → bin ≤ (get_or rows at (0, 0)).0) → IsAscendingFrom bin (drop at rows)
from_at [] zero low bin h ge = tt
from_at [] (suc at) low bin h ge = tt
from_at (row ∷ rows) zero low bin h ge = (ge (omega arith), h.1, h.2)
from_at (row ∷ rows) (suc at) low bin h ge = from_at rows at (row.0 + 1) bin h.2 (λ lt. ge (omega arith))

passes : (rows : List (ℕ × ℕ)) (at bin later : ℕ) → ((i : ℕ) → i < at → i < length rows → (get_or rows i (0, 0)).0 < bin) → bin ≤ later → count_in (drop at rows) later ≡ count_in rows later
passes rows zero bin later before le = refl
passes [] (suc at) bin later before le = refl
passes (row ∷ rows) (suc at) bin later before le =
    let here = before 0 (omega arith) (omega arith) in
    rw (ne_eqb row.0 later (λ e. absurd (omega (arith, here)))) (passes rows at bin later (λ i lt inside. before (suc i) (omega arith) (omega arith)) le)

module _ (rows : List (ℕ × ℕ)) (ascending : IsAscendingFrom 0 rows) (bin at : ℕ) (inside : at ≤ length rows) where
  -- the rest of the rows, as a range of them
  rest_is : take (length rows - at) (drop at rows) ≡ drop at rows
  rest_is = take_all (length rows - at) (drop at rows) (omega (arith, length-drop at rows))

  module _ (lt : at < length rows) (equal : IsBinarySearchResult (λ row. nat_cmp row.0 bin) rows (Ok at)) where
    bin_is : (get_or rows at (0, 0)).0 ≡ bin
    bin_is = ranked _ bin _ (sym (equal (0, 0)))

    pub ascends_from_found : IsAscendingFrom bin (take (length rows - at) (drop at rows))
    ascends_from_found = rw rest_is (from_at rows at 0 bin ascending (λ _. omega (arith, bin_is)))

    pub same_from_found : (later : ℕ) → bin ≤ later → count_in (take (length rows - at) (drop at rows)) later ≡ count_in rows later
    same_from_found later le = rw rest_is (passes rows at bin later (λ i before within. let less = rows_climb rows 0 i at ascending before lt in omega (arith, less, bin_is)) le)

  module _ (parted : IsBinarySearchResult (λ row. nat_cmp row.0 bin) rows (Err at)) where
    pub ascends_from_gap : IsAscendingFrom bin (take (length rows - at) (drop at rows))
    ascends_from_gap = rw rest_is (from_at rows at 0 bin ascending (λ lt. let greater : bin < (get_or rows at (0, 0)).0 = ranked _ bin _ (sym ((parted (comparisons_rise rows ascending bin)).1 at (0, 0) (omega arith) lt)) in omega arith))

    pub same_from_gap : (later : ℕ) → bin ≤ later → count_in (take (length rows - at) (drop at rows)) later ≡ count_in rows later
    same_from_gap later high = rw rest_is (passes rows at bin later (λ i before within. ranked _ bin _ (sym ((parted (comparisons_rise rows ascending bin)).0 i (0, 0) (omega arith) before))) high)
