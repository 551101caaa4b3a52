-- The greatest of the open gains so far.
use Rattle.std.proofs.Common.{◌≡◌, ℕ, ◌+◌, ◌<◌, ◌≤◌, List, length, refl, sym, ap, ◌∙◌, arith, inl, inr, Bool, true, false}
use Rattle.std.specs.Prelude.{slice_index, slice_index_or}
use Rattle.std.proofs.lemmas.Bool.{cases_lt}
use Rattle.tally.specs.declared.ranked.Ranked.{Ranked}
use Rattle.rank_report.specs.Steps.{open_gain, IsBestRow}

-- a row of the pairs before i
pub record Found (gains : List ℕ) (taken : List Bool) (i : ℕ) (row : Ranked) : Type 0 where
  pub inside : row.test < i
  pub is : row.gain ≡ open_gain gains taken row.test
  pub earliest : (index : ℕ) → index < row.test → open_gain gains taken index < row.gain

-- none of the pairs before i is greater, and the row is one of them unless its gain is 0
pub record Greatest (gains : List ℕ) (taken : List Bool) (i : ℕ) (row : Ranked) : Type 0 where
  pub bound : (index : ℕ) → index < i → open_gain gains taken index ≤ row.gain
  pub found : 0 < row.gain → Found gains taken i row

pub kept : (gains : List ℕ) (taken : List Bool) (i : ℕ) (row : Ranked) → Greatest gains taken i row → open_gain gains taken i ≤ row.gain → Greatest gains taken (i + 1) row
kept gains taken i row g le = record {
  bound = λ index lt. elim (cases_lt index i) [
    | inl before ↦ g.bound index before
    | inr after ↦ at_end index (omega arith)
  ];
  found = λ some. let f = g.found some in record { inside = omega (arith, f.inside); is = f.is; earliest = f.earliest };
}
  where
    at_end : (index : ℕ) → i ≡ index → open_gain gains taken index ≤ row.gain
    at_end index e = rw (sym e) le

pub replaced : (gains : List ℕ) (taken : List Bool) (i : ℕ) (old row : Ranked) → Greatest gains taken i old → row.test ≡ i → row.gain ≡ open_gain gains taken i → old.gain < row.gain → Greatest gains taken (i + 1) row
replaced gains taken i old row g at is above = record {
  bound = λ index lt. elim (cases_lt index i) [
    | inl before ↦ let le = g.bound index before in omega (arith, le)
    | inr after ↦ at_end index (omega arith)
  ];
  found = λ some. record {
    inside = omega arith;
    is = is ∙ ap (open_gain gains taken) (sym at);
    earliest = λ index lt. let le = g.bound index (omega arith) in omega (arith, le);
  };
}
  where
    at_end : (index : ℕ) → i ≡ index → open_gain gains taken index ≤ row.gain
    at_end index e = rw (sym e) (omega arith)

pub best_row : (gains : List ℕ) (taken : List Bool) (i : ℕ) (row : Ranked) → length gains ≤ i → i ≤ length gains → Greatest gains taken i row → 0 < row.gain → IsBestRow gains taken row
best_row gains taken i row low high g some = let f = g.found some in record {
  inside = omega (arith, f.inside);
  is = f.is;
  some = some;
  greatest = λ index lt. g.bound index (omega arith);
  earliest = f.earliest;
}

pub no_row : (gains : List ℕ) (taken : List Bool) (i : ℕ) (row : Ranked) → length gains ≤ i → Greatest gains taken i row → row.gain ≡ 0 → (index : ℕ) → index < length gains → open_gain gains taken index ≡ 0
no_row gains taken i row low g zero index lt = let le = g.bound index (omega arith) in omega (arith, le)

-- ---- one index

pub open_here : (gains : List ℕ) (taken : List Bool) (i : ℕ) → slice_index_or taken i false ≡ false → open_gain gains taken i ≡ slice_index gains i
open_here gains taken i e = rw e refl

pub taken_here : (gains : List ℕ) (taken : List Bool) (i : ℕ) → slice_index_or taken i false ≡ true → open_gain gains taken i ≡ 0
taken_here gains taken i e = rw e refl
