-- Sums over records, and one record more.
use Rattle.std.proofs.Common.{◌≡◌, inl, inr, ℕ, zero, suc, ◌+◌, ◌*◌, ◌<◌, ◌≤◌, ◌^◌, List, [], ◌∷◌, ◌++◌, length, map, take, replicate, get_or, refl, sym, ap, subst, ◌∙◌, arith}
use Rattle.std.specs.Prelude.{All, slice_index, sum_by, nat_lt}
use Rattle.std.specs.Arc.{arc_value}
use Rattle.std.specs.declared.sync.Arc.{Arc}
use Rattle.std.specs.declared.alloc.Global.{Global}
use Rattle.std.proofs.lemmas.Bool.{cases_lt}
use Rattle.std.proofs.lemmas.List.{take_more, length-replicate, length-map}
use Rattle.std.proofs.lemmas.List.Sums.{sum_by-cons, sum_by_push, count_by-le-length}
use Rattle.std.proofs.Math.ListN.{get_or-eq_default}
use Rattle.cov_ground.specs.Limits.{most_design_bins}
use Rattle.tally.specs.Rows.{rows_from, count_in, Adds, HasRoom}
use Rattle.tally.specs.declared.tally.Tally.{Tally}
use Rattle.design_data.specs.declared.design.Design.{Design}
use Rattle.record_codec.specs.declared.record.Record.{Record}
use Rattle.cov_history.specs.Tallies.{tally}
use Rattle.cov_history.specs.Sums.{all_hits}
use Rattle.cov_history.specs.History.{hits, hits_of, bins_hit}
use Rattle.cov_history.proofs.Summing.{few_hits, all_hits_at, all_hits_length}
use Rattle.store_core.specs.Rebins.{AreSums, tallies_of}
use Rattle.store_core.proofs.Tallied.{length_is, size_is, counted, all_inside}

-- ---- lists by place

element : {A : Type 0} (xs : List A) (i : ℕ) → i < length xs → (x : A) × (x ≡ get_or xs i x)
element [] i below = absurd (omega (arith, below))
element (x ∷ xs) zero below = (x, refl)
element (x ∷ xs) (suc i) below = element xs i (omega (arith, below))

-- what stands there in a mapped list
mapped : {A B : Type 0} (f : A → B) (xs : List A) (i : ℕ) (x : A) (y : B) → i < length xs → x ≡ get_or xs i x → y ≡ get_or (map f xs) i y → y ≡ f x
mapped f [] i x y below e g = absurd (omega (arith, below))
mapped f (z ∷ xs) zero x y below e g = g ∙ ap f (sym e)
mapped f (z ∷ xs) (suc i) x y below e g = mapped f xs i x y (omega (arith, below)) e g

-- ---- bounds

few_together : (d : Design) (rs : List Record) (bin : ℕ) → hits_of d rs bin ≤ length rs * 1048576
few_together d [] bin = omega arith
few_together d (r ∷ rs) bin =
    let c = sum_by-cons (λ (x : Record). hits d x bin) r rs in
    let h = few_hits d r bin in
    let rest = few_together d rs bin in
    omega (arith, c, h, rest)

no_hits : (d : Design) (r : Record) (bin : ℕ) → d.bin_count ≤ bin → hits d r bin ≡ 0
no_hits d r bin past = get_or-eq_default (tally d r) 0 (omega (arith, past, length_is d r))

take_short : {A : Type 0} (i : ℕ) (xs : List A) → length (take i xs) ≤ length xs
take_short zero xs = omega arith
take_short (suc i) [] = omega arith
take_short (suc i) (x ∷ xs) = let rest = take_short i xs in omega (arith, rest)

-- ---- sums

none_at : (n i : ℕ) → slice_index (replicate n 0) i ≡ 0
none_at zero i = refl
none_at (suc n) zero = refl
none_at (suc n) (suc i) = none_at n i

pub no_sums : (d : Design) (rs : List Record) (counts : List ℕ) → counts ≡ replicate d.bin_count 0 → AreSums d (take 0 rs) counts
no_sums d rs counts e = record {
  same_len = ap length e ∙ length-replicate d.bin_count 0;
  at = λ bin. ap (λ (xs : List ℕ). slice_index xs bin) e ∙ none_at d.bin_count bin;
}

module _ (d : Design) (rs : List Record) (ts : List (List (ℕ × ℕ))) (i : ℕ) (t : List (ℕ × ℕ)) (same : ts ≡ tallies_of d rs) (below : i < length ts) (is : t ≡ get_or ts i t) (counts : List ℕ) (sums : AreSums d (take i rs) counts) where
  inside : i < length rs
  inside = let e = ap length same ∙ length-map rs (λ (r : Record). rows_from 0 (tally d r)) in omega (arith, below, e)

  content : Record
  content = (element rs i inside).0

  is_content : content ≡ get_or rs i content
  unfolding content
  is_content = (element rs i inside).1

  is_tally : t ≡ rows_from 0 (tally d content)
  is_tally = mapped (λ (r : Record). rows_from 0 (tally d r)) rs i content t inside is_content (is ∙ ap (λ (xs : List (List (ℕ × ℕ))). get_or xs i t) same)

  pub row_inside : All (λ (row : ℕ × ℕ). row.0 < length counts) t
  row_inside = subst (λ (n : ℕ). All (λ (row : ℕ × ℕ). row.0 < n) t) (sym sums.same_len) (subst (λ (rows : List (ℕ × ℕ)). All (λ (row : ℕ × ℕ). row.0 < d.bin_count) rows) (sym is_tally) (all_inside d content))

  pub row_room : length rs ≤ 4096 → HasRoom (count_in t) counts
  row_room few bin lt =
      let c : count_in t bin ≡ hits d content bin = ap (λ (rows : List (ℕ × ℕ)). count_in rows bin) is_tally ∙ counted d content bin in
      omega (arith, c, few, sums.at bin, few_together d (take i rs) bin, take_short i rs, few_hits d content bin)

  pub one_more : (new : List ℕ) → Adds (count_in t) counts new → AreSums d (take (i + 1) rs) new
  one_more new adds =
      let more : take (i + 1) rs ≡ take i rs ++ content ∷ [] = take_more rs i content inside ∙ ap (λ (r : Record). take i rs ++ r ∷ []) (sym is_content) in
      record {
        same_len = adds.same ∙ sums.same_len;
        at = λ bin. at bin ∙ ap (λ (xs : List Record). hits_of d xs bin) (sym more);
      }
    where
      at : (bin : ℕ) → slice_index new bin ≡ hits_of d (take i rs ++ content ∷ []) bin
      at bin =
          let c : count_in t bin ≡ hits d content bin = ap (λ (rows : List (ℕ × ℕ)). count_in rows bin) is_tally ∙ counted d content bin in
          let s = sum_by_push (λ (r : Record). hits d r bin) (take i rs) content in
          elim (cases_lt bin (length counts)) [
            | inl lt ↦ omega (arith, adds.at bin lt, sums.at bin, c, s)
            | inr past ↦
                let a : slice_index counts bin ≡ 0 = get_or-eq_default counts 0 past in
                let b : slice_index new bin ≡ 0 = get_or-eq_default new 0 (omega (arith, past, adds.same)) in
                let n = no_hits d content bin (omega (arith, past, sums.same_len)) in
                omega (arith, a, b, n, s, sums.at bin)
          ]

take_whole : {A : Type 0} (xs : List A) → take (length xs) xs ≡ xs
take_whole [] = refl
take_whole (x ∷ xs) = ap (λ ys. x ∷ ys) (take_whole xs)

pub all_summed : (d : Design) (rs : List Record) (n : ℕ) (counts : List ℕ) → n ≡ length rs → AreSums d (take n rs) counts → AreSums d rs counts
all_summed d rs n counts e s = subst (λ (xs : List Record). AreSums d xs counts) (ap (λ (m : ℕ). take m rs) e ∙ take_whole rs) s

-- lists that are as long and agree at each place are the same
same_list : (xs ys : List ℕ) → length xs ≡ length ys → ((i : ℕ) → slice_index xs i ≡ slice_index ys i) → xs ≡ ys
same_list [] [] n at = refl
same_list [] (y ∷ ys) n at = absurd (omega (arith, n))
same_list (x ∷ xs) [] n at = absurd (omega (arith, n))
same_list (x ∷ xs) (y ∷ ys) n at = λ i. at 0 i ∷ same_list xs ys (omega (arith, n)) (λ k. at (suc k)) i

pub sums_are : (d : Design) (rs : List Record) (counts : List ℕ) → AreSums d rs counts → counts ≡ all_hits d rs
sums_are d rs counts s = same_list counts (all_hits d rs) (s.same_len ∙ sym (all_hits_length d rs)) (λ bin. s.at bin ∙ sym (all_hits_at d rs bin))

-- ---- rows of all tallies

pub rows_together : (d : Design) (rs : List Record) → sum_by (λ (rows : List (ℕ × ℕ)). length rows) (tallies_of d rs) ≡ sum_by (bins_hit d) rs
rows_together d [] = refl
rows_together d (r ∷ rs) =
    let a = sum_by-cons (λ (rows : List (ℕ × ℕ)). length rows) (rows_from 0 (tally d r)) (tallies_of d rs) in
    let b = sum_by-cons (bins_hit d) r rs in
    let s = size_is d r in
    let rest = rows_together d rs in
    omega (arith, a, b, s, rest)

-- ---- by place, of what is shared

pub shared_at : {A B : Type 0} (f : A → B) (xs : List A) (i : ℕ) (x : A) → i < length xs → x ≡ get_or xs i x → f x ≡ get_or (map f xs) i (f x)
shared_at f [] i x below e = absurd (omega (arith, below))
shared_at f (y ∷ ys) zero x below e = ap f e
shared_at f (y ∷ ys) (suc i) x below e = shared_at f ys i x (omega (arith, below)) e

pub sum_mapped : {A B : Type 0} (f : A → B) (g : B → ℕ) (xs : List A) → sum_by (λ (x : A). g (f x)) xs ≡ sum_by g (map f xs)
sum_mapped f g [] = refl
sum_mapped {A = A} f g (x ∷ xs) =
    let a = sum_by-cons (λ (y : A). g (f y)) x xs in
    let b = sum_by-cons g (f x) (map f xs) in
    let rest = sum_mapped f g xs in
    omega (arith, a, b, rest)

few_entries : (d : Design) (rs : List Record) → d.bin_count ≤ most_design_bins → sum_by (bins_hit d) rs ≤ length rs * most_design_bins
few_entries d [] few = omega arith
few_entries d (r ∷ rs) few =
    let c = sum_by-cons (bins_hit d) r rs in
    let h = count_by-le-length (nat_lt 0) (tally d r) in
    let l = length_is d r in
    let rest = few_entries d rs few in
    omega (arith, c, h, l, rest, few)

-- the rows of shared tallies together
pub entries_are : (d : Design) (rs : List Record) (tallies : List (Arc Tally Global)) → map (λ (x : Arc Tally Global). arc_value x) tallies ≡ tallies_of d rs → sum_by (λ (x : Arc Tally Global). length (arc_value x)) tallies ≡ sum_by (bins_hit d) rs
entries_are d rs tallies e = sum_mapped (λ (x : Arc Tally Global). arc_value x) (λ (rows : List (ℕ × ℕ)). length rows) tallies ∙ ap (sum_by (λ (rows : List (ℕ × ℕ)). length rows)) e ∙ rows_together d rs

pub entries_fit : (d : Design) (rs : List Record) (tallies : List (Arc Tally Global)) → map (λ (x : Arc Tally Global). arc_value x) tallies ≡ tallies_of d rs → length rs ≤ 4096 → sum_by (λ (x : Arc Tally Global). length (arc_value x)) tallies < 2 ^ 64
entries_fit d rs tallies e few =
    let most = few_entries d rs d.within.few_bins in
    let same = entries_are d rs tallies e in
    omega (arith, most, same, few)
