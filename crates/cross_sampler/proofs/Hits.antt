-- The counts of a cross's bins at one more sample.
use Rattle.std.proofs.Common.{◌≡◌, ℕ, zero, suc, ◌+◌, ◌-◌, ◌^◌, ◌<◌, ◌≤◌, List, [], ◌∷◌, ◌++◌, length, get_or, take, Bool, true, false, cond, Some, refl, ap, sym, subst, ◌∙◌, inl, inr, arith}
use Rattle.std.specs.Prelude.{◌==◌, ◌&&◌, not, slice_get}
use Rattle.std.specs.List.{All, range_with_len}
use Rattle.std.specs.Global.{Vec}
use Rattle.std.proofs.lemmas.Bool.{or_cases, or_left, ne_eqb, eqb-true, eq-eqb, false≢true, true≢false}
use Rattle.std.proofs.lemmas.List.{length-map, get_or_default, take_more, append-nil}
use Rattle.std.proofs.lemmas.Grind.{flat_map-append}
use Rattle.std.proofs.lemmas.List.FromFn.{length-range_with_len, get_or-range_with_len}
use Rattle.std.proofs.lemmas.List.Folds.{list_any_at}
use Rattle.std.proofs.lemmas.Option.{slice_get_within}
use Rattle.cov_spec.specs.Number.{Number}
use Rattle.cov_counting.proofs.Counts.{number_more, number_same, number_most}
use Rattle.design_data.specs.declared.infos.ItemInfo.{ItemInfo}
use Rattle.design_data.specs.declared.infos.BinInfo.{BinInfo}
use Rattle.design_data.specs.Bins.{size_of, sizes_of}
use Rattle.design_data.specs.Crosses.{IsProduct, has}
use Rattle.record_codec.specs.Samples.{Env}
use Rattle.cov_counting.specs.Hits.{holds}
use Rattle.cov_counting.specs.Crosses.{AllHitAt, CrossHitAt}
use Rattle.cross_sampler.specs.declared.state.CrossState.{CrossState}
use Rattle.cross_sampler.specs.Once.{is_among, bit, Once, HasRoom, IsOutside, guard_of, guard_at}
use Rattle.cross_sampler.specs.Numbers.{number_of, product_at, numbers_of, row_at, hits_of, IsMade}
use Rattle.cross_sampler.specs.Plans.{bin_has, has_at, bins_with}
use Rattle.cross_sampler.specs.Standing.{IsSample, AreHit, CrossCounted, CrossStands, Taken, Raises, visited, hit_bins}
use Rattle.cross_sampler.proofs.Among.{among_contains, contains_among, from_filter, to_filter, from_flat, to_flat, from_numbers, to_numbers}
use Rattle.cross_sampler.proofs.Radix.{product_back}
use Rattle.cross_sampler.proofs.Bins.{bins_below}
use Rattle.cross_sampler.proofs.Marks.{once_next}

module _ (items : List ItemInfo) (rows : List (Vec ℕ)) (all : List Env) (k : ℕ) where
  all_hit : (axes product : List ℕ) → AreHit items axes rows all k → IsMade (hits_of rows axes) product → AllHitAt items axes product all k
  all_hit [] product h made = tt
  all_hit (axis ∷ axes) [] h made = absurd made
  all_hit (axis ∷ axes) (bin ∷ product) h made = ((h.0 bin).0 (among_contains bin (row_at rows axis) made.0), all_hit axes product h.1 made.1)

  all_made : (axes product : List ℕ) → AreHit items axes rows all k → IsProduct (sizes_of items axes) product → AllHitAt items axes product all k → IsMade (hits_of rows axes) product
  all_made [] [] h p hit = tt
  all_made [] (bin ∷ product) h p hit = absurd p
  all_made (axis ∷ axes) [] h p hit = absurd hit
  all_made (axis ∷ axes) (bin ∷ product) h p hit = (contains_among bin (row_at rows axis) ((h.0 bin).1 hit.0), all_made axes product h.1 p.1 hit.1)

among_zero : (m : ℕ) → is_among m (0 ∷ []) ≡ true → m ≡ 0
among_zero m e = elim (or_cases (0 == m) false e) [
  | inl same ↦ sym (eqb-true 0 m same)
  | inr none ↦ absurd (false≢true none)
]

among_range : (n b : ℕ) → b < n → is_among b (range_with_len 0 n) ≡ true
among_range n b lt =
    let at : get_or (range_with_len 0 n) b 0 ≡ 0 + b = get_or-range_with_len 0 n b 0 lt in
    list_any_at (λ (x : ℕ). x == b) (range_with_len 0 n) b 0 (omega (arith, lt, length-range_with_len 0 n)) (eq-eqb (get_or (range_with_len 0 n) b 0) b (omega (arith, at)))

-- ---- a sample at which no bin is hit

pub none_counted : (items : List ItemInfo) (item : ItemInfo) (axes : List ℕ) (all : List Env) (m : ℕ) (counts : List ℕ) → ((bin : BinInfo) → CrossHitAt items item axes bin all m → ⊥)
    → CrossCounted items item axes all m counts → CrossCounted items item axes all (m + 1) counts
none_counted items item axes all m counts unhit h = λ b bin at. number_same (CrossHitAt items item axes bin all) m (get_or counts (item.first_bin + b) 0) (h b bin at) (unhit bin)

-- ---- a sample at which the cross's guard is true

module _ (items : List ItemInfo) (item : ItemInfo) (axes : List ℕ) (all : List Env) (m : ℕ) (env : Env) (rows : List (Vec ℕ)) (sizes : List ℕ)
    (are_sizes : sizes ≡ sizes_of items axes) (sample : IsSample all m env) (guarded : holds item.guard env ≡ true) (are_hit : AreHit items axes rows all m) where
  abbrev hit : List ℕ
  hit = hit_bins item.bins sizes rows axes

  aligned : length (hits_of rows axes) ≡ length sizes
  aligned = length-map axes (row_at rows) ∙ sym (ap length are_sizes ∙ length-map axes (λ (axis : ℕ). size_of (slice_get items axis)))

  module _ (b : ℕ) (bin : BinInfo) (at : slice_get item.bins b ≡ Some bin) where
    guard_is : guard_at item.bins env b ≡ holds bin.guard env
    guard_is = ap (guard_of env) at

    has_is : (product : List ℕ) → has_at item.bins product b ≡ has item.bins bin.kind bin.rule product
    has_is product = ap (bin_has item.bins product) at

    there : is_among b hit ≡ true → guard_at item.bins env b ≡ true → CrossHitAt items item axes bin all m
    there e g =
        let x = from_flat (λ (n : ℕ). bins_with item.bins (product_at sizes n) (length item.bins)) b (numbers_of (0 ∷ []) sizes (hits_of rows axes)) e in
        let y = from_numbers x.0 (0 ∷ []) sizes (hits_of rows axes) aligned x.1 in
        let is : x.0 ≡ number_of 0 sizes y.1 = y.5 ∙ ap (λ (z : ℕ). number_of z sizes y.1) (among_zero y.0 y.2) in
        let back : product_at sizes x.0 ≡ y.1 = ap (product_at sizes) is ∙ product_back sizes y.1 y.4 in
        let own = from_filter (has_at item.bins (product_at sizes x.0)) b (range_with_len 0 (length item.bins)) x.2 in
        record {
          guarded = ap (holds item.guard) sample.is ∙ guarded;
          bin_guarded = ap (holds bin.guard) sample.is ∙ sym guard_is ∙ g;
          product = y.1;
          is_product = subst (λ (ss : List ℕ). IsProduct ss y.1) are_sizes y.4;
          is_own = sym (has_is y.1) ∙ ap (λ (p : List ℕ). has_at item.bins p b) (sym back) ∙ own.1;
          members = all_hit items rows all m axes y.1 are_hit y.3;
        }

    back : CrossHitAt items item axes bin all m → (is_among b hit ≡ true) × (guard_at item.bins env b ≡ true)
    back h =
        let p : IsProduct sizes h.product = subst (λ (ss : List ℕ). IsProduct ss h.product) (sym are_sizes) h.is_product in
        let made : IsMade (hits_of rows axes) h.product = all_made items rows all m axes h.product are_hit h.is_product h.members in
        let number : ℕ = number_of 0 sizes h.product in
        let own : has_at item.bins (product_at sizes number) b ≡ true = ap (λ (q : List ℕ). has_at item.bins q b) (product_back sizes h.product p) ∙ has_is h.product ∙ h.is_own in (
          to_flat (λ (n : ℕ). bins_with item.bins (product_at sizes n) (length item.bins)) b (numbers_of (0 ∷ []) sizes (hits_of rows axes)) number
              (to_numbers (0 ∷ []) sizes (hits_of rows axes) 0 h.product aligned refl made p)
              (to_filter (has_at item.bins (product_at sizes number)) b (range_with_len 0 (length item.bins)) (among_range (length item.bins) b (slice_get_within item.bins b bin at)) own),
          guard_is ∙ sym (ap (holds bin.guard) sample.is) ∙ h.bin_guarded,
        )

    plain : (count : ℕ) → Number (CrossHitAt items item axes bin all) (m + 1) count → Number (CrossHitAt items item axes bin all) (m + 1) (count + 0)
    plain count n = let e : count ≡ count + 0 = omega arith in subst (Number (CrossHitAt items item axes bin all) (m + 1)) e n

    rises : (old mark count : ℕ) → (old ≡ mark → ⊥) → Number (CrossHitAt items item axes bin all) m count
        → Number (CrossHitAt items item axes bin all) (m + 1) (count + bit (is_among b hit && (not (old == mark) && guard_at item.bins env b)))
    rises old mark count ne h = by (is_among b hit) (guard_at item.bins env b) refl refl
      where
        by : (x y : Bool) → is_among b hit ≡ x → guard_at item.bins env b ≡ y → Number (CrossHitAt items item axes bin all) (m + 1) (count + bit (is_among b hit && (not (old == mark) && guard_at item.bins env b)))
        by true true ex ey = rw (ex, ne_eqb old mark ne, ey) (number_more (CrossHitAt items item axes bin all) m count h (there ex ey))
        by true false ex ey = rw (ex, ne_eqb old mark ne, ey) (plain count (number_same (CrossHitAt items item axes bin all) m count h (λ hit_here. true≢false (sym (back hit_here).1 ∙ ey))))
        by false y ex ey = rw ex (plain count (number_same (CrossHitAt items item axes bin all) m count h (λ hit_here. true≢false (sym (back hit_here).0 ∙ ex))))

  pub room : (stamps counts : List ℕ) → length stamps ≡ length item.bins → CrossCounted items item axes all m counts → HasRoom item.first_bin (m + 1) stamps counts
  room stamps counts len h = λ b lt ne.
      let found = some_at item.bins b (omega (arith, lt, len)) in
      let most : get_or counts (item.first_bin + b) 0 ≤ m = number_most (CrossHitAt items item axes found.0 all) m (get_or counts (item.first_bin + b) 0) (h b found.0 found.1) in
      omega (arith, most, sample.few)
    where
      some_at : (bins : List BinInfo) (b : ℕ) → b < length bins → (bin : BinInfo) × (slice_get bins b ≡ Some bin)
      some_at [] b lt = absurd (omega (arith, lt))
      some_at (bin ∷ bins) zero lt = (bin, refl)
      some_at (bin ∷ bins) (suc b) lt = some_at bins b (omega (arith, lt))

  pub next : (old new : CrossState) (old_counts new_counts : List ℕ) → length old.stamps.items ≡ length item.bins → new.samples ≡ m + 1
      → Raises item.bins item.first_bin env (m + 1) hit old.stamps.items old_counts new.stamps.items new_counts
      → CrossStands items item axes all m old old_counts → Taken items item axes all m old_counts new new_counts
  next old new old_counts new_counts len samples raises h =
      let once : Once (guard_at item.bins env) item.first_bin (m + 1) hit old.stamps.items old_counts new.stamps.items new_counts = raises (room old.stamps.items old_counts len h.counted) in
      record {
        stands = record {
          samples = samples;
          marks = λ b d lt.
              let less : b < length old.stamps.items = omega (arith, lt, once.same_stamps) in
              mark_least (is_among b hit) (get_or old.stamps.items b 0) (get_or new.stamps.items b d) (h.marks b 0 less) (read new.stamps.items b d lt ∙ once.stamped b less);
          counted = λ b bin at.
              let less : b < length old.stamps.items = omega (arith, slice_get_within item.bins b bin at, len) in
              let old_mark : get_or old.stamps.items b 0 ≤ m = h.marks b 0 less in
              subst (λ (n : ℕ). Number (CrossHitAt items item axes bin all) (m + 1) n) (sym (once.at b less))
              (rises b bin at (get_or old.stamps.items b 0) (m + 1) (get_or old_counts (item.first_bin + b) 0) (λ e. absurd (omega (arith, e, old_mark))) (h.counted b bin at));
        };
        others = λ number o. once.others number (subst (λ (n : ℕ). IsOutside item.first_bin n number) (sym len) o);
      }
    where
      read : (xs : List ℕ) (b d : ℕ) → b < length xs → get_or xs b d ≡ get_or xs b 0
      read xs b d lt = get_or_default xs b d 0 lt

      mark_least : (t : Bool) (old_mark new_mark : ℕ) → old_mark ≤ m → new_mark ≡ cond t (m + 1) old_mark → new_mark ≤ m + 1
      mark_least true old_mark new_mark le e = omega (arith, e)
      mark_least false old_mark new_mark le e = omega (arith, e, le)

-- ---- a sample at which nothing of the cross is hit

pub idle : (items : List ItemInfo) (item : ItemInfo) (axes : List ℕ) (all : List Env) (m : ℕ) (old new : CrossState) (counts : List ℕ) → ((bin : BinInfo) → CrossHitAt items item axes bin all m → ⊥)
    → new.samples ≡ m + 1 → new.stamps.items ≡ old.stamps.items → CrossStands items item axes all m old counts → Taken items item axes all m counts new counts
idle items item axes all m old new counts unhit samples same h = record {
  stands = record {
    samples = samples;
    marks = subst (λ (stamps : List ℕ). All (λ stamp. stamp ≤ m + 1) stamps) (sym same) (λ b d lt. let le : get_or old.stamps.items b d ≤ m = h.marks b d lt in omega (arith, le));
    counted = none_counted items item axes all m counts unhit h.counted;
  };
  others = λ number o. refl;
}

-- the guard of the cross isn't true
pub unguarded : (items : List ItemInfo) (item : ItemInfo) (axes : List ℕ) (all : List Env) (m : ℕ) (env : Env) → IsSample all m env → holds item.guard env ≡ false → (bin : BinInfo) → CrossHitAt items item axes bin all m → ⊥
unguarded items item axes all m env sample off bin h = true≢false (sym h.guarded ∙ ap (holds item.guard) sample.is ∙ off)

-- where there are no products, none is hit
pub none_hit : (bins : List BinInfo) (sizes axes : List ℕ) (rows : List (Vec ℕ)) → length sizes ≡ length axes → ((product : List ℕ) → IsProduct sizes product → ⊥) → hit_bins bins sizes rows axes ≡ []
none_hit bins sizes axes rows len none = ap (visited bins sizes) (empty (numbers_of (0 ∷ []) sizes (hits_of rows axes)) (λ n e. none (from_numbers n (0 ∷ []) sizes (hits_of rows axes) (length-map axes (row_at rows) ∙ sym len) e).1 (from_numbers n (0 ∷ []) sizes (hits_of rows axes) (length-map axes (row_at rows) ∙ sym len) e).4))
  where
    empty : (xs : List ℕ) → ((n : ℕ) → is_among n xs ≡ true → ⊥) → xs ≡ []
    empty [] h = refl
    empty (x ∷ xs) h = absurd (h x (or_left (x == x) (is_among x xs) (eq-eqb x x refl)))

-- the sample is begun, and then the bins are raised
pub begun : (items : List ItemInfo) (item : ItemInfo) (axes : List ℕ) (all : List Env) (m : ℕ) (env : Env) (rows : List (Vec ℕ)) (sizes : List ℕ) (old mid new : CrossState) (old_counts new_counts : List ℕ)
    → sizes ≡ sizes_of items axes → IsSample all m env → holds item.guard env ≡ true → AreHit items axes rows all m → length old.stamps.items ≡ length item.bins
    → (old.samples < 2 ^ 32 - 1 → mid.samples ≡ old.samples + 1) → mid.stamps.items ≡ old.stamps.items → new.samples ≡ mid.samples
    → Raises item.bins item.first_bin env mid.samples (hit_bins item.bins sizes rows axes) mid.stamps.items old_counts new.stamps.items new_counts
    → CrossStands items item axes all m old old_counts → Taken items item axes all m old_counts new new_counts
begun items item axes all m env rows sizes old mid new old_counts new_counts are sample on hit_at len counted same kept raises h =
    let mark : mid.samples ≡ m + 1 = counted (omega (arith, h.samples, sample.few)) ∙ ap (λ (n : ℕ). n + 1) h.samples in
    next items item axes all m env rows sizes are sample on hit_at old new old_counts new_counts len (kept ∙ mark)
    (subst (λ (n : ℕ). Raises item.bins item.first_bin env n (hit_bins item.bins sizes rows axes) old.stamps.items old_counts new.stamps.items new_counts) mark
    (subst (λ (stamps : List ℕ). Raises item.bins item.first_bin env mid.samples (hit_bins item.bins sizes rows axes) stamps old_counts new.stamps.items new_counts) same raises)) h

-- the sample is begun, and the guard of the cross isn't true
pub begun_idle : (items : List ItemInfo) (item : ItemInfo) (axes : List ℕ) (all : List Env) (m : ℕ) (env : Env) (old mid : CrossState) (counts : List ℕ) → IsSample all m env → holds item.guard env ≡ false
    → (old.samples < 2 ^ 32 - 1 → mid.samples ≡ old.samples + 1) → mid.stamps.items ≡ old.stamps.items → CrossStands items item axes all m old counts → Taken items item axes all m counts mid counts
begun_idle items item axes all m env old mid counts sample off counted same h =
    idle items item axes all m old mid counts (unguarded items item axes all m env sample off) (counted (omega (arith, h.samples, sample.few)) ∙ ap (λ (n : ℕ). n + 1) h.samples) same h

-- ---- the products one by one

pub visited_more : (bins : List BinInfo) (sizes numbers : List ℕ) (i : ℕ) → i < length numbers
    → visited bins sizes (take (i + 1) numbers) ≡ visited bins sizes (take i numbers) ++ bins_with bins (product_at sizes (get_or numbers i 0)) (length bins)
visited_more bins sizes numbers i lt =
    ap (visited bins sizes) (take_more numbers i 0 lt) ∙ flat_map-append (λ (n : ℕ). bins_with bins (product_at sizes n) (length bins)) (take i numbers) (get_or numbers i 0 ∷ [])
    ∙ ap (λ (ys : List ℕ). visited bins sizes (take i numbers) ++ ys) (append-nil (bins_with bins (product_at sizes (get_or numbers i 0)) (length bins)))

pub raises_more : (bins : List BinInfo) (first : ℕ) (env : Env) (mark : ℕ) (sizes numbers : List ℕ) (i : ℕ) (raised s c s1 c1 s2 c2 : List ℕ) → i < length numbers → raised ≡ bins_with bins (product_at sizes (get_or numbers i 0)) (length bins)
    → Raises bins first env mark (visited bins sizes (take i numbers)) s c s1 c1 → Raises bins first env mark raised s1 c1 s2 c2 → Raises bins first env mark (visited bins sizes (take (i + 1) numbers)) s c s2 c2
raises_more bins first env mark sizes numbers i raised s c s1 c1 s2 c2 lt is h k =
    subst (λ (xs : List ℕ). Raises bins first env mark xs s c s2 c2) (sym (visited_more bins sizes numbers i lt))
    (once_next (guard_at bins env) first mark (visited bins sizes (take i numbers)) (bins_with bins (product_at sizes (get_or numbers i 0)) (length bins)) s c s1 c1 s2 c2 h
    (subst (λ (xs : List ℕ). Raises bins first env mark xs s1 c1 s2 c2) is k))

pub inside : (bins : List BinInfo) (product raised : List ℕ) (n : ℕ) → n ≡ length bins → raised ≡ bins_with bins product (length bins) → All (λ b. b < n) raised
inside bins product raised n len is = subst (λ (xs : List ℕ). All (λ b. b < n) xs) (sym is) (subst (λ (k : ℕ). All (λ b. b < k) (bins_with bins product (length bins))) (sym len) (bins_below bins product (length bins)))
