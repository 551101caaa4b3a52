-- The tally of a record under a design.
use Rattle.std.proofs.Common.{◌≡◌, ℕ, zero, suc, ◌+◌, ◌<◌, ◌≤◌, List, [], ◌∷◌, ◌++◌, length, map, sym, ap, ◌∙◌, arith, if◌then◌else◌}
use Rattle.std.specs.Prelude.{All, slice_index, slice_index_or, slice_get, ◌==◌}
use Rattle.std.specs.List.{flat_map, range_with_len}
use Rattle.std.proofs.lemmas.List.Elements.{All-cons}
use Rattle.std.proofs.lemmas.List.Sums.{count_by-le-length, sum_by-le}
use Rattle.std.proofs.lemmas.List.FromFn.{length-range_with_len}
use Rattle.std.proofs.Math.ListN.{get_or-eq_default}
use Rattle.tally.specs.Rows.{rows_from, count_in}
use Rattle.tally.proofs.RowLemmas.{count_in-rows_from, length-rows_from}
use Rattle.design_data.specs.declared.infos.ItemInfo.{ItemInfo}
use Rattle.design_data.specs.declared.infos.InstInfo.{InstInfo}
use Rattle.design_data.specs.declared.infos.GroupInfo.{GroupInfo}
use Rattle.design_data.specs.declared.infos.BinInfo.{BinInfo}
use Rattle.design_data.specs.declared.design.Design.{Design}
use Rattle.record_codec.specs.declared.record.Record.{Record}
use Rattle.record_codec.specs.declared.record.SignalRow.{SignalRow}
use Rattle.record_codec.specs.declared.record.ArgRow.{ArgRow}
use Rattle.record_codec.specs.declared.record.Event.{Event}
use Rattle.record_codec.specs.declared.record.Event.TheVariants.{Set, Sample}
use Rattle.record_codec.specs.Samples.{Env, samples_of, envs_after, args_of}
use Rattle.cov_counting.proofs.Bins.{one}
use Rattle.sampler.specs.Plans.{IsTallyOf}
use Rattle.cov_history.specs.Tallies.{shape_hit, count, instance_counts, group_counts, counts_from, tally}
use Rattle.cov_history.specs.History.{hits, hits_of, bins_hit}
use Rattle.cov_history.proofs.Bools.{by_bool}
use Rattle.cov_history.proofs.Counting.{tally_is}

pub rows_are : (d : Design) (r : Record) (rows : List (ℕ × ℕ)) → IsTallyOf d r rows → rows ≡ rows_from 0 (tally d r)
rows_are d r rows t = t.2 ∙ ap (rows_from 0) (one d r t.0 (tally d r) t.1 (tally_is d r).is)

pub length_is : (d : Design) (r : Record) → length (tally d r) ≡ d.bin_count
length_is d r = (tally_is d r).is.same

pub size_is : (d : Design) (r : Record) → length (rows_from 0 (tally d r)) ≡ bins_hit d r
size_is d r = length-rows_from 0 (tally d r)

pub counted : (d : Design) (r : Record) (bin : ℕ) → count_in (rows_from 0 (tally d r)) bin ≡ hits d r bin
counted d r bin = let e : 0 + bin ≡ bin = omega arith in ap (count_in (rows_from 0 (tally d r))) (sym e) ∙ count_in-rows_from 0 bin (tally d r)

-- ---- rows are of bins

rows_inside : (bin n : ℕ) (xs : List ℕ) → bin + length xs ≤ n → All (λ (row : ℕ × ℕ). row.0 < n) (rows_from bin xs)
rows_inside bin n [] few = λ i d below. absurd (omega (arith, below))
rows_inside bin n (x ∷ xs) few =
    let rest = rows_inside (bin + 1) n xs (omega (arith, few)) in
    by_bool (x == 0)
    (λ none. rw none rest)
    (λ some. rw some (All-cons (λ (row : ℕ × ℕ). row.0 < n) (bin, x) (rows_from (bin + 1) xs) (omega (arith, few)) rest))

pub all_inside : (d : Design) (r : Record) → All (λ (row : ℕ × ℕ). row.0 < d.bin_count) (rows_from 0 (tally d r))
all_inside d r = rows_inside 0 d.bin_count (tally d r) (omega (arith, length_is d r))

-- ---- counts are at most one an event

le_append : (n : ℕ) (xs ys : List ℕ) → ((i : ℕ) → slice_index xs i ≤ n) → ((i : ℕ) → slice_index ys i ≤ n) → (i : ℕ) → slice_index (xs ++ ys) i ≤ n
le_append n [] ys x y i = y i
le_append n (z ∷ xs) ys x y zero = x 0
le_append n (z ∷ xs) ys x y (suc i) = le_append n xs ys (λ j. x (suc j)) y i

le_map : {A : Type 0} (n : ℕ) (f : A → ℕ) (xs : List A) → ((x : A) → f x ≤ n) → (i : ℕ) → slice_index (map f xs) i ≤ n
le_map n f [] few i = omega arith
le_map n f (x ∷ xs) few zero = few x
le_map n f (x ∷ xs) few (suc i) = le_map n f xs few i

le_flat : {A : Type 0} (n : ℕ) (f : A → List ℕ) (xs : List A) → ((x : A) (i : ℕ) → slice_index (f x) i ≤ n) → (i : ℕ) → slice_index (flat_map f xs) i ≤ n
le_flat n f [] few i = omega arith
le_flat n f (x ∷ xs) few i = le_append n (f x) (flat_map f xs) (few x) (le_flat n f xs few) i

envs_few : (rows : List SignalRow) (args : List ArgRow) (instance : ℕ) (before events : List Event) → length (envs_after rows args instance before events) ≤ length events
envs_few rows args instance before [] = omega arith
envs_few rows args instance before (Set signal value ∷ events) = let rest = envs_few rows args instance (Set signal value ∷ before) events in omega (arith, rest)
envs_few rows args instance before (Sample sampled values ∷ events) =
    let rest = envs_few rows args instance (Sample sampled values ∷ before) events in
    by_bool (sampled == instance)
    (λ yes. rw yes (omega (arith, rest)))
    (λ no. rw no (omega (arith, rest)))

samples_few : (r : Record) (instance : ℕ) → length (samples_of r instance) ≤ 1048576
unfolding samples_of
samples_few r instance = let few = envs_few r.signals (args_of (slice_get r.instances instance)) instance [] r.events in omega (arith, few, r.within.event_count)

count_few : (items : List ItemInfo) (item : ItemInfo) (all : List Env) (n : ℕ) → length all ≤ n → (bin : BinInfo) → count items item all bin ≤ n
count_few items item all n few bin =
    let a = count_by-le-length (shape_hit items item item.shape bin all) (range_with_len 0 (length all)) in
    let b = length-range_with_len 0 (length all) in
    omega (arith, a, b, few)

instance_few : (r : Record) (instance : ℕ) (inst : InstInfo) (i : ℕ) → slice_index (instance_counts r instance inst) i ≤ 1048576
instance_few r instance inst = le_flat 1048576 (λ item. map (count inst.items item (samples_of r instance)) item.bins) inst.items (λ item. le_map 1048576 (count inst.items item (samples_of r instance)) item.bins (count_few inst.items item (samples_of r instance) 1048576 (samples_few r instance)))

group_few : (r : Record) (place : ℕ) (insts : List InstInfo) (group i : ℕ) → slice_index (group_counts r place insts group) i ≤ 1048576
group_few r place [] group i = omega arith
group_few r place (inst ∷ insts) group i =
    le_append 1048576 (if inst.group == group then instance_counts r place inst else []) (group_counts r (place + 1) insts group)
    (by_bool (inst.group == group) (λ yes. rw yes (instance_few r place inst)) (λ no. rw no (λ i. omega arith)))
    (group_few r (place + 1) insts group) i

groups_few : (r : Record) (instances : List InstInfo) (group : ℕ) (groups : List GroupInfo) (i : ℕ) → slice_index (counts_from r instances group groups) i ≤ 1048576
groups_few r instances group [] i = omega arith
groups_few r instances group (info ∷ groups) i = le_append 1048576 (group_counts r 0 instances group) (counts_from r instances (group + 1) groups) (group_few r 0 instances group) (groups_few r instances (group + 1) groups) i

pub hits_few : (d : Design) (r : Record) (bin : ℕ) → hits d r bin ≤ 1048576
unfolding tally
hits_few d r bin = groups_few r d.instances 0 d.groups bin

pub sum_few : (d : Design) (rs : List Record) (bin : ℕ) → length rs ≤ 4096 → hits_of d rs bin ≤ 4294967296
sum_few d rs bin few =
    let s = sum_by-le (λ (r : Record). hits d r bin) 1048576 rs (λ i x below. hits_few d (slice_index_or rs i x) bin) in
    omega (arith, s, few)

pub no_hits : (d : Design) (r : Record) (bin : ℕ) → d.bin_count ≤ bin → hits d r bin ≡ 0
no_hits d r bin past = get_or-eq_default (tally d r) 0 (omega (arith, past, length_is d r))
