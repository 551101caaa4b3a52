-- Sums of counts, bin by bin.
use Rattle.std.proofs.Common.{◌≡◌, ◌∙◌, ℕ, ◌+◌, ◌*◌, ◌<◌, ◌≤◌, List, [], ◌∷◌, ◌++◌, length, map, refl, sym, ap, inl, inr, arith, length-append}
use Rattle.std.specs.Prelude.{slice_get, slice_index, ◌==◌, ◌^◌}
use Rattle.std.specs.List.{range_with_len}
use Rattle.std.proofs.lemmas.Bool.{cases_lt}
use Rattle.std.proofs.lemmas.List.{get_or-map, length-map}
use Rattle.std.proofs.lemmas.List.FromFn.{get_or-range_with_len, length-range_with_len, map-range_with_len_more}
use Rattle.std.proofs.lemmas.List.Sums.{sum_by-cons, sum_by-append}
use Rattle.design_data.specs.declared.design.Design.{Design}
use Rattle.record_codec.specs.declared.record.Record.{Record}
use Rattle.record_codec.specs.declared.record.SignalRow.{SignalRow}
use Rattle.record_codec.specs.declared.record.ArgRow.{ArgRow}
use Rattle.record_codec.specs.declared.record.Event.{Event}
use Rattle.record_codec.specs.declared.record.Event.TheVariants.{Set, Sample}
use Rattle.record_codec.specs.Samples.{envs_after, args_of, samples_of}
use Rattle.cov_counting.specs.Tallies.{Hit}
use Rattle.cov_counting.proofs.Bins.{bin_of}
use Rattle.cov_counting.proofs.Counts.{number_most}
use Rattle.cov_history.specs.declared.entry.Entry.{Entry}
use Rattle.cov_history.specs.declared.entry.Event.{Event as Change}
use Rattle.cov_history.specs.declared.entry.Event.TheVariants as change
use Rattle.cov_history.specs.Tallies.{tally}
use Rattle.cov_history.specs.History.{Test, tests_of, tests_in, tests_from, contents, hits, hits_of}
use Rattle.cov_history.specs.Steps.{admitted}
use Rattle.cov_history.specs.Sums.{plus, with_change, all_hits}
use Rattle.cov_history.proofs.Bools.{by_bool}
use Rattle.cov_history.proofs.Counting.{tally_of}
use Rattle.cov_history.proofs.Places.{past_is}

-- ---- a record hits a bin at most once a sample

few_envs : (signals : List SignalRow) (args : List ArgRow) (instance : ℕ) (before events : List Event) → length (envs_after signals args instance before events) ≤ length events
few_envs signals args instance before [] = omega arith
few_envs signals args instance before (Set signal value ∷ events) = let h = few_envs signals args instance (Set signal value ∷ before) events in omega (arith, h)
few_envs signals args instance before (Sample sampled values ∷ events) =
    let h = few_envs signals args instance (Sample sampled values ∷ before) events in
    by_bool (sampled == instance) (λ k. rw k (omega (arith, h))) (λ k. rw k (omega (arith, h)))

few_samples : (r : Record) (instance : ℕ) → length (samples_of r instance) ≤ length r.events
unfolding samples_of
few_samples r instance = few_envs r.signals (args_of (slice_get r.instances instance)) instance [] r.events

pub few_hits : (d : Design) (r : Record) (bin : ℕ) → hits d r bin ≤ 1048576
few_hits d r bin =
    let t = tally_of d r in
    elim (cases_lt bin d.bin_count) [
      | inl lt ↦
          let x = bin_of d bin lt in
          let most = number_most (Hit x.1.items x.2 x.3 (samples_of r x.0)) (length (samples_of r x.0)) (hits d r bin) (t.at x.0 x.1 x.2 x.3 bin x.4) in
          omega (arith, most, few_samples r x.0, r.within.event_count)
      | inr ge ↦ let past = past_is (tally d r) bin 0 (omega (arith, ge, t.same)) in omega (arith, past)
    ]

no_hits : (d : Design) (r : Record) (bin : ℕ) → d.bin_count ≤ bin → hits d r bin ≡ 0
no_hits d r bin ge = past_is (tally d r) bin 0 (omega (arith, ge, (tally_of d r).same))

-- ---- records together

few_together : (d : Design) (rs : List Record) (bin : ℕ) → hits_of d rs bin ≤ length rs * 1048576
few_together d [] bin = omega arith
few_together d (r ∷ rs) bin =
    let c = sum_by-cons (λ (x : Record). hits d x bin) r rs in
    let h = few_hits d r bin in
    let rest = few_together d rs bin in
    omega (arith, c, h, rest)

none_together : (d : Design) (rs : List Record) (bin : ℕ) → d.bin_count ≤ bin → hits_of d rs bin ≡ 0
none_together d [] bin ge = refl
none_together d (r ∷ rs) bin ge =
    let c = sum_by-cons (λ (x : Record). hits d x bin) r rs in
    let h = no_hits d r bin ge in
    let rest = none_together d rs bin ge in
    omega (arith, c, h, rest)

-- ---- lists of counts

listed : (f : ℕ → ℕ) (n bin : ℕ) → bin < n → slice_index (map f (range_with_len 0 n)) bin ≡ f bin
listed f n bin lt =
    let e : 0 + bin ≡ bin = omega arith in
    get_or-map f (range_with_len 0 n) bin 0 0 (omega (arith, lt, length-range_with_len 0 n)) ∙ ap f (get_or-range_with_len 0 n bin 0 lt ∙ e)

not_listed : (f : ℕ → ℕ) (n bin : ℕ) → n ≤ bin → slice_index (map f (range_with_len 0 n)) bin ≡ 0
not_listed f n bin ge = past_is (map f (range_with_len 0 n)) bin 0 (omega (arith, ge, length-map (range_with_len 0 n) f, length-range_with_len 0 n))

pub all_hits_at : (d : Design) (rs : List Record) (bin : ℕ) → slice_index (all_hits d rs) bin ≡ hits_of d rs bin
all_hits_at d rs bin = elim (cases_lt bin d.bin_count) [
  | inl lt ↦ listed (hits_of d rs) d.bin_count bin lt
  | inr ge ↦ not_listed (hits_of d rs) d.bin_count bin ge ∙ sym (none_together d rs bin ge)
]

pub all_hits_length : (d : Design) (rs : List Record) → length (all_hits d rs) ≡ d.bin_count
all_hits_length d rs = length-map (range_with_len 0 d.bin_count) (hits_of d rs) ∙ length-range_with_len 0 d.bin_count

map_same : (f g : ℕ → ℕ) → ((n : ℕ) → f n ≡ g n) → (xs : List ℕ) → map f xs ≡ map g xs
map_same f g same [] = refl
map_same f g same (x ∷ xs) = λ i. same x i ∷ map_same f g same xs i

plus_hits : (d : Design) (rs : List Record) (r : Record) → plus (all_hits d rs) (tally d r) ≡ all_hits d (rs ++ r ∷ [])
plus_hits d rs r =
    ap (λ (n : ℕ). map (λ bin. slice_index (all_hits d rs) bin + slice_index (tally d r) bin) (range_with_len 0 n)) (all_hits_length d rs)
    ∙ map_same (λ bin. slice_index (all_hits d rs) bin + slice_index (tally d r) bin) (hits_of d (rs ++ r ∷ [])) (λ bin. one bin) (range_with_len 0 d.bin_count)
  where
    one : (bin : ℕ) → slice_index (all_hits d rs) bin + slice_index (tally d r) bin ≡ hits_of d (rs ++ r ∷ []) bin
    one bin =
        let a = all_hits_at d rs bin in
        let s = sum_by-append (λ (x : Record). hits d x bin) rs (r ∷ []) in
        let c = sum_by-cons (λ (x : Record). hits d x bin) r [] in
        omega (arith, a, s, c)

append_none : {X : Type 0} (xs : List X) → xs ++ [] ≡ xs
append_none [] = refl
append_none (x ∷ xs) = ap (λ ys. x ∷ ys) (append_none xs)

pub change_hits : (d : Design) (rs : List Record) (e : Change) → with_change d (all_hits d rs) e ≡ all_hits d (rs ++ admitted e)
change_hits d rs (change.Admit r) = plus_hits d rs r
change_hits d rs (change.Exclude path) = ap (all_hits d) (sym (append_none rs))
change_hits d rs (change.Include path) = ap (all_hits d) (sym (append_none rs))
change_hits d rs (change.Revise revision) = ap (all_hits d) (sym (append_none rs))
change_hits d rs change.Stop = ap (all_hits d) (sym (append_none rs))

-- ---- a history has no more tests than entries

few_tests : (point : ℕ) (h : List Entry) → length (tests_from point h) ≤ length h
few_tests point [] = omega arith
few_tests point (e ∷ es) =
    let a = length-append (tests_in (point + 1) e.event) (tests_from (point + 1) es) in
    let one = at_most_one (point + 1) e.event in
    let rest = few_tests (point + 1) es in
    omega (arith, a, one, rest)
  where
    at_most_one : (p : ℕ) (c : Change) → length (tests_in p c) ≤ 1
    at_most_one p (change.Admit r) = omega arith
    at_most_one p (change.Exclude path) = omega arith
    at_most_one p (change.Include path) = omega arith
    at_most_one p (change.Revise revision) = omega arith
    at_most_one p change.Stop = omega arith

pub few_contents : (h : List Entry) → length (contents h) ≤ length h
few_contents h = let m = length-map (tests_of h) (λ (t : Test). t.content) in let t = few_tests 0 h in omega (arith, m, t)

pub has_room : (d : Design) (rs : List Record) (counts : List ℕ) → counts ≡ all_hits d rs → length rs < 2 ^ 32 → (bin : ℕ) → slice_index counts bin < 2 ^ 63
has_room d rs counts is few bin =
    let a = ap (λ (ns : List ℕ). slice_index ns bin) is ∙ all_hits_at d rs bin in
    let b = few_together d rs bin in
    omega (arith, a, b, few)

-- one number more
pub map_more : {X : Type 0} (f : ℕ → X) (n : ℕ) (old new : List X) (x : X) → old ≡ map f (range_with_len 0 n) → x ≡ f n → new ≡ old ++ x ∷ [] → new ≡ map f (range_with_len 0 (n + 1))
map_more f n old new x was is e =
    let m = map-range_with_len_more f 0 n n (omega arith) in
    e ∙ (λ i. was i ++ is i ∷ []) ∙ sym m
