-- The instances at one more event.
use Rattle.std.proofs.Common.{◌≡◌, ◌⊎◌, Some, ℕ, zero, suc, ◌+◌, ◌-◌, ◌^◌, ◌<◌, ◌≤◌, List, [], ◌∷◌, ◌++◌, length, get_or, set, drop, Bool, true, false, cond, Option, None, refl, ap, sym, subst, ◌∙◌, inl, inr, arith, length-append, length-drop}
use Rattle.std.specs.Prelude.{ℤ, map, slice_get, ◌==◌}
use Rattle.std.specs.List.{range_with_len}
use Rattle.std.proofs.lemmas.Bool.{cases_lt, cases_order, ne_eqb, eq-eqb}
use Rattle.std.proofs.lemmas.Option.{slice_get_within}
use Rattle.std.proofs.lemmas.List.{ext_get_or, get_or_append_left, get_or-append-add, length-set, get_or-set_same, get_or-set_other}
use Rattle.std.proofs.lemmas.List.FromFn.{length-map-range_with_len, get_or-map-range_with_len}
use Rattle.design_data.specs.declared.infos.ItemInfo.{ItemInfo}
use Rattle.design_data.specs.declared.infos.ItemShape.{ItemShape}
use Rattle.record_codec.specs.declared.record.Record.{Record}
use Rattle.record_codec.specs.declared.record.SignalRow.{SignalRow}
use Rattle.record_codec.specs.declared.record.ArgRow.{ArgRow}
use Rattle.record_codec.specs.declared.record.Event.{Event}
use Rattle.record_codec.specs.declared.record.Event.TheVariants.{Set, Sample}
use Rattle.record_codec.specs.Samples.{Env, env_of, signal_at, arg_at, envs_after, args_of, samples_of}
use Rattle.sampler_plans.specs.declared.plan.ItemPlan.{ItemPlan}
use Rattle.sampler_plans.specs.declared.plan.InstPlan.{InstPlan}
use Rattle.sampler.specs.declared.instance.ItemState.{ItemState}
use Rattle.design_data.specs.declared.infos.InstInfo.{InstInfo}
use Rattle.sampler.specs.declared.instance.InstState.{InstState}
use Rattle.sampler.specs.Values.{Holds, Writes}
use Rattle.sampler.specs.Standing.{IsSample, AllStand, AllTaken, InstAt, InstTaken}
use Rattle.sampler.specs.Walking.{IsWork, InstFits, AllInstFit, WalkAt}
use Rattle.sampler.proofs.Items.{one_of, stands_kept, empty_list}

-- ---- the values at a sample

module _ (f g : ℕ → Option ℤ) (n m : ℕ) (values : List (Option ℤ)) where
  sized : length values ≡ n + m → ((s : ℕ) → s < n → get_or values s None ≡ f s) → ((k : ℕ) → k < m → get_or values (n + k) None ≡ g k) → values ≡ map f (range_with_len 0 n) ++ map g (range_with_len 0 m)
  sized len low high = ext_get_or None values (map f (range_with_len 0 n) ++ map g (range_with_len 0 m)) (len ∙ sym both) (λ i lt. go i (omega (arith, lt, len)) (cases_lt i n))
    where
      firsts : length (map f (range_with_len 0 n)) ≡ n
      firsts = length-map-range_with_len f 0 n

      lasts : length (map g (range_with_len 0 m)) ≡ m
      lasts = length-map-range_with_len g 0 m

      both : length (map f (range_with_len 0 n) ++ map g (range_with_len 0 m)) ≡ n + m
      both = omega (arith, length-append (map f (range_with_len 0 n)) (map g (range_with_len 0 m)), firsts, lasts)

      go : (i : ℕ) → i < n + m → (i < n) ⊎ (n ≤ i) → get_or values i None ≡ get_or (map f (range_with_len 0 n) ++ map g (range_with_len 0 m)) i None
      go i lt (inl less) = low i less ∙ sym (get_or_append_left (map f (range_with_len 0 n)) (map g (range_with_len 0 m)) None i (omega (arith, firsts, less)) ∙ get_or-map-range_with_len f 0 n i i None less (omega arith))
      go i lt (inr past) =
          let e : n + (i - n) ≡ i = omega (arith, past) in
          let h : get_or values (n + (i - n)) None ≡ g (i - n) = high (i - n) (omega (arith, lt, past)) in
          let at : length (map f (range_with_len 0 n)) + (i - n) ≡ i = omega (arith, firsts, past) in
          ap (λ (k : ℕ). get_or values k None) (sym e) ∙ h ∙ sym (ap (λ (k : ℕ). get_or (map f (range_with_len 0 n) ++ map g (range_with_len 0 m)) k None) (sym at)
          ∙ get_or-append-add (map f (range_with_len 0 n)) (map g (range_with_len 0 m)) (i - n) None ∙ get_or-map-range_with_len g 0 m (i - n) (i - n) None (omega (arith, lt, past)) (omega arith))

env_is : (rows : List SignalRow) (arg_rows : List ArgRow) (before : List Event) (args : List (Option ℕ)) (values : List (Option ℤ)) → length values ≡ 4112
    → ((s : ℕ) → s < 4096 → get_or values s None ≡ signal_at rows before s) → ((k : ℕ) → k < 16 → get_or values (4096 + k) None ≡ arg_at arg_rows args k) → values ≡ env_of rows arg_rows before args
unfolding env_of
env_is rows arg_rows before args values len low high = sized (signal_at rows before) (arg_at arg_rows args) 4096 16 values len low high

-- the values at a sample are those of the definition
sample_is : (rows : List SignalRow) (arg_rows : List ArgRow) (before : List Event) (args : List (Option ℕ)) (old new : List (Option ℤ)) → Holds rows before old → Writes arg_rows args old new 16 → new ≡ env_of rows arg_rows before args
sample_is rows arg_rows before args old new h w = env_is rows arg_rows before args new (w.same ∙ h.same) (λ s lt. w.below s lt ∙ h.at s lt) w.at

-- ---- the samples that are left

module _ {X : Type 0} where
  drop_head : (xs : List X) (m : ℕ) (y : X) (ys : List X) (d : X) → drop m xs ≡ y ∷ ys → (m < length xs) × (get_or xs m d ≡ y) × (drop (m + 1) xs ≡ ys)
  drop_head [] zero y ys d e = let n : length {A = X} [] ≡ length (y ∷ ys) = ap length e in absurd (omega (arith, n))
  drop_head [] (suc m) y ys d e = let n : length {A = X} [] ≡ length (y ∷ ys) = ap length e in absurd (omega (arith, n))
  drop_head (x ∷ xs) zero y ys d e = (omega arith, ap (λ (zs : List X). get_or zs 0 d) e, ap (λ (zs : List X). drop 1 zs) e)
  drop_head (x ∷ xs) (suc m) y ys d e = let r = drop_head xs m y ys d e in let lt : m < length xs = r.0 in (omega (arith, lt), r.1, (let n : suc m + 1 ≡ suc (m + 1) = omega arith in ap (λ (k : ℕ). drop k (x ∷ xs)) n) ∙ r.2)

module _ (r : Record) (j : ℕ) (items : List ItemInfo) (plans : List ItemPlan) (chosen : List ℕ) (before events : List Event) where
  abbrev rest : List Event → List Event → List Env
  rest past left = envs_after r.signals (args_of (slice_get r.instances j)) j past left

  pub at_set : (signal : ℕ) (bits : Option ℕ) (states : List ItemState) (counts : List ℕ) → InstAt r j items plans chosen before (Set signal bits ∷ events) states counts → InstAt r j items plans chosen (Set signal bits ∷ before) events states counts
  at_set signal bits states counts h = record { m = h.m; within = h.within; few = (let f : h.m ≤ length before = h.few in omega (arith, f)); left = h.left; stands = h.stands }

  module _ (sampled : ℕ) (args : List (Option ℕ)) where
    by_case : (b : Bool) → (sampled == j) ≡ b → rest before (Sample sampled args ∷ events)
        ≡ cond b (env_of r.signals (args_of (slice_get r.instances j)) before args ∷ rest (Sample sampled args ∷ before) events) (rest (Sample sampled args ∷ before) events)
    by_case b e = ap (λ (x : Bool). cond x (env_of r.signals (args_of (slice_get r.instances j)) before args ∷ rest (Sample sampled args ∷ before) events) (rest (Sample sampled args ∷ before) events)) e

    -- a sample of another instance, at which no count of this one changes
    pub at_other : (states : List ItemState) (counts : List ℕ) → (sampled ≡ j → ⊥) → InstAt r j items plans chosen before (Sample sampled args ∷ events) states counts
        → InstAt r j items plans chosen (Sample sampled args ∷ before) events states counts
    at_other states counts ne h = record { m = h.m; within = h.within; few = (let f : h.m ≤ length before = h.few in omega (arith, f)); left = h.left ∙ by_case false (ne_eqb sampled j ne); stands = h.stands }

  -- one of its own
  at_own : (args : List (Option ℕ)) (states new_states : List ItemState) (counts new_counts : List ℕ) → length before < 2 ^ 32 - 1
      → ((all : List Env) (m : ℕ) → IsSample all m (env_of r.signals (args_of (slice_get r.instances j)) before args) → AllStand items plans chosen all (λ shape. m) states counts → AllTaken items plans chosen all (λ shape. m + 1) counts new_states new_counts)
      → InstAt r j items plans chosen before (Sample j args ∷ events) states counts → InstTaken r j items plans chosen (Sample j args ∷ before) events counts new_states new_counts
  at_own args states new_states counts new_counts few step h =
      let head = drop_head (samples_of r j) h.m (env_of r.signals (args_of (slice_get r.instances j)) before args) (rest (Sample j args ∷ before) events) [] (h.left ∙ by_case j args true (eq-eqb j j refl)) in
      let f : h.m ≤ length before = h.few in
      let lt : h.m < length (samples_of r j) = head.0 in
      let taken = step (samples_of r j) h.m (record { within = lt; few = omega (arith, f, few); is = head.1 }) h.stands in
      record {
        at = record { m = h.m + 1; within = omega (arith, lt); few = omega (arith, f); left = head.2; stands = taken.stand };
        outside = taken.outside;
      }

  -- a sample of the instance
  pub at_sample : (args : List (Option ℕ)) (arg_rows : List ArgRow) (old new : List (Option ℤ)) (states new_states : List ItemState) (counts new_counts : List ℕ) → arg_rows ≡ args_of (slice_get r.instances j) → Writes arg_rows args old new 16 → length before < 2 ^ 32 - 1
      → ((all : List Env) (m : ℕ) → IsSample all m new → AllStand items plans chosen all (λ shape. m) states counts → AllTaken items plans chosen all (λ shape. m + 1) counts new_states new_counts)
      → Holds r.signals before old → InstAt r j items plans chosen before (Sample j args ∷ events) states counts → InstTaken r j items plans chosen (Sample j args ∷ before) events counts new_states new_counts
  at_sample args arg_rows old new states new_states counts new_counts are writes few step holds h =
      let env : new ≡ env_of r.signals (args_of (slice_get r.instances j)) before args = sample_is r.signals arg_rows before args old new holds writes ∙ ap (λ (rows : List ArgRow). env_of r.signals rows before args) are in
      at_own args states new_states counts new_counts few (λ all m sample stand. step all m (record { within = sample.within; few = sample.few; is = sample.is ∙ sym env }) stand) h

-- a sample where no item is taken along
pub at_none : (r : Record) (j : ℕ) (items : List ItemInfo) (plans : List ItemPlan) (chosen : List ℕ) (before events : List Event) (args : List (Option ℕ)) (states : List ItemState) (counts : List ℕ) → length chosen ≡ 0 → length before < 2 ^ 32 - 1
    → InstAt r j items plans chosen before (Sample j args ∷ events) states counts → InstTaken r j items plans chosen (Sample j args ∷ before) events counts states counts
at_none r j items plans chosen before events args states counts none few h =
    at_own r j items plans chosen before events args states states counts counts few
    (λ all m sample stand. record { stand = λ i k item p s c e f. absurd (omega (arith, slice_get_within chosen i k c, none)); outside = λ number o. refl }) h

-- the signals' values stay at a sample
pub holds_sample : (rows : List SignalRow) (before : List Event) (sampled : ℕ) (args : List (Option ℕ)) (arg_rows : List ArgRow) (old written new : List (Option ℤ)) → Writes arg_rows args old written 16 → Writes [] args written new 16
    → Holds rows before old → Holds rows (Sample sampled args ∷ before) new
holds_sample rows before sampled args arg_rows old written new writes clears h = record { same = clears.same ∙ writes.same ∙ h.same; at = λ s lt. clears.below s lt ∙ writes.below s lt ∙ h.at s lt; blank = λ k lt. clears.at k lt }

-- the same where there are no arguments
pub holds_bare : (rows : List SignalRow) (before : List Event) (sampled : ℕ) (args : List (Option ℕ)) (values : List (Option ℤ)) → Holds rows before values → Holds rows (Sample sampled args ∷ before) values
holds_bare rows before sampled args values h = record { same = h.same; at = h.at; blank = h.blank }

pub writes_none : (rows : List SignalRow) (before : List Event) (args : List (Option ℕ)) (arg_rows : List ArgRow) (values : List (Option ℤ)) → length arg_rows ≡ 0 → Holds rows before values → Writes arg_rows args values values 16
writes_none rows before args arg_rows values none h = subst (λ (xs : List ArgRow). Writes xs args values values 16) (sym (empty_list arg_rows none)) (record { same = refl; below = λ s lt. refl; at = λ k lt. h.blank k lt })

-- all events are taken
pub at_end : (r : Record) (j : ℕ) (items : List ItemInfo) (plans : List ItemPlan) (chosen : List ℕ) (before : List Event) (states : List ItemState) (counts : List ℕ) → InstAt r j items plans chosen before [] states counts
    → AllStand items plans chosen (samples_of r j) (λ shape. length (samples_of r j)) states counts
at_end r j items plans chosen before states counts h =
    let n : length (samples_of r j) - h.m ≡ 0 = sym (length-drop h.m (samples_of r j)) ∙ ap length h.left in
    let le : h.m ≤ length (samples_of r j) = h.within in
    let all : h.m ≡ length (samples_of r j) = omega (arith, n, le) in
    subst (λ (k : ℕ). AllStand items plans chosen (samples_of r j) (λ (shape : ItemShape). k) states counts) all h.stands

-- ---- all instances

-- what an instance keeps stays as it is where none of its counts change
pub inst_kept : (r : Record) (j : ℕ) (items : List ItemInfo) (plans : List ItemPlan) (chosen : List ℕ) (before events : List Event) (states : List ItemState) (old new : List ℕ)
    → ((k : ℕ) (item : ItemInfo) → slice_get items k ≡ Some item → (b : ℕ) → b < length item.bins → get_or new (item.first_bin + b) 0 ≡ get_or old (item.first_bin + b) 0)
    → InstAt r j items plans chosen before events states old → InstAt r j items plans chosen before events states new
inst_kept r j items plans chosen before events states old new same h = record {
  m = h.m;
  within = h.within;
  few = h.few;
  left = h.left;
  stands = λ i k item p s c e f. stands_kept items item (samples_of r j) h.m item.shape p (get_or states i s) old new (same k item e) (h.stands i k item p s c e f);
}

module _ (r : Record) (instances : List InstInfo) (plans : List InstPlan) (share : List (List ℕ)) (before events : List Event) where
  -- a signal is set
  pub walk_set : (signal : ℕ) (bits : Option ℕ) (old new : List (Option ℤ)) (start : List ℕ) (kept : List InstState) (counts : List ℕ) → (Holds r.signals before old → Holds r.signals (Set signal bits ∷ before) new)
      → WalkAt r instances plans share before (Set signal bits ∷ events) old start kept counts → WalkAt r instances plans share (Set signal bits ∷ before) events new start kept counts
  walk_set signal bits old new start kept counts step h = record {
    holds = step h.holds;
    outside = h.outside;
    each = λ j inst p chosen k e f g. at_set r j inst.items p.items chosen before events signal bits (get_or kept j k).states.items counts (h.each j inst p chosen k e f g);
  }

  -- a sample of no instance of the design
  pub walk_past : (sampled : ℕ) (args : List (Option ℕ)) (values : List (Option ℤ)) (start : List ℕ) (kept : List InstState) (counts : List ℕ) → length instances ≤ sampled
      → WalkAt r instances plans share before (Sample sampled args ∷ events) values start kept counts → WalkAt r instances plans share (Sample sampled args ∷ before) events values start kept counts
  walk_past sampled args values start kept counts past h = record {
    holds = record { same = h.holds.same; at = h.holds.at; blank = h.holds.blank };
    outside = h.outside;
    each = λ j inst p chosen k e f g. at_other r j inst.items p.items chosen before events sampled args (get_or kept j k).states.items counts (λ same. absurd (omega (arith, same, past, slice_get_within instances j inst e))) (h.each j inst p chosen k e f g);
  }

  -- a sample of an instance
  pub walk_sample : (at n : ℕ) (args : List (Option ℕ)) (inst : InstInfo) (p : InstPlan) (chosen : List ℕ) (old new : List (Option ℤ)) (start : List ℕ) (kept : List InstState) (state : InstState) (counts new_counts : List ℕ)
      → IsWork instances plans share n → slice_get instances at ≡ Some inst → slice_get plans at ≡ Some p → slice_get share at ≡ Some chosen → at < length kept
      → (Holds r.signals before old → Holds r.signals (Sample at args ∷ before) new)
      → (Holds r.signals before old → InstAt r at inst.items p.items chosen before (Sample at args ∷ events) (get_or kept at state).states.items counts
      → InstTaken r at inst.items p.items chosen (Sample at args ∷ before) events counts state.states.items new_counts)
      → WalkAt r instances plans share before (Sample at args ∷ events) old start kept counts → WalkAt r instances plans share (Sample at args ∷ before) events new start (set kept at state) new_counts
  walk_sample at n args inst p chosen old new start kept state counts new_counts work e f g inside holds step h = record {
    holds = holds h.holds;
    outside = λ number o. taken.outside number (λ k item own is. o at k inst chosen item e g own is) ∙ h.outside number o;
    each = λ j x q own k ej fj gj. each j x q own k ej fj gj (cases_order j at);
  }
    where
      taken : InstTaken r at inst.items p.items chosen (Sample at args ∷ before) events counts state.states.items new_counts
      taken = step h.holds (h.each at inst p chosen state e f g)

      -- another instance's counts stay
      stays : (j : ℕ) (x : InstInfo) → (j ≡ at → ⊥) → slice_get instances j ≡ Some x → (k : ℕ) (item : ItemInfo) → slice_get x.items k ≡ Some item → (b : ℕ) → b < length item.bins → get_or new_counts (item.first_bin + b) 0 ≡ get_or counts (item.first_bin + b) 0
      stays j x ne ej k item is b lt = taken.outside (item.first_bin + b) (λ l other own there. elim (work.apart j at k l x inst item other ne ej e is there) [
        | inl less ↦ inl (omega (arith, less, lt))
        | inr more ↦ inr (omega (arith, more))
      ])

      others : (j : ℕ) (x : InstInfo) (q : InstPlan) (own : List ℕ) (k : InstState) → (j ≡ at → ⊥) → slice_get instances j ≡ Some x → slice_get plans j ≡ Some q → slice_get share j ≡ Some own → InstAt r j x.items q.items own (Sample at args ∷ before) events (get_or (set kept at state) j k).states.items new_counts
      others j x q own k ne ej fj gj = subst (λ (y : InstState). InstAt r j x.items q.items own (Sample at args ∷ before) events y.states.items new_counts) (sym (get_or-set_other kept at j state k ne))
          (inst_kept r j x.items q.items own (Sample at args ∷ before) events (get_or kept j k).states.items counts new_counts (stays j x ne ej)
          (at_other r j x.items q.items own before events at args (get_or kept j k).states.items counts (λ same. ne (sym same)) (h.each j x q own k ej fj gj)))

      same_parts : (j : ℕ) (x : InstInfo) (q : InstPlan) (own : List ℕ) → j ≡ at → slice_get instances j ≡ Some x → slice_get plans j ≡ Some q → slice_get share j ≡ Some own → InstAt r j x.items q.items own (Sample at args ∷ before) events state.states.items new_counts
      same_parts j x q own same ej fj gj =
          let ei : slice_get instances j ≡ Some inst = ap (λ (i : ℕ). slice_get instances i) same ∙ e in
          let fi : slice_get plans j ≡ Some p = ap (λ (i : ℕ). slice_get plans i) same ∙ f in
          let gi : slice_get share j ≡ Some chosen = ap (λ (i : ℕ). slice_get share i) same ∙ g in
          one_of (λ (y : InstInfo). InstAt r j y.items q.items own (Sample at args ∷ before) events state.states.items new_counts) instances j inst x ei ej
          (one_of (λ (y : InstPlan). InstAt r j inst.items y.items own (Sample at args ∷ before) events state.states.items new_counts) plans j p q fi fj
          (one_of (λ (y : List ℕ). InstAt r j inst.items p.items y (Sample at args ∷ before) events state.states.items new_counts) share j chosen own gi gj
          (subst (λ (i : ℕ). InstAt r i inst.items p.items chosen (Sample at args ∷ before) events state.states.items new_counts) (sym same) taken.at)))

      each : (j : ℕ) (x : InstInfo) (q : InstPlan) (own : List ℕ) (k : InstState) → slice_get instances j ≡ Some x → slice_get plans j ≡ Some q → slice_get share j ≡ Some own → (j ≡ at) ⊎ ((j < at) ⊎ (at < j)) → InstAt r j x.items q.items own (Sample at args ∷ before) events (get_or (set kept at state) j k).states.items new_counts
      each j x q own k ej fj gj (inl same) =
          let read : get_or (set kept at state) j k ≡ state = ap (λ (i : ℕ). get_or (set kept at state) i k) same ∙ get_or-set_same kept at state k inside in
          subst (λ (y : InstState). InstAt r j x.items q.items own (Sample at args ∷ before) events y.states.items new_counts) (sym read)
          (same_parts j x q own same ej fj gj)
      each j x q own k ej fj gj (inr (inl less)) = others j x q own k (λ same. absurd (omega (arith, same, less))) ej fj gj
      each j x q own k ej fj gj (inr (inr more)) = others j x q own k (λ same. absurd (omega (arith, same, more))) ej fj gj

-- what one more instance keeps fits
pub inst_fits_more : (instances : List InstInfo) (plans : List InstPlan) (share : List (List ℕ)) (at : ℕ) (inst : InstInfo) (p : InstPlan) (chosen : List ℕ) (kept : List InstState) (state : InstState)
    → slice_get instances at ≡ Some inst → slice_get plans at ≡ Some p → slice_get share at ≡ Some chosen → InstFits inst.items p.items chosen state → AllInstFit instances plans share kept → AllInstFit instances plans share (set kept at state)
inst_fits_more instances plans share at inst p chosen kept state e f g fit h = record {
  same = length-set kept at state ∙ h.same;
  at = λ j x q own k ej fj gj. each j x q own k ej fj gj (cases_order j at);
}
  where
    others : (j : ℕ) (x : InstInfo) (q : InstPlan) (own : List ℕ) (k : InstState) → slice_get instances j ≡ Some x → slice_get plans j ≡ Some q → slice_get share j ≡ Some own → (j ≡ at → ⊥) → InstFits x.items q.items own (get_or (set kept at state) j k)
    others j x q own k ej fj gj ne = subst (InstFits x.items q.items own) (sym (get_or-set_other kept at j state k ne)) (h.at j x q own k ej fj gj)

    each : (j : ℕ) (x : InstInfo) (q : InstPlan) (own : List ℕ) (k : InstState) → slice_get instances j ≡ Some x → slice_get plans j ≡ Some q → slice_get share j ≡ Some own → (j ≡ at) ⊎ ((j < at) ⊎ (at < j)) → InstFits x.items q.items own (get_or (set kept at state) j k)
    each j x q own k ej fj gj (inl same) =
        let ei : slice_get instances j ≡ Some inst = ap (λ (i : ℕ). slice_get instances i) same ∙ e in
        let fi : slice_get plans j ≡ Some p = ap (λ (i : ℕ). slice_get plans i) same ∙ f in
        let gi : slice_get share j ≡ Some chosen = ap (λ (i : ℕ). slice_get share i) same ∙ g in
        let inside : at < length kept = omega (arith, h.same, slice_get_within instances at inst e) in
        let read : get_or (set kept at state) j k ≡ state = ap (λ (i : ℕ). get_or (set kept at state) i k) same ∙ get_or-set_same kept at state k inside in
        subst (InstFits x.items q.items own) (sym read)
        (one_of (λ (y : InstInfo). InstFits y.items q.items own state) instances j inst x ei ej
        (one_of (λ (y : InstPlan). InstFits inst.items y.items own state) plans j p q fi fj
        (one_of (λ (y : List ℕ). InstFits inst.items p.items y state) share j chosen own gi gj fit)))
    each j x q own k ej fj gj (inr (inl less)) = others j x q own k ej fj gj (λ same. absurd (omega (arith, same, less)))
    each j x q own k ej fj gj (inr (inr more)) = others j x q own k ej fj gj (λ same. absurd (omega (arith, same, more)))
