-- One more sample of a point.
use Rattle.std.proofs.Common.{◌≡◌, ◌⊎◌, ℕ, suc, ◌+◌, ◌≤◌, List, [], ◌∷◌, ◌++◌, length, take, Bool, true, false, Option, Some, None, refl, ap, sym, subst, ◌∙◌, inl, inr, arith, add-one}
use Rattle.std.specs.Prelude.{Contains, slice_get, slice_index, slice_index_or}
use Rattle.std.proofs.lemmas.Bool.{true≢false, cases_lt}
use Rattle.cov_counting.specs.Number.{Number}
use Rattle.cov_counting.specs.Number.Number.{none, yes, no}
use Rattle.const_eval.specs.Terms.{Term}
use Rattle.const_eval.specs.Values.{value}
use Rattle.design_data.specs.declared.infos.ItemInfo.{ItemInfo}
use Rattle.design_data.specs.declared.infos.BinInfo.{BinInfo}
use Rattle.design_data.specs.Bins.{is_coverage, coverage_bins}
use Rattle.design_data.specs.Laws.{Value}
use Rattle.record_codec.specs.Samples.{Env}
use Rattle.cov_counting.specs.Hits.{holds, trace, Meets, HitAt}
use Rattle.cov_counting.specs.Crosses.{SomeHitAt}
use Rattle.cov_counting.proofs.Hits.{trace_more, trace_same}
use Rattle.point_sampler.specs.declared.plan.PointPlan.{PointPlan}
use Rattle.point_sampler.specs.declared.state.PointState.{PointState}
use Rattle.point_sampler.specs.Points.{IsSample, Remembers, CountsStand, PointStands, RowStands}
use Rattle.point_sampler.specs.Met.{raised, IsOn, SomeMeets, ValueTaken}
use Rattle.point_tables.proofs.Places.{in_none}
use Rattle.point_sampler.proofs.Places.{in_cons, in_first, in_later}
use Rattle.point_tables.proofs.Bins.{same_bin}
use Rattle.point_sampler.proofs.Taking.{at_number, from_number}

-- ---- numbers

is_in : (xs : List ℕ) (y : ℕ) → Contains xs y ⊎ (Contains xs y → ⊥)
is_in [] y = inr (in_none y)
is_in (x ∷ xs) y = elim (is_in xs y) [
  | inl later ↦ inl (in_later x xs y later)
  | inr not_later ↦ elim (cases_lt x y) [
    | inl less ↦ inr (λ c. elim (in_cons x xs y c) [ inl e ↦ absurd (omega (arith, e, less)) | inr later ↦ not_later later ])
    | inr ge ↦ elim (cases_lt y x) [
      | inl more ↦ inr (λ c. elim (in_cons x xs y c) [ inl e ↦ absurd (omega (arith, e, more)) | inr later ↦ not_later later ])
      | inr le ↦ let e : x ≡ y = omega (arith, ge, le) in inl (subst (Contains (x ∷ xs)) e (in_first x xs))
    ]
  ]
]

module _ (P : ℕ → Type 0) where
  at_most : (n c : ℕ) → Number P n c → c ≤ n
  at_most n c none = omega arith
  at_most n c (yes {n = m} {c = less} h p) = omega (arith, at_most m less h)
  at_most n c (no {n = m} h not_here) = omega (arith, at_most m c h)

  number_yes : (n c : ℕ) → Number P n c → P n → Number P (n + 1) (c + 1)
  number_yes n c h p = subst (λ (k : ℕ). Number P k (c + 1)) (sym (add-one n)) (subst (λ (k : ℕ). Number P (suc n) k) (sym (add-one c)) (yes h p))

  number_no : (n c : ℕ) → Number P n c → (P n → ⊥) → Number P (n + 1) c
  number_no n c h p = subst (λ (k : ℕ). Number P k c) (sym (add-one n)) (no h p)

-- ---- a sample outside the trace

module _ (item : ItemInfo) (expr : Term) (plan : PointPlan) (all : List Env) (m : ℕ) (env : Env) (sample : IsSample all m env) where
  abbrev before : List Value
  before = trace expr item.guard (take m all)

  outside : holds item.guard env ≡ false → (bin : BinInfo) → HitAt item expr bin all m → ⊥
  outside off bin hit = true≢false (sym hit.in_trace ∙ ap (holds item.guard) sample.is ∙ off)

  pub stays : holds item.guard env ≡ false → (state : PointState) (counts : List ℕ) → PointStands item expr plan all m state counts → PointStands item expr plan all (m + 1) state counts
  stays off state counts h = record {
    remembers = subst (λ (w : List Value). Remembers plan state w) (sym (trace_same expr item.guard all m sample.within (ap (holds item.guard) sample.is ∙ off))) h.remembers;
    counted = λ k bin is. number_no (HitAt item expr bin all) m (slice_index counts (item.first_bin + k)) (h.counted k bin is) (outside off bin);
  }

  some_outside : holds item.guard env ≡ false → (o : Option BinInfo) → SomeHitAt item expr o all m → ⊥
  some_outside off None h = h
  some_outside off (Some bin) h = outside off bin h

  pub empty_row : holds item.guard env ≡ false → (row : List ℕ) → row ≡ [] → RowStands item expr all m row
  empty_row off row is = record {
    is = λ number. ((λ c. absurd (in_none number (subst (λ (r : List ℕ). Contains r number) is c))), (λ h. absurd (some_outside off (slice_get (coverage_bins item) number) h)));
    once = λ i j d lt within. absurd (omega (arith, within, ap (λ (r : List ℕ). length r) is));
  }

  -- ---- a sample in the trace

  module _ (v : Value) (is_value : v ≡ value expr env None) (guarded : holds item.guard env ≡ true) where
    pub remembered : (old new : PointState) → Remembers plan old before → ((w : List Value) → Remembers plan old w → Remembers plan new (w ++ v ∷ [])) → Remembers plan new (trace expr item.guard (take (m + 1) all))
    remembered old new h step =
        let e : before ++ v ∷ [] ≡ trace expr item.guard (take (m + 1) all) =
        ap (λ (x : Value). before ++ x ∷ []) (is_value ∙ ap (λ (s : Env). value expr s None) (sym sample.is)) ∙ sym (trace_more expr item.guard all m sample.within (ap (holds item.guard) sample.is ∙ guarded)) in
        subst (λ (w : List Value). Remembers plan new w) e (step before h)

    module _ (old new row : List ℕ) (t : ValueTaken item env before v old new row) where
      value_here : v ≡ value expr (slice_index_or all m []) None
      value_here = is_value ∙ ap (λ (s : Env). value expr s None) (sym sample.is)

      -- a bin is hit exactly where its place is among those met and its guard holds
      hit_from : (place : ℕ) (bin : BinInfo) → Contains t.met place → IsOn item.bins env place bin → HitAt item expr bin all m
      hit_from place bin c on = record {
        in_trace = ap (holds item.guard) sample.is ∙ guarded;
        guarded = ap (holds bin.guard) sample.is ∙ on.guarded;
        meets = subst (λ (x : Value). Meets item bin.kind bin.rule before x) value_here (subst (λ (o : Option BinInfo). SomeMeets item o before v) on.is_bin ((t.are_met place).0 c));
      }

      hit_met : (place : ℕ) (bin : BinInfo) → slice_get item.bins place ≡ Some bin → HitAt item expr bin all m → Contains t.met place
      hit_met place bin is hit = (t.are_met place).1 (subst (λ (o : Option BinInfo). SomeMeets item o before v) (sym is) (subst (λ (x : Value). Meets item bin.kind bin.rule before x) (sym value_here) hit.meets))

      hit_on : (place : ℕ) (bin : BinInfo) → slice_get item.bins place ≡ Some bin → HitAt item expr bin all m → IsOn item.bins env place bin
      hit_on place bin is hit = record { is_bin = is; guarded = sym (ap (holds bin.guard) sample.is) ∙ hit.guarded }

      unchanged : (k : ℕ) (bin : BinInfo) → slice_get item.bins k ≡ Some bin → (Contains t.met k → IsOn item.bins env k bin → ⊥) → slice_index new (item.first_bin + k) ≡ slice_index old (item.first_bin + k)
      unchanged k bin is not_hit = t.taken.off (item.first_bin + k) (λ p b c on e.
          let s : p ≡ k = omega (arith, e) in
          let on_k : IsOn item.bins env k b = subst (λ (q : ℕ). IsOn item.bins env q b) s on in
          not_hit (subst (Contains t.met) s c) (subst (λ (x : BinInfo). IsOn item.bins env k x) (same_bin item.bins k b bin on_k.is_bin is) on_k))

      count_no : (k : ℕ) (bin : BinInfo) → slice_get item.bins k ≡ Some bin → Number (HitAt item expr bin all) m (slice_index old (item.first_bin + k)) → (Contains t.met k → IsOn item.bins env k bin → ⊥)
          → Number (HitAt item expr bin all) (m + 1) (slice_index new (item.first_bin + k))
      count_no k bin is h not_hit = subst (λ (c : ℕ). Number (HitAt item expr bin all) (m + 1) c) (sym (unchanged k bin is not_hit))
          (number_no (HitAt item expr bin all) m (slice_index old (item.first_bin + k)) h (λ hit. not_hit (hit_met k bin is hit) (hit_on k bin is hit)))

      count_yes : (k : ℕ) (bin : BinInfo) → IsOn item.bins env k bin → Contains t.met k → Number (HitAt item expr bin all) m (slice_index old (item.first_bin + k)) → Number (HitAt item expr bin all) (m + 1) (slice_index new (item.first_bin + k))
      count_yes k bin on c h =
          let few : slice_index old (item.first_bin + k) ≤ m = at_most (HitAt item expr bin all) m (slice_index old (item.first_bin + k)) h in
          let e : raised (slice_index old (item.first_bin + k)) ≡ slice_index old (item.first_bin + k) + 1 = omega (arith, few, sample.few) in
          subst (λ (n : ℕ). Number (HitAt item expr bin all) (m + 1) n) (sym (t.taken.on k bin c on ∙ e)) (number_yes (HitAt item expr bin all) m (slice_index old (item.first_bin + k)) h (hit_from k bin c on))

      count_by : (b : Bool) (k : ℕ) (bin : BinInfo) → holds bin.guard env ≡ b → slice_get item.bins k ≡ Some bin → Number (HitAt item expr bin all) m (slice_index old (item.first_bin + k)) → Number (HitAt item expr bin all) (m + 1) (slice_index new (item.first_bin + k))
      count_by false k bin g is h = count_no k bin is h (λ c on. true≢false (sym on.guarded ∙ g))
      count_by true k bin g is h = elim (is_in t.met k) [
        | inl c ↦ count_yes k bin (record { is_bin = is; guarded = g }) c h
        | inr out ↦ count_no k bin is h (λ c on. out c)
      ]

      pub counts_stand : CountsStand item expr all m old → CountsStand item expr all (m + 1) new
      counts_stand h = λ k bin is. count_by (holds bin.guard env) k bin refl is (h k bin is)

      covers : BinInfo → Bool
      covers bin = is_coverage bin.kind

      row_to : (number : ℕ) (o : Option BinInfo) → slice_get (coverage_bins item) number ≡ o → SomeHitAt item expr o all m → Contains row number
      row_to number None is h = absurd h
      row_to number (Some bin) is h =
          let n = from_number (λ (b : BinInfo). is_coverage b.kind) item.bins number bin is in
          (t.taken.row number).1 (record { place = n.place; is_met = hit_met n.place bin n.is_element h; bin = bin; is_on = hit_on n.place bin n.is_element h; covers = n.passes; is_number = n.is_number })

      pub row_stands : RowStands item expr all m row
      row_stands = record {
        is = λ number. (
          (λ c.
              let n = (t.taken.row number).0 c in
              let e : slice_get (coverage_bins item) number ≡ Some n.bin = ap (λ (k : ℕ). slice_get (coverage_bins item) k) n.is_number ∙ at_number (λ (b : BinInfo). is_coverage b.kind) item.bins n.place n.bin n.is_on.is_bin n.covers in
              subst (λ (o : Option BinInfo). SomeHitAt item expr o all m) (sym e) (hit_from n.place n.bin n.is_met n.is_on)),
          (λ h. row_to number (slice_get (coverage_bins item) number) refl h),
        );
        once = t.taken.once;
      }
