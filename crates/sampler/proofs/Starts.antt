-- What stands before the first sample, and after the last.
use Rattle.std.proofs.Common.{◌≡◌, ℕ, zero, suc, ◌+◌, ◌<◌, ◌≤◌, List, [], ◌∷◌, ◌++◌, length, get_or, take, Option, None, Some, refl, ap, sym, subst, ◌∙◌, inl, inr, arith, replicate}
use Rattle.std.specs.Prelude.{ℤ, slice_get}
use Rattle.std.specs.List.{All}
use Rattle.std.proofs.Math.ListN.{get_or-eq_default}
use Rattle.std.proofs.lemmas.Bool.{cases_lt}
use Rattle.std.proofs.lemmas.List.{get_or-replicate, length-replicate}
use Rattle.std.proofs.lemmas.Option.{slice_get_within}
use Rattle.cov_spec.specs.Number.{Number}
use Rattle.cov_spec.specs.Number.Number.{none}
use Rattle.design_data.specs.declared.infos.ItemInfo.{ItemInfo}
use Rattle.design_data.specs.declared.infos.InstInfo.{InstInfo}
use Rattle.design_data.specs.declared.infos.BinInfo.{BinInfo}
use Rattle.design_data.specs.declared.infos.ItemShape.{ItemShape}
use Rattle.design_data.specs.declared.infos.ItemShape.TheVariants.{Point, Cross}
use Rattle.const_eval.specs.Terms.{Term}
use Rattle.record_codec.specs.declared.record.Record.{Record}
use Rattle.record_codec.specs.declared.record.Event.{Event}
use Rattle.record_codec.specs.declared.record.SignalRow.{SignalRow}
use Rattle.record_codec.specs.Samples.{Env, signal_value, samples_of}
use Rattle.cov_counting.specs.Hits.{HitAt}
use Rattle.cov_counting.specs.Crosses.{CrossHitAt}
use Rattle.cov_counting.specs.Tallies.{IsCount, ShapeHit}
use Rattle.point_sampler.specs.Points.{StateStands}
use Rattle.point_sampler.specs.declared.plan.PointPlan.{PointPlan}
use Rattle.point_sampler.specs.declared.state.PointState.{PointState}
use Rattle.cross_sampler.specs.declared.plan.CrossPlan.{CrossPlan}
use Rattle.cross_sampler.specs.declared.state.CrossState.{CrossState}
use Rattle.sampler_plans.specs.declared.plan.ItemPlan.{ItemPlan}
use Rattle.sampler_plans.specs.declared.plan.ItemPlan.TheVariants as plan
use Rattle.sampler_plans.specs.declared.plan.InstPlan.{InstPlan}
use Rattle.sampler_plans.specs.ItemPlans.{IsPlanOf}
use Rattle.sampler.specs.declared.instance.ItemState.{ItemState}
use Rattle.sampler.specs.declared.instance.ItemState.TheVariants as kept
use Rattle.sampler.specs.declared.instance.InstState.{InstState}
use Rattle.sampler.specs.Values.{places}
use Rattle.sampler.specs.Starting.{IsZeroAt, AreAllZero, AllInstStart, AreUnknown}
use Rattle.sampler.specs.Standing.{FitsItem, Stands, AllStand, InstAt}
use Rattle.sampler.specs.Walking.{IsWork, InstFits, AllInstFit, WalkAt, ShareCounted}
use Rattle.sampler.proofs.Items.{one_of, one_number}
use Rattle.sampler.proofs.Walks.{at_end}

-- ---- zeros

pub zero_all : (n : ℕ) (counts : List ℕ) → counts ≡ replicate n 0 → AreAllZero counts
zero_all n counts e number = elim (cases_lt number n) [
  | inl lt ↦ ap (λ (xs : List ℕ). get_or xs number 0) e ∙ get_or-replicate n number 0 0 lt
  | inr ge ↦ get_or-eq_default counts 0 (let l : length counts ≡ n = ap length e ∙ length-replicate n 0 in omega (arith, l, ge))
]

pub none_push : (xs : List (Option ℤ)) → AreUnknown xs → (s : ℕ) → get_or (xs ++ None ∷ []) s None ≡ None
none_push [] h zero = refl
none_push [] h (suc s) = refl
none_push (x ∷ xs) h zero = h zero
none_push (x ∷ xs) h (suc s) = none_push xs (λ t. h (suc t)) s

-- the parts of an instance's work by other names
pub by_parts : (P : List ItemInfo → List ItemPlan → List ℕ → Type 0) (items items' : List ItemInfo) (plans plans' : List ItemPlan) (chosen chosen' : List ℕ) → items ≡ items' → plans ≡ plans' → chosen ≡ chosen' → P items plans chosen → P items' plans' chosen'
by_parts P items items' plans plans' chosen chosen' e f g h = subst (P items' plans') g (subst (λ (ps : List ItemPlan). P items' ps chosen) f (subst (λ (xs : List ItemInfo). P xs plans chosen) e h))

-- ---- before the first sample

stand_first : (items : List ItemInfo) (item : ItemInfo) (all : List Env) (expr : Term) (bin : BinInfo) (count : ℕ) → count ≡ 0 → Number (HitAt item expr bin all) 0 count
stand_first items item all expr bin count e = subst (Number (HitAt item expr bin all) 0) (sym e) none

cross_first : (items : List ItemInfo) (item : ItemInfo) (all : List Env) (axes : List ℕ) (bin : BinInfo) (count : ℕ) → count ≡ 0 → Number (CrossHitAt items item axes bin all) 0 count
cross_first items item all axes bin count e = subst (Number (CrossHitAt items item axes bin all) 0) (sym e) none

pub point_counted : (items : List ItemInfo) (item : ItemInfo) (all : List Env) (expr : Term) (counts : List ℕ) → IsZeroAt item counts → (k : ℕ) (bin : BinInfo) → slice_get item.bins k ≡ Some bin → Number (HitAt item expr bin all) 0 (get_or counts (item.first_bin + k) 0)
point_counted items item all expr counts zeros k bin e = stand_first items item all expr bin (get_or counts (item.first_bin + k) 0) (zeros k (slice_get_within item.bins k bin e))

pub cross_counted : (items : List ItemInfo) (item : ItemInfo) (all : List Env) (axes : List ℕ) (counts : List ℕ) → IsZeroAt item counts → (k : ℕ) (bin : BinInfo) → slice_get item.bins k ≡ Some bin → Number (CrossHitAt items item axes bin all) 0 (get_or counts (item.first_bin + k) 0)
cross_counted items item all axes counts zeros k bin e = cross_first items item all axes bin (get_or counts (item.first_bin + k) 0) (zeros k (slice_get_within item.bins k bin e))

pub start_point : (items : List ItemInfo) (item : ItemInfo) (all : List Env) (counts : List ℕ) (shape : ItemShape) (p : PointPlan) (s : PointState) → IsPlanOf items item shape (plan.Point p)
    → ((item : ItemInfo) (expr : Term) (all : List Env) → StateStands item expr p all 0 s) → IsZeroAt item counts → Stands items item all 0 shape (plan.Point p) (kept.Point s) counts
start_point items item all counts (Point expr) p s h start zeros = record { remembers = start item expr all; counted = point_counted items item all expr counts zeros }
start_point items item all counts (Cross axes) p s h start zeros = absurd h

pub start_cross : (items : List ItemInfo) (item : ItemInfo) (all : List Env) (counts : List ℕ) (shape : ItemShape) (p : CrossPlan) (s : CrossState) → IsPlanOf items item shape (plan.Cross p) → s.samples ≡ 0 → All (λ stamp. stamp ≤ 0) s.stamps.items → IsZeroAt item counts
    → Stands items item all 0 shape (plan.Cross p) (kept.Cross s) counts
start_cross items item all counts (Point expr) p s h samples marks zeros = absurd h
start_cross items item all counts (Cross axes) p s h samples marks zeros = record { samples = samples; marks = marks; counted = cross_counted items item all axes counts zeros }

-- what is kept of the item at a place fits, and stands before the first sample
abbrev pub FitsAt : List ItemInfo → List ItemPlan → (chosen : List ℕ) → ℕ → ItemState → Type 0
FitsAt items plans chosen i s = (k : ℕ) (item : ItemInfo) (p : ItemPlan) → slice_get chosen i ≡ Some k → slice_get items k ≡ Some item → slice_get plans k ≡ Some p → FitsItem item p s

abbrev pub StartsAt : List ItemInfo → List ItemPlan → (chosen : List ℕ) → List Env → (counts : List ℕ) → ℕ → ItemState → Type 0
StartsAt items plans chosen all counts i s = (k : ℕ) (item : ItemInfo) (p : ItemPlan) → slice_get chosen i ≡ Some k → slice_get items k ≡ Some item → slice_get plans k ≡ Some p → Stands items item all 0 item.shape p s counts

module _ (items : List ItemInfo) (plans : List ItemPlan) (chosen : List ℕ) (i at : ℕ) (item : ItemInfo) (p : ItemPlan) (state : ItemState) (c : slice_get chosen i ≡ Some at) (e : slice_get items at ≡ Some item) (f : slice_get plans at ≡ Some p) where
  at_place : (P : ItemInfo → ItemPlan → Type 0) → P item p → (k : ℕ) (x : ItemInfo) (q : ItemPlan) → slice_get chosen i ≡ Some k → slice_get items k ≡ Some x → slice_get plans k ≡ Some q → P x q
  at_place P h k x q ck ex fq =
      let number = one_number chosen i at k c ck in
      one_of (λ (y : ItemInfo). P y q) items k item x (ap (λ (j : ℕ). slice_get items j) (sym number) ∙ e) ex (one_of (λ (y : ItemPlan). P item y) plans k p q (ap (λ (j : ℕ). slice_get plans j) (sym number) ∙ f) fq h)

  pub fits_here : FitsItem item p state → FitsAt items plans chosen i state
  fits_here h = at_place (λ (x : ItemInfo) (q : ItemPlan). FitsItem x q state) h

  pub starts_here : (all : List Env) (counts : List ℕ) → AreAllZero counts → ((all : List Env) (counts : List ℕ) → IsZeroAt item counts → Stands items item all 0 item.shape p state counts) → StartsAt items plans chosen all counts i state
  starts_here all counts zeros h = at_place (λ (x : ItemInfo) (q : ItemPlan). Stands items x all 0 x.shape q state counts) (h all counts (λ b lt. zeros (item.first_bin + b)))

-- the same of instances
abbrev pub InstFitsAt : List InstInfo → List InstPlan → (share : List (List ℕ)) → ℕ → InstState → Type 0
InstFitsAt instances plans share j k = (inst : InstInfo) (p : InstPlan) (chosen : List ℕ) → slice_get instances j ≡ Some inst → slice_get plans j ≡ Some p → slice_get share j ≡ Some chosen → InstFits inst.items p.items chosen k

abbrev pub InstStartsAt : List InstInfo → List InstPlan → (share : List (List ℕ)) → (counts : List ℕ) → ℕ → InstState → Type 0
InstStartsAt instances plans share counts j k = (inst : InstInfo) (p : InstPlan) (chosen : List ℕ) (all : List Env) → slice_get instances j ≡ Some inst → slice_get plans j ≡ Some p → slice_get share j ≡ Some chosen → AllStand inst.items p.items chosen all (λ shape. 0) k.states.items counts

module _ (instances : List InstInfo) (plans : List InstPlan) (share : List (List ℕ)) (j : ℕ) (inst : InstInfo) (p : InstPlan) (chosen : List ℕ) (kept : InstState) (e : slice_get instances j ≡ Some inst) (f : slice_get plans j ≡ Some p) (g : slice_get share j ≡ Some chosen) where
  pub at_inst : (P : InstInfo → InstPlan → List ℕ → Type 0) → P inst p chosen → (x : InstInfo) (q : InstPlan) (own : List ℕ) → slice_get instances j ≡ Some x → slice_get plans j ≡ Some q → slice_get share j ≡ Some own → P x q own
  at_inst P h x q own ex fq go =
      one_of (λ (y : InstInfo). P y q own) instances j inst x e ex (one_of (λ (y : InstPlan). P inst y own) plans j p q f fq (one_of (λ (y : List ℕ). P inst p y) share j chosen own g go h))

  pub inst_fits_here : InstFits inst.items p.items chosen kept → InstFitsAt instances plans share j kept
  inst_fits_here h = at_inst (λ (x : InstInfo) (q : InstPlan) (own : List ℕ). InstFits x.items q.items own kept) h

  pub inst_starts_here : (counts : List ℕ) → AreAllZero counts → ((all : List Env) (counts : List ℕ) → AreAllZero counts → AllStand inst.items p.items chosen all (λ shape. 0) kept.states.items counts) → InstStartsAt instances plans share counts j kept
  inst_starts_here counts zeros h x q own all ex fq go = at_inst (λ (x : InstInfo) (q : InstPlan) (own : List ℕ). AllStand x.items q.items own all (λ shape. 0) kept.states.items counts) (h all counts zeros) x q own ex fq go

unset : (found : Option SignalRow) → signal_value found None ≡ None
unset None = refl
unset (Some row) = refl

module _ (r : Record) (instances : List InstInfo) (plans : List InstPlan) (share : List (List ℕ)) (values : List (Option ℤ)) (kept : List InstState) (counts : List ℕ) where
  inst_start : (j : ℕ) (items : List ItemInfo) (plans : List ItemPlan) (chosen : List ℕ) (states : List ItemState) → AllStand items plans chosen (samples_of r j) (λ shape. 0) states counts → InstAt r j items plans chosen [] r.events states counts
  unfolding samples_of
  inst_start j items plans chosen states stand = record { m = 0; within = omega arith; few = omega arith; left = refl; stands = stand }

  pub at_start : length values ≡ places → AreUnknown values → AllInstStart instances plans share kept counts → WalkAt r instances plans share [] r.events values counts kept counts
  at_start len unknown start = record {
    holds = record { same = len; at = λ s lt. unknown s ∙ sym (unset (slice_get r.signals s)); blank = λ k lt. unknown (4096 + k) };
    outside = λ number o. refl;
    each = λ j inst p chosen k e f g. inst_start j inst.items p.items chosen (get_or kept j k).states.items (start j inst p chosen k (samples_of r j) e f g);
  }

-- ---- after the last sample

count_of : (items : List ItemInfo) (item : ItemInfo) (all : List Env) (shape : ItemShape) (p : ItemPlan) (s : ItemState) (counts : List ℕ) → item.shape ≡ shape → Stands items item all (length all) shape p s counts
    → (b : ℕ) (bin : BinInfo) → slice_get item.bins b ≡ Some bin → IsCount items item bin all (get_or counts (item.first_bin + b) 0)
count_of items item all (Point expr) (plan.Point p) (kept.Point s) counts e h = λ b bin at. subst (λ (shape : ItemShape). Number (ShapeHit items item shape bin all) (length all) (get_or counts (item.first_bin + b) 0)) (sym e) (h.counted b bin at)
count_of items item all (Point expr) (plan.Point p) (kept.Cross s) counts e h = absurd h
count_of items item all (Point expr) (plan.Cross p) s counts e h = absurd h
count_of items item all (Cross axes) p (kept.Point s) counts e h = absurd h
count_of items item all (Cross axes) p (kept.Cross s) counts e h = λ b bin at. subst (λ (shape : ItemShape). Number (ShapeHit items item shape bin all) (length all) (get_or counts (item.first_bin + b) 0)) (sym e) (h.counted b bin at)

pub some_of : {X : Type 0} (xs : List X) (k : ℕ) → k < length xs → (x : X) × (slice_get xs k ≡ Some x)
some_of [] k lt = absurd (omega (arith, lt))
some_of (x ∷ xs) zero lt = (x, refl)
some_of (x ∷ xs) (suc k) lt = some_of xs k (omega (arith, lt))

pub all_counted : (r : Record) (instances : List InstInfo) (plans : List InstPlan) (share : List (List ℕ)) (n : ℕ) (before : List Event) (values : List (Option ℤ)) (old new : List ℕ) (kept : List InstState) → IsWork instances plans share n → AllInstFit instances plans share kept
    → WalkAt r instances plans share before [] values old kept new → ShareCounted r instances share old new
all_counted r instances plans share n before values old new kept work fits h = record {
  counted = λ j k b inst chosen item bin e g own is at.
      let lt = slice_get_within instances j inst e in
      let p = some_of plans j (omega (arith, lt, work.plan_count)) in
      let s = some_of kept j (omega (arith, lt, fits.same)) in
      let states = (get_or kept j s.0).states.items in
      let here = work.each j inst p.0 chosen e p.1 g in
      let fit = fits.at j inst p.0 chosen s.0 e p.1 g in
      let q = some_of p.0.items k (omega (arith, slice_get_within inst.items k item is, here.same_plans)) in
      let t = some_of states own.0 (omega (arith, fit.fits.same, slice_get_within chosen own.0 k own.1)) in
      let stand = at_end r j inst.items p.0.items chosen before states new (h.each j inst p.0 chosen s.0 e p.1 g) in
      count_of inst.items item (samples_of r j) item.shape q.0 (get_or states own.0 t.0) new refl (stand own.0 k item q.0 t.0 own.1 is q.1) b bin at;
  outside = h.outside;
}

-- a slice written back
pub written : (n : ℕ) (xs ys : List ℕ) → length xs ≡ n → take n (xs ++ ys) ≡ xs
written zero [] ys e = refl
written zero (x ∷ xs) ys e = absurd (omega (arith, e))
written (suc n) [] ys e = absurd (omega (arith, e))
written (suc n) (x ∷ xs) ys e = ap (λ (zs : List ℕ). x ∷ zs) (written n xs ys (omega (arith, e)))
