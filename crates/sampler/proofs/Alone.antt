-- Instances of which only points are taken along.
use Rattle.std.proofs.Common.{◌≡◌, ℕ, ◌+◌, ◌<◌, ◌≤◌, List, length, true, Some, ap, sym, ◌∙◌, inl, inr, arith}
use Rattle.std.specs.Prelude.{slice_get, slice_index_or}
use Rattle.std.proofs.lemmas.Bool.{cases_lt, false≢true}
use Rattle.std.proofs.lemmas.Option.{slice_get_within}
use Rattle.design_data.specs.declared.infos.ItemInfo.{ItemInfo}
use Rattle.design_data.specs.declared.infos.ItemShape.{ItemShape}
use Rattle.design_data.specs.declared.infos.ItemShape.TheVariants.{Point, Cross}
use Rattle.design_data.specs.Bins.{is_point}
use Rattle.record_codec.specs.Samples.{Env}
use Rattle.sampler_plans.specs.declared.plan.ItemPlan.{ItemPlan}
use Rattle.sampler.specs.declared.instance.ItemState.{ItemState}
use Rattle.sampler.specs.Standing.{Stands, ArePoints, AllTaken, point_first}
use Rattle.sampler.proofs.Items.{one_of, one_number}

-- the items before a place of those that are taken along are points
abbrev pub SomePoints : List ItemInfo → (chosen : List ℕ) → (t : ℕ) → Type 0
SomePoints items chosen t = (i k : ℕ) (item : ItemInfo) → i < t → slice_get chosen i ≡ Some k → slice_get items k ≡ Some item → is_point item.shape ≡ true

pub points_more : (items : List ItemInfo) (chosen : List ℕ) (t at : ℕ) (item : ItemInfo) → slice_get chosen t ≡ Some at → slice_get items at ≡ Some item → is_point item.shape ≡ true → SomePoints items chosen t → SomePoints items chosen (t + 1)
points_more items chosen t at item c e here h i k x lt ci ei = elim (cases_lt i t) [
  | inl lower ↦ h i k x lower ci ei
  | inr ge ↦
      let place : t ≡ i = omega (arith, lt, ge) in
      let number : at ≡ k = one_number chosen i at k (ap (λ (j : ℕ). slice_get chosen j) (sym place) ∙ c) ci in
      let here_item : slice_get items k ≡ Some item = ap (λ (j : ℕ). slice_get items j) (sym number) ∙ e in
      one_of (λ (j : ItemInfo). is_point j.shape ≡ true) items k item x here_item ei here
]

-- all are at the end
pub points_all : (items : List ItemInfo) (chosen : List ℕ) (t : ℕ) → length chosen ≤ t → SomePoints items chosen t → ArePoints items chosen
points_all items chosen t le h i k item c e = h i k item (omega (arith, le, slice_get_within chosen i k c)) c e

-- a point that has taken a sample has taken one more
point_stands : (items : List ItemInfo) (item : ItemInfo) (all : List Env) (m : ℕ) (shape : ItemShape) (p : ItemPlan) (s : ItemState) (counts : List ℕ) → is_point shape ≡ true → Stands items item all (point_first shape m) shape p s counts → Stands items item all (m + 1) shape p s counts
point_stands items item all m (Point expr) p s counts e h = h
point_stands items item all m (Cross axes) p s counts e h = absurd (false≢true e)

-- where all are points, all have taken one more sample when the points have
pub alone_taken : (items : List ItemInfo) (plans : List ItemPlan) (chosen : List ℕ) (all : List Env) (m : ℕ) (old : List ℕ) (states : List ItemState) (counts : List ℕ) → ArePoints items chosen
    → AllTaken items plans chosen all (λ shape. point_first shape m) old states counts → AllTaken items plans chosen all (λ shape. m + 1) old states counts
alone_taken items plans chosen all m old states counts points h = record {
  stand = λ i k item p s c e f. point_stands items item all m item.shape p (slice_index_or states i s) counts (points i k item c e) (h.stand i k item p s c e f);
  outside = h.outside;
}
