-- A cross stays one where more items stand behind those that it knows, and where these get numbers.
use Rattle.std.proofs.Common.{◌≡◌, ℕ, zero, suc, ◌≤◌, List, [], ◌∷◌, ◌++◌, length, filter, refl, sym, subst, ap, ◌∙◌, Option, Some, None}
use Rattle.std.specs.Prelude.{slice_get, IsSomeAnd, IsTrue}
use Rattle.std.specs.List.{AllByRecursion}
use Rattle.cov_ground.specs.Limits.{most_products}
use Rattle.cross_select.specs.Products.{product_of}
use Rattle.design_data.specs.declared.infos.ItemInfo.{ItemInfo}
use Rattle.design_data.specs.declared.infos.BinInfo.{BinInfo}
use Rattle.design_data.specs.declared.infos.ItemShape.{ItemShape}
use Rattle.design_data.specs.Bins.{is_coverage, is_point, size_of, sizes_of}
use Rattle.design_data.specs.Limits.{IsCrossRule, IsPointIndex, IsCross}
use Rattle.elab_base.proofs.Keeps.{all_as}

-- at the place of each item stands one with the same bins and the same shape
abbrev pub AreAlike : (items others : List ItemInfo) → Type 0
AreAlike items others = (index : ℕ) (item : ItemInfo) → slice_get items index ≡ Some item → (other : ItemInfo) × (slice_get others index ≡ Some other) × (item.bins ≡ other.bins) × (item.shape ≡ other.shape)

pub alike_behind : (items more : List ItemInfo) → AreAlike items (items ++ more)
alike_behind [] more index item e = absurd cc
alike_behind (x ∷ xs) more zero item e = (x, refl, ap (λ (y : ItemInfo). y.bins) (same x item e), ap (λ (y : ItemInfo). y.shape) (same x item e))
  where
    same : (x item : ItemInfo) → Some x ≡ Some item → item ≡ x
    same x item e = cc
alike_behind (x ∷ xs) more (suc index) item e = alike_behind xs more index item e

point_by : (items others : List ItemInfo) (index : ℕ) (o : Option ItemInfo) → AreAlike items others → slice_get items index ≡ o → IsSomeAnd o (λ point. IsTrue (is_point point.shape)) → IsPointIndex others index
point_by items others index None alike e is = absurd is
point_by items others index (Some item) alike e is =
    let a = alike index item e in
    subst (λ (o : Option ItemInfo). IsSomeAnd o (λ point. IsTrue (is_point point.shape))) (sym a.1) (subst (λ (shape : ItemShape). IsTrue (is_point shape)) a.3 is)

size_by : (items others : List ItemInfo) (index : ℕ) (o : Option ItemInfo) → AreAlike items others → slice_get items index ≡ o → IsSomeAnd o (λ point. IsTrue (is_point point.shape)) → size_of o ≡ size_of (slice_get others index)
size_by items others index None alike e is = absurd is
size_by items others index (Some item) alike e is =
    let a = alike index item e in
    ap (λ (bins : List BinInfo). length (filter (λ bin. is_coverage bin.kind) bins)) a.2 ∙ ap size_of (sym a.1)

pub same_sizes : (items others : List ItemInfo) (axes : List ℕ) → AreAlike items others → AllByRecursion (IsPointIndex items) axes → sizes_of items axes ≡ sizes_of others axes
same_sizes items others [] alike all = refl
same_sizes items others (index ∷ axes) alike all =
    let here = size_by items others index (slice_get items index) alike refl all.0 in
    let rest = same_sizes items others axes alike all.1 in λ i. here i ∷ rest i

pub cross_among : (items others : List ItemInfo) (bins : List BinInfo) (axes : List ℕ) → AreAlike items others → IsCross items bins axes → IsCross others bins axes
cross_among items others bins axes alike is =
    let same = same_sizes items others axes alike is.points in
    record {
      few = is.few;
      points = all_as (IsPointIndex items) (IsPointIndex others) (λ index p. point_by items others index (slice_get items index) alike refl p) axes is.points;
      few_products = subst (λ (sizes : List ℕ). product_of sizes ≤ most_products) same is.few_products;
      rules = subst (λ (sizes : List ℕ). AllByRecursion (λ bin. IsCrossRule sizes bins bin.kind bin.rule) bins) same is.rules;
    }
