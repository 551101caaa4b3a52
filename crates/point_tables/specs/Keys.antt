-- Keys of values, and the sets of keys of bins. Public contracts cite none of it.
use Rattle.std.specs.Prelude.{◌≡◌, ℤ, pos, ◌+ℤ◌, ℕ, ◌^◌, ◌<◌, List, [], ◌∷◌, ◌++◌, length, All, Some, not}
use Rattle.cov_base.specs.Sets.{written, is_in}
use Rattle.design_data.specs.declared.infos.BinInfo.{BinInfo}
use Rattle.design_data.specs.declared.infos.BinRule.{BinRule}
use Rattle.design_data.specs.Laws.{is_listed}
use Rattle.value_index.specs.declared.sets.Span.{Span}
use Rattle.value_index.specs.Found.{in_set, places, Apart}
use Rattle.point_tables.specs.Tables.{places_from, has_value}

-- the values of a span of keys
abbrev pub range_at : ℤ → Span → ℤ × ℤ
range_at least span = (least +ℤ pos span.low, least +ℤ pos span.high)

-- the keys are those of the numbers
pub record AreKeysOf (least : ℤ) (numbers : List (ℤ × ℤ)) (keys : List Span) : Type 0 where
  pub apart : Apart keys
  pub same : (key : ℕ) → in_set key keys ≡ is_in (written numbers) (least +ℤ pos key)

-- the ranges have the numbers that bins list
abbrev pub AreListed : List BinInfo → List (ℤ × ℤ) → Type 0
AreListed bins ranges = (v : ℤ) → is_in (written ranges) v ≡ is_listed bins (Some v)

-- the numbers are those with a key that no bin lists
abbrev pub AreUnlisted : List BinInfo → ℤ → List (ℤ × ℤ) → Type 0
AreUnlisted bins least rest = (key : ℕ) → key < 2 ^ 64 → is_in (written rest) (least +ℤ pos key) ≡ not (is_listed bins (Some (least +ℤ pos key)))

-- the keys are those of the values that a bin with the rule has
pub record IsSetOf (bins : List BinInfo) (least : ℤ) (rule : BinRule) (keys : List Span) : Type 0 where
  pub apart : Apart keys
  pub same : (key : ℕ) → key < 2 ^ 64 → in_set key keys ≡ has_value bins (Some (least +ℤ pos key)) rule

-- there is one more set, that of the rule
pub record HasOneMore (bins : List BinInfo) (least : ℤ) (rule : BinRule) (old new : List (List Span)) : Type 0 where
  pub keys : List Span
  pub is_set : IsSetOf bins least rule keys
  pub is_new : new ≡ old ++ keys ∷ []

-- the sets are those of some of the bins of a point with all these bins
pub record AreSetsOf (bins : List BinInfo) (least : ℤ) (some : List BinInfo) (sets : List (List Span)) : Type 0 where
  pub same : length sets ≡ length some
  pub apart : All Apart sets
  pub meets : (key : ℕ) → key < 2 ^ 64 → places key 0 sets ≡ places_from (λ bin. has_value bins (Some (least +ℤ pos key)) bin.rule) 0 some
