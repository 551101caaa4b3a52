-- Automatic bins of a point (IEEE 1800-2017, 19.5.3): those of a point without a declaration of coverage bins.
use Rattle.std.specs.Prelude.{ℕ, ◌+◌, ◌≤◌, ℤ, List, [], ◌∷◌, ◌++◌, length, map, codes, Bool, true, false, nat_le, Option, Some, None, Result, Ok, if◌then◌else◌}
use Rattle.std.specs.Ordering.{int_eq}
use Rattle.std.specs.List.{list_any}
use Rattle.std.specs.Fmt.{signed_decimal}
use Rattle.cov_ground.specs.Limits.{most_bins}
use Rattle.cov_base.specs.Sets.{written, set_of}
use Rattle.auto_bins.specs.Automatic.{automatic_ranges}
use Rattle.cov_tree.specs.declared.bins.Word.{Word}
use Rattle.cov_tree.specs.declared.bins.Word.TheVariants as words
use Rattle.cov_tree.specs.declared.bins.BinsDecl.{BinsDecl}
use Rattle.const_eval.specs.Typs.{Typ}
use Rattle.design_data.specs.declared.infos.BinKind.TheVariants.{CvgBin}
use Rattle.elab_base.specs.declared.fault.ElabKind.TheVariants as kind
use Rattle.elab_base.specs.Gives.{Refusal, ◌>>=◌, needs}
use Rattle.elab_values.specs.declared.domain.Constant.{Constant}
use Rattle.elab_values.specs.declared.domain.Domain.{Domain}
use Rattle.elab_values.specs.declared.made.Made.{Made}
use Rattle.elab_values.specs.declared.made.Settings.{Settings}
use Rattle.elab_bins.specs.declared.walked.Entry.TheVariants.{Bin}
use Rattle.elab_bins.specs.declared.walked.Walked.{Walked}
use Rattle.elab_bins.specs.declared.plans.Head.{Head}
use Rattle.elab_bins.specs.Made.{indexed, value_bin}

-- a point may have 1 to 65,536 automatic bins
pub record CanHaveBins (settings : Settings) : Type 0 where
  pub some : 1 ≤ settings.auto_bin_max
  pub most : settings.auto_bin_max ≤ most_bins

abbrev pub auto_head : ℕ → Head
auto_head at = record { name = codes "auto"; kind = CvgBin; guard = None; at = at; declared = None }

-- `v` where it is one number, and else `low:high`
abbrev pub range_text : ℤ × ℤ → List ℕ
range_text range = if int_eq range.0 range.1 then signed_decimal range.0 else signed_decimal range.0 ++ (58 ∷ signed_decimal range.1)

-- `auto[v]` or `auto[low:high]`
abbrev pub auto_bin : Head → ℤ × ℤ → Made
auto_bin head range = value_bin head (indexed head.name (range_text range)) (set_of (written (range ∷ [])))

-- `auto[CONSTANT]`
abbrev pub constant_bin : Head → Constant → Made
constant_bin head c = value_bin head (indexed head.name c.name) (set_of (written ((c.value, c.value) ∷ [])))

-- one for each constant of an enumeration, or all numbers of the type spread over so many
abbrev pub automatic_by : Head → Typ → (most : ℕ) → Option (List Constant) → List Made
automatic_by head typ most None = map (auto_bin head) (automatic_ranges typ.width typ.signed most)
automatic_by head typ most (Some constants) = map (constant_bin head) constants

abbrev pub automatic : Domain → Settings → ℕ → List Made
automatic domain settings at = automatic_by (auto_head at) domain.typ settings.auto_bin_max domain.constants

abbrev pub is_coverage : Word → Bool
is_coverage words.Bins = true
is_coverage words.Illegal = false
is_coverage words.Ignore = false

abbrev pub declares_coverage : List BinsDecl → Bool
declares_coverage bs = list_any (λ b. is_coverage b.word) bs

-- the automatic bins behind the declared ones; together they list all numbers of the point
unfoldable pub automatic_added : Domain → List Made → Walked → Walked
automatic_added domain autos w = record w {
  entries = w.entries ++ map Bin autos;
  count = w.count + length autos;
  listed = w.listed ++ domain.numbers;
}

unfoldable pub automatic_binned : Domain → Settings → ℕ → Walked → Result Walked Refusal
automatic_binned domain settings at w = do
  _ ← needs (nat_le (w.count + length (automatic domain settings at)) most_bins) kind.TooManyBins at
  Ok (automatic_added domain (automatic domain settings at) w)

unfoldable pub with_automatic : Domain → Settings → List BinsDecl → ℕ → Walked → Result Walked Refusal
with_automatic domain settings bs at w = if declares_coverage bs then Ok w else automatic_binned domain settings at w
