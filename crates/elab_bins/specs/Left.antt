-- What removal leaves of the bins of a point (IEEE 1800-2017, 19.5.5 and 19.5.6).
use Rattle.std.specs.Prelude.{ℕ, ℤ, List, [], ◌∷◌, ◌++◌, length, Bool, true, not, ◌==◌, Result, Ok, if◌then◌else◌}
use Rattle.std.specs.List.{flat_map}
use Rattle.cov_base.specs.Sets.{written, set_of, without}
use Rattle.cov_tree.specs.declared.bins.BinsDecl.{BinsDecl}
use Rattle.const_eval.specs.Scopes.{Levels}
use Rattle.design_data.specs.declared.infos.BinInfo.{BinInfo}
use Rattle.design_data.specs.declared.infos.BinKind.{BinKind}
use Rattle.design_data.specs.declared.infos.BinKind.TheVariants.{CvgBin, IllegalBin, IgnoreBin, DefaultBin}
use Rattle.design_data.specs.declared.infos.BinRule.{BinRule}
use Rattle.design_data.specs.declared.infos.BinRule.TheVariants.{Values, Patterns, Trans, Default, DefaultValues, DefaultSequence, Picked, Product}
use Rattle.elab_base.specs.Gives.{Refusal, ◌>>=◌}
use Rattle.elab_values.specs.declared.domain.Domain.{Domain}
use Rattle.elab_values.specs.declared.made.Made.{Made}
use Rattle.elab_values.specs.declared.made.PointBins.{PointBins}
use Rattle.elab_values.specs.declared.made.Settings.{Settings}
use Rattle.elab_bins.specs.declared.walked.Walked.{Walked}
use Rattle.elab_bins.specs.Declarations.{bins_walked}
use Rattle.elab_bins.specs.Automatic.{with_automatic}
use Rattle.elab_bins.specs.Rest.{all_filled}
use Rattle.elab_bins.specs.Transitions.{transitions_left}
use Rattle.elab_bins.specs.Wildcards.{manner_of}

abbrev pub set_left : (removed set : List (ℤ × ℤ)) → List (ℤ × ℤ)
set_left removed set = set_of (without (written set) (written removed))

-- what is left of a rule: only listed numbers are removed
unfoldable pub rule_left : (removed : List (ℤ × ℤ)) → BinRule → BinRule
rule_left removed (Values set) = Values (set_left removed set)
rule_left removed (Patterns patterns) = Patterns patterns
rule_left removed (Trans seqs) = Trans seqs
rule_left removed Default = Default
rule_left removed (DefaultValues set) = DefaultValues set
rule_left removed DefaultSequence = DefaultSequence
rule_left removed (Picked select) = Picked select
rule_left removed (Product places) = Product places

-- coverage bins lose all removed numbers, ignore bins the illegal ones
abbrev pub kind_left : BinKind → (all illegal : List (ℤ × ℤ)) → BinRule → BinRule
kind_left CvgBin all illegal rule = rule_left all rule
kind_left IgnoreBin all illegal rule = rule_left illegal rule
kind_left IllegalBin all illegal rule = rule
kind_left DefaultBin all illegal rule = rule

unfoldable pub bin_left : (all illegal : List (ℤ × ℤ)) → BinInfo → BinInfo
bin_left all illegal bin = record bin { rule = kind_left bin.kind all illegal bin.rule }

-- a bin of values with no number left is none of the point's
abbrev pub has_some : BinRule → Bool
has_some (Values set) = not (length set == 0)
has_some (Patterns patterns) = true
has_some (Trans seqs) = true
has_some Default = true
has_some (DefaultValues set) = not (length set == 0)
has_some DefaultSequence = true
has_some (Picked select) = true
has_some (Product places) = true

-- the bin, if it has something left
abbrev pub some_of : Made → List Made
some_of made = if has_some made.bin.rule then made ∷ [] else []

abbrev pub left_of : (all illegal : List (ℤ × ℤ)) → Made → List Made
left_of all illegal made = some_of (record made { bin = bin_left all illegal made.bin })

unfoldable pub bins_left : (all illegal : List (ℤ × ℤ)) → List Made → List Made
bins_left all illegal bins = flat_map (left_of all illegal) bins

-- what is left of bins by the numbers of ignore bins and of illegal bins
unfoldable pub left_by : (ignored illegal : List (ℤ × ℤ)) → List Made → List Made
left_by ignored illegal bins = bins_left (set_of (written (ignored ++ illegal))) (set_of (written illegal)) bins

-- bins of values by what is left of their numbers, and then bins of transitions by what is left of their sequences
abbrev pub point_left : List BinsDecl → Walked → (bins : List Made) → PointBins
point_left bs w bins = record {
  bins = transitions_left bs w.ignored_seqs w.illegal_seqs (left_by w.ignored w.illegal bins);
  names = w.names;
  ignored = w.ignored_seqs;
  illegal = w.illegal_seqs;
}

-- what is left of all that is declared, with the bins of arrays of `default` in their places
unfoldable pub walked_left : Domain → List BinsDecl → Walked → Result PointBins Refusal
walked_left domain bs w = do
  bins ← all_filled domain w.listed w.entries w.count
  Ok (point_left bs w bins)

-- the bins of a point of this name, which stands there
unfoldable pub bins_of_point : Levels → Domain → (name : List ℕ) → Settings → List BinsDecl → (at : ℕ) → Result PointBins Refusal
bins_of_point levels domain name settings bs at = do
  declared ← bins_walked levels domain name (manner_of domain settings bs) bs
  w ← with_automatic domain settings bs at declared
  walked_left domain bs w
