-- The declared bins of a cross, before anything is removed (IEEE 1800-2017, 19.6.1).
use Rattle.std.specs.Prelude.{ℕ, List, [], ◌∷◌, ◌++◌, length, nat_lt, Option, Some, Result, Ok}
use Rattle.cov_ground.specs.Limits.{most_bins}
use Rattle.name_map.specs.Names.{with_name}
use Rattle.cov_tree.specs.declared.groups.CrossBins.{CrossBins}
use Rattle.const_eval.specs.Terms.{Term}
use Rattle.const_eval.specs.Scopes.{Levels}
use Rattle.cross_select.specs.declared.select.Select.{Select}
use Rattle.design_data.specs.declared.infos.BinRule.TheVariants.{Picked}
use Rattle.elab_base.specs.declared.fault.ElabKind.TheVariants as kind
use Rattle.elab_base.specs.declared.names.What.TheVariants as what
use Rattle.elab_base.specs.Gives.{Refusal, ◌>>=◌, needs, each}
use Rattle.elab_base.specs.Steps.{unused, guard_in}
use Rattle.elab_values.specs.declared.made.Made.{Made}
use Rattle.elab_crosses.specs.declared.declared.Walked.{Walked}
use Rattle.elab_crosses.specs.Selections.{Crossed, selection_of}
use Rattle.elab_values.specs.Words.{kind_of}

-- a declared bin, whose declaration stands at a place among those of the cross
abbrev pub picked_bin : CrossBins → ℕ → Select → Option Term → Made
picked_bin b place select guard = record {
  bin = record { name = b.name; kind = kind_of b.word; rule = Picked select; guard = guard };
  at = b.at;
  declared = Some place;
}

abbrev pub with_bin : CrossBins → Select → Option Term → Walked → Walked
with_bin b select guard w = record {
  names = with_name w.names b.name what.Bin;
  bins = w.bins ++ picked_bin b (length w.bins) select guard ∷ [];
}

unfoldable pub bin_declared : Levels → Crossed → CrossBins → Walked → Result Walked Refusal
bin_declared levels c b w = do
  _ ← unused w.names b.name b.at
  select ← selection_of levels c b.sel
  guard ← guard_in levels b.guard
  _ ← needs (nat_lt (length w.bins) most_bins) kind.TooManyBins b.at
  Ok (with_bin b select guard w)

abbrev pub no_bins : Walked
no_bins = record { names = []; bins = [] }

-- all bins that are declared, in order
unfoldable pub bins_walked : Levels → Crossed → List CrossBins → Result Walked Refusal
bins_walked levels c bs = each (bin_declared levels c) bs no_bins
