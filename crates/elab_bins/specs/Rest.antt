-- The bins of arrays of `default` (IEEE 1800-2017, 19.5): one for each number of the point that is listed nowhere.
use Rattle.std.specs.Prelude.{ℕ, ◌+◌, ℤ, List, [], ◌∷◌, length, map, nat_le, Result, Ok}
use Rattle.std.specs.List.{flat_map}
use Rattle.std.specs.Fmt.{signed_decimal}
use Rattle.cov_ground.specs.Limits.{most_bins}
use Rattle.cov_base.specs.Sets.{written, set_of, without, ascending}
use Rattle.design_data.specs.declared.infos.BinRule.TheVariants.{DefaultValues}
use Rattle.elab_base.specs.declared.fault.ElabKind.TheVariants as kind
use Rattle.elab_base.specs.Gives.{Refusal, ◌>>=◌, needs, each}
use Rattle.elab_values.specs.declared.domain.Domain.{Domain}
use Rattle.elab_values.specs.declared.made.Made.{Made}
use Rattle.elab_bins.specs.declared.walked.Entry.{Entry}
use Rattle.elab_bins.specs.declared.walked.Entry.TheVariants.{Bin, Rest}
use Rattle.elab_bins.specs.declared.plans.Head.{Head}
use Rattle.elab_bins.specs.Made.{indexed, named_bin}

-- the numbers of the point that no declaration and no automatic bin lists
abbrev pub unlisted : Domain → (listed : List (ℤ × ℤ)) → List (ℤ × ℤ)
unlisted domain listed = set_of (without (written domain.numbers) (written (set_of (written listed))))

-- `b[v]`
abbrev pub rest_bin : Head → ℤ → Made
rest_bin head v = named_bin head (indexed head.name (signed_decimal v)) (DefaultValues (set_of (written ((v, v) ∷ []))))

-- the bins of an entry, where these numbers are listed nowhere
abbrev pub entry_bins : (rest : List (ℤ × ℤ)) → Entry → List Made
entry_bins rest (Bin made) = made ∷ []
entry_bins rest (Rest head) = map (rest_bin head) (ascending (written rest))

unfoldable pub all_bins : (rest : List (ℤ × ℤ)) → List Entry → List Made
all_bins rest entries = flat_map (entry_bins rest) entries

-- so many more for each array, where all other bins are counted already
unfoldable pub entry_counted : (more : ℕ) → Entry → ℕ → Result ℕ Refusal
entry_counted more (Bin made) count = Ok count
entry_counted more (Rest head) count = do
  _ ← needs (nat_le (count + more) most_bins) kind.TooManyBins head.at
  Ok (count + more)

unfoldable pub entries_counted : (more : ℕ) → List Entry → ℕ → Result ℕ Refusal
entries_counted more entries count = each (entry_counted more) entries count

unfoldable pub all_filled : Domain → (listed : List (ℤ × ℤ)) → List Entry → (count : ℕ) → Result (List Made) Refusal
all_filled domain listed entries count = do
  _ ← entries_counted (length (written (unlisted domain listed))) entries count
  Ok (all_bins (unlisted domain listed) entries)
