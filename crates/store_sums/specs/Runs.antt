-- Bins in a row, each with a node above it and with marks. Public contracts cite none of it.
use Rattle.std.specs.Prelude.{◌≡◌, ℕ, zero, suc, ◌+◌, ◌-◌, ◌<◌, ◌≤◌, ◌==◌, nat_lt, List, length, map, slice_index, slice_index_or, slice_set, replicate, count_by, Option, None, is_some, Bool, true, false, cond, not, ◌&&◌, if◌then◌else◌}
use Rattle.std.specs.List.{list_any}
use Rattle.design_data.specs.Bins.{is_coverage}
use Rattle.ucis_model.specs.declared.node.Node.{Node}
use Rattle.ucis_model.specs.Paths.{node_at}
use Rattle.cov_history.specs.Nodes.{bin_nodes, kind_of_bin}
use Rattle.cov_history.specs.Coverage.{is_covered, is_live}

-- what is kept of each bin in order: the node right above it, whether it counts, and whether it is covered as well
pub record Marks : Type 0 where
  pub parents : List ℕ
  pub live : List Bool
  pub covered : List Bool

-- how many of so many marks from a place on are set
abbrev pub marks_in : List Bool → (first many : ℕ) → ℕ
marks_in marks first zero = 0
marks_in marks first (suc many) = cond (slice_index_or marks first false) 1 0 + marks_in marks (first + 1) many

-- where the bins of one parent begin that stand in a row up to this place
abbrev pub begin_of : (parents : List ℕ) → ℕ → ℕ
begin_of parents zero = 0
begin_of parents (suc place) = if slice_index parents (suc place) == slice_index parents place then begin_of parents place else suc place

-- where the run of each of the first bins begins, and where each run that begins there ends
pub record HasRuns (parents : List ℕ) (count : ℕ) (begins ends : List ℕ) : Type 0 where
  pub begins_len : length begins ≡ count
  pub ends_len : length ends ≡ length parents
  pub begin : (place : ℕ) → place < count → slice_index begins place ≡ begin_of parents place
  pub before : (place : ℕ) → place < count → place < slice_index ends (begin_of parents place)
  pub within : (first : ℕ) → first < count → begin_of parents first ≡ first → slice_index ends first ≤ count
  pub last : (first : ℕ) → first < count → begin_of parents first ≡ first → begin_of parents (slice_index ends first - 1) ≡ first

-- how many marks are set in each run
pub record HasNumbers (begins ends : List ℕ) (marks : List Bool) (numbers : List ℕ) : Type 0 where
  pub marks_len : length marks ≡ length begins
  pub numbers_len : length numbers ≡ length begins
  pub at : (first : ℕ) → first < length begins → slice_index begins first ≡ first → slice_index numbers first ≡ marks_in marks first (slice_index ends first - first)

-- one more or one less, where a mark changes
abbrev pub renumbered : (old new : Bool) → (first : ℕ) → List ℕ → List ℕ
renumbered true true first numbers = numbers
renumbered true false first numbers = slice_set numbers first (slice_index numbers first - 1)
renumbered false true first numbers = slice_set numbers first (slice_index numbers first + 1)
renumbered false false first numbers = numbers

-- bins without marks
abbrev pub unmarked : List ℕ → Marks
unmarked parents = record { parents = parents; live = replicate (length parents) false; covered = replicate (length parents) false }

-- with both marks of a bin
abbrev pub with_marks : (place : ℕ) → (live covered : Bool) → Marks → Marks
with_marks place live covered marks = record { parents = marks.parents; live = slice_set marks.live place live; covered = slice_set marks.covered place covered }

-- ---- what the marks of a design's bins say

-- a coverage bin that isn't out itself
abbrev pub stands : List Node → (out : List (Option (List ℕ))) → ℕ → Bool
stands nodes out n = is_coverage (kind_of_bin nodes n) && not (is_some (slice_index_or out n None))

-- and is hit often enough
abbrev pub stands_covered : List Node → (counts : List ℕ) → (out : List (Option (List ℕ))) → ℕ → Bool
stands_covered nodes counts out n = stands nodes out n && is_covered nodes (slice_index counts) n

abbrev pub bin_at : List Node → ℕ → ℕ
bin_at nodes place = slice_index (bin_nodes nodes) place

-- the marks of those bins that are done are right
pub record HasMarks (nodes : List Node) (counts : List ℕ) (out : List (Option (List ℕ))) (done : ℕ → Bool) (marks : Marks) : Type 0 where
  pub parents : marks.parents ≡ map (λ n. (node_at nodes n).parent) (bin_nodes nodes)
  pub live_len : length marks.live ≡ length (bin_nodes nodes)
  pub covered_len : length marks.covered ≡ length (bin_nodes nodes)
  pub live : (place : ℕ) → place < length (bin_nodes nodes) → done place ≡ true → slice_index_or marks.live place false ≡ stands nodes out (bin_at nodes place)
  pub covered : (place : ℕ) → place < length (bin_nodes nodes) → done place ≡ true → slice_index_or marks.covered place false ≡ stands_covered nodes counts out (bin_at nodes place)

-- the marks of a bin as they should be
abbrev pub remarked : List Node → (counts : List ℕ) → (out : List (Option (List ℕ))) → (place : ℕ) → Marks → Marks
remarked nodes counts out place marks = if nat_lt place (length (bin_nodes nodes)) then with_marks place (stands nodes out (bin_at nodes place)) (stands_covered nodes counts out (bin_at nodes place)) marks else marks

-- some row is of this bin
abbrev pub has_row : List (ℕ × ℕ) → ℕ → Bool
has_row rows place = list_any (λ row. row.0 == place) rows

-- how many of the bins are live, and how many are covered as well
abbrev pub live_in : List Node → (excluded : ℕ → Bool) → List ℕ → ℕ
live_in nodes excluded bins = count_by (is_live nodes excluded) bins

abbrev pub covered_in : List Node → (count : ℕ → ℕ) → (excluded : ℕ → Bool) → List ℕ → ℕ
covered_in nodes count excluded bins = count_by (λ n. is_live nodes excluded n && is_covered nodes count n) bins
