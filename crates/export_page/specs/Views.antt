-- What a page says of single nodes and tests.
use Rattle.std.specs.Prelude.{ℕ, ◌==◌, nat_le, List, codes, Bool, not, ◌&&◌, if◌then◌else◌}
use Rattle.page_parts.specs.declared.standing.Standing.{Standing}
use Rattle.ucis_model.specs.declared.node.Node.{Node}
use Rattle.ucis_model.specs.declared.node.NodeKind.{NodeKind}
use Rattle.ucis_model.specs.declared.node.NodeKind.TheVariants.{Root, CoverGroup, CoverInstance, CoverPoint, Cross, Bin}
use Rattle.ucis_model.specs.declared.answers.CoverRow.{CoverRow}
use Rattle.ucis_model.specs.declared.answers.HistoryNode.{HistoryNode}
use Rattle.cov_history.specs.Coverage.{is_live, is_covered}

-- the most bins of an item that stand on the page, and the most holes of one that has more
abbrev pub most_bins : ℕ
most_bins = 1024

abbrev pub word_of : NodeKind → List ℕ
word_of CoverGroup = codes "type"
word_of CoverInstance = codes "instance"
word_of CoverPoint = codes "coverpoint"
word_of Cross = codes "cross"
word_of Root = codes "all"
word_of (Bin kind) = codes "bin"

abbrev pub standing_of : CoverRow → (goal : ℕ) → Standing
standing_of row goal = record { millionths = row.millionths; goal = goal; met = row.met; excluded = row.excluded; covered = row.covered; bins = row.bins }

-- its goal is met, and it isn't excluded
abbrev pub is_met : (row : ℕ → CoverRow) → ℕ → Bool
is_met row n = (row n).met && not (row n).excluded

-- a live bin that was hit less often than it has to be
abbrev pub is_hole : List Node → (count : ℕ → ℕ) → (excluded : ℕ → Bool) → ℕ → Bool
is_hole nodes count excluded n = is_live nodes excluded n && not (is_covered nodes count n)

-- a test ended with this status; each above 3 is told as 3
abbrev pub is_of_status : (status : ℕ) → HistoryNode → Bool
is_of_status status t = if nat_le 3 status then nat_le 3 t.status else t.status == status
