-- The answer to each ask at a history.
use Rattle.std.specs.Prelude.{◌≡◌, ◌⊎◌, ℕ, ◌*◌, ◌≤◌, List, [], ◌∷◌, ◌++◌, length, map, take, drop, filter, slice_get, Option, Some, None, Bool, true, false, ◌&&◌, if◌then◌else◌, nat_lt, nat_le, bytes_eq}
use Rattle.std.specs.List.{list_any}
use Rattle.sha2.specs.Sha256.{sha256}
use Rattle.cov_ground.specs.Limits.{most_rows, most_test_rows, longest_chunk}
use Rattle.design_data.specs.declared.design.Design.{Design}
use Rattle.record_codec.specs.declared.record.Record.{Record}
use Rattle.record_codec.specs.Spelling.{spelling}
use Rattle.tally.specs.Rows.{rows_from}
use Rattle.ucis_model.specs.declared.node.Node.{Node}
use Rattle.ucis_model.specs.declared.answers.Which.{Which}
use Rattle.ucis_model.specs.declared.answers.CountRow.{CountRow}
use Rattle.ucis_model.specs.declared.answers.CoverRow.{CoverRow}
use Rattle.ucis_model.specs.declared.answers.HistoryNode.{HistoryNode}
use Rattle.ucis_model.specs.declared.answers.HistoryKind.TheVariants as kind
use Rattle.ucis_model.specs.declared.answers.Answer.{Answer}
use Rattle.ucis_model.specs.declared.answers.Answer.TheVariants as answers
use Rattle.ucis_model.specs.Nodes.{nodes_of}
use Rattle.ucis_model.specs.Paths.{node_at, find_in, path_of}
use Rattle.cov_history.specs.declared.entry.Event.{Event}
use Rattle.cov_history.specs.declared.entry.Event.TheVariants as event
use Rattle.cov_history.specs.declared.entry.Entry.{Entry}
use Rattle.cov_history.specs.declared.asks.Ask.{Ask}
use Rattle.cov_history.specs.declared.asks.Ask.TheVariants as ask
use Rattle.cov_history.specs.Tallies.{tally}
use Rattle.cov_history.specs.Tables.{fits, same_tables}
use Rattle.cov_history.specs.Nodes.{bin_nodes, node_of_bin, bins_under, kind_of_bin, is_illegal}
use Rattle.cov_history.specs.Coverage.{is_excluded, live_under, covered_under, count_at, coverage}
use Rattle.cov_history.specs.Ranking.{ranking}
use Rattle.cov_history.specs.History.{Test, design_of, tests_of, kept, hits, count_of, out_of, has, amount, passed, has_stop, is_revise, is_test_or_revise}

-- ---- rows

abbrev pub count_row : List Node → (count : ℕ → ℕ) → (excluded : ℕ → Bool) → ℕ → CountRow
count_row nodes count excluded n = record { bin = (node_at nodes n).first_bin; kind = kind_of_bin nodes n; excluded = excluded n; count = count_at nodes count n }

-- how many bins these are, and at most 65,536 of their rows from the first-th on
abbrev pub rows : List Node → (count : ℕ → ℕ) → (excluded : ℕ → Bool) → (first : ℕ) → (bins : List ℕ) → Answer
rows nodes count excluded first bins = answers.Rows (length bins) (map (count_row nodes count excluded) (take most_rows (drop first bins)))

abbrev pub cover_row : List Node → (count : ℕ → ℕ) → (excluded : ℕ → Bool) → ℕ → CoverRow
cover_row nodes count excluded n = record {
  millionths = coverage nodes count excluded n;
  met = nat_le (10000 * (node_at nodes n).goal) (coverage nodes count excluded n);
  excluded = excluded n;
  covered = covered_under nodes count excluded n;
  bins = length (live_under nodes excluded n);
}

abbrev pub test_row : Test → HistoryNode
test_row t = record {
  kind = kind.Test;
  point = t.point;
  status = t.content.status;
  seed = t.content.seed;
  time = t.content.time;
  digest = sha256 (spelling t.content);
  id = t.content.id;
  user = t.content.user;
}

-- the illegal bins that were hit
abbrev pub illegal_hit : List Node → (count : ℕ → ℕ) → List ℕ
illegal_hit nodes count = filter (λ n. is_illegal (kind_of_bin nodes n) && nat_lt 0 (count_at nodes count n)) (bin_nodes nodes)

-- ---- queries

-- where the path finds a node
abbrev pub at_node : Option ℕ → (ℕ → Answer) → Answer
at_node None answer = answers.NoSuchPath
at_node (Some n) answer = answer n

abbrev pub nodes_at : (opening : Design) → List Entry → List Node
nodes_at opening h = nodes_of (design_of opening h)

abbrev pub excluded_at : (opening : Design) → List Entry → ℕ → Bool
excluded_at opening h = is_excluded (nodes_at opening h) (out_of h)

abbrev pub hello_at : (opening : Design) → List Entry → (point : ℕ) → Answer
hello_at opening h point = if nat_lt (length h) point then answers.Ahead (length h) else answers.Welcome (design_of opening h).bin_count

abbrev pub rows_at : (opening : Design) → List Entry → (count : ℕ → ℕ) → (first : ℕ) → (path : List ℕ) → Answer
rows_at opening h count first path = at_node (find_in (nodes_at opening h) path) (λ n. rows (nodes_at opening h) count (excluded_at opening h) first (bins_under (nodes_at opening h) n))

abbrev pub counts_at : (opening : Design) → List Entry → (first : ℕ) → (path : List ℕ) → Answer
counts_at opening h first path = rows_at opening h (count_of opening h) first path

abbrev pub test_counts_by : (opening : Design) → List Entry → Option Test → (first : ℕ) → (path : List ℕ) → Answer
test_counts_by opening h None first path = answers.NoSuchTest
test_counts_by opening h (Some t) first path = rows_at opening h (hits (design_of opening h) t.content) first path

abbrev pub test_counts_at : (opening : Design) → List Entry → (first : ℕ) → (id path : List ℕ) → Answer
test_counts_at opening h first id path = test_counts_by opening h (kept h id) first path

abbrev pub illegal_at : (opening : Design) → List Entry → (first : ℕ) → Answer
illegal_at opening h first = rows (nodes_at opening h) (count_of opening h) (excluded_at opening h) first (illegal_hit (nodes_at opening h) (count_of opening h))

abbrev pub coverage_at : (opening : Design) → List Entry → (path : List ℕ) → Answer
coverage_at opening h path = at_node (find_in (nodes_at opening h) path) (λ n. answers.CoverageIs (cover_row (nodes_at opening h) (count_of opening h) (excluded_at opening h) n))

abbrev pub tests_at : List Entry → (first : ℕ) → Answer
tests_at h first = answers.TestRows (length (tests_of h)) (map test_row (take most_test_rows (drop first (tests_of h))))

-- the live bins of the design, each with how many hits of it are wanted
abbrev pub wanted_at : (opening : Design) → List Entry → List (ℕ × ℕ)
wanted_at opening h = map (λ n. ((node_at (nodes_at opening h) n).first_bin, (node_at (nodes_at opening h) n).at_least)) (live_under (nodes_at opening h) (excluded_at opening h) 0)

abbrev pub rank_at : (opening : Design) → List Entry → Answer
rank_at opening h = answers.RankRows (ranking (map (λ t. rows_from 0 (tally (design_of opening h) t.content)) (tests_of h)) (wanted_at opening h))

abbrev pub name_at : (opening : Design) → List Entry → (bin : ℕ) → Answer
name_at opening h bin = at_node (node_of_bin (nodes_at opening h) bin) (λ n. answers.PathIs (path_of (nodes_at opening h) n))

-- at most 1,048,576 bytes of a test's record, from the offset on
abbrev pub chunk : Option Test → (offset : ℕ) → Answer
chunk None offset = answers.NoSuchTest
chunk (Some t) offset = answers.Chunk (length (spelling t.content)) (take longest_chunk (drop offset (spelling t.content)))

abbrev pub fetch_at : List Entry → (place offset : ℕ) → Answer
fetch_at h place offset = chunk (slice_get (tests_of h) place) offset

-- ---- changes

-- what a change is answered: Full for the first limit that the amount afterwards passes
abbrev pub unless_full : (opening : Design) → (before after : List Entry) → Option Which → Answer → Answer
unless_full opening before after None made = made
unless_full opening before after (Some which) made = answers.Full which (amount opening before which) (amount opening after which)

abbrev pub change : (opening : Design) → List Entry → Entry → Answer → Answer
change opening h e made = unless_full opening h (h ++ e ∷ []) (passed opening (h ++ e ∷ [])) made

-- an entry of such a change stands at the place `since` or later
abbrev pub stands_since : (Event → Bool) → List Entry → (since : ℕ) → Bool
stands_since test h since = list_any (λ e. test e.event) (drop since h)

abbrev pub admit_by : (opening : Design) → List Entry → (since : ℕ) → Entry → Record → Option Test → Answer
admit_by opening h since e r (Some t) = if bytes_eq (spelling t.content) (spelling r) then answers.Here t.point else answers.IdTaken (sha256 (spelling t.content))
admit_by opening h since e r None = if stands_since is_revise h since then answers.Moved since else change opening h e answers.New

abbrev pub admit_at : (opening : Design) → List Entry → (since : ℕ) → Entry → Record → Answer
admit_at opening h since e r = admit_by opening h since e r (kept h r.id)

abbrev pub exclude_at : (opening : Design) → List Entry → Entry → (path : List ℕ) → Answer
exclude_at opening h e path = at_node (find_in (nodes_at opening h) path) (λ n. if has path (out_of h) then answers.AlreadyExcluded else change opening h e answers.Changed)

abbrev pub include_at : (opening : Design) → List Entry → (path : List ℕ) → Answer
include_at opening h path = at_node (find_in (nodes_at opening h) path) (λ n. if has path (out_of h) then answers.Changed else answers.NotExcluded)

abbrev pub revise_at : (opening : Design) → List Entry → (since : ℕ) → Entry → Answer
revise_at opening h since e = if stands_since is_test_or_revise h since then answers.Moved since else change opening h e answers.Changed

-- ---- the table

abbrev pub by : (caller : ℕ) → Event → Entry
by caller change = record { caller = caller; event = change }

-- the entry that an ask makes where it is answered New or Changed
abbrev pub entries_of : (caller : ℕ) → Ask → List Entry
entries_of caller (ask.Admit since r) = by caller (event.Admit r) ∷ []
entries_of caller (ask.Exclude path) = by caller (event.Exclude path) ∷ []
entries_of caller (ask.Include path) = by caller (event.Include path) ∷ []
entries_of caller (ask.Revise since revision) = by caller (event.Revise revision) ∷ []
entries_of caller other = []

-- the answer makes the entry
abbrev pub is_made : Answer → Bool
is_made answers.New = true
is_made answers.Changed = true
is_made other = false

unfoldable pub table : (opening : Design) → List Entry → (caller : ℕ) → Ask → Answer
table opening h caller (ask.Hello point) = hello_at opening h point
table opening h caller (ask.Counts first path) = counts_at opening h first path
table opening h caller (ask.Coverage path) = coverage_at opening h path
table opening h caller (ask.Illegal first) = illegal_at opening h first
table opening h caller (ask.Tests first) = tests_at h first
table opening h caller (ask.TestCounts first id path) = test_counts_at opening h first id path
table opening h caller ask.Rank = rank_at opening h
table opening h caller (ask.NameOf bin) = name_at opening h bin
table opening h caller (ask.Admit since r) = admit_at opening h since (by caller (event.Admit r)) r
table opening h caller (ask.Exclude path) = exclude_at opening h (by caller (event.Exclude path)) path
table opening h caller (ask.Include path) = include_at opening h path
table opening h caller (ask.Revise since revision) = revise_at opening h since (by caller (event.Revise revision))
table opening h caller (ask.Fetch place offset) = fetch_at h place offset

-- after a Stop nothing is made
abbrev pub unless_stopped : List Entry → Answer → Answer
unless_stopped h a = if has_stop h && is_made a then answers.Stopped else a

-- the answer to an ask at a history
abbrev pub answer_at : (opening : Design) → List Entry → (caller : ℕ) → Ask → Answer
answer_at opening h caller a = unless_stopped h (table opening h caller a)

-- the entries that an answer makes
abbrev pub made : (caller : ℕ) → Ask → Answer → List Entry
made caller a given = if is_made given then entries_of caller a else []

-- what an ask comes with: a record fits the design at its point, a text has the opening design's tables
abbrev pub Suits : (opening : Design) → List Entry → Ask → Type 0
Suits opening h (ask.Admit since r) = (since ≤ length h) × (fits (design_of opening (take since h)) r ≡ true)
Suits opening h (ask.Revise since revision) = (since ≤ length h) × (same_tables revision.design opening ≡ true)
Suits opening h other = Unit {0}

-- where Memory may be answered instead
abbrev pub may_want : Ask → Bool
may_want (ask.Hello point) = false
may_want (ask.Include path) = false
may_want other = true

-- The ask is answered at the entries before, and adds what the answer makes; or memory is wanted.
abbrev pub Serves : (opening : Design) → (caller : ℕ) → (before : List Entry) → Ask → (given : Answer) → (after : List Entry) → Type 0
Serves opening caller h a given h' = ((given ≡ answer_at opening h caller a) × (h' ≡ h ++ made caller a given)) ⊎ ((given ≡ answers.Memory) × (h' ≡ h) × (may_want a ≡ true))
