-- Laws of histories and of the answers at them, each proved as the contract of a function of the module `laws`.
use Rattle.std.specs.Prelude.{◌≡◌, ℕ, ◌≤◌, List, [], ◌∷◌, ◌++◌, length, map, filter, Some, Bool, true, false, not, ◌&&◌, bytes_eq}
use Rattle.std.specs.List.{list_any, list_all}
use Rattle.percent.specs.Millionths.{whole}
use Rattle.tally.specs.declared.ranked.Ranked.{Ranked}
use Rattle.rank_report.specs.Ranking.{Test as Rows, IsRanking}
use Rattle.design_data.specs.declared.design.Design.{Design}
use Rattle.record_codec.specs.declared.record.Record.{Record}
use Rattle.record_codec.specs.Spelling.{spelling}
use Rattle.cov_counting.specs.Tallies.{IsTally}
use Rattle.ucis_model.specs.declared.node.Node.{Node}
use Rattle.ucis_model.specs.declared.answers.Answer.{Answer}
use Rattle.ucis_model.specs.declared.answers.Answer.TheVariants as answers
use Rattle.ucis_model.specs.declared.answers.HistoryNode.{HistoryNode}
use Rattle.ucis_model.specs.Nodes.{nodes_of}
use Rattle.cov_history.specs.declared.entry.Event.{Event}
use Rattle.cov_history.specs.declared.entry.Event.TheVariants.{Admit, Exclude, Include}
use Rattle.cov_history.specs.declared.entry.Entry.{Entry}
use Rattle.cov_history.specs.declared.asks.Ask.{Ask}
use Rattle.cov_history.specs.declared.asks.Ask.TheVariants as ask
use Rattle.cov_history.specs.Tallies.{tally}
use Rattle.cov_history.specs.Tables.{fits}
use Rattle.cov_history.specs.Ranking.{ranking}
use Rattle.cov_history.specs.History.{Test, design_of, tests_of, kept, count_of, has_stop, is_revise, is_test_or_revise, may_follow, is_legal}
use Rattle.cov_history.specs.Coverage.{coverage, covered_under, live_under, is_covered}
use Rattle.cov_history.specs.Answers.{answer_at, entries_of, is_made, made, stands_since, Suits, by, excluded_at}

-- ---- what the words of counting and ranking are

-- The list is the tally of a design and a record, and no other list is.
pub record OneTally (d : Design) (r : Record) : Type 0 where
  pub is : IsTally d r (tally d r)
  pub only : (counts : List ℕ) → IsTally d r counts → counts ≡ tally d r

abbrev pub TallyIs : Type 0
TallyIs = (d : Design) (r : Record) → OneTally d r

-- The list is the greedy ranking of tests, and no other list is.
pub record OneRanking (tests : List Rows) (wanted : List (ℕ × ℕ)) : Type 0 where
  pub is : IsRanking tests wanted (ranking tests wanted)
  pub only : (ranked : List Ranked) → IsRanking tests wanted ranked → ranked ≡ ranking tests wanted

abbrev pub RankingIs : Type 0
RankingIs = (tests : List Rows) (wanted : List (ℕ × ℕ)) → OneRanking tests wanted

-- ---- answers and legality

-- That a history is legal is known in one way at most.
abbrev pub LegalIsOne : Type 0
LegalIsOne = (opening : Design) (h : List Entry) → IsProp (is_legal opening h ≡ true)

-- the ask was made for a history that has moved on since: a revision stands behind it, or, for a revision, a test
abbrev pub has_moved : List Entry → Ask → Bool
has_moved h (ask.Admit since r) = stands_since is_revise h since
has_moved h (ask.Revise since revision) = stands_since is_test_or_revise h since
has_moved h other = false

-- An answer is New or Changed exactly where the ask has an entry that may follow, and the history hasn't moved on.
abbrev pub MadeWhereItMayFollow : Type 0
MadeWhereItMayFollow = (opening : Design) (h : List Entry) (caller : ℕ) (a : Ask) → is_legal opening h ≡ true → Suits opening h a
    → is_made (answer_at opening h caller a) ≡ (list_any (may_follow opening h) (entries_of caller a) && not (has_moved h a))

-- Along a legal history the same records fit.
abbrev pub FitsStay : Type 0
FitsStay = (opening : Design) (h : List Entry) (r : Record) → is_legal opening h ≡ true → fits (design_of opening h) r ≡ fits opening r

-- What an answer adds keeps the history legal.
abbrev pub StaysLegal : Type 0
StaysLegal = (opening : Design) (h : List Entry) (caller : ℕ) (a : Ask) → is_legal opening h ≡ true → Suits opening h a
    → is_legal opening (h ++ made caller a (answer_at opening h caller a)) ≡ true

-- ---- coverage

-- Coverage is at most the whole, and no more bins are covered than are live.
pub record IsWithin (nodes : List Node) (count : ℕ → ℕ) (excluded : ℕ → Bool) (n : ℕ) : Type 0 where
  pub millionths : coverage nodes count excluded n ≤ whole
  pub covered : covered_under nodes count excluded n ≤ length (live_under nodes excluded n)

abbrev pub CoverageIsWithin : Type 0
CoverageIsWithin = (nodes : List Node) (count : ℕ → ℕ) (excluded : ℕ → Bool) (n : ℕ) → IsWithin nodes count excluded n

-- As a test is admitted, a bin that is covered stays covered, and no node's coverage falls, whatever is excluded.
pub record NeverFalls (opening : Design) (h : List Entry) (caller : ℕ) (r : Record) (n : ℕ) : Type 0 where
  pub covered : is_covered (nodes_of (design_of opening h)) (count_of opening h) n ≡ true → is_covered (nodes_of (design_of opening (h ++ by caller (Admit r) ∷ []))) (count_of opening (h ++ by caller (Admit r) ∷ [])) n ≡ true
  pub millionths : coverage (nodes_of (design_of opening h)) (count_of opening h) (excluded_at opening h) n
      ≤ coverage (nodes_of (design_of opening (h ++ by caller (Admit r) ∷ []))) (count_of opening (h ++ by caller (Admit r) ∷ [])) (excluded_at opening (h ++ by caller (Admit r) ∷ [])) n

abbrev pub AdmissionsNeverLower : Type 0
AdmissionsNeverLower = (opening : Design) (h : List Entry) (caller : ℕ) (r : Record) (n : ℕ) → NeverFalls opening h caller r n

-- ---- exclusions

abbrev pub is_exclusion : Event → Bool
is_exclusion (Exclude path) = true
is_exclusion (Include path) = true
is_exclusion other = false

-- Without its exclusions and inclusions a history has the same counts.
abbrev pub ExclusionsChangeNoCount : Type 0
ExclusionsChangeNoCount = (opening : Design) (h : List Entry) (bin : ℕ) → count_of opening (filter (λ e. not (is_exclusion e.event)) h) bin ≡ count_of opening h bin

-- it excludes or includes another path, or is of another kind
abbrev pub spares : (path : List ℕ) → Event → Bool
spares path (Exclude p) = not (bytes_eq p path)
spares path (Include p) = not (bytes_eq p path)
spares path other = true

-- an Exclude of a path, then these entries, then an Include of it
abbrev pub excluded_for : (a b : ℕ) → (path : List ℕ) → List Entry → List Entry
excluded_for a b path es = by a (Exclude path) ∷ (es ++ by b (Include path) ∷ [])

-- a test without its point
abbrev pub AreSameTests : (tests others : List Test) → Type 0
AreSameTests tests others = map (λ t. t.content) tests ≡ map (λ t. t.content) others

-- the asks whose answers don't name points of tests
abbrev pub is_pointless : Ask → Bool
is_pointless (ask.Counts first path) = true
is_pointless (ask.TestCounts first id path) = true
is_pointless (ask.Illegal first) = true
is_pointless (ask.Coverage path) = true
is_pointless ask.Rank = true
is_pointless (ask.NameOf bin) = true
is_pointless (ask.Fetch place offset) = true
is_pointless other = false

-- a row of a test without its point
abbrev pub without_point : HistoryNode → HistoryNode
without_point row = record {
  kind = row.kind;
  point = 0;
  status = row.status;
  seed = row.seed;
  time = row.time;
  digest = row.digest;
  id = row.id;
  user = row.user;
}

-- both answers tell the same number of tests, and the same rows of them in the same order but for their points
abbrev pub AreRowsAlike : (given other : Answer) → Type 0
AreRowsAlike (answers.TestRows total rows) (answers.TestRows others more) =
    (total ≡ others) × (map without_point rows ≡ map without_point more)
AreRowsAlike given other = ⊥

-- An Include undoes the Exclude before it, whatever came between that spares its path: the history without the two is
-- legal, has the same tests apart from their points, tells rows of them that are alike, and has the same answers to the
-- asks whose answers don't name points.
pub record Undoes (opening : Design) (h es : List Entry) (a b : ℕ) (path : List ℕ) : Type 0 where
  pub legal : is_legal opening (h ++ es) ≡ true
  pub tests : AreSameTests (tests_of (h ++ excluded_for a b path es)) (tests_of (h ++ es))
  pub rows : (caller first : ℕ)
      → AreRowsAlike (answer_at opening (h ++ excluded_for a b path es) caller (ask.Tests first))
      (answer_at opening (h ++ es) caller (ask.Tests first))
  pub answers : (caller : ℕ) (query : Ask) → is_pointless query ≡ true → answer_at opening (h ++ excluded_for a b path es) caller query ≡ answer_at opening (h ++ es) caller query

abbrev pub IncludeUndoes : Type 0
IncludeUndoes = (opening : Design) (h es : List Entry) (a b : ℕ) (path : List ℕ) → list_all (λ e. spares path e.event) es ≡ true → is_legal opening (h ++ excluded_for a b path es) ≡ true → Undoes opening h es a b path

-- ---- records that are there, callers, and the end

-- A record that is kept is answered Here with its first point; no entry is made, so no later answer is another.
pub record IsHere (opening : Design) (h : List Entry) (caller since : ℕ) (r : Record) (t : Test) : Type 0 where
  pub answer : answer_at opening h caller (ask.Admit since r) ≡ answers.Here t.point
  pub no_entry : made caller (ask.Admit since r) (answer_at opening h caller (ask.Admit since r)) ≡ []

abbrev pub RepeatsAreHere : Type 0
RepeatsAreHere = (opening : Design) (h : List Entry) (caller since : ℕ) (r : Record) (t : Test) → kept h r.id ≡ Some t → spelling t.content ≡ spelling r → IsHere opening h caller since r t

-- Who made the entries, and who asks, changes neither legality nor any answer.
pub record AreSame (opening : Design) (a b : List Entry) : Type 0 where
  pub legal : is_legal opening a ≡ is_legal opening b
  pub answers : (caller other : ℕ) (query : Ask) → answer_at opening a caller query ≡ answer_at opening b other query

abbrev pub CallersDontMatter : Type 0
CallersDontMatter = (opening : Design) (a b : List Entry) → map (λ e. e.event) a ≡ map (λ e. e.event) b → AreSame opening a b

-- After a Stop nothing is added, and no history with an entry behind a Stop is legal.
pub record HasEnded (opening : Design) (h : List Entry) : Type 0 where
  pub no_entry : (caller : ℕ) (a : Ask) → made caller a (answer_at opening h caller a) ≡ []
  pub none_follows : (e : Entry) (es : List Entry) → is_legal opening (h ++ e ∷ es) ≡ false

abbrev pub NothingAfterStop : Type 0
NothingAfterStop = (opening : Design) (h : List Entry) → has_stop h ≡ true → HasEnded opening h
