-- Each answer at a legal history has a spelling that a frame can hold.
use Rattle.std.proofs.Common.{◌≡◌, ℕ, zero, suc, ◌+◌, ◌-◌, ◌*◌, ◌≤◌, Bool, true, false, ◌&&◌, List, [], ◌∷◌, ◌++◌, length, map, take, drop, refl, ap, ◌∙◌, arith, length-append, Option, Some, None, if◌then◌else◌}
use Rattle.std.specs.Prelude.{min, sum_by, nat_lt, bytes_eq, find, slice_get}
use Rattle.std.specs.List.{list_all, AllByRecursion}
use Rattle.std.specs.Option.{option_map_or}
use Rattle.std.proofs.lemmas.Bool.{le-leb}
use Rattle.std.proofs.lemmas.List.{length-map, length-take}
use Rattle.std.proofs.lemmas.List.Sums.{sum_by-cons}
use Rattle.sha2.specs.Sha256.{sha256}
use Rattle.sha2.proofs.Facts256.{length-sha256}
use Rattle.cov_ground.specs.Limits.{most_rows, most_test_rows, longest_chunk}
use Rattle.tally.specs.Rows.{rows_from}
use Rattle.tally.specs.declared.ranked.Ranked.{Ranked}
use Rattle.rank_report.specs.Ranking.{Test as Tallied}
use Rattle.design_data.specs.declared.design.Design.{Design}
use Rattle.record_codec.specs.declared.record.Record.{Record}
use Rattle.record_codec.specs.Spelling.{spelling}
use Rattle.ucis_model.specs.declared.node.Node.{Node}
use Rattle.ucis_model.specs.declared.answers.Which.{Which}
use Rattle.ucis_model.specs.declared.answers.Which.TheVariants.{Tests}
use Rattle.ucis_model.specs.declared.answers.Answer.{Answer}
use Rattle.ucis_model.specs.declared.answers.Answer.TheVariants as answer
use Rattle.ucis_model.specs.Paths.{find_in, path_of}
use Rattle.cov_history.specs.declared.entry.Event.TheVariants as event
use Rattle.cov_history.specs.declared.entry.Entry.{Entry}
use Rattle.cov_history.specs.declared.asks.Ask.{Ask}
use Rattle.cov_history.specs.declared.asks.Ask.TheVariants as ask
use Rattle.cov_history.specs.Tallies.{tally}
use Rattle.cov_history.specs.Nodes.{node_of_bin, bins_under}
use Rattle.cov_history.specs.Ranking.{next_row, ranking_after, ranking}
use Rattle.cov_history.specs.History.{Test, design_of, tests_of, kept, hits, count_of, has, out_of, has_stop, is_revise, is_test_or_revise, passed, is_legal}
use Rattle.cov_history.specs.Answers.{nodes_at, answer_at, table, unless_stopped, at_node, rows, rows_at, count_row, cover_row, excluded_at, illegal_hit, test_row, test_counts_by, chunk, unless_full, change, admit_by, stands_since, by, is_made, wanted_at}
use Rattle.cov_history.proofs.Bools.{both}
use Rattle.cov_history.proofs.Legal.{legal_within, within_of}
use Rattle.cov_proto.specs.Limits.{IsTestRow}
use Rattle.answer_frames.specs.Held.{most_fields, most_count_rows, most_rank_rows, is_test, test_size, is_held, HasDigests}
use Rattle.answer_frames.proofs.Writing.{held_writable, path_held, is_test_all}
use Rattle.session_laws.specs.Fitting.{HasFrame, ArePathsShort, AnswersHaveFrames}

abbrev Good : Answer → Type 0
Good a = (is_held a ≡ true) × HasDigests a

good_if : (b : Bool) (x y : Answer) → Good x → Good y → Good (if b then x else y)
good_if true x y g h = g
good_if false x y g h = h

good_node : (o : Option ℕ) (f : ℕ → Answer) → ((n : ℕ) → Good (f n)) → Good (at_node o f)
good_node None f g = (refl, tt)
good_node (Some n) f g = g n

-- ---- rows

good_rows : (nodes : List Node) (count : ℕ → ℕ) (excluded : ℕ → Bool) (first : ℕ) (bins : List ℕ) → Good (rows nodes count excluded first bins)
good_rows nodes count excluded first bins =
    let page = take most_rows (drop first bins) in
    (le-leb (length (map (count_row nodes count excluded) page)) most_count_rows (omega (arith, length-map page (count_row nodes count excluded), length-take most_rows (drop first bins))), tt)

good_rows_at : (opening : Design) (h : List Entry) (count : ℕ → ℕ) (first : ℕ) (path : List ℕ) → Good (rows_at opening h count first path)
good_rows_at opening h count first path =
    good_node (find_in (nodes_at opening h) path) (λ n. rows (nodes_at opening h) count (excluded_at opening h) first (bins_under (nodes_at opening h) n)) (λ n. good_rows (nodes_at opening h) count (excluded_at opening h) first (bins_under (nodes_at opening h) n))

good_test_counts : (opening : Design) (h : List Entry) (o : Option Test) (first : ℕ) (path : List ℕ) → Good (test_counts_by opening h o first path)
good_test_counts opening h None first path = (refl, tt)
good_test_counts opening h (Some t) first path = good_rows_at opening h (hits (design_of opening h) t.content) first path

-- ---- tests

row_is : (t : Test) → IsTestRow (test_row t)
row_is t =
    let start = t.content.within.start in
    record {
      kind = refl;
      status = start.status;
      id = record { some = start.id.long_enough; short = start.id.short_enough; fit = start.id.bytes };
      user = record { some = start.user.long_enough; short = start.user.short_enough; fit = start.user.bytes };
    }

all_tests : (ts : List Test) → list_all is_test (map test_row ts) ≡ true
all_tests [] = refl
all_tests (t ∷ ts) = both (is_test (test_row t)) (list_all is_test (map test_row ts)) (is_test_all (test_row t) (row_is t)) (all_tests ts)

all_short : (ts : List Test) → sum_by test_size (map test_row ts) ≤ 600 * length ts
all_short [] = omega arith
all_short (t ∷ ts) = let row = row_is t in omega (arith, sum_by-cons test_size (test_row t) (map test_row ts), all_short ts, row.id.short, row.user.short)

all_digests : (ts : List Test) → AllByRecursion (λ row. length row.digest ≡ 32) (map test_row ts)
all_digests [] = tt
all_digests (t ∷ ts) = (length-sha256 (spelling t.content), all_digests ts)

good_tests : (total : ℕ) (ts : List Test) → length ts ≤ most_test_rows → Good (answer.TestRows total (map test_row ts))
good_tests total ts few = (both (list_all is_test (map test_row ts)) _ (all_tests ts) (le-leb (sum_by test_size (map test_row ts)) (most_fields - 4) (omega (arith, few, all_short ts))), all_digests ts)

-- ---- the ranking

ranked_next : (most : ℕ) (tests : List Tallied) (wanted : List (ℕ × ℕ)) (ranked : List Ranked) (bound : ℕ) (o : Option Ranked) → length ranked ≤ bound
    → ((row : Ranked) → length (ranking_after most tests wanted (ranked ++ row ∷ [])) ≤ bound) → length (option_map_or (λ row. ranking_after most tests wanted (ranked ++ row ∷ [])) o ranked) ≤ bound
ranked_next most tests wanted ranked bound None le rest = le
ranked_next most tests wanted ranked bound (Some row) le rest = rest row

ranked_few : (most : ℕ) (tests : List Tallied) (wanted : List (ℕ × ℕ)) (ranked : List Ranked) (bound : ℕ) → length ranked + most ≤ bound → length (ranking_after most tests wanted ranked) ≤ bound
ranked_few zero tests wanted ranked bound le = omega (arith, le)
ranked_few (suc most) tests wanted ranked bound le =
    ranked_next most tests wanted ranked bound (next_row tests wanted ranked) (omega (arith, le)) (λ row. ranked_few most tests wanted (ranked ++ row ∷ []) bound (omega (arith, le, length-append ranked (row ∷ []))))

ranking_few : (tests : List Tallied) (wanted : List (ℕ × ℕ)) → length (ranking tests wanted) ≤ length tests
unfolding ranking
ranking_few tests wanted = ranked_few (length tests) tests wanted [] (length tests) (omega arith)

good_rank : (tests : List Tallied) (wanted : List (ℕ × ℕ)) → length tests ≤ 4096 → Good (answer.RankRows (ranking tests wanted))
good_rank tests wanted few = (le-leb (length (ranking tests wanted)) most_rank_rows (omega (arith, few, ranking_few tests wanted)), tt)

-- ---- bytes of a record, and changes

good_chunk : (o : Option Test) (offset : ℕ) → Good (chunk o offset)
good_chunk None offset = (refl, tt)
good_chunk (Some t) offset = (le-leb (length (take longest_chunk (drop offset (spelling t.content)))) (most_fields - 8) (omega (arith, length-take longest_chunk (drop offset (spelling t.content)))), tt)

good_full : (opening : Design) (before after : List Entry) (o : Option Which) (a : Answer) → Good a → Good (unless_full opening before after o a)
good_full opening before after None a g = g
good_full opening before after (Some which) a g = (refl, tt)

good_change : (opening : Design) (h : List Entry) (e : Entry) (a : Answer) → Good a → Good (change opening h e a)
good_change opening h e a g = good_full opening h (h ++ e ∷ []) (passed opening (h ++ e ∷ [])) a g

good_admit : (opening : Design) (h : List Entry) (since : ℕ) (e : Entry) (r : Record) (o : Option Test) → Good (admit_by opening h since e r o)
good_admit opening h since e r (Some t) = good_if (bytes_eq (spelling t.content) (spelling r)) (answer.Here t.point) (answer.IdTaken (sha256 (spelling t.content))) (refl, tt) (refl, length-sha256 (spelling t.content))
good_admit opening h since e r None = good_if (stands_since is_revise h since) (answer.Moved since) (change opening h e answer.New) (refl, tt) (good_change opening h e answer.New (refl, tt))

-- ---- all asks

module _ (opening : Design) (h : List Entry) (caller : ℕ) (legal : is_legal opening h ≡ true) (paths : ArePathsShort (nodes_at opening h)) where
  good_table : (a : Ask) → Good (table opening h caller a)
  unfolding table
  good_table (ask.Hello point) = good_if (nat_lt (length h) point) (answer.Ahead (length h)) (answer.Welcome (design_of opening h).bin_count) (refl, tt) (refl, tt)
  good_table (ask.Counts first path) = good_rows_at opening h (count_of opening h) first path
  good_table (ask.Coverage path) = good_node (find_in (nodes_at opening h) path) (λ n. answer.CoverageIs (cover_row (nodes_at opening h) (count_of opening h) (excluded_at opening h) n)) (λ n. (refl, tt))
  good_table (ask.Illegal first) = good_rows (nodes_at opening h) (count_of opening h) (excluded_at opening h) first (illegal_hit (nodes_at opening h) (count_of opening h))
  good_table (ask.Tests first) = good_tests (length (tests_of h)) (take most_test_rows (drop first (tests_of h))) (omega (arith, length-take most_test_rows (drop first (tests_of h))))
  good_table (ask.TestCounts first id path) = good_test_counts opening h (kept h id) first path
  good_table ask.Rank =
      let tests : List Tallied = map (λ (t : Test). rows_from 0 (tally (design_of opening h) t.content)) (tests_of h) in
      good_rank tests (wanted_at opening h) (omega (arith, length-map (tests_of h) (λ (t : Test). rows_from 0 (tally (design_of opening h) t.content)), within_of opening h (legal_within opening h legal) Tests))
  good_table (ask.NameOf bin) = good_node (node_of_bin (nodes_at opening h) bin) (λ n. answer.PathIs (path_of (nodes_at opening h) n)) (λ n. (path_held (path_of (nodes_at opening h) n) (paths n), tt))
  good_table (ask.Admit since r) = good_admit opening h since (by caller (event.Admit r)) r (kept h r.id)
  good_table (ask.Exclude path) = good_node (find_in (nodes_at opening h) path) (λ n. if has path (out_of h) then answer.AlreadyExcluded else change opening h (by caller (event.Exclude path)) answer.Changed) (λ n. good_if (has path (out_of h)) answer.AlreadyExcluded (change opening h (by caller (event.Exclude path)) answer.Changed) (refl, tt) (good_change opening h (by caller (event.Exclude path)) answer.Changed (refl, tt)))
  good_table (ask.Include path) = good_node (find_in (nodes_at opening h) path) (λ n. if has path (out_of h) then answer.Changed else answer.NotExcluded) (λ n. good_if (has path (out_of h)) answer.Changed answer.NotExcluded (refl, tt) (refl, tt))
  good_table (ask.Revise since revision) = good_if (stands_since is_test_or_revise h since) (answer.Moved since) (change opening h (by caller (event.Revise revision)) answer.Changed) (refl, tt) (good_change opening h (by caller (event.Revise revision)) answer.Changed (refl, tt))
  good_table (ask.Fetch place offset) = good_chunk (slice_get (tests_of h) place) offset

  good_answer : (a : Ask) → Good (answer_at opening h caller a)
  good_answer a = good_if (has_stop h && is_made (table opening h caller a)) answer.Stopped (table opening h caller a) (refl, tt) (good_table a)

  has_frame : (a : Ask) → HasFrame (answer_at opening h caller a)
  has_frame a = let g = good_answer a in held_writable (answer_at opening h caller a) g.0 g.1

pub answers_have_frames : AnswersHaveFrames
answers_have_frames opening h caller a legal paths = has_frame opening h caller legal paths a
