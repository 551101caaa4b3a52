-- What an answer reads of a history.
use Rattle.std.proofs.Common.{◌≡◌, ℕ, zero, suc, true, false, ◌&&◌, List, [], ◌∷◌, length, map, refl, sym, ap, subst, ◌∙◌, true≢false}
use Rattle.std.specs.Prelude.{Option, Some, None, option_map, find, slice_get, bytes_eq, if◌then◌else◌, take, drop}
use Rattle.std.proofs.lemmas.List.{length-map}
use Rattle.cov_ground.specs.Limits.{most_test_rows}
use Rattle.design_data.specs.declared.design.Design.{Design}
use Rattle.record_codec.specs.declared.record.Record.{Record}
use Rattle.record_codec.specs.Spelling.{spelling}
use Rattle.tally.specs.Rows.{rows_from}
use Rattle.ucis_model.specs.declared.answers.Answer.{Answer}
use Rattle.ucis_model.specs.declared.answers.Answer.TheVariants as answers
use Rattle.ucis_model.specs.declared.answers.HistoryNode.{HistoryNode}
use Rattle.ucis_model.specs.Nodes.{nodes_of}
use Rattle.ucis_model.specs.Paths.{node_at, find_in, path_of}
use Rattle.cov_history.specs.declared.entry.Entry.{Entry}
use Rattle.cov_history.specs.declared.asks.Ask.{Ask}
use Rattle.cov_history.specs.declared.asks.Ask.TheVariants as ask
use Rattle.cov_history.specs.Tallies.{tally}
use Rattle.cov_history.specs.Nodes.{node_of_bin, bins_under}
use Rattle.cov_history.specs.Coverage.{is_excluded, live_under}
use Rattle.cov_history.specs.Ranking.{ranking}
use Rattle.cov_history.specs.History.{Test, design_of, tests_of, contents, kept, hits, hits_of, count_of, out_of, has_stop}
use Rattle.cov_history.specs.Answers.{excluded_at, rows, cover_row, illegal_hit, at_node, rows_at, test_counts_by, chunk, counts_at, test_counts_at, illegal_at, coverage_at, rank_at, name_at, fetch_at, test_row, tests_at, is_made, table, unless_stopped, answer_at}
use Rattle.cov_history.specs.Laws.{is_pointless, without_point, AreRowsAlike}
use Rattle.cov_history.proofs.Bools.{by_bool, and_false}

-- ---- tests without their points

abbrev content : Test → Record
content t = t.content

find_content : (id : List ℕ) (ts : List Test) → option_map content (find (λ t. bytes_eq id t.content.id) ts) ≡ find (λ r. bytes_eq id r.id) (map content ts)
find_content id [] = refl
find_content id (t ∷ ts) = let rest = find_content id ts in by_bool (bytes_eq id t.content.id) (λ yes. rw yes refl) (λ no. rw no rest)

get_content : (ts : List Test) (i : ℕ) → option_map content (slice_get ts i) ≡ slice_get (map content ts) i
get_content [] i = refl
get_content (t ∷ ts) zero = refl
get_content (t ∷ ts) (suc i) = get_content ts i

map_content : {B : Type 0} (f : Record → B) (ts : List Test) → map (λ (t : Test). f t.content) ts ≡ map f (map content ts)
map_content f [] = refl
map_content f (t ∷ ts) = ap (λ rest. f t.content ∷ rest) (map_content f ts)

-- ---- answers by the records

abbrev counts_by : (opening : Design) → List Entry → Option Record → (first : ℕ) → (path : List ℕ) → Answer
counts_by opening h None first path = answers.NoSuchTest
counts_by opening h (Some r) first path = rows_at opening h (hits (design_of opening h) r) first path

counts_by_is : (opening : Design) (h : List Entry) (o : Option Test) (first : ℕ) (path : List ℕ) → test_counts_by opening h o first path ≡ counts_by opening h (option_map content o) first path
counts_by_is opening h None first path = refl
counts_by_is opening h (Some t) first path = refl

abbrev chunk_by : Option Record → (offset : ℕ) → Answer
chunk_by None offset = answers.NoSuchTest
chunk_by (Some r) offset = answers.Chunk (length (spelling r)) (take 1048576 (drop offset (spelling r)))

chunk_by_is : (o : Option Test) (offset : ℕ) → chunk o offset ≡ chunk_by (option_map content o) offset
chunk_by_is None offset = refl
chunk_by_is (Some t) offset = refl

module _ (opening : Design) (a b : List Entry) (d : design_of opening a ≡ design_of opening b) (c : contents a ≡ contents b) (o : out_of a ≡ out_of b) where
  same_counts : (first : ℕ) (path : List ℕ) → counts_at opening a first path ≡ counts_at opening b first path
  same_counts first path = λ i. at_node (find_in (nodes_of (d i)) path) (λ n. rows (nodes_of (d i)) (hits_of (d i) (c i)) (is_excluded (nodes_of (d i)) (o i)) first (bins_under (nodes_of (d i)) n))

  same_kept : (id : List ℕ) → option_map content (kept a id) ≡ option_map content (kept b id)
  same_kept id = find_content id (tests_of a) ∙ ap (find (λ (r : Record). bytes_eq id r.id)) c ∙ sym (find_content id (tests_of b))

  same_by : (r : Option Record) (first : ℕ) (path : List ℕ) → counts_by opening a r first path ≡ counts_by opening b r first path
  same_by None first path = refl
  same_by (Some r) first path = λ i. at_node (find_in (nodes_of (d i)) path) (λ n. rows (nodes_of (d i)) (hits (d i) r) (is_excluded (nodes_of (d i)) (o i)) first (bins_under (nodes_of (d i)) n))

  same_test_counts : (first : ℕ) (id path : List ℕ) → test_counts_at opening a first id path ≡ test_counts_at opening b first id path
  same_test_counts first id path =
      counts_by_is opening a (kept a id) first path ∙ ap (λ r. counts_by opening a r first path) (same_kept id) ∙ same_by (option_map content (kept b id)) first path ∙ sym (counts_by_is opening b (kept b id) first path)

  same_illegal : (first : ℕ) → illegal_at opening a first ≡ illegal_at opening b first
  same_illegal first = λ i. rows (nodes_of (d i)) (hits_of (d i) (c i)) (is_excluded (nodes_of (d i)) (o i)) first (illegal_hit (nodes_of (d i)) (hits_of (d i) (c i)))

  same_coverage : (path : List ℕ) → coverage_at opening a path ≡ coverage_at opening b path
  same_coverage path = λ i. at_node (find_in (nodes_of (d i)) path) (λ n. answers.CoverageIs (cover_row (nodes_of (d i)) (hits_of (d i) (c i)) (is_excluded (nodes_of (d i)) (o i)) n))

  abbrev ranked : Design → List Record → List (List ℕ) → Answer
  ranked design rs out = answers.RankRows (ranking (map (λ r. rows_from 0 (tally design r)) rs) (map (λ n. ((node_at (nodes_of design) n).first_bin, (node_at (nodes_of design) n).at_least)) (live_under (nodes_of design) (is_excluded (nodes_of design) out) 0)))

  ranked_is : (h : List Entry) → rank_at opening h ≡ ranked (design_of opening h) (contents h) (out_of h)
  ranked_is h = ap (λ ts. answers.RankRows (ranking ts (map (λ n. ((node_at (nodes_of (design_of opening h)) n).first_bin, (node_at (nodes_of (design_of opening h)) n).at_least)) (live_under (nodes_of (design_of opening h)) (excluded_at opening h) 0)))) (map_content (λ r. rows_from 0 (tally (design_of opening h) r)) (tests_of h))

  same_rank : rank_at opening a ≡ rank_at opening b
  same_rank = ranked_is a ∙ (λ i. ranked (d i) (c i) (o i)) ∙ sym (ranked_is b)

  same_name : (bin : ℕ) → name_at opening a bin ≡ name_at opening b bin
  same_name bin = λ i. at_node (node_of_bin (nodes_of (d i)) bin) (λ n. answers.PathIs (path_of (nodes_of (d i)) n))

  same_fetch : (place offset : ℕ) → fetch_at a place offset ≡ fetch_at b place offset
  same_fetch place offset =
      chunk_by_is (slice_get (tests_of a) place) offset
      ∙ ap (λ r. chunk_by r offset) (get_content (tests_of a) place ∙ ap (λ (rs : List Record). slice_get rs place) c ∙ sym (get_content (tests_of b) place))
      ∙ sym (chunk_by_is (slice_get (tests_of b) place) offset)

  pub same_table : (caller other : ℕ) (query : Ask) → is_pointless query ≡ true → table opening a caller query ≡ table opening b other query
  unfolding table
  same_table caller other (ask.Counts first path) q = same_counts first path
  same_table caller other (ask.TestCounts first id path) q = same_test_counts first id path
  same_table caller other (ask.Illegal first) q = same_illegal first
  same_table caller other (ask.Coverage path) q = same_coverage path
  same_table caller other ask.Rank q = same_rank
  same_table caller other (ask.NameOf bin) q = same_name bin
  same_table caller other (ask.Fetch place offset) q = same_fetch place offset
  same_table caller other (ask.Hello point) q = absurd (true≢false (sym q))
  same_table caller other (ask.Tests first) q = absurd (true≢false (sym q))
  same_table caller other (ask.Admit since r) q = absurd (true≢false (sym q))
  same_table caller other (ask.Exclude path) q = absurd (true≢false (sym q))
  same_table caller other (ask.Include path) q = absurd (true≢false (sym q))
  same_table caller other (ask.Revise since revision) q = absurd (true≢false (sym q))

-- ---- what makes nothing is answered by the table

pub quiet : (h : List Entry) (x : Answer) → is_made x ≡ false → unless_stopped h x ≡ x
quiet h x none = ap (λ b. if has_stop h && b then answers.Stopped else x) none ∙ ap (λ b. if b then answers.Stopped else x) (and_false (has_stop h))

quiet_node : (o : Option ℕ) (f : ℕ → Answer) → ((n : ℕ) → is_made (f n) ≡ false) → is_made (at_node o f) ≡ false
quiet_node None f made = refl
quiet_node (Some n) f made = made n

quiet_test : (opening : Design) (h : List Entry) (o : Option Test) (first : ℕ) (path : List ℕ) → is_made (test_counts_by opening h o first path) ≡ false
quiet_test opening h None first path = refl
quiet_test opening h (Some t) first path = quiet_node (find_in (nodes_of (design_of opening h)) path) (λ n. rows (nodes_of (design_of opening h)) (hits (design_of opening h) t.content) (excluded_at opening h) first (bins_under (nodes_of (design_of opening h)) n)) (λ n. refl)

quiet_chunk : (o : Option Test) (offset : ℕ) → is_made (chunk o offset) ≡ false
quiet_chunk None offset = refl
quiet_chunk (Some t) offset = refl

pub quiet_query : (opening : Design) (h : List Entry) (caller : ℕ) (query : Ask) → is_pointless query ≡ true → is_made (table opening h caller query) ≡ false
unfolding table
quiet_query opening h caller (ask.Counts first path) q = quiet_node (find_in (nodes_of (design_of opening h)) path) (λ n. rows (nodes_of (design_of opening h)) (count_of opening h) (excluded_at opening h) first (bins_under (nodes_of (design_of opening h)) n)) (λ n. refl)
quiet_query opening h caller (ask.TestCounts first id path) q = quiet_test opening h (kept h id) first path
quiet_query opening h caller (ask.Illegal first) q = refl
quiet_query opening h caller (ask.Coverage path) q = quiet_node (find_in (nodes_of (design_of opening h)) path) (λ n. answers.CoverageIs (cover_row (nodes_of (design_of opening h)) (count_of opening h) (excluded_at opening h) n)) (λ n. refl)
quiet_query opening h caller ask.Rank q = refl
quiet_query opening h caller (ask.NameOf bin) q = quiet_node (node_of_bin (nodes_of (design_of opening h)) bin) (λ n. answers.PathIs (path_of (nodes_of (design_of opening h)) n)) (λ n. refl)
quiet_query opening h caller (ask.Fetch place offset) q = quiet_chunk (slice_get (tests_of h) place) offset
quiet_query opening h caller (ask.Hello point) q = absurd (true≢false (sym q))
quiet_query opening h caller (ask.Tests first) q = absurd (true≢false (sym q))
quiet_query opening h caller (ask.Admit since r) q = absurd (true≢false (sym q))
quiet_query opening h caller (ask.Exclude path) q = absurd (true≢false (sym q))
quiet_query opening h caller (ask.Include path) q = absurd (true≢false (sym q))
quiet_query opening h caller (ask.Revise since revision) q = absurd (true≢false (sym q))

-- alike histories answer such a query alike
pub same_answer : (opening : Design) (a b : List Entry) → design_of opening a ≡ design_of opening b → contents a ≡ contents b → out_of a ≡ out_of b
    → (caller other : ℕ) (query : Ask) → is_pointless query ≡ true → answer_at opening a caller query ≡ answer_at opening b other query
same_answer opening a b d c o caller other query q =
    quiet a (table opening a caller query) (quiet_query opening a caller query q) ∙ same_table opening a b d c o caller other query q ∙ sym (quiet b (table opening b other query) (quiet_query opening b other query q))

-- ---- rows of tests without their points

-- the row of a record, without a point
abbrev bare_row : Record → HistoryNode
bare_row r = without_point (test_row (record { point = 0; content = r }))

bare_rows : (most first : ℕ) (ts : List Test) → map without_point (map test_row (take most (drop first ts))) ≡ map bare_row (take most (drop first (map content ts)))
bare_rows zero first ts = refl
bare_rows (suc most) zero [] = refl
bare_rows (suc most) (suc first) [] = refl
bare_rows (suc most) zero (t ∷ ts) = ap (λ rest. bare_row t.content ∷ rest) (bare_rows most zero ts)
bare_rows (suc most) (suc first) (t ∷ ts) = bare_rows (suc most) first ts

pub rows_alike : (opening : Design) (a b : List Entry) → contents a ≡ contents b → (caller first : ℕ) → AreRowsAlike (answer_at opening a caller (ask.Tests first)) (answer_at opening b caller (ask.Tests first))
unfolding table
rows_alike opening a b c caller first =
    subst (λ x. AreRowsAlike x (answer_at opening b caller (ask.Tests first))) (sym (quiet a (tests_at a first) refl))
    (subst (λ x. AreRowsAlike (tests_at a first) x) (sym (quiet b (tests_at b first) refl)) (
      sym (length-map (tests_of a) content) ∙ ap (λ (rs : List Record). length rs) c ∙ length-map (tests_of b) content,
      bare_rows most_test_rows first (tests_of a) ∙ ap (λ (rs : List Record). map bare_row (take most_test_rows (drop first rs))) c ∙ sym (bare_rows most_test_rows first (tests_of b)),
    ))
