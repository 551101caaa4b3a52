-- The answers to questions, from what was worked out for them.
use Rattle.std.proofs.Common.{◌≡◌, ◌∙◌, ℕ, List, [], ◌∷◌, ◌++◌, length, map, take, drop, refl, sym, ap, subst, Bool, true, false, Option, Some, None, option_map}
use Rattle.std.specs.Prelude.{slice_get, slice_index, find, bytes_eq, if◌then◌else◌, option_to_list}
use Rattle.tally.specs.Rows.{rows_from}
use Rattle.tally.specs.declared.ranked.Ranked.{Ranked}
use Rattle.rank_report.specs.Ranking.{IsRanking, Test as Rows}
use Rattle.rank_report.proofs.OneRanking.{rankings_equal}
use Rattle.design_data.specs.declared.design.Design.{Design}
use Rattle.record_codec.specs.Spelling.{spelling}
use Rattle.ucis_model.specs.declared.node.Node.{Node}
use Rattle.ucis_model.specs.declared.answers.Answer.{Answer}
use Rattle.ucis_model.specs.declared.answers.Answer.TheVariants as answers
use Rattle.ucis_model.specs.declared.answers.HistoryNode.{HistoryNode}
use Rattle.ucis_model.specs.Nodes.{nodes_of}
use Rattle.ucis_model.specs.Paths.{find_in, node_at, path_of}
use Rattle.cov_history.specs.declared.entry.Entry.{Entry}
use Rattle.cov_history.specs.Tallies.{tally}
use Rattle.cov_history.specs.Nodes.{bins_under, node_of_bin}
use Rattle.cov_history.specs.Coverage.{is_excluded, live_under}
use Rattle.cov_history.specs.Ranking.{ranking}
use Rattle.cov_history.specs.History.{Test, design_of, tests_of, contents, out_of, kept, hits, hits_of, is_legal}
use Rattle.cov_history.specs.Sums.{all_hits}
use Rattle.cov_history.specs.Answers.{rows, illegal_hit, at_node, rows_at, test_counts_by, test_counts_at, illegal_at, tests_at, name_at, chunk, fetch_at, wanted_at, rank_at, answer_at, is_made, made, entries_of, Suits}
use Rattle.cov_history.specs.declared.asks.Ask.{Ask}
use Rattle.cov_history.proofs.Made.{stays_legal}
use Rattle.cov_history.proofs.Rankings.{ranking_is}
use Rattle.cov_history.proofs.Summing.{all_hits_at}
use Rattle.history_answers.specs.declared.keeping.Kept.{Kept}
use Rattle.history_answers.specs.Kept.{kept_as, kept_from, rows_of}
use Rattle.history_answers.proofs.Worked.{find_as, get_as, page_as, rows_are, kept_length}

-- what is said of the nodes of a design at the end of a history
module _ (opening d : Design) (h : List Entry) (nodes : List Node) (is : d ≡ design_of opening h) (n : nodes ≡ nodes_of d) where
  all : nodes ≡ nodes_of (design_of opening h)
  all = n ∙ ap nodes_of is

  pub rows_found : (count meant : ℕ → ℕ) (first place : ℕ) (path : List ℕ) (answer : Answer) → find_in nodes path ≡ Some place → ((bin : ℕ) → count bin ≡ meant bin)
      → answer ≡ rows nodes count (is_excluded nodes (out_of h)) first (bins_under nodes place) → answer ≡ rows_at opening h meant first path
  rows_found count meant first place path answer f c e =
      e
      ∙ (λ i. rows nodes (λ bin. c bin i) (is_excluded nodes (out_of h)) first (bins_under nodes place))
      ∙ sym (ap (λ (o : Option ℕ). at_node o (λ m. rows nodes meant (is_excluded nodes (out_of h)) first (bins_under nodes m))) f)
      ∙ (λ i. at_node (find_in (all i) path) (λ m. rows (all i) meant (is_excluded (all i) (out_of h)) first (bins_under (all i) m)))

  -- where no node is found
  pub none_found : (path : List ℕ) (answer : ℕ → Answer) → find_in nodes path ≡ None → answers.NoSuchPath ≡ at_node (find_in (nodes_of (design_of opening h)) path) answer
  none_found path answer f = sym (ap (λ (o : Option ℕ). at_node o answer) f) ∙ ap (λ (ns : List Node). at_node (find_in ns path) answer) all

  pub some_found : (path : List ℕ) (place : ℕ) (answer : ℕ → Answer) → find_in nodes path ≡ Some place → answer place ≡ at_node (find_in (nodes_of (design_of opening h)) path) answer
  some_found path place answer f = sym (ap (λ (o : Option ℕ). at_node o answer) f) ∙ ap (λ (ns : List Node). at_node (find_in ns path) answer) all

  pub illegal_found : (count : List ℕ) (first : ℕ) (answer : Answer) → count ≡ all_hits d (contents h)
      → answer ≡ rows nodes (slice_index count) (is_excluded nodes (out_of h)) first (illegal_hit nodes (slice_index count)) → answer ≡ illegal_at opening h first
  illegal_found count first answer c e =
      let at : (bin : ℕ) → slice_index count bin ≡ hits_of d (contents h) bin = λ bin. ap (λ (ns : List ℕ). slice_index ns bin) c ∙ all_hits_at d (contents h) bin in
      e
      ∙ (λ i. rows nodes (λ bin. at bin i) (is_excluded nodes (out_of h)) first (illegal_hit nodes (λ bin. at bin i)))
      ∙ (λ i. rows (all i) (hits_of (is i) (contents h)) (is_excluded (all i) (out_of h)) first (illegal_hit (all i) (hits_of (is i) (contents h))))

  pub name_found : (bin place : ℕ) → node_of_bin nodes bin ≡ Some place → answers.PathIs (path_of nodes place) ≡ name_at opening h bin
  name_found bin place f =
      sym (ap (λ (o : Option ℕ). at_node o (λ m. answers.PathIs (path_of nodes m))) f) ∙ ap (λ (ns : List Node). at_node (node_of_bin ns bin) (λ m. answers.PathIs (path_of ns m))) all

  pub no_name : (bin : ℕ) → node_of_bin nodes bin ≡ None → answers.NoSuchPath ≡ name_at opening h bin
  no_name bin f =
      sym (ap (λ (o : Option ℕ). at_node o (λ m. answers.PathIs (path_of nodes m))) f) ∙ ap (λ (ns : List Node). at_node (node_of_bin ns bin) (λ m. answers.PathIs (path_of ns m))) all

-- how often all tests hit a bin
pub counts_meant : (opening d : Design) (h : List Entry) (counts : List ℕ) → d ≡ design_of opening h → counts ≡ all_hits d (contents h) → (bin : ℕ) → slice_index counts bin ≡ hits_of (design_of opening h) (contents h) bin
counts_meant opening d h counts is c bin = ap (λ (ns : List ℕ). slice_index ns bin) c ∙ all_hits_at d (contents h) bin ∙ ap (λ (x : Design). hits_of x (contents h) bin) is

-- ---- a test by its id

no_option : {X Y : Type 0} (f : X → Y) (o : Option X) → option_map f o ≡ None → o ≡ None
no_option f None e = refl
no_option f (Some x) e = absurd (cc)

some_option : {X Y : Type 0} (f : X → Y) (o : Option X) (y : Y) → option_map f o ≡ Some y → (x : X) × (o ≡ Some x) × (f x ≡ y)
some_option f None y e = absurd (cc)
some_option f (Some x) y e = (x, refl, (cc))

pub none_kept : (d : Design) (h : List Entry) (id : List ℕ) → find (λ (k : Kept). bytes_eq id k.row.id) (kept_from d 0 h) ≡ None → kept h id ≡ None
none_kept d h id e = no_option (kept_as d) (kept h id) (sym (find_as d id (tests_of h)) ∙ e)

pub some_kept : (d : Design) (h : List Entry) (id : List ℕ) (k : Kept) → find (λ (k : Kept). bytes_eq id k.row.id) (kept_from d 0 h) ≡ Some k → (t : Test) × (kept h id ≡ Some t) × (kept_as d t ≡ k)
some_kept d h id k e = some_option (kept_as d) (kept h id) k (sym (find_as d id (tests_of h)) ∙ e)

pub none_there : (d : Design) (h : List Entry) (place : ℕ) → slice_get (kept_from d 0 h) place ≡ None → slice_get (tests_of h) place ≡ None
none_there d h place e = no_option (kept_as d) (slice_get (tests_of h) place) (sym (get_as (kept_as d) (tests_of h) place) ∙ e)

pub some_there : (d : Design) (h : List Entry) (place : ℕ) (k : Kept) → slice_get (kept_from d 0 h) place ≡ Some k → (t : Test) × (slice_get (tests_of h) place ≡ Some t) × (kept_as d t ≡ k)
some_there d h place k e = some_option (kept_as d) (slice_get (tests_of h) place) k (sym (get_as (kept_as d) (tests_of h) place) ∙ e)

pub no_test_counts : (opening : Design) (h : List Entry) (first : ℕ) (id path : List ℕ) → kept h id ≡ None → answers.NoSuchTest ≡ test_counts_at opening h first id path
no_test_counts opening h first id path e = sym (ap (λ (o : Option Test). test_counts_by opening h o first path) e)

-- the answer by the test that is kept
pub test_counts_found : (opening : Design) (h : List Entry) (first : ℕ) (id path : List ℕ) (t : Test) (answer : Answer) → kept h id ≡ Some t → answer ≡ rows_at opening h (hits (design_of opening h) t.content) first path
    → answer ≡ test_counts_at opening h first id path
test_counts_found opening h first id path t answer k e = e ∙ sym (ap (λ (o : Option Test). test_counts_by opening h o first path) k)

pub hits_meant : (opening d : Design) (h : List Entry) (t : Test) (counts : List ℕ) → d ≡ design_of opening h → counts ≡ tally d t.content → (bin : ℕ) → slice_index counts bin ≡ hits (design_of opening h) t.content bin
hits_meant opening d h t counts is c bin = ap (λ (ns : List ℕ). slice_index ns bin) c ∙ ap (λ (x : Design). hits x t.content bin) is

pub tests_are : (d : Design) (h : List Entry) (first many : ℕ) (rows : List HistoryNode) → many ≡ length (kept_from d 0 h) → rows ≡ map (λ (k : Kept). k.row) (take 1024 (drop first (kept_from d 0 h))) → answers.TestRows many rows ≡ tests_at h first
tests_are d h first many rows m r = λ i. answers.TestRows ((m ∙ kept_length d h) i) ((r ∙ page_as d 1024 first (tests_of h)) i)

pub no_chunk : (h : List Entry) (place offset : ℕ) → slice_get (tests_of h) place ≡ None → answers.NoSuchTest ≡ fetch_at h place offset
no_chunk h place offset e = sym (ap (λ (o : Option Test). chunk o offset) e)

pub chunk_is : (h : List Entry) (place offset : ℕ) (t : Test) (bytes part : List ℕ) (len : ℕ) → slice_get (tests_of h) place ≡ Some t → bytes ≡ spelling t.content → len ≡ length bytes → part ≡ take 1048576 (drop offset bytes) → answers.Chunk len part ≡ fetch_at h place offset
chunk_is h place offset t bytes part len e b l p =
    (λ i. answers.Chunk ((l ∙ ap (λ (bs : List ℕ). length bs) b) i) ((p ∙ ap (λ (bs : List ℕ). take 1048576 (drop offset bs)) b) i)) ∙ sym (ap (λ (o : Option Test). chunk o offset) e)

-- ---- the ranking

pub rank_is : (opening d : Design) (h : List Entry) (nodes : List Node) (tests : List Rows) (wanted : List (ℕ × ℕ)) (ranked : List Ranked) → d ≡ design_of opening h → nodes ≡ nodes_of d → tests ≡ rows_of (kept_from d 0 h)
    → wanted ≡ map (λ n. ((node_at nodes n).first_bin, (node_at nodes n).at_least)) (live_under nodes (is_excluded nodes (out_of h)) 0) → IsRanking tests wanted ranked → answers.RankRows ranked ≡ rank_at opening h
rank_is opening d h nodes tests wanted ranked is n t w r =
    let one = rankings_equal tests wanted ranked (ranking tests wanted) r (ranking_is tests wanted).is in
    let all : nodes ≡ nodes_of (design_of opening h) = n ∙ ap nodes_of is in
    let tests_meant : tests ≡ map (λ (x : Test). rows_from 0 (tally (design_of opening h) x.content)) (tests_of h) = t ∙ rows_are d (tests_of h) ∙ ap (λ (x : Design). map (λ (y : Test). rows_from 0 (tally x y.content)) (tests_of h)) is in
    let wanted_meant : wanted ≡ wanted_at opening h = w ∙ ap (λ (ns : List Node). map (λ n. ((node_at ns n).first_bin, (node_at ns n).at_least)) (live_under ns (is_excluded ns (out_of h)) 0)) all in
    λ i. answers.RankRows ((one ∙ (λ j. ranking (tests_meant j) (wanted_meant j))) i)

-- ---- what an answer adds keeps the history legal

pub still_legal : (opening : Design) (h : List Entry) (caller : ℕ) (a : Ask) (answer : Answer) (e : Entry) → is_legal opening h ≡ true → Suits opening h a → answer ≡ answer_at opening h caller a → is_made answer ≡ true
    → option_to_list (Some e) ≡ entries_of caller a → is_legal opening (h ++ e ∷ []) ≡ true
still_legal opening h caller a answer e l s is m one =
    let made_is : made caller a (answer_at opening h caller a) ≡ e ∷ [] = ap (made caller a) (sym is) ∙ ap (λ (b : Bool). if b then entries_of caller a else []) m ∙ sym one in
    subst (λ (es : List Entry). is_legal opening (h ++ es) ≡ true) made_is (stays_legal opening h caller a l s)

pub still_if : (opening : Design) (h : List Entry) (e : Entry) (b : Bool) → is_legal opening h ≡ true → is_legal opening (h ++ e ∷ []) ≡ true → is_legal opening (if b then h ++ e ∷ [] else h) ≡ true
still_if opening h e true l m = m
still_if opening h e false l m = l
