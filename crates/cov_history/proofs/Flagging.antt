-- Flags of nodes, and the nodes above one.
use Rattle.std.proofs.Common.{◌≡◌, ◌∙◌, ℕ, zero, suc, ◌+◌, ◌<◌, ◌≤◌, List, [], ◌∷◌, length, map, Bool, false, ◌||◌, refl, sym, ap, inl, inr, arith, Option, Some, None}
use Rattle.std.specs.Prelude.{◌==◌, slice_index, slice_index_or, if◌then◌else◌}
use Rattle.std.specs.List.{range_with_len, list_any}
use Rattle.std.specs.Option.{option_map_or}
use Rattle.std.proofs.lemmas.Bool.{cases_lt}
use Rattle.std.proofs.lemmas.Bool.Decides.{nat_tests}
use Rattle.std.proofs.lemmas.List.{get_or-map, length-map}
use Rattle.std.proofs.lemmas.List.FromFn.{get_or-range_with_len, length-range_with_len}
use Rattle.ucis_model.specs.Above as above
use Rattle.ucis_model.specs.declared.node.Node.{Node}
use Rattle.ucis_model.specs.Nodes.{nodes_of}
use Rattle.ucis_model.specs.Paths.{node_at, find_in}
use Rattle.ucis_model.specs.Laws.{IsFound}
use Rattle.ucis_model.proofs.Finding.{finds_least}
use Rattle.design_data.specs.declared.design.Design.{Design}
use Rattle.ucis_model.specs.declared.answers.CoverRow.{CoverRow}
use Rattle.cov_history.specs.declared.entry.Entry.{Entry}
use Rattle.ucis_model.specs.declared.answers.Answer.TheVariants as answers
use Rattle.cov_history.specs.Answers.{cover_row, at_node, coverage_at}
use Rattle.cov_history.specs.History.{design_of, contents, hits_of, out_of}
use Rattle.cov_history.specs.Sums.{all_hits}
use Rattle.cov_history.proofs.Summing.{all_hits_at}
use Rattle.cov_history.specs.Nodes.{parents_of}
use Rattle.cov_history.specs.Coverage.{is_out, is_excluded}
use Rattle.cov_history.specs.Flags.{flagged}
use Rattle.cov_history.proofs.Bools.{or_false}
use Rattle.cov_history.proofs.Places.{past_is}

pub parent_is : (nodes : List Node) (n : ℕ) → (node_at nodes n).parent ≡ slice_index (parents_of nodes) n
parent_is [] n = refl
parent_is (m ∷ nodes) zero = refl
parent_is (m ∷ nodes) (suc n) = parent_is nodes n

-- a place past the end is no node that a path finds
not_found : (nodes : List Node) (n : ℕ) → length nodes ≤ n → (path : List ℕ) (o : Option ℕ) → IsFound nodes path o → option_map_or (λ m. m == n) o false ≡ false
not_found nodes n past path None f = refl
not_found nodes n past path (Some m) f = let lt = f.exists in grind (arith, lt, past, nat_tests)

none_out : (nodes : List Node) (out : List (List ℕ)) (n : ℕ) → length nodes ≤ n → is_out nodes out n ≡ false
none_out nodes [] n past = refl
none_out nodes (path ∷ out) n past =
    let here = not_found nodes n past path (find_in nodes path) (finds_least nodes path) in
    let rest = none_out nodes out n past in
    λ i. here i || rest i

root_is : (nodes : List Node) (out : List (List ℕ)) → is_excluded nodes out 0 ≡ is_out nodes out 0
unfolding is_excluded
root_is nodes out = or_false (is_out nodes out 0)

-- past the end only the root is above
past_excluded : (nodes : List Node) (out : List (List ℕ)) (n : ℕ) → length nodes ≤ suc n → is_excluded nodes out (suc n) ≡ is_out nodes out 0
unfolding is_excluded
past_excluded nodes out n past =
    let none = none_out nodes out (suc n) past in
    let up : slice_index (parents_of nodes) (suc n) ≡ 0 = past_is (parents_of nodes) (suc n) 0 (omega (arith, past, length-map nodes (λ (m : Node). m.parent))) in
    let some : (suc n == 0) ≡ false = grind (arith, nat_tests) in
    (λ i. none i || list_any (is_out nodes out) (if some i then [] else above.some_lineage (suc n) (parents_of nodes) (up i)))
    ∙ or_false (is_out nodes out 0)

listed : (E : ℕ → Bool) (k n : ℕ) (d : Bool) → n < k → slice_index_or (map E (range_with_len 0 k)) n d ≡ E n
listed E k n d lt =
    let e : 0 + n ≡ n = omega arith in
    get_or-map E (range_with_len 0 k) n 0 d (omega (arith, lt, length-range_with_len 0 k)) ∙ ap E (get_or-range_with_len 0 k n 0 lt ∙ e)

past : (E : ℕ → Bool) (k n : ℕ) (d : Bool) → k ≤ n → slice_index_or (map E (range_with_len 0 k)) n d ≡ d
past E k n d le = past_is (map E (range_with_len 0 k)) n d (omega (arith, le, length-map (range_with_len 0 k) E, length-range_with_len 0 k))

flags_by : (nodes : List Node) (out : List (List ℕ)) (k : ℕ) → k ≡ length nodes → (n : ℕ) → flagged (map (is_excluded nodes out) (range_with_len 0 k)) n ≡ is_excluded nodes out n
flags_by nodes out zero e zero = sym (root_is nodes out ∙ none_out nodes out 0 (omega (arith, e)))
flags_by nodes out zero e (suc n) = sym (past_excluded nodes out n (omega (arith, e)) ∙ none_out nodes out 0 (omega (arith, e)))
flags_by nodes out (suc k) e n =
    let E : ℕ → Bool = is_excluded nodes out in
    let first = listed E (suc k) 0 false (omega arith) in
    elim (cases_lt n (suc k)) [
      | inl lt ↦ listed E (suc k) n (slice_index_or (map E (range_with_len 0 (suc k))) 0 false) lt
      | inr ge ↦ past E (suc k) n (slice_index_or (map E (range_with_len 0 (suc k))) 0 false) ge ∙ first ∙ root_is nodes out ∙ later n ge
    ]
  where
    later : (m : ℕ) → suc k ≤ m → is_out nodes out 0 ≡ is_excluded nodes out m
    later zero ge = absurd (omega (arith, ge))
    later (suc m) ge = sym (past_excluded nodes out m (omega (arith, ge, e)))

pub flags_are : (nodes : List Node) (out : List (List ℕ)) (flags : List Bool) → flags ≡ map (is_excluded nodes out) (range_with_len 0 (length nodes)) → (n : ℕ) → flagged flags n ≡ is_excluded nodes out n
flags_are nodes out flags is n = ap (λ (fs : List Bool). flagged fs n) is ∙ flags_by nodes out (length nodes) refl n

-- the row of a node's coverage, from lists of counts and of flags
pub row_is : (nodes : List Node) (d : Design) (h : List Entry) (place : ℕ) (counts : List ℕ) (flags : List Bool) (row : CoverRow) → counts ≡ all_hits d (contents h) → flags ≡ map (is_excluded nodes (out_of h)) (range_with_len 0 (length nodes))
    → row ≡ cover_row nodes (slice_index counts) (flagged flags) place → row ≡ cover_row nodes (hits_of d (contents h)) (is_excluded nodes (out_of h)) place
row_is nodes d h place counts flags row c f e =
    let count : (bin : ℕ) → slice_index counts bin ≡ hits_of d (contents h) bin = λ bin. ap (λ (ns : List ℕ). slice_index ns bin) c ∙ all_hits_at d (contents h) bin in
    let flag : (n : ℕ) → flagged flags n ≡ is_excluded nodes (out_of h) n = flags_are nodes (out_of h) flags f in
    e ∙ (λ i. cover_row nodes (λ bin. count bin i) (λ n. flag n i) place)

-- the answer, from the design, its nodes and the node that the path finds
pub coverage_is : (opening design : Design) (h : List Entry) (path : List ℕ) (nodes : List Node) (place : ℕ) (row : CoverRow) → design ≡ design_of opening h → nodes ≡ nodes_of design → find_in nodes path ≡ Some place
    → row ≡ cover_row nodes (hits_of design (contents h)) (is_excluded nodes (out_of h)) place → answers.CoverageIs row ≡ coverage_at opening h path
coverage_is opening design h path nodes place row d n f r =
    let all : nodes ≡ nodes_of (design_of opening h) = n ∙ ap nodes_of d in
    ap (λ (x : CoverRow). answers.CoverageIs x) r
    ∙ sym (ap (λ (o : Option ℕ). at_node o (λ m. answers.CoverageIs (cover_row nodes (hits_of design (contents h)) (is_excluded nodes (out_of h)) m))) f)
    ∙ (λ i. at_node (find_in (all i) path) (λ m. answers.CoverageIs (cover_row (all i) (hits_of (d i) (contents h)) (is_excluded (all i) (out_of h)) m)))
