-- What the marks of a design's bins say, and how they stay right.
use Rattle.std.proofs.Common.{◌≡◌, ◌≢◌, ℕ, zero, suc, ◌+◌, ◌-◌, ◌<◌, ◌≤◌, Bool, true, false, cond, not, ◌&&◌, ◌||◌, List, [], ◌∷◌, ◌++◌, length, map, take, drop, refl, sym, ap, subst, ◌∙◌, arith, inl, inr, nat_lt, lt-ltb, true≢false, Option, None, is_some}
use Rattle.std.specs.Prelude.{filter, count_by, slice_index, slice_index_or, slice_set, ◌==◌, nat_le}
use Rattle.std.proofs.lemmas.Bool.{eq-eqb, ne_eqb, cases_lt, cases_eq, ltb-true}
use Rattle.std.proofs.Math.ListN.{get_or-eq_default}
use Rattle.std.proofs.lemmas.List.{get_or-set_same, get_or-set_other, length-set, length-map, length-replicate}
use Rattle.std.proofs.lemmas.List.Sums.{sum_by-cons, sum_by-append, length-filter, count_by-le-length}
use Rattle.design_data.specs.Bins.{is_coverage}
use Rattle.design_data.specs.declared.design.Design.{Design}
use Rattle.tally.specs.Rows.{count_in, Adds}
use Rattle.ucis_model.specs.declared.node.Node.{Node}
use Rattle.ucis_model.specs.Nodes.{nodes_of}
use Rattle.ucis_model.specs.Paths.{node_at, HasSmallerParents}
use Rattle.cov_history.specs.Nodes.{bin_nodes, all_nodes, bins_under, is_bin, kind_of_bin}
use Rattle.cov_history.specs.Coverage.{is_live, is_covered, live_under, covered_under}
use Rattle.cov_history.proofs.Bools.{by_bool, and_false}
use Rattle.store_sums.specs.Runs.{Marks, marks_in, with_marks, unmarked, remarked, stands, stands_covered, bin_at, has_row, HasMarks, live_in, covered_in}
use Rattle.store_sums.specs.Branches.{part}
use Rattle.store_sums.specs.Now.{excluded_by}
use Rattle.store_sums.proofs.Numbers.{bin_number, passes, map_at}
use Rattle.store_sums.proofs.Ranges.{at_any}
use Rattle.store_sums.proofs.Walks.{goes_up, is_up}

either : (a b : Bool) → (a || b) ≡ true → b ≡ false → a ≡ true
either true b e f = refl
either false b e f = absurd (true≢false (sym e ∙ f))

set_other : {A : Type 0} (xs : List A) (k : ℕ) (v d : A) (j : ℕ) → j ≢ k → slice_index_or (slice_set xs k v) j d ≡ slice_index_or xs j d
set_other xs k v d j other = get_or-set_other xs k j v d other

module _ (nodes : List Node) (counts : List ℕ) (out : List (Option (List ℕ))) where
  -- one bin more is right
  pub marked_more : (done : ℕ → Bool) (marks : Marks) (k : ℕ) → HasMarks nodes counts out done marks → HasMarks nodes counts out (λ p. done p || (k == p)) (remarked nodes counts out k marks)
  marked_more done marks k h =
      by_bool (nat_lt k (length (bin_nodes nodes)))
      (λ t.
      let inside : k < length (bin_nodes nodes) = ltb-true k (length (bin_nodes nodes)) t in
      let new : Marks = with_marks k (stands nodes out (bin_at nodes k)) (stands_covered nodes counts out (bin_at nodes k)) marks in
      let whole : HasMarks nodes counts out (λ p. done p || (k == p)) new = record {
        parents = h.parents;
        live_len = length-set marks.live k (stands nodes out (bin_at nodes k)) ∙ h.live_len;
        covered_len = length-set marks.covered k (stands_covered nodes counts out (bin_at nodes k)) ∙ h.covered_len;
        live = λ p less d. elim (cases_eq p k) [
          | inl same ↦
              ap (λ (i : ℕ). slice_index_or new.live i false) same ∙ get_or-set_same marks.live k (stands nodes out (bin_at nodes k)) false (omega (arith, inside, h.live_len))
              ∙ ap (λ (i : ℕ). stands nodes out (bin_at nodes i)) (sym same)
          | inr other ↦
              set_other marks.live k (stands nodes out (bin_at nodes k)) false p other
              ∙ h.live p less (either (done p) (k == p) d (ne_eqb k p (λ e. other (sym e))))
        ];
        covered = λ p less d. elim (cases_eq p k) [
          | inl same ↦
              ap (λ (i : ℕ). slice_index_or new.covered i false) same ∙ get_or-set_same marks.covered k (stands_covered nodes counts out (bin_at nodes k)) false (omega (arith, inside, h.covered_len))
              ∙ ap (λ (i : ℕ). stands_covered nodes counts out (bin_at nodes i)) (sym same)
          | inr other ↦
              set_other marks.covered k (stands_covered nodes counts out (bin_at nodes k)) false p other
              ∙ h.covered p less (either (done p) (k == p) d (ne_eqb k p (λ e. other (sym e))))
        ];
      } in
      subst (HasMarks nodes counts out (λ p. done p || (k == p))) (sym (rw t refl)) whole)
      (λ f.
      let past : (p : ℕ) → p < length (bin_nodes nodes) → (k == p) ≡ false = λ p less. ne_eqb k p (λ e. let l : nat_lt k (length (bin_nodes nodes)) ≡ true = lt-ltb k (length (bin_nodes nodes)) (omega (arith, e, less)) in true≢false (sym l ∙ f)) in
      let whole : HasMarks nodes counts out (λ p. done p || (k == p)) marks = record {
        parents = h.parents;
        live_len = h.live_len;
        covered_len = h.covered_len;
        live = λ p less d. h.live p less (either (done p) (k == p) d (past p less));
        covered = λ p less d. h.covered p less (either (done p) (k == p) d (past p less));
      } in
      subst (HasMarks nodes counts out (λ p. done p || (k == p))) (sym (rw f refl)) whole)

  -- fewer bins of which it is said
  pub fewer : (done some : ℕ → Bool) (marks : Marks) → HasMarks nodes counts out done marks → ((p : ℕ) → p < length (bin_nodes nodes) → some p ≡ true → done p ≡ true) → HasMarks nodes counts out some marks
  fewer done some marks h less = record {
    parents = h.parents;
    live_len = h.live_len;
    covered_len = h.covered_len;
    live = λ p inside s. h.live p inside (less p inside s);
    covered = λ p inside s. h.covered p inside (less p inside s);
  }

no_row : (rows : List (ℕ × ℕ)) (p : ℕ) → has_row rows p ≡ false → count_in rows p ≡ 0
no_row [] p none = refl
no_row (row ∷ rows) p none =
    by_bool (row.0 == p)
    (λ k. absurd (true≢false (sym (rw k refl) ∙ none)))
    (λ k. let rest : has_row rows p ≡ false = sym (rw k refl) ∙ none in rw k (no_row rows p rest))

not_true : (b : Bool) → not b ≡ true → b ≡ false
not_true true e = absurd (true≢false (sym e))
not_true false e = refl

module _ (d : Design) where
  -- counts that grow at some bins
  pub counted : (counts more : List ℕ) (out : List (Option (List ℕ))) (rows : List (ℕ × ℕ)) (marks : Marks) → Adds (count_in rows) counts more → HasMarks (nodes_of d) counts out (λ p. true) marks → HasMarks (nodes_of d) more out (λ p. not (has_row rows p)) marks
  counted counts more out rows marks adds h =
      let nodes = nodes_of d in
      record {
        parents = h.parents;
        live_len = h.live_len;
        covered_len = h.covered_len;
        live = λ p less s. h.live p less refl;
        covered = λ p less s.
            let number = bin_number d p less in
            let none = no_row rows p (not_true (has_row rows p) s) in
            let at : slice_index more p ≡ slice_index counts p = elim (cases_lt p (length counts)) [
              | inl below ↦ let a = adds.at p below in omega (arith, a, none)
              | inr past ↦ get_or-eq_default more 0 (omega (arith, past, adds.same)) ∙ sym (get_or-eq_default counts 0 past)
            ] in
            let same : is_covered nodes (slice_index counts) (bin_at nodes p) ≡ is_covered nodes (slice_index more) (bin_at nodes p) =
            ap (λ (i : ℕ). nat_le (node_at nodes (bin_at nodes p)).at_least (slice_index counts i)) number
            ∙ ap (λ (c : ℕ). nat_le (node_at nodes (bin_at nodes p)).at_least c) (sym at)
            ∙ ap (λ (i : ℕ). nat_le (node_at nodes (bin_at nodes p)).at_least (slice_index more i)) (sym number) in
            h.covered p less refl ∙ ap (λ (b : Bool). stands nodes out (bin_at nodes p) && b) same;
      }

  -- a node that is taken out or put back
  pub changed : (counts : List ℕ) (out outs : List (Option (List ℕ))) (n : ℕ) (now : Option (List ℕ)) (marks : Marks) → outs ≡ slice_set out n now → HasMarks (nodes_of d) counts out (λ p. true) marks → HasMarks (nodes_of d) counts outs (λ p. not ((node_at (nodes_of d) n).first_bin == p)) marks
  changed counts out outs n now marks e h =
      let nodes = nodes_of d in
      let same : (p : ℕ) → p < length (bin_nodes nodes) → not ((node_at nodes n).first_bin == p) ≡ true → stands nodes out (bin_at nodes p) ≡ stands nodes outs (bin_at nodes p) = λ p less s.
      let number = bin_number d p less in
      let other : bin_at nodes p ≢ n = λ is. true≢false (sym (eq-eqb (node_at nodes n).first_bin p (ap (λ (m : ℕ). (node_at nodes m).first_bin) (sym is) ∙ number)) ∙ not_true ((node_at nodes n).first_bin == p) s) in
      let at : slice_index_or outs (bin_at nodes p) None ≡ slice_index_or out (bin_at nodes p) None = ap (λ (xs : List (Option (List ℕ))). slice_index_or xs (bin_at nodes p) None) e ∙ set_other out n now None (bin_at nodes p) other in
      ap (λ (o : Option (List ℕ)). is_coverage (kind_of_bin nodes (bin_at nodes p)) && not (is_some o)) (sym at) in
      record {
        parents = h.parents;
        live_len = h.live_len;
        covered_len = h.covered_len;
        live = λ p less s. h.live p less refl ∙ same p less s;
        covered = λ p less s. h.covered p less refl ∙ ap (λ (b : Bool). b && is_covered nodes (slice_index counts) (bin_at nodes p)) (same p less s);
      }

-- ---- marks in a row

next_drop : (xs : List ℕ) (i : ℕ) → i < length xs → drop i xs ≡ slice_index xs i ∷ drop (i + 1) xs
next_drop [] i inside = absurd (omega (arith, inside))
next_drop (x ∷ xs) zero inside = refl
next_drop (x ∷ xs) (suc i) inside = let e : suc (i + 1) ≡ suc i + 1 = omega arith in next_drop xs i (omega (arith, inside)) ∙ ap (λ (n : ℕ). slice_index xs i ∷ drop n (x ∷ xs)) e

none_taken : (xs : List ℕ) → take 0 xs ≡ []
none_taken [] = refl
none_taken (x ∷ xs) = refl

none_in : (first many : ℕ) → marks_in [] first many ≡ 0
none_in first zero = refl
none_in first (suc many) = let rest = none_in (first + 1) many in omega (arith, rest)

or_false : (b : Bool) → (b || false) ≡ b
or_false true = refl
or_false false = refl

or_assoc : (a b c : Bool) → (a || (b || c)) ≡ ((a || b) || c)
or_assoc true b c = refl
or_assoc false b c = refl

or_true : (b : Bool) → (b || true) ≡ true
or_true true = refl
or_true false = refl

-- how many are set is how many bins pass
pub marks_are : (marks : List Bool) (test : ℕ → Bool) (bins : List ℕ) (first many : ℕ) → first + many ≤ length bins → ((j : ℕ) → first ≤ j → j < first + many → slice_index_or marks j false ≡ test (slice_index bins j)) → marks_in marks first many ≡ count_by test (take many (drop first bins))
marks_are marks test bins first zero inside same = ap (count_by test) (sym (none_taken (drop first bins)))
marks_are marks test bins first (suc many) inside same =
    let rest = marks_are marks test bins (first + 1) many (omega (arith, inside)) (λ j low high. same j (omega (arith, low)) (omega (arith, high))) in
    let next : drop first bins ≡ slice_index bins first ∷ drop (first + 1) bins = next_drop bins first (omega (arith, inside)) in
    let here : ◌≡◌ {A = ℕ} (cond (slice_index_or marks first false) 1 0) (cond (test (slice_index bins first)) 1 0) = ap (λ (b : Bool). cond b 1 0) (same first (omega arith) (omega arith)) in
    let whole : count_by test (take (suc many) (drop first bins)) ≡ cond (test (slice_index bins first)) 1 0 + count_by test (take many (drop (first + 1) bins)) = ap (λ (xs : List ℕ). count_by test (take (suc many) xs)) next ∙ sum_by-cons (λ (x : ℕ). cond (test x) 1 0) (slice_index bins first) (take many (drop (first + 1) bins)) in
    omega (arith, rest, here, whole)

module _ (nodes : List Node) (small : HasSmallerParents nodes) (root : is_bin (node_at nodes 0).kind ≡ false) (counts : List ℕ) (out : List (Option (List ℕ))) (marks : Marks) (h : HasMarks nodes counts out (λ p. true) marks) where
  above_root : (j : ℕ) → j < length (bin_nodes nodes) → 0 < bin_at nodes j
  above_root j inside = elim (cases_eq (bin_at nodes j) 0) [
    | inl same ↦ absurd (true≢false (sym (passes (λ n. is_bin (node_at nodes n).kind) (all_nodes nodes) j inside) ∙ ap (λ (n : ℕ). is_bin (node_at nodes n).kind) same ∙ root))
    | inr other ↦ omega (arith, other)
  ]

  -- a bin is excluded where it is out, or the node right above it is excluded
  excluded_is : (b : ℕ) → 0 < b → excluded_by nodes out b ≡ (is_some (slice_index_or out b None) || excluded_by nodes out (node_at nodes b).parent)
  excluded_is b above =
      by_bool (is_some (slice_index_or out b None))
      (λ k. is_up nodes out b k ∙ sym (rw k refl))
      (λ k. goes_up nodes out b small k above ∙ sym (rw k refl))

  parent_is : (j : ℕ) → j < length (bin_nodes nodes) → (node_at nodes (bin_at nodes j)).parent ≡ slice_index marks.parents j
  parent_is j inside = sym (ap (λ (ps : List ℕ). slice_index ps j) h.parents ∙ map_at (λ n. (node_at nodes n).parent) (bin_nodes nodes) j inside)

  module _ (first many : ℕ) (inside : first + many ≤ length (bin_nodes nodes)) (alike : (j : ℕ) → first ≤ j → j < first + many → slice_index marks.parents j ≡ slice_index marks.parents first) (some : 0 < many) where
    abbrev pub above : ℕ
    above = (node_at nodes (bin_at nodes first)).parent

    excluded_in : (b : Bool) → excluded_by nodes out above ≡ b → (j : ℕ) → first ≤ j → j < first + many → excluded_by nodes out (bin_at nodes j) ≡ (is_some (slice_index_or out (bin_at nodes j) None) || b)
    excluded_in b e j low high =
        let there : j < length (bin_nodes nodes) = omega (arith, inside, high) in
        let same : (node_at nodes (bin_at nodes j)).parent ≡ above = parent_is j there ∙ alike j low high ∙ sym (parent_is first (omega (arith, inside, some))) in
        excluded_is (bin_at nodes j) (above_root j there) ∙ ap (λ (p : ℕ). is_some (slice_index_or out (bin_at nodes j) None) || excluded_by nodes out p) same ∙ ap (λ (x : Bool). is_some (slice_index_or out (bin_at nodes j) None) || x) e

    live_at : excluded_by nodes out above ≡ false → (j : ℕ) → first ≤ j → j < first + many → stands nodes out (bin_at nodes j) ≡ is_live nodes (excluded_by nodes out) (bin_at nodes j)
    live_at e j low high =
        let x : excluded_by nodes out (bin_at nodes j) ≡ is_some (slice_index_or out (bin_at nodes j) None) = excluded_in false e j low high ∙ or_false (is_some (slice_index_or out (bin_at nodes j) None)) in
        ap (λ (b : Bool). is_coverage (kind_of_bin nodes (bin_at nodes j)) && not b) (sym x)

    dead_at : excluded_by nodes out above ≡ true → (j : ℕ) → first ≤ j → j < first + many → is_live nodes (excluded_by nodes out) (bin_at nodes j) ≡ false
    dead_at e j low high =
        let x : excluded_by nodes out (bin_at nodes j) ≡ true = excluded_in true e j low high ∙ or_true (is_some (slice_index_or out (bin_at nodes j) None)) in
        ap (λ (b : Bool). is_coverage (kind_of_bin nodes (bin_at nodes j)) && not b) x ∙ and_false (is_coverage (kind_of_bin nodes (bin_at nodes j)))

    pub live_piece : excluded_by nodes out above ≡ false → marks_in marks.live first many ≡ live_in nodes (excluded_by nodes out) (part first many (bin_nodes nodes))
    live_piece e = marks_are marks.live (is_live nodes (excluded_by nodes out)) (bin_nodes nodes) first many inside (λ j low high. h.live j (omega (arith, inside, high)) refl ∙ live_at e j low high)

    pub covered_piece : excluded_by nodes out above ≡ false → marks_in marks.covered first many ≡ covered_in nodes (slice_index counts) (excluded_by nodes out) (part first many (bin_nodes nodes))
    covered_piece e = marks_are marks.covered (λ n. is_live nodes (excluded_by nodes out) n && is_covered nodes (slice_index counts) n) (bin_nodes nodes) first many inside
        (λ j low high. h.covered j (omega (arith, inside, high)) refl ∙ ap (λ (b : Bool). b && is_covered nodes (slice_index counts) (bin_at nodes j)) (live_at e j low high))

    pub dead_live : excluded_by nodes out above ≡ true → 0 ≡ live_in nodes (excluded_by nodes out) (part first many (bin_nodes nodes))
    dead_live e = sym (none_in first many) ∙ marks_are [] (is_live nodes (excluded_by nodes out)) (bin_nodes nodes) first many inside (λ j low high. sym (dead_at e j low high))

    pub dead_covered : excluded_by nodes out above ≡ true → 0 ≡ covered_in nodes (slice_index counts) (excluded_by nodes out) (part first many (bin_nodes nodes))
    dead_covered e = sym (none_in first many) ∙ marks_are [] (λ n. is_live nodes (excluded_by nodes out) n && is_covered nodes (slice_index counts) n) (bin_nodes nodes) first many inside
        (λ j low high. sym (ap (λ (b : Bool). b && is_covered nodes (slice_index counts) (bin_at nodes j)) (dead_at e j low high)))

-- ---- rows of bins

abbrev xs_none : List ℕ
xs_none = []

none_left : (n : ℕ) → take n xs_none ≡ []
none_left zero = refl
none_left (suc n) = refl

none_dropped : (n : ℕ) → drop n xs_none ≡ []
none_dropped zero = refl
none_dropped (suc n) = refl

take_sum : (a b : ℕ) (xs : List ℕ) → take (a + b) xs ≡ take a xs ++ take b (drop a xs)
take_sum zero b [] = let e : 0 + b ≡ b = omega arith in ap (λ (n : ℕ). take n xs_none) e
take_sum zero b (x ∷ xs) = let e : 0 + b ≡ b = omega arith in ap (λ (n : ℕ). take n (x ∷ xs)) e
take_sum (suc a) b [] = none_left (suc a + b) ∙ sym (none_left b)
take_sum (suc a) b (x ∷ xs) = let e : suc a + b ≡ suc (a + b) = omega arith in ap (λ (n : ℕ). take n (x ∷ xs)) e ∙ ap (λ ys. x ∷ ys) (take_sum a b xs)

drop_sum : (f a : ℕ) (xs : List ℕ) → drop a (drop f xs) ≡ drop (f + a) xs
drop_sum zero a xs = let e : a ≡ 0 + a = omega arith in ap (λ (n : ℕ). drop n xs) e
drop_sum (suc f) a [] = none_dropped a ∙ sym (none_dropped (suc f + a))
drop_sum (suc f) a (x ∷ xs) = let e : suc (f + a) ≡ suc f + a = omega arith in drop_sum f a xs ∙ ap (λ (n : ℕ). drop n (x ∷ xs)) e

-- a row of bins in two
pub part_split : (test : ℕ → Bool) (bins : List ℕ) (f m e : ℕ) → f ≤ m → m ≤ e → count_by test (part f (e - f) bins) ≡ count_by test (part f (m - f) bins) + count_by test (part m (e - m) bins)
part_split test bins f m e low high =
    let n : e - f ≡ (m - f) + (e - m) = omega (arith, low, high) in
    let there : f + (m - f) ≡ m = omega (arith, low) in
    ap (λ (k : ℕ). count_by test (take k (drop f bins))) n
    ∙ ap (count_by test) (take_sum (m - f) (e - m) (drop f bins))
    ∙ sum_by-append (λ (x : ℕ). cond (test x) 1 0) (take (m - f) (drop f bins)) (take (e - m) (drop (m - f) (drop f bins)))
    ∙ ap (λ (xs : List ℕ). count_by test (take (m - f) (drop f bins)) + count_by test (take (e - m) xs)) (drop_sum f (m - f) bins ∙ ap (λ (k : ℕ). drop k bins) there)

-- an empty row
pub part_none : (test : ℕ → Bool) (bins : List ℕ) (f e : ℕ) → e ≤ f → count_by test (part f (e - f) bins) ≡ 0
part_none test bins f e past = let z : e - f ≡ 0 = omega (arith, past) in ap (λ (k : ℕ). count_by test (take k (drop f bins))) z ∙ ap (count_by test) (none_taken (drop f bins))

-- the covered bins among the live ones
pub covered_is : (p q : ℕ → Bool) (xs : List ℕ) → count_by (λ x. p x && q x) xs ≡ count_by q (filter p xs)
covered_is p q [] = refl
covered_is p q (x ∷ xs) =
    let rest = covered_is p q xs in
    sum_by-cons (λ (x : ℕ). cond (p x && q x) 1 0) x xs
    ∙ by_bool (p x)
    (λ k. rw k (ap (λ (n : ℕ). cond (q x) 1 0 + n) rest ∙ sym (sum_by-cons (λ (x : ℕ). cond (q x) 1 0) x (filter p xs))))
    (λ k. rw k (omega (arith, rest)))

-- ---- loops

row_last : (rows : List (ℕ × ℕ)) (i p : ℕ) (row : ℕ × ℕ) → i < length rows → row ≡ slice_index_or rows i row → has_row (take (i + 1) rows) p ≡ (has_row (take i rows) p || (row.0 == p))
row_last [] i p row inside e = absurd (omega (arith, inside))
row_last (r ∷ rs) zero p row inside e = ap (λ (x : ℕ × ℕ). (x.0 == p) || false) (sym e) ∙ or_false (row.0 == p)
row_last (r ∷ rs) (suc i) p row inside e =
    let n : suc i + 1 ≡ suc (i + 1) = omega arith in
    ap (λ (k : ℕ). has_row (take k (r ∷ rs)) p) n ∙ ap (λ (b : Bool). (r.0 == p) || b) (row_last rs i p row (omega (arith, inside)) e) ∙ or_assoc (r.0 == p) (has_row (take i rs) p) (row.0 == p)

-- the rows before one and that one
pub rows_more : (nodes : List Node) (counts : List ℕ) (out : List (Option (List ℕ))) (rows : List (ℕ × ℕ)) (i : ℕ) (row : ℕ × ℕ) (done : ℕ → Bool) (marks more : Marks) → i < length rows → row ≡ slice_index_or rows i row → more ≡ remarked nodes counts out row.0 marks
    → HasMarks nodes counts out (λ p. done p || has_row (take i rows) p) marks → HasMarks nodes counts out (λ p. done p || has_row (take (i + 1) rows) p) more
rows_more nodes counts out rows i row done marks more inside e m h =
    subst (HasMarks nodes counts out (λ p. done p || has_row (take (i + 1) rows) p)) (sym m)
    (fewer nodes counts out (λ p. (done p || has_row (take i rows) p) || (row.0 == p)) (λ p. done p || has_row (take (i + 1) rows) p) (remarked nodes counts out row.0 marks) (marked_more nodes counts out (λ p. done p || has_row (take i rows) p) marks row.0 h)
    (λ p less s. sym (ap (λ (b : Bool). done p || b) (row_last rows i p row inside e) ∙ or_assoc (done p) (has_row (take i rows) p) (row.0 == p)) ∙ s))

pub bins_more : (nodes : List Node) (counts : List ℕ) (out : List (Option (List ℕ))) (i : ℕ) (marks more : Marks) → more ≡ remarked nodes counts out i marks → HasMarks nodes counts out (λ p. nat_lt p i) marks → HasMarks nodes counts out (λ p. nat_lt p (i + 1)) more
bins_more nodes counts out i marks more m h =
    subst (HasMarks nodes counts out (λ p. nat_lt p (i + 1))) (sym m)
    (fewer nodes counts out (λ p. nat_lt p i || (i == p)) (λ p. nat_lt p (i + 1)) (remarked nodes counts out i marks) (marked_more nodes counts out (λ p. nat_lt p i) marks i h) (λ p less s. earlier p (ltb-true p (i + 1) s)))
  where
    earlier : (p : ℕ) → p < i + 1 → (nat_lt p i || (i == p)) ≡ true
    earlier p below = elim (cases_lt p i) [
      | inl lower ↦ rw (lt-ltb p i lower) refl
      | inr past ↦ let e : i ≡ p = omega (arith, below, past) in rw (eq-eqb i p e) (or_true (nat_lt p i))
    ]

pub all_done : (nodes : List Node) (counts : List ℕ) (out : List (Option (List ℕ))) (i : ℕ) (marks : Marks) → length (bin_nodes nodes) ≤ i → HasMarks nodes counts out (λ p. nat_lt p i) marks → HasMarks nodes counts out (λ p. true) marks
all_done nodes counts out i marks end h = fewer nodes counts out (λ p. nat_lt p i) (λ p. true) marks h (λ p less s. lt-ltb p i (omega (arith, less, end)))

pub not_yet : (nodes : List Node) (counts : List ℕ) (out : List (Option (List ℕ))) (parents : List ℕ) (marks : Marks) → parents ≡ map (λ n. (node_at nodes n).parent) (bin_nodes nodes) → marks ≡ unmarked parents → HasMarks nodes counts out (λ p. false) marks
not_yet nodes counts out parents marks e m =
    let len : length parents ≡ length (bin_nodes nodes) = ap (λ (ps : List ℕ). length ps) e ∙ length-map (bin_nodes nodes) (λ n. (node_at nodes n).parent) in
    subst (HasMarks nodes counts out (λ p. false)) (sym m) (record {
      parents = e;
      live_len = length-replicate (length parents) false ∙ len;
      covered_len = length-replicate (length parents) false ∙ len;
      live = λ p less s. absurd (true≢false (sym s));
      covered = λ p less s. absurd (true≢false (sym s));
    })

pub parents_len : (nodes : List Node) (counts : List ℕ) (out : List (Option (List ℕ))) (done : ℕ → Bool) (marks : Marks) → HasMarks nodes counts out done marks → length marks.parents ≡ length (bin_nodes nodes)
parents_len nodes counts out done marks h = ap (λ (ps : List ℕ). length ps) h.parents ∙ length-map (bin_nodes nodes) (λ n. (node_at nodes n).parent)

-- all bins but some, and these
pub all_again : (nodes : List Node) (counts : List ℕ) (out : List (Option (List ℕ))) (test : ℕ → Bool) (marks : Marks) → HasMarks nodes counts out (λ p. not (test p) || test p) marks → HasMarks nodes counts out (λ p. true) marks
all_again nodes counts out test marks h = fewer nodes counts out (λ p. not (test p) || test p) (λ p. true) marks h (λ p less s. tried (test p))
  where
    tried : (b : Bool) → (not b || b) ≡ true
    tried true = refl
    tried false = refl

-- ---- the bins under a node, piece by piece

-- a step from one piece to the next
pub piece_more : (test : ℕ → Bool) (bins : List ℕ) (sum more first next end whole : ℕ) → first ≤ next → next ≤ end → more ≡ count_by test (part first (next - first) bins) → sum + count_by test (part first (end - first) bins) ≡ whole → (sum + more) + count_by test (part next (end - next) bins) ≡ whole
piece_more test bins sum more first next end whole low high m h = let s = part_split test bins first next end low high in omega (arith, m, h, s)

-- a sum of a piece is within the whole
pub piece_within : (test : ℕ → Bool) (bins : List ℕ) (sum more first next end whole : ℕ) → first ≤ next → next ≤ end → more ≡ count_by test (part first (next - first) bins) → sum + count_by test (part first (end - first) bins) ≡ whole → sum + more ≤ whole
piece_within test bins sum more first next end whole low high m h = let s = part_split test bins first next end low high in omega (arith, m, h, s)

pub pieces_end : (test : ℕ → Bool) (bins : List ℕ) (sum first end whole : ℕ) → end ≤ first → sum + count_by test (part first (end - first) bins) ≡ whole → sum ≡ whole
pieces_end test bins sum first end whole past h = let z = part_none test bins first end past in omega (arith, z, h)

taken_short : (k : ℕ) (xs : List ℕ) → length (take k xs) ≤ length xs
taken_short zero [] = omega arith
taken_short (suc k) [] = omega arith
taken_short zero (x ∷ xs) = omega arith
taken_short (suc k) (x ∷ xs) = let rest = taken_short k xs in omega (arith, rest)

dropped_short : (k : ℕ) (xs : List ℕ) → length (drop k xs) ≤ length xs
dropped_short zero xs = omega arith
dropped_short (suc k) [] = omega arith
dropped_short (suc k) (x ∷ xs) = let rest = dropped_short k xs in omega (arith, rest)

pub few_under : (nodes : List Node) (test : ℕ → Bool) (n : ℕ) → count_by test (bins_under nodes n) ≤ length (bin_nodes nodes)
few_under nodes test n =
    let a = count_by-le-length test (bins_under nodes n) in
    let b = taken_short (node_at nodes n).bins (drop (node_at nodes n).first_bin (bin_nodes nodes)) in
    let c = dropped_short (node_at nodes n).first_bin (bin_nodes nodes) in
    omega (arith, a, b, c)

pub live_is : (nodes : List Node) (excluded : ℕ → Bool) (n : ℕ) → live_in nodes excluded (bins_under nodes n) ≡ length (live_under nodes excluded n)
live_is nodes excluded n = sym (length-filter (is_live nodes excluded) (bins_under nodes n))

pub covered_under_is : (nodes : List Node) (count : ℕ → ℕ) (excluded : ℕ → Bool) (n : ℕ) → covered_in nodes count excluded (bins_under nodes n) ≡ covered_under nodes count excluded n
covered_under_is nodes count excluded n = covered_is (is_live nodes excluded) (is_covered nodes count) (bins_under nodes n)

pub no_more : (nodes : List Node) (count : ℕ → ℕ) (excluded : ℕ → Bool) (n : ℕ) → covered_under nodes count excluded n ≤ length (live_under nodes excluded n)
no_more nodes count excluded n = count_by-le-length (is_covered nodes count) (live_under nodes excluded n)

-- ---- changes

-- after an admission
pub admitted_marks : (d : Design) (nodes : List Node) (counts more : List ℕ) (out : List (Option (List ℕ))) (rows : List (ℕ × ℕ)) (marks new : Marks) → nodes ≡ nodes_of d → HasMarks nodes counts out (λ p. true) marks → Adds (count_in rows) counts more
    → ((done : ℕ → Bool) → HasMarks nodes more out done marks → HasMarks nodes more out (λ p. done p || has_row rows p) new) → HasMarks nodes more out (λ p. true) new
admitted_marks d nodes counts more out rows marks new is h adds marking =
    let old : HasMarks (nodes_of d) counts out (λ p. true) marks = subst (λ (ns : List Node). HasMarks ns counts out (λ p. true) marks) is h in
    let rest : HasMarks nodes more out (λ p. not (has_row rows p)) marks = subst (λ (ns : List Node). HasMarks ns more out (λ p. not (has_row rows p)) marks) (sym is) (counted d counts more out rows marks adds old) in
    all_again nodes more out (has_row rows) new (marking (λ p. not (has_row rows p)) rest)

-- after a node is taken out or put back
pub changed_marks : (d : Design) (nodes : List Node) (counts : List ℕ) (out outs : List (Option (List ℕ))) (n first : ℕ) (now : Option (List ℕ)) (marks new : Marks) → nodes ≡ nodes_of d → HasMarks nodes counts out (λ p. true) marks → outs ≡ slice_set out n now → first ≡ (node_at nodes n).first_bin → new ≡ remarked nodes counts outs first marks
    → HasMarks nodes counts outs (λ p. true) new
changed_marks d nodes counts out outs n first now marks new is h e f m =
    let old : HasMarks (nodes_of d) counts out (λ p. true) marks = subst (λ (ns : List Node). HasMarks ns counts out (λ p. true) marks) is h in
    let rest : HasMarks nodes counts outs (λ p. not (first == p)) marks =
    subst (λ (k : ℕ). HasMarks nodes counts outs (λ p. not (k == p)) marks) (sym f)
    (subst (λ (ns : List Node). HasMarks ns counts outs (λ p. not ((node_at ns n).first_bin == p)) marks) (sym is) (changed d counts out outs n now marks e old)) in
    subst (HasMarks nodes counts outs (λ p. true)) (sym m) (all_again nodes counts outs (λ p. first == p) (remarked nodes counts outs first marks) (marked_more nodes counts outs (λ p. not (first == p)) marks first rest))

pub same_parents : (nodes : List Node) (counts : List ℕ) (out : List (Option (List ℕ))) (k : ℕ) (marks : Marks) → (remarked nodes counts out k marks).parents ≡ marks.parents
same_parents nodes counts out k marks = by_bool (nat_lt k (length (bin_nodes nodes))) (λ t. rw t refl) (λ t. rw t refl)

-- the rows before one and that one, however it is read
pub row_done : (nodes : List Node) (counts : List ℕ) (out : List (Option (List ℕ))) (rows : List (ℕ × ℕ)) (i : ℕ) (d : ℕ × ℕ) (done : ℕ → Bool) (marks more : Marks) → i < length rows → more ≡ remarked nodes counts out (slice_index_or rows i d).0 marks
    → HasMarks nodes counts out (λ p. done p || has_row (take i rows) p) marks → HasMarks nodes counts out (λ p. done p || has_row (take (i + 1) rows) p) more
row_done nodes counts out rows i d done marks more inside m h = rows_more nodes counts out rows i (slice_index_or rows i d) done marks more inside (at_any rows i d (slice_index_or rows i d) inside) m h
