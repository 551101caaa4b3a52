-- What is out in a new design.
use Rattle.std.proofs.Common.{◌≡◌, ℕ, zero, suc, ◌+◌, ◌<◌, ◌≤◌, Bool, true, false, cond, List, [], ◌∷◌, ◌++◌, length, map, take, drop, refl, sym, ap, subst, ◌∙◌, add-zero, arith, true≢false, Option, Some, None, is_some, get_or, replicate}
use Rattle.std.specs.Prelude.{find, filter, bytes_eq, slice_index_or, slice_set, option_to_list}
use Rattle.std.proofs.lemmas.List.{append-nil, take-append-drop, length-replicate, length-map}
use Rattle.std.proofs.lemmas.List.Concat.{flat_map-append}
use Rattle.std.proofs.lemmas.List.Elements.{filter-append}
use Rattle.std.proofs.lemmas.List.Sums.{sum_by-append, sum_by_push, length-filter}
use Rattle.ucis_model.specs.declared.node.Node.{Node}
use Rattle.ucis_model.specs.Nodes.{nodes_of}
use Rattle.ucis_model.specs.Paths.{find_in}
use Rattle.design_data.specs.declared.design.Design.{Design}
use Rattle.cov_history.specs.declared.entry.Entry.{Entry}
use Rattle.cov_history.specs.History.{has, design_of, out_of, is_legal}
use Rattle.cov_history.proofs.Legal.{all_found}
use Rattle.cov_history.proofs.Bools.{by_bool}
use Rattle.store_parts.specs.Keeps.{HasOut, finds, path_at}
use Rattle.store_parts.specs.Putting.{put_node, put_path, is_put}
use Rattle.store_parts.proofs.Outs.{bytes_same, count_has, find_filter, find_true, out_more, has_is, path_unique, is_node_some}
use Rattle.store_parts.proofs.Members.{IsOnce, HaveSame, once_filter, same_count, same_found}
use Rattle.store_parts.proofs.Places.{paths_in, paths_more, are_at, once_in, same_members}

pub once_front : (ps qs : List (List ℕ)) → IsOnce (ps ++ qs) → IsOnce ps
once_front ps qs o path = let s = sum_by-append (λ (p : List ℕ). cond (bytes_eq p path) 1 0) ps qs in omega (arith, s, o path)

once_last : (ps : List (List ℕ)) (p : List ℕ) → IsOnce (ps ++ p ∷ []) → has p ps ≡ false
once_last ps p o =
    let s = sum_by_push (λ (x : List ℕ). cond (bytes_eq x p) 1 0) ps p in
    let one : ◌≡◌ {A = ℕ} (cond (bytes_eq p p) 1 0) 1 = rw (bytes_same p p refl) refl in
    by_bool (has p ps)
    (λ h. absurd (omega (arith, s, one, o p, count_has p ps h)))
    (λ h. h)

none_of : {A : Type 0} (o : Option A) → is_some o ≡ false → o ≡ None
none_of None e = refl
none_of (Some x) e = absurd (true≢false e)

module _ (nodes : List Node) where
  abbrev pub there : List ℕ → Bool
  there p = is_some (find_in nodes p)

  -- a path fewer passes through a filter
  filter_has : (p : List ℕ) (ps : List (List ℕ)) → has p ps ≡ false → has p (filter there ps) ≡ false
  filter_has p [] h = refl
  filter_has p (q ∷ ps) h =
      by_bool (bytes_eq q p)
      (λ k. absurd (true≢false (sym (rw k refl) ∙ h)))
      (λ k.
      let g : has p ps ≡ false = sym (rw k refl) ∙ h in
      let rest = filter_has p ps g in
      by_bool (there q) (λ j. rw j (rw k rest)) (λ j. rw j rest))

  added : (ps : List (List ℕ)) (o : Option (List ℕ)) (out : List (Option (List ℕ))) (outs : ℕ) → IsOnce (ps ++ option_to_list o) → HasOut nodes (filter there ps) out outs → HasOut nodes (filter there (ps ++ option_to_list o)) (put_path nodes o out) (outs + cond (is_put nodes o) 1 0)
  added ps None out outs o h =
      subst (λ n. HasOut nodes (filter there (ps ++ [])) out n) (sym (add-zero outs)) (subst (λ qs. HasOut nodes (filter there qs) out outs) (sym (append-nil ps)) h)
  added ps (Some p) out outs o h = by (find_in nodes p) refl
    where
      by : (n : Option ℕ) → find_in nodes p ≡ n → HasOut nodes (filter there (ps ++ p ∷ [])) (put_node (find_in nodes p) p out) (outs + cond (is_some (find_in nodes p)) 1 0)
      by None e =
          let l : filter there (ps ++ p ∷ []) ≡ filter there ps = filter-append there ps (p ∷ []) ∙ rw e (append-nil (filter there ps)) in
          rw e (subst (λ n. HasOut nodes (filter there (ps ++ p ∷ [])) out n) (sym (add-zero outs)) (subst (λ qs. HasOut nodes qs out outs) (sym l) h))
      by (Some n) e =
          let l : filter there (ps ++ p ∷ []) ≡ filter there ps ++ p ∷ [] = filter-append there ps (p ∷ []) ∙ rw e refl in
          let free : path_at nodes (filter there ps) n ≡ None = none_of _ (sym (has_is nodes p n e (filter there ps)) ∙ filter_has p ps (once_last ps p o)) in
          rw e (subst (λ qs. HasOut nodes qs (slice_set out n (Some p)) (outs + 1)) (sym l) (out_more nodes (filter there ps) out outs p n h e free))

  once_take : (all : List (Option (List ℕ))) (i : ℕ) → IsOnce (paths_in all) → IsOnce (paths_in (take i all))
  once_take all i o =
      let split : paths_in all ≡ paths_in (take i all) ++ paths_in (drop i all) = ap paths_in (sym (take-append-drop i all)) ∙ flat_map-append (λ (x : Option (List ℕ)). option_to_list x) (take i all) (drop i all) in
      once_front (paths_in (take i all)) (paths_in (drop i all)) (subst IsOnce split o)

  -- one place more is looked at
  pub put_more : (all : List (Option (List ℕ))) (i : ℕ) (o : Option (List ℕ)) (out new : List (Option (List ℕ))) (outs more : ℕ) → IsOnce (paths_in all) → i < length all → o ≡ get_or all i o
      → HasOut nodes (filter there (paths_in (take i all))) out outs → new ≡ put_path nodes o out → more ≡ outs + cond (is_put nodes o) 1 0
      → HasOut nodes (filter there (paths_in (take (i + 1) all))) new more
  put_more all i o out new outs more once below e h n m =
      let grown = paths_more all i o below e in
      let o' : IsOnce (paths_in (take i all) ++ option_to_list o) = subst IsOnce grown (once_take all (i + 1) once) in
      let h' : HasOut nodes (filter there (paths_in (take i all) ++ option_to_list o)) new more = rw (n, m) (added (paths_in (take i all)) o out outs o' h) in
      subst (λ qs. HasOut nodes (filter there qs) new more) (sym grown) h'

  -- the same paths in another order
  pub reordered : (ps qs : List (List ℕ)) (out : List (Option (List ℕ))) (outs : ℕ) → IsOnce ps → IsOnce qs → HaveSame ps qs → HasOut nodes (filter there ps) out outs → HasOut nodes (filter there qs) out outs
  reordered ps qs out outs a b same h = record {
    same_len = h.same_len;
    at = λ n. h.at n ∙ kept n ps ∙ same_found (finds nodes n) (one n) ps qs same ∙ sym (kept n qs);
    each_once = once_filter there qs b;
    count = h.count ∙ length-filter there ps ∙ same_count there ps qs a b same ∙ sym (length-filter there qs);
  }
    where
      kept : (n : ℕ) (xs : List (List ℕ)) → find (finds nodes n) (filter there xs) ≡ find (finds nodes n) xs
      kept n xs = find_filter (finds nodes n) there (λ p t. ap is_some (is_node_some n (find_in nodes p) t)) xs

      one : (n : ℕ) (p q : List ℕ) → finds nodes n p ≡ true → finds nodes n q ≡ true → p ≡ q
      one n p q s t = path_unique nodes p q n (is_node_some n (find_in nodes p) s) (is_node_some n (find_in nodes q) t)

-- what stands at the nodes of a design is what is out, in another order
pub standing_is : (nodes : List Node) (paths : List (List ℕ)) (out : List (Option (List ℕ))) (outs : ℕ) → HasOut nodes paths out outs → ((p : List ℕ) → has p paths ≡ true → is_some (find_in nodes p) ≡ true) → IsOnce (paths_in out) × HaveSame (paths_in out) paths
standing_is nodes paths out outs h found =
    let all = are_at (find_in nodes) 0 out (λ n p e. let k : n ≡ 0 + n = omega arith in is_node_some n (find_in nodes p) (find_true (finds nodes n) paths p (sym (h.at n) ∙ e)) ∙ ap Some k) in
    (once_in (find_in nodes) 0 out all, same_members (find_in nodes) (path_unique nodes) paths out all found (λ p n e. has_is nodes p n e paths ∙ ap is_some (sym (h.at n))))

-- nothing is out yet
pub nothing_put : {A : Type 0} (nodes : List Node) (view : A → Option (List ℕ)) (none : A) (out : List A) (many : ℕ) → out ≡ replicate many none → many ≡ length nodes → view none ≡ None → HasOut nodes [] (map view out) 0
nothing_put nodes view none out many o m v = record {
  same_len = length-map out view ∙ ap length o ∙ length-replicate many none ∙ m;
  at = λ n. ap (λ xs. slice_index_or (map view xs) n None) o ∙ none_there many n;
  each_once = λ path. omega arith;
  count = refl;
}
  where
    none_there : (n i : ℕ) → slice_index_or (map view (replicate n none)) i None ≡ None
    none_there zero i = refl
    none_there (suc n) zero = v
    none_there (suc n) (suc i) = none_there n i

mapped_at : {A B : Type 0} (f : A → B) (xs : List A) (i : ℕ) (x : A) → i < length xs → x ≡ get_or xs i x → f x ≡ get_or (map f xs) i (f x)
mapped_at f [] i x below e = absurd (omega (arith, below))
mapped_at f (y ∷ ys) zero x below e = ap f e
mapped_at f (y ∷ ys) (suc i) x below e = mapped_at f ys i x (omega (arith, below)) e

-- each path that is out finds a node
pub found_all : (opening : Design) (h : List Entry) (nodes : List Node) → nodes ≡ nodes_of (design_of opening h) → is_legal opening h ≡ true → (p : List ℕ) → has p (out_of h) ≡ true → is_some (find_in nodes p) ≡ true
found_all opening h nodes same legal p there_ = ap (λ (ns : List Node). is_some (find_in ns p)) same ∙ all_found opening h legal p there_

one_or_none : (b : Bool) → cond b 1 0 ≤ 1
one_or_none true = omega arith
one_or_none false = omega arith

-- one node more of the old ones is looked at
pub moved_on : {A : Type 0} (nodes new : List Node) (paths : List (List ℕ)) (view : A → Option (List ℕ)) (all : List A) (old_outs i : ℕ) (x : A) (out after : List (Option (List ℕ))) (outs more : ℕ) → HasOut nodes paths (map view all) old_outs
    → ((p : List ℕ) → has p paths ≡ true → is_some (find_in nodes p) ≡ true)
    → i < length all → x ≡ get_or all i x
    → HasOut new (filter (there new) (paths_in (take i (map view all)))) out outs
    → after ≡ put_path new (view x) out → more ≡ cond (is_put new (view x)) 1 0
    → HasOut new (filter (there new) (paths_in (take (i + 1) (map view all)))) after (outs + more) × (more ≤ 1)
moved_on nodes new paths view all old_outs i x out after outs more h found below is before put count =
    let s = standing_is nodes paths (map view all) old_outs h found in
    let inside : i < length (map view all) = omega (arith, below, length-map all view) in
    (put_more new (map view all) i (view x) out after outs (outs + more) s.0 inside (mapped_at view all i x below is) before put (ap (λ (n : ℕ). outs + n) count), subst (λ (n : ℕ). n ≤ 1) (sym count) (one_or_none (is_put new (view x))))

-- all places of the old nodes were looked at: what is out is what the history says
pub moved_out : (nodes new : List Node) (paths : List (List ℕ)) (all : List (Option (List ℕ))) (old_outs : ℕ) (i : ℕ) (out : List (Option (List ℕ))) (outs : ℕ) → HasOut nodes paths all old_outs
    → ((p : List ℕ) → has p paths ≡ true → is_some (find_in nodes p) ≡ true)
    → length all ≤ i → HasOut new (filter (there new) (paths_in (take i all))) out outs → HasOut new (filter (there new) paths) out outs
moved_out nodes new paths all old_outs i out outs h found e made =
    let s = standing_is nodes paths all old_outs h found in
    let whole : HasOut new (filter (there new) (paths_in all)) out outs = subst (λ (xs : List (Option (List ℕ))). HasOut new (filter (there new) (paths_in xs)) out outs) (take_all all i e) made in
    reordered new (paths_in all) paths out outs s.0 h.each_once s.1 whole
  where
    take_all : {A : Type 0} (xs : List A) (k : ℕ) → length xs ≤ k → take k xs ≡ xs
    take_all [] zero g = refl
    take_all [] (suc k) g = refl
    take_all (x ∷ xs) zero g = absurd (omega (arith, g))
    take_all (x ∷ xs) (suc k) g = ap (λ ys. x ∷ ys) (take_all xs k (omega (arith, g)))
