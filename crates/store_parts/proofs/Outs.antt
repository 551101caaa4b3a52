-- Paths and the nodes that they find.
use Rattle.std.proofs.Common.{◌≡◌, ◌≢◌, ℕ, ◌+◌, ◌<◌, ◌≤◌, Bool, true, false, not, cond, List, [], ◌∷◌, ◌++◌, length, refl, sym, ap, subst, ◌∙◌, add-one, arith, length-append, Option, Some, None, is_some, true≢false, eqb}
use Rattle.std.specs.Prelude.{count_by, find, filter, bytes_eq, slice_index_or, slice_set, ◌==◌}
use Rattle.std.specs.Option.{option_or, option_map_or}
use Rattle.std.proofs.lemmas.Bool.{eqb-true, eq-eqb}
use Rattle.std.proofs.lemmas.List.{get_or-set_same, get_or-set_other, length-set}
use Rattle.std.proofs.lemmas.List.Folds.{find-append}
use Rattle.std.proofs.lemmas.List.Sums.{sum_by_push, sum_by-cons}
use Rattle.std.proofs.lemmas.Slice.Eq.{bytes_eq-Decides}
use Rattle.ucis_model.specs.declared.node.Node.{Node}
use Rattle.ucis_model.specs.Paths.{find_in, path_of}
use Rattle.ucis_model.specs.Laws.{IsFound}
use Rattle.ucis_model.proofs.Finding.{finds_least}
use Rattle.cov_history.specs.Coverage.{is_out}
use Rattle.cov_history.specs.History.{has, without}
use Rattle.cov_history.proofs.Bools.{by_bool}
use Rattle.store_parts.specs.Keeps.{path_at, HasOut}

pub same_bytes : (a b : List ℕ) → bytes_eq a b ≡ true → a ≡ b
same_bytes a b p = (bytes_eq-Decides a b).0 p

pub bytes_same : (a b : List ℕ) → a ≡ b → bytes_eq a b ≡ true
bytes_same a b p = (bytes_eq-Decides a b).1 p

-- what is found is there, and has the path
pub found_inside : (nodes : List Node) (path : List ℕ) (n : ℕ) → find_in nodes path ≡ Some n → n < length nodes
found_inside nodes path n e = let l : IsFound nodes path (Some n) = subst (IsFound nodes path) e (finds_least nodes path) in l.exists

found_has : (nodes : List Node) (path : List ℕ) (n : ℕ) → find_in nodes path ≡ Some n → path_of nodes n ≡ path
found_has nodes path n e = let l : IsFound nodes path (Some n) = subst (IsFound nodes path) e (finds_least nodes path) in l.has

-- a node is found by one path alone
pub path_unique : (nodes : List Node) (p q : List ℕ) (n : ℕ) → find_in nodes p ≡ Some n → find_in nodes q ≡ Some n → p ≡ q
path_unique nodes p q n hp hq = sym (found_has nodes p n hp) ∙ found_has nodes q n hq

abbrev is_node : ℕ → Option ℕ → Bool
is_node n o = option_map_or (λ m. m == n) o false

pub is_node_some : (n : ℕ) (o : Option ℕ) → is_node n o ≡ true → o ≡ Some n
is_node_some n None p = absurd (true≢false (sym p))
is_node_some n (Some m) p = ap Some (eqb-true m n p)

pub is_node_self : (n : ℕ) (o : Option ℕ) → o ≡ Some n → is_node n o ≡ true
is_node_self n o p = rw p (eq-eqb n n refl)

pub bool_eq : (a b : Bool) → (a ≡ true → b ≡ true) → (b ≡ true → a ≡ true) → a ≡ b
bool_eq true b f g = sym (f refl)
bool_eq false true f g = g refl
bool_eq false false f g = refl

-- finding the node is being its path
pub same_test : (nodes : List Node) (path : List ℕ) (n : ℕ) → find_in nodes path ≡ Some n → (p : List ℕ) → is_node n (find_in nodes p) ≡ bytes_eq p path
same_test nodes path n h p = bool_eq _ _
    (λ e. bytes_same p path (path_unique nodes p path n (is_node_some n (find_in nodes p) e) h))
    (λ e. is_node_self n (find_in nodes p) (ap (find_in nodes) (same_bytes p path e) ∙ h))

pub has_is : (nodes : List Node) (path : List ℕ) (n : ℕ) → find_in nodes path ≡ Some n → (ps : List (List ℕ)) → has path ps ≡ is_some (path_at nodes ps n)
has_is nodes path n h [] = refl
has_is nodes path n h (p ∷ ps) = by (has_is nodes path n h ps) (is_node n (find_in nodes p)) refl
  where
    by : has path ps ≡ is_some (path_at nodes ps n) → (b : Bool) → is_node n (find_in nodes p) ≡ b → has path (p ∷ ps) ≡ is_some (path_at nodes (p ∷ ps) n)
    by rest true q = rw (sym (same_test nodes path n h p) ∙ q) (rw q refl)
    by rest false q = rw (sym (same_test nodes path n h p) ∙ q) (rw q rest)

-- whether a node is out is whether a path stands at it
pub out_is : (nodes : List Node) (n : ℕ) (ps : List (List ℕ)) → is_out nodes ps n ≡ is_some (path_at nodes ps n)
out_is nodes n [] = refl
out_is nodes n (p ∷ ps) = by (out_is nodes n ps) (is_node n (find_in nodes p)) refl
  where
    by : is_out nodes ps n ≡ is_some (path_at nodes ps n) → (b : Bool) → is_node n (find_in nodes p) ≡ b → is_out nodes (p ∷ ps) n ≡ is_some (path_at nodes (p ∷ ps) n)
    by rest true q = rw q refl
    by rest false q = rw q rest

pub count_none : (path : List ℕ) (ps : List (List ℕ)) → has path ps ≡ false → count_by (λ p. bytes_eq p path) ps ≡ 0
count_none path [] h = refl
count_none path (p ∷ ps) h = by (count_none path ps) (bytes_eq p path) refl
  where
    by : (has path ps ≡ false → count_by (λ p. bytes_eq p path) ps ≡ 0) → (b : Bool) → bytes_eq p path ≡ b → count_by (λ p. bytes_eq p path) (p ∷ ps) ≡ 0
    by rest true q = absurd (true≢false (sym (rw q refl) ∙ h))
    by rest false q =
        let t : has path ps ≡ false = sym (rw q refl) ∙ h in
        let c = sum_by-cons (λ (x : List ℕ). cond (bytes_eq x path) 1 0) p ps in
        let z : ◌≡◌ {A = ℕ} (cond (bytes_eq p path) 1 0) 0 = rw q refl in
        omega (arith, c, z, rest t)

is_node_other : (m n : ℕ) (o : Option ℕ) → o ≡ Some n → m ≢ n → is_node m o ≡ false
is_node_other m n o p ne = by (is_node m o) refl
  where
    by : (b : Bool) → is_node m o ≡ b → is_node m o ≡ false
    by false q = q
    by true q = let e : Some m ≡ Some n = sym (is_node_some m o q) ∙ p in absurd (ne (cc))

option_or_none : {A : Type 0} (o : Option A) → option_or o None ≡ o
option_or_none None = refl
option_or_none (Some x) = refl

-- one more path, at a node that was not out
pub out_more : (nodes : List Node) (ps : List (List ℕ)) (out : List (Option (List ℕ))) (outs : ℕ) (path : List ℕ) (n : ℕ) → HasOut nodes ps out outs → find_in nodes path ≡ Some n → path_at nodes ps n ≡ None → HasOut nodes (ps ++ path ∷ []) (slice_set out n (Some path)) (outs + 1)
out_more nodes ps out outs path n h f none = record {
  same_len = length-set out n (Some path) ∙ h.same_len;
  at = λ m. here m (eqb m n) refl;
  each_once = λ q. few q (bytes_eq path q) refl;
  count = omega (arith, h.count, length-append ps (path ∷ []));
}
  where
    split : (m : ℕ) → path_at nodes (ps ++ path ∷ []) m ≡ option_or (path_at nodes ps m) (cond (is_node m (find_in nodes path)) (Some path) None)
    split m = find-append (λ p. is_node m (find_in nodes p)) ps (path ∷ [])

    here : (m : ℕ) → (b : Bool) → eqb m n ≡ b → slice_index_or (slice_set out n (Some path)) m None ≡ path_at nodes (ps ++ path ∷ []) m
    here m true e =
        let k = eqb-true m n e in
        let within : n < length out = omega (arith, h.same_len, found_inside nodes path n f) in
        rw k (get_or-set_same out n (Some path) None within ∙ sym (split n ∙ rw (none, is_node_self n (find_in nodes path) f) refl))
    here m false e =
        let ne : m ≢ n = λ k. true≢false (sym (eq-eqb m n k) ∙ e) in
        get_or-set_other out n m (Some path) None ne ∙ h.at m ∙ sym (split m ∙ rw (is_node_other m n (find_in nodes path) f ne) (option_or_none (path_at nodes ps m)))

    few : (q : List ℕ) (b : Bool) → bytes_eq path q ≡ b → count_by (λ p. bytes_eq p q) (ps ++ path ∷ []) ≤ 1
    few q true e =
        let k = same_bytes path q e in
        let no : has q ps ≡ false = ap (λ x. has x ps) (sym k) ∙ has_is nodes path n f ps ∙ ap is_some none in
        let c = sum_by_push (λ (x : List ℕ). cond (bytes_eq x q) 1 0) ps path in
        let one : ◌≡◌ {A = ℕ} (cond (bytes_eq path q) 1 0) 1 = rw e refl in
        omega (arith, c, one, count_none q ps no)
    few q false e =
        let c = sum_by_push (λ (x : List ℕ). cond (bytes_eq x q) 1 0) ps path in
        let one : ◌≡◌ {A = ℕ} (cond (bytes_eq path q) 1 0) 0 = rw e refl in
        omega (arith, c, one, h.each_once q)

-- ---- one path less

-- what is looked for is kept
pub find_filter : {A : Type 0} (test keep : A → Bool) → ((x : A) → test x ≡ true → keep x ≡ true) → (xs : List A) → find test (filter keep xs) ≡ find test xs
find_filter test keep sure [] = refl
find_filter test keep sure (x ∷ xs) =
    let rest = find_filter test keep sure xs in
    by_bool (keep x)
    (λ k. rw k (by_bool (test x) (λ t. rw t refl) (λ t. rw t rest)))
    (λ k. by_bool (test x) (λ t. absurd (true≢false (sym (sure x t) ∙ k))) (λ t. rw (k, t) rest))

-- what is looked for is left out
find_filtered : {A : Type 0} (test keep : A → Bool) → ((x : A) → test x ≡ true → keep x ≡ false) → (xs : List A) → find test (filter keep xs) ≡ None
find_filtered test keep sure [] = refl
find_filtered test keep sure (x ∷ xs) =
    let rest = find_filtered test keep sure xs in
    by_bool (keep x)
    (λ k. rw k (by_bool (test x) (λ t. absurd (true≢false (sym k ∙ sure x t))) (λ t. rw t rest)))
    (λ k. rw k rest)

pub count_filter : {A : Type 0} (p keep : A → Bool) (xs : List A) → count_by p (filter keep xs) ≤ count_by p xs
count_filter {A = A} p keep [] = omega arith
count_filter {A = A} p keep (x ∷ xs) =
    let rest = count_filter p keep xs in
    let c = sum_by-cons (λ (y : A). cond (p y) 1 0) x xs in
    by_bool (keep x)
    (λ k. let d = sum_by-cons (λ (y : A). cond (p y) 1 0) x (filter keep xs) in rw k (omega (arith, c, d, rest)))
    (λ k. rw k (omega (arith, c, rest)))

length_without : {A : Type 0} (t : A → Bool) (xs : List A) → length (filter (λ x. not (t x)) xs) + count_by t xs ≡ length xs
length_without {A = A} t [] = refl
length_without {A = A} t (x ∷ xs) =
    let rest = length_without t xs in
    let c = sum_by-cons (λ (y : A). cond (t y) 1 0) x xs in
    by_bool (t x)
    (λ k. let one : ◌≡◌ {A = ℕ} (cond (t x) 1 0) 1 = rw k refl in let l : length (filter (λ y. not (t y)) (x ∷ xs)) ≡ length (filter (λ y. not (t y)) xs) = rw k refl in omega (arith, c, one, l, rest))
    (λ k. let one : ◌≡◌ {A = ℕ} (cond (t x) 1 0) 0 = rw k refl in let l : length (filter (λ y. not (t y)) (x ∷ xs)) ≡ length (filter (λ y. not (t y)) xs) + 1 = rw k (sym (add-one (length (filter (λ y. not (t y)) xs)))) in omega (arith, c, one, l, rest))

pub count_has : (path : List ℕ) (ps : List (List ℕ)) → has path ps ≡ true → 1 ≤ count_by (λ p. bytes_eq p path) ps
count_has path [] h = absurd (true≢false (sym h))
count_has path (p ∷ ps) h =
    let c = sum_by-cons (λ (x : List ℕ). cond (bytes_eq x path) 1 0) p ps in
    let rest = count_has path ps in
    by_bool (bytes_eq p path)
    (λ k. let one : ◌≡◌ {A = ℕ} (cond (bytes_eq p path) 1 0) 1 = rw k refl in omega (arith, c, one))
    (λ k. let t : has path ps ≡ true = sym (rw k refl) ∙ h in omega (arith, c, rest t))

not_false : (b : Bool) → b ≡ false → not b ≡ true
not_false b p = rw p refl

not_true : (b : Bool) → b ≡ true → not b ≡ false
not_true b p = rw p refl

-- how many stay
pub outs_less : (nodes : List Node) (ps : List (List ℕ)) (out : List (Option (List ℕ))) (outs : ℕ) (path : List ℕ) → HasOut nodes ps out outs → has path ps ≡ true → length (without path ps) + 1 ≡ outs
outs_less nodes ps out outs path h there =
    let l = length_without (λ (p : List ℕ). bytes_eq p path) ps in
    omega (arith, l, count_has path ps there, h.each_once path, h.count)

pub out_less : (nodes : List Node) (ps : List (List ℕ)) (out : List (Option (List ℕ))) (outs fewer : ℕ) (path : List ℕ) (n : ℕ) → HasOut nodes ps out outs → find_in nodes path ≡ Some n → has path ps ≡ true → fewer + 1 ≡ outs → HasOut nodes (without path ps) (slice_set out n None) fewer
out_less nodes ps out outs fewer path n h f there e = record {
  same_len = length-set out n None ∙ h.same_len;
  at = λ m. here m (eqb m n) refl;
  each_once = λ q. omega (arith, count_filter (λ (p : List ℕ). bytes_eq p q) (λ (p : List ℕ). not (bytes_eq p path)) ps, h.each_once q);
  count = omega (arith, outs_less nodes ps out outs path h there, e);
}
  where
    here : (m : ℕ) → (b : Bool) → eqb m n ≡ b → slice_index_or (slice_set out n None) m None ≡ path_at nodes (without path ps) m
    here m true e =
        let k = eqb-true m n e in
        let within : n < length out = omega (arith, h.same_len, found_inside nodes path n f) in
        rw k (get_or-set_same out n None None within ∙ sym (find_filtered (λ (p : List ℕ). is_node n (find_in nodes p)) (λ (p : List ℕ). not (bytes_eq p path)) (λ p t. not_true (bytes_eq p path) (sym (same_test nodes path n f p) ∙ t)) ps))
    here m false e =
        let ne : m ≢ n = λ k. true≢false (sym (eq-eqb m n k) ∙ e) in
        get_or-set_other out n m None None ne ∙ h.at m ∙ sym (find_filter (λ (p : List ℕ). is_node m (find_in nodes p)) (λ (p : List ℕ). not (bytes_eq p path)) (λ p t. by_bool (bytes_eq p path) (λ b. absurd (true≢false (sym t ∙ is_node_other m n (find_in nodes p) (ap (find_in nodes) (same_bytes p path b) ∙ f) ne))) (not_false (bytes_eq p path))) ps)

pub find_true : {A : Type 0} (t : A → Bool) (xs : List A) (x : A) → find t xs ≡ Some x → t x ≡ true
find_true t [] x h = absurd (cc)
find_true {A = A} t (y ∷ ys) x h =
    let rest = find_true t ys x in
    by_bool (t y)
    (λ k. let e : ◌≡◌ {A = Option A} (Some y) (Some x) = sym (rw k refl) ∙ h in let same : y ≡ x = cc in ap t (sym same) ∙ k)
    (λ k. rest (sym (rw k refl) ∙ h))

-- what stands at the node is its path
pub path_at_is : (nodes : List Node) (ps : List (List ℕ)) (path q : List ℕ) (n : ℕ) → find_in nodes path ≡ Some n → path_at nodes ps n ≡ Some q → q ≡ path
path_at_is nodes ps path q n f h = path_unique nodes q path n (is_node_some n (find_in nodes q) (find_true (λ (p : List ℕ). is_node n (find_in nodes p)) ps q h)) f
