-- Lists of names, sums and greatest numbers, an element at a time.
use Rattle.std.proofs.Common.{◌≡◌, ℕ, ◌+◌, ◌<◌, ◌≤◌, List, [], ◌∷◌, ◌++◌, length, map, take, get_or, Bool, true, false, cond, refl, sym, ap, ◌∙◌, arith, length-append}
use Rattle.std.specs.Prelude.{filter, count_by, fold, max, sum_by, bytes_eq, if◌then◌else◌}
use Rattle.std.specs.List.{list_any}
use Rattle.std.proofs.lemmas.List.{take_more, take_all, map-append, length-map}
use Rattle.std.proofs.lemmas.List.Sums.{fold-append, sum_by_push, length-filter, count_by-le-length}
use Rattle.percent.specs.Millionths.{mean}
use Rattle.ucis_model.specs.declared.node.Node.{Node}
use Rattle.cov_history.specs.Coverage.{once, named, live_under, item_name, type_weight, merged_item, merged_coverage}

module _ {X : Type 0} (xs : List X) where
  pub take_map : {Y : Type 0} (f : X → Y) (i : ℕ) (d : X) (old new : List Y) (y : Y) → i < length xs → y ≡ f (get_or xs i d) → old ≡ map f (take i xs) → new ≡ old ++ y ∷ [] → new ≡ map f (take (i + 1) xs)
  take_map f i d old new y lt is was e =
      e ∙ (λ k. was k ++ is k ∷ []) ∙ sym (map-append f (take i xs) (get_or xs i d ∷ [])) ∙ ap (map f) (sym (take_more xs i d lt))

  pub take_max : (f : X → ℕ) (i : ℕ) (d : X) (old new m : ℕ) → i < length xs → m ≡ f (get_or xs i d) → old ≡ fold max 0 (map f (take i xs)) → new ≡ max old m → new ≡ fold max 0 (map f (take (i + 1) xs))
  take_max f i d old new m lt is was e =
      e ∙ (λ k. max (was k) (is k)) ∙ sym (fold-append max 0 (map f (take i xs)) (f (get_or xs i d) ∷ [])) ∙ ap (fold max 0) (sym (map-append f (take i xs) (get_or xs i d ∷ [])) ∙ ap (map f) (sym (take_more xs i d lt)))

  pub take_sum : (f : X → ℕ) (i : ℕ) (d : X) (old new m : ℕ) → i < length xs → m ≡ f (get_or xs i d) → old ≡ sum_by f (take i xs) → new ≡ old + m → new ≡ sum_by f (take (i + 1) xs)
  take_sum f i d old new m lt is was e =
      let s = sum_by_push f (take i xs) (get_or xs i d) in
      let t = ap (sum_by f) (take_more xs i d lt) in
      omega (arith, is, was, e, s, t)

-- one name more
pub once_more : (names : List (List ℕ)) (i : ℕ) (name : List ℕ) (old new : List (List ℕ)) → i < length names → name ≡ get_or names i name → old ≡ once (take i names)
    → new ≡ (if list_any (bytes_eq name) old then old else old ++ name ∷ []) → new ≡ once (take (i + 1) names)
once_more names i name old new lt is was e =
    let step : List (List ℕ) → List ℕ → List (List ℕ) = λ done x. if list_any (bytes_eq x) done then done else done ++ x ∷ [] in
    e ∙ ap (λ (done : List (List ℕ)). step done name) was ∙ sym (fold-append step [] (take i names) (name ∷ []))
    ∙ ap (fold step []) (ap (λ (x : List ℕ). take i names ++ x ∷ []) is ∙ sym (take_more names i name lt))

abbrev step : List (List ℕ) → List ℕ → List (List ℕ)
step done x = if list_any (bytes_eq x) done then done else done ++ x ∷ []

one_longer : (b : Bool) (done : List (List ℕ)) (x : List ℕ) → length (if b then done else done ++ x ∷ []) ≤ length done + 1
one_longer true done x = omega arith
one_longer false done x = let e = length-append done (x ∷ []) in omega (arith, e)

folded_short : (names done : List (List ℕ)) → length (fold step done names) ≤ length done + length names
folded_short [] done = omega arith
folded_short (x ∷ names) done =
    let rest = folded_short names (step done x) in
    let one = one_longer (list_any (bytes_eq x) done) done x in
    omega (arith, rest, one)

pub once_short : (names : List (List ℕ)) → length (once names) ≤ length names
once_short names = let h = folded_short names [] in omega (arith, h)

pub named_short : (name_of : ℕ → List ℕ) (name : List ℕ) (bins : List ℕ) → length (named name_of name bins) ≤ length bins
named_short name_of name bins =
    let a = length-filter (λ n. bytes_eq (name_of n) name) bins in
    let b = count_by-le-length (λ n. bytes_eq (name_of n) name) bins in
    omega (arith, a, b)

-- a count, an element at a time
pub take_counted : {X : Type 0} (p : X → Bool) (xs : List X) (i : ℕ) (x : X) (old new : ℕ) (test : Bool) → i < length xs → x ≡ get_or xs i x → test ≡ p x → old ≡ count_by p (take i xs) → new ≡ old + cond test 1 0 → new ≡ count_by p (take (i + 1) xs)
take_counted p xs i x old new test lt at is was e =
    let s = sum_by_push (λ y. cond (p y) 1 0) (take i xs) x in
    let t = ap (count_by p) (take_more xs i x lt ∙ ap (λ y. take i xs ++ y ∷ []) (sym at)) in
    let c : ◌≡◌ {A = ℕ} (cond test 1 0) (cond (p x) 1 0) = ap (λ (b : Bool). cond b 1 0) is in
    omega (arith, s, t, c, was, e)

pub take_counts : {X : Type 0} (p : X → Bool) (xs : List X) (i r : ℕ) → length xs ≤ i → r ≡ count_by p (take i xs) → r ≡ count_by p xs
take_counts p xs i r le was = was ∙ ap (count_by p) (take_all i xs le)

pub filter_none : {X : Type 0} (xs : List X) → filter (λ x. true) xs ≡ xs
filter_none [] = refl
filter_none (x ∷ xs) = ap (λ ys. x ∷ ys) (filter_none xs)

-- the names of bins, each once, are no more than the bins
pub few_names : (name_of : ℕ → List ℕ) (bins : List ℕ) (all given names : List (List ℕ)) → given ≡ map name_of bins → all ≡ once given → names ≡ all → length names ≤ length bins
few_names name_of bins all given names g a n =
    let x = ap (λ (ns : List (List ℕ)). length ns) (n ∙ a) in
    let y = once_short given in
    let z = ap (λ (ns : List (List ℕ)). length ns) g ∙ length-map bins name_of in
    omega (arith, x, y, z)

pub merged_is : (nodes : List Node) (count : ℕ → ℕ) (excluded : ℕ → Bool) (n : ℕ) (bins : List ℕ) (names : List (List ℕ)) (part : ℕ) → bins ≡ live_under nodes excluded n → names ≡ once (map (item_name nodes) (live_under nodes excluded n))
    → part ≡ mean (map {B = ℕ × ℕ} (λ name. (type_weight nodes (named (item_name nodes) name bins), merged_item nodes count (named (item_name nodes) name bins))) names) → part ≡ merged_coverage nodes count excluded n
unfolding merged_coverage
merged_is nodes count excluded n bins names part b ns e =
    e ∙ (λ i. mean (map {B = ℕ × ℕ} (λ name. (type_weight nodes (named (item_name nodes) name (b i)), merged_item nodes count (named (item_name nodes) name (b i)))) (ns i)))
