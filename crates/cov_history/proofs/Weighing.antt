-- Lists of live bins are short, and running means take one node more.
use Rattle.std.proofs.Common.{◌≡◌, ℕ, zero, suc, ◌+◌, ◌<◌, ◌≤◌, List, [], ◌∷◌, ◌++◌, length, map, take, drop, get_or, Bool, cond, refl, sym, ap, ◌∙◌, arith, length-drop}
use Rattle.std.specs.Prelude.{filter}
use Rattle.std.proofs.lemmas.List.{take_more, take_all, map-append}
use Rattle.std.proofs.lemmas.List.Sums.{count_by-le-length, length-filter}
use Rattle.std.proofs.lemmas.List.FromFn.{length-range_with_len}
use Rattle.percent.specs.Millionths.{Sums, sums, mean}
use Rattle.ucis_model.specs.declared.node.Node.{Node}
use Rattle.ucis_model.specs.Paths.{node_at}
use Rattle.cov_history.specs.Nodes.{is_bin, all_nodes, bin_nodes, bins_under}
use Rattle.cov_history.specs.Coverage.{is_live, live_under}
use Rattle.cov_history.proofs.Bools.{by_bool}
use Rattle.cov_history.proofs.Ranges.{filter_one}
use Rattle.cov_history.proofs.Filters.{filter_append}

pub length_take : {X : Type 0} (k : ℕ) (xs : List X) → length (take k xs) ≤ length xs
length_take zero [] = omega arith
length_take (suc k) [] = omega arith
length_take zero (x ∷ xs) = omega arith
length_take (suc k) (x ∷ xs) = let rest = length_take k xs in omega (arith, rest)

pub few_live : (nodes : List Node) (excluded : ℕ → Bool) (n : ℕ) → length (live_under nodes excluded n) ≤ length (bin_nodes nodes)
few_live nodes excluded n =
    let under = bins_under nodes n in
    let rest = drop (node_at nodes n).first_bin (bin_nodes nodes) in
    let a = length-filter (is_live nodes excluded) under in
    let b = count_by-le-length (is_live nodes excluded) under in
    let c = length_take (node_at nodes n).bins rest in
    let d = length-drop (node_at nodes n).first_bin (bin_nodes nodes) in
    omega (arith, a, b, c, d)

pub few_bins : (nodes : List Node) → length (bin_nodes nodes) ≤ length nodes
few_bins nodes =
    let a = length-filter (λ n. is_bin (node_at nodes n).kind) (all_nodes nodes) in
    let b = count_by-le-length (λ n. is_bin (node_at nodes n).kind) (all_nodes nodes) in
    let c = length-range_with_len 0 (length nodes) in
    omega (arith, a, b, c)

any_default : {X : Type 0} (ys : List X) (k : ℕ) (e u : X) → k < length ys → get_or ys k e ≡ get_or ys k u
any_default [] k e u l = absurd (omega (arith, l))
any_default (y ∷ ys) zero e u l = refl
any_default (y ∷ ys) (suc k) e u l = any_default ys k e u (omega (arith, l))

module _ {X : Type 0} (w f : X → ℕ) (p : X → Bool) (xs : List X) where
  abbrev pub weighed_to : ℕ → List (ℕ × ℕ)
  weighed_to i = map {B = ℕ × ℕ} (λ x. (w x, f x)) (filter p (take i xs))

  one_part : (x : X) (test : Bool) → test ≡ p x → map {B = ℕ × ℕ} (λ y. (w y, f y)) (cond (p x) (x ∷ []) []) ≡ cond test ((w x, f x) ∷ []) []
  one_part x test is = by_bool (p x)
      (λ k. ap (λ (b : Bool). map {B = ℕ × ℕ} (λ y. (w y, f y)) (cond b (x ∷ []) [])) k ∙ sym (ap (λ (b : Bool). cond b ((w x, f x) ∷ []) []) (is ∙ k)))
      (λ k. ap (λ (b : Bool). map {B = ℕ × ℕ} (λ y. (w y, f y)) (cond b (x ∷ []) [])) k ∙ sym (ap (λ (b : Bool). cond b ((w x, f x) ∷ []) []) (is ∙ k)))

  weighed_more : (i : ℕ) (x : X) (test : Bool) → i < length xs → x ≡ get_or xs i x → test ≡ p x → weighed_to (i + 1) ≡ weighed_to i ++ cond test ((w x, f x) ∷ []) []
  weighed_more i x test lt at is =
      let one : take (i + 1) xs ≡ take i xs ++ x ∷ [] = take_more xs i x lt ∙ ap (λ (y : X). take i xs ++ y ∷ []) (sym at) in
      ap (λ (ys : List X). map {B = ℕ × ℕ} (λ y. (w y, f y)) (filter p ys)) one
      ∙ ap (map {B = ℕ × ℕ} (λ y. (w y, f y))) (filter_append p (take i xs) (x ∷ []) ∙ ap (λ (ys : List X). filter p (take i xs) ++ ys) (filter_one p x))
      ∙ map-append {B = ℕ × ℕ} (λ y. (w y, f y)) (filter p (take i xs)) (cond (p x) (x ∷ []) [])
      ∙ ap (λ (ps : List (ℕ × ℕ)). weighed_to i ++ ps) (one_part x test is)

  pub mean_more : (i : ℕ) (x : X) (test : Bool) (weight value : ℕ) (old new : Sums) → i < length xs → x ≡ get_or xs i x → test ≡ p x → weight ≡ w x → value ≡ f x
      → old ≡ sums (weighed_to i) → ((parts : List (ℕ × ℕ)) → old ≡ sums parts → new ≡ sums (parts ++ cond test ((weight, value) ∷ []) [])) → new ≡ sums (weighed_to (i + 1))
  mean_more i x test weight value old new lt at is we va was step =
      step (weighed_to i) was ∙ (λ k. sums (weighed_to i ++ cond test ((we k, va k) ∷ []) [])) ∙ ap sums (sym (weighed_more i x test lt at is))

  -- the element being read, whatever stands for none
  pub mean_read : (i : ℕ) (d : X) (test : Bool) (weight value : ℕ) (old new : Sums) → i < length xs → test ≡ p (get_or xs i d) → weight ≡ w (get_or xs i d) → value ≡ f (get_or xs i d)
      → old ≡ sums (weighed_to i) → ((parts : List (ℕ × ℕ)) → old ≡ sums parts → new ≡ sums (parts ++ cond test ((weight, value) ∷ []) [])) → new ≡ sums (weighed_to (i + 1))
  mean_read i d test weight value old new lt is we va was step = mean_more i (get_or xs i d) test weight value old new lt (any_default xs i d (get_or xs i d) lt) is we va was step

  pub mean_done : (i : ℕ) (m : Sums) (r : ℕ) → length xs ≤ i → m ≡ sums (weighed_to i) → ((parts : List (ℕ × ℕ)) → m ≡ sums parts → r ≡ mean parts) → r ≡ mean (map {B = ℕ × ℕ} (λ x. (w x, f x)) (filter p xs))
  mean_done i m r le was get = get (weighed_to i) was ∙ ap (λ (ys : List X). mean (map {B = ℕ × ℕ} (λ x. (w x, f x)) (filter p ys))) (take_all i xs le)
