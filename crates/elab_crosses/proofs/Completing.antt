-- Automatic bins beside the declared ones.
use Rattle.std.proofs.Common.{◌≡◌, ℕ, slice_get, ◌+◌, ◌-◌, ◌<◌, ◌≤◌, List, [], ◌∷◌, ◌++◌, length, length-append, drop, map, get_or, refl, sym, subst, ap, ◌∙◌, Bool, true, false, cond, leb, ltb, Some, None, Ok, Err, inl, inr, arith, append_assoc}
use Rattle.std.specs.Prelude.{Result}
use Rattle.std.proofs.lemmas.Bool.{cases_lt, le-leb, lt-leb, ltb-true}
use Rattle.std.proofs.lemmas.List.{drop_all, append-nil, map-append}
use Rattle.cov_ground.specs.Limits.{most_bins}
use Rattle.cov_tree.specs.declared.groups.CrossBins.{CrossBins}
use Rattle.const_eval.specs.Scopes.{Levels}
use Rattle.product_bits.specs.Numbers.{at_most}
use Rattle.elab_base.specs.declared.fault.ElabKind.TheVariants as kind
use Rattle.elab_base.specs.Gives.{Refusal, needs}
use Rattle.elab_base.specs.Steps.{unused, guard_in}
use Rattle.elab_base.proofs.Keeps.{bind_ok, ok_is, each_keeps, needs_ok}
use Rattle.elab_crosses.specs.declared.declared.Walked.{Walked}
use Rattle.elab_crosses.specs.Selections.{Crossed, selection_of}
use Rattle.elab_crosses.specs.Declarations.{picked_bin, with_bin, bin_declared, bins_walked, no_bins}
use Rattle.elab_crosses.specs.Removal.{member_names, name_in, automatic_fit}
use Rattle.elab_crosses.proofs.Lists.{next_is}

-- ---- how many bins

abbrev FewBins : Walked → Type 0
FewBins w = length w.bins ≤ most_bins

declared_few : (levels : Levels) (c : Crossed) (b : CrossBins) (w t : Walked) → bin_declared levels c b w ≡ Ok t → FewBins t
unfolding bin_declared
declared_few levels c b w t e =
    let a = bind_ok (unused w.names b.name b.at) _ t e in
    let s = bind_ok (selection_of levels c b.sel) _ t a.2 in
    let g = bind_ok (guard_in levels b.guard) _ t s.2 in
    let n = bind_ok (needs (ltb (length w.bins) most_bins) kind.TooManyBins b.at) _ t g.2 in
    let fits : length w.bins < most_bins = ltb-true (length w.bins) most_bins (needs_ok (ltb (length w.bins) most_bins) kind.TooManyBins b.at n.0 n.1) in
    let count = length-append w.bins (picked_bin b (length w.bins) s.0 g.0 ∷ []) in
    let here : FewBins (with_bin b s.0 g.0 w) = omega (arith, fits, count) in
    subst FewBins (ok_is (with_bin b s.0 g.0 w) t n.2) here

pub walked_few : (levels : Levels) (c : Crossed) (bs : List CrossBins) (w : Walked) → bins_walked levels c bs ≡ Ok w → length w.bins ≤ most_bins
unfolding bins_walked
walked_few levels c bs w e = each_keeps (λ k. bin_declared levels c) FewBins (λ k b s t h p. declared_few levels c b s t h) 0 bs no_bins w e (omega arith)

-- ---- how many automatic ones

abbrev answer : Bool → List (List ℕ) → ℕ → Result (List (List ℕ)) Refusal
answer b xs at = cond b (Ok xs) (Err (kind.TooManyBins, at))

fit_by : (have : ℕ) (xs : List (List ℕ)) (at : ℕ) → have ≤ 65536 → automatic_fit have xs at ≡ answer (leb (length xs) (65536 - have)) xs at
unfolding automatic_fit needs
fit_by have xs at few = elim (cases_lt (65536 - have) (length xs)) [
  | inl lt ↦ rw (lt-leb (have + length xs) 65536 (omega arith), lt-leb (length xs) (65536 - have) lt) refl
  | inr le ↦ rw (le-leb (have + length xs) 65536 (omega arith), le-leb (length xs) (65536 - have) le) refl
]

chosen_some : (b : Bool) (xs found : List (List ℕ)) (at : ℕ) → Some found ≡ cond b (Some xs) None → answer b xs at ≡ Ok found
chosen_some true xs found at is = cc
chosen_some false xs found at is = absurd cc

chosen_none : (b : Bool) (xs : List (List ℕ)) (at : ℕ) → None ≡ cond b (Some xs) None → answer b xs at ≡ Err (kind.TooManyBins, at)
chosen_none true xs at is = absurd cc
chosen_none false xs at is = refl

pub fit_some : (have : ℕ) (xs found : List (List ℕ)) (at : ℕ) → have ≤ 65536 → Some found ≡ at_most (65536 - have) xs → automatic_fit have xs at ≡ Ok found
fit_some have xs found at few is = fit_by have xs at few ∙ chosen_some (leb (length xs) (65536 - have)) xs found at is

pub fit_none : (have : ℕ) (xs : List (List ℕ)) (at : ℕ) → have ≤ 65536 → None ≡ at_most (65536 - have) xs → automatic_fit have xs at ≡ Err (kind.TooManyBins, at)
fit_none have xs at few is = fit_by have xs at few ∙ chosen_none (leb (length xs) (65536 - have)) xs at is

-- ---- names

pub name_more : (names : List (List (List ℕ))) (old new product : List ℕ) (separator axis i bin : ℕ) (whole : List ℕ) → i < length product → bin ≡ get_or product i bin → new ≡ old ++ separator ∷ name_in (slice_get names axis) bin
    → old ++ member_names separator names axis (drop i product) ≡ whole → new ++ member_names 44 names (axis + 1) (drop (i + 1) product) ≡ whole
name_more names old new product separator axis i bin whole lt is added before =
    ap (λ (xs : List ℕ). xs ++ member_names 44 names (axis + 1) (drop (i + 1) product)) added
    ∙ (append_assoc old (separator ∷ name_in (slice_get names axis) bin) (member_names 44 names (axis + 1) (drop (i + 1) product))
    ∙ (sym (ap (λ (xs : List ℕ). old ++ member_names separator names axis xs) (next_is product i bin lt is)) ∙ before))

pub name_done : (names : List (List (List ℕ))) (old product : List ℕ) (separator axis i : ℕ) (whole : List ℕ) → length product ≤ i → old ++ member_names separator names axis (drop i product) ≡ whole → old ≡ whole
name_done names old product separator axis i whole le before = sym (ap (λ (xs : List ℕ). old ++ member_names separator names axis xs) (drop_all i product le) ∙ append-nil old) ∙ before

-- ---- bins

pub map_push : {X Y : Type 0} (f : X → Y) (xs : List X) (old now : List Y) (x : X) (y : Y) → y ≡ f x → now ≡ old ++ map f xs → now ++ y ∷ [] ≡ old ++ map f (xs ++ x ∷ [])
map_push {X} {Y} f xs old now x y is e =
    (λ i. e i ++ is i ∷ []) ∙ (append_assoc old (map f xs) (f x ∷ []) ∙ ap (λ (ys : List Y). old ++ ys) (sym (map-append f xs (x ∷ []))))
