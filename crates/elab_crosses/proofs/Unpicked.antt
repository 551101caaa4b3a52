-- The automatic bins among all bins of a cross.
use Rattle.std.proofs.Common.{◌≡◌, ℕ, ◌+◌, List, [], ◌∷◌, ◌++◌, length, drop, map, leb, refl, sym, ap, ◌∙◌}
use Rattle.std.specs.List.{flat_map}
use Rattle.std.proofs.lemmas.List.{drop_at}
use Rattle.cov_ground.specs.Limits.{most_bins}
use Rattle.design_data.specs.Laws.{automatic_products, members_of}
use Rattle.elab_base.specs.declared.fault.ElabKind.TheVariants as kind
use Rattle.elab_base.specs.Gives.{needs}
use Rattle.elab_base.proofs.Keeps.{bind_ok, ok_is}
use Rattle.elab_values.specs.declared.made.Made.{Made}
use Rattle.elab_crosses.specs.Removal.{infos, automatic_bin, automatic_fit, sides, bins_left, bins_completed}
use Rattle.elab_crosses.specs.Promises.{AutomaticAreUnpicked}

pub members_automatic : (names : List (List (List ℕ))) (at : ℕ) (ps : List (List ℕ)) → flat_map (λ bin. members_of bin.rule) (infos (map (automatic_bin names at) ps)) ≡ ps
members_automatic names at [] = refl
members_automatic names at (p ∷ ps) = ap (λ (qs : List (List ℕ)). p ∷ qs) (members_automatic names at ps)

pub unpicked : AutomaticAreUnpicked
unfolding bins_completed automatic_fit
unpicked items axes sizes bins at all e =
    let products = automatic_products sizes (infos bins) in
    let a = bind_ok (automatic_fit (length bins) products at) _ all e in
    let n = bind_ok (needs (leb (length bins + length products) most_bins) kind.TooManyBins at) _ a.0 a.1 in
    let same : products ≡ a.0 = ok_is products a.0 n.2 in
    let whole : bins_left sizes bins ++ map (automatic_bin (sides items axes) at) a.0 ≡ all = ok_is _ all a.2 in
    let behind : drop (length (bins_left sizes bins)) all ≡ map (automatic_bin (sides items axes) at) a.0 =
    ap (λ (ms : List Made). drop (length (bins_left sizes bins)) ms) (sym whole) ∙ drop_at (bins_left sizes bins) (map (automatic_bin (sides items axes) at) a.0) (length (bins_left sizes bins)) refl in
    ap (λ (ms : List Made). flat_map (λ bin. members_of bin.rule) (infos ms)) behind ∙ (members_automatic (sides items axes) at a.0 ∙ sym same)
