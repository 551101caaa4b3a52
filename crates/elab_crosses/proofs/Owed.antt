-- What whoever puts a cross into a design owes of its bins.
use Rattle.std.proofs.Common.{◌≡◌, ℕ, ◌+◌, ◌≤◌, List, length, length-append, map, leb, ltb, subst, ap, ◌∙◌, Ok, arith}
use Rattle.std.proofs.lemmas.Bool.{leb-true}
use Rattle.std.proofs.lemmas.List.{length-map}
use Rattle.std.specs.List.{AllByRecursion, flat_map}
use Rattle.cov_ground.specs.Limits.{most_bins, most_points, most_products}
use Rattle.cov_tree.specs.declared.groups.CrossBins.{CrossBins}
use Rattle.const_eval.specs.Scopes.{Levels}
use Rattle.cross_select.specs.Products.{product_of}
use Rattle.design_data.specs.declared.infos.ItemInfo.{ItemInfo}
use Rattle.design_data.specs.Bins.{sizes_of}
use Rattle.design_data.specs.Laws.{automatic_products, HasAutomatic}
use Rattle.design_data.specs.Limits.{IsCrossRule, IsPointIndex, IsCross}
use Rattle.elab_base.specs.declared.fault.ElabKind.TheVariants as kind
use Rattle.elab_base.specs.Gives.{needs}
use Rattle.elab_base.specs.Steps.{unused, guard_in}
use Rattle.elab_base.proofs.Keeps.{bind_ok, ok_is, each_keeps, needs_ok, all_push}
use Rattle.elab_values.specs.declared.made.Made.{Made}
use Rattle.elab_crosses.specs.declared.declared.Walked.{Walked}
use Rattle.elab_crosses.specs.Selections.{Crossed, selection_of}
use Rattle.elab_crosses.specs.Declarations.{picked_bin, with_bin, bin_declared, bins_walked, no_bins}
use Rattle.elab_crosses.specs.Removal.{infos, left_of, automatic_bin, automatic_fit, sides, bins_left, bins_completed, bins_of_cross}
use Rattle.elab_crosses.specs.Promises.{BinsAreOfTheCross, BinsAreFew, BinsHaveAutomatic}
use Rattle.elab_crosses.proofs.Fitting.{selection_fits}
use Rattle.elab_crosses.proofs.Kept.{HasSelection, AreDeclared, all_bins, kept_few, rules_of_all, automatic_of_all}

-- ---- the declared bins

declared_fits : (levels : Levels) (c : Crossed) (b : CrossBins) (w t : Walked) → length c.names ≤ length c.axes → bin_declared levels c b w ≡ Ok t → AreDeclared (sizes_of c.items c.axes) w.bins → AreDeclared (sizes_of c.items c.axes) t.bins
unfolding bin_declared
declared_fits levels c b w t few e all =
    let sizes = sizes_of c.items c.axes in
    let a = bind_ok (unused w.names b.name b.at) _ t e in
    let s = bind_ok (selection_of levels c b.sel) _ t a.2 in
    let g = bind_ok (guard_in levels b.guard) _ t s.2 in
    let n = bind_ok (needs (ltb (length w.bins) most_bins) kind.TooManyBins b.at) _ t g.2 in
    let here : AreDeclared sizes (with_bin b s.0 g.0 w).bins =
    all_push (λ made. HasSelection sizes made.bin.rule) w.bins (picked_bin b (length w.bins) s.0 g.0) all (selection_fits levels c few b.sel s.0 s.1) in
    subst (λ (v : Walked). AreDeclared sizes v.bins) (ok_is (with_bin b s.0 g.0 w) t n.2) here

walked_fits : (levels : Levels) (c : Crossed) (bs : List CrossBins) (w : Walked) → length c.names ≤ length c.axes → bins_walked levels c bs ≡ Ok w → AreDeclared (sizes_of c.items c.axes) w.bins
unfolding bins_walked
walked_fits levels c bs w few e =
    each_keeps (λ k. bin_declared levels c) (λ v. AreDeclared (sizes_of c.items c.axes) v.bins) (λ k b s t h all. declared_fits levels c b s t few h all) 0 bs no_bins w e tt

-- ---- all bins

record Completed (items : List ItemInfo) (axes sizes : List ℕ) (bins : List Made) (at : ℕ) (made : List Made) : Type 0 where
  whole : all_bins sizes bins (sides items axes) at (automatic_products sizes (infos bins)) ≡ made
  few : length bins + length (automatic_products sizes (infos bins)) ≤ most_bins

completed : (items : List ItemInfo) (axes sizes : List ℕ) (bins : List Made) (at : ℕ) (made : List Made) → bins_completed items axes sizes bins at ≡ Ok made → Completed items axes sizes bins at made
unfolding bins_completed automatic_fit bins_left
completed items axes sizes bins at made e =
    let products = automatic_products sizes (infos bins) in
    let a = bind_ok (automatic_fit (length bins) products at) _ made e in
    let n = bind_ok (needs (leb (length bins + length products) most_bins) kind.TooManyBins at) _ a.0 a.1 in
    record {
      whole = ap (λ (ps : List (List ℕ)). all_bins sizes bins (sides items axes) at ps) (ok_is products a.0 n.2) ∙ ok_is _ made a.2;
      few = leb-true (length bins + length products) most_bins (needs_ok (leb (length bins + length products) most_bins) kind.TooManyBins at n.0 n.1);
    }

-- The rule of each bin is one that a cross of a design may have.
pub cross_rules : BinsAreOfTheCross
unfolding bins_of_cross
cross_rules levels c bs at made few e =
    let sizes = sizes_of c.items c.axes in
    let w = bind_ok (bins_walked levels c bs) _ made e in
    let all = completed c.items c.axes sizes w.0.bins at made w.2 in
    subst (λ (ms : List Made). AllByRecursion (λ bin. IsCrossRule sizes (infos ms) bin.kind bin.rule) (infos ms)) all.whole (rules_of_all sizes w.0.bins (sides c.items c.axes) at (walked_fits levels c bs w.0 few w.1))

pub cross_few : BinsAreFew
unfolding bins_of_cross
cross_few levels c sizes bs at made e =
    let w = bind_ok (bins_walked levels c bs) _ made e in
    let bins = w.0.bins in
    let all = completed c.items c.axes sizes bins at made w.2 in
    let products = automatic_products sizes (infos bins) in
    let kept = kept_few sizes (infos bins) bins in
    let both = length-append (flat_map (left_of sizes (infos bins)) bins) (map (automatic_bin (sides c.items c.axes) at) products) in
    let count = length-map products (automatic_bin (sides c.items c.axes) at) in
    let fits : length (all_bins sizes bins (sides c.items c.axes) at products) ≤ most_bins = omega (arith, kept, both, count, all.few) in
    subst (λ (ms : List Made). length ms ≤ most_bins) all.whole fits

pub cross_automatic : BinsHaveAutomatic
unfolding bins_of_cross
cross_automatic levels c bs at made few e =
    let sizes = sizes_of c.items c.axes in
    let w = bind_ok (bins_walked levels c bs) _ made e in
    let all = completed c.items c.axes sizes w.0.bins at made w.2 in
    subst (λ (ms : List Made). HasAutomatic sizes (infos ms)) all.whole (automatic_of_all sizes w.0.bins (sides c.items c.axes) at (walked_fits levels c bs w.0 few w.1))

-- the bins make a cross of these points, and also among more items or numbered ones (`cross_among`)
pub cross_is : (levels : Levels) (c : Crossed) (bs : List CrossBins) (at : ℕ) (made : List Made) → length c.names ≤ length c.axes → length c.axes ≤ most_points → AllByRecursion (IsPointIndex c.items) c.axes → product_of (sizes_of c.items c.axes) ≤ most_products
    → bins_of_cross levels c (sizes_of c.items c.axes) bs at ≡ Ok made → IsCross c.items (infos made) c.axes
cross_is levels c bs at made few few_points points few_products e = record { few = few_points; points = points; few_products = few_products; rules = cross_rules levels c bs at made few e }
