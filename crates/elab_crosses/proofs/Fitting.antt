-- A selection says for each coverage bin of a crossed point whether it is chosen.
use Rattle.std.proofs.Common.{◌≡◌, ℕ, suc, ◌+◌, ◌<◌, ◌≤◌, List, [], ◌∷◌, ◌++◌, length, get_or, filter, refl, sym, subst, ap, ◌∙◌, Bool, true, false, cond, Option, Some, None, Ok, arith}
use Rattle.std.specs.Prelude.{ℤ, ◌&&◌, nat_eq, Result, IsTrue, slice_get, option_map}
use Rattle.std.specs.Cmp.Lexicographic.{pointwise}
use Rattle.std.proofs.lemmas.Bool.{eq-eqb}
use Rattle.std.proofs.lemmas.Option.{slice_get-get_or, slice_get-map}
use Rattle.cov_tree.specs.declared.bins.Elem.{Elem}
use Rattle.cov_tree.specs.declared.groups.Sel.{Sel}
use Rattle.cov_tree.specs.declared.groups.Sel.TheOpen as sel
use Rattle.cov_tree.specs.declared.groups.Sel.TheOpen.{Sel-F}
use Rattle.cov_tree.specs.declared.groups.Sel.TheFolds.{fold-roll-Sel, ind-Sel, map-Sel}
use Rattle.const_eval.specs.Scopes.{Levels}
use Rattle.cross_select.specs.declared.select.Select.{Select}
use Rattle.cross_select.specs.declared.select.Select.TheViews.{roll-Select}
use Rattle.cross_select.specs.declared.select.Select.TheOpen as select
use Rattle.cross_select.specs.declared.select.Select.TheFolds.{fold-roll-Select}
use Rattle.design_data.specs.declared.infos.ItemInfo.{ItemInfo}
use Rattle.design_data.specs.declared.infos.BinInfo.{BinInfo}
use Rattle.design_data.specs.Bins.{is_coverage, size_of, sizes_of}
use Rattle.design_data.specs.Crosses.{is_size, fits_node, fits}
use Rattle.elab_base.specs.Gives.{Refusal}
use Rattle.elab_base.proofs.Keeps.{bind_ok, ok_is}
use Rattle.elab_values.specs.declared.made.ItemDecls.{ItemDecls}
use Rattle.elab_crosses.specs.Selections.{Crossed, place_from, known_axis, at_place, wanted_bin, wanted_numbers, domain_in, is_wanted, has_listed, flags, from_in, chosen, bins_selected, leaf, none_of, both_of, either_of, select_layer, selection_of}
use Rattle.elab_crosses.specs.Promises.{SelectionsFit}
use Rattle.elab_crosses.proofs.Members.{both_true}

-- ---- as many flags as coverage bins

one_flag : (b x : Bool) (bin : BinInfo) (fs : List Bool) (bs : List BinInfo) → length fs ≡ length bs → length (cond b (x ∷ []) [] ++ fs) ≡ length (cond b (bin ∷ bs) bs)
one_flag true x bin fs bs e = ap suc e
one_flag false x bin fs bs e = e

flags_long : (wanted : Option ℕ) (listed : Option (List (ℤ × ℤ))) (from : List (Option ℕ)) (k : ℕ) (bins : List BinInfo) → length (flags wanted listed from k bins) ≡ length (filter (λ bin. is_coverage bin.kind) bins)
unfolding flags
flags_long wanted listed from k [] = refl
flags_long wanted listed from k (bin ∷ bins) =
    one_flag (is_coverage bin.kind) (is_wanted wanted from k && has_listed listed bin.rule) bin (flags wanted listed from (k + 1) bins) (filter (λ bin. is_coverage bin.kind) bins) (flags_long wanted listed from (k + 1) bins)

chosen_long : (item : Option ItemInfo) (decls : Option ItemDecls) (wanted : Option ℕ) (listed : Option (List (ℤ × ℤ))) → length (chosen item decls wanted listed) ≡ size_of item
unfolding flags
chosen_long None decls wanted listed = refl
chosen_long (Some item) decls wanted listed = flags_long wanted listed (from_in decls) 0 item.bins

sized : (sizes : List ℕ) (axis : ℕ) (flags : List Bool) (size : ℕ) → slice_get sizes axis ≡ Some size → length flags ≡ size → is_size (slice_get sizes axis) (length flags) ≡ true
sized sizes axis flags size is len = ap (λ (s : Option ℕ). is_size s (length flags)) is ∙ eq-eqb size (length flags) (sym len)

bins_fit : (levels : Levels) (sizes : List ℕ) (item : Option ItemInfo) (decls : Option ItemDecls) (axis : ℕ) (bin : Option (List ℕ)) (elems : Option (List Elem)) (at : ℕ) (found : Select) → slice_get sizes axis ≡ Some (size_of item)
    → bins_selected levels item decls axis bin elems at ≡ Ok found → IsTrue (fits sizes found)
unfolding bins_selected
bins_fit levels sizes item decls axis bin elems at found is e =
    let w = bind_ok (wanted_bin decls bin at) _ found e in
    let l = bind_ok (wanted_numbers levels (domain_in decls) elems at) _ found w.2 in
    let all = chosen item decls w.0 l.0 in
    subst (λ (s : Select). IsTrue (fits sizes s)) (ok_is (roll-Select (select.Bins axis all)) found l.2) (fold-roll-Select Bool (fits_node sizes) (select.Bins axis all) ∙ sized sizes axis all (size_of item) is (chosen_long item decls w.0 l.0))

-- ---- the size at a place of the cross

below_by : (b : Bool) (k n place : ℕ) (later : Option ℕ) → (later ≡ Some place → place < (k + 1) + n) → cond b (Some k) later ≡ Some place → place < k + suc n
below_by true k n place later h e = let is : k ≡ place = cc in omega (arith, is)
below_by false k n place later h e = omega (arith, h e)

place_below : (k : ℕ) (names : List (List ℕ)) (name : List ℕ) (place : ℕ) → place_from k names name ≡ Some place → place < k + length names
place_below k [] name place e = absurd cc
place_below k (x ∷ xs) name place e = below_by (pointwise nat_eq x name) k (length xs) place (place_from (k + 1) xs name) (place_below (k + 1) xs name place) e

known_some : (o : Option ℕ) (at axis : ℕ) → known_axis o at ≡ Ok axis → o ≡ Some axis
known_some None at axis e = absurd cc
known_some (Some x) at axis e = ap (λ (y : ℕ). Some y) (ok_is x axis e)

size_at : (items : List ItemInfo) (axes : List ℕ) (place index : ℕ) → slice_get axes place ≡ Some index → slice_get (sizes_of items axes) place ≡ Some (size_of (at_place items (slice_get axes place)))
size_at items axes place index is =
    slice_get-map (λ axis. size_of (slice_get items axis)) axes place
    ∙ (ap (option_map (λ axis. size_of (slice_get items axis))) is ∙ sym (ap (λ (o : Option ℕ). Some (size_of (at_place items o))) is))

leaf_fits : (levels : Levels) (c : Crossed) (point : List ℕ) (bin : Option (List ℕ)) (elems : Option (List Elem)) (at : ℕ) (found : Select) → length c.names ≤ length c.axes → leaf levels c point bin elems at ≡ Ok found → IsTrue (fits (sizes_of c.items c.axes) found)
unfolding leaf
leaf_fits levels c point bin elems at found few e =
    let a = bind_ok (known_axis (place_from 0 c.names point) at) _ found e in
    let below : a.0 < 0 + length c.names = place_below 0 c.names point a.0 (known_some (place_from 0 c.names point) at a.0 a.1) in
    let here : slice_get c.axes a.0 ≡ Some (get_or c.axes a.0 0) = slice_get-get_or c.axes a.0 0 (omega (arith, few, below)) in
    bins_fit levels (sizes_of c.items c.axes) (at_place c.items (slice_get c.axes a.0)) (at_place c.decls (slice_get c.axes a.0)) a.0 bin elems at found (size_at c.items c.axes a.0 (get_or c.axes a.0 0) here) a.2

-- ---- selections

abbrev Fits : Levels → Crossed → Sel → Type 0
Fits levels c s = (found : Select) → selection_of levels c s ≡ Ok found → IsTrue (fits (sizes_of c.items c.axes) found)

layer_fits : (levels : Levels) (c : Crossed) (y : Sel-F ((s : Sel) × Fits levels c s)) (found : Select) → length c.names ≤ length c.axes
    → select_layer levels c (map-Sel Sel (Result Select Refusal) (selection_of levels c) (map-Sel ((s : Sel) × Fits levels c s) Sel (λ e. e.0) y)) ≡ Ok found → IsTrue (fits (sizes_of c.items c.axes) found)
layer_fits levels c (sel.BinsOf point bin elems at) found few e = leaf_fits levels c point bin elems at found few e
layer_fits levels c (sel.Not inner) found few e =
    let sizes = sizes_of c.items c.axes in
    let s = bind_ok (selection_of levels c inner.0) _ found e in
    subst (λ (t : Select). IsTrue (fits sizes t)) (ok_is (none_of s.0) found s.2) (fold-roll-Select Bool (fits_node sizes) (select.Not s.0) ∙ inner.1 s.0 s.1)
layer_fits levels c (sel.And left right) found few e =
    let sizes = sizes_of c.items c.axes in
    let l = bind_ok (selection_of levels c left.0) _ found e in
    let r = bind_ok (selection_of levels c right.0) _ found l.2 in
    subst (λ (t : Select). IsTrue (fits sizes t)) (ok_is (both_of l.0 r.0) found r.2)
    (fold-roll-Select Bool (fits_node sizes) (select.And l.0 r.0) ∙ both_true (fits sizes l.0) (fits sizes r.0) (left.1 l.0 l.1) (right.1 r.0 r.1))
layer_fits levels c (sel.Or left right) found few e =
    let sizes = sizes_of c.items c.axes in
    let l = bind_ok (selection_of levels c left.0) _ found e in
    let r = bind_ok (selection_of levels c right.0) _ found l.2 in
    subst (λ (t : Select). IsTrue (fits sizes t)) (ok_is (either_of l.0 r.0) found r.2)
    (fold-roll-Select Bool (fits_node sizes) (select.Or l.0 r.0) ∙ both_true (fits sizes l.0) (fits sizes r.0) (left.1 l.0 l.1) (right.1 r.0 r.1))

pub selection_fits : SelectionsFit
selection_fits levels c few =
    ind-Sel (Fits levels c) (λ x y is found e.
    layer_fits levels c y found few (ap (λ (z : Sel-F Sel). select_layer levels c (map-Sel Sel (Result Select Refusal) (selection_of levels c) z)) is ∙ (sym (fold-roll-Sel (Result Select Refusal) (select_layer levels c) x) ∙ e)))
