-- The lines of an item that has a hole.
use Rattle.std.proofs.Common.{◌≡◌, ℕ, ◌<◌, List, [], ◌++◌, Bool, true, not, length, refl, sym, ap, ◌∙◌, arith}
use Rattle.std.specs.Prelude.{filter, nat_lt, if◌then◌else◌}
use Rattle.std.proofs.lemmas.Bool.{lt-ltb}
use Rattle.design_data.specs.declared.infos.ItemInfo.{ItemInfo}
use Rattle.ucis_model.specs.declared.node.Node.{Node}
use Rattle.cov_history.specs.Coverage.{live_under}
use Rattle.export_lists.specs.Holes.{holes_under, lines_with_holes, lines_of_item}

pub item_lines : (nodes : List Node) (count : ℕ → ℕ) (excluded : ℕ → Bool) (items : List ItemInfo) (place n : ℕ) (live holes text new : List ℕ) → live ≡ live_under nodes excluded n → holes ≡ holes_under nodes count excluded n → 0 < length holes
    → new ≡ text ++ lines_with_holes nodes count items place n live holes → new ≡ text ++ lines_of_item nodes count excluded items place n
item_lines nodes count excluded items place n live holes text new l h some e =
    let len = ap (λ (ns : List ℕ). length ns) h in
    let yes : nat_lt 0 (length (holes_under nodes count excluded n)) ≡ true = lt-ltb 0 (length (holes_under nodes count excluded n)) (omega (arith, some, len)) in
    e ∙ (λ i. text ++ lines_with_holes nodes count items place n (l i) (h i))
    ∙ ap (λ (b : Bool). text ++ (if b then lines_with_holes nodes count items place n (live_under nodes excluded n) (holes_under nodes count excluded n) else [])) (sym yes)
