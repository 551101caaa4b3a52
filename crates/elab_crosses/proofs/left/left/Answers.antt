use Rattle.std.proofs.Common.{◌≡◌, ℕ, List, ap, sym, subst, ◌∙◌, not}
use Rattle.std.specs.List.{list_any, flat_map}
use Rattle.std.proofs.lemmas.Result.{IfOk-weaker}
use Rattle.design_data.specs.Crosses.{picks}
use Rattle.design_data.specs.Laws.{automatic_products}
use Rattle.product_bits.specs.Numbers.{product_at, at_most}
use Rattle.product_bits.proofs.SetLemmas.{marks_as}
use Rattle.elab_values.specs.declared.made.Made.{Made}
use Rattle.product_bits.specs.Marks.{word_count}
use Rattle.elab_crosses.specs.Free.{IsFree}
use Rattle.elab_crosses.specs.Removal.{infos, left_of, bins_left}
use Rattle.elab_crosses.proofs.left.left.Goals as goal

pub returns-clause-automatic : goal.returns-clause-automatic
returns-clause-automatic c =
    let sizes = c.args.sizes.now in
    let some = λ (ms : List Made) (product : List ℕ). list_any (λ bin. picks product bin.rule) (infos ms) in
    IfOk-weaker c.products.result _ (λ found. found ≡ at_most c.args.most (automatic_products sizes (infos c.args.bins)))
    (λ found given. given (λ product. not (some c.args.bins product))
    (marks_as sizes c.flip.new.self (λ product. not (some c.into_vec.result.items product)) (λ product. not (some c.args.bins product)) (λ n. ap (λ (ms : List Made). not (some ms (product_at sizes n))) c.into_vec.ensures)
    (c.flip.ensures.marks sizes (some c.into_vec.result.items) c.in_ok-picked.ensures.picked)))
    c.products.ensures

pub keep_all-requires-clause-len : goal.keep_all-requires-clause-len
keep_all-requires-clause-len c kind = (c.in_ok-free.ensures kind).len ∙ ap word_count (sym c.requires.count)

pub returns-clause-kept : goal.returns-clause-kept
unfolding bins_left
returns-clause-kept c = IfOk-weaker c.products.result _ _ (λ found given. c.in_ok-picked.ensures.kept (infos c.args.bins) (subst (λ (ms : List Made). IsFree c.args.sizes.now (infos ms) c.in_ok-free.free) c.as_slice.ensures c.in_ok-free.ensures) ∙ ap (λ (ms : List Made). flat_map (left_of c.args.sizes.now (infos c.args.bins)) ms) c.into_vec.ensures) c.products.ensures
