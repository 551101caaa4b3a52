use Rattle.std.proofs.Common.{◌≡◌, ◌&&◌, ◌||◌}
use Rattle.std.specs.Prelude.{not}
use Rattle.cross_select.specs.declared.select.Select.{Select}
use Rattle.cross_select.specs.declared.select.Select.TheOpen as select
use Rattle.cross_select.specs.declared.select.Select.TheViews.{out-Select, out-roll-Select}
use Rattle.cross_select.specs.declared.select.Select.TheVariants.{outs-Not, outs-And, outs-Or}
use Rattle.cross_select.specs.Selections.{is_selected}
use Rattle.product_bits.specs.Numbers.{product_at}
use Rattle.product_bits.proofs.SetLemmas.{marks_as, not_selected, both_selected, either_selected}
use Rattle.product_bits.proofs.bits.ProductBits.+selected.Goals as goal

pub returns-in_ok-bits-in-Not : goal.returns-in_ok-bits-in-Not
returns-in_ok-bits-in-Not t c =
    let sizes = c.args.sizes.now in
    let one = c.get.result.now in
    let out : out-Select c.args.select.now ≡ select.Not one = cc (outs-Not c.in-Not.inner, out-roll-Select (select.Not c.in-Not.inner)) in
    marks_as sizes c.flip.new.self (λ product. not (is_selected one product)) (is_selected c.args.select.now) (λ n. not_selected c.args.select.now one (product_at sizes n) out)
    (c.flip.ensures.marks sizes (is_selected one) c.in_ok-bits-in-Not.ensures)

pub returns-in_ok-selected-in-And : goal.returns-in_ok-selected-in-And
returns-in_ok-selected-in-And t c =
    let sizes = c.args.sizes.now in
    let one = c.get-in-And.result.now in
    let two = c.get-in-And-2.result.now in
    let out : out-Select c.args.select.now ≡ select.And one two = cc (outs-And c.in-And.left c.in-And.right, out-roll-Select (select.And c.in-And.left c.in-And.right)) in
    marks_as sizes c.meet.new.self (λ product. is_selected one product && is_selected two product) (is_selected c.args.select.now) (λ n. both_selected c.args.select.now one two (product_at sizes n) out)
    (c.meet.ensures.marks sizes (is_selected one) (is_selected two) c.in_ok-bits-in-And.ensures c.in_ok-selected-in-And.ensures)

pub returns-in_ok-selected-in-Or : goal.returns-in_ok-selected-in-Or
returns-in_ok-selected-in-Or t c =
    let sizes = c.args.sizes.now in
    let one = c.get-in-Or.result.now in
    let two = c.get-in-Or-2.result.now in
    let out : out-Select c.args.select.now ≡ select.Or one two = cc (outs-Or c.in-Or.left c.in-Or.right, out-roll-Select (select.Or c.in-Or.left c.in-Or.right)) in
    marks_as sizes c.unite.new.self (λ product. is_selected one product || is_selected two product) (is_selected c.args.select.now) (λ n. either_selected c.args.select.now one two (product_at sizes n) out)
    (c.unite.ensures.marks sizes (is_selected one) (is_selected two) c.in_ok-bits-in-Or.ensures c.in_ok-selected-in-Or.ensures)
