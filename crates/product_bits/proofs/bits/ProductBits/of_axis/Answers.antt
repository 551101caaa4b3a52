use Rattle.std.proofs.Common.{◌≡◌, ◌+◌, ◌*◌, ℕ, get_or, drop, ap, sym, arith, false}
use Rattle.std.proofs.lemmas.Result.{IfOk-weaker}
use Rattle.cross_select.specs.Products.{product_of}
use Rattle.cross_select.specs.Selections.{is_chosen_at}
use Rattle.product_bits.specs.Marks.{Marks}
use Rattle.product_bits.proofs.NumberLemmas.{within}
use Rattle.product_bits.proofs.SetLemmas.{nothing_chosen, axis_marked}
use Rattle.product_bits.proofs.bits.ProductBits.of_axis.Goals as goal

pub returns-then-count-eq0 : goal.returns-then-count-eq0
returns-then-count-eq0 c = IfOk-weaker c.none.result _ (Marks c.args.sizes.now (is_chosen_at c.args.axis c.args.chosen.now)) (λ bits none. nothing_chosen c.args.sizes.now bits c.args.axis c.args.count c.args.chosen.now c.requires.count c.then-count-eq0.either (none c.args.sizes.now (sym c.requires.count))) c.none.ensures

pub axis_bits-requires-clause-some : goal.axis_bits-requires-clause-some
axis_bits-requires-clause-some c =
    let some = c.if-count-eq0.false in
    let inside = within c.args.sizes.now c.args.axis 0 c.if-axis-sizes.false (omega (arith, c.requires.count, some)) in
    (omega (arith, inside.0, c.stride-stride.ensures), inside.1)

pub axis_bits-requires-clause-few : goal.axis_bits-requires-clause-few
axis_bits-requires-clause-few c =
    let some = c.if-count-eq0.false in
    let inside = within c.args.sizes.now c.args.axis 0 c.if-axis-sizes.false (omega (arith, c.requires.count, some)) in
    let same : c.stride-stride.result * get_or c.args.sizes.now c.args.axis 0 ≡ product_of (drop (c.args.axis + 1) c.args.sizes.now) * get_or c.args.sizes.now c.args.axis 0 = ap (λ (k : ℕ). k * get_or c.args.sizes.now c.args.axis 0) c.stride-stride.ensures in
    (omega (arith, inside.2, same, c.requires.few, c.requires.count), omega (arith, c.requires.few))

pub returns : goal.returns
returns c = axis_marked c.args.sizes.now c.in_ok-words.words.items c.args.axis c.args.count c.stride-stride.result c.args.chosen.now c.requires.count c.if-axis-sizes.false c.stride-stride.ensures c.in_ok-words.ensures.len c.in_ok-words.ensures.each
