use Rattle.std.proofs.Common.{◌≡◌, ℕ, ◌+◌, get_or, drop, ap, sym, subst, ◌∙◌, arith, List}
use Rattle.cross_select.specs.Products.{product_of}
use Rattle.cross_sampler.specs.Numbers.{row_at, hits_of, numbers_of, extended, AllFit}
use Rattle.cross_sampler.proofs.Radix.{numbers_more, fits_more, all_small}
use Rattle.cross_sampler.proofs.numbers.product_numbers.Goals as goal

pub extend-requires-clause-fits : goal.extend-requires-clause-fits
extend-requires-clause-fits c = λ i d lt. let s = all_small c.args.sizes.now c.args.axes.now c.args.rows.now c.loop-k.k c.loop-k-test.true c.requires.same (product_of c.args.sizes.now) c.requires.some c.loop-k.numbers.items c.loop-k.invariant.fit i d lt in omega (arith, s, c.requires.few)

pub loop-k-preserved : goal.loop-k-preserved
loop-k-preserved c =
    let sizes = c.args.sizes.now in
    let axes = c.args.axes.now in
    let rows = c.args.rows.now in
    let k = c.loop-k.k in
    let hit = c.row.result.now in
    let old = c.loop-k.numbers.items in
    let new = c.extend.new.numbers.items in
    let is : hit ≡ row_at rows (get_or axes k 0) = c.row.ensures in
    let grown : new ≡ extended (get_or sizes k 0) hit old = c.in_ok-extend.ensures in
    record {
      numbers = ap (λ (ns : List ℕ). numbers_of ns (drop (k + 1) sizes) (drop (k + 1) (hits_of rows axes))) grown
          ∙ sym (numbers_more sizes axes rows k c.loop-k-test.true c.requires.same old hit is) ∙ c.loop-k.invariant.numbers;
      fit = subst (λ (ns : List ℕ). AllFit (product_of sizes) (drop (k + 1) sizes) ns) (sym grown) (fits_more sizes axes rows k c.loop-k-test.true c.requires.same (product_of sizes) c.requires.some old c.loop-k.invariant.fit hit);
    }
