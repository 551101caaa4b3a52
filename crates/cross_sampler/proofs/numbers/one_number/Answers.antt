use Rattle.std.proofs.Common.{◌≡◌, ℕ, ◌+◌, ◌*◌, ◌≤◌, get_or, drop, ap, sym, subst, ◌∙◌, arith, [], ◌∷◌, List}
use Rattle.cross_select.specs.Products.{product_of}
use Rattle.cross_sampler.specs.Numbers.{row_at, hits_of, numbers_of, extended, AllFit}
use Rattle.cross_sampler.proofs.Radix.{numbers_more, fits_more, all_small, one_extended}
use Rattle.cross_sampler.proofs.numbers.one_number.Goals as goal

pub overflow_mul-number : goal.overflow_mul-number
overflow_mul-number c =
    let sizes = c.args.sizes.now in
    let k = c.loop-k.k in
    let s : c.loop-k.number * get_or sizes k 0 + get_or sizes k 0 ≤ product_of sizes = all_small sizes c.args.axes.now c.args.rows.now k c.loop-k-test.true c.requires.same (product_of sizes) c.requires.some (c.loop-k.number ∷ []) c.loop-k.invariant.fit 0 0 (omega arith) in
    omega (arith, s, c.requires.few, c.requires.some k 0 c.loop-k-test.true)

pub overflow_add-number : goal.overflow_add-number
overflow_add-number c =
    let sizes = c.args.sizes.now in
    let k = c.loop-k.k in
    let s : c.loop-k.number * get_or sizes k 0 + get_or sizes k 0 ≤ product_of sizes = all_small sizes c.args.axes.now c.args.rows.now k c.loop-k-test.true c.requires.same (product_of sizes) c.requires.some (c.loop-k.number ∷ []) c.loop-k.invariant.fit 0 0 (omega arith) in
    omega (arith, s, c.requires.few, c.in-Some.ensures.below)

pub loop-k-preserved : goal.loop-k-preserved
loop-k-preserved c =
    let sizes = c.args.sizes.now in
    let axes = c.args.axes.now in
    let rows = c.args.rows.now in
    let k = c.loop-k.k in
    let lt = c.loop-k-test.true in
    let hit = c.row.result.now in
    let old : List ℕ = c.loop-k.number ∷ [] in
    let new : List ℕ = (c.loop-k.number * get_or sizes k 0 + c.in-Some.bin) ∷ [] in
    let is : hit ≡ row_at rows (get_or axes k 0) = c.row.ensures in
    let grown : extended (get_or sizes k 0) hit old ≡ new = one_extended c.loop-k.number (get_or sizes k 0) c.in-Some.bin hit c.in-Some.ensures.below c.in-Some.ensures.alone in
    record {
      numbers = ap (λ (ns : List ℕ). numbers_of ns (drop (k + 1) sizes) (drop (k + 1) (hits_of rows axes))) (sym grown)
          ∙ sym (numbers_more sizes axes rows k lt c.requires.same old hit is) ∙ c.loop-k.invariant.numbers;
      fit = subst (λ (ns : List ℕ). AllFit (product_of sizes) (drop (k + 1) sizes) ns) grown (fits_more sizes axes rows k lt c.requires.same (product_of sizes) c.requires.some old c.loop-k.invariant.fit hit);
    }
