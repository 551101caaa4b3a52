use Rattle.std.proofs.Common.{◌≡◌, ◌+◌, ◌*◌, ◌≤◌, ◌++◌, ◌∷◌, [], ℕ, List, length, length-append, filter, ap, sym, subst, ◌∙◌, append_assoc, arith}
use Rattle.design_data.specs.Crosses.{products}
use Rattle.product_bits.specs.Numbers.{product_at}
use Rattle.product_bits.specs.Marks.{Marks}
use Rattle.product_bits.proofs.SetLemmas.{room, left_from, skip_to, take_one, all_from, none_from, found_all, too_many}
use Rattle.product_bits.proofs.bits.ProductBits.products.Goals as goal

pub loop-at-init : goal.loop-at-init
loop-at-init c =
    let same : c.as_slice-words.result.now ≡ c.args.self.now = c.as_slice-words.ensures.value ∙ c.self.view_is in
    let r = room c.args.count in
    let wide : c.args.count ≤ 64 * length c.as_slice-words.result.now = omega (arith, r, c.requires.len, ap length same) in
    let none = c.new-found.ensures in
    record {
      few = omega (arith, ap length none);
      within = omega (arith, c.first_marked-at.ensures.range);
      marked = c.first_marked-at.ensures.at;
      found = λ meant marks. ap (λ (xs : List (List ℕ)). xs ++ left_from c.args.sizes.now meant c.args.count c.first_marked-at.result) none
          ∙ (sym (skip_to c.args.sizes.now c.as_slice-words.result.now meant c.args.count 0 c.first_marked-at.result wide marks (omega arith) (omega (arith, c.first_marked-at.ensures.range)) c.first_marked-at.ensures.before)
          ∙ all_from c.args.sizes.now meant c.args.count c.requires.count);
    }

pub loop-at-preserved : goal.loop-at-preserved
loop-at-preserved c =
    let same : c.as_slice-words.result.now ≡ c.args.self.now = c.as_slice-words.ensures.value ∙ c.self.view_is in
    let r = room c.args.count in
    let wide : c.args.count ≤ 64 * length c.as_slice-words.result.now = omega (arith, r, c.requires.len, ap length same) in
    let sizes = c.args.sizes.now in
    let at = c.loop-at.at in
    let next = c.first_marked-at-in-loop-at.result in
    let range = c.first_marked-at-in-loop-at.ensures.range in
    let pushed : c.push.new.self ≡ c.loop-at.found ++ product_at sizes at ∷ [] = c.in_ok-push.ensures ∙ ap (λ (p : List ℕ). c.loop-at.found ++ p ∷ []) c.in_ok-product.ensures in
    let longer = length-append c.loop-at.found (product_at sizes at ∷ []) in
    record {
      few = omega (arith, ap length pushed, longer, c.if-as_slice-most.false, ap length c.as_slice.ensures);
      within = omega (arith, range);
      marked = c.first_marked-at-in-loop-at.ensures.at;
      found = λ meant marks.
          let rest = left_from sizes meant c.args.count in
          ap (λ (xs : List (List ℕ)). xs ++ rest next) pushed
          ∙ (append_assoc c.loop-at.found (product_at sizes at ∷ []) (rest next)
          ∙ (ap (λ (xs : List (List ℕ)). c.loop-at.found ++ product_at sizes at ∷ xs) (sym (skip_to sizes c.as_slice-words.result.now meant c.args.count (at + 1) next wide marks (omega (arith, range)) (omega (arith, range)) c.first_marked-at-in-loop-at.ensures.before))
          ∙ (ap (λ (xs : List (List ℕ)). c.loop-at.found ++ xs) (sym (take_one sizes c.as_slice-words.result.now meant c.args.count at wide marks c.loop-at-test.true (c.loop-at.invariant.marked c.loop-at-test.true)))
          ∙ c.loop-at.invariant.found meant marks)));
    }

pub returns-then-as_slice-most : goal.returns-then-as_slice-most
returns-then-as_slice-most c meant marks =
    let same : c.as_slice-words.result.now ≡ c.args.self.now = c.as_slice-words.ensures.value ∙ c.self.view_is in
    let r = room c.args.count in
    let wide : c.args.count ≤ 64 * length c.as_slice-words.result.now = omega (arith, r, c.requires.len, ap length same) in
    let sizes = c.args.sizes.now in
    let at = c.loop-at.at in
    let there = subst (Marks sizes meant) (sym same) marks in
    let one = take_one sizes c.as_slice-words.result.now meant c.args.count at wide there c.loop-at-test.true (c.loop-at.invariant.marked c.loop-at-test.true) in
    too_many c.args.most c.loop-at.found (left_from sizes meant c.args.count (at + 1)) (filter meant (products sizes)) (product_at sizes at) (omega (arith, c.if-as_slice-most.true, ap length c.as_slice.ensures))
    (ap (λ (xs : List (List ℕ)). c.loop-at.found ++ xs) (sym one) ∙ c.loop-at.invariant.found meant there)

pub returns : goal.returns
returns c meant marks =
    let same : c.as_slice-words.result.now ≡ c.args.self.now = c.as_slice-words.ensures.value ∙ c.self.view_is in
    let there = subst (Marks c.args.sizes.now meant) (sym same) marks in
    found_all c.args.most c.loop-at.found (filter meant (products c.args.sizes.now)) c.loop-at.invariant.few
    (ap (λ (xs : List (List ℕ)). c.loop-at.found ++ xs) (sym (none_from c.args.sizes.now meant c.args.count c.loop-at.at c.loop-at-test.false)) ∙ c.loop-at.invariant.found meant there)
