use Rattle.std.proofs.Common.{◌≡◌, ◌⊎◌, ◌↔◌, ◌∙◌, ap, sym, subst, arith, inl, inr, ◌<◌, ◌≤◌, ◌+◌, ℕ, List, [], ◌∷◌, ◌++◌, length, true, false}
use Rattle.std.specs.List.{Contains}
use Rattle.std.proofs.lemmas.List.Elements.{Contains-push, Contains-push_cases, Contains-append_left}
use Rattle.std.proofs.lemmas.Bool.{cases_lt}
use Rattle.word_table.specs.Words.{has_ended, key, AscendBelow}
use Rattle.word_table.proofs.Orders.{ended_up, negated}
use Rattle.word_table.proofs.Ascending.{ascend_more}
use Rattle.word_table.proofs.table.take_ended.Goals as goal

pub returns-then-goes_on-clause-cut : goal.returns-then-goes_on-clause-cut
returns-then-goes_on-clause-cut c =
    let k = c.loop-k.k in
    let inside : k < length c.args.table.now = omega (arith, c.loop-k-test.true, c.requires.inside) in
    let here : has_ended (key c.args.table.now c.args.depth k) ≡ false = ap has_ended (sym c.value_at.ensures) ∙ negated (has_ended c.value_at.result) true (sym c.goes_on.ensures ∙ c.if-goes_on.true) in
    record {
      from = c.loop-k.auto.k;
      to = omega (arith, c.loop-k-test.true);
      before = λ j ge lt. c.loop-k.invariant.before j ge lt;
      after = λ j ge lt. ended_up (key c.args.table.now c.args.depth k) (key c.args.table.now c.args.depth j) (c.requires.ascends k j c.loop-k.auto.k ge lt) here;
    }

pub loop-k-preserved : goal.loop-k-preserved
loop-k-preserved c =
    let k = c.loop-k.k in
    let low : ℕ = c.args.low in
    let old = c.loop-k.hits.items in
    let first = c.args.hits.now.items in
    let inv = c.loop-k.invariant in
    let inside : k < length c.args.table.now = omega (arith, c.loop-k-test.true, c.requires.inside) in
    let here : has_ended (key c.args.table.now c.args.depth k) ≡ true = ap has_ended (sym c.value_at.ensures) ∙ negated (has_ended c.value_at.result) false (sym c.goes_on.ensures ∙ c.if-goes_on.false) in
    let pushed : c.push.new.self.items ≡ old ++ k ∷ [] = c.in_ok-push.ensures.items in
    record {
      before = λ j ge lt. elim (cases_lt j k) [
        | inl less ↦ inv.before j ge less
        | inr past ↦ let e : k ≡ j = omega (arith, past, lt) in subst (λ (n : ℕ). has_ended (key c.args.table.now c.args.depth n) ≡ true) e here
      ];
      hits = λ j. (
        (λ h. elim (Contains-push_cases old k j (subst (λ (xs : List ℕ). Contains xs j) pushed h)) [
          | inl had ↦ elim ((inv.hits j).0 had) [ inl a ↦ inl a | inr b ↦ let b0 : low ≤ j = b.0 in let b1 : j < k = b.1 in inr (b0, omega (arith, b1)) ]
          | inr same ↦ inr ((let ge : low ≤ k = c.loop-k.auto.k in omega (arith, same, ge)), omega (arith, same))
        ]),
        (λ h. subst (λ (xs : List ℕ). Contains xs j) (sym pushed) (elim h [
          | inl a ↦ Contains-append_left old (k ∷ []) j ((inv.hits j).1 (inl a))
          | inr b ↦ elim (cases_lt j k) [
            | inl less ↦ Contains-append_left old (k ∷ []) j ((inv.hits j).1 (inr (b.0, less)))
            | inr past ↦ let b1 : j < k + 1 = b.1 in let e : k ≡ j = omega (arith, past, b1) in subst (λ (n : ℕ). Contains (old ++ k ∷ []) n) e (Contains-push old k)
          ]
        ])),
      );
      ascend = λ h. subst (AscendBelow (k + 1)) (sym pushed) (ascend_more k old (inv.ascend h));
    }

pub returns-clause-hits : goal.returns-clause-hits
returns-clause-hits c = λ k.
    let e : c.loop-k.k ≡ c.args.high = omega (arith, c.loop-k-test.false, c.loop-k.auto.k-end c.requires.range) in
    subst (λ (n : ℕ). Contains c.loop-k.hits.items k ↔ (Contains c.args.hits.now.items k ⊎ ((c.args.low ≤ k) × (k < n)))) e (c.loop-k.invariant.hits k)

pub returns-clause-ascend : goal.returns-clause-ascend
returns-clause-ascend c = λ h.
    let e : c.loop-k.k ≡ c.args.high = omega (arith, c.loop-k-test.false, c.loop-k.auto.k-end c.requires.range) in
    subst (λ (n : ℕ). AscendBelow n c.loop-k.hits.items) e (c.loop-k.invariant.ascend h)
