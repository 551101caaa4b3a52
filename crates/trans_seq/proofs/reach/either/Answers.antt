use Rattle.std.proofs.Common.{◌≡◌, ◌||◌, get_or, inl, inr, sym, ap, ◌∙◌, arith, false, length}
use Rattle.std.proofs.lemmas.Bool.{cases_lt}
use Rattle.std.proofs.lemmas.List.{get_or_past, length-set}
use Rattle.trans_seq.proofs.ReachLemmas.{set-more}
use Rattle.trans_seq.proofs.reach.either.Goals as goal

pub loop-k-preserved : goal.loop-k-preserved
loop-k-preserved c =
    let a = c.args.first.now in
    let b = c.args.second.now in
    let inv = c.loop-k.invariant in
    record {
      len = length-set c.loop-k.all.items c.loop-k.k (get_or a c.loop-k.k false || get_or b c.loop-k.k false) ∙ inv.len;
      done = set-more c.loop-k.all.items c.loop-k.k (get_or a c.loop-k.k false || get_or b c.loop-k.k false) (λ j. get_or a j false || get_or b j false) (omega (arith, inv.len, c.loop-k-test.true)) inv.done (λ i. get_or a c.loop-k.k false || get_or b c.loop-k.k false);
    }

pub returns-clause-each : goal.returns-clause-each
returns-clause-each c = λ k.
    let a = c.args.first.now in
    let b = c.args.second.now in
    let inv = c.loop-k.invariant in
    elim (cases_lt k c.loop-k.k) [
      | inl lt ↦ inv.done k lt
      | inr ge ↦
          let far : length c.loop-k.all.items ≡ length a = inv.len in
          get_or_past c.loop-k.all.items k false (omega (arith, far, ge, c.loop-k-test.false))
          ∙ sym (ap (λ x. x || get_or b k false) (get_or_past a k false (omega (arith, ge, c.loop-k-test.false))) ∙ get_or_past b k false (omega (arith, c.requires, ge, c.loop-k-test.false)))
    ]
