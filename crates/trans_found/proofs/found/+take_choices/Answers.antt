use Rattle.std.proofs.Common.{rules, ◌≡◌, ◌+◌, ◌-◌, ◌<◌, List, [], ◌∷◌, ◌++◌, length, map, take, ap, subst, sym, ◌∙◌, arith, suc, IfErr}
use Rattle.std.specs.Prelude.{ℤ}
use Rattle.std.specs.List.{flat_map}
use Rattle.cov_base.specs.Sets.{written}
use Rattle.trans_found.specs.Found.{Takes, FailsAfter, lists_of, continued}
use Rattle.trans_found.proofs.News.{Word}
use Rattle.trans_found.proofs.FoundLemmas.{takes_part, fails_part, value_at, none_at, popped}
use Rattle.std.proofs.lemmas.List.{take_all}
use Rattle.trans_found.proofs.found.+take_choices.Goals as goal
use Rattle.trans_found.proofs.found.+take_choices.Goals.{in-Some+in_ok-push+in_ok-take_choices, in_default}

pub returns-then-more-eq0-clause-err : goal.returns-then-more-eq0-clause-err
returns-then-more-eq0-clause-err t c =
    let before = lists_of c.args.found.now in
    let group = c.args.group.now in
    let here : IfErr c.take_group.result (FailsAfter before (continued (written c.args.set.now) c.args.first.now.items 0 group)) =
    subst (λ (f : Word). IfErr c.take_group.result (FailsAfter before (map (λ rest. f ++ rest) group))) c.as_slice.ensures.value c.take_group.ensures.err in
    subst (λ n. IfErr c.take_group.result (FailsAfter before (continued (written c.args.set.now) c.args.first.now.items n group))) (sym c.if-more-eq0.true) here

pub returns-in_err-take_choices-clause-err : goal.returns-in_err-take_choices-clause-err
returns-in_err-take_choices-clause-err t c =
    let numbers = written c.args.set.now in
    let first = c.args.first.now.items in
    let group = c.args.group.now in
    let n = c.args.more - 1 in
    let k = c.loop-k.k in
    let v = c.in-Some.value in
    let e = c.in_err-take_choices.field-0.0 in
    let g : ℤ → List Word = λ v. continued numbers (first ++ v ∷ []) n group in
    let within : k < length numbers = omega (arith, c.count-k-end.ensures.value, c.loop-k-test.true) in
    let pushed : c.push.new.self.items ≡ first ++ v ∷ [] = c.in_ok-push.ensures.items ∙ ap (λ f. f ++ v ∷ []) c.loop-k.invariant.first in
    let failed : FailsAfter (lists_of c.loop-k.found) (g v) e = subst (λ f. FailsAfter (lists_of c.loop-k.found) (continued numbers f n group) e) pushed c.in_err-take_choices.ensures.err in
    let all : FailsAfter (lists_of c.args.found.now) (continued numbers first (suc n) group) e =
    fails_part g c.args.found.now c.loop-k.found numbers k v within (value_at numbers k v c.in-Some.ensures) c.loop-k.invariant.takes e failed in
    let more : suc n ≡ c.args.more = omega arith in
    let whole : FailsAfter (lists_of c.args.found.now) (continued numbers first c.args.more group) e = subst (λ m. FailsAfter (lists_of c.args.found.now) (continued numbers first m group) e) more all in
    search (rules, whole)

pub loop-k-preserved : goal.loop-k-preserved
loop-k-preserved t c =
    let numbers = written c.args.set.now in
    let first = c.args.first.now.items in
    let group = c.args.group.now in
    let n = c.args.more - 1 in
    let k = c.loop-k.k in
    let within : k < length numbers = omega (arith, c.count-k-end.ensures.value, c.loop-k-test.true) in
    elim c.match-nth.branch [
      | in-Some+in_ok-push+in_ok-take_choices w ↦
          let v = w.in-Some.value in
          let g : ℤ → List Word = λ v. continued numbers (first ++ v ∷ []) n group in
          let pushed : w.push.new.self.items ≡ first ++ v ∷ [] = w.in_ok-push.ensures.items ∙ ap (λ f. f ++ v ∷ []) c.loop-k.invariant.first in
          let took : Takes c.loop-k.found w.take_choices.new.found (g v) = subst (λ f. Takes c.loop-k.found w.take_choices.new.found (continued numbers f n group)) pushed w.in_ok-take_choices.ensures.ok in
          record {
            first = ap (λ f. f.items) w.first-is ∙ popped first v w.take_choices.new.first.items w.pop.new.self.items w.take_choices.new.first.len w.pop.ensures.rest w.take_choices.new.first.ok.0 (w.in_ok-take_choices.ensures.first ∙ pushed);
            takes = subst (λ f. Takes c.args.found.now f (flat_map g (take (k + 1) numbers))) (sym w.found-is)
                (takes_part g c.args.found.now c.loop-k.found numbers k v within (value_at numbers k v w.in-Some.ensures) c.loop-k.invariant.takes w.take_choices.new.found took);
          }
      | in_default w ↦ absurd (none_at numbers k within (sym w.in_default.is ∙ c.nth.ensures))
    ]

pub returns-clause-ok : goal.returns-clause-ok
returns-clause-ok t c =
    let numbers = written c.args.set.now in
    let first = c.args.first.now.items in
    let group = c.args.group.now in
    let n = c.args.more - 1 in
    let g : ℤ → List Word = λ v. continued numbers (first ++ v ∷ []) n group in
    let all : Takes c.args.found.now c.loop-k.found (continued numbers first (suc n) group) =
    subst (λ vs. Takes c.args.found.now c.loop-k.found (flat_map g vs)) (take_all c.loop-k.k numbers (omega (arith, c.count-k-end.ensures.value, c.loop-k-test.false))) c.loop-k.invariant.takes in
    let more : suc n ≡ c.args.more = omega arith in
    subst (λ m. Takes c.args.found.now c.loop-k.found (continued numbers first m group)) more all
