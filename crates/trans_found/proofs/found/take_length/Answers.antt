use Rattle.std.proofs.Common.{rules, ◌≡◌, ◌<◌, List, [], ◌∷◌, length, map, ap, subst, ◌∙◌, arith}
use Rattle.cov_base.specs.Sets.{written}
use Rattle.trans_found.specs.Lists.{choices, joined, all_of}
use Rattle.trans_found.specs.Found.{Takes, Extends, FailsAfter, lists_of, continued}
use Rattle.trans_found.proofs.News.{Word}
use Rattle.trans_found.proofs.Counted.{continued_all}
use Rattle.trans_found.proofs.FoundLemmas.{extends_next, extends_one, fails_extend}
use Rattle.trans_found.proofs.found.take_length.Goals as goal

pub returns-in_err-take_choices-clause-err : goal.returns-in_err-take_choices-clause-err
returns-in_err-take_choices-clause-err c =
    let numbers = written c.args.set.now in
    let f : List Word → List Word = λ group. joined (choices numbers c.args.size) group in
    let groups = c.args.groups.now in
    let i = c.loop-group.group-index in
    let group = c.group-item.result in
    let e = c.in_err-take_choices.field-0.0 in
    let within : i < length groups = omega arith in
    let here : continued numbers c.loop-group.first.items c.args.size c.as_slice.result.now ≡ f group =
    ap (λ w. continued numbers w c.args.size c.as_slice.result.now) c.loop-group.invariant.first ∙ continued_all numbers c.args.size c.as_slice.result.now ∙ ap f c.as_slice.ensures in
    let failed : FailsAfter (lists_of c.loop-group.found) (f group) e = subst (λ ws. FailsAfter (lists_of c.loop-group.found) ws e) here c.in_err-take_choices.ensures.err in
    let all : FailsAfter (all_of c.args.found.now.groups.items) (all_of (map f groups)) e =
    fails_extend f c.args.found.now c.loop-group.found groups i group within c.group-item.is c.loop-group.invariant.extends e failed in
    search (rules, all)

pub loop-group-preserved : goal.loop-group-preserved
loop-group-preserved c =
    let numbers = written c.args.set.now in
    let f : List Word → List Word = λ group. joined (choices numbers c.args.size) group in
    let groups = c.args.groups.now in
    let i = c.loop-group.group-index in
    let group = c.group-item.result in
    let within : i < length groups = omega arith in
    let here : continued numbers c.loop-group.first.items c.args.size c.as_slice.result.now ≡ f group =
    ap (λ w. continued numbers w c.args.size c.as_slice.result.now) c.loop-group.invariant.first ∙ continued_all numbers c.args.size c.as_slice.result.now ∙ ap f c.as_slice.ensures in
    let took : Takes c.loop-group.found c.take_choices.new.found (f group) = subst (λ ws. Takes c.loop-group.found c.take_choices.new.found ws) here c.in_ok-take_choices.ensures.ok in
    let one : Extends c.loop-group.found c.close.new.found (f group ∷ []) = extends_one c.loop-group.found c.take_choices.new.found c.close.new.found (f group) c.loop-group.invariant.extends.fresh took c.in_ok-close.ensures in
    record {
      first = c.in_ok-take_choices.ensures.first ∙ c.loop-group.invariant.first;
      extends = extends_next f c.args.found.now c.loop-group.found groups i group within c.group-item.is c.loop-group.invariant.extends c.close.new.found one;
    }
