use Rattle.std.proofs.Common.{rules, ◌<◌, [], ◌∷◌, ◌++◌, length, map, subst, ap, ◌∙◌, arith}
use Rattle.trans_found.specs.Found.{Takes, FailsAfter, lists_of}
use Rattle.trans_found.proofs.News.{Word}
use Rattle.trans_found.proofs.FoundLemmas.{takes_next, fails_next}
use Rattle.trans_found.proofs.found.take_group.Goals as goal

pub returns-in_err-take_list-clause-err : goal.returns-in_err-take_list-clause-err
returns-in_err-take_list-clause-err c =
    let f : Word → Word = λ rest. c.args.first.now ++ rest in
    let group = c.args.group.now in
    let i = c.loop-rest.rest-index in
    let rest = c.rest-item.result in
    let within : i < length group = omega arith in
    let failed : FailsAfter (lists_of c.loop-rest.found) (f rest ∷ []) c.in_err-take_list.field-0.0 =
    subst (λ w. FailsAfter (lists_of c.loop-rest.found) (w ∷ []) c.in_err-take_list.field-0.0) (c.in_ok-list.ensures ∙ ap f c.as_slice.ensures) c.in_err-take_list.ensures.err in
    let all : FailsAfter (lists_of c.args.found.now) (map f group) c.in_err-take_list.field-0.0 =
    fails_next f c.args.found.now c.loop-rest.found group i rest within c.rest-item.is c.loop-rest.invariant c.in_err-take_list.field-0.0 failed in
    search (rules, all)

pub loop-rest-preserved : goal.loop-rest-preserved
loop-rest-preserved c =
    let f : Word → Word = λ rest. c.args.first.now ++ rest in
    let group = c.args.group.now in
    let i = c.loop-rest.rest-index in
    let rest = c.rest-item.result in
    let within : i < length group = omega arith in
    let took : Takes c.loop-rest.found c.take_list.new.found (f rest ∷ []) =
    subst (λ w. Takes c.loop-rest.found c.take_list.new.found (w ∷ [])) (c.in_ok-list.ensures ∙ ap f c.as_slice.ensures) c.in_ok-take_list.ensures.ok in
    takes_next f c.args.found.now c.loop-rest.found group i rest within c.rest-item.is c.loop-rest.invariant c.take_list.new.found took
