use Rattle.std.proofs.Common.{rules, ◌∷◌, []}
use Rattle.trans_found.specs.Found.{FailsAfter, lists_of}
use Rattle.trans_found.proofs.FoundLemmas.{takes_none, takes_more, left_more, fails_left}
use Rattle.trans_found.proofs.found.take_all.Goals as goal

pub returns-in_err-take_list-clause-err : goal.returns-in_err-take_list-clause-err
returns-in_err-take_list-clause-err c =
    let e = c.in_err-take_list.field-0.0 in
    let failed : FailsAfter (lists_of c.args.found.now) c.args.lists.items e =
    fails_left c.args.found.now c.loop-list.found c.loop-list.yielded _ _ c.args.lists.items c.in-Some.list e c.in-Some.ensures.steps.0 c.loop-list.invariant.parts c.loop-list.invariant.takes c.in_err-take_list.ensures.err in
    search (rules, failed)

pub loop-list-init : goal.loop-list-init
loop-list-init c = record {
  takes = takes_none c.args.found.now c.requires;
  parts = search rules;
}

pub loop-list-preserved : goal.loop-list-preserved
loop-list-preserved c = record {
  takes = takes_more c.args.found.now c.loop-list.found c.take_list.new.found c.loop-list.yielded (c.in-Some.list ∷ []) c.loop-list.invariant.takes c.in_ok-take_list.ensures.ok;
  parts = left_more c.loop-list.yielded _ _ c.args.lists.items c.in-Some.list c.in-Some.ensures.steps.0 c.loop-list.invariant.parts;
}
