use Rattle.std.proofs.Common.{◌≡◌, ◌∙◌, refl, sym, subst, Ok}
use Rattle.std.proofs.lemmas.Result.{err_from_is_err_and}
use Rattle.elab_base.specs.Gives.{Fails, each}
use Rattle.elab_base.proofs.Folds.{Left, left_begins, left_more, left_stops, left_done}
use Rattle.elab_decls.specs.declared.outside.Outside.{Outside}
use Rattle.elab_members.specs.declared.items.Items.{Items}
use Rattle.elab_members.specs.Items.{no_items}
use Rattle.elab_members.specs.Members.{member, members_walked}
use Rattle.elab_members.proofs.Crossing.{member_few, none_few}
use Rattle.elab_members.proofs.members.walk_members.Goals as goal

pub loop-found-init : goal.loop-found-init
loop-found-init c = record {
  walk = subst (λ (s : Items). Left (λ k. member c.args.outside.now c.args.inside.now) 0 c.args.members.now s (each (member c.args.outside.now c.args.inside.now) c.args.members.now (no_items c.args.counts))) (sym c.nothing-items.ensures)
      (left_begins (λ k. member c.args.outside.now c.args.inside.now) c.args.members.now (no_items c.args.counts));
  same = refl;
  few = none_few c.args.counts _ c.nothing-items.ensures;
}

pub returns-in_err-add_member-clause-gives : goal.returns-in_err-add_member-clause-gives
unfolding members_walked
returns-in_err-add_member-clause-gives c =
    let p = err_from_is_err_and c.from_residual.result c.from_residual.ensures.1 in
    let fault = c.in_err-add_member.field-0.0 in
    let here = subst (λ (o : Outside). Fails fault (member o c.args.inside.now c.found-item.result c.loop-found.items)) c.loop-found.invariant.same c.in_err-add_member.ensures.gives in
    rw (p.1, p.2) (left_stops fault c.found-item.result c.loop-found.invariant.walk c.loop-found-test.true c.found-item.is here)

pub loop-found-preserved : goal.loop-found-preserved
loop-found-preserved c =
    let here = subst (λ (o : Outside). member o c.args.inside.now c.found-item.result c.loop-found.items ≡ Ok c.add_member.new.items) c.loop-found.invariant.same c.in_ok-add_member.ensures.gives in
    record {
      walk = left_more c.found-item.result c.add_member.new.items c.loop-found.invariant.walk c.loop-found-test.true c.found-item.is here;
      same = c.add_member.ensures.same ∙ c.loop-found.invariant.same;
      few = member_few c.args.outside.now c.args.inside.now c.found-item.result c.loop-found.items c.add_member.new.items here c.loop-found.invariant.few;
    }

pub returns-clause-gives : goal.returns-clause-gives
unfolding members_walked
returns-clause-gives c = left_done c.loop-found.invariant.walk c.loop-found-test.false
