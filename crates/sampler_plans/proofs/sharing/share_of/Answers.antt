use Rattle.std.proofs.Common.{◌≡◌, ◌∙◌, ◌+◌, ◌∷◌, [], List, ℕ, Some, length, ap, sym, arith, length-append}
use Rattle.std.specs.Prelude.{slice_get}
use Rattle.std.proofs.lemmas.Option.{slice_get_within, get_or_from_slice_get}
use Rattle.design_data.specs.declared.infos.InstInfo.{InstInfo}
use Rattle.design_data.specs.declared.infos.ItemInfo.{ItemInfo}
use Rattle.sampler_plans.specs.Shares.{labels_at, chosen_items}
use Rattle.sampler_plans.proofs.Places.{read_at, one_of}
use Rattle.sampler_plans.proofs.Places.{each_push}
use Rattle.sampler_plans.proofs.Chosen.{ShareAt}
use Rattle.sampler_plans.proofs.sharing.share_of.Goals as goal

pub loop-j-preserved : goal.loop-j-preserved
loop-j-preserved c =
    let instances = c.args.instances.now in
    let labels = c.args.labels.now in
    let j = c.loop-j.j in
    let share = c.loop-j.share.items in
    let inst = c.index-instances-j.result in
    let own = c.in_ok-chosen.chosen in
    let inv = c.loop-j.invariant in
    let at_inst : slice_get instances j ≡ Some inst = read_at instances j inst c.loop-j-test.true c.index-instances-j.is in
    let items : c.as_slice-items.result.now ≡ inst.items = cc in
    let is : own ≡ chosen_items (labels_at labels j) c.args.parts c.args.part (length inst.items) =
    c.in_ok-chosen.ensures ∙ ap (λ (ls : List ℕ). chosen_items ls c.args.parts c.args.part (length c.as_slice-items.result.now)) c.labels_at-own.ensures
    ∙ ap (λ (xs : List ItemInfo). chosen_items (labels_at labels j) c.args.parts c.args.part (length xs)) items in
    record {
      latest = c.in_ok-known-2.ensures ∙ c.in_ok-chosen.ensures;
      same = ap (λ (xs : List (List ℕ)). length xs) c.in_ok-push.ensures.items ∙ length-append share (own ∷ []) ∙ ap (λ (n : ℕ). n + 1) inv.same;
      at = each_push (ShareAt instances labels c.args.parts c.args.part) share c.push.new.self.items j own inv.same c.in_ok-push.ensures.items
          (λ x e. one_of (λ (y : InstInfo). own ≡ chosen_items (labels_at labels j) c.args.parts c.args.part (length y.items)) instances j inst x at_inst e is) inv.at;
    }

pub returns : goal.returns
returns c = record {
  same = omega (arith, c.loop-j.invariant.same);
  at = λ j inst chosen e g. sym (get_or_from_slice_get c.loop-j.share.items j chosen chosen g) ∙ c.loop-j.invariant.at j chosen (omega (arith, slice_get_within c.args.instances.now j inst e, c.loop-j-test.false)) inst e;
}
