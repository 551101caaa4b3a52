use Rattle.std.proofs.Common.{◌≡◌, ◌<◌, length, Some, refl, sym, subst, arith}
use Rattle.std.specs.Prelude.{slice_get, IsTrue, ◌↔◌}
use Rattle.design_data.specs.declared.infos.GroupInfo.{GroupInfo}
use Rattle.std.proofs.lemmas.Option.{slice_get_read}
use Rattle.sampler_plans.proofs.shape.is_group.Goals as goal

pub returns : goal.returns
returns c =
    let within : c.args.place < length c.args.groups.now = omega arith in
    let there : slice_get c.args.groups.now c.args.place ≡ Some c.index-groups-place.result = slice_get_read c.args.groups.now (length c.args.groups.now) c.args.place c.index-groups-place.result refl within c.index-groups-place.is in
    rw there (subst (λ (group : GroupInfo). (IsTrue c.is_name.result) ↔ (c.args.name.now ≡ group.name)) (sym c.index-groups-place.is) c.is_name.ensures)
