use Rattle.std.proofs.Common.{ap, sym, ◌∙◌, ◌++◌, ◌∷◌, [], Bool, cond, take, None}
use Rattle.design_data.specs.declared.infos.BinInfo.{BinInfo}
use Rattle.point_tables.specs.Tables.{places_from, has_value}
use Rattle.point_tables.proofs.Places.{places_more, noted_more}
use Rattle.point_tables.proofs.lookups.unknown_of.Goals as goal

pub loop-place-preserved : goal.loop-place-preserved
loop-place-preserved c =
    let bins = c.args.bins.now in
    let place = c.loop-place.place in
    let met = c.loop-place.places.items in
    let bin = c.index-bins-place.result in
    let test : BinInfo → Bool = λ b. has_value bins None b.rule in
    c.in_ok-note.ensures ∙ ap (λ (b : Bool). cond b (met ++ place ∷ []) met) (c.is_default.ensures bins)
    ∙ noted_more (test bin) place [] (places_from test 0 (take place bins)) met c.loop-place.invariant
    ∙ sym (places_more test bins place bin c.loop-place-test.true c.index-bins-place.is)
