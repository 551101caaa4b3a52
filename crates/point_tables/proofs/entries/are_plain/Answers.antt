use Rattle.std.proofs.Common.{◌≡◌, sym, subst, List, ◌∷◌, [], ◌++◌, take, All, take, ◌+◌, ◌∙◌, ap}
use Rattle.std.proofs.lemmas.List.{take_more, take_all}
use Rattle.std.proofs.lemmas.List.Elements.{All-push}
use Rattle.design_data.specs.declared.infos.BinInfo.{BinInfo}
use Rattle.point_tables.specs.Tables.{IsPlain}
use Rattle.point_tables.proofs.entries.are_plain.Goals as goal

pub loop-bin-preserved : goal.loop-bin-preserved
loop-bin-preserved c =
    let bins = c.args.bins.now in
    let i = c.loop-bin.bin-index in
    let bin = c.bin-item.result in
    let more : take (i + 1) bins ≡ take i bins ++ bin ∷ [] = take_more bins i bin c.loop-bin-test.true ∙ ap (λ (b : BinInfo). take i bins ++ b ∷ []) (sym c.bin-item.is) in
    subst (λ (bs : List BinInfo). All IsPlain bs) (sym more) (All-push IsPlain (take i bins) bin c.loop-bin.invariant (c.is_plain.ensures c.if-not-is_plain.false))

pub returns : goal.returns
returns c = λ yes. subst (λ (bs : List BinInfo). All IsPlain bs) (take_all c.loop-bin.bin-index c.args.bins.now c.loop-bin-test.false) c.loop-bin.invariant
