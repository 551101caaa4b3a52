use Rattle.std.proofs.Common.{rules, vec_len, ◌≡◌, ◌∙◌, List, ℕ, refl, ap, subst, length, arith}
use Rattle.std.specs.Prelude.{slice_get, Some}
use Rattle.std.specs.List.{AllByRecursion}
use Rattle.std.proofs.lemmas.Option.{slice_get_read}
use Rattle.cov_counting.proofs.Bins.{each_at}
use Rattle.design_data.specs.declared.infos.BinInfo.{BinInfo}
use Rattle.design_data.specs.declared.infos.BinRule.{BinRule}
use Rattle.design_data.specs.declared.infos.BinRule.TheVariants.{Product}
use Rattle.design_data.specs.Crosses.{IsProduct}
use Rattle.design_data.specs.Limits.{IsCrossRule}
use Rattle.cross_sampler.specs.Plans.{is_automatic}
use Rattle.cross_sampler.proofs.Radix.{number_below}
use Rattle.cross_sampler.proofs.Bins.{rows_same, rows_more}
use Rattle.cross_sampler.proofs.building.add_automatic.Goals as goal

-- the members of an automatic bin are a product
members : (sizes : List ℕ) (bins : List BinInfo) (k : ℕ) (bin : BinInfo) (product : List ℕ) → slice_get bins k ≡ Some bin → bin.rule ≡ Product product → AllByRecursion (λ bin. IsCrossRule sizes bins bin.kind bin.rule) bins → IsProduct sizes product
members sizes bins k bin product at rule h = subst (λ (r : BinRule). IsCrossRule sizes bins bin.kind r) rule (each_at (λ (bin : BinInfo). IsCrossRule sizes bins bin.kind bin.rule) bins k bin h at)

pub index_mut-requires : goal.index_mut-requires
index_mut-requires c =
    let bins = c.args.bins.now in
    let bin = c.index-bins-bin.result in
    let product = c.in-Some.members.now in
    let kept : vec_len c.args.rows.now ≡ length c.args.rows.now.items = search rules in
    let at : slice_get bins c.args.bin ≡ Some bin = slice_get_read bins (length bins) c.args.bin bin refl c.requires.bin c.index-bins-bin.is in
    let p : IsProduct c.args.sizes.now product = members c.args.sizes.now bins c.args.bin bin product at (ap (λ (b : BinInfo). b.rule) c.index-bins-bin.is ∙ c.in-Some.ensures) c.requires.rules in
    omega (arith, kept, c.requires.rows.all, c.number-number.ensures, number_below c.args.sizes.now product p)

pub returns-in_ok-push-in-Some : goal.returns-in_ok-push-in-Some
returns-in_ok-push-in-Some c =
    let bins = c.args.bins.now in
    let bin = c.index-bins-bin.result in
    let product = c.in-Some.members.now in
    let at : slice_get bins c.args.bin ≡ Some bin = slice_get_read bins (length bins) c.args.bin bin refl c.requires.bin c.index-bins-bin.is in
    let p : IsProduct c.args.sizes.now product = members c.args.sizes.now bins c.args.bin bin product at (ap (λ (b : BinInfo). b.rule) c.index-bins-bin.is ∙ c.in-Some.ensures) c.requires.rules in
    rows_more c.args.sizes.now bins c.args.bin bin c.requires.bin c.index-bins-bin.is c.args.rows.now.items product c.index_mut.result.now c.push.new.self c.number-number.result (ap (λ (b : BinInfo). b.rule) c.index-bins-bin.is ∙ c.in-Some.ensures) p c.number-number.ensures
    c.index_mut.ensures.value c.in_ok-push-in-Some.ensures c.requires.rows

pub returns-in-None : goal.returns-in-None
returns-in-None c =
    let bins = c.args.bins.now in
    let bin = c.index-bins-bin.result in
    let at : slice_get bins c.args.bin ≡ Some bin = slice_get_read bins (length bins) c.args.bin bin refl c.requires.bin c.index-bins-bin.is in
    rows_same c.args.sizes.now bins c.args.bin bin c.requires.bin c.index-bins-bin.is c.args.rows.now.items (c.requires.automatic.none c.args.bin bin (omega arith) at) (ap (λ (b : BinInfo). is_automatic b.rule) c.index-bins-bin.is ∙ c.in-None.ensures) c.requires.rows
