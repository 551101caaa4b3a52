use Rattle.std.proofs.Common.{◌≡◌, ◌<◌, ap, sym, subst, ◌∙◌, List, length, get_or, take, arith}
use Rattle.std.proofs.lemmas.List.{length-take-le}
use Rattle.std.proofs.lemmas.Option.{slice_get_within}
use Rattle.std.proofs.lemmas.List.Elements.{All-from_recursion}
use Rattle.std.specs.Prelude.{Contains}
use Rattle.design_data.specs.Limits.{IsPointRule}
use Rattle.word_table.specs.declared.row.PlacedWord.{PlacedWord}
use Rattle.design_data.specs.declared.infos.BinInfo.{BinInfo}
use Rattle.point_tables.specs.declared.tables.Machine.{Machine}
use Rattle.point_tables.specs.Tables.{machines_from}
use Rattle.point_tables.specs.Divided.{BinsDivided}
use Rattle.point_tables.proofs.Automata.{from_machines, machines_more}
use Rattle.point_tables.proofs.Dividing.{bins_none, one_divided, rows_more}
use Rattle.point_tables.proofs.transitions.divided_of.Goals as goal

pub loop-place-init : goal.loop-place-init
loop-place-init c = record {
  are = bins_none c.args.removers.now (record { machines = c.new.result; entrances = c.new-2.result; rows = c.new-3.result }) c.new.ensures.items c.new-2.ensures.items c.new-3.ensures.items;
  few = omega (arith, ap (λ (rows : List PlacedWord). length rows) c.new-3.ensures.items);
}

pub loop-place-preserved : goal.loop-place-preserved
loop-place-preserved c =
    let item = c.args.item.now in
    let bins = item.bins in
    let place = c.loop-place.place in
    let bin = c.bin-item.result in
    let removers = c.args.removers.now in
    let old = c.loop-place.divided in
    let new = c.add_trans.new.divided in
    let inv = c.loop-place.invariant in
    let lt : place < length bins = omega (arith, c.loop-place-test.true, ap (λ (b : List BinInfo). length b) c.as_slice-bin-items.ensures) in
    let is : bin ≡ get_or bins place bin = c.bin-item.is ∙ ap (λ (b : List BinInfo). get_or b place bin) c.as_slice-bin-items.ensures in
    let all = machines_from 0 (take place bins) in
    let below : (m : Machine) → Contains all m → m.place < place = λ m in_all.
    let o = from_machines 0 (take place bins) m in_all in
    omega (arith, o.is_place, slice_get_within (take place bins) o.index o.bin o.is_bin, length-take-le place bins (omega (arith, lt))) in
    let own : IsPointRule item bin.kind bin.rule =
    subst (λ (b : BinInfo). IsPointRule item b.kind b.rule) (sym is) (All-from_recursion (λ b. IsPointRule item b.kind b.rule) bins c.requires.point.rules place bin lt) in
    let few : length old.rows.items < 65536 = omega (arith, inv.few, lt, c.requires.point.few) in
    let more = one_divided removers item all place bin.kind bin.rule old new below own c.in_ok-add_trans.ensures inv.are few in
    record {
      are = subst (λ (ms : List Machine). BinsDivided removers ms new) (sym (machines_more bins place bin lt is)) more;
      few = omega (arith, inv.few, rows_more removers item all place bin.kind bin.rule old new below own c.in_ok-add_trans.ensures inv.are few);
    }
