use Rattle.std.proofs.Common.{◌≡◌, refl, sym, subst, List, length, ◌+◌}
use Rattle.std.specs.Prelude.{slice_get, Some}
use Rattle.std.proofs.lemmas.Option.{slice_get_read}
use Rattle.point_tables.specs.declared.tables.Entry.{Entry}
use Rattle.point_tables.specs.Tables.{IsEntry, AreEntriesOf}
use Rattle.point_tables.proofs.Bins.{entries_more, counted_more, counted_few, before_within}
use Rattle.point_tables.proofs.entries.entry_list.Goals as goal

pub loop-place-preserved : goal.loop-place-preserved
loop-place-preserved c =
    let bins = c.args.bins.now in
    let place = c.loop-place.place in
    let bin = c.index-bins-place.result in
    let inv = c.loop-place.invariant in
    let entry : Entry = record { covers = c.is_coverage-covers.result; number = c.loop-place.number; guard = c.guard_place-guard.result } in
    let is : slice_get bins place ≡ Some bin = slice_get_read bins (length bins) place bin refl c.loop-place-test.true c.index-bins-place.is in
    let here : IsEntry bins place bin entry = record { covers = c.is_coverage-covers.ensures; number = inv.number; guard = c.guard_place-guard.ensures is } in
    record {
      before = before_within bins c.guard_place-guard.result bin.guard here.guard;
      number = counted_more bins place bin c.is_coverage-covers.result c.loop-place.number c.counted-number.result c.loop-place-test.true c.index-bins-place.is c.is_coverage-covers.ensures inv.number c.counted-number.ensures;
      few = counted_few c.is_coverage-covers.result c.loop-place.number c.counted-number.result place c.counted-number.ensures inv.few;
      entries = subst (λ (es : List Entry). AreEntriesOf bins (place + 1) es) (sym c.in_ok-push.ensures.items) (entries_more bins place bin c.loop-place.entries.items entry is here inv.entries);
    }
