use Rattle.std.proofs.Common.{length}
use Rattle.merge_store.specs.Now.{nodes_now}
use Rattle.export_page.proofs.Inside.{shown_inside}
use Rattle.export_page.proofs.bins.append_holes.Goals as goal

pub append_table-requires : goal.append_table-requires
append_table-requires c = shown_inside (length (nodes_now c.args.store.now)) c.args.holes.now _ c.requires c.shown.ensures
