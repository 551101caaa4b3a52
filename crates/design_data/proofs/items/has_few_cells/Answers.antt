use Rattle.design_data.proofs.Parts.{few_cells}
use Rattle.design_data.proofs.items.has_few_cells.Goals as goal

pub returns : goal.returns
returns c =
    let ignored = rw c.as_slice.ensures at c.cells_of_seqs-ignored.ensures in
    let illegal = rw c.as_slice-2.ensures at c.cells_of_seqs.ensures in
    few_cells c.args.item.now.ignored c.args.item.now.illegal c.saturating_add.result c.cells_of_seqs-ignored.result c.cells_of_seqs.result ignored illegal c.saturating_add.ensures
