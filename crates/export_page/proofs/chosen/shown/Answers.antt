use Rattle.std.proofs.Common.{◌≤◌, length, sym, arith}
use Rattle.std.proofs.lemmas.List.{length-take-le}
use Rattle.export_page.specs.Views.{most_bins}
use Rattle.export_page.proofs.chosen.shown.Goals as goal

pub slice_bounds-result-end : goal.slice_bounds-result-end
slice_bounds-result-end c =
    let many = c.if-nodes-le-MOST_BINS.false in
    let long : most_bins ≤ length c.args.nodes.now = omega (arith, many) in
    sym (length-take-le most_bins c.args.nodes.now long)
