use Rattle.std.proofs.Common.{◌≡◌, ℕ, ◌<◌, List, [], ◌++◌, not, length, ap, ◌∙◌, arith, if◌then◌else◌}
use Rattle.std.specs.Prelude.{filter}
use Rattle.cov_history.specs.Coverage.{is_covered}
use Rattle.merge_store.specs.Now.{nodes_now, count_now, excluded_now}
use Rattle.export_lists.proofs.Items.{item_lines}
use Rattle.export_lists.proofs.holes.append_item.Goals as goal

pub returns : goal.returns
returns c =
    item_lines (nodes_now c.args.store.now) (count_now c.args.store.now) (excluded_now c.args.store.now) c.args.items.now c.args.place c.args.node c.as_slice-2.result.now c.as_slice-3.result.now c.args.text.now.items c.append_with_holes.new.text.items
    (c.as_slice-2.ensures.value ∙ c.in_ok-live.ensures.live)
    (c.as_slice-3.ensures.value ∙ c.in_ok-holes.ensures.holes ∙ ap (filter (λ m. not (is_covered (nodes_now c.args.store.now) (count_now c.args.store.now) m))) (c.as_slice.ensures.value ∙ c.in_ok-live.ensures.live))
    (let stop = c.if-is_empty.false in let empty = c.is_empty.ensures in let long = c.as_slice-3.ensures.len in grind (arith, stop, empty, long))
    c.in_ok-append_with_holes.ensures
