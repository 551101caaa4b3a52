use Rattle.std.proofs.Common.{◌∙◌, ap, List, ℕ}
use Rattle.std.specs.declared.vec.Vec.{Vec}
use Rattle.std.specs.declared.alloc.Global.{Global}
use Rattle.percent.specs.Millionths.{mean}
use Rattle.store_sums.specs.Groups.{merged_parts}
use Rattle.store_sums.specs.Now.{nodes_now, count_now, excluded_now}
use Rattle.store_sums.proofs.Merging.{merged_is, lists_in}
use Rattle.store_sums.proofs.sums.Sums.merged.Goals as goal

pub returns : goal.returns
returns c =
    let s = c.args.self.now in
    let live = c.as_slice.ensures.value ∙ c.in_ok-live.ensures in
    c.in_ok-part.ensures ∙ ap (λ (ls : List (Vec ℕ Global)). mean (merged_parts (nodes_now s) (count_now s) (lists_in ls))) c.as_slice-2.ensures.value
    ∙ merged_is (nodes_now s) (count_now s) (excluded_now s) c.args.node c.as_slice.result.now (lists_in c.in_ok-lists.lists.items) live c.in_ok-lists.ensures
