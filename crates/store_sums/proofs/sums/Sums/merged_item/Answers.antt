use Rattle.std.proofs.Common.{◌≡◌, ◌∙◌, ap, sym, length, List, ℕ}
use Rattle.std.specs.Prelude.{count_by}
use Rattle.std.specs.declared.vec.Vec.{Vec}
use Rattle.std.specs.declared.alloc.Global.{Global}
use Rattle.std.proofs.lemmas.List.{length-map}
use Rattle.percent.specs.Millionths.{full}
use Rattle.cov_history.specs.Coverage as cover
use Rattle.store_sums.specs.Now.{nodes_now, count_now}
use Rattle.store_sums.proofs.Merging.{item_is, lists_in}
use Rattle.store_sums.proofs.sums.Sums.merged_item.Goals as goal

pub returns : goal.returns
returns c =
    let s = c.args.self.now in
    let lists = lists_in c.in_ok-lists.lists.items in
    let test = cover.is_covered_as_one (nodes_now s) (count_now s) in
    let covered : c.covered_lists.result ≡ count_by test lists = c.covered_lists.ensures.is ∙ ap (λ (ls : List (Vec ℕ Global)). count_by test (lists_in ls)) c.as_slice.ensures.value in
    let many : length c.as_slice-many.result.now ≡ length lists = ap (λ (ls : List (Vec ℕ Global)). length ls) c.as_slice-many.ensures.value ∙ sym (length-map c.in_ok-lists.lists.items (λ (l : Vec ℕ Global). l.items)) in
    c.item.ensures ∙ (λ i. full (covered i) (many i)) ∙ item_is (nodes_now s) (count_now s) c.args.bins.now lists c.in_ok-lists.ensures
