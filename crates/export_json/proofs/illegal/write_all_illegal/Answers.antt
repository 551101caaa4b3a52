use Rattle.std.proofs.Common.{ℕ, List, ◌++◌, length, filter, ap, ◌∙◌, arith}
use Rattle.std.specs.List.{flat_map}
use Rattle.std.proofs.lemmas.List.{take_all}
use Rattle.cov_history.specs.Nodes.{bins_under}
use Rattle.json_text.specs.Token.{Token}
use Rattle.json_text.proofs.Parts.{array_whole, tokens_if, chosen_tokens}
use Rattle.merge_store.specs.Now.{nodes_now, count_now}
use Rattle.merge_store.specs.Stores.{opening_of, entries_of}
use Rattle.store_views.specs.Views.{is_illegal_hit}
use Rattle.export_json.specs.Export.{illegal_value, all_illegal_value}
use Rattle.export_json.proofs.illegal.write_all_illegal.Goals as goal

pub returns : goal.returns
unfolding all_illegal_value
returns c =
    let nodes = nodes_now c.args.store.now in
    let value = illegal_value (opening_of c.args.store.now) (entries_of c.args.store.now) in
    let is_hit = is_illegal_hit nodes (count_now c.args.store.now) in
    let end = c.loop-bin-test.false in
    let many = ap (λ (ns : List ℕ). length ns) c.bins_under-bin-items.ensures.bins in
    let begun = c.begin_array.new.self in
    array_whole value (filter is_hit (bins_under nodes 0)) _ begun _ _ c.in_ok-begin_array.ensures
    (c.loop-bin.invariant ∙ ap (λ (ns : List ℕ). begun ++ flat_map (tokens_if value is_hit) ns) (take_all c.loop-bin.bin-index (bins_under nodes 0) (omega (arith, end, many)))
    ∙ ap (λ (ts : List Token). begun ++ ts) (chosen_tokens value is_hit (bins_under nodes 0)))
    c.in_ok-end_array.ensures
