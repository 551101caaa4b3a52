-- An export is a text of JSON, and says what it was made of: its numbers are numbers, and it isn't deep.
use Rattle.std.proofs.Common.{ℕ, List, refl, arith}
use Rattle.json_text.specs.Print.{print}
use Rattle.json_text.specs.Tree.{json_tokens}
use Rattle.json_text.specs.Json.{max_depth}
use Rattle.json_text.specs.Values.{line_of}
use Rattle.json_text.specs.Laws.{IsWithin}
use Rattle.json_text.proofs.ReadBack as texts
use Rattle.json_text.proofs.Within.{within_text, within_number, within_truth, within_array, within_object, within_more}
use Rattle.tally.specs.declared.ranked.Ranked.{Ranked}
use Rattle.design_data.specs.declared.design.Design.{Design}
use Rattle.ucis_model.specs.declared.answers.HistoryNode.{HistoryNode}
use Rattle.cov_history.specs.declared.entry.Entry.{Entry}
use Rattle.store_views.specs.Version.{version}
use Rattle.export_json.specs.Export.{test_value, tests_value, bin_value, bins_value, item_value, items_value, instance_value, instances_value, type_value, types_value, illegal_value, all_illegal_value, ranked_value, ranking_value, design_value, millionths_member, bins_total_member, overall_value, export_value, json_of}
use Rattle.export_json.specs.Laws.{IsReadBack}

-- ---- tests, the ranking, the design

test_within : (row : HistoryNode) → IsWithin 1 (test_value row)
unfolding test_value
test_within row =
    within_object 0 _ (within_text 0 _, (within_text 0 _, (within_number 0 _, (within_number 0 _, (within_text 0 _, (within_number 0 _, (within_text 0 _, tt)))))))

tests_within : (rows : List HistoryNode) → IsWithin 2 (tests_value rows)
unfolding tests_value
tests_within rows = within_array 1 test_value test_within rows

ranked_within : (ids : List (List ℕ)) (row : Ranked × ℕ) → IsWithin 1 (ranked_value ids row)
unfolding ranked_value
ranked_within ids row = within_object 0 _ (within_text 0 _, (within_number 0 _, (within_number 0 _, tt)))

ranking_within : (ids : List (List ℕ)) (rows : List Ranked) → IsWithin 2 (ranking_value ids rows)
unfolding ranking_value
ranking_within ids rows = within_array 1 (ranked_value ids) (ranked_within ids) _

design_within : (digest : List ℕ) → IsWithin 1 (design_value digest)
unfolding design_value
design_within digest = within_object 0 _ (within_text 0 _, tt)

overall_within : (millionths : ℕ) → IsWithin 1 (overall_value millionths)
unfolding overall_value millionths_member
overall_within millionths = within_object 0 _ (within_number 0 _, tt)

-- ---- nodes

module _ (opening : Design) (h : List Entry) where
  bin_within : (n : ℕ) → IsWithin 1 (bin_value opening h n)
  unfolding bin_value
  bin_within n = within_object 0 _ (within_text 0 _, (within_text 0 _, (within_number 0 _, (within_text 0 _, tt))))

  bins_within : (n : ℕ) → IsWithin 2 (bins_value opening h n)
  unfolding bins_value
  bins_within n = within_array 1 (bin_value opening h) bin_within _

  item_within : (n : ℕ) → IsWithin 3 (item_value opening h n)
  unfolding item_value millionths_member bins_total_member
  item_within n =
      within_object 2 _ (within_text 2 _, (within_text 2 _, (within_number 2 _, (within_number 2 _, (within_number 2 _, (within_truth 2 _, (within_number 2 _, (within_number 2 _, (within_truth 2 _, (bins_within n, tt))))))))))

  items_within : (n : ℕ) → IsWithin 4 (items_value opening h n)
  unfolding items_value
  items_within n = within_array 3 (item_value opening h) item_within _

  instance_within : (n : ℕ) → IsWithin 5 (instance_value opening h n)
  unfolding instance_value millionths_member
  instance_within n = within_object 4 _ (within_text 4 _, (within_number 4 _, (within_number 4 _, (within_truth 4 _, (within_number 4 _, (within_truth 4 _, (items_within n, tt)))))))

  instances_within : (n : ℕ) → IsWithin 6 (instances_value opening h n)
  unfolding instances_value
  instances_within n = within_array 5 (instance_value opening h) instance_within _

  type_within : (n : ℕ) → IsWithin 7 (type_value opening h n)
  unfolding type_value millionths_member
  type_within n = within_object 6 _ (within_text 6 _, (within_number 6 _, (within_number 6 _, (within_truth 6 _, (within_number 6 _, (within_truth 6 _, (instances_within n, tt)))))))

  types_within : IsWithin 8 (types_value opening h)
  unfolding types_value
  types_within = within_array 7 (type_value opening h) type_within _

  illegal_within : (n : ℕ) → IsWithin 1 (illegal_value opening h n)
  unfolding illegal_value
  illegal_within n = within_object 0 _ (within_text 0 _, (within_number 0 _, tt))

  all_illegal_within : IsWithin 2 (all_illegal_value opening h)
  unfolding all_illegal_value
  all_illegal_within = within_array 1 (illegal_value opening h) illegal_within _

  -- ---- the whole

  export_within : (digest : List ℕ) → IsWithin 9 (export_value opening h digest)
  unfolding export_value
  export_within digest =
      within_object 8 _ (within_text 8 version, (within_number 8 _, (within_more 1 8 _ (omega arith) (design_within _), (within_more 2 8 _ (omega arith) (tests_within _), (within_more 1 8 _ (omega arith) (overall_within _), (types_within, (within_more 2 8 _ (omega arith) all_illegal_within, (within_more 2 8 _ (omega arith) (ranking_within _ _), tt))))))))

  pub read_back : (digest : List ℕ) → IsReadBack opening h digest
  unfolding json_of line_of
  read_back digest =
      let value = export_value opening h digest in
      (print (json_tokens value), refl, texts.read_back value (within_more 9 max_depth value (omega arith) (export_within digest)))
