use Rattle.std.proofs.Common.{List, [], ◌∷◌, ◌++◌, codes, length}
use Rattle.json_text.specs.Values.{Member, text, number}
use Rattle.json_text.proofs.Parts.{more_members, last_member, object_written}
use Rattle.merge_store.specs.Stores.{opening_of, entries_of}
use Rattle.store_views.specs.Version.{version}
use Rattle.store_views.specs.Views.{rows_at, ranked_at}
use Rattle.export_json.specs.Export.{design_value, tests_value, overall_value, types_value, all_illegal_value, ids_in, ranking_value, export_members}
use Rattle.export_json.proofs.export.write_all.Goals as goal

pub returns : goal.returns
returns g c =
    let opening = opening_of c.args.store.now in
    let h = entries_of c.args.store.now in
    let rows = c.args.tests.now in
    let head : List Member = (codes "covd", text version) ∷ (codes "point", number (length h)) ∷ (codes "design", design_value c.args.digest.now) ∷ [] in
    let tests : Member = (codes "tests", tests_value rows) in
    let coverage : List Member = (codes "overall", overall_value (rows_at opening h 0).millionths) ∷ (codes "types", types_value opening h) ∷ (codes "illegal", all_illegal_value opening h) ∷ [] in
    let ranking : List Member = (codes "ranking", ranking_value (ids_in rows) (ranked_at opening h)) ∷ [] in
    object_written (export_members opening h c.args.digest.now rows) _ _ _ _ c.in_ok-begin_object.ensures
    (more_members (head ++ tests ∷ coverage) ranking _ _ _
    (more_members (head ++ tests ∷ []) coverage _ _ _ (last_member head tests _ _ _ _ c.in_ok-write_head.ensures c.in_ok-key.ensures c.in_ok-write_tests.ensures) c.in_ok-write_coverage.ensures)
    c.in_ok-write_ranked_tests.ensures)
    c.in_ok-end_object.ensures
