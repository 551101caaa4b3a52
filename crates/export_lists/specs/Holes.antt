-- The holes of a history: how many live bins aren't covered, and which, item by item.
use Rattle.std.specs.Prelude.{ℕ, List, [], ◌++◌, filter, length, slice_get, Bool, not, nat_lt, if◌then◌else◌}
use Rattle.std.specs.List.{flat_map, enumerate_from}
use Rattle.std.specs.Option.{option_map_or}
use Rattle.design_data.specs.declared.design.Design.{Design}
use Rattle.design_data.specs.declared.infos.InstInfo.{InstInfo}
use Rattle.design_data.specs.declared.infos.ItemInfo.{ItemInfo}
use Rattle.ucis_model.specs.declared.node.Node.{Node}
use Rattle.ucis_model.specs.Paths.{path_of}
use Rattle.cross_holes.specs.Projected.{Cross, cross_of, projected, alone}
use Rattle.cov_history.specs.declared.entry.Entry.{Entry}
use Rattle.cov_history.specs.Nodes.{children}
use Rattle.cov_history.specs.Coverage.{live_under, is_covered, count_at, at_least}
use Rattle.cov_history.specs.History.{design_of, count_of}
use Rattle.cov_history.specs.Answers.{nodes_at, excluded_at}
use Rattle.store_views.specs.Views.{instance_at}
use Rattle.export_lists.specs.Lines.{holes_line, item_line, all_line, hole_line}

-- the holes under a node: the live bins that were hit less often than they have to be (`option.at_least`, IEEE 1800-2017,
-- 19.7)
abbrev pub holes_under : List Node → (count : ℕ → ℕ) → (excluded : ℕ → Bool) → ℕ → List ℕ
holes_under nodes count excluded n = filter (λ m. not (is_covered nodes count m)) (live_under nodes excluded n)

abbrev pub line_of_hole : List Node → (count : ℕ → ℕ) → ℕ → List ℕ
line_of_hole nodes count n = hole_line (count_at nodes count n) (at_least nodes n) (path_of nodes n)

-- The lines of the holes of a cross at a path: one for each projected hole, and then one for each hole that is in none.
abbrev pub lines_of_cross : List Node → (count : ℕ → ℕ) → (path : List ℕ) → Cross → List ℕ
lines_of_cross nodes count path c =
    flat_map (λ hole. all_line path hole.point hole.member) (projected c) ++ flat_map (line_of_hole nodes count) (alone c)

-- the lines of the item at a place among those of its instance, which is node n, with these live bins and these holes
abbrev pub lines_with_holes : List Node → (count : ℕ → ℕ) → List ItemInfo → (place n : ℕ) → (live holes : List ℕ) → List ℕ
lines_with_holes nodes count items place n live holes =
    item_line (path_of nodes n) (length holes) (length live) ++ lines_of_cross nodes count (path_of nodes n) (cross_of nodes items (slice_get items place) live holes)

-- the same with the live bins and the holes under it; none where it has no hole
abbrev pub lines_of_item : List Node → (count : ℕ → ℕ) → (excluded : ℕ → Bool) → List ItemInfo → (place n : ℕ) → List ℕ
lines_of_item nodes count excluded items place n =
    if nat_lt 0 (length (holes_under nodes count excluded n))
    then lines_with_holes nodes count items place n (live_under nodes excluded n) (holes_under nodes count excluded n)
    else []

-- the items of the instance that node n is
abbrev pub items_at : List InstInfo → List Node → ℕ → List ItemInfo
items_at instances nodes n = option_map_or (λ inst. inst.items) (instance_at instances nodes n) []

abbrev pub lines_of_instance : List InstInfo → List Node → (count : ℕ → ℕ) → (excluded : ℕ → Bool) → ℕ → List ℕ
lines_of_instance instances nodes count excluded n =
    flat_map (λ item. lines_of_item nodes count excluded (items_at instances nodes n) item.0 item.1) (enumerate_from 0 (children nodes n))

abbrev pub lines_of_type : List InstInfo → List Node → (count : ℕ → ℕ) → (excluded : ℕ → Bool) → ℕ → List ℕ
lines_of_type instances nodes count excluded n = flat_map (lines_of_instance instances nodes count excluded) (children nodes n)

abbrev pub holes_of : List InstInfo → List Node → (count : ℕ → ℕ) → (excluded : ℕ → Bool) → List ℕ
holes_of instances nodes count excluded =
    holes_line (length (holes_under nodes count excluded 0)) (length (live_under nodes excluded 0))
    ++ flat_map (lines_of_type instances nodes count excluded) (children nodes 0)

-- how many holes there are among the live bins, and the lines of each item that has some, type by type and instance by instance
unfoldable pub holes_text : (opening : Design) → List Entry → List ℕ
holes_text opening h = holes_of (design_of opening h).instances (nodes_at opening h) (count_of opening h) (excluded_at opening h)
