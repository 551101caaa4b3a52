use Rattle.std.proofs.Common.{◌≡◌, ◌<◌, ap, subst, ◌∙◌, List, ◌++◌, ℕ, length, get_or, arith}
use Rattle.std.specs.Prelude.{map, slice_index, not}
use Rattle.std.proofs.lemmas.List.{get_or_default}
use Rattle.word_table.specs.declared.row.PlacedWord.{PlacedWord}
use Rattle.word_table.specs.Placed.{AddsEnded}
use Rattle.word_table.proofs.Keeping.{last_itself}
use Rattle.word_table.proofs.Placing.{found_inside, found_are, found_once, some_hits}
use Rattle.word_table.proofs.placed.PlacedWords.add_ended.Goals as goal

pub add_places-requires : goal.add_places-requires
add_places-requires c = λ k d lt.
    let words = c.self.inside.words in
    let places = c.self.inside.places.items in
    let hits = c.ended.new.hits.items in
    let inside : k < length hits = omega (arith, lt, ap (λ (xs : List ℕ). length xs) c.as_slice-2.ensures.value) in
    let own : get_or hits k 0 < length words = found_inside words places c.self.invariant hits c.args.recent.now (c.in_ok-ended.ensures.ended c.args.recent.now (last_itself c.args.recent.now)) k inside in
    omega (arith, own, c.self.invariant, get_or_default hits k 0 d inside, ap (λ (xs : List ℕ). get_or xs k d) c.as_slice-2.ensures.value, ap (λ (xs : List ℕ). length xs) c.as_slice.ensures.value)

pub returns : goal.returns
returns c =
    let words = c.self.inside.words in
    let places = c.self.inside.places.items in
    let hits = c.ended.new.hits.items in
    let inside : (k d : ℕ) → k < length hits → get_or hits k d < length words = λ k d lt.
    let own : get_or hits k 0 < length words = found_inside words places c.self.invariant hits c.args.recent.now (c.in_ok-ended.ensures.ended c.args.recent.now (last_itself c.args.recent.now)) k lt in
    omega (arith, own, get_or_default hits k 0 d lt) in
    let new : c.add_places.new.met.items ≡ c.args.met.now.items ++ map (slice_index places) hits =
    c.in_ok-add_places.ensures ∙ ap (λ (ps : List ℕ). c.args.met.now.items ++ map (slice_index ps) c.as_slice-2.result.now) c.as_slice.ensures.value
    ∙ ap (λ (hs : List ℕ). c.args.met.now.items ++ map (slice_index places) hs) c.as_slice-2.ensures.value in
    subst (λ (rows : List PlacedWord). AddsEnded rows c.args.recent.now c.args.met.now.items c.add_places.new.met.items (not c.is_empty.result)) c.self.view_is (record {
      found = map (slice_index places) hits;
      is_new = new;
      are = λ w last. found_are words places c.self.invariant hits w (c.in_ok-ended.ensures.ended w last);
      once = found_once words places c.self.invariant hits inside c.in_ok-ended.ensures.ascend;
      is_some = some_hits (slice_index places) hits c.ended.new.hits.len c.is_empty.result c.ended.new.hits.ok.0 c.is_empty.ensures;
    })
