-- The tests of a history as they are kept.
use Rattle.std.proofs.Common.{◌≡◌, ◌∙◌, ℕ, zero, suc, ◌+◌, ◌*◌, ◌<◌, ◌≤◌, List, [], ◌∷◌, ◌++◌, length, map, take, drop, refl, sym, ap, arith, append_assoc, length-append, Bool, option_map}
use Rattle.std.specs.Prelude.{slice_index, slice_get, filter, sum_by, count_by, nat_lt, find, bytes_eq, ◌^◌}
use Rattle.std.specs.List.{range_with_len}
use Rattle.std.proofs.lemmas.List.{length-map, map-append, take-map, drop-map}
use Rattle.std.proofs.lemmas.List.Sums.{sum_by-cons, length-filter, count_by-le-length}
use Rattle.tally.specs.Rows.{rows_from}
use Rattle.design_data.specs.declared.design.Design.{Design}
use Rattle.record_codec.specs.declared.record.Record.{Record}
use Rattle.ucis_model.specs.declared.answers.HistoryNode.{HistoryNode}
use Rattle.cov_history.specs.declared.entry.Entry.{Entry}
use Rattle.cov_history.specs.Tallies.{tally}
use Rattle.cov_history.specs.History.{Test, tests_of, tests_in, tests_from, contents, hits, hits_of, bins_hit}
use Rattle.cov_history.specs.Sums.{all_hits}
use Rattle.cov_history.specs.Answers.{test_row}
use Rattle.cov_history.proofs.Bools.{by_bool}
use Rattle.cov_history.proofs.Counting.{tally_of}
use Rattle.cov_history.proofs.Summing.{all_hits_at, has_room, few_contents}
use Rattle.history_answers.specs.declared.keeping.Kept.{Kept}
use Rattle.history_answers.specs.Kept.{kept_as, kept_from, total, hit_by, rows_of}

pub kept_more : (d : Design) (point : ℕ) (e : Entry) (es : List Entry) → kept_from d point (e ∷ es) ≡ map (kept_as d) (tests_in (point + 1) e.event) ++ kept_from d (point + 1) es
kept_more d point e es = map-append (kept_as d) (tests_in (point + 1) e.event) (tests_from (point + 1) es)

pub kept_step : (d : Design) (point : ℕ) (e : Entry) (rest later : List Entry) (tests new whole : List Kept) → tests ++ kept_from d point rest ≡ whole → rest ≡ e ∷ later
    → new ≡ tests ++ map (kept_as d) (tests_in (point + 1) e.event) → new ++ kept_from d (point + 1) later ≡ whole
kept_step d point e rest later tests new whole inv is made =
    ap (λ (ks : List Kept). ks ++ kept_from d (point + 1) later) made
    ∙ append_assoc tests (map (kept_as d) (tests_in (point + 1) e.event)) (kept_from d (point + 1) later)
    ∙ ap (λ (ks : List Kept). tests ++ ks) (sym (kept_more d point e later))
    ∙ ap (λ (es : List Entry). tests ++ kept_from d point es) (sym is)
    ∙ inv

-- what is kept of a filter so far is no longer than the list
pub few_filtered : (p : ℕ → Bool) (xs done rest : List ℕ) → done ++ filter p rest ≡ filter p xs → length done ≤ length xs
few_filtered p xs done rest e =
    let a = length-append done (filter p rest) in
    let l = ap (λ (ns : List ℕ). length ns) e in
    let f = length-filter p xs in
    let b = count_by-le-length p xs in
    omega (arith, a, l, f, b)

-- ---- counts

abbrev content_of : Test → Record
content_of t = t.content

total_as : (d : Design) (ts : List Test) (bin : ℕ) → total (map (kept_as d) ts) bin ≡ hits_of d (map content_of ts) bin
total_as d [] bin = refl
total_as d (t ∷ ts) bin =
    sum_by-cons (λ (k : Kept). slice_index k.counts bin) (kept_as d t) (map (kept_as d) ts)
    ∙ ap (λ n. hits d t.content bin + n) (total_as d ts bin)
    ∙ sym (sum_by-cons (λ (r : Record). hits d r bin) t.content (map content_of ts))

pub total_is : (d : Design) (h : List Entry) (bin : ℕ) → total (kept_from d 0 h) bin ≡ hits_of d (contents h) bin
total_is d h bin = total_as d (tests_of h) bin

pub total_fits : (d : Design) (h : List Entry) → length h < 2 ^ 32 → (bin : ℕ) → total (kept_from d 0 h) bin < 2 ^ 63
total_fits d h few bin =
    let t = total_is d h bin in
    let a = all_hits_at d (contents h) bin in
    let c = few_contents h in
    let r = has_room d (contents h) (all_hits d (contents h)) refl (omega (arith, c, few)) bin in
    omega (arith, t, a, r)

pub counts_are : (d : Design) (h : List Entry) (tests : List Kept) (counts : List ℕ) → tests ≡ kept_from d 0 h → counts ≡ map (total tests) (range_with_len 0 d.bin_count) → counts ≡ all_hits d (contents h)
counts_are d h tests counts t e =
    e
    ∙ ap (λ (ts : List Kept). map (total ts) (range_with_len 0 d.bin_count)) t
    ∙ (λ i. map (λ bin. total_is d h bin i) (range_with_len 0 d.bin_count))

hit_as : (d : Design) (ts : List Test) → hit_by (map (kept_as d) ts) ≡ sum_by (bins_hit d) (map content_of ts)
hit_as d [] = refl
hit_as d (t ∷ ts) =
    sum_by-cons (λ (k : Kept). count_by (nat_lt 0) k.counts) (kept_as d t) (map (kept_as d) ts)
    ∙ ap (λ n. bins_hit d t.content + n) (hit_as d ts)
    ∙ sym (sum_by-cons (bins_hit d) t.content (map content_of ts))

pub hit_is : (d : Design) (h : List Entry) → hit_by (kept_from d 0 h) ≡ sum_by (bins_hit d) (contents h)
hit_is d h = hit_as d (tests_of h)

pub few_bins_hit : (d : Design) (r : Record) → bins_hit d r ≤ 4294967295
few_bins_hit d r =
    let most = count_by-le-length (nat_lt 0) (tally d r) in
    let same = (tally_of d r).same in
    omega (arith, most, same, d.within.few_bins)

few_hit : (d : Design) (rs : List Record) → sum_by (bins_hit d) rs ≤ length rs * 4294967295
few_hit d [] = omega arith
few_hit d (r ∷ rs) =
    let c = sum_by-cons (bins_hit d) r rs in
    let one = few_bins_hit d r in
    let rest = few_hit d rs in
    omega (arith, c, one, rest)

pub hit_fits : (d : Design) (h : List Entry) → length h < 2 ^ 32 → hit_by (kept_from d 0 h) < 2 ^ 64
hit_fits d h few =
    let i = hit_is d h in
    let f = few_hit d (contents h) in
    let c = few_contents h in
    omega (arith, i, f, c, few)

pub rows_are : (d : Design) (ts : List Test) → rows_of (map (kept_as d) ts) ≡ map (λ (t : Test). rows_from 0 (tally d t.content)) ts
rows_are d [] = refl
rows_are d (t ∷ ts) = ap (λ rows. rows_from 0 (tally d t.content) ∷ rows) (rows_are d ts)

-- ---- lists of tests

pub few_kept : (d : Design) (h : List Entry) → length (kept_from d 0 h) ≤ length h
few_kept d h =
    let m = length-map (tests_of h) (kept_as d) in
    let c = length-map (tests_of h) content_of in
    let f = few_contents h in
    omega (arith, m, c, f)

pub kept_length : (d : Design) (h : List Entry) → length (kept_from d 0 h) ≡ length (tests_of h)
kept_length d h = length-map (tests_of h) (kept_as d)

pub find_as : (d : Design) (id : List ℕ) (ts : List Test) → find (λ (k : Kept). bytes_eq id k.row.id) (map (kept_as d) ts) ≡ option_map (kept_as d) (find (λ (t : Test). bytes_eq id t.content.id) ts)
find_as d id [] = refl
find_as d id (t ∷ ts) = by_bool (bytes_eq id t.content.id) (λ k. rw k refl) (λ k. rw k (find_as d id ts))

pub get_as : {X Y : Type 0} (f : X → Y) (xs : List X) (k : ℕ) → slice_get (map f xs) k ≡ option_map f (slice_get xs k)
get_as f [] k = refl
get_as f (x ∷ xs) zero = refl
get_as f (x ∷ xs) (suc k) = get_as f xs k

abbrev row_of : Kept → HistoryNode
row_of k = k.row

rows_as : (d : Design) (ts : List Test) → map row_of (map (kept_as d) ts) ≡ map test_row ts
rows_as d [] = refl
rows_as d (t ∷ ts) = ap (λ rows. test_row t ∷ rows) (rows_as d ts)

pub page_as : (d : Design) (most first : ℕ) (ts : List Test) → map row_of (take most (drop first (map (kept_as d) ts))) ≡ map test_row (take most (drop first ts))
page_as d most first ts =
    ap (λ (ks : List Kept). map row_of (take most ks)) (drop-map (kept_as d) first ts)
    ∙ ap (map row_of) (take-map (kept_as d) most (drop first ts))
    ∙ rows_as d (take most (drop first ts))
