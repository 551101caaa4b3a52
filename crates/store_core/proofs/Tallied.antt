-- The tally of a record under a design.
use Rattle.std.proofs.Common.{◌≡◌, ℕ, ◌+◌, ◌<◌, ◌≤◌, List, [], ◌∷◌, length, sym, ap, ◌∙◌, arith}
use Rattle.std.specs.Prelude.{All, ◌==◌}
use Rattle.std.proofs.lemmas.List.Elements.{All-cons}
use Rattle.tally.specs.Rows.{rows_from, count_in}
use Rattle.tally.proofs.RowLemmas.{count_in-rows_from, length-rows_from}
use Rattle.design_data.specs.declared.design.Design.{Design}
use Rattle.record_codec.specs.declared.record.Record.{Record}
use Rattle.cov_counting.proofs.Bins.{one}
use Rattle.sampler.specs.Plans.{IsTallyOf}
use Rattle.cov_history.specs.Tallies.{tally}
use Rattle.cov_history.specs.History.{hits, bins_hit}
use Rattle.cov_history.proofs.Bools.{by_bool}
use Rattle.cov_history.proofs.Counting.{tally_is}

pub rows_are : (d : Design) (r : Record) (rows : List (ℕ × ℕ)) → IsTallyOf d r rows → rows ≡ rows_from 0 (tally d r)
rows_are d r rows t = t.2 ∙ ap (rows_from 0) (one d r t.0 (tally d r) t.1 (tally_is d r).is)

pub length_is : (d : Design) (r : Record) → length (tally d r) ≡ d.bin_count
length_is d r = (tally_is d r).is.same

pub size_is : (d : Design) (r : Record) → length (rows_from 0 (tally d r)) ≡ bins_hit d r
size_is d r = length-rows_from 0 (tally d r)

pub counted : (d : Design) (r : Record) (bin : ℕ) → count_in (rows_from 0 (tally d r)) bin ≡ hits d r bin
counted d r bin = let e : 0 + bin ≡ bin = omega arith in ap (count_in (rows_from 0 (tally d r))) (sym e) ∙ count_in-rows_from 0 bin (tally d r)

rows_inside : (bin n : ℕ) (xs : List ℕ) → bin + length xs ≤ n → All (λ (row : ℕ × ℕ). row.0 < n) (rows_from bin xs)
rows_inside bin n [] few = λ i d below. absurd (omega (arith, below))
rows_inside bin n (x ∷ xs) few =
    let rest = rows_inside (bin + 1) n xs (omega (arith, few)) in
    by_bool (x == 0)
    (λ none. rw none rest)
    (λ some. rw some (All-cons (λ (row : ℕ × ℕ). row.0 < n) (bin, x) (rows_from (bin + 1) xs) (omega (arith, few)) rest))

pub all_inside : (d : Design) (r : Record) → All (λ (row : ℕ × ℕ). row.0 < d.bin_count) (rows_from 0 (tally d r))
all_inside d r = rows_inside 0 d.bin_count (tally d r) (omega (arith, length_is d r))
