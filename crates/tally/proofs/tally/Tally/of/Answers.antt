use Rattle.std.proofs.Common.{◌≡◌, ℕ, ◌+◌, List, length, get_or, sym, ap, subst, ◌∙◌, arith}
use Rattle.tally.specs.Rows.{rows_from, count_in, IsAscendingFrom}
use Rattle.tally.proofs.RowLemmas.{ascending_rows_from, count_in-rows_from, length-rows_from}
use Rattle.tally.proofs.tally.Tally.of.Goals as goal

pub invariant_of-result : goal.invariant_of-result
invariant_of-result c = subst (IsAscendingFrom 0) (sym c.in_ok-rows.ensures) (ascending_rows_from 0 c.args.counts.now)

from_zero : (rows : List (ℕ × ℕ)) (counts : List ℕ) → rows ≡ rows_from 0 counts → (bin : ℕ) → count_in rows bin ≡ get_or counts bin 0
from_zero rows counts is bin = let plain : bin ≡ 0 + bin = omega arith in ap (λ (xs : List (ℕ × ℕ)). count_in xs bin) is ∙ ap (count_in (rows_from 0 counts)) plain ∙ count_in-rows_from 0 bin counts

pub returns-clause-counts : goal.returns-clause-counts
returns-clause-counts c = from_zero c.in_ok-rows.rows.items c.args.counts.now c.in_ok-rows.ensures

pub returns-clause-size : goal.returns-clause-size
returns-clause-size c = ap length c.in_ok-rows.ensures ∙ length-rows_from 0 c.args.counts.now
