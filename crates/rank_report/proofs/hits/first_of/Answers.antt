use Rattle.std.proofs.Common.{ℕ, ltb, rules, arith, inl, inr}
use Rattle.std.proofs.lemmas.Bool.{cases_lt, ltb-true, ltb-false}
use Rattle.std.proofs.lemmas.List.Sorted.{IsPartitionPoint-from_clause, IsPartitionedBy-ltb}
use Rattle.rank_report.specs.Steps.{bin_at}
use Rattle.rank_report.proofs.hits.first_of.Goals as goal

pub returns : goal.returns
returns c =
    let wanted = c.args.wanted.now in
    let point = IsPartitionPoint-from_clause (λ (pair : ℕ × ℕ). ltb pair.0 c.args.bin) wanted c.partition_point.result c.partition_point.ensures.partitioned (IsPartitionedBy-ltb (λ (pair : ℕ × ℕ). pair.0) wanted c.args.bin c.requires.ascend) (λ a r q k. search rules) in
    record {
      range = (
        elim (cases_lt c.partition_point.result c.args.from) [
          | inl before ↦ let high = ltb-false (bin_at wanted c.args.from) c.args.bin (point.1 c.args.from (0, 0) (omega arith) (omega (arith, c.if-from-wanted.false))) in absurd (omega (arith, high, c.if-wanted-from.false))
          | inr le ↦ le
        ],
        c.partition_point.ensures.bound,
      );
      before = λ k low lt. ltb-true (bin_at wanted k) c.args.bin (point.0 k (0, 0) (omega arith) lt);
      after = λ k le lt. ltb-false (bin_at wanted k) c.args.bin (point.1 k (0, 0) le lt);
    }
