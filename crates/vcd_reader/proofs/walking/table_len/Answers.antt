use Rattle.std.proofs.Common.{ℕ, ◌≤◌, ◌<◌, List, sym, subst, arith}
use Rattle.std.specs.List.{AllByRecursion}
use Rattle.vcd_reader.proofs.walking.table_len.Goals as goal

pub loop-code-preserved : goal.loop-code-preserved
loop-code-preserved c = record {
  least = λ n le all.
      let fits : c.loop-code.len ≤ n = omega (arith, c.above-len.ensures.least) in
      let lt : c.in-Some.code.now < n = omega (arith, c.above-len.ensures.above) in
      c.loop-code.invariant.least n fits (subst (λ (codes : List ℕ). AllByRecursion (λ code. code < n) codes) (sym c.in-Some.ensures.cases.0) (lt, all));
}
