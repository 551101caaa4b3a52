use Rattle.std.proofs.Common.{ℕ, ◌+◌, subst, sym, ◌∙◌, arith}
use Rattle.std.proofs.lemmas.Bool.{false≢true}
use Rattle.cov_spec.specs.Number.{Number}
use Rattle.cov_spec.specs.Number.Number.{none}
use Rattle.cov_counting.specs.Tallies.{Hit}
use Rattle.cov_counting.proofs.Counts.{number_more, number_same}
use Rattle.cov_counting.proofs.tally.count_of.Goals.{then-branch, else-branch}
use Rattle.cov_counting.proofs.tally.count_of.Goals as goal

pub loop-k-init : goal.loop-k-init
loop-k-init c = record { few = omega arith; number = none }

pub loop-k-preserved : goal.loop-k-preserved
loop-k-preserved c =
    let P : ℕ → Type 0 = Hit c.args.items.now c.args.item.now c.args.bin.now c.args.samples.now in
    let inv = c.loop-k.invariant in
    elim c.if-branch.branch [
      | then-branch w ↦ record {
        few = omega (arith, inv.few, w.count-is);
        number = subst (Number P (c.loop-k.k + 1)) (sym w.count-is) (number_more P c.loop-k.k c.loop-k.count inv.number (c.in_ok-is_bin_hit.ensures.0 w.if-branch.true));
      }
      | else-branch w ↦ record {
        few = omega (arith, inv.few, w.count-is);
        number = subst (Number P (c.loop-k.k + 1)) (sym w.count-is) (number_same P c.loop-k.k c.loop-k.count inv.number (λ h. false≢true (sym w.if-branch.false ∙ c.in_ok-is_bin_hit.ensures.1 h)));
      }
    ]
