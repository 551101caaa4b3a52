use Rattle.std.proofs.Common.{◌≡◌, ◌≤◌, length, ap, sym, ◌∙◌, arith}
use Rattle.cov_ground.specs.Limits.{most_bins}
use Rattle.trans_found.specs.Lists.{listed, listed_by_all}
use Rattle.trans_seq.proofs.Results.{if_ok}
use Rattle.trans_found.proofs.AloneLemmas.{one-of, listed-one, few-by}
use Rattle.trans_lists.proofs.listing.distinct.Goals as goal

pub returns-in-len1-clause-lists : goal.returns-in-len1-clause-lists
returns-in-len1-clause-lists c =
    let seqs = c.args.seqs.now in
    let seq = c.seq-item.result in
    let same : listed seq.items ≡ listed_by_all seqs = listed-one seqs seq (one-of seqs seq (omega arith) (omega arith) c.seq-item.is) in
    if_ok (λ lists. lists.items ≡ listed seq.items) (λ lists. lists.items ≡ listed_by_all seqs) (λ lists is. is ∙ same) c.alone.result c.alone.ensures.lists

pub returns-in-len1-clause-few : goal.returns-in-len1-clause-few
returns-in-len1-clause-few c =
    let seqs = c.args.seqs.now in
    let seq = c.seq-item.result in
    let same : listed seq.items ≡ listed_by_all seqs = listed-one seqs seq (one-of seqs seq (omega arith) (omega arith) c.seq-item.is) in
    if_ok (λ lists. length (listed seq.items) ≤ most_bins) (λ lists. length (listed_by_all seqs) ≤ most_bins) (λ lists few. few-by _ _ (sym (ap length same)) few) c.alone.result c.alone.ensures.few
