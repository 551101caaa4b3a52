use Rattle.std.proofs.Common.{◌≡◌, ◌↔◌, subst, sym, ◌∙◌, map, Some}
use Rattle.std.specs.Prelude.{Contains}
use Rattle.trans_seq.specs.Windows.{InSome, SomeHasWord}
use Rattle.trans_found.specs.Lists.{listed_by_all}
use Rattle.trans_found.proofs.News.{Word}
use Rattle.trans_seq.proofs.Results.{if_ok}
use Rattle.trans_lists.proofs.MergeLemmas.{all-windows}
use Rattle.trans_lists.proofs.listing.expand_all.Goals as goal

pub returns-clause-windows : goal.returns-clause-windows
returns-clause-windows c =
    let seqs = c.args.seqs.now in
    if_ok (λ lists. lists.items ≡ listed_by_all seqs) (λ lists. (w : Word) → Contains lists.items w ↔ SomeHasWord seqs w)
    (λ lists is w. subst (λ ls. Contains ls w ↔ InSome seqs (map Some w)) (sym is) (all-windows seqs (sym c.some_has_unbounded.ensures ∙ c.if-some_has_unbounded.false) w))
    c.distinct.result c.distinct.ensures.lists
