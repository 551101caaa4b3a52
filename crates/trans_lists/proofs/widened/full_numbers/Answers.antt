use Rattle.std.proofs.Common.{◌≡◌, refl, ap, sym, subst, ◌∙◌, List}
use Rattle.std.specs.Prelude.{ℤ}
use Rattle.cov_base.specs.Sets.{written, is_in}
use Rattle.trans_found.specs.Held.{begun_by, HasAll, AreHeld}
use Rattle.trans_seq.proofs.Results.{if_ok}
use Rattle.trans_found.proofs.HeldLemmas.{has-none, has-same}
use Rattle.trans_lists.proofs.widened.full_numbers.Goals as goal

pub loop-k-init : goal.loop-k-init
loop-k-init c = record {
  first = refl;
  full = λ lists all. has-none lists c.args.first.now.items c.new-full.result.items c.args.items.now c.new-full.ensures.items;
}

pub loop-k-preserved : goal.loop-k-preserved
loop-k-preserved c =
    let items = c.args.items.now in
    let same = c.loop-k.invariant.first in
    record {
      first = c.in_ok-add_full.ensures.first ∙ same;
      full = λ lists all. subst (λ f. HasAll lists (begun_by f (written c.add_full.new.full.items) items)) same
          (c.in_ok-add_full.ensures.full lists all (subst (λ f. HasAll lists (begun_by f (written c.loop-k.full.items) items)) (sym same) (c.loop-k.invariant.full lists all)));
    }

pub returns-clause-full : goal.returns-clause-full
returns-clause-full c =
    let first = c.args.first.now.items in
    let items = c.args.items.now in
    if_ok (λ full. (v : ℤ) → is_in (written full) v ≡ is_in (written c.as_slice.result.now) v) (λ full. (lists : List (List ℤ)) → AreHeld c.args.known.now lists → HasAll lists (begun_by first (written full) items))
    (λ full each lists all. has-same lists first c.loop-k.full.items full items (λ v. each v ∙ ap (λ rs. is_in (written rs) v) c.as_slice.ensures.value) (c.loop-k.invariant.full lists all)) c.from_ranges.result c.from_ranges.ensures.numbers
