use Rattle.std.proofs.Common.{◌≡◌, ◌<◌, List, [], ◌∷◌, ◌++◌, length, ap, sym, ◌∙◌, arith}
use Rattle.std.specs.Prelude.{ℤ}
use Rattle.cov_base.specs.Sets.{written}
use Rattle.trans_found.specs.Alone.{ahead, behind}
use Rattle.trans_found.proofs.News.{Word}
use Rattle.trans_found.proofs.FoundLemmas.{value_at, none_at, popped}
use Rattle.trans_found.proofs.ListingLemmas.{others, split}
use Rattle.trans_found.proofs.HeldLemmas.{on-ok, behind-each}
use Rattle.trans_found.proofs.AloneLemmas.{added_part}
use Rattle.trans_found.proofs.alone.+add_lists.Goals as goal
use Rattle.trans_found.proofs.alone.+add_lists.Goals.{add_numbers-in-Some+in_ok-push+in_ok-add_lists, add_numbers-in_default}

pub add_lists-returns-in-len1-up-clause-lists : goal.add_lists-returns-in-len1-up-clause-lists
add_lists-returns-in-len1-up-clause-lists t c =
    let items = c.args.items.now in
    let item = c.item-item.result in
    let first = c.args.first.now.items in
    let lists = behind c.args.tail.now c.args.group.now in
    let parts : items ≡ item ∷ others items = split items item (omega arith) c.item-item.is in
    on-ok _ _ (λ h. h ∙ ap (λ l. c.args.lists.now.items ++ l) (behind-each first (written item.set) (ahead (others items) lists) ∙ ap (λ l. behind first (ahead l lists)) (sym parts))) c.add_numbers.result c.add_numbers.ensures.lists

pub add_numbers-loop-k-preserved : goal.add_numbers-loop-k-preserved
add_numbers-loop-k-preserved t c =
    let numbers = written c.args.set.now in
    let first = c.args.first.now.items in
    let lists = ahead c.args.rest.now (behind c.args.tail.now c.args.group.now) in
    let k = c.loop-k.k in
    let within : k < length numbers = omega (arith, c.count-k-end.ensures.value, c.loop-k-test.true) in
    elim c.match-nth.branch [
      | add_numbers-in-Some+in_ok-push+in_ok-add_lists w ↦
          let v = w.in-Some.value in
          let g : ℤ → List Word = λ v. behind (first ++ v ∷ []) lists in
          let pushed : w.push.new.self.items ≡ first ++ v ∷ [] = w.in_ok-push.ensures.items ∙ ap (λ f. f ++ v ∷ []) c.loop-k.invariant.first in
          let more : w.add_lists.new.lists.items ≡ c.loop-k.lists.items ++ g v = w.in_ok-add_lists.ensures.lists ∙ ap (λ f. c.loop-k.lists.items ++ behind f lists) pushed in
          record {
            first = ap (λ f. f.items) w.first-is ∙ popped first v w.add_lists.new.first.items w.pop.new.self.items w.add_lists.new.first.len w.pop.ensures.rest w.add_lists.new.first.ok.0 (w.in_ok-add_lists.ensures.first ∙ pushed);
            added = ap (λ l. l.items) w.lists-is ∙ added_part g c.args.lists.now.items c.loop-k.lists.items w.add_lists.new.lists.items numbers k v within (value_at numbers k v w.in-Some.ensures) c.loop-k.invariant.added more;
          }
      | add_numbers-in_default w ↦ absurd (none_at numbers k within (sym w.in_default.is ∙ c.nth.ensures))
    ]
