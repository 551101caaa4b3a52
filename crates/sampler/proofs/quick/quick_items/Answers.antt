use Rattle.std.proofs.Common.{◌≡◌, ◌+◌, ◌<◌, ◌∙◌, ℕ, List, [], ◌∷◌, ◌++◌, length, Some, ap, sym, subst, arith, length-append}
use Rattle.std.specs.Prelude.{Option, IfSome, slice_get}
use Rattle.sampler.specs.declared.lists.QuickItem.{QuickItem}
use Rattle.sampler.specs.Quick.{IsQuickItem}
use Rattle.sampler.proofs.Items.{read_at}
use Rattle.sampler.proofs.Ready.{Quicks, quicks_more, kept_then}
use Rattle.sampler.proofs.quick.quick_items.Goals as goal

pub loop-i-preserved : goal.loop-i-preserved
loop-i-preserved c =
    let items = c.args.items.now in
    let plans = c.args.plans.now in
    let chosen = c.args.chosen.now in
    let i = c.loop-i.i in
    let t = c.chosen_at-t.result in
    let item = c.index-items-t.result in
    let p = c.index-plans-t.result in
    let start = c.args.exprs.now.items in
    let old = c.loop-i.exprs.items in
    let new = c.quick_item.new.exprs.items in
    let list = c.loop-i.list.items in
    let one = c.in-Some.quick in
    let inv = c.loop-i.invariant in
    let lt : t < length items = c.chosen_at-t.ensures.within in
    let at_item : slice_get items t ≡ Some item = read_at items t item lt c.index-items-t.is in
    let at_plan : slice_get plans t ≡ Some p = read_at plans t p (omega (arith, lt, c.requires.plans)) c.index-plans-t.is in
    let pushed : c.push.new.self.items ≡ list ++ one ∷ [] = c.in_ok-push.ensures.items in
    record {
      same = ap (λ (xs : List QuickItem). length xs) pushed ∙ (length-append list (one ∷ []) ∙ ap (λ (n : ℕ). n + 1) inv.same);
      quick = subst (λ (xs : List QuickItem). Quicks new items plans chosen xs) (sym pushed)
          (quicks_more old new items plans chosen list one i t item p c.in_ok-quick.ensures.kept inv.same c.chosen_at-t.ensures.at at_item at_plan (subst (λ (made : Option QuickItem). IfSome made (IsQuickItem new item p)) c.in-Some.is c.in_ok-quick.ensures.quick) inv.quick);
      kept = kept_then start old new inv.kept c.in_ok-quick.ensures.kept;
    }
