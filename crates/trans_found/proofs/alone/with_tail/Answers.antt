use Rattle.std.proofs.Common.{◌++◌, List, [], ◌∷◌, ap, ◌∙◌, arith}
use Rattle.trans_found.specs.Found.{packed}
use Rattle.trans_found.specs.Alone.{ahead, behind}
use Rattle.trans_found.proofs.News.{Word}
use Rattle.trans_found.proofs.AloneLemmas.{packed_more}
use Rattle.trans_found.proofs.alone.with_tail.Goals as goal

pub loop-group-preserved : goal.loop-group-preserved
loop-group-preserved c =
    let items = c.args.items.now in
    let tail = c.args.tail.now in
    let f : List Word → List Word = λ group. ahead items (behind tail group) in
    let group = c.group-item.result in
    packed_more f c.loop-group.made.items c.add_some.new.groups.items c.args.groups.now c.loop-group.group-index group (omega arith) c.group-item.is c.loop-group.invariant
    (c.in_ok-add_some.ensures ∙ ap (λ l. c.loop-group.made.items ++ packed (l ∷ [])) (c.in_ok-lists.ensures ∙ ap f c.as_slice.ensures))
