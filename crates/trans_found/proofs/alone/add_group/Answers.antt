use Rattle.std.proofs.Common.{◌++◌, map, ap, sym, ◌∙◌, arith}
use Rattle.std.proofs.lemmas.List.{take_all}
use Rattle.trans_found.proofs.AloneLemmas.{behind-two}
use Rattle.trans_found.proofs.alone.add_group.Goals as goal

pub returns : goal.returns
returns c =
    let first = c.args.first.now in
    let tail = c.args.tail.now in
    let group = c.args.group.now in
    let old = c.args.lists.now.items in
    c.loop-rest.invariant
    ∙ ap (λ l. old ++ map (λ rest. first ++ (tail ++ rest)) l) (take_all c.loop-rest.rest-index group (omega arith))
    ∙ ap (λ l. old ++ l) (sym (behind-two first tail group))
