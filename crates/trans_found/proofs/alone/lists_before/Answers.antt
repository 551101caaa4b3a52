use Rattle.std.proofs.Common.{◌++◌, ap, ◌∙◌}
use Rattle.trans_found.specs.Alone.{ahead, behind}
use Rattle.trans_found.proofs.AloneLemmas.{behind-none}
use Rattle.trans_found.proofs.alone.lists_before.Goals as goal

pub returns : goal.returns
returns c =
    let lists = ahead c.args.items.now (behind c.args.tail.now c.args.group.now) in
    c.in_ok-add_lists.ensures.lists
    ∙ ap (λ l. l ++ behind c.new-first.result.items lists) c.new-lists.ensures.items
    ∙ behind-none c.new-first.result.items lists c.new-first.ensures.items
