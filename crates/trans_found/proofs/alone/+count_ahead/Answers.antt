use Rattle.std.proofs.Common.{◌≡◌, ◌∷◌, ◌^◌, ◌-◌, ◌∙◌, arith}
use Rattle.trans_found.proofs.ListingLemmas.{others, split}
use Rattle.trans_found.proofs.AloneLemmas.{count-item}
use Rattle.trans_found.proofs.alone.+count_ahead.Goals as goal

pub returns-in-len1-up : goal.returns-in-len1-up
returns-in-len1-up t c =
    let items = c.args.items.now in
    let item = c.item-item.result in
    let parts : items ≡ item ∷ others items = split items item (omega arith) c.item-item.is in
    c.saturating_mul.ensures ∙ count-item items (others items) item c.args.lists c.count.result c.count_ahead.result (2 ^ 128 - 1) parts c.count.ensures.value c.count_ahead.ensures
