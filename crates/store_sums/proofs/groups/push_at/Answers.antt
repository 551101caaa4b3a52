use Rattle.store_sums.proofs.Grouping.{put_list}
use Rattle.store_sums.proofs.groups.push_at.Goals as goal

pub returns : goal.returns
returns c = put_list c.args.lists.now.items c.args.place c.args.bin c.index_mut.result.now c.push.new.self c.requires c.index_mut.ensures.value c.in_ok-push.ensures.items
