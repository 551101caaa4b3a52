use Rattle.std.proofs.Common.{◌∙◌, sym}
use Rattle.store_parts.proofs.Excluding.{out_flag}
use Rattle.merge_store.proofs.store.Store.is_out.Goals as goal

pub returns : goal.returns
returns c = c.is_out.ensures ∙ sym (out_flag c.args.self.now.keeps c.args.node)
