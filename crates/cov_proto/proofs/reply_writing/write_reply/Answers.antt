use Rattle.std.proofs.Common.{◌+◌, arith, refl, ◌∙◌}
use Rattle.cov_proto.proofs.Sizes.{whole_frame}
use Rattle.cov_proto.proofs.reply_writing.write_reply.Goals as goal

pub returns-clause-items : goal.returns-clause-items
returns-clause-items c =
    whole_frame c.args.reply.now (c.body_size-size.result + 9) c.args.out.now.items c.append.new.out.items c.append_tagged.new.out.items c.append_body.new.out.items
    (omega (arith, c.body_size-size.ensures))
    (c.append.ensures.items ∙ rw c.to_be_bytes.ensures refl)
    (c.append_tagged.ensures.items ∙ rw (c.body_tag.ensures, c.to_be_bytes-2.ensures) refl)
    c.append_body.ensures.items
