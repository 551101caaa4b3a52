use Rattle.std.proofs.Common.{◌∷◌, [], refl, ◌∙◌}
use Rattle.std.specs.Int.{w64, to_be_bytes}
use Rattle.cov_proto.specs.Spelled.{text, test_row}
use Rattle.cov_proto.proofs.Sizes.{seven}
use Rattle.cov_proto.proofs.reply_writing.append_test_row.Goals as goal

pub returns-clause-items : goal.returns-clause-items
unfolding test_row
returns-clause-items c =
    let r = c.args.row.now in
    seven c.args.out.now.items (to_be_bytes w64 r.point) (r.status ∷ []) (to_be_bytes w64 r.seed) (to_be_bytes w64 r.time) r.digest (text r.id) (text r.user)
    c.append_u64_and.new.out.items c.append_u64_and-2.new.out.items c.append.new.out.items c.append_text.new.out.items c.append_text-2.new.out.items
    c.append_u64_and.ensures.items (c.append_u64_and-2.ensures.items ∙ rw c.to_be_bytes.ensures refl) c.append.ensures.items c.append_text.ensures.items c.append_text-2.ensures.items
