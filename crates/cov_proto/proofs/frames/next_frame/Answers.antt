use Rattle.std.proofs.Common.{inl, inr, arith}
use Rattle.cov_proto.proofs.Heads.{torn, framed, bad}
use Rattle.cov_proto.proofs.frames.next_frame.Goals as goal

pub returns-in_default : goal.returns-in_default
returns-in_default c = inl c.in_default.ensures

pub returns-then-len-eq0 : goal.returns-then-len-eq0
returns-then-len-eq0 c = bad c.in-Some.len c.args.bytes.now c.in-Some.rest.now c.in-Some.ensures.1 (inl c.if-len-eq0.true)

pub returns-then-len-gt-LONGEST_BODY : goal.returns-then-len-gt-LONGEST_BODY
returns-then-len-gt-LONGEST_BODY c = bad c.in-Some.len c.args.bytes.now c.in-Some.rest.now c.in-Some.ensures.1 (inr c.if-len-gt-LONGEST_BODY.true)

pub returns-then-rest-len : goal.returns-then-rest-len
returns-then-rest-len c = torn c.in-Some.len c.args.bytes.now c.in-Some.rest.now c.in-Some.ensures.1 (omega arith) (omega arith) (omega arith)

pub returns-else-rest-len : goal.returns-else-rest-len
returns-else-rest-len c = framed c.in-Some.len c.args.bytes.now c.in-Some.rest.now c.in-Some.ensures.1 (omega arith) (omega arith) (omega arith)
