use Rattle.std.proofs.Common.{ℕ, ◌≡◌, arith, rules}
use Rattle.std.specs.Prelude.{Ok, Err}
use Rattle.cov_net.specs.Calls.{IsInterrupted, most_calls}
use Rattle.cov_net.proofs.Passing.{passed_more, first, tired}
use Rattle.cov_net.proofs.again.read_again.Goals as goal

pub returns-in-Ok-clause-answer : goal.returns-in-Ok-clause-answer
returns-in-Ok-clause-answer g c =
    first IsInterrupted g.R.ReadCall.reads c.loop-tried.tried (c.args.reader.now, c.args.into.now) (c.loop-tried.reader, c.loop-tried.into) (c.call_read.new.self, c.call_read.new.into) (Ok c.in-Ok.count) c.loop-tried.invariant.passed c.in-Ok.ensures.reads tt

pub returns-in-Err-2-clause-answer : goal.returns-in-Err-2-clause-answer
returns-in-Err-2-clause-answer g c =
    first IsInterrupted g.R.ReadCall.reads c.loop-tried.tried (c.args.reader.now, c.args.into.now) (c.loop-tried.reader, c.loop-tried.into) (c.call_read.new.self, c.call_read.new.into) (Err c.in-Err.error) c.loop-tried.invariant.passed c.in-Err.ensures.reads (search rules)

pub loop-tried-preserved : goal.loop-tried-preserved
loop-tried-preserved g c = record {
  room = search rules;
  kept = search rules;
  passed = passed_more IsInterrupted g.R.ReadCall.reads c.loop-tried.tried (c.args.reader.now, c.args.into.now) (c.loop-tried.reader, c.loop-tried.into) (c.call_read.new.self, c.call_read.new.into) c.in-Err.error c.loop-tried.invariant.passed (search rules) c.in-Err.ensures.reads;
}

pub returns-clause-answer : goal.returns-clause-answer
returns-clause-answer g c =
    let all : c.loop-tried.tried ≡ most_calls = search rules in
    tired IsInterrupted g.R.ReadCall.reads c.loop-tried.tried (c.args.reader.now, c.args.into.now) (c.loop-tried.reader, c.loop-tried.into) c.from.result all c.loop-tried.invariant.passed
