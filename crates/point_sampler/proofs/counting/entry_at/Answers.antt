use Rattle.std.proofs.Common.{length, sym}
use Rattle.std.proofs.lemmas.Bool.{eqb-true, eqb-false}
use Rattle.point_sampler.proofs.Taking.{plain_entry, listed_entry}
use Rattle.point_sampler.proofs.counting.entry_at.Goals as goal

pub returns-then-is_empty : goal.returns-then-is_empty
returns-then-is_empty c = λ bin is. plain_entry c.args.bins.now c.args.entries.now c.args.place bin c.requires.entries (eqb-true (length c.args.entries.now) 0 (sym c.if-is_empty.ensures)) c.requires.place is

pub returns : goal.returns
returns c = λ bin is. listed_entry c.args.bins.now c.args.entries.now c.args.place bin _ c.requires.entries (eqb-false (length c.args.entries.now) 0 (sym c.if-is_empty.ensures)) c.requires.place is
