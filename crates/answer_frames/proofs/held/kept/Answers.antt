use Rattle.std.proofs.Common.{inl, inr, refl, sym, ◌∙◌, rules}
use Rattle.answer_frames.proofs.Writing.{held_writable, memory_writable, unheld_long, unheld}
use Rattle.answer_frames.proofs.held.kept.Goals as goal

pub returns-then-not-is_held-clause-kept : goal.returns-then-not-is_held-clause-kept
returns-then-not-is_held-clause-kept c = let no = sym c.is_held.ensures.held ∙ c.if-not-is_held.true in inr (refl, unheld_long c.args.answer no, unheld c.args.answer no)

pub returns-then-not-is_held-clause-writable : goal.returns-then-not-is_held-clause-writable
returns-then-not-is_held-clause-writable c = memory_writable

pub returns-clause-writable : goal.returns-clause-writable
returns-clause-writable c = let yes = c.if-not-is_held.false in held_writable c.args.answer (sym c.is_held.ensures.held ∙ yes) (c.is_held.ensures.digests yes)
