use Rattle.std.proofs.Common.{Option, ℤ, sym, subst}
use Rattle.point_tables.specs.Tables.{AreResting}
use Rattle.point_tables.proofs.entrances.first_stirring.Goals as goal

pub returns-in-None-clause-rest : goal.returns-in-None-clause-rest
returns-in-None-clause-rest c =
    subst (λ (v : Option ℤ). AreResting c.args.entrances.now c.args.runs.now v c.args.from c.first_at_unknown.result) (sym c.in-None.is) c.first_at_unknown.ensures.rest

pub returns-in-Some-clause-rest : goal.returns-in-Some-clause-rest
returns-in-Some-clause-rest c =
    subst (λ (v : Option ℤ). AreResting c.args.entrances.now c.args.runs.now v c.args.from c.first_at.result) (sym c.in-Some.is) (c.first_at.ensures.rest c.in-Some.number c.key_of.ensures)
