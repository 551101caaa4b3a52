use Rattle.std.proofs.Common.{◌≡◌, length, sym, subst, arith}
use Rattle.std.proofs.lemmas.Bool.{eqb-true}
use Rattle.const_eval.specs.Typs.{Typ}
use Rattle.point_sampler.specs.Quick.{HasKeys}
use Rattle.point_sampler.proofs.Raising.{empty_list}
use Rattle.point_sampler.proofs.plan.PointPlan.is_quick.Goals as goal

pub returns-in-Some : goal.returns-in-Some
returns-in-Some c = λ yes.
    let entries = c.args.self.now.entries in
    let empty : entries.len ≡ 0 = eqb-true entries.len 0 (sym c.if-not-is_empty.ensures) in
    let none : length entries.items ≡ 0 = omega (arith, empty, entries.ok.0) in
    record {
      still = c.is_still.ensures c.if-not-is_still.false;
      plain = empty_list c.args.self.now.entries.items none;
      lookup = c.in-Some.lookup;
      is_lookup = c.in-Some.is;
      keys = subst (λ (typ : Typ). HasKeys c.in-Some.lookup typ) c.typ.ensures (c.has_keys.ensures yes);
    }
