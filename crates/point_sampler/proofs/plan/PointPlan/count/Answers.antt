use Rattle.std.proofs.Common.{subst, length, None}
use Rattle.std.specs.Prelude.{Option, IfSome}
use Rattle.const_eval.specs.Terms.{typ_of}
use Rattle.point_tables.specs.declared.tables.Lookup.{Lookup}
use Rattle.point_sampler.specs.Quick.{HasKeys}
use Rattle.point_tables.specs.Tables.{IsLookupOf}
use Rattle.point_sampler.proofs.Raising.{same_lookup, keyed, quick_room, quick_once, quick_stands, quick_others}
use Rattle.point_sampler.proofs.plan.PointPlan.count.Goals as goal

pub places_of-requires : goal.places_of-requires
places_of-requires c =
    let quick = c.requires.quick in
    let expr = c.args.expr.now in
    let env = c.args.env.now in
    keyed c.in-Some.lookup expr env c.eval-value.result
    (subst (λ (l : Lookup). HasKeys l (typ_of expr)) (same_lookup c.args.self.now.lookup quick.lookup c.in-Some.lookup quick.is_lookup c.in-Some.is) quick.keys)
    c.eval-value.ensures (λ number e. c.known_values_are_of_their_type.ensures expr env None number e)

pub raise_each-requires-clause-within : goal.raise_each-requires-clause-within
raise_each-requires-clause-within c =
    let plan = c.args.self.now in
    let quick = c.requires.quick in
    let room = c.requires.room in
    quick_room room.item plan room.is_plan quick.still quick.plain c.eval-value.result c.places_of.result.now
    (c.places_of.ensures room.item.bins (subst (λ (o : Option Lookup). IfSome o (IsLookupOf room.item.bins)) c.in-Some.is room.is_plan.lookup))
    c.args.first_bin (length c.args.counts.now) room.first room.room

pub raise_each-requires-clause-once : goal.raise_each-requires-clause-once
raise_each-requires-clause-once c =
    let plan = c.args.self.now in
    let quick = c.requires.quick in
    let room = c.requires.room in
    quick_once room.item plan room.is_plan quick.still quick.plain c.eval-value.result c.places_of.result.now
    (c.places_of.ensures room.item.bins (subst (λ (o : Option Lookup). IfSome o (IsLookupOf room.item.bins)) c.in-Some.is room.is_plan.lookup))

pub returns-clause-stands : goal.returns-clause-stands
returns-clause-stands c = λ item all m state is_plan first unguarded sample h.
    let plan = c.args.self.now in
    let quick = c.requires.quick in
    quick_stands item plan is_plan quick.still quick.plain c.eval-value.result c.places_of.result.now
    (c.places_of.ensures item.bins (subst (λ (o : Option Lookup). IfSome o (IsLookupOf item.bins)) c.in-Some.is is_plan.lookup))
    c.args.env.now c.args.expr.now all m state c.args.first_bin c.args.counts.now c.raise_each.new.counts c.eval-value.ensures first unguarded sample c.raise_each.ensures h

pub returns-clause-others : goal.returns-clause-others
returns-clause-others c = λ item is_plan first number outside.
    let plan = c.args.self.now in
    let quick = c.requires.quick in
    quick_others item plan is_plan quick.still quick.plain c.eval-value.result c.places_of.result.now
    (c.places_of.ensures item.bins (subst (λ (o : Option Lookup). IfSome o (IsLookupOf item.bins)) c.in-Some.is is_plan.lookup))
    c.args.first_bin c.args.counts.now c.raise_each.new.counts first c.raise_each.ensures number outside
