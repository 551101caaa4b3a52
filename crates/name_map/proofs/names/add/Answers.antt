use Rattle.std.proofs.Common.{◌≡◌, List, ℕ, sym, subst, false, ◌∙◌}
use Rattle.std.specs.Prelude.{is_some}
use Rattle.name_map.specs.Names.{meaning_of}
use Rattle.name_map.proofs.Named.{insert_absent, absent_is}
use Rattle.name_map.proofs.names.add.Goals as goal

pub returns-clause-added : goal.returns-clause-added
returns-clause-added g c =
    let here : is_some (meaning_of c.args.map.now.entries c.as_slice.result.now) ≡ false = absent_is c.found.result (meaning_of c.args.map.now.entries c.as_slice.result.now) c.found.ensures (sym c.is_some.ensures ∙ c.if-is_some.false) in
    let absent = subst (λ (n : List ℕ). is_some (meaning_of c.args.map.now.entries n) ≡ false) c.as_slice.ensures here in
    c.in_ok-insert.ensures.entries ∙ insert_absent c.args.map.now.entries c.args.name c.args.meaning absent
