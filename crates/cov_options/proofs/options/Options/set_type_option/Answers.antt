use Rattle.std.proofs.Common.{◌≡◌, ℕ, List, refl, sym, false, true, ap}
use Rattle.std.specs.Prelude.{None, codes}
use Rattle.std.specs.Str.{bytes_eq}
use Rattle.cov_options.specs.Table.{row_of, answer_of, after_of}
use Rattle.cov_options.proofs.options.Options.set_type_option.Goals as goal

-- the name is none of those known
unknown : (name : List ℕ) → bytes_eq name (codes "weight") ≡ false → bytes_eq name (codes "goal") ≡ false → bytes_eq name (codes "comment") ≡ false → bytes_eq name (codes "strobe") ≡ false → bytes_eq name (codes "merge_instances") ≡ false → bytes_eq name (codes "distribute_first") ≡ false → row_of true name ≡ None
unknown name e0 e1 e2 e3 e4 e5 = rw (e0, e1, e2, e3, e4, e5) refl

pub returns-clause-answer : goal.returns-clause-answer
returns-clause-answer c = sym (ap (λ row. answer_of row c.args.self.now c.args.level c.args.value) (unknown c.args.name.now (sym c.if-eq.ensures) (sym c.if-eq-2.ensures) (sym c.if-eq-3.ensures) (sym c.if-eq-4.ensures) (sym c.if-eq-5.ensures) (sym c.if-eq-6.ensures)))

pub returns-clause-after : goal.returns-clause-after
returns-clause-after c = sym (ap (λ row. after_of row c.args.self.now c.args.level c.args.value) (unknown c.args.name.now (sym c.if-eq.ensures) (sym c.if-eq-2.ensures) (sym c.if-eq-3.ensures) (sym c.if-eq-4.ensures) (sym c.if-eq-5.ensures) (sym c.if-eq-6.ensures)))
