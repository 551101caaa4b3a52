use Rattle.std.proofs.Common.{◌≡◌, ℕ, List, refl, sym, false, ap}
use Rattle.std.specs.Prelude.{None, codes}
use Rattle.std.specs.Str.{bytes_eq}
use Rattle.cov_options.specs.Table.{row_of, answer_of, after_of}
use Rattle.cov_options.proofs.options.Options.set_option.Goals as goal

-- the name is none of those known
unknown : (name : List ℕ) → bytes_eq name (codes "weight") ≡ false → bytes_eq name (codes "goal") ≡ false → bytes_eq name (codes "name") ≡ false → bytes_eq name (codes "comment") ≡ false → bytes_eq name (codes "at_least") ≡ false → bytes_eq name (codes "detect_overlap") ≡ false → bytes_eq name (codes "auto_bin_max") ≡ false → bytes_eq name (codes "cross_num_print_missing") ≡ false → bytes_eq name (codes "per_instance") ≡ false → bytes_eq name (codes "get_inst_coverage") ≡ false → row_of false name ≡ None
unknown name e0 e1 e2 e3 e4 e5 e6 e7 e8 e9 = rw (e0, e1, e2, e3, e4, e5, e6, e7, e8, e9) refl

pub returns-clause-answer : goal.returns-clause-answer
returns-clause-answer c = sym (ap (λ row. answer_of row c.args.self.now c.args.level c.args.value) (unknown c.args.name.now (sym c.if-eq.ensures) (sym c.if-eq-2.ensures) (sym c.if-eq-3.ensures) (sym c.if-eq-4.ensures) (sym c.if-eq-5.ensures) (sym c.if-eq-6.ensures) (sym c.if-eq-7.ensures) (sym c.if-eq-8.ensures) (sym c.if-eq-9.ensures) (sym c.if-eq-10.ensures)))

pub returns-clause-after : goal.returns-clause-after
returns-clause-after c = sym (ap (λ row. after_of row c.args.self.now c.args.level c.args.value) (unknown c.args.name.now (sym c.if-eq.ensures) (sym c.if-eq-2.ensures) (sym c.if-eq-3.ensures) (sym c.if-eq-4.ensures) (sym c.if-eq-5.ensures) (sym c.if-eq-6.ensures) (sym c.if-eq-7.ensures) (sym c.if-eq-8.ensures) (sym c.if-eq-9.ensures) (sym c.if-eq-10.ensures)))
