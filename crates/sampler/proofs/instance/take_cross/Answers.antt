use Rattle.std.proofs.Common.{◌+◌, List, ℕ, sym, subst}
use Rattle.std.specs.List.{AllByRecursion}
use Rattle.design_data.specs.declared.infos.ItemShape.{ItemShape}
use Rattle.sampler.specs.Standing.{IsChosen, IsCovered, Stands, CrossStands, point_first}
use Rattle.sampler.proofs.instance.take_cross.Goals as goal

pub returns-in_ok-cross_taken-in-Cross-clause-taken : goal.returns-in_ok-cross_taken-in-Cross-clause-taken
returns-in_ok-cross_taken-in-Cross-clause-taken c = λ all m chosen sample own rows h.
    let items = c.args.items.now in
    let item = c.args.item.now in
    let is = c.in-Cross.is in
    let mine = subst (IsCovered chosen) is own in
    let axes = subst (λ (xs : List ℕ). AllByRecursion (IsChosen chosen) xs) (sym c.as_slice.ensures) mine in
    let stand = subst (λ (shape : ItemShape). Stands items item all (point_first shape m) shape c.args.plan.now c.args.state.now c.args.counts.now) is h in
    let before = subst (λ (xs : List ℕ). CrossStands items item xs all m c.args.state.now c.args.counts.now) (sym c.as_slice.ensures) stand in
    let taken = c.in_ok-cross_taken-in-Cross.ensures.taken all m chosen sample axes rows before in
    let after = subst (λ (xs : List ℕ). CrossStands items item xs all (m + 1) c.cross_taken.new.state c.cross_taken.new.counts) c.as_slice.ensures taken.cross_stands in
    record {
      stands = subst (λ (shape : ItemShape). Stands items item all (m + 1) shape c.args.plan.now c.cross_taken.new.state c.cross_taken.new.counts) (sym is) after;
      others = taken.cross_others;
    }
