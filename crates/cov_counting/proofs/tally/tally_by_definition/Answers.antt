use Rattle.std.proofs.Common.{◌≡◌, ◌+◌, ◌<◌, ◌≤◌, List, ℕ, length, drop, inl, inr, subst, sym, ap, ◌∙◌, arith}
use Rattle.std.specs.Prelude.{slice_get, slice_index}
use Rattle.std.proofs.lemmas.Bool.{cases_lt}
use Rattle.std.proofs.lemmas.List.{drop_all}
use Rattle.design_data.specs.declared.infos.InstInfo.{InstInfo}
use Rattle.design_data.specs.declared.infos.GroupInfo.{GroupInfo}
use Rattle.design_data.specs.Bins.{bins_in, items_of_group, items_from, IsNumberedFrom}
use Rattle.design_data.specs.Limits.{IsInstance}
use Rattle.record_codec.specs.Samples.{samples_of}
use Rattle.cov_counting.specs.Tallies.{IsCount}
use Rattle.cov_counting.specs.Steps.{Extends, AreInstances}
use Rattle.cov_counting.proofs.Bins.{each_at}
use Rattle.cov_counting.proofs.Done.{length_more, numbered_front, numbered_back, bins_in-append, items_stay, groups_from}
use Rattle.cov_counting.proofs.Items.{instances}
use Rattle.cov_counting.proofs.tally.tally_by_definition.Goals as goal

pub loop-group-init : goal.loop-group-init
loop-group-init c =
    let d = c.args.design.now in
    let none : length c.new-counts.result ≡ 0 = ap length c.new-counts.ensures in
    record {
      next = subst (λ (n : ℕ). IsNumberedFrom n (items_from d.instances 0 d.groups)) (sym none) d.within.numbered;
      size = omega (arith, none, d.within.count);
      done = λ k inst is lt. absurd (omega (arith, lt));
    }

pub add_group-requires : goal.add_group-requires
add_group-requires c =
    let d = c.args.design.now in
    let g = c.loop-group.group in
    let lt : g < length d.groups = omega (arith, c.loop-group-test.true, ap length c.groups-group-end.ensures) in
    record {
      each = subst AreInstances (sym c.instances.ensures) (instances d);
      next = subst (λ (x : List InstInfo). IsNumberedFrom (length c.loop-group.counts) (items_of_group x g)) (sym c.instances.ensures)
          (numbered_front (length c.loop-group.counts) (items_of_group d.instances g) (items_from d.instances (g + 1) (drop (g + 1) d.groups)) (subst (IsNumberedFrom (length c.loop-group.counts)) (groups_from d.instances d.groups g lt) c.loop-group.invariant.next));
    }

pub loop-group-preserved : goal.loop-group-preserved
loop-group-preserved c =
    let inv = c.loop-group.invariant in
    let d = c.args.design.now in
    let g = c.loop-group.group in
    let a = c.loop-group.counts in
    let b = c.add_group.new.counts in
    let lt : g < length d.groups = omega (arith, c.loop-group-test.true, ap length c.groups-group-end.ensures) in
    let here = items_of_group d.instances g in
    let rest = items_from d.instances (g + 1) (drop (g + 1) d.groups) in
    let split = groups_from d.instances d.groups g lt in
    let ext : Extends a b (bins_in here) = subst (λ (x : List InstInfo). Extends a b (bins_in (items_of_group x g))) c.instances.ensures c.in_ok-add_group.ensures.extends in
    let len : length b ≡ length a + bins_in here = length_more a b (bins_in here) ext in
    record {
      next = subst (λ (n : ℕ). IsNumberedFrom n rest) (sym len) (numbered_back (length a) here rest (subst (IsNumberedFrom (length a)) split inv.next));
      size = omega (arith, len, inv.size, ap bins_in split, bins_in-append here rest);
      done = λ k inst is less. elim (cases_lt inst.group g) [
        | inl lower ↦ items_stay inst.items (samples_of c.args.record.now k) a b (bins_in here) (inv.done k inst is lower) ext
        | inr ge ↦ let same : inst.group ≡ g = omega (arith, ge, less) in c.in_ok-add_group.ensures.done k inst (ap (λ (x : List InstInfo). slice_get x k) c.instances.ensures ∙ is) same
      ];
    }

pub returns : goal.returns
returns c =
    let inv = c.loop-group.invariant in
    let d = c.args.design.now in
    let g = c.loop-group.group in
    let counts = c.loop-group.counts in
    let le : length d.groups ≤ g = omega (arith, c.loop-group-test.false, ap length c.groups-group-end.ensures) in
    let none : bins_in (items_from d.instances g (drop g d.groups)) ≡ 0 = ap (λ (x : List GroupInfo). bins_in (items_from d.instances g x)) (drop_all g d.groups le) in
    record {
      same = omega (arith, inv.size, none);
      at = λ instance inst item bin number b.
          let valid = each_at (IsInstance (length d.groups)) d.instances instance inst d.within.each b.is_instance in
          let done = inv.done instance inst b.is_instance (omega (arith, valid.group, le)) b.item_index item b.is_item in
          subst (λ (n : ℕ). IsCount inst.items item bin (samples_of c.args.record.now instance) (slice_index counts n)) (sym b.is_number) (done.at b.bin_index bin b.is_bin);
    }
