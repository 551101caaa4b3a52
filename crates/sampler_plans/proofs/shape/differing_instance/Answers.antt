use Rattle.std.proofs.Common.{ℕ, ◌+◌, List, take, map, length, get_or, ◌<◌, arith, ◌≡◌, ◌∙◌, refl, subst, sym}
use Rattle.design_data.specs.declared.infos.InstInfo.{InstInfo}
use Rattle.design_data.specs.declared.infos.GroupInfo.{GroupInfo}
use Rattle.record_codec.specs.declared.record.InstRow.{InstRow}
use Rattle.cov_counting.specs.Tables.{instance_row}
use Rattle.sampler_plans.specs.Shape.{FirstDiffering}
use Rattle.sampler_plans.proofs.Tables.{row_more, goes_on}
use Rattle.sampler_plans.proofs.shape.differing_instance.Goals as goal

-- one instance more, where its row is the instance's
more : (version : ℕ) (groups its_groups : List GroupInfo) (instances its_instances : List InstInfo) (rows : List InstRow) (at : ℕ) (inst : InstInfo) (row : InstRow) → its_groups ≡ groups → its_instances ≡ instances
    → at < length its_instances → at < length rows → inst ≡ get_or its_instances at inst → row ≡ get_or rows at row → row ≡ instance_row version its_groups inst
    → take at rows ≡ take at (map (instance_row version groups) instances) → take (at + 1) rows ≡ take (at + 1) (map (instance_row version groups) instances)
more version groups its_groups instances its_instances rows at inst row g i lt within is row-is same before =
    rw (sym g, sym i) (row_more (instance_row version its_groups) its_instances rows at inst row lt within is (sym row-is ∙ same) (rw (g, i) before))

pub loop-at-preserved : goal.loop-at-preserved
loop-at-preserved c = record {
  same = more c.args.version c.args.design.now.groups c.groups-groups.result.now c.args.design.now.instances c.instances-instances.result.now c.args.rows.now c.loop-at.at c.index-instances-at.result c.index-rows-at.result
      c.groups-groups.ensures c.instances-instances.ensures c.loop-at-test.true (omega arith) c.index-instances-at.is c.index-rows-at.is (c.if-not-is_instance.ensures.0 refl) c.loop-at.invariant.same;
  within = omega arith;
}

ends : (version : ℕ) (groups : List GroupInfo) (instances its_instances : List InstInfo) (rows : List InstRow) → its_instances ≡ instances → length its_instances < length rows
    → take (length its_instances) rows ≡ take (length its_instances) (map (instance_row version groups) instances) → FirstDiffering rows (map (instance_row version groups) instances) (length its_instances)
ends version groups instances its_instances rows i longer before =
    rw (sym i) (goes_on (instance_row version groups) its_instances rows longer (subst (λ (xs : List InstInfo). take (length its_instances) rows ≡ take (length its_instances) (map (instance_row version groups) xs)) (sym i) before))

pub returns-then-rows-instances-clause-place : goal.returns-then-rows-instances-clause-place
returns-then-rows-instances-clause-place c =
    let all : c.loop-at.at ≡ length c.instances-instances.result.now = omega arith in
    ends c.args.version c.args.design.now.groups c.args.design.now.instances c.instances-instances.result.now c.args.rows.now c.instances-instances.ensures c.if-rows-instances.true
    (subst (λ (n : ℕ). take n c.args.rows.now ≡ take n (map (instance_row c.args.version c.args.design.now.groups) c.args.design.now.instances)) all c.loop-at.invariant.same)
