-- Coverage is within the whole, and rises with the counts.
use Rattle.std.proofs.Common.{◌≡◌, ℕ, ◌≤◌, List, [], ◌∷◌, ◌++◌, length, map, Bool, true, false, cond, refl, ◌∙◌, arith, nat_le}
use Rattle.std.specs.Prelude.{fold, filter, max, count_by, sum_by, if◌then◌else◌}
use Rattle.std.proofs.lemmas.Bool.Decides.{nat_tests}
use Rattle.std.proofs.lemmas.List.Sums.{count_by-le-length, sum_by-le-sum_by}
use Rattle.percent.specs.Millionths.{whole}
use Rattle.design_data.specs.declared.design.Design.{Design}
use Rattle.record_codec.specs.declared.record.Record.{Record}
use Rattle.ucis_model.specs.declared.node.Node.{Node}
use Rattle.ucis_model.specs.declared.node.NodeKind.{NodeKind}
use Rattle.ucis_model.specs.declared.node.NodeKind.TheVariants.{Root, CoverGroup, CoverInstance, CoverPoint, Cross, Bin}
use Rattle.ucis_model.specs.Nodes.{nodes_of}
use Rattle.ucis_model.specs.Paths.{node_at}
use Rattle.cov_history.specs.declared.entry.Event.TheVariants.{Admit}
use Rattle.cov_history.specs.declared.entry.Entry.{Entry}
use Rattle.cov_history.specs.History.{design_of, count_of}
use Rattle.cov_history.specs.Nodes.{children}
use Rattle.cov_history.specs.Coverage.{is_excluded, live_under, count_at, at_least, is_covered, covered_under, item_coverage, has_live, instance_coverage, unexcluded, plain_coverage, once, bin_name, item_name, named, is_covered_as_one, merged_item, type_weight, merged_coverage, type_coverage, root_coverage, coverage_by, coverage}
use Rattle.cov_history.specs.Answers.{by, excluded_at}
use Rattle.cov_history.specs.Laws.{CoverageIsWithin, AdmissionsNeverLower}
use Rattle.cov_history.proofs.Bools.{by_bool}
use Rattle.cov_history.proofs.Means.{full_within, full_rises, mean_within, mean_rises}
use Rattle.cov_history.proofs.Snoc.{design_snoc, out_snoc, counts_snoc}

-- ---- within the whole

module _ (nodes : List Node) (count : ℕ → ℕ) (excluded : ℕ → Bool) where
  weight : ℕ → ℕ
  weight m = (node_at nodes m).weight

  covered_within : (n : ℕ) → covered_under nodes count excluded n ≤ length (live_under nodes excluded n)
  covered_within n = count_by-le-length (is_covered nodes count) (live_under nodes excluded n)

  item_within : (n : ℕ) → item_coverage nodes count excluded n ≤ whole
  unfolding item_coverage
  item_within n = full_within (covered_under nodes count excluded n) (length (live_under nodes excluded n)) (covered_within n)

  instance_within : (n : ℕ) → instance_coverage nodes count excluded n ≤ whole
  unfolding instance_coverage weight
  instance_within n = mean_within weight (item_coverage nodes count excluded) item_within (filter (has_live nodes excluded) (children nodes n))

  plain_within : (n : ℕ) → plain_coverage nodes count excluded n ≤ whole
  unfolding plain_coverage weight
  plain_within n = mean_within weight (instance_coverage nodes count excluded) instance_within (unexcluded nodes excluded n)

  merged_item_within : (bins : List ℕ) → merged_item nodes count bins ≤ whole
  merged_item_within bins =
      let names = once (map (bin_name nodes) bins) in
      let covered : List ℕ → Bool = λ name. is_covered_as_one nodes count (named (bin_name nodes) name bins) in
      full_within (count_by covered names) (length names) (count_by-le-length covered names)

  merged_within : (n : ℕ) → merged_coverage nodes count excluded n ≤ whole
  unfolding merged_coverage
  merged_within n =
      let bins = live_under nodes excluded n in
      mean_within (λ (name : List ℕ). type_weight nodes (named (item_name nodes) name bins)) (λ (name : List ℕ). merged_item nodes count (named (item_name nodes) name bins)) (λ name. merged_item_within (named (item_name nodes) name bins)) (once (map (item_name nodes) bins))

  either_within : (b : Bool) (a c : ℕ) → a ≤ whole → c ≤ whole → (if b then a else c) ≤ whole
  either_within true a c h k = h
  either_within false a c h k = k

  type_within : (n : ℕ) → type_coverage nodes count excluded n ≤ whole
  unfolding type_coverage
  type_within n = either_within (node_at nodes n).merge (merged_coverage nodes count excluded n) (plain_coverage nodes count excluded n) (merged_within n) (plain_within n)

  root_within : (n : ℕ) → root_coverage nodes count excluded n ≤ whole
  unfolding root_coverage weight
  root_within n = mean_within weight (type_coverage nodes count excluded) type_within (unexcluded nodes excluded n)

  kind_within : (kind : NodeKind) (n : ℕ) → coverage_by kind nodes count excluded n ≤ whole
  kind_within Root n = root_within n
  kind_within CoverGroup n = type_within n
  kind_within CoverInstance n = instance_within n
  kind_within CoverPoint n = item_within n
  kind_within Cross n = item_within n
  kind_within (Bin kind) n = item_within n

pub is_within : CoverageIsWithin
unfolding coverage
is_within nodes count excluded n = record {
  millionths = kind_within nodes count excluded (node_at nodes n).kind n;
  covered = covered_within nodes count excluded n;
}

-- ---- rising

le_more : (least a b : ℕ) → a ≤ b → nat_le least a ≡ true → nat_le least b ≡ true
le_more least a b le e = grind (arith, le, e, nat_tests)

count_more : {X : Type 0} (p q : X → Bool) → ((x : X) → p x ≡ true → q x ≡ true) → (xs : List X) → count_by p xs ≤ count_by q xs
count_more {X = X} p q more xs = sum_by-le-sum_by (λ (x : X). cond (p x) 1 0) (λ (x : X). cond (q x) 1 0) xs (λ x. by_bool (p x)
    (λ yes. let a : ◌≡◌ {A = ℕ} (cond (p x) 1 0) 1 = rw yes refl in let b : ◌≡◌ {A = ℕ} (cond (q x) 1 0) 1 = rw (more x yes) refl in omega (arith, a, b))
    (λ no. let a : ◌≡◌ {A = ℕ} (cond (p x) 1 0) 0 = rw no refl in omega (arith, a)))

module _ (nodes : List Node) (count more : ℕ → ℕ) (excluded : ℕ → Bool) (rises : (bin : ℕ) → count bin ≤ more bin) where
  pub covered_more : (n : ℕ) → is_covered nodes count n ≡ true → is_covered nodes more n ≡ true
  covered_more n e = le_more (at_least nodes n) (count_at nodes count n) (count_at nodes more n) (rises (node_at nodes n).first_bin) e

  item_rises : (n : ℕ) → item_coverage nodes count excluded n ≤ item_coverage nodes more excluded n
  unfolding item_coverage
  item_rises n = full_rises (covered_under nodes count excluded n) (covered_under nodes more excluded n) (length (live_under nodes excluded n)) (count_more (is_covered nodes count) (is_covered nodes more) covered_more (live_under nodes excluded n))

  instance_rises : (n : ℕ) → instance_coverage nodes count excluded n ≤ instance_coverage nodes more excluded n
  unfolding instance_coverage
  instance_rises n = mean_rises (λ m. (node_at nodes m).weight) (item_coverage nodes count excluded) (item_coverage nodes more excluded) item_rises (filter (has_live nodes excluded) (children nodes n))

  plain_rises : (n : ℕ) → plain_coverage nodes count excluded n ≤ plain_coverage nodes more excluded n
  unfolding plain_coverage
  plain_rises n = mean_rises (λ m. (node_at nodes m).weight) (instance_coverage nodes count excluded) (instance_coverage nodes more excluded) instance_rises (unexcluded nodes excluded n)

  as_one_more : (bins : List ℕ) → is_covered_as_one nodes count bins ≡ true → is_covered_as_one nodes more bins ≡ true
  as_one_more bins e = le_more (fold max 0 (map (at_least nodes) bins)) (sum_by (count_at nodes count) bins) (sum_by (count_at nodes more) bins) (sum_by-le-sum_by (count_at nodes count) (count_at nodes more) bins (λ m. rises (node_at nodes m).first_bin)) e

  merged_item_rises : (bins : List ℕ) → merged_item nodes count bins ≤ merged_item nodes more bins
  merged_item_rises bins =
      let names = once (map (bin_name nodes) bins) in
      let before : List ℕ → Bool = λ name. is_covered_as_one nodes count (named (bin_name nodes) name bins) in
      let after : List ℕ → Bool = λ name. is_covered_as_one nodes more (named (bin_name nodes) name bins) in
      full_rises (count_by before names) (count_by after names) (length names) (count_more before after (λ name. as_one_more (named (bin_name nodes) name bins)) names)

  merged_rises : (n : ℕ) → merged_coverage nodes count excluded n ≤ merged_coverage nodes more excluded n
  unfolding merged_coverage
  merged_rises n =
      let bins = live_under nodes excluded n in
      mean_rises (λ (name : List ℕ). type_weight nodes (named (item_name nodes) name bins)) (λ (name : List ℕ). merged_item nodes count (named (item_name nodes) name bins)) (λ (name : List ℕ). merged_item nodes more (named (item_name nodes) name bins))
      (λ name. merged_item_rises (named (item_name nodes) name bins)) (once (map (item_name nodes) bins))

  either_rises : (b : Bool) (a c d e : ℕ) → a ≤ d → c ≤ e → (if b then a else c) ≤ (if b then d else e)
  either_rises true a c d e h k = h
  either_rises false a c d e h k = k

  type_rises : (n : ℕ) → type_coverage nodes count excluded n ≤ type_coverage nodes more excluded n
  unfolding type_coverage
  type_rises n = either_rises (node_at nodes n).merge (merged_coverage nodes count excluded n) (plain_coverage nodes count excluded n) (merged_coverage nodes more excluded n) (plain_coverage nodes more excluded n) (merged_rises n) (plain_rises n)

  root_rises : (n : ℕ) → root_coverage nodes count excluded n ≤ root_coverage nodes more excluded n
  unfolding root_coverage
  root_rises n = mean_rises (λ m. (node_at nodes m).weight) (type_coverage nodes count excluded) (type_coverage nodes more excluded) type_rises (unexcluded nodes excluded n)

  kind_rises : (kind : NodeKind) (n : ℕ) → coverage_by kind nodes count excluded n ≤ coverage_by kind nodes more excluded n
  kind_rises Root n = root_rises n
  kind_rises CoverGroup n = type_rises n
  kind_rises CoverInstance n = instance_rises n
  kind_rises CoverPoint n = item_rises n
  kind_rises Cross n = item_rises n
  kind_rises (Bin kind) n = item_rises n

  pub coverage_rises : (n : ℕ) → coverage nodes count excluded n ≤ coverage nodes more excluded n
  unfolding coverage
  coverage_rises n = kind_rises (node_at nodes n).kind n

-- ---- one test more

module _ (opening : Design) (h : List Entry) (caller : ℕ) (r : Record) where
  abbrev after : List Entry
  after = h ++ by caller (Admit r) ∷ []

  counts_rise : (bin : ℕ) → count_of opening h bin ≤ count_of opening after bin
  counts_rise bin = let c = counts_snoc opening h (by caller (Admit r)) bin in omega (arith, c)

  same_node : (n : ℕ) → is_covered (nodes_of (design_of opening after)) (count_of opening after) n ≡ is_covered (nodes_of (design_of opening h)) (count_of opening after) n
  same_node n = λ i. is_covered (nodes_of (design_snoc opening h (by caller (Admit r)) i)) (count_of opening after) n

  same_coverage : (n : ℕ) → coverage (nodes_of (design_of opening after)) (count_of opening after) (excluded_at opening after) n ≡ coverage (nodes_of (design_of opening h)) (count_of opening after) (excluded_at opening h) n
  same_coverage n = λ i. let nodes = nodes_of (design_snoc opening h (by caller (Admit r)) i) in coverage nodes (count_of opening after) (is_excluded nodes (out_snoc h (by caller (Admit r)) i)) n

pub never_falls : AdmissionsNeverLower
never_falls opening h caller r n =
    let nodes = nodes_of (design_of opening h) in
    record {
      covered = λ e. same_node opening h caller r n ∙ covered_more nodes (count_of opening h) (count_of opening (after opening h caller r)) (excluded_at opening h) (counts_rise opening h caller r) n e;
      millionths =
          let rises = coverage_rises nodes (count_of opening h) (count_of opening (after opening h caller r)) (excluded_at opening h) (counts_rise opening h caller r) n in
          let same = same_coverage opening h caller r n in
          omega (arith, rises, same);
    }
