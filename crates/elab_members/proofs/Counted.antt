-- What counting the bins of an item adds.
use Rattle.std.proofs.Common.{◌≡◌, ◌∙◌, ℕ, suc, ◌+◌, ◌≤◌, List, [], ◌∷◌, length, map, refl, ap, subst, true, arith, Ok}
use Rattle.std.specs.Prelude.{nat_le, nat_lt, ◌&&◌}
use Rattle.std.specs.List.{AllByRecursion, list_all}
use Rattle.cov_ground.specs.Limits.{most_ranges, most_design_bins, most_design_ranges}
use Rattle.design_data.specs.declared.infos.BinInfo.{BinInfo}
use Rattle.design_data.specs.declared.infos.ItemInfo.{ItemInfo}
use Rattle.trans_seq.specs.declared.seq.Item.{Item}
use Rattle.trans_seq.specs.declared.seq.Seq.{Seq}
use Rattle.design_data.specs.declared.infos.BinKind.{BinKind}
use Rattle.design_data.specs.declared.infos.BinKind.TheVariants.{CvgBin, IllegalBin, IgnoreBin, DefaultBin}
use Rattle.design_data.specs.declared.infos.BinRule.{BinRule}
use Rattle.design_data.specs.declared.infos.BinRule.TheVariants.{Values, Patterns, Trans, Default, DefaultValues, DefaultSequence, Picked, Product}
use Rattle.design_data.specs.Bins.{total, removing_seqs}
use Rattle.design_data.specs.Limits.{ranges_of, AreSetsShort, IsPointRule}
use Rattle.elab_base.specs.declared.fault.ElabKind.TheVariants as kind
use Rattle.elab_base.specs.Gives.{needs, each_at}
use Rattle.elab_base.proofs.Keeps.{bind_ok, ok_is, needs_ok, and_first, and_second}
use Rattle.elab_values.specs.declared.made.Made.{Made}
use Rattle.elab_points.specs.Removal.{removing_of}
use Rattle.elab_points.specs.Left.{has_some}
use Rattle.elab_points.proofs.Sequences.{HasSeq, MadeHasSeq}
use Rattle.elab_members.specs.declared.counts.Counts.{Counts}
use Rattle.elab_members.specs.Counting.{is_short, are_sets_short, ranges_fit, bin_counted, bins_counted}

-- no set of the rule has too many intervals
abbrev pub IsShort : BinRule → Type 0
IsShort (Values set) = length set ≤ most_ranges
IsShort (Patterns patterns) = Unit {0}
IsShort (Trans seqs) = AreSetsShort seqs
IsShort Default = Unit {0}
IsShort (DefaultValues set) = length set ≤ most_ranges
IsShort DefaultSequence = Unit {0}
IsShort (Picked select) = Unit {0}
IsShort (Product members) = Unit {0}

items_short : (items : List Item) → list_all (λ (item : Item). is_short item.set) items ≡ true → AllByRecursion (λ (item : Item). length item.set ≤ most_ranges) items
items_short [] e = tt
items_short (item ∷ items) e =
    let one = and_first (is_short item.set) (list_all (λ (x : Item). is_short x.set) items) e in
    (grind (arith, one), items_short items (and_second (is_short item.set) (list_all (λ (x : Item). is_short x.set) items) e))

seqs_short : (seqs : List Seq) → list_all (λ (seq : Seq). list_all (λ (item : Item). is_short item.set) seq.items) seqs ≡ true → AreSetsShort seqs
seqs_short [] e = tt
seqs_short (seq ∷ seqs) e =
    let these = list_all (λ (x : Item). is_short x.set) seq.items in
    let rest = list_all (λ (y : Seq). list_all (λ (x : Item). is_short x.set) y.items) seqs in
    (items_short seq.items (and_first these rest e), seqs_short seqs (and_second these rest e))

rule_short : (rule : BinRule) → are_sets_short rule ≡ true → IsShort rule
rule_short (Values set) e = grind (arith, e)
rule_short (Patterns patterns) e = tt
rule_short (Trans seqs) e = seqs_short seqs e
rule_short Default e = tt
rule_short (DefaultValues set) e = grind (arith, e)
rule_short DefaultSequence e = tt
rule_short (Picked select) e = tt
rule_short (Product members) e = tt

-- so many bins and intervals more, and still no more than a design may have
pub record Counted (all : List Made) (s t : Counts) : Type 0 where
  pub items : t.items ≡ s.items
  pub bins : t.bins ≡ s.bins + length all
  pub few_bins : s.bins ≤ most_design_bins → t.bins ≤ most_design_bins
  pub ranges : t.ranges ≡ s.ranges + total (λ made. ranges_of made.bin.rule) all
  pub few_ranges : s.ranges ≤ most_design_ranges → t.ranges ≤ most_design_ranges
  pub short : AllByRecursion (λ made. IsShort made.bin.rule) all

none_counted : (s : Counts) → Counted [] s s
none_counted s = record { items = refl; bins = omega arith; few_bins = λ h. h; ranges = omega arith; few_ranges = λ h. h; short = tt }

pub record OneCounted (made : Made) (s t : Counts) : Type 0 where
  pub items : t.items ≡ s.items
  pub bins : t.bins ≡ s.bins + 1
  pub few_bins : t.bins ≤ most_design_bins
  pub ranges : t.ranges ≡ s.ranges + ranges_of made.bin.rule
  pub few_ranges : t.ranges ≤ most_design_ranges
  pub short : IsShort made.bin.rule

one_counted : (made : Made) (s t : Counts) → bin_counted made s ≡ Ok t → OneCounted made s t
unfolding bin_counted ranges_fit
one_counted made s t e =
    let rule = made.bin.rule in
    let r = bind_ok (needs (are_sets_short rule) kind.TooManyRanges made.at) _ t e in
    let f = bind_ok (ranges_fit s rule made.at) _ t r.2 in
    let n = bind_ok (needs (nat_lt s.bins most_design_bins && nat_le (s.ranges + ranges_of rule) most_design_ranges) kind.DesignLimit made.at) _ f.0 f.1 in
    let both = needs_ok (nat_lt s.bins most_design_bins && nat_le (s.ranges + ranges_of rule) most_design_ranges) kind.DesignLimit made.at n.0 n.1 in
    let bins = and_first (nat_lt s.bins most_design_bins) (nat_le (s.ranges + ranges_of rule) most_design_ranges) both in
    let ranges = and_second (nat_lt s.bins most_design_bins) (nat_le (s.ranges + ranges_of rule) most_design_ranges) both in
    let count : ranges_of rule ≡ f.0 = ok_is (ranges_of rule) f.0 n.2 in
    let here : OneCounted made s (record s { bins = s.bins + 1; ranges = s.ranges + f.0 }) = record {
      items = refl;
      bins = refl;
      few_bins = grind (arith, bins);
      ranges = omega (arith, count);
      few_ranges = grind (arith, ranges, count);
      short = rule_short rule (needs_ok (are_sets_short rule) kind.TooManyRanges made.at r.0 r.1);
    } in
    subst (λ (c : Counts). OneCounted made s c) (ok_is _ t f.2) here

more_counted : (made : Made) (bins : List Made) (s m t : Counts) → OneCounted made s m → Counted bins m t → Counted (made ∷ bins) s t
more_counted made bins s m t a c =
    let b0 = a.bins in
    let b1 = c.bins in
    let r0 = a.ranges in
    let r1 = c.ranges in
    record {
      items = c.items ∙ a.items;
      bins = omega (arith, b0, b1);
      few_bins = λ h. c.few_bins a.few_bins;
      ranges = omega (arith, r0, r1);
      few_ranges = λ h. c.few_ranges a.few_ranges;
      short = (a.short, c.short);
    }

each_counted : (k : ℕ) (bins : List Made) (s t : Counts) → each_at (λ i. bin_counted) k bins s ≡ Ok t → Counted bins s t
unfolding each_at
each_counted k [] s t e = subst (λ (c : Counts). Counted [] s c) (ok_is s t e) (none_counted s)
each_counted k (made ∷ bins) s t e =
    let b = bind_ok (bin_counted made s) (each_at (λ i. bin_counted) (k + 1) bins) t e in
    more_counted made bins s b.0 t (one_counted made s b.0 b.1) (each_counted (k + 1) bins b.0 t b.2)

pub counted : (bins : List Made) (s t : Counts) → bins_counted bins s ≡ Ok t → Counted bins s t
unfolding bins_counted
counted bins s t e = each_counted 0 bins s t e

-- ---- the bins themselves

pub length-infos : (bins : List Made) → length (map (λ (made : Made). made.bin) bins) ≡ length bins
length-infos [] = refl
length-infos (made ∷ bins) = ap (λ (n : ℕ). suc n) (length-infos bins)

pub ranges-infos : (bins : List Made) → total (λ (bin : BinInfo). ranges_of bin.rule) (map (λ (made : Made). made.bin) bins) ≡ total (λ (made : Made). ranges_of made.bin.rule) bins
ranges-infos [] = refl
ranges-infos (made ∷ bins) = ap (λ (n : ℕ). ranges_of made.bin.rule + n) (ranges-infos bins)

-- a rule that has something left, with short sets, is one of a point
point_rule : (item : ItemInfo) (kind : BinKind) (rule : BinRule) → has_some rule ≡ true → HasSeq (removing_seqs item kind) rule → IsShort rule → IsPointRule item kind rule
point_rule item kind (Values set) some seq short = let one : 1 ≤ length set = grind (arith, some) in (one, short)
point_rule item kind (Patterns patterns) some seq short = seq
point_rule item kind (Trans seqs) some seq short = (seq.0, short, seq.1)
point_rule item kind Default some seq short = tt
point_rule item kind (DefaultValues set) some seq short = let one : 1 ≤ length set = grind (arith, some) in (one, short)
point_rule item kind DefaultSequence some seq short = tt
point_rule item kind (Picked select) some seq short = absurd seq
point_rule item kind (Product members) some seq short = absurd seq

same_removing : (item : ItemInfo) (kind : BinKind) → removing_of kind item.ignored item.illegal ≡ removing_seqs item kind
same_removing item CvgBin = refl
same_removing item IgnoreBin = refl
same_removing item IllegalBin = refl
same_removing item DefaultBin = refl

pub point_rules : (item : ItemInfo) (bins : List Made) → AllByRecursion (λ made. has_some made.bin.rule ≡ true) bins → AllByRecursion (MadeHasSeq item.ignored item.illegal) bins → AllByRecursion (λ made. IsShort made.bin.rule) bins
    → AllByRecursion (λ bin. IsPointRule item bin.kind bin.rule) (map (λ (made : Made). made.bin) bins)
point_rules item [] some seqs short = tt
point_rules item (made ∷ bins) some seqs short =
    let one = subst (λ (removing : List Seq). HasSeq removing made.bin.rule) (same_removing item made.bin.kind) seqs.0 in
    (point_rule item made.bin.kind made.bin.rule some.0 one short.0, point_rules item bins some.1 seqs.1 short.1)
