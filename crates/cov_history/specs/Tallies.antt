-- How often each bin of a design is hit in a record, worked out bin by bin and sample by sample (IEEE 1800-2017, 19.5 and
-- 19.6). That this is the tally of both is a law.
use Rattle.std.specs.Prelude.{ℕ, ◌+◌, ◌==◌, nat_le, List, [], ◌∷◌, ◌++◌, length, map, take, drop, slice_get, slice_index_or, None, Bool, true, false, not, ◌&&◌, ◌||◌, if◌then◌else◌, count_by}
use Rattle.std.specs.List.{flat_map, list_any, list_all, range_with_len}
use Rattle.std.specs.Option.{option_map_or}
use Rattle.const_eval.specs.Terms.{Term}
use Rattle.const_eval.specs.Values.{value}
use Rattle.trans_seq.specs.declared.seq.Item.{Item}
use Rattle.trans_seq.specs.declared.seq.Seq.{Seq}
use Rattle.trans_seq.specs.declared.seq.Repeat.{Repeat}
use Rattle.trans_seq.specs.declared.seq.Repeat.TheVariants.{Once, Consec, Goto, NonConsec}
use Rattle.trans_seq.specs.Windows.{is_known_in, is_end}
use Rattle.design_data.specs.declared.infos.ItemInfo.{ItemInfo}
use Rattle.design_data.specs.declared.infos.InstInfo.{InstInfo}
use Rattle.design_data.specs.declared.infos.GroupInfo.{GroupInfo}
use Rattle.design_data.specs.declared.infos.BinInfo.{BinInfo}
use Rattle.design_data.specs.declared.infos.BinKind.{BinKind}
use Rattle.design_data.specs.declared.infos.BinRule.{BinRule}
use Rattle.design_data.specs.declared.infos.BinRule.TheVariants.{Values, Patterns, Trans, Default, DefaultValues, DefaultSequence, Picked, Product}
use Rattle.design_data.specs.declared.infos.ItemShape.{ItemShape}
use Rattle.design_data.specs.declared.infos.ItemShape.TheVariants.{Point, Cross}
use Rattle.design_data.specs.declared.design.Design.{Design}
use Rattle.design_data.specs.Bins.{coverage_bins, seqs_of, removing_seqs, sizes_of}
use Rattle.design_data.specs.Crosses.{has, products}
use Rattle.design_data.specs.Laws.{Value, in_patterns, is_listed}
use Rattle.record_codec.specs.declared.record.Record.{Record}
use Rattle.record_codec.specs.Samples.{Env, samples_of}
use Rattle.cov_counting.specs.Hits.{holds, trace}

-- ---- windows (19.5.2)

module _ {X : Type 0} (p : X → Bool) where
  -- the last sample is inside, or there is none
  abbrev pub ends_inside : List X → Bool
  ends_inside [] = true
  ends_inside (v ∷ w) = if is_end w then p v else ends_inside w

  -- from low to high samples inside; where no gap may trail, the last sample is one of them
  abbrev pub in_blocks : (low high : ℕ) → (trailing : Bool) → List X → Bool
  in_blocks low high trailing w = (nat_le low (count_by p w) && nat_le (count_by p w) high) && (trailing || ends_inside w)

  abbrev pub in_repeat : Repeat → (last : Bool) → List X → Bool
  in_repeat Once last w = length w == 1 && list_all p w
  in_repeat (Consec low high) last w = (nat_le low (length w) && nat_le (length w) high) && list_all p w
  in_repeat (Goto low high) last w = in_blocks low high false w
  in_repeat (NonConsec low high) last w = in_blocks low high (not last) w

abbrev pub in_item : Item → (last : Bool) → List Value → Bool
in_item item last w = in_repeat (is_known_in item.set) item.repeat last w

-- the window can be cut into a list of each item
abbrev pub in_seq : List Item → List Value → Bool
in_seq [] w = is_end w
in_seq (item ∷ items) w = list_any (λ cut. in_item item (is_end items) (take cut w) && in_seq items (drop cut w)) (range_with_len 0 (length w + 1))

abbrev pub in_some : List Seq → List Value → Bool
in_some seqs w = list_any (λ seq. in_seq seq.items w) seqs

-- some window that ends with the last value is one of the first sequences and none of the second
abbrev pub ends_kept : (own removed : List Seq) → List Value → Bool
ends_kept own removed w = list_any (λ from. in_some own (drop from w) && not (in_some removed (drop from w))) (range_with_len 0 (length w))

-- no window that ends with the last value is one of the sequences
abbrev pub ends_none : List Seq → List Value → Bool
ends_none seqs w = not (list_any (λ from. in_some seqs (drop from w)) (range_with_len 0 (length w)))

-- ---- points

abbrev pub is_default_sequence : ItemInfo → (before all : List Value) → Bool
is_default_sequence item before all = not (is_end before) && (list_all (λ bin. ends_none (seqs_of bin.rule) all) item.bins && ends_none (item.ignored ++ item.illegal) all)

-- the rule of a bin is met at a value of the trace, after the values before it
abbrev pub meets : ItemInfo → BinKind → BinRule → (before : List Value) → (now : Value) → Bool
meets item kind (Values set) before now = is_known_in set now
meets item kind (Patterns patterns) before now = in_patterns patterns now
meets item kind (Trans seqs) before now = ends_kept seqs (removing_seqs item kind) (before ++ now ∷ [])
meets item kind Default before now = not (is_listed item.bins now)
meets item kind (DefaultValues set) before now = is_known_in set now
meets item kind DefaultSequence before now = is_default_sequence item before (before ++ now ∷ [])
meets item kind (Picked select) before now = false
meets item kind (Product members) before now = false

-- the guards of the item and of its bin are true
abbrev pub is_open : ItemInfo → BinInfo → Env → Bool
is_open item bin now = holds item.guard now && holds bin.guard now

abbrev pub point_hit : ItemInfo → Term → BinInfo → List Env → ℕ → Bool
point_hit item expr bin all k =
    let now = slice_index_or all k [] in
    is_open item bin now && meets item bin.kind bin.rule (trace expr item.guard (take k all)) (value expr now None)

-- ---- crosses

abbrev pub number_hit : ItemInfo → ItemShape → (number : ℕ) → List Env → ℕ → Bool
number_hit item (Point expr) number all k = option_map_or (λ bin. point_hit item expr bin all k) (slice_get (coverage_bins item) number) false
number_hit item (Cross axes) number all k = false

abbrev pub all_hit : List ItemInfo → (axes product : List ℕ) → List Env → ℕ → Bool
all_hit items [] product all k = true
all_hit items (axis ∷ axes) [] all k = false
all_hit items (axis ∷ axes) (number ∷ product) all k = option_map_or (λ item. number_hit item item.shape number all k) (slice_get items axis) false && all_hit items axes product all k

abbrev pub cross_hit : List ItemInfo → ItemInfo → (axes : List ℕ) → BinInfo → List Env → ℕ → Bool
cross_hit items item axes bin all k =
    is_open item bin (slice_index_or all k []) && list_any (λ product. has item.bins bin.kind bin.rule product && all_hit items axes product all k) (products (sizes_of items axes))

-- ---- counts

abbrev pub shape_hit : List ItemInfo → ItemInfo → ItemShape → BinInfo → List Env → ℕ → Bool
shape_hit items item (Point expr) bin all k = point_hit item expr bin all k
shape_hit items item (Cross axes) bin all k = cross_hit items item axes bin all k

-- the number of the samples at which the bin is hit
abbrev pub count : List ItemInfo → ItemInfo → List Env → BinInfo → ℕ
count items item all bin = count_by (shape_hit items item item.shape bin all) (range_with_len 0 (length all))

abbrev pub instance_counts : Record → ℕ → InstInfo → List ℕ
instance_counts r instance inst = flat_map (λ item. map (count inst.items item (samples_of r instance)) item.bins) inst.items

-- those of the instances of a group, the first of which has this place
abbrev pub group_counts : Record → ℕ → List InstInfo → (group : ℕ) → List ℕ
group_counts r place [] group = []
group_counts r place (inst ∷ insts) group = (if inst.group == group then instance_counts r place inst else []) ++ group_counts r (place + 1) insts group

-- those of groups, the first of which has this place
abbrev pub counts_from : Record → List InstInfo → ℕ → List GroupInfo → List ℕ
counts_from r instances group [] = []
counts_from r instances group (info ∷ groups) = group_counts r 0 instances group ++ counts_from r instances (group + 1) groups

-- A count for each bin, at the bin's number: bins are numbered group by group, and in each group by its instances.
unfoldable pub tally : Design → Record → List ℕ
tally d r = counts_from r d.instances 0 d.groups
