-- The definitions on small designs: one group g with an instance i and a coverpoint p of an 8-bit signal v, whose bins are
-- a = {0} and b = {1, 2}.
use Rattle.std.proofs.Common.{◌≡◌, ◌∙◌, ℤ, pos, ℕ, Bool, ◌+◌, List, [], ◌∷◌, ◌++◌, length, map, refl, ap, true, false, Some, None, nat_lt}
use Rattle.std.specs.Prelude.{if◌then◌else◌}
use Rattle.ucis_model.specs.declared.answers.Which.TheVariants.{Tests}
use Rattle.sha2.specs.Sha256.{sha256}
use Rattle.const_eval.specs.Terms.Term.{name}
use Rattle.const_eval.specs.declared.meaning.Meaning.TheVariants as meaning
use Rattle.const_eval.specs.Values.{cut}
use Rattle.cov_base.specs.Sets.{span, written}
use Rattle.design_data.specs.declared.infos.Signal.{Signal}
use Rattle.design_data.specs.declared.infos.GroupInfo.{GroupInfo}
use Rattle.design_data.specs.declared.infos.InstInfo.{InstInfo}
use Rattle.design_data.specs.declared.infos.ItemInfo.{ItemInfo}
use Rattle.design_data.specs.declared.infos.Remarks.{Remarks}
use Rattle.design_data.specs.declared.infos.BinInfo.{BinInfo}
use Rattle.design_data.specs.declared.infos.BinKind.{BinKind}
use Rattle.design_data.specs.declared.infos.BinKind.TheVariants.{CvgBin, IllegalBin}
use Rattle.design_data.specs.declared.infos.BinRule.TheVariants.{Values}
use Rattle.design_data.specs.declared.infos.ItemShape.TheVariants.{Point}
use Rattle.design_data.specs.declared.design.Design.{Design}
use Rattle.design_data.specs.Limits.{IsDesign}
use Rattle.record_codec.specs.declared.record.Record.{Record}
use Rattle.record_codec.specs.declared.record.Fields.{Fields}
use Rattle.record_codec.specs.declared.record.Event.TheVariants as step
use Rattle.record_codec.specs.Limits.{IsWithinLimits}
use Rattle.record_codec.specs.Samples.{env_of, samples_of}
use Rattle.record_codec.specs.Bytes.{bytes_of}
use Rattle.record_codec.specs.Spelling.{spelling}
use Rattle.ucis_model.specs.declared.answers.Answer.TheVariants as answers
use Rattle.ucis_model.specs.Nodes.{nodes_of, with_item, with_instance, with_group}
use Rattle.ucis_model.specs.Paths.{path_of, find_in}
use Rattle.cov_history.specs.declared.entry.Event.{Event}
use Rattle.cov_history.specs.declared.entry.Event.TheVariants.{Admit, Exclude, Include, Revise, Stop}
use Rattle.cov_history.specs.declared.entry.Revision.{Revision}
use Rattle.cov_history.specs.declared.entry.Entry.{Entry}
use Rattle.cov_history.specs.declared.asks.Ask.TheVariants as ask
use Rattle.cov_history.specs.Tallies.{tally}
use Rattle.cov_history.specs.Tables.{fits, same_tables}
use Rattle.cov_history.specs.Coverage.{is_excluded, item_coverage, instance_coverage, plain_coverage, merged_coverage, type_coverage, root_coverage, coverage}
use Rattle.cov_history.specs.Ranking.{ranking}
use Rattle.cov_history.specs.History.{kept, is_revise, amount, is_over, passed, is_legal}
use Rattle.cov_history.specs.Answers.{by, table, answer_at, stands_since, admit_by, admit_at, change, unless_full}
use Rattle.cov_history.proofs.Snoc.{test_count_snoc}

abbrev bin : (name_ : List ℕ) → BinKind → List (ℤ × ℤ) → BinInfo
bin name_ kind set = record { name = name_; kind = kind; rule = Values set; guard = None }

abbrev unremarked : Remarks
unremarked = record { comment = []; detect_overlap = false; auto_bin_max = 64; cross_num_print_missing = 0 }

abbrev item : (least : ℕ) → List BinInfo → ItemInfo
item least bins = record {
  name = 112 ∷ [];
  weight = 1;
  type_weight = 1;
  goal = 100;
  at_least = least;
  remarks = unremarked;
  guard = None;
  shape = Point (name (meaning.Signal 0 (record { width = 8; signed = false }) 0) 0);
  first_bin = 0;
  bins = bins;
  ignored = [];
  illegal = [];
}

abbrev signals : List Signal
signals = record { name = 118 ∷ []; width = 8; signed = false } ∷ []

abbrev groups : List GroupInfo
groups = record { name = 103 ∷ []; weight = 1; goal = 100; merge = false } ∷ []

abbrev instances : (least : ℕ) → List BinInfo → List InstInfo
instances least bins = record { name = 105 ∷ []; group = 0; weight = 1; goal = 100; at_least = 1; print = false; remarks = unremarked; args = []; items = item least bins ∷ [] } ∷ []

abbrev ab : List BinInfo
ab = bin (97 ∷ []) CvgBin ((pos 0, pos 0) ∷ []) ∷ bin (98 ∷ []) CvgBin ((pos 1, pos 2) ∷ []) ∷ []

abbrev ac : List BinInfo
ac = bin (97 ∷ []) CvgBin ((pos 0, pos 0) ∷ []) ∷ bin (99 ∷ []) CvgBin ((pos 1, pos 9) ∷ []) ∷ []

-- the fields of a record that samples the value once
abbrev fields : (id : List ℕ) → (value : ℕ) → Fields
fields id value = record {
  version = 1;
  id = id;
  status = 0;
  seed = 0;
  time = 0;
  user = [];
  signals = record { name = 118 ∷ []; width = 8; signed = false } ∷ [];
  instances = record { name = 105 ∷ []; group = 103 ∷ []; args = [] } ∷ [];
  events = step.Set 0 (Some value) ∷ step.Sample 0 [] ∷ [];
}

abbrev test : (id : List ℕ) → (value : ℕ) → IsWithinLimits (fields id value) → Record
test id value w = record {
  version = 1;
  id = id;
  status = 0;
  seed = 0;
  time = 0;
  user = [];
  signals = record { name = 118 ∷ []; width = 8; signed = false } ∷ [];
  instances = record { name = 105 ∷ []; group = 103 ∷ []; args = [] } ∷ [];
  events = step.Set 0 (Some value) ∷ step.Sample 0 [] ∷ [];
  within = w;
}

abbrev design : (least : ℕ) → (bins : List BinInfo) → IsDesign signals groups (instances least bins) (length bins) → Design
design least bins d = record { signals = signals; groups = groups; instances = instances least bins; bin_count = length bins; within = d }

-- t1 and t2, the coverpoint, and the bin b
abbrev t1 : List ℕ
t1 = 116 ∷ 49 ∷ []

abbrev t2 : List ℕ
t2 = 116 ∷ 50 ∷ []

abbrev p : List ℕ
p = 103 ∷ 47 ∷ 105 ∷ 47 ∷ 112 ∷ []

abbrev b : List ℕ
b = p ++ 47 ∷ 98 ∷ []

module _ (d : IsDesign signals groups (instances 1 ab) 2) (w : (id : List ℕ) (value : ℕ) → IsWithinLimits (fields id value)) where
  abbrev opening : Design
  opening = design 1 ab d

  abbrev first : Entry
  first = by 0 (Admit (test t1 0 (w t1 0)))

  abbrev after : List Event → List Entry
  after events = first ∷ map (by 0) events

  counts : answer_at opening (after []) 0 (ask.Counts 0 p)
      ≡ answers.Rows 2 (record { bin = 0; kind = CvgBin; excluded = false; count = 1 } ∷ record { bin = 1; kind = CvgBin; excluded = false; count = 0 } ∷ [])
  unfolding table tally samples_of env_of written span cut nodes_of with_group with_instance with_item path_of find_in is_excluded
  counts = refl

  half : answer_at opening (after []) 0 (ask.Coverage p) ≡ answers.CoverageIs (record { millionths = 500000; met = false; excluded = false; covered = 1; bins = 2 })
  unfolding table tally samples_of env_of written span cut nodes_of with_group with_instance with_item path_of find_in is_excluded coverage item_coverage
  half = refl

  root : answer_at opening (after []) 0 (ask.Coverage []) ≡ answers.CoverageIs (record { millionths = 500000; met = false; excluded = false; covered = 1; bins = 2 })
  unfolding table tally samples_of env_of written span cut nodes_of with_group with_instance with_item path_of find_in is_excluded coverage item_coverage instance_coverage plain_coverage type_coverage root_coverage
  root = refl

  excluded : answer_at opening (after []) 0 (ask.Exclude b) ≡ answers.Changed
  unfolding table tally samples_of env_of written span cut nodes_of with_group with_instance with_item path_of find_in bytes_of
  excluded = refl

  whole : answer_at opening (after (Exclude b ∷ [])) 0 (ask.Coverage p) ≡ answers.CoverageIs (record { millionths = 1000000; met = true; excluded = false; covered = 1; bins = 1 })
  unfolding table tally samples_of env_of written span cut nodes_of with_group with_instance with_item path_of find_in is_excluded coverage item_coverage
  whole = refl

  twice : answer_at opening (after (Exclude b ∷ [])) 0 (ask.Exclude b) ≡ answers.AlreadyExcluded
  unfolding table nodes_of with_group with_instance with_item path_of find_in
  twice = refl

  included : answer_at opening (after (Exclude b ∷ [])) 0 (ask.Include b) ≡ answers.Changed
  unfolding table nodes_of with_group with_instance with_item path_of find_in
  included = refl

  again : answer_at opening (after (Exclude b ∷ Include b ∷ [])) 0 (ask.Coverage p) ≡ answers.CoverageIs (record { millionths = 500000; met = false; excluded = false; covered = 1; bins = 2 })
  unfolding table tally samples_of env_of written span cut nodes_of with_group with_instance with_item path_of find_in is_excluded coverage item_coverage
  again = refl

  not_out : answer_at opening (after (Exclude b ∷ Include b ∷ [])) 0 (ask.Include b) ≡ answers.NotExcluded
  unfolding table nodes_of with_group with_instance with_item path_of find_in
  not_out = refl

  unknown : answer_at opening (after []) 0 (ask.Exclude (103 ∷ 47 ∷ 122 ∷ [])) ≡ answers.NoSuchPath
  unfolding table nodes_of with_group with_instance with_item path_of find_in
  unknown = refl

  legal : is_legal opening (after (Exclude b ∷ Include b ∷ [])) ≡ true
  unfolding tally samples_of env_of written span cut nodes_of with_group with_instance with_item path_of find_in bytes_of fits
  legal = refl

  -- the same record, and another of its id
  here : answer_at opening (after []) 0 (ask.Admit 1 (test t1 0 (w t1 0))) ≡ answers.Here 1
  unfolding table bytes_of
  here = refl

  taken : answer_at opening (after []) 0 (ask.Admit 1 (test t1 5 (w t1 5))) ≡ answers.IdTaken (sha256 (spelling (test t1 0 (w t1 0))))
  unfolding table bytes_of
  taken = refl

  new : answer_at opening (after []) 0 (ask.Admit 1 (test t2 5 (w t2 5))) ≡ answers.New
  unfolding table tally samples_of env_of written span cut bytes_of
  new = refl

  ahead : answer_at opening [] 0 (ask.Hello 9) ≡ answers.Ahead 0
  unfolding table
  ahead = refl

  welcome : answer_at opening [] 0 (ask.Hello 0) ≡ answers.Welcome 2
  unfolding table
  welcome = refl

  no_test : answer_at opening [] 0 (ask.TestCounts 0 t1 p) ≡ answers.NoSuchTest
  unfolding table
  no_test = refl

  name_of_a : answer_at opening [] 0 (ask.NameOf 0) ≡ answers.PathIs (p ++ 47 ∷ 97 ∷ [])
  unfolding table nodes_of with_group with_instance with_item path_of
  name_of_a = refl

  no_bin : answer_at opening [] 0 (ask.NameOf 2) ≡ answers.NoSuchPath
  unfolding table nodes_of with_group with_instance with_item
  no_bin = refl

  stopped : answer_at opening (after (Stop ∷ [])) 0 (ask.Exclude b) ≡ answers.Stopped
  unfolding table tally samples_of env_of written span cut nodes_of with_group with_instance with_item path_of find_in bytes_of
  stopped = refl

  -- another text: a = {0} stays, b goes, and c = {[1:9]} comes
  module _ (other : IsDesign signals groups (instances 1 ac) 2) (text : List ℕ) where
    abbrev revision : Revision
    revision = record { text = text; design = design 1 ac other }

    revised : answer_at opening (after (Exclude b ∷ Revise revision ∷ [])) 0 (ask.Counts 0 p)
        ≡ answers.Rows 2 (record { bin = 0; kind = CvgBin; excluded = false; count = 1 } ∷ record { bin = 1; kind = CvgBin; excluded = false; count = 0 } ∷ [])
    unfolding table tally samples_of env_of written span cut nodes_of with_group with_instance with_item path_of find_in is_excluded
    revised = refl

    both_live : answer_at opening (after (Exclude b ∷ Revise revision ∷ [])) 0 (ask.Coverage p) ≡ answers.CoverageIs (record { millionths = 500000; met = false; excluded = false; covered = 1; bins = 2 })
    unfolding table tally samples_of env_of written span cut nodes_of with_group with_instance with_item path_of find_in is_excluded coverage item_coverage
    both_live = refl

    gone : answer_at opening (after (Exclude b ∷ Revise revision ∷ [])) 0 (ask.Include b) ≡ answers.NoSuchPath
    unfolding table nodes_of with_group with_instance with_item path_of find_in
    gone = refl

    moved : answer_at opening (after []) 0 (ask.Revise 0 revision) ≡ answers.Moved 0
    unfolding table
    moved = refl

    same : same_tables (design 1 ac other) opening ≡ true
    unfolding same_tables
    same = refl

-- bins that have to be hit twice: each of two tests adds one
module _ (d : IsDesign signals groups (instances 2 ab) 2) (w : (id : List ℕ) (value : ℕ) → IsWithinLimits (fields id value)) where
  ranked : answer_at (design 2 ab d) (by 0 (Admit (test t1 0 (w t1 0))) ∷ by 0 (Admit (test t2 0 (w t2 0))) ∷ []) 0 ask.Rank ≡ answers.RankRows (record { test = 0; gain = 1 } ∷ record { test = 1; gain = 1 } ∷ [])
  unfolding table ranking tally samples_of env_of written span cut nodes_of with_group with_instance with_item path_of find_in is_excluded
  ranked = refl

-- an illegal bin that is hit, and nothing else
module _ (d : IsDesign signals groups (instances 1 (bin (101 ∷ []) IllegalBin ((pos 3, pos 3) ∷ []) ∷ [])) 1) (w : (id : List ℕ) (value : ℕ) → IsWithinLimits (fields id value)) where
  illegal : answer_at (design 1 (bin (101 ∷ []) IllegalBin ((pos 3, pos 3) ∷ []) ∷ []) d) (by 0 (Admit (test t1 3 (w t1 3))) ∷ []) 0 (ask.Illegal 0) ≡ answers.Rows 1 (record { bin = 0; kind = IllegalBin; excluded = false; count = 1 } ∷ [])
  unfolding table tally samples_of env_of written span cut nodes_of with_group with_instance with_item path_of find_in is_excluded
  illegal = refl

-- where there are as many tests as may be, a further one is refused
full : (opening : Design) (h : List Entry) (caller since : ℕ) (r : Record) → amount opening h Tests ≡ 4096 → kept h r.id ≡ None → stands_since is_revise h since ≡ false
    → admit_at opening h since (by caller (Admit r)) r ≡ answers.Full Tests 4096 4097
full opening h caller since r n k s =
    let after : List Entry = h ++ by caller (Admit r) ∷ [] in
    let more : amount opening after Tests ≡ 4097 = test_count_snoc opening h (by caller (Admit r)) ∙ ap (λ m. m + 1) n in
    let over : is_over opening after Tests ≡ true = ap (nat_lt 4096) more in
    let first : passed opening after ≡ Some Tests = rw over refl in
    ap (admit_by opening h since (by caller (Admit r)) r) k ∙ ap (λ c. if c then answers.Moved since else change opening h (by caller (Admit r)) answers.New) s
    ∙ ap (λ o. unless_full opening h after o answers.New) first ∙ (λ i. answers.Full Tests (n i) (more i))

-- two instances i and j of one coverpoint: i hits a, and j hits b, so that merged each bin is covered
abbrev item_from : ℕ → ItemInfo
item_from first = record {
  name = 112 ∷ [];
  weight = 1;
  type_weight = 1;
  goal = 100;
  at_least = 1;
  remarks = unremarked;
  guard = None;
  shape = Point (name (meaning.Signal 0 (record { width = 8; signed = false }) 0) 0);
  first_bin = first;
  bins = ab;
  ignored = [];
  illegal = [];
}

abbrev two : List InstInfo
two = record { name = 105 ∷ []; group = 0; weight = 1; goal = 100; at_least = 1; print = false; remarks = unremarked; args = []; items = item_from 0 ∷ [] }
    ∷ record { name = 106 ∷ []; group = 0; weight = 1; goal = 100; at_least = 1; print = false; remarks = unremarked; args = []; items = item_from 2 ∷ [] } ∷ []

abbrev group : Bool → List GroupInfo
group merge = record { name = 103 ∷ []; weight = 1; goal = 100; merge = merge } ∷ []

abbrev both_fields : Fields
both_fields = record {
  version = 1;
  id = t1;
  status = 0;
  seed = 0;
  time = 0;
  user = [];
  signals = record { name = 118 ∷ []; width = 8; signed = false } ∷ [];
  instances = record { name = 105 ∷ []; group = 103 ∷ []; args = [] } ∷ record { name = 106 ∷ []; group = 103 ∷ []; args = [] } ∷ [];
  events = step.Set 0 (Some 0) ∷ step.Sample 0 [] ∷ step.Set 0 (Some 1) ∷ step.Sample 1 [] ∷ [];
}

module _ (merge : IsDesign signals (group true) two 4) (plain : IsDesign signals (group false) two 4) (w : IsWithinLimits both_fields) where
  abbrev both_hit : Record
  both_hit = record {
    version = 1;
    id = t1;
    status = 0;
    seed = 0;
    time = 0;
    user = [];
    signals = record { name = 118 ∷ []; width = 8; signed = false } ∷ [];
    instances = record { name = 105 ∷ []; group = 103 ∷ []; args = [] } ∷ record { name = 106 ∷ []; group = 103 ∷ []; args = [] } ∷ [];
    events = step.Set 0 (Some 0) ∷ step.Sample 0 [] ∷ step.Set 0 (Some 1) ∷ step.Sample 1 [] ∷ [];
    within = w;
  }

  merged : answer_at (record { signals = signals; groups = group true; instances = two; bin_count = 4; within = merge }) (by 0 (Admit both_hit) ∷ []) 0 (ask.Coverage (103 ∷ []))
      ≡ answers.CoverageIs (record { millionths = 1000000; met = true; excluded = false; covered = 2; bins = 4 })
  unfolding table tally samples_of env_of written span cut nodes_of with_group with_instance with_item path_of find_in is_excluded coverage item_coverage instance_coverage plain_coverage merged_coverage type_coverage
  merged = refl

  -- an excluded bin leaves before merging: j's b is out, and i's b isn't hit
  merged_without : answer_at (record { signals = signals; groups = group true; instances = two; bin_count = 4; within = merge }) (by 0 (Admit both_hit) ∷ by 0 (Exclude (103 ∷ 47 ∷ 106 ∷ 47 ∷ 112 ∷ 47 ∷ 98 ∷ [])) ∷ []) 0 (ask.Coverage (103 ∷ []))
      ≡ answers.CoverageIs (record { millionths = 500000; met = false; excluded = false; covered = 1; bins = 3 })
  unfolding table tally samples_of env_of written span cut nodes_of with_group with_instance with_item path_of find_in is_excluded coverage item_coverage instance_coverage plain_coverage merged_coverage type_coverage
  merged_without = refl

  apart : answer_at (record { signals = signals; groups = group false; instances = two; bin_count = 4; within = plain }) (by 0 (Admit both_hit) ∷ []) 0 (ask.Coverage (103 ∷ []))
      ≡ answers.CoverageIs (record { millionths = 500000; met = false; excluded = false; covered = 2; bins = 4 })
  unfolding table tally samples_of env_of written span cut nodes_of with_group with_instance with_item path_of find_in is_excluded coverage item_coverage instance_coverage plain_coverage merged_coverage type_coverage
  apart = refl
