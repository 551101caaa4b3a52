-- The trace of a point, and when one of its bins is hit (IEEE 1800-2017, 19.5).
use Rattle.std.specs.Prelude.{◌≡◌, ℕ, ◌<◌, List, [], ◌∷◌, ◌++◌, length, map, filter, take, drop, slice_index_or, Option, Some, None, Bool, true, false}
use Rattle.std.specs.List.{All}
use Rattle.const_eval.specs.Terms.{Term}
use Rattle.const_eval.specs.Values.{value, is_true}
use Rattle.trans_seq.specs.declared.seq.Seq.{Seq}
use Rattle.trans_seq.specs.Windows.{is_known_in, InSome, EndsKept}
use Rattle.design_data.specs.declared.infos.ItemInfo.{ItemInfo}
use Rattle.design_data.specs.declared.infos.BinInfo.{BinInfo}
use Rattle.design_data.specs.declared.infos.BinKind.{BinKind}
use Rattle.design_data.specs.declared.infos.BinRule.{BinRule}
use Rattle.design_data.specs.declared.infos.BinRule.TheVariants.{Values, Patterns, Trans, Default, DefaultValues, DefaultSequence, Picked, Product}
use Rattle.design_data.specs.Bins.{seqs_of, removing_seqs}
use Rattle.design_data.specs.Laws.{Value, in_patterns, is_listed}
use Rattle.record_codec.specs.Samples.{Env}

-- a guard `iff` is true, or none is written: one that is Unknown isn't true
abbrev pub holds : Option Term → Env → Bool
holds None env = true
holds (Some guard) env = is_true (value guard env None)

-- The trace of a point: its values at the samples at which its guard is true, in order.
abbrev pub trace : Term → Option Term → List Env → List Value
trace expr guard samples = map (λ env. value expr env None) (filter (holds guard) samples)

-- ---- the rule of a bin

-- no window that ends with the last value is a list of one of the sequences
abbrev pub EndsNone : List Seq → List Value → Type 0
EndsNone seqs w = (from : ℕ) → from < length w → InSome seqs (drop from w) → ⊥

-- `default sequence` (19.5.2): a value came before, and no transition of the point ends here, ignored and illegal ones
-- included.
pub record IsDefaultSequence (item : ItemInfo) (before : List Value) (now : Value) : Type 0 where
  pub later : 0 < length before
  pub bins : All (λ bin. EndsNone (seqs_of bin.rule) (before ++ now ∷ [])) item.bins
  pub removing : EndsNone (item.ignored ++ item.illegal) (before ++ now ∷ [])

-- The rule of a bin of the point is met at the value `now` of a trace, after the values `before`: a value of its set
-- (19.5.1) or of its patterns (19.5.4), a window that is one of its transitions and no removing one (19.5.2), a value
-- that no bin lists, or the number of an element of a `default` array.
abbrev pub Meets : ItemInfo → BinKind → BinRule → List Value → Value → Type 0
Meets item kind (Values set) before now = is_known_in set now ≡ true
Meets item kind (Patterns patterns) before now = in_patterns patterns now ≡ true
Meets item kind (Trans seqs) before now = EndsKept seqs (removing_seqs item kind) (before ++ now ∷ [])
Meets item kind Default before now = is_listed item.bins now ≡ false
Meets item kind (DefaultValues set) before now = is_known_in set now ≡ true
Meets item kind DefaultSequence before now = IsDefaultSequence item before now
Meets item kind (Picked select) before now = ⊥
Meets item kind (Product places) before now = ⊥

-- ---- hits

-- The bin of a point is hit at the sample `now`, after the samples `earlier` of its instance: `now` is in the trace of
-- the point, the bin's guard is true there, and the bin's rule is met at the last value of the trace.
pub record HitAfter (item : ItemInfo) (expr : Term) (bin : BinInfo) (earlier : List Env) (now : Env) : Type 0 where
  pub in_trace : holds item.guard now ≡ true
  pub guarded : holds bin.guard now ≡ true
  pub meets : Meets item bin.kind bin.rule (trace expr item.guard earlier) (value expr now None)

-- the bin is hit at the k-th of all samples of its instance, counted from 0
abbrev pub HitAt : ItemInfo → Term → BinInfo → List Env → ℕ → Type 0
HitAt item expr bin all k = HitAfter item expr bin (take k all) (slice_index_or all k [])
