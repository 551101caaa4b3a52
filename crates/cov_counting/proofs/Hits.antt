-- What a hit says.
use Rattle.std.proofs.Common.{◌≡◌, ℕ, zero, suc, ◌+◌, ◌<◌, List, [], ◌∷◌, ◌++◌, length, map, take, filter, Bool, true, false, cond, Option, Some, None, ap, sym, subst, ◌∙◌}
use Rattle.std.specs.Prelude.{slice_get, slice_index, slice_index_or}
use Rattle.std.specs.Cmp.Lexicographic.{same_text}
use Rattle.std.proofs.lemmas.Bool.{false≢true}
use Rattle.std.proofs.lemmas.List.{append-nil, map-append}
use Rattle.std.proofs.lemmas.List.Elements.{filter_more}
use Rattle.std.proofs.lemmas.Option.{cond_some}
use Rattle.const_eval.specs.Terms.{Term}
use Rattle.const_eval.specs.Values.{value}
use Rattle.trans_seq.specs.Windows.{EndsKept}
use Rattle.design_data.specs.declared.infos.ItemInfo.{ItemInfo}
use Rattle.design_data.specs.declared.infos.BinInfo.{BinInfo}
use Rattle.design_data.specs.declared.infos.BinRule.{BinRule}
use Rattle.design_data.specs.declared.infos.BinRule.TheVariants.{Product}
use Rattle.design_data.specs.declared.infos.ItemShape.{ItemShape}
use Rattle.design_data.specs.declared.infos.ItemShape.TheVariants.{Point, Cross}
use Rattle.design_data.specs.Bins.{coverage_bins, removing_seqs}
use Rattle.design_data.specs.Crosses.{has}
use Rattle.design_data.specs.Laws.{Value}
use Rattle.record_codec.specs.Samples.{Env, samples_of}
use Rattle.cov_counting.specs.Hits.{holds, trace, Meets, HitAt}
use Rattle.cov_counting.specs.Crosses.{SomeHitAt, NumberHitAt, MemberHitAt, AllHitAt, CrossHitAt}
use Rattle.cov_counting.specs.Tallies.{ShapeHit, Hit}
use Rattle.cov_counting.specs.Laws.{StaysOutsideTrace, HasKept, RemovedNeverCount, IsMember, AtMostMembers}
use Rattle.cov_counting.proofs.Counts.{number_stays, number_le}

-- ---- points

module _ (expr : Term) (guard : Option Term) where
  -- the trace at one sample more, where the guard is true
  pub trace_more : (all : List Env) (k : ℕ) → k < length all → holds guard (slice_index_or all k []) ≡ true
      → trace expr guard (take (k + 1) all) ≡ trace expr guard (take k all) ++ value expr (slice_index_or all k []) None ∷ []
  trace_more all k lt on =
      let env = slice_index_or all k [] in
      let read : Env → Value = λ e. value expr e None in
      ap (map read) (filter_more (holds guard) all k [] lt ∙ ap (λ (b : Bool). filter (holds guard) (take k all) ++ cond b (env ∷ []) []) on)
      ∙ map-append read (filter (holds guard) (take k all)) (env ∷ [])

  -- and where it isn't
  pub trace_same : (all : List Env) (k : ℕ) → k < length all → holds guard (slice_index_or all k []) ≡ false → trace expr guard (take (k + 1) all) ≡ trace expr guard (take k all)
  trace_same all k lt off =
      let env = slice_index_or all k [] in
      let read : Env → Value = λ e. value expr e None in
      ap (map read) (filter_more (holds guard) all k [] lt ∙ ap (λ (b : Bool). filter (holds guard) (take k all) ++ cond b (env ∷ []) []) off)
      ∙ ap (map read) (append-nil (filter (holds guard) (take k all)))

pub outside : StaysOutsideTrace
outside items item bin expr all n before after shape off h k =
    number_stays (Hit items item bin all) n before after
    (λ hit. let at : HitAt item expr bin all n = subst (λ (s : ItemShape). ShapeHit items item s bin all n) shape hit in absurd (false≢true (sym off ∙ at.in_trace))) h k

pub kept : RemovedNeverCount
kept item expr bin seqs all k lt rule hit =
    let before = trace expr item.guard (take k all) in
    let now = value expr (slice_index_or all k []) None in
    let c : EndsKept seqs (removing_seqs item bin.kind) (before ++ now ∷ []) = subst (λ (r : BinRule). Meets item bin.kind r before now) rule hit.meets in
    subst (λ (w : List Value). HasKept seqs (removing_seqs item bin.kind) w) (sym (trace_more expr item.guard all k lt hit.in_trace))
    (record { from = c.from; some = c.some; is_own = c.in_own; not_removed = c.not_removed })

-- ---- crosses

-- the member at an index
all_member : (items : List ItemInfo) (axes product : List ℕ) (all : List Env) (k index axis number : ℕ) → AllHitAt items axes product all k
    → slice_get axes index ≡ Some axis → slice_get product index ≡ Some number → MemberHitAt (slice_get items axis) number all k
all_member items [] product all k index axis number h a p = (cc)
all_member items (x ∷ axes) [] all k index axis number h a p = absurd h
all_member items (x ∷ axes) (y ∷ product) all k zero axis number h a p =
    subst (λ (n : ℕ). MemberHitAt (slice_get items n) number all k) (cond_some true x axis a).1 (subst (λ (n : ℕ). MemberHitAt (slice_get items x) n all k) (cond_some true y number p).1 h.0)
all_member items (x ∷ axes) (y ∷ product) all k (suc index) axis number h a p = all_member items axes product all k index axis number h.1 a p

-- a member that is hit is a bin of its point that is hit
shaped : (items : List ItemInfo) (point : ItemInfo) (shape : ItemShape) (number : ℕ) (bin : BinInfo) (all : List Env) (k : ℕ)
    → NumberHitAt point shape number all k → slice_get (coverage_bins point) number ≡ Some bin → ShapeHit items point shape bin all k
shaped items point (Point expr) number bin all k h e = subst (λ (o : Option BinInfo). SomeHitAt point expr o all k) e h
shaped items point (Cross axes) number bin all k h e = absurd h

member_hit : (items : List ItemInfo) (cross point : ItemInfo) (bin member : BinInfo) (axes product : List ℕ) (all : List Env) (k : ℕ)
    → cross.shape ≡ Cross axes → bin.rule ≡ Product product → IsMember items axes product point member → Hit items cross bin all k → Hit items point member all k
member_hit items cross point bin member axes product all k shape rule m hit =
    let h : CrossHitAt items cross axes bin all k = subst (λ (s : ItemShape). ShapeHit items cross s bin all k) shape hit in
    let own : has cross.bins bin.kind (Product product) h.product ≡ true = subst (λ (r : BinRule). has cross.bins bin.kind r h.product ≡ true) rule h.is_own in
    let hits : AllHitAt items axes product all k = subst (λ (p : List ℕ). AllHitAt items axes p all k) (same_text h.product product (sym own)) h.members in
    let some : MemberHitAt (Some point) m.number all k = subst (λ (o : Option ItemInfo). MemberHitAt o m.number all k) m.is_point (all_member items axes product all k m.index m.axis m.number hits m.is_axis m.is_number) in
    shaped items point point.shape m.number member all k some m.is_bin

pub members : AtMostMembers
members d r counts tally instance inst cross point bin member axes product number member_number shape rule m b mb =
    let all = samples_of r instance in
    number_le (Hit inst.items cross bin all) (Hit inst.items point member all) (length all) (slice_index counts number) (slice_index counts member_number)
    (λ k lt hit. member_hit inst.items cross point bin member axes product all k shape rule m hit)
    (tally.at instance inst cross bin number b) (tally.at instance inst point member member_number mb)
