-- The tests of hits say what hits are.
use Rattle.std.proofs.Common.{◌≡◌, ◌↔◌, ℕ, zero, suc, ◌+◌, ◌<◌, List, [], ◌∷◌, ◌++◌, length, take, Bool, true, false, ◌&&◌, not, cond, refl, sym, ap, subst, ◌∙◌, inl, inr, arith, true≢false}
use Rattle.std.specs.Prelude.{Option, Some, None, slice_get, slice_index_or, count_by}
use Rattle.std.specs.List.{range_with_len, list_any, list_all}
use Rattle.std.specs.Option.{option_map_or}
use Rattle.std.proofs.lemmas.List.Sums.{sum_by-cons}
use Rattle.cov_spec.specs.Number.{Number}
use Rattle.cov_spec.specs.Number.Number.{none, yes, no}
use Rattle.const_eval.specs.Terms.{Term}
use Rattle.const_eval.specs.Values.{value}
use Rattle.trans_seq.specs.Windows.{is_end}
use Rattle.design_data.specs.declared.infos.ItemInfo.{ItemInfo}
use Rattle.design_data.specs.declared.infos.BinInfo.{BinInfo}
use Rattle.design_data.specs.declared.infos.BinKind.{BinKind}
use Rattle.design_data.specs.declared.infos.BinRule.{BinRule}
use Rattle.design_data.specs.declared.infos.BinRule.TheVariants.{Values, Patterns, Trans, Default, DefaultValues, DefaultSequence, Picked, Product}
use Rattle.design_data.specs.declared.infos.ItemShape.{ItemShape}
use Rattle.design_data.specs.declared.infos.ItemShape.TheVariants.{Point, Cross}
use Rattle.design_data.specs.Bins.{coverage_bins, seqs_of, removing_seqs, sizes_of}
use Rattle.design_data.specs.Crosses.{has, products}
use Rattle.design_data.specs.Laws.{Value, is_listed}
use Rattle.record_codec.specs.Samples.{Env}
use Rattle.cov_counting.specs.Hits.{holds, trace, EndsNone, IsDefaultSequence, Meets, HitAt}
use Rattle.cov_counting.specs.Crosses.{SomeHitAt, NumberHitAt, MemberHitAt, AllHitAt, CrossHitAt}
use Rattle.cov_counting.specs.Tallies.{ShapeHit, Hit, IsCount}
use Rattle.cov_counting.proofs.Bins.{Member}
use Rattle.cov_counting.proofs.Products.{is_product, in_products}
use Rattle.cov_history.specs.Tallies.{ends_none, is_default_sequence, meets, is_open, point_hit, number_hit, all_hit, cross_hit, shape_hit, count}
use Rattle.cov_history.proofs.Bools.{by_bool, and_left, and_right, both, not_true}
use Rattle.cov_history.proofs.Windows.{both_is, is_same, all_is, either, or_left, or_right, kept_is, none_is}

-- ---- points

some_before : (before : List Value) → (not (is_end before) ≡ true) ↔ (0 < length before)
some_before [] = ((λ h. absurd (true≢false (sym h))), (λ h. absurd (omega (arith, h))))
some_before (v ∷ w) = ((λ h. omega arith), (λ h. refl))

default_is : (item : ItemInfo) (before : List Value) (now : Value) → (is_default_sequence item before (before ++ now ∷ []) ≡ true) ↔ IsDefaultSequence item before now
default_is item before now =
    let all = before ++ now ∷ [] in
    let bins = list_all (λ (bin : BinInfo). ends_none (seqs_of bin.rule) all) item.bins in
    let removed = ends_none (item.ignored ++ item.illegal) all in
    let bins_is = all_is (λ (bin : BinInfo). ends_none (seqs_of bin.rule) all) (λ (bin : BinInfo). EndsNone (seqs_of bin.rule) all) (λ bin. none_is (seqs_of bin.rule) all) item.bins in
    let removed_is = none_is (item.ignored ++ item.illegal) all in (
      (λ h.
          let rest = and_right (not (is_end before)) (bins && removed) h in
          record { later = (some_before before).0 (and_left (not (is_end before)) (bins && removed) h); bins = bins_is.0 (and_left bins removed rest); removing = removed_is.0 (and_right bins removed rest) }),
      (λ d. both (not (is_end before)) (bins && removed) ((some_before before).1 d.later) (both bins removed (bins_is.1 d.bins) (removed_is.1 d.removing))),
    )

never : (false ≡ true) ↔ ⊥
never = ((λ h. true≢false (sym h)), (λ x. absurd x))

meets_is : (item : ItemInfo) (kind : BinKind) (rule : BinRule) (before : List Value) (now : Value) → (meets item kind rule before now ≡ true) ↔ Meets item kind rule before now
meets_is item kind (Values set) before now = is_same
meets_is item kind (Patterns patterns) before now = is_same
meets_is item kind (Trans seqs) before now = kept_is seqs (removing_seqs item kind) (before ++ now ∷ [])
meets_is item kind Default before now = ((λ h. not_true (is_listed item.bins now) h), (λ h. ap not h))
meets_is item kind (DefaultValues set) before now = is_same
meets_is item kind DefaultSequence before now = default_is item before now
meets_is item kind (Picked select) before now = never
meets_is item kind (Product members) before now = never

point_is : (item : ItemInfo) (expr : Term) (bin : BinInfo) (all : List Env) (k : ℕ) → (point_hit item expr bin all k ≡ true) ↔ HitAt item expr bin all k
point_is item expr bin all k =
    let now = slice_index_or all k [] in
    let met = meets item bin.kind bin.rule (trace expr item.guard (take k all)) (value expr now None) in
    let met_is = meets_is item bin.kind bin.rule (trace expr item.guard (take k all)) (value expr now None) in (
      (λ h.
          let guards = and_left (is_open item bin now) met h in
          record { in_trace = and_left (holds item.guard now) (holds bin.guard now) guards; guarded = and_right (holds item.guard now) (holds bin.guard now) guards; meets = met_is.0 (and_right (is_open item bin now) met h) }),
      (λ a. both (is_open item bin now) met (both (holds item.guard now) (holds bin.guard now) a.in_trace a.guarded) (met_is.1 a.meets)),
    )

-- ---- crosses

some_hit_is : (item : ItemInfo) (expr : Term) (found : Option BinInfo) (all : List Env) (k : ℕ) → (option_map_or (λ bin. point_hit item expr bin all k) found false ≡ true) ↔ SomeHitAt item expr found all k
some_hit_is item expr None all k = never
some_hit_is item expr (Some bin) all k = point_is item expr bin all k

number_is : (item : ItemInfo) (shape : ItemShape) (number : ℕ) (all : List Env) (k : ℕ) → (number_hit item shape number all k ≡ true) ↔ NumberHitAt item shape number all k
number_is item (Point expr) number all k = some_hit_is item expr (slice_get (coverage_bins item) number) all k
number_is item (Cross axes) number all k = never

member_is : (found : Option ItemInfo) (number : ℕ) (all : List Env) (k : ℕ) → (option_map_or (λ item. number_hit item item.shape number all k) found false ≡ true) ↔ MemberHitAt found number all k
member_is None number all k = never
member_is (Some item) number all k = number_is item item.shape number all k

all_hit_is : (items : List ItemInfo) (axes product : List ℕ) (all : List Env) (k : ℕ) → (all_hit items axes product all k ≡ true) ↔ AllHitAt items axes product all k
all_hit_is items [] product all k = ((λ h. tt), (λ h. refl))
all_hit_is items (axis ∷ axes) [] all k = never
all_hit_is items (axis ∷ axes) (number ∷ product) all k =
    both_is (option_map_or (λ item. number_hit item item.shape number all k) (slice_get items axis) false) (all_hit items axes product all k) (MemberHitAt (slice_get items axis) number all k) (AllHitAt items axes product all k)
    (member_is (slice_get items axis) number all k) (all_hit_is items axes product all k)

module _ {X : Type 0} (t : X → Bool) where
  from_any : (xs : List X) → list_any t xs ≡ true → (x : X) × Member xs x × (t x ≡ true)
  from_any [] h = absurd (true≢false (sym h))
  from_any (x ∷ xs) h = elim (either (t x) (list_any t xs) h) [
    | inl here ↦ (x, inl refl, here)
    | inr later ↦ let r = from_any xs later in (r.0, inr r.1, r.2)
  ]

  in_any : (xs : List X) (y : X) → Member xs y → t y ≡ true → list_any t xs ≡ true
  in_any [] y m h = absurd m
  in_any (x ∷ xs) y (inl e) h = or_left (t x) (list_any t xs) (ap t e ∙ h)
  in_any (x ∷ xs) y (inr m) h = or_right (t x) (list_any t xs) (in_any xs y m h)

module _ (items : List ItemInfo) (item : ItemInfo) (axes : List ℕ) (bin : BinInfo) (all : List Env) (k : ℕ) where
  abbrev now : Env
  now = slice_index_or all k []

  abbrev tried : List ℕ → Bool
  tried product = has item.bins bin.kind bin.rule product && all_hit items axes product all k

  abbrev some : Bool
  some = list_any tried (products (sizes_of items axes))

  cross_to : cross_hit items item axes bin all k ≡ true → CrossHitAt items item axes bin all k
  cross_to h =
      let guards = and_left (is_open item bin now) some h in
      let r = from_any tried (products (sizes_of items axes)) (and_right (is_open item bin now) some h) in
      record {
        guarded = and_left (holds item.guard now) (holds bin.guard now) guards;
        bin_guarded = and_right (holds item.guard now) (holds bin.guard now) guards;
        product = r.0;
        is_product = is_product (sizes_of items axes) r.0 r.1;
        is_own = and_left (has item.bins bin.kind bin.rule r.0) (all_hit items axes r.0 all k) r.2;
        members = (all_hit_is items axes r.0 all k).0 (and_right (has item.bins bin.kind bin.rule r.0) (all_hit items axes r.0 all k) r.2);
      }

  cross_back : CrossHitAt items item axes bin all k → cross_hit items item axes bin all k ≡ true
  cross_back c = both (is_open item bin now) some (both (holds item.guard now) (holds bin.guard now) c.guarded c.bin_guarded)
      (in_any tried (products (sizes_of items axes)) c.product (in_products (sizes_of items axes) c.product c.is_product)
      (both (has item.bins bin.kind bin.rule c.product) (all_hit items axes c.product all k) c.is_own ((all_hit_is items axes c.product all k).1 c.members)))

  cross_is : (cross_hit items item axes bin all k ≡ true) ↔ CrossHitAt items item axes bin all k
  cross_is = (cross_to, cross_back)

shape_is : (items : List ItemInfo) (item : ItemInfo) (shape : ItemShape) (bin : BinInfo) (all : List Env) (k : ℕ) → (shape_hit items item shape bin all k ≡ true) ↔ ShapeHit items item shape bin all k
shape_is items item (Point expr) bin all k = point_is item expr bin all k
shape_is items item (Cross axes) bin all k = cross_is items item axes bin all k

-- ---- counts

count_last : (t : ℕ → Bool) (n a : ℕ) → count_by t (range_with_len a (suc n)) ≡ count_by t (range_with_len a n) + cond (t (a + n)) 1 0
count_last t zero a =
    let c = sum_by-cons (λ (k : ℕ). cond (t k) 1 0) a [] in
    let e : a + 0 ≡ a = omega arith in
    let same : ◌≡◌ {A = ℕ} (cond (t (a + 0)) 1 0) (cond (t a) 1 0) = ap (λ (k : ℕ). cond (t k) 1 0) e in
    omega (arith, c, same)
count_last t (suc n) a =
    let c = sum_by-cons (λ (k : ℕ). cond (t k) 1 0) a (range_with_len (a + 1) (suc n)) in
    let d = sum_by-cons (λ (k : ℕ). cond (t k) 1 0) a (range_with_len (a + 1) n) in
    let rest = count_last t n (a + 1) in
    let e : (a + 1) + n ≡ a + suc n = omega arith in
    let same : ◌≡◌ {A = ℕ} (cond (t ((a + 1) + n)) 1 0) (cond (t (a + suc n)) 1 0) = ap (λ (k : ℕ). cond (t k) 1 0) e in
    omega (arith, c, d, rest, same)

number_is_count : (P : ℕ → Type 0) (t : ℕ → Bool) → ((k : ℕ) → (t k ≡ true) ↔ P k) → (n : ℕ) → Number P n (count_by t (range_with_len 0 n))
number_is_count P t is zero = none
number_is_count P t is (suc n) =
    let c = count_last t n 0 in
    let e : 0 + n ≡ n = omega arith in
    let same : ◌≡◌ {A = ℕ} (cond (t (0 + n)) 1 0) (cond (t n) 1 0) = ap (λ (k : ℕ). cond (t k) 1 0) e in
    let rest = number_is_count P t is n in
    by_bool (t n)
    (λ hit. let one : ◌≡◌ {A = ℕ} (cond (t n) 1 0) 1 = rw hit refl in
    let s : suc (count_by t (range_with_len 0 n)) ≡ count_by t (range_with_len 0 (suc n)) = omega (arith, c, same, one) in
    subst (λ (k : ℕ). Number P (suc n) k) s (yes rest ((is n).0 hit)))
    (λ miss. let one : ◌≡◌ {A = ℕ} (cond (t n) 1 0) 0 = rw miss refl in
    let s : count_by t (range_with_len 0 n) ≡ count_by t (range_with_len 0 (suc n)) = omega (arith, c, same, one) in
    subst (λ (k : ℕ). Number P (suc n) k) s (no rest (λ p. true≢false (sym ((is n).1 p) ∙ miss))))

pub count_is : (items : List ItemInfo) (item : ItemInfo) (all : List Env) (bin : BinInfo) → IsCount items item bin all (count items item all bin)
count_is items item all bin = number_is_count (Hit items item bin all) (shape_hit items item item.shape bin all) (shape_is items item item.shape bin all) (length all)
