-- The items of an instance at one more sample.
use Rattle.std.proofs.Common.{◌≡◌, ◌≢◌, ◌⊎◌, ◌↔◌, ℕ, zero, suc, ◌+◌, ◌<◌, ◌≤◌, List, [], ◌∷◌, length, get_or, set, true, Option, None, Some, refl, ap, sym, subst, ◌∙◌, inl, inr, arith}
use Rattle.std.specs.Prelude.{slice_get, IsSomeAnd, IsTrue}
use Rattle.std.specs.List.{AllByRecursion, Contains}
use Rattle.std.specs.Global.{Vec}
use Rattle.std.proofs.lemmas.Bool.{cases_lt, cases_order, false≢true}
use Rattle.std.proofs.lemmas.List.{length-set, get_or-set_same, get_or-set_other}
use Rattle.std.proofs.lemmas.Option.{slice_get_within, slice_get-get_or, get_or_from_slice_get}
use Rattle.cov_spec.specs.Number.{Number}
use Rattle.design_data.specs.declared.infos.ItemInfo.{ItemInfo}
use Rattle.design_data.specs.declared.infos.ItemShape.{ItemShape}
use Rattle.design_data.specs.declared.infos.ItemShape.TheVariants.{Point, Cross}
use Rattle.design_data.specs.Bins.{is_point, IsNumberedFrom}
use Rattle.design_data.specs.Limits.{IsPointIndex}
use Rattle.record_codec.specs.Samples.{Env}
use Rattle.cov_counting.specs.Hits.{HitAt}
use Rattle.cov_counting.specs.Crosses.{NumberHitAt, MemberHitAt, CrossHitAt}
use Rattle.cross_sampler.specs.Numbers.{row_at, items_of}
use Rattle.cross_sampler.specs.Standing.{AreHit}
pub use Rattle.sampler_plans.proofs.Places.{one_of, each_more, read_at}
use Rattle.sampler_plans.specs.declared.plan.ItemPlan.{ItemPlan}
use Rattle.sampler_plans.specs.declared.plan.ItemPlan.TheVariants as plan
use Rattle.sampler.specs.declared.instance.ItemState.{ItemState}
use Rattle.sampler.specs.declared.instance.ItemState.TheVariants as kept
use Rattle.sampler.specs.Standing.{Stands, RowStands, RowsStand, AreNumbered, AreChosen, IsChosen, AllFit, FitsItem, AllStand, KeepsOthers, SomeTaken, AllTaken}

-- ---- rows of crossed points

by_shape : (point : ItemInfo) (all : List Env) (m : ℕ) (shape : ItemShape) (row : List ℕ) → is_point shape ≡ true → RowStands point all m shape row → (n : ℕ) → Contains row n ↔ NumberHitAt point shape n all m
by_shape point all m (Point expr) row e h n = h.is n
by_shape point all m (Cross axes) row e h n = absurd (false≢true e)

by_item : (items : List ItemInfo) (all : List Env) (m axis : ℕ) (row : List ℕ) (found : Option ItemInfo) → IsSomeAnd found (λ point. IsTrue (is_point point.shape)) → ((item : ItemInfo) → found ≡ Some item → RowStands item all m item.shape row)
    → (n : ℕ) → Contains row n ↔ MemberHitAt found n all m
by_item items all m axis row None h rows n = absurd h
by_item items all m axis row (Some point) h rows n = by_shape point all m point.shape row h (rows point refl) n

pub are_hit : (items : List ItemInfo) (chosen : List ℕ) (all : List Env) (m : ℕ) (rows : List (Vec ℕ)) (axes : List ℕ) → AllByRecursion (IsPointIndex items) axes → AllByRecursion (IsChosen chosen) axes → RowsStand items chosen all m rows → AreHit items axes rows all m
are_hit items chosen all m rows [] h own stand = tt
are_hit items chosen all m rows (axis ∷ axes) h own stand = (λ n. by_item items all m axis (row_at rows axis) (slice_get items axis) h.0 (λ item e. stand axis item own.0 e) n, are_hit items chosen all m rows axes h.1 own.1 stand)

-- ---- counts of other items

pub stands_kept : (items : List ItemInfo) (item : ItemInfo) (all : List Env) (m : ℕ) (shape : ItemShape) (p : ItemPlan) (s : ItemState) (old new : List ℕ)
    → ((b : ℕ) → b < length item.bins → get_or new (item.first_bin + b) 0 ≡ get_or old (item.first_bin + b) 0) → Stands items item all m shape p s old → Stands items item all m shape p s new
stands_kept items item all m (Point expr) (plan.Point p) (kept.Point s) old new same h = record {
  remembers = h.remembers;
  counted = λ k bin at. subst (Number (HitAt item expr bin all) m) (sym (same k (slice_get_within item.bins k bin at))) (h.counted k bin at);
}
stands_kept items item all m (Point expr) (plan.Point p) (kept.Cross s) old new same h = absurd h
stands_kept items item all m (Point expr) (plan.Cross p) s old new same h = absurd h
stands_kept items item all m (Cross axes) p (kept.Point s) old new same h = absurd h
stands_kept items item all m (Cross axes) p (kept.Cross s) old new same h = record {
  samples = h.samples;
  marks = h.marks;
  counted = λ b bin at. subst (Number (CrossHitAt items item axes bin all) m) (sym (same b (slice_get_within item.bins b bin at))) (h.counted b bin at);
}

pub numbered_ge : (first : ℕ) (items : List ItemInfo) (k : ℕ) (a : ItemInfo) → IsNumberedFrom first items → slice_get items k ≡ Some a → first ≤ a.first_bin
numbered_ge first [] k a h e = (cc)
numbered_ge first (x ∷ items) zero a h e = let same : x ≡ a = cc in omega (arith, h.0, ap (λ (i : ItemInfo). i.first_bin) same)
numbered_ge first (x ∷ items) (suc k) a h e = let more = numbered_ge (first + length x.bins) items k a h.1 e in omega (arith, more)

pub ordered : (first : ℕ) (items : List ItemInfo) (k t : ℕ) (a b : ItemInfo) → IsNumberedFrom first items → k < t → slice_get items k ≡ Some a → slice_get items t ≡ Some b → a.first_bin + length a.bins ≤ b.first_bin
ordered first [] k t a b h lt e f = (cc)
ordered first (x ∷ items) k zero a b h lt e f = absurd (omega (arith, lt))
ordered first (x ∷ items) zero (suc t) a b h lt e f =
    let same : x ≡ a = cc in
    let more = numbered_ge (first + length x.bins) items t b h.1 f in
    omega (arith, h.0, ap (λ (i : ItemInfo). i.first_bin) same, ap (λ (i : ItemInfo). length i.bins) same, more)
ordered first (x ∷ items) (suc k) (suc t) a b h lt e f = ordered (first + length x.bins) items k t a b h.1 (omega (arith, lt)) e f

-- another item's counts stay
others_stay : (items : List ItemInfo) (n k t : ℕ) (a b : ItemInfo) (old new : List ℕ) → AreNumbered items n → k ≢ t → slice_get items k ≡ Some a → slice_get items t ≡ Some b → KeepsOthers b old new
    → (i : ℕ) → i < length a.bins → get_or new (a.first_bin + i) 0 ≡ get_or old (a.first_bin + i) 0
others_stay items n k t a b old new h ne e f keeps i lt = elim (cases_order k t) [
  | inl same ↦ absurd (ne same)
  | inr (inl less) ↦ let apart = ordered h.first items k t a b h.numbered less e f in keeps (a.first_bin + i) (inl (omega (arith, apart, lt)))
  | inr (inr more) ↦ let apart = ordered h.first items t k b a h.numbered more f e in keeps (a.first_bin + i) (inr (omega (arith, apart)))
]

-- ---- a loop over the items that are taken along

pub some_first : (items : List ItemInfo) (plans : List ItemPlan) (chosen : List ℕ) (all : List Env) (before after : ItemShape → ℕ) (states : List ItemState) (counts : List ℕ) → AllStand items plans chosen all before states counts → SomeTaken items plans chosen all before after 0 counts states counts
some_first items plans chosen all before after states counts h = record { done = λ i k item p s lt. absurd (omega (arith, lt)); left = λ i k item p s le c e f. h i k item p s c e f; outside = λ number o. refl }

pub some_last : (items : List ItemInfo) (plans : List ItemPlan) (chosen : List ℕ) (all : List Env) (before after : ItemShape → ℕ) (t : ℕ) (old : List ℕ) (states : List ItemState) (counts : List ℕ) → length chosen ≤ t → SomeTaken items plans chosen all before after t old states counts
    → AllTaken items plans chosen all after old states counts
some_last items plans chosen all before after t old states counts le h = record { stand = λ i k item p s c e f. h.done i k item p s (omega (arith, le, slice_get_within chosen i k c)) c e f; outside = h.outside }

-- the number at a place is one
pub one_number : (xs : List ℕ) (i k l : ℕ) → slice_get xs i ≡ Some k → slice_get xs i ≡ Some l → k ≡ l
one_number xs i k l e f = one_of (λ (n : ℕ). k ≡ n) xs i k l e f refl

module _ (items : List ItemInfo) (plans : List ItemPlan) (chosen : List ℕ) (t at : ℕ) (item : ItemInfo) (p : ItemPlan) (state : ItemState) (here : AreChosen items chosen) (c : slice_get chosen t ≡ Some at) (e : slice_get items at ≡ Some item) (f : slice_get plans at ≡ Some p) where
  -- another place is that of another item
  other_item : (i k : ℕ) → (i ≡ t → ⊥) → slice_get chosen i ≡ Some k → (k ≡ at → ⊥)
  other_item i k ne ci same = ne (here.once i t k ci (c ∙ ap (λ (n : ℕ). Some n) (sym same)))

  -- what holds of the item at the place holds of what is found there
  found : (P : ItemInfo → ItemPlan → Type 0) (i k : ℕ) (x : ItemInfo) (q : ItemPlan) → t ≡ i → slice_get chosen i ≡ Some k → slice_get items k ≡ Some x → slice_get plans k ≡ Some q → P item p → P x q
  found P i k x q same ci ei fq h =
      let number : at ≡ k = one_number chosen i at k (ap (λ (j : ℕ). slice_get chosen j) (sym same) ∙ c) ci in
      let at_item : slice_get items k ≡ Some item = ap (λ (j : ℕ). slice_get items j) (sym number) ∙ e in
      let at_plan : slice_get plans k ≡ Some p = ap (λ (j : ℕ). slice_get plans j) (sym number) ∙ f in
      one_of (λ (j : ItemInfo). P j q) items k item x at_item ei (one_of (λ (r : ItemPlan). P item r) plans k p q at_plan fq h)

  pub some_more : (all : List Env) (before after : ItemShape → ℕ) (n : ℕ) (start : List ℕ) (states : List ItemState) (old new : List ℕ)
      → t < length states → AreNumbered items n → Stands items item all (after item.shape) item.shape p state new → KeepsOthers item old new
      → SomeTaken items plans chosen all before after t start states old → SomeTaken items plans chosen all before after (t + 1) start (set states t state) new
  some_more all before after n start states old new inside numbered stand keeps h = record {
    done = λ i k x q s lt ci ei fq. done i k x q s lt ci ei fq (cases_lt i t);
    left = λ i k x q s le ci ei fq. stays (before x.shape) i k x q s (λ same. absurd (omega (arith, same, le))) ci ei (h.left i k x q s (omega (arith, le)) ci ei fq);
    outside = λ number o. keeps number (o at item (t, c) e) ∙ h.outside number o;
  }
    where
      stays : (m i k : ℕ) (x : ItemInfo) (q : ItemPlan) (s : ItemState) → i ≢ t → slice_get chosen i ≡ Some k → slice_get items k ≡ Some x → Stands items x all m x.shape q (get_or states i s) old → Stands items x all m x.shape q (get_or (set states t state) i s) new
      stays m i k x q s ne ci ei stands = subst (λ (y : ItemState). Stands items x all m x.shape q y new) (sym (get_or-set_other states t i state s ne))
          (stands_kept items x all m x.shape q (get_or states i s) old new (others_stay items n k at x item old new numbered (other_item i k ne ci) ei e keeps) stands)

      done : (i k : ℕ) (x : ItemInfo) (q : ItemPlan) (s : ItemState) → i < t + 1 → slice_get chosen i ≡ Some k → slice_get items k ≡ Some x → slice_get plans k ≡ Some q → (i < t) ⊎ (t ≤ i) → Stands items x all (after x.shape) x.shape q (get_or (set states t state) i s) new
      done i k x q s lt ci ei fq (inl lower) = stays (after x.shape) i k x q s (λ same. absurd (omega (arith, same, lower))) ci ei (h.done i k x q s lower ci ei fq)
      done i k x q s lt ci ei fq (inr ge) =
          let same : t ≡ i = omega (arith, lt, ge) in
          let read : get_or (set states t state) i s ≡ state = ap (λ (j : ℕ). get_or (set states t state) j s) (sym same) ∙ get_or-set_same states t state s inside in
          found (λ (y : ItemInfo) (r : ItemPlan). Stands items y all (after y.shape) y.shape r (get_or (set states t state) i s) new) i k x q same ci ei fq
          (subst (λ (y : ItemState). Stands items item all (after item.shape) item.shape p y new) (sym read) stand)

  pub fits_more : (states : List ItemState) → t < length states → FitsItem item p state → AllFit items plans chosen states → AllFit items plans chosen (set states t state)
  fits_more states inside fit h = record {
    same_plans = h.same_plans;
    same = length-set states t state ∙ h.same;
    at = λ i k x q s ci ei fq. each i k x q s ci ei fq (cases_order i t);
  }
    where
      stays : (i k : ℕ) (x : ItemInfo) (q : ItemPlan) (s : ItemState) → slice_get chosen i ≡ Some k → slice_get items k ≡ Some x → slice_get plans k ≡ Some q → i ≢ t → FitsItem x q (get_or (set states t state) i s)
      stays i k x q s ci ei fq ne = subst (λ (y : ItemState). FitsItem x q y) (sym (get_or-set_other states t i state s ne)) (h.at i k x q s ci ei fq)

      each : (i k : ℕ) (x : ItemInfo) (q : ItemPlan) (s : ItemState) → slice_get chosen i ≡ Some k → slice_get items k ≡ Some x → slice_get plans k ≡ Some q → (i ≡ t) ⊎ ((i < t) ⊎ (t < i)) → FitsItem x q (get_or (set states t state) i s)
      each i k x q s ci ei fq (inl same) =
          let read : get_or (set states t state) i s ≡ state = ap (λ (j : ℕ). get_or (set states t state) j s) same ∙ get_or-set_same states t state s inside in
          found (λ (y : ItemInfo) (r : ItemPlan). FitsItem y r (get_or (set states t state) i s)) i k x q (sym same) ci ei fq (subst (λ (y : ItemState). FitsItem item p y) (sym read) fit)
      each i k x q s ci ei fq (inr (inl less)) = stays i k x q s ci ei fq (λ same. absurd (omega (arith, same, less)))
      each i k x q s ci ei fq (inr (inr more)) = stays i k x q s ci ei fq (λ same. absurd (omega (arith, same, more)))

-- it is the same with another default
pub same_read : {X : Type 0} (xs : List X) (k : ℕ) (d x : X) → k < length xs → x ≡ get_or xs k x → get_or xs k d ≡ x
same_read xs k d x lt is = get_or_from_slice_get xs k x d (read_at xs k x lt is)

pub empty_list : {X : Type 0} (xs : List X) → length xs ≡ 0 → xs ≡ []
empty_list [] e = refl
empty_list (x ∷ xs) e = absurd (omega (arith, e))

-- a row that is set
pub row_same : (rows : List (Vec ℕ)) (k : ℕ) (row : Vec ℕ) → k < length rows → row_at (set rows k row) k ≡ row.items
row_same rows k row lt =
    ap items_of (slice_get-get_or (set rows k row) k row (omega (arith, lt, length-set rows k row)) ∙ ap (λ (r : Vec ℕ). Some r) (get_or-set_same rows k row row lt))

pub row_other : (rows : List (Vec ℕ)) (index k : ℕ) (row : Vec ℕ) → k ≢ index → row_at (set rows index row) k ≡ row_at rows k
row_other rows index k row ne = ap items_of (get_other rows index k row ne)
  where
    get_other : (rows : List (Vec ℕ)) (index k : ℕ) (row : Vec ℕ) → k ≢ index → slice_get (set rows index row) k ≡ slice_get rows k
    get_other [] index k row ne = refl
    get_other (x ∷ rows) zero zero row ne = absurd (ne refl)
    get_other (x ∷ rows) zero (suc k) row ne = refl
    get_other (x ∷ rows) (suc index) zero row ne = refl
    get_other (x ∷ rows) (suc index) (suc k) row ne = get_other rows index k row (λ e. ne (ap suc e))

-- the rows of the items before place t have what is hit
abbrev pub SomeRows : List ItemInfo → (chosen : List ℕ) → List Env → (m t : ℕ) → List (Vec ℕ) → Type 0
SomeRows items chosen all m t rows = (i k : ℕ) (item : ItemInfo) → i < t → slice_get chosen i ≡ Some k → slice_get items k ≡ Some item → RowStands item all m item.shape (row_at rows k)

pub rows_more : (items : List ItemInfo) (chosen : List ℕ) (all : List Env) (m t at : ℕ) (old new : List (Vec ℕ)) (item : ItemInfo) → AreChosen items chosen → slice_get chosen t ≡ Some at → slice_get items at ≡ Some item
    → RowStands item all m item.shape (row_at new at) → ((k : ℕ) → k ≢ at → row_at new k ≡ row_at old k) → SomeRows items chosen all m t old → SomeRows items chosen all m (t + 1) new
rows_more items chosen all m t at old new item own c e here same h i k x lt ci ei = elim (cases_lt i t) [
  | inl lower ↦ subst (RowStands x all m x.shape) (sym (same k (λ eq. absurd (let one : i ≡ t = own.once i t k ci (c ∙ ap (λ (n : ℕ). Some n) (sym eq)) in omega (arith, one, lower))))) (h i k x lower ci ei)
  | inr ge ↦
      let place : t ≡ i = omega (arith, lt, ge) in
      let number : at ≡ k = one_number chosen i at k (ap (λ (j : ℕ). slice_get chosen j) (sym place) ∙ c) ci in
      let here_item : slice_get items k ≡ Some item = ap (λ (j : ℕ). slice_get items j) (sym number) ∙ e in
      one_of (λ (j : ItemInfo). RowStands j all m j.shape (row_at new k)) items k item x here_item ei (subst (λ (j : ℕ). RowStands item all m item.shape (row_at new j)) number here)
]

-- all rows have it at the end
pub rows_all : (items : List ItemInfo) (chosen : List ℕ) (all : List Env) (m t : ℕ) (rows : List (Vec ℕ)) → length chosen ≤ t → SomeRows items chosen all m t rows → RowsStand items chosen all m rows
rows_all items chosen all m t rows le h k item own e = h own.0 k item (omega (arith, le, slice_get_within chosen own.0 k own.1)) own.1 e
