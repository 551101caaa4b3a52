-- The bins of products.
use Rattle.std.proofs.Common.{◌≡◌, ◌≢◌, ℕ, zero, suc, ◌+◌, ◌<◌, ◌≤◌, List, [], ◌∷◌, ◌++◌, length, get_or, set, take, Bool, true, false, cond, Option, None, Some, refl, ap, sym, subst, ◌∙◌, inl, inr, arith, length-append, append_assoc}
use Rattle.std.specs.Prelude.{filter, slice_get, nat_eq, ◌==◌, ◌&&◌, not}
use Rattle.std.specs.List.{All, range_with_len}
use Rattle.std.specs.Cmp.Lexicographic.{pointwise}
use Rattle.std.proofs.lemmas.Bool.{cases_lt, eqb-true, eqb-false, eq-eqb, false≢true}
use Rattle.std.proofs.lemmas.List.{length-set, get_or-set_same, get_or-set_other, get_or_default, get_or_append_left, append-nil}
use Rattle.std.proofs.lemmas.List.Elements.{filter-append, All-filter}
use Rattle.std.proofs.lemmas.List.FromFn.{length-range_with_len, get_or-range_with_len}
use Rattle.std.proofs.lemmas.Option.{slice_get_read}
use Rattle.cross_select.specs.Selections.{is_selected}
use Rattle.cross_select.specs.Products.{product_of}
use Rattle.design_data.specs.declared.infos.BinInfo.{BinInfo}
use Rattle.design_data.specs.declared.infos.BinKind.{BinKind}
use Rattle.design_data.specs.declared.infos.BinRule.{BinRule}
use Rattle.design_data.specs.declared.infos.BinRule.TheVariants.{Values, Patterns, Trans, Default, DefaultValues, DefaultSequence, Picked, Product}
use Rattle.design_data.specs.Crosses.{IsProduct, picks, takes_from, leaves, is_left, has}
use Rattle.cross_sampler.specs.Numbers.{number_of, product_at}
use Rattle.cov_ground.specs.Limits.{most_bins}
use Rattle.cross_sampler.specs.declared.plan.CrossPlan.{CrossPlan}
use Rattle.cross_sampler.specs.declared.plan.Table.{Table}
use Rattle.cross_sampler.specs.declared.plan.Table.TheVariants.{Nothing}
use Rattle.const_eval.specs.Terms.{Term}
use Rattle.record_codec.specs.Samples.{Env}
use Rattle.cov_counting.specs.Hits.{holds}
use Rattle.cross_sampler.specs.Once.{guard_of, guard_at}
use Rattle.cross_sampler.specs.Plans.{is_picked, is_automatic, IsDeclaredEnd, IsGuardEnd, bin_has, has_at, bins_with, HaveBins, AreRows, IsTable, IsPlan}
use Rattle.cross_sampler.proofs.Radix.{number_below, product_back, number_back}

-- ---- declared bins stand in front

-- what all bins from an index on are, they are with one more
one_more : (P : BinInfo → Type 0) (bins : List BinInfo) (end k : ℕ) (bin : BinInfo) → k < length bins → bin ≡ get_or bins k bin → P bin → ((b : ℕ) (other : BinInfo) → end ≤ b → b < k → slice_get bins b ≡ Some other → P other)
    → (b : ℕ) (other : BinInfo) → end ≤ b → b < k + 1 → slice_get bins b ≡ Some other → P other
one_more P bins end k bin lt is none h b other le less at = elim (cases_lt b k) [
  | inl lower ↦ h b other le lower at
  | inr ge ↦
      let same : k ≡ b = omega (arith, ge, less) in
      let here : slice_get bins k ≡ Some bin = slice_get_read bins (length bins) k bin refl lt is in
      let one : Some bin ≡ Some other = sym here ∙ ap (λ (n : ℕ). slice_get bins n) same ∙ at in
      let equal : bin ≡ other = cc in
      subst P equal none
]

pub end_more : (bins : List BinInfo) (end k : ℕ) (bin : BinInfo) → k < length bins → bin ≡ get_or bins k bin → is_picked bin.rule ≡ false → ((b : ℕ) (other : BinInfo) → end ≤ b → b < k → slice_get bins b ≡ Some other → is_picked other.rule ≡ false)
    → (b : ℕ) (other : BinInfo) → end ≤ b → b < k + 1 → slice_get bins b ≡ Some other → is_picked other.rule ≡ false
end_more bins end k bin = one_more (λ (x : BinInfo). is_picked x.rule ≡ false) bins end k bin

pub guards_more : (bins : List BinInfo) (end k : ℕ) (bin : BinInfo) → k < length bins → bin ≡ get_or bins k bin → bin.guard ≡ None → ((b : ℕ) (other : BinInfo) → end ≤ b → b < k → slice_get bins b ≡ Some other → other.guard ≡ None)
    → (b : ℕ) (other : BinInfo) → end ≤ b → b < k + 1 → slice_get bins b ≡ Some other → other.guard ≡ None
guards_more bins end k bin = one_more (λ (x : BinInfo). x.guard ≡ None) bins end k bin

-- a bin without a guard counts at each sample
pub always : (bins : List BinInfo) (end b : ℕ) (env : Env) → IsGuardEnd bins end → end ≤ b → b < length bins → guard_at bins env b ≡ true
always bins end b env h le lt = by (slice_get bins b) refl
  where
    by : (found : Option BinInfo) → slice_get bins b ≡ found → guard_of env found ≡ true
    by None e = refl
    by (Some bin) e = ap (λ (guard : Option Term). holds guard env) (h.none b bin le e)

no_pick : (product : List ℕ) (rule : BinRule) → is_picked rule ≡ false → picks product rule ≡ false
no_pick product (Values set) e = refl
no_pick product (Patterns patterns) e = refl
no_pick product (Trans seqs) e = refl
no_pick product Default e = refl
no_pick product (DefaultValues set) e = refl
no_pick product DefaultSequence e = refl
no_pick product (Picked select) e = absurd (false≢true (sym e))
no_pick product (Product members) e = refl

not_both : (x y : Bool) → y ≡ false → not (x && y) ≡ true
not_both true y e = ap not e
not_both false y e = refl

front_left : (bins : List BinInfo) (d : ℕ) (kind : BinKind) (product : List ℕ) → ((b : ℕ) (bin : BinInfo) → d ≤ b → slice_get bins b ≡ Some bin → is_picked bin.rule ≡ false)
    → is_left (take d bins) kind product ≡ is_left bins kind product
front_left [] zero kind product h = refl
front_left [] (suc d) kind product h = refl
front_left (x ∷ bins) zero kind product h =
    let rest : true ≡ is_left bins kind product = front_left bins zero kind product (λ b bin le at. h (suc b) bin (omega arith) at) in
    let here : leaves x kind product ≡ true = not_both (takes_from x.kind kind) (picks product x.rule) (no_pick product x.rule (h zero x (omega arith) refl)) in
    sym (ap (λ (t : Bool). t && is_left bins kind product) here ∙ sym rest)
front_left (x ∷ bins) (suc d) kind product h = ap (λ (t : Bool). leaves x kind product && t) (front_left bins d kind product (λ b bin le at. h (suc b) bin (omega (arith, le)) at))

-- bins behind the declared ones take nothing away
pub has_front : (bins : List BinInfo) (d : ℕ) (kind : BinKind) (rule : BinRule) (product : List ℕ) → IsDeclaredEnd bins d → has (take d bins) kind rule product ≡ has bins kind rule product
has_front bins d kind (Values set) product h = refl
has_front bins d kind (Patterns patterns) product h = refl
has_front bins d kind (Trans seqs) product h = refl
has_front bins d kind Default product h = refl
has_front bins d kind (DefaultValues set) product h = refl
has_front bins d kind DefaultSequence product h = refl
has_front bins d kind (Picked select) product h = ap (λ (t : Bool). is_selected select product && t) (front_left bins d kind product h.none)
has_front bins d kind (Product members) product h = refl

-- ---- the first bins that have a product

range_more : (a n : ℕ) → range_with_len a (suc n) ≡ range_with_len a n ++ (a + n) ∷ []
range_more a zero = let e : a ≡ a + 0 = omega arith in ap (λ (x : ℕ). x ∷ []) e
range_more a (suc n) = ap (λ (xs : List ℕ). a ∷ xs) (range_more (a + 1) n ∙ (let e : a + 1 + n ≡ a + suc n = omega arith in ap (λ (x : ℕ). range_with_len (a + 1) n ++ x ∷ []) e))

module _ (bins : List BinInfo) (product : List ℕ) (k : ℕ) where
  bins_more : bins_with bins product (k + 1) ≡ bins_with bins product k ++ cond (has_at bins product k) (k ∷ []) []
  bins_more =
      let e : k + 1 ≡ suc k = omega arith in
      let z : 0 + k ≡ k = omega arith in
      let range : range_with_len 0 (suc k) ≡ range_with_len 0 k ++ k ∷ [] = range_more 0 k ∙ ap (λ (x : ℕ). range_with_len 0 k ++ x ∷ []) z in
      ap (λ (n : ℕ). bins_with bins product n) e ∙ ap (filter (has_at bins product)) range ∙ filter-append (has_at bins product) (range_with_len 0 k) (k ∷ [])

  pub bins_by : (b : Bool) → has_at bins product k ≡ b → bins_with bins product (k + 1) ≡ bins_with bins product k ++ cond b (k ∷ []) []
  bins_by b e = bins_more ∙ ap (λ (t : Bool). bins_with bins product k ++ cond t (k ∷ []) []) e

  at_bin : (bin : BinInfo) → k < length bins → bin ≡ get_or bins k bin → has_at bins product k ≡ has bins bin.kind bin.rule product
  at_bin bin lt is = ap (bin_has bins product) (slice_get_read bins (length bins) k bin refl lt is)

  pub bins_yes : (bin : BinInfo) → k < length bins → bin ≡ get_or bins k bin → has bins bin.kind bin.rule product ≡ true → bins_with bins product (k + 1) ≡ bins_with bins product k ++ k ∷ []
  bins_yes bin lt is e = bins_by true (at_bin bin lt is ∙ e)

  pub bins_no : (bin : BinInfo) → k < length bins → bin ≡ get_or bins k bin → has bins bin.kind bin.rule product ≡ false → bins_with bins product (k + 1) ≡ bins_with bins product k
  bins_no bin lt is e = bins_by false (at_bin bin lt is ∙ e) ∙ append-nil (bins_with bins product k)

-- one bin more behind what was there
pub push_more : (bins : List BinInfo) (product : List ℕ) (k : ℕ) (bin : BinInfo) (start old new : List ℕ) (t : Bool) → k < length bins → bin ≡ get_or bins k bin → t ≡ has bins bin.kind bin.rule product → old ≡ start ++ bins_with bins product k
    → new ≡ old ++ cond t (k ∷ []) [] → new ≡ start ++ bins_with bins product (k + 1)
push_more bins product k bin start old new t lt is test so_far push =
    push ∙ ap (λ (xs : List ℕ). xs ++ cond t (k ∷ []) []) so_far ∙ append_assoc start (bins_with bins product k) (cond t (k ∷ []) [])
    ∙ ap (λ (xs : List ℕ). start ++ xs) (sym (bins_by bins product k t (at_bin bins product k bin lt is ∙ sym test)))

pub bins_below : (bins : List BinInfo) (product : List ℕ) (n : ℕ) → All (λ b. b < n) (bins_with bins product n)
bins_below bins product n = All-filter (has_at bins product) (λ (b : ℕ). b < n) (range_with_len 0 n) (λ i d lt.
    let less : i < n = omega (arith, lt, length-range_with_len 0 n) in
    let at : get_or (range_with_len 0 n) i d ≡ 0 + i = get_or-range_with_len 0 n i d less in
    omega (arith, at, less))

-- ---- rows

pub have_push : (sizes : List ℕ) (bins : List BinInfo) (n number : ℕ) (rows new : List (List ℕ)) (row : List ℕ) → length rows ≡ number → row ≡ bins_with bins (product_at sizes number) n → new ≡ rows ++ row ∷ []
    → HaveBins sizes bins n rows → HaveBins sizes bins n new
have_push sizes bins n number rows new row len is push h at lt = elim (cases_lt at (length rows)) [
  | inl lower ↦ ap (λ (rs : List (List ℕ)). get_or rs at []) push ∙ get_or_append_left rows (row ∷ []) [] at lower ∙ h at lower
  | inr ge ↦
      let all : length new ≡ length rows + 1 = ap length push ∙ length-append rows (row ∷ []) in
      let same : length rows ≡ at = omega (arith, ge, lt, all) in
      ap (λ (rs : List (List ℕ)). get_or rs at []) push ∙ ap (λ (k : ℕ). get_or (rows ++ row ∷ []) k []) (sym same) ∙ last rows row ∙ is ∙ ap (λ (k : ℕ). bins_with bins (product_at sizes k) n) (sym len ∙ same)
]
  where
    last : (xs : List (List ℕ)) (x : List ℕ) → get_or (xs ++ x ∷ []) (length xs) [] ≡ x
    last [] x = refl
    last (y ∷ xs) x = last xs x

same_lists : (xs ys : List ℕ) → pointwise nat_eq xs ys ≡ true → xs ≡ ys
same_lists [] [] e = refl
same_lists [] (y ∷ ys) e = absurd (false≢true e)
same_lists (x ∷ xs) [] e = absurd (false≢true e)
same_lists (x ∷ xs) (y ∷ ys) e = by (nat_eq x y) refl e (same_lists xs ys)
  where
    by : (b : Bool) → nat_eq x y ≡ b → (b && pointwise nat_eq xs ys) ≡ true → (pointwise nat_eq xs ys ≡ true → xs ≡ ys) → x ∷ xs ≡ y ∷ ys
    by true is rest go = let a : x ≡ y = eqb-true x y is in let b : xs ≡ ys = go rest in ap (λ (z : ℕ). z ∷ xs) a ∙ ap (λ (zs : List ℕ). y ∷ zs) b
    by false is rest go = absurd (false≢true rest)

lists_same : (xs : List ℕ) → pointwise nat_eq xs xs ≡ true
lists_same [] = refl
lists_same (x ∷ xs) = ap (λ (t : Bool). t && pointwise nat_eq xs xs) (eq-eqb x x refl) ∙ lists_same xs

neither : (bins : List BinInfo) (kind : BinKind) (rule : BinRule) (product : List ℕ) → is_picked rule ≡ false → is_automatic rule ≡ false → has bins kind rule product ≡ false
neither bins kind (Values set) product e f = refl
neither bins kind (Patterns patterns) product e f = refl
neither bins kind (Trans seqs) product e f = refl
neither bins kind Default product e f = refl
neither bins kind (DefaultValues set) product e f = refl
neither bins kind DefaultSequence product e f = refl
neither bins kind (Picked select) product e f = absurd (false≢true (sym e))
neither bins kind (Product members) product e f = absurd (false≢true (sym f))

module _ (sizes : List ℕ) (bins : List BinInfo) (k : ℕ) (bin : BinInfo) (lt : k < length bins) (is : bin ≡ get_or bins k bin) where
  -- a bin that is neither declared nor automatic has no product
  pub rows_same : (rows : List (List ℕ)) → is_picked bin.rule ≡ false → is_automatic bin.rule ≡ false → AreRows sizes bins k rows → AreRows sizes bins (k + 1) rows
  rows_same rows e f h = record {
    all = h.all;
    at = λ number less. h.at number less ∙ sym (bins_no bins (product_at sizes number) k bin lt is (neither bins bin.kind bin.rule (product_at sizes number) e f));
  }

  -- an automatic bin is that of its product alone
  pub rows_more : (rows : List (List ℕ)) (members old new : List ℕ) (number : ℕ) → bin.rule ≡ Product members → IsProduct sizes members → number ≡ number_of 0 sizes members → old ≡ get_or rows number old → new ≡ old ++ k ∷ []
      → AreRows sizes bins k rows → AreRows sizes bins (k + 1) (set rows number new)
  rows_more rows members old new number rule p num is_old push h = record {
    all = length-set rows number new ∙ h.all;
    at = λ n less. at n (omega (arith, less, length-set rows number new)) (number == n) refl;
  }
    where
      inside : number < length rows
      inside = omega (arith, num, h.all, number_below sizes members p)

      at : (n : ℕ) → n < length rows → (b : Bool) → (number == n) ≡ b → get_or (set rows number new) n [] ≡ bins_with bins (product_at sizes n) (k + 1)
      at n less true e =
          let same : number ≡ n = eqb-true number n e in
          let back : product_at sizes n ≡ members = ap (product_at sizes) (sym same ∙ num) ∙ product_back sizes members p in
          let yes : has bins bin.kind bin.rule (product_at sizes n) ≡ true = ap (λ (r : BinRule). has bins bin.kind r (product_at sizes n)) rule ∙ ap (λ (xs : List ℕ). pointwise nat_eq xs members) back ∙ lists_same members in
          ap (λ (i : ℕ). get_or (set rows number new) i []) (sym same) ∙ get_or-set_same rows number new [] inside ∙ push
          ∙ ap (λ (xs : List ℕ). xs ++ k ∷ []) (is_old ∙ get_or_default rows number old [] inside ∙ ap (λ (i : ℕ). get_or rows i []) same ∙ h.at n less)
          ∙ sym (bins_yes bins (product_at sizes n) k bin lt is yes)
      at n less false e =
          get_or-set_other rows number n new [] (λ same. eqb-false number n e (sym same)) ∙ h.at n less ∙ sym (bins_no bins (product_at sizes n) k bin lt is (no (pointwise nat_eq (product_at sizes n) members) refl))
        where
          no : (b : Bool) → pointwise nat_eq (product_at sizes n) members ≡ b → has bins bin.kind bin.rule (product_at sizes n) ≡ false
          no false f = ap (λ (r : BinRule). has bins bin.kind r (product_at sizes n)) rule ∙ f
          no true f =
              let members_are : product_at sizes n ≡ members = same_lists (product_at sizes n) members f in
              let back : number_of 0 sizes (product_at sizes n) ≡ n = (number_back sizes n (omega (arith, less, h.all))).0 in
              absurd (eqb-false number n e (num ∙ ap (number_of 0 sizes) (sym members_are) ∙ back))

-- a cross without products
pub nothing_planned : (bins : List BinInfo) (sizes : List ℕ) (declared guards : ℕ) (plan : CrossPlan) → length bins ≤ most_bins → product_of sizes ≡ 0 → IsDeclaredEnd bins declared → IsGuardEnd bins guards → plan.sizes ≡ sizes → plan.declared ≡ declared → plan.guards ≡ guards → plan.table ≡ Nothing
    → IsPlan bins plan
nothing_planned bins sizes declared guards plan few none end guard_end are_sizes is_declared is_guards is_table =
    let empty : product_of plan.sizes ≡ 0 = ap product_of are_sizes ∙ none in
    record {
      few_bins = few;
      few = omega (arith, empty);
      declared = subst (IsDeclaredEnd bins) (sym is_declared) end;
      guards = subst (IsGuardEnd bins) (sym is_guards) guard_end;
      table = subst (λ (t : Table). IsTable plan.sizes plan.weights bins t) (sym is_table) (λ product p. absurd (omega (arith, number_below plan.sizes product p, empty)));
    }
