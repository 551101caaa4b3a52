-- The items of a part, and the numbers of their bins.
use Rattle.std.proofs.Common.{◌≡◌, ◌⊎◌, ℕ, zero, suc, ◌+◌, ◌^◌, ◌<◌, ◌≤◌, List, [], ◌∷◌, length, Bool, true, false, cond, Some, refl, ap, sym, subst, ◌∙◌, inl, inr, arith}
use Rattle.std.specs.Prelude.{slice_get, slice_index, filter, ◌==◌, ◌%◌}
use Rattle.std.specs.List.{AllByRecursion, range_with_len}
use Rattle.std.proofs.lemmas.Bool.{cases_lt, cases_order, eq-eqb, eqb-true, false≢true}
use Rattle.std.proofs.lemmas.Option.{slice_get_within}
use Rattle.design_data.specs.declared.infos.ItemInfo.{ItemInfo}
use Rattle.design_data.specs.declared.infos.InstInfo.{InstInfo}
use Rattle.design_data.specs.declared.infos.GroupInfo.{GroupInfo}
use Rattle.design_data.specs.declared.infos.ItemShape.{ItemShape}
use Rattle.design_data.specs.declared.infos.ItemShape.TheVariants.{Point, Cross}
use Rattle.design_data.specs.Bins.{total, bins_in, items_of_group, items_from, IsNumberedFrom}
use Rattle.design_data.specs.declared.infos.BinInfo.{BinInfo}
use Rattle.design_data.specs.declared.design.Design.{Design}
use Rattle.design_data.specs.Limits.{IsPointIndex, IsItem, IsInstance, IsShape}
use Rattle.record_codec.specs.declared.record.Record.{Record}
use Rattle.record_codec.specs.Samples.{samples_of}
use Rattle.cov_counting.specs.Tallies.{IsCount, IsBin, IsTally}
use Rattle.point_sampler.specs.Points.{IsOutside}
use Rattle.cov_counting.proofs.Bins.{each_at}
use Rattle.cov_counting.proofs.Done.{numbered_front, numbered_back, bins_in-append, group_then, group_else}
use Rattle.sampler_plans.specs.declared.plan.Plan.{Plan}
use Rattle.sampler_plans.specs.Plans.{IsDesignPlan}
use Rattle.sampler_plans.specs.Shares.{labels_at, chosen_items, part_of, IsShareOf, IsTogether, AreItemsTogether, AreTogether, IsPartTally}
use Rattle.sampler.specs.Standing.{AreChosen, IsChosen, IsCovered, AreNumbered}
use Rattle.sampler.specs.Starting.{AreAllZero}
use Rattle.sampler.specs.Walking.{AreApart, AreAllApart, IsWork, ShareCounted}
use Rattle.sampler.proofs.Items.{ordered, one_of}
use Rattle.sampler.proofs.Starts.{some_of}

-- ---- numbers that pass a test

module _ (test : ℕ → Bool) where
  abbrev passing : ℕ → ℕ → List ℕ
  passing from n = filter test (range_with_len from n)

  step_true : (from n : ℕ) → test from ≡ true → passing from (suc n) ≡ from ∷ passing (from + 1) n
  step_true from n e = ap (λ (b : Bool). cond b (from ∷ passing (from + 1) n) (passing (from + 1) n)) e

  step_false : (from n : ℕ) → test from ≡ false → passing from (suc n) ≡ passing (from + 1) n
  step_false from n e = ap (λ (b : Bool). cond b (from ∷ passing (from + 1) n) (passing (from + 1) n)) e

  abbrev Known : (from n k : ℕ) → Type 0
  Known from n k = (from ≤ k) × (k < from + n) × (test k ≡ true)

  -- a number at some place is one that passes
  pub passes : (from n i k : ℕ) → slice_get (passing from n) i ≡ Some k → Known from n k
  passes from zero i k e = (cc)
  passes from (suc n) i k e = by (test from) refl (λ j f. passes (from + 1) n j k f) i e
    where
      later : Known (from + 1) n k → Known from (suc n) k
      later h = (omega (arith, h.0), omega (arith, h.1), h.2)

      by : (b : Bool) → test from ≡ b → ((j : ℕ) → slice_get (passing (from + 1) n) j ≡ Some k → Known (from + 1) n k) → (i : ℕ) → slice_get (passing from (suc n)) i ≡ Some k → Known from (suc n) k
      by true is go zero e = let at : slice_get (from ∷ passing (from + 1) n) 0 ≡ Some k = ap (λ (xs : List ℕ). slice_get xs 0) (sym (step_true from n is)) ∙ e in let same : from ≡ k = cc in (omega (arith, same), omega (arith, same), ap test (sym same) ∙ is)
      by true is go (suc i) e = later (go i (ap (λ (xs : List ℕ). slice_get xs (suc i)) (sym (step_true from n is)) ∙ e))
      by false is go i e = later (go i (ap (λ (xs : List ℕ). slice_get xs i) (sym (step_false from n is)) ∙ e))

  -- each that passes stands at some place
  pub stands_in : (from n k : ℕ) → Known from n k → IsChosen (passing from n) k
  stands_in from zero k h = absurd (omega (arith, h.0, h.1))
  stands_in from (suc n) k h = by (test from) refl (λ lt. stands_in (from + 1) n k (omega (arith, lt), omega (arith, h.1), h.2)) (cases_lt from k)
    where
      by : (b : Bool) → test from ≡ b → (from < k → IsChosen (passing (from + 1) n) k) → (from < k) ⊎ (k ≤ from) → IsChosen (passing from (suc n)) k
      by true is next (inl lt) = let r = next lt in (suc r.0, ap (λ (xs : List ℕ). slice_get xs (suc r.0)) (step_true from n is) ∙ r.1)
      by true is next (inr ge) = let same : from ≡ k = omega (arith, h.0, ge) in (zero, ap (λ (xs : List ℕ). slice_get xs 0) (step_true from n is) ∙ ap (λ (j : ℕ). Some j) same)
      by false is next (inl lt) = let r = next lt in (r.0, ap (λ (xs : List ℕ). slice_get xs r.0) (step_false from n is) ∙ r.1)
      by false is next (inr ge) = let same : from ≡ k = omega (arith, h.0, ge) in absurd (false≢true (sym is ∙ ap test same ∙ h.2))

  -- and at one alone
  pub stands_once : (from n i j k : ℕ) → slice_get (passing from n) i ≡ Some k → slice_get (passing from n) j ≡ Some k → i ≡ j
  stands_once from zero i j k e f = (cc)
  stands_once from (suc n) i j k e f = by (test from) refl (λ a b p q. stands_once (from + 1) n a b k p q) i j e f
    where
      not_later : (j : ℕ) → slice_get (from ∷ passing (from + 1) n) 0 ≡ Some k → slice_get (passing (from + 1) n) j ≡ Some k → ⊥
      not_later j e f = let same : from ≡ k = cc in absurd (omega (arith, same, (passes (from + 1) n j k f).0))

      by : (b : Bool) → test from ≡ b → ((a b : ℕ) → slice_get (passing (from + 1) n) a ≡ Some k → slice_get (passing (from + 1) n) b ≡ Some k → a ≡ b) → (i j : ℕ) → slice_get (passing from (suc n)) i ≡ Some k → slice_get (passing from (suc n)) j ≡ Some k → i ≡ j
      by true is go zero zero e f = refl
      by true is go zero (suc j) e f = absurd (not_later j (ap (λ (xs : List ℕ). slice_get xs 0) (sym (step_true from n is)) ∙ e) (ap (λ (xs : List ℕ). slice_get xs (suc j)) (sym (step_true from n is)) ∙ f))
      by true is go (suc i) zero e f = absurd (not_later i (ap (λ (xs : List ℕ). slice_get xs 0) (sym (step_true from n is)) ∙ f) (ap (λ (xs : List ℕ). slice_get xs (suc i)) (sym (step_true from n is)) ∙ e))
      by true is go (suc i) (suc j) e f = ap suc (go i j (ap (λ (xs : List ℕ). slice_get xs (suc i)) (sym (step_true from n is)) ∙ e) (ap (λ (xs : List ℕ). slice_get xs (suc j)) (sym (step_true from n is)) ∙ f))
      by false is go i j e f = go i j (ap (λ (xs : List ℕ). slice_get xs i) (sym (step_false from n is)) ∙ e) (ap (λ (xs : List ℕ). slice_get xs j) (sym (step_false from n is)) ∙ f)

-- ---- the items of a part

module _ (items : List ItemInfo) (labels : List ℕ) (parts part : ℕ) where
  abbrev own : List ℕ
  own = chosen_items labels parts part (length items)

  pub of_part : (k : ℕ) → IsChosen own k → slice_index labels k % parts ≡ part
  of_part k h = eqb-true (slice_index labels k % parts) part (passes (λ index. slice_index labels index % parts == part) 0 (length items) h.0 k h.1).2

  pub has_part : (k : ℕ) → k < length items → slice_index labels k % parts ≡ part → IsChosen own k
  has_part k lt e = stands_in (λ index. slice_index labels index % parts == part) 0 (length items) k (omega arith, omega (arith, lt), eq-eqb (slice_index labels k % parts) part e)

  all_covered : (k : ℕ) (axes : List ℕ) → IsChosen own k → AllByRecursion (IsPointIndex items) axes → AllByRecursion (λ axis. slice_index labels axis ≡ slice_index labels k) axes → AllByRecursion (IsChosen own) axes
  all_covered k [] h points same = tt
  all_covered k (axis ∷ axes) h points same = (has_part axis (point_within items axis points.0) (ap (λ (n : ℕ). n % parts) same.0 ∙ of_part k h), all_covered k axes h points.1 same.1)
    where
      point_within : (items : List ItemInfo) (axis : ℕ) → IsPointIndex items axis → axis < length items
      point_within [] axis h = absurd h
      point_within (x ∷ items) zero h = omega arith
      point_within (x ∷ items) (suc axis) h = let lt = point_within items axis h in omega (arith, lt)

  covered : (k : ℕ) (item : ItemInfo) (shape : ItemShape) → IsChosen own k → IsShape items item shape → IsTogether labels k shape → IsCovered own shape
  covered k item (Point expr) h valid together = tt
  covered k item (Cross axes) h valid together = all_covered k axes h valid.points together

  pub are_chosen : AllByRecursion (IsItem items) items → AreItemsTogether items labels → AreChosen items own
  are_chosen valid together = record {
    once = λ i j k e f. stands_once (λ index. slice_index labels index % parts == part) 0 (length items) i j k e f;
    within = λ i k e. (let lt = (passes (λ index. slice_index labels index % parts == part) 0 (length items) i k e).1 in omega (arith, lt));
    covered = λ k item h e. covered k item item.shape h (each_at (IsItem items) items k item valid e).shape (together k item e);
  }

-- ---- the numbers of the bins of two instances

-- the bins of items have numbers from `low` up to `high`
abbrev AreBetween : (low high : ℕ) → List ItemInfo → Type 0
AreBetween low high items = (k : ℕ) (item : ItemInfo) → slice_get items k ≡ Some item → (low ≤ item.first_bin) × (item.first_bin + length item.bins ≤ high)

between : (first : ℕ) (items : List ItemInfo) → IsNumberedFrom first items → AreBetween first (first + bins_in items) items
between first [] h k item e = (cc)
between first (x ∷ items) h zero item e = let same : x ≡ item = cc in (omega (arith, h.0, ap (λ (i : ItemInfo). i.first_bin) same), omega (arith, h.0, ap (λ (i : ItemInfo). i.first_bin + length i.bins) same))
between first (x ∷ items) h (suc k) item e = let r = between (first + length x.bins) items h.1 k item e in (omega (arith, r.0), omega (arith, r.1))

-- the bins of an instance of a group are among those of the group
of_group : (group first j : ℕ) (insts : List InstInfo) (inst : InstInfo) → IsNumberedFrom first (items_of_group insts group) → slice_get insts j ≡ Some inst → inst.group ≡ group
    → (low : ℕ) × (first ≤ low) × (low + bins_in inst.items ≤ first + bins_in (items_of_group insts group)) × IsNumberedFrom low inst.items
of_group group first j [] inst h e same = (cc)
of_group group first zero (x ∷ insts) inst h e same =
    let is : x ≡ inst = cc in
    let split = group_then group x insts (ap (λ (i : InstInfo). i.group) is ∙ same) in
    let numbered = subst (IsNumberedFrom first) split h in
    let size = ap bins_in split ∙ bins_in-append x.items (items_of_group insts group) in
    (first, omega arith, omega (arith, size, ap (λ (i : InstInfo). bins_in i.items) is), subst (λ (i : InstInfo). IsNumberedFrom first i.items) is (numbered_front first x.items (items_of_group insts group) numbered))
of_group group first (suc j) (x ∷ insts) inst h e same = elim (cases_order x.group group) [
  | inl own ↦
      let split = group_then group x insts own in
      let numbered = numbered_back first x.items (items_of_group insts group) (subst (IsNumberedFrom first) split h) in
      let size = ap bins_in split ∙ bins_in-append x.items (items_of_group insts group) in
      let r = of_group group (first + bins_in x.items) j insts inst numbered e same in
      (r.0, omega (arith, r.1), omega (arith, r.2, size), r.3)
  | inr other ↦
      let split = group_else group x insts (λ eq. differ x.group group eq other) in
      let r = of_group group first j insts inst (subst (IsNumberedFrom first) split h) e same in
      (r.0, r.1, omega (arith, r.2, ap bins_in split), r.3)
]
  where
    differ : (a b : ℕ) → a ≡ b → (a < b) ⊎ (b < a) → ⊥
    differ a b e (inl lt) = absurd (omega (arith, e, lt))
    differ a b e (inr lt) = absurd (omega (arith, e, lt))

-- the bins of the first of two instances of a group come first
in_order : (group first j k : ℕ) (insts : List InstInfo) (x y : InstInfo) → IsNumberedFrom first (items_of_group insts group) → j < k → slice_get insts j ≡ Some x → slice_get insts k ≡ Some y → x.group ≡ group → y.group ≡ group
    → (a b : ℕ) × (a + bins_in x.items ≤ b) × IsNumberedFrom a x.items × IsNumberedFrom b y.items
in_order group first j k [] x y h lt e f s t = (cc)
in_order group first j zero (z ∷ insts) x y h lt e f s t = absurd (omega (arith, lt))
in_order group first zero (suc k) (z ∷ insts) x y h lt e f s t =
    let is : z ≡ x = cc in
    let split = group_then group z insts (ap (λ (i : InstInfo). i.group) is ∙ s) in
    let numbered = subst (IsNumberedFrom first) split h in
    let r = of_group group (first + bins_in z.items) k insts y (numbered_back first z.items (items_of_group insts group) numbered) f t in
    (first, r.0, omega (arith, r.1, ap (λ (i : InstInfo). bins_in i.items) is), subst (λ (i : InstInfo). IsNumberedFrom first i.items) is (numbered_front first z.items (items_of_group insts group) numbered), r.3)
in_order group first (suc j) (suc k) (z ∷ insts) x y h lt e f s t = elim (cases_order z.group group) [
  | inl own ↦ in_order group (first + bins_in z.items) j k insts x y (numbered_back first z.items (items_of_group insts group) (subst (IsNumberedFrom first) (group_then group z insts own) h)) (omega (arith, lt)) e f s t
  | inr other ↦ in_order group first j k insts x y (subst (IsNumberedFrom first) (group_else group z insts (λ eq. differ z.group group eq other)) h) (omega (arith, lt)) e f s t
]
  where
    differ : (a b : ℕ) → a ≡ b → (a < b) ⊎ (b < a) → ⊥
    differ a b e (inl lt) = absurd (omega (arith, e, lt))
    differ a b e (inr lt) = absurd (omega (arith, e, lt))

-- the bins of an instance are among those of the groups
of_groups : (insts : List InstInfo) (groups : List GroupInfo) (group first j : ℕ) (inst : InstInfo) → IsNumberedFrom first (items_from insts group groups) → slice_get insts j ≡ Some inst → group ≤ inst.group → inst.group < group + length groups
    → (low : ℕ) × (first ≤ low) × (low + bins_in inst.items ≤ first + bins_in (items_from insts group groups)) × IsNumberedFrom low inst.items
of_groups insts [] group first j inst h e le lt = absurd (omega (arith, le, lt))
of_groups insts (g ∷ groups) group first j inst h e le lt = elim (cases_lt group inst.group) [
  | inl later ↦
      let r = of_groups insts groups (group + 1) (first + bins_in (items_of_group insts group)) j inst (numbered_back first (items_of_group insts group) (items_from insts (group + 1) groups) h) e (omega (arith, later)) (omega (arith, lt)) in
      (r.0, omega (arith, r.1), omega (arith, r.2, bins_in-append (items_of_group insts group) (items_from insts (group + 1) groups)), r.3)
  | inr here ↦
      let r = of_group group first j insts inst (numbered_front first (items_of_group insts group) (items_from insts (group + 1) groups) h) e (omega (arith, le, here)) in
      (r.0, r.1, omega (arith, r.2, bins_in-append (items_of_group insts group) (items_from insts (group + 1) groups)), r.3)
]

-- the bins of two instances are numbered from different numbers on, so that they don't meet
abbrev Separate : InstInfo → InstInfo → Type 0
Separate x y = (a b : ℕ) × ((a + bins_in x.items ≤ b) ⊎ (b + bins_in y.items ≤ a)) × IsNumberedFrom a x.items × IsNumberedFrom b y.items

separate : (insts : List InstInfo) (groups : List GroupInfo) (group first j k : ℕ) (x y : InstInfo) → IsNumberedFrom first (items_from insts group groups) → (j ≡ k → ⊥) → slice_get insts j ≡ Some x → slice_get insts k ≡ Some y
    → group ≤ x.group → x.group < group + length groups → group ≤ y.group → y.group < group + length groups → Separate x y
separate insts [] group first j k x y h ne e f a b c d = absurd (omega (arith, a, b))
separate insts (g ∷ groups) group first j k x y h ne e f a b c d = by (λ p q s t u. separate insts groups (group + 1) (first + bins_in (items_of_group insts group)) j k x y p ne e f q s t u) (cases_lt group x.group) (cases_lt group y.group)
  where
    front : IsNumberedFrom first (items_of_group insts group)
    front = numbered_front first (items_of_group insts group) (items_from insts (group + 1) groups) h

    back : IsNumberedFrom (first + bins_in (items_of_group insts group)) (items_from insts (group + 1) groups)
    back = numbered_back first (items_of_group insts group) (items_from insts (group + 1) groups) h

    both : x.group ≡ group → y.group ≡ group → (j ≡ k) ⊎ ((j < k) ⊎ (k < j)) → Separate x y
    both s t (inl same) = absurd (ne same)
    both s t (inr (inl less)) = let r = in_order group first j k insts x y front less e f s t in (r.0, r.1, inl r.2, r.3, r.4)
    both s t (inr (inr more)) = let r = in_order group first k j insts y x front more f e t s in (r.1, r.0, inr r.2, r.4, r.3)

    by : (IsNumberedFrom (first + bins_in (items_of_group insts group)) (items_from insts (group + 1) groups) → group + 1 ≤ x.group → x.group < group + 1 + length groups → group + 1 ≤ y.group → y.group < group + 1 + length groups → Separate x y) → (group < x.group) ⊎ (x.group ≤ group) → (group < y.group) ⊎ (y.group ≤ group) → Separate x y
    by go (inl p) (inl q) = go back (omega (arith, p)) (omega (arith, b)) (omega (arith, q)) (omega (arith, d))
    by go (inl p) (inr q) =
        let l = of_groups insts groups (group + 1) (first + bins_in (items_of_group insts group)) j x back e (omega (arith, p)) (omega (arith, b)) in
        let r = of_group group first k insts y front f (omega (arith, c, q)) in
        (l.0, r.0, inr (omega (arith, l.1, r.2)), l.3, r.3)
    by go (inr p) (inl q) =
        let l = of_group group first j insts x front e (omega (arith, a, p)) in
        let r = of_groups insts groups (group + 1) (first + bins_in (items_of_group insts group)) k y back f (omega (arith, q)) (omega (arith, d)) in
        (l.0, r.0, inl (omega (arith, l.2, r.1)), l.3, r.3)
    by go (inr p) (inr q) = both (omega (arith, a, p)) (omega (arith, c, q)) (cases_order j k)

apart : (x y : InstInfo) → Separate x y → (s t : ℕ) (a b : ItemInfo) → slice_get x.items s ≡ Some a → slice_get y.items t ≡ Some b → AreApart a b
apart x y h s t a b e f =
    let l = between h.0 x.items h.3 s a e in
    let r = between h.1 y.items h.4 t b f in
    elim h.2 [
      | inl less ↦ inl (omega (arith, l.1, less, r.0))
      | inr more ↦ inr (omega (arith, r.1, more, l.0))
    ]

-- ---- a design

module _ (d : Design) where
  valid_at : (j : ℕ) (inst : InstInfo) → slice_get d.instances j ≡ Some inst → IsInstance (length d.groups) inst
  valid_at j inst e = each_at (IsInstance (length d.groups)) d.instances j inst d.within.each e

  pub all_apart : AreAllApart d.instances
  all_apart j k s t x y a b ne e f ea fb =
      let p = valid_at j x e in
      let q = valid_at k y f in
      apart x y (separate d.instances d.groups 0 0 j k x y d.within.numbered ne e f (omega arith) (omega (arith, p.group)) (omega arith) (omega (arith, q.group))) s t a b ea fb

  pub numbered_at : (n j : ℕ) (inst : InstInfo) → n ≡ d.bin_count → slice_get d.instances j ≡ Some inst → AreNumbered inst.items n
  numbered_at n j inst count e =
      let valid = valid_at j inst e in
      let r = of_groups d.instances d.groups 0 0 j inst d.within.numbered e (omega arith) (omega (arith, valid.group)) in
      record { first = r.0; numbered = r.3; room = λ k item is. let b = between r.0 inst.items r.3 k item is in omega (arith, b.1, r.2, d.within.count, count) }

  pub few_items : (j : ℕ) (inst : InstInfo) → slice_get d.instances j ≡ Some inst → length inst.items < 2 ^ 32
  few_items j inst e = let le = in_total d.instances j inst e in omega (arith, le, d.within.item_count)
    where
      in_total : (instances : List InstInfo) (j : ℕ) (inst : InstInfo) → slice_get instances j ≡ Some inst → length inst.items ≤ total (λ i. length i.items) instances
      in_total [] j inst e = (cc)
      in_total (x ∷ instances) zero inst e = let same : x ≡ inst = cc in omega (arith, ap (λ (i : InstInfo). length i.items) same)
      in_total (x ∷ instances) (suc j) inst e = let le = in_total instances j inst e in omega (arith, le)

  module _ (plan : Plan) (labels : List (List ℕ)) (parts part : ℕ) (share : List (List ℕ)) (fits : IsDesignPlan d.instances plan) (together : AreTogether d.instances labels) (own : IsShareOf d.instances labels parts part share) where
    pub is_work : (n : ℕ) → n ≡ d.bin_count → IsWork d.instances plan.instances share n
    is_work n count = record {
      plan_count = fits.same;
      share_count = own.same;
      each = λ j inst p chosen e f g. record {
        same_plans = (fits.each j inst p e f).same;
        are_plans = (fits.each j inst p e f).each;
        chosen_items = subst (AreChosen inst.items) (sym (own.at j inst chosen e g)) (are_chosen inst.items (labels_at labels j) parts part (valid_at j inst e).items (together j inst e));
        numbered = numbered_at n j inst count e;
      };
      apart = all_apart;
    }

    -- the counts of a part
    pub part_counted : (r : Record) (old counts : List ℕ) → length counts ≡ d.bin_count → AreAllZero old → ShareCounted r d.instances share old counts → IsPartTally d r labels parts part counts
    part_counted r old counts len zeros h = record {
      same = len;
      at = λ instance inst item bin number b e.
          let s = chosen_at instance inst b.is_instance in
          let mine : IsChosen s.0 b.item_index = subst (λ (xs : List ℕ). IsChosen xs b.item_index) (sym s.2) (has_part inst.items (labels_at labels instance) parts part b.item_index (slice_get_within inst.items b.item_index item b.is_item) e) in
          subst (λ (n : ℕ). IsCount inst.items item bin (samples_of r instance) (slice_index counts n)) (sym b.is_number) (h.counted instance b.item_index b.bin_index inst s.0 item bin b.is_instance s.1 mine b.is_item b.is_bin);
      others = λ instance inst item bin number b ne. h.outside number (outside instance inst item bin number b ne) ∙ zeros number;
    }
      where
        chosen_at : (j : ℕ) (inst : InstInfo) → slice_get d.instances j ≡ Some inst → (chosen : List ℕ) × (slice_get share j ≡ Some chosen) × (chosen ≡ chosen_items (labels_at labels j) parts part (length inst.items))
        chosen_at j inst e = let s = some_of share j (omega (arith, own.same, slice_get_within d.instances j inst e)) in (s.0, s.1, own.at j inst s.0 e s.1)

        away : (a b : ItemInfo) (n i : ℕ) → n ≡ a.first_bin + i → i < length a.bins → AreApart a b → IsOutside b n
        away a b n i e lt (inl less) = inl (omega (arith, e, lt, less))
        away a b n i e lt (inr more) = inr (omega (arith, e, more))

        outside : (instance : ℕ) (inst : InstInfo) (item : ItemInfo) (bin : BinInfo) (number : ℕ) (b : IsBin d instance inst item bin number) → (part_of labels parts instance b.item_index ≡ part → ⊥)
            → (j k : ℕ) (x : InstInfo) (chosen : List ℕ) (other : ItemInfo) → slice_get d.instances j ≡ Some x → slice_get share j ≡ Some chosen → IsChosen chosen k → slice_get x.items k ≡ Some other → IsOutside other number
        outside instance inst item bin number b ne j k x chosen other e g mine is = by (cases_order instance j)
          where
            within : b.bin_index < length item.bins
            within = slice_get_within item.bins b.bin_index bin b.is_bin

            elsewhere : (instance ≡ j → ⊥) → IsOutside other number
            elsewhere differ = away item other number b.bin_index b.is_number within (all_apart instance j b.item_index k inst x item other differ b.is_instance e b.is_item is)

            -- of the same instance, but not of the same index
            beside : instance ≡ j → slice_get inst.items k ≡ Some other → (b.item_index ≡ k → ⊥) → IsOutside other number
            beside same there differ =
                let numbered = numbered_at d.bin_count instance inst refl b.is_instance in
                elim (cases_order b.item_index k) [
                  | inl eq ↦ absurd (differ eq)
                  | inr (inl less) ↦ let o = ordered numbered.first inst.items b.item_index k item other numbered.numbered less b.is_item there in inl (omega (arith, b.is_number, within, o))
                  | inr (inr more) ↦ let o = ordered numbered.first inst.items k b.item_index other item numbered.numbered more there b.is_item in inr (omega (arith, b.is_number, o))
                ]

            by : (instance ≡ j) ⊎ ((instance < j) ⊎ (j < instance)) → IsOutside other number
            by (inl same) =
                let here : slice_get d.instances instance ≡ Some x = ap (λ (i : ℕ). slice_get d.instances i) same ∙ e in
                let there : slice_get inst.items k ≡ Some other = one_of (λ (i : InstInfo). slice_get i.items k ≡ Some other) d.instances instance x inst here b.is_instance is in
                let label : slice_index (labels_at labels j) k % parts ≡ part = of_part x.items (labels_at labels j) parts part k (subst (λ (xs : List ℕ). IsChosen xs k) (own.at j x chosen e g) mine) in
                beside same there (λ eq. ne (ap (λ (i : ℕ). slice_index (labels_at labels instance) i % parts) eq ∙ ap (λ (i : ℕ). slice_index (labels_at labels i) k % parts) same ∙ label))
            by (inr (inl less)) = elsewhere (λ same. absurd (omega (arith, same, less)))
            by (inr (inr more)) = elsewhere (λ same. absurd (omega (arith, same, more)))

-- a design whose items are all of one part
pub whole : (d : Design) (r : Record) (counts : List ℕ) → IsPartTally d r [] 1 0 counts → IsTally d r counts
whole d r counts h = record { same = h.same; at = λ instance inst item bin number b. h.at instance inst item bin number b (none b.item_index) }
  where
    none : (k : ℕ) → slice_index (labels_at [] 0) k % 1 ≡ 0
    none k = refl

-- without labels, all items are together
pub none_together : (instances : List InstInfo) → AreTogether instances []
none_together instances j inst e k item is = by item.shape
  where
    all : (axes : List ℕ) → AllByRecursion (λ axis. slice_index (labels_at [] j) axis ≡ slice_index (labels_at [] j) k) axes
    all [] = tt
    all (axis ∷ axes) = (refl, all axes)

    by : (shape : ItemShape) → IsTogether (labels_at [] j) k shape
    by (Point expr) = tt
    by (Cross axes) = all axes
