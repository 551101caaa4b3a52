-- Instances that are counted by their quick items.
use Rattle.std.proofs.Common.{◌≡◌, ◌⊎◌, ℕ, ◌+◌, ◌-◌, ◌^◌, ◌<◌, List, [], ◌∷◌, ◌++◌, length, get_or, set, Some, None, refl, ap, sym, subst, ◌∙◌, inl, inr, arith, length-append}
use Rattle.std.specs.Prelude.{slice_get, slice_index_or}
use Rattle.std.proofs.lemmas.Bool.{cases_lt}
use Rattle.std.proofs.Math.Seq.{get_or-append_seam}
use Rattle.std.proofs.lemmas.List.{set-get_or, get_or_append_left}
use Rattle.std.proofs.lemmas.Option.{slice_get_within, get_or_from_slice_get}
use Rattle.const_eval.specs.Terms.{Term}
use Rattle.design_data.specs.declared.infos.ItemInfo.{ItemInfo}
use Rattle.design_data.specs.declared.infos.ItemShape.{ItemShape}
use Rattle.design_data.specs.declared.infos.ItemShape.TheVariants.{Point}
use Rattle.design_data.specs.declared.infos.InstInfo.{InstInfo}
use Rattle.record_codec.specs.declared.record.Record.{Record}
use Rattle.record_codec.specs.declared.record.Event.{Event}
use Rattle.record_codec.specs.declared.record.Event.TheVariants.{Sample}
use Rattle.record_codec.specs.Samples.{Env}
use Rattle.point_sampler.specs.declared.state.PointState.{PointState}
use Rattle.point_sampler.specs.Plans as points
use Rattle.point_sampler.specs.Points as points_stand
use Rattle.point_sampler.proofs.Taking.{some_at}
use Rattle.sampler_plans.specs.declared.plan.ItemPlan.{ItemPlan}
use Rattle.sampler_plans.specs.declared.plan.ItemPlan.TheVariants as plan
use Rattle.sampler_plans.specs.declared.plan.InstPlan.{InstPlan}
use Rattle.sampler_plans.specs.ItemPlans.{IsPlanOf}
use Rattle.sampler.specs.declared.instance.ItemState.{ItemState}
use Rattle.sampler.specs.declared.instance.ItemState.TheVariants as kept
use Rattle.sampler.specs.declared.instance.InstState.{InstState}
use Rattle.sampler.specs.declared.lists.QuickItem.{QuickItem}
use Rattle.sampler.specs.Standing.{IsSample, PointStands, Stands, AllStand, SomeTaken, AllTaken, KeepsOthers, InstAt}
use Rattle.sampler.specs.Walking.{IsInstWork, IsWork, AllInstFit, WalkAt}
use Rattle.sampler.specs.Quick.{IsQuickItem, AreQuick, IsQuickInst, AreQuickUpTo, AreReady, AreKept}
use Rattle.sampler.proofs.Items.{read_at, some_more}
use Rattle.sampler.proofs.Walks.{walk_sample, at_sample, holds_bare, writes_none}

-- ---- a quick item

module _ (items : List ItemInfo) (item : ItemInfo) (p : ItemPlan) (exprs : List Term) (quick : QuickItem) (is : IsQuickItem exprs item p quick) where
  plan_of : IsPlanOf items item item.shape p → points.IsPlanOf item quick.plan
  plan_of h = (subst (λ (q : ItemPlan). IsPlanOf items item (Point is.expr) q) is.is_plan (subst (λ (shape : ItemShape). IsPlanOf items item shape p) is.shape h)).1

  module _ (all : List Env) (m : ℕ) (old new : List ℕ) (step : (state : PointState) → points_stand.PointStands item is.expr quick.plan all m state old → points_stand.PointStands item is.expr quick.plan all (m + 1) state new) where
    by_state : (s : ItemState) → PointStands item is.expr all m (plan.Point quick.plan) s old → PointStands item is.expr all (m + 1) (plan.Point quick.plan) s new
    by_state (kept.Point s) h = step s h
    by_state (kept.Cross s) h = absurd h

    stands_one : (s : ItemState) → Stands items item all m item.shape p s old → Stands items item all (m + 1) item.shape p s new
    stands_one s h =
        let own : PointStands item is.expr all m (plan.Point quick.plan) s old =
        subst (λ (q : ItemPlan). Stands items item all m (Point is.expr) q s old) is.is_plan (subst (λ (shape : ItemShape). Stands items item all m shape p s old) is.shape h) in
        subst (λ (shape : ItemShape). Stands items item all (m + 1) shape p s new) (sym is.shape)
        (subst (λ (q : ItemPlan). Stands items item all (m + 1) (Point is.expr) q s new) (sym is.is_plan) (by_state s own))

-- ---- the quick items of an instance

module _ (exprs : List Term) (n : ℕ) (items : List ItemInfo) (plans : List ItemPlan) (chosen : List ℕ) (list : List QuickItem) (work : IsInstWork items plans chosen n) (are : AreQuick exprs items plans chosen list) where
  -- what stands at a place
  record At (i : ℕ) (quick : QuickItem) : Type 0 where
    pub k : ℕ
    pub item : ItemInfo
    pub p : ItemPlan
    pub is_chosen : slice_get chosen i ≡ Some k
    pub is_item : slice_get items k ≡ Some item
    pub is_plan : slice_get plans k ≡ Some p
    pub is_quick : IsQuickItem exprs item p quick

  at_place : (i : ℕ) (quick : QuickItem) → slice_get list i ≡ Some quick → At i quick
  at_place i quick at =
      let c = some_at chosen i (omega (arith, slice_get_within list i quick at, are.same)) in
      let lt : c.0 < length items = work.chosen_items.within i c.0 c.1 in
      let item = some_at items c.0 lt in
      let p = some_at plans c.0 (omega (arith, lt, work.same_plans)) in
      record { k = c.0; item = item.0; p = p.0; is_chosen = c.1; is_item = item.1; is_plan = p.1; is_quick = are.at i c.0 item.0 p.0 quick c.1 item.1 p.1 at }

  pub ready : AreReady exprs n list
  ready i quick at =
      let here = at_place i quick at in
      let is = here.is_quick in
      record {
        expr = is.expr;
        is_expr = is.is_expr;
        is_quick = is.is_quick;
        room = record {
          item = here.item;
          is_plan = plan_of items here.item here.p exprs quick is (work.are_plans here.k here.item here.p here.is_item here.is_plan);
          first = is.first;
          room = omega (arith, work.numbered.room here.k here.item here.is_item, is.first);
        };
      }

  -- one more of them is counted
  pub quick_more : (t : ℕ) (quick : QuickItem) (states : List ItemState) (all : List Env) (m : ℕ) (start old new : List ℕ) → slice_get list t ≡ Some quick → length states ≡ length chosen
      → ((item : ItemInfo) (expr : Term) (state : PointState) → slice_get exprs quick.expr ≡ Some expr → points.IsPlanOf item quick.plan → item.first_bin ≡ quick.first_bin → item.guard ≡ None
      → points_stand.PointStands item expr quick.plan all m state old → points_stand.PointStands item expr quick.plan all (m + 1) state new)
      → ((item : ItemInfo) → points.IsPlanOf item quick.plan → item.first_bin ≡ quick.first_bin → KeepsOthers item old new)
      → SomeTaken items plans chosen all (λ shape. m) (λ shape. m + 1) t start states old → SomeTaken items plans chosen all (λ shape. m) (λ shape. m + 1) (t + 1) start states new
  quick_more t quick states all m start old new at len step keeps h =
      let here = at_place t quick at in
      let is = here.is_quick in
      let inside : t < length states = omega (arith, slice_get_within chosen t here.k here.is_chosen, len) in
      let s = some_at states t inside in
      let read : get_or states t s.0 ≡ s.0 = get_or_from_slice_get states t s.0 s.0 s.1 in
      let own = plan_of items here.item here.p exprs quick is (work.are_plans here.k here.item here.p here.is_item here.is_plan) in
      let before : Stands items here.item all m here.item.shape here.p s.0 old = subst (λ (y : ItemState). Stands items here.item all m here.item.shape here.p y old) read (h.left t here.k here.item here.p s.0 (omega arith) here.is_chosen here.is_item here.is_plan) in
      let after = stands_one items here.item here.p exprs quick is all m old new (λ state. step here.item is.expr state is.is_expr own is.first is.unguarded) s.0 before in
      let same : set states t s.0 ≡ states = ap (λ (y : ItemState). set states t y) (sym read) ∙ set-get_or states t s.0 in
      subst (λ (ys : List ItemState). SomeTaken items plans chosen all (λ shape. m) (λ shape. m + 1) (t + 1) start ys new) same
      (some_more items plans chosen t here.k here.item here.p s.0 work.chosen_items here.is_chosen here.is_item here.is_plan all (λ shape. m) (λ shape. m + 1) n start states old new inside work.numbered after (keeps here.item own is.first) h)

-- ---- the quick items of the instances

pub kept_itself : (exprs : List Term) → AreKept exprs exprs
kept_itself exprs = λ k expr e. e

pub kept_then : (first second third : List Term) → AreKept first second → AreKept second third → AreKept first third
kept_then first second third h g = λ k expr e. g k expr (h k expr e)

pub quick_kept : (old new : List Term) (item : ItemInfo) (p : ItemPlan) (quick : QuickItem) → AreKept old new → IsQuickItem old item p quick → IsQuickItem new item p quick
quick_kept old new item p quick h is = record { expr = is.expr; is_expr = h quick.expr is.expr is.is_expr; shape = is.shape; unguarded = is.unguarded; first = is.first; is_plan = is.is_plan; is_quick = is.is_quick }

-- the items of a list are quick
abbrev pub Quicks : List Term → List ItemInfo → List ItemPlan → (chosen : List ℕ) → List QuickItem → Type 0
Quicks exprs items plans chosen list = (i k : ℕ) (item : ItemInfo) (p : ItemPlan) (quick : QuickItem) → slice_get chosen i ≡ Some k → slice_get items k ≡ Some item → slice_get plans k ≡ Some p → slice_get list i ≡ Some quick → IsQuickItem exprs item p quick

pub quicks_more : (old new : List Term) (items : List ItemInfo) (plans : List ItemPlan) (chosen : List ℕ) (list : List QuickItem) (one : QuickItem) (n t : ℕ) (item : ItemInfo) (p : ItemPlan) → AreKept old new → length list ≡ n → slice_get chosen n ≡ Some t → slice_get items t ≡ Some item → slice_get plans t ≡ Some p
    → IsQuickItem new item p one → Quicks old items plans chosen list → Quicks new items plans chosen (list ++ one ∷ [])
quicks_more old new items plans chosen list one n t item p more len at_t at_item at_plan is h = λ i k item' p' quick c e f g. elim (cases_lt i n) [
  | inl lower ↦
      let before : i < length list = omega (arith, lower, len) in
      quick_kept old new item' p' quick more (h i k item' p' quick c e f
      (read_at list i quick before (sym (get_or_from_slice_get (list ++ one ∷ []) i quick quick g) ∙ get_or_append_left list (one ∷ []) quick i before)))
  | inr past ↦
      let within : i < length (list ++ one ∷ []) = slice_get_within (list ++ one ∷ []) i quick g in
      let same : i ≡ n = omega (arith, past, within, len, length-append list (one ∷ [])) in
      let is_one : quick ≡ one = sym (get_or_from_slice_get (list ++ one ∷ []) i quick quick g) ∙ (ap (λ (j : ℕ). get_or (list ++ one ∷ []) j quick) (same ∙ sym len) ∙ get_or-append_seam list one [] quick) in
      let is_t : k ≡ t = sym (get_or_from_slice_get chosen i k t c) ∙ (ap (λ (j : ℕ). get_or chosen j t) same ∙ get_or_from_slice_get chosen n t t at_t) in
      let is_item : item' ≡ item = sym (get_or_from_slice_get items k item' item e) ∙ (ap (λ (j : ℕ). get_or items j item) is_t ∙ get_or_from_slice_get items t item item at_item) in
      let is_plan : p' ≡ p = sym (get_or_from_slice_get plans k p' p f) ∙ (ap (λ (j : ℕ). get_or plans j p) is_t ∙ get_or_from_slice_get plans t p p at_plan) in
      subst (λ (x : ItemInfo). IsQuickItem new x p' quick) (sym is_item) (subst (λ (x : ItemPlan). IsQuickItem new item x quick) (sym is_plan) (subst (λ (x : QuickItem). IsQuickItem new item p x) (sym is_one) is))
]

inst_kept : (r : Record) (j : ℕ) (old new : List Term) (items : List ItemInfo) (plans : List ItemPlan) (chosen : List ℕ) (list : List QuickItem) → AreKept old new → (list ≡ []) ⊎ IsQuickInst r j old items plans chosen list → (list ≡ []) ⊎ IsQuickInst r j new items plans chosen list
inst_kept r j old new items plans chosen list h (inl none) = inl none
inst_kept r j old new items plans chosen list h (inr is) = inr (record {
  bare = is.bare;
  are = record { same = is.are.same; at = λ i k item p quick c e f g. quick_kept old new item p quick h (is.are.at i k item p quick c e f g) };
})

pub up_to_more : (t : ℕ) (r : Record) (instances : List InstInfo) (plans : List InstPlan) (share : List (List ℕ)) (old new : List Term) (lists : List (List QuickItem)) (list : List QuickItem) → AreKept old new
    → ((inst : InstInfo) (p : InstPlan) (chosen : List ℕ) → slice_get instances t ≡ Some inst → slice_get plans t ≡ Some p → slice_get share t ≡ Some chosen → (list ≡ []) ⊎ IsQuickInst r t new inst.items p.items chosen list)
    → AreQuickUpTo t r instances plans share old lists → AreQuickUpTo (t + 1) r instances plans share new (lists ++ list ∷ [])
up_to_more t r instances plans share old new lists list more here h = record {
  same = omega (arith, length-append lists (list ∷ []), h.same);
  each = λ j inst p chosen lt e f g. elim (cases_lt j t) [
    | inl lower ↦
        let read : slice_index_or (lists ++ list ∷ []) j [] ≡ slice_index_or lists j [] = get_or_append_left lists (list ∷ []) [] j (omega (arith, lower, h.same)) in
        subst (λ (xs : List QuickItem). (xs ≡ []) ⊎ IsQuickInst r j new inst.items p.items chosen xs) (sym read) (inst_kept r j old new inst.items p.items chosen (slice_index_or lists j []) more (h.each j inst p chosen lower e f g))
    | inr past ↦
        let same : t ≡ j = omega (arith, lt, past) in
        let read : slice_index_or (lists ++ list ∷ []) j [] ≡ list = ap (λ (k : ℕ). get_or (lists ++ list ∷ []) k []) (sym same ∙ sym h.same) ∙ get_or-append_seam lists list [] [] in
        subst (λ (xs : List QuickItem). (xs ≡ []) ⊎ IsQuickInst r j new inst.items p.items chosen xs) (sym read)
        (subst (λ (k : ℕ). (list ≡ []) ⊎ IsQuickInst r k new inst.items p.items chosen list) same
        (here inst p chosen (ap (λ (k : ℕ). slice_get instances k) same ∙ e) (ap (λ (k : ℕ). slice_get plans k) same ∙ f) (ap (λ (k : ℕ). slice_get share k) same ∙ g)))
  ];
}

-- ---- a sample

-- the plans and the items of an instance
pub record Parts (instances : List InstInfo) (plans : List InstPlan) (share : List (List ℕ)) (kept : List InstState) (j : ℕ) : Type 0 where
  pub inst : InstInfo
  pub p : InstPlan
  pub chosen : List ℕ
  pub state : InstState
  pub is_inst : slice_get instances j ≡ Some inst
  pub is_plan : slice_get plans j ≡ Some p
  pub is_chosen : slice_get share j ≡ Some chosen
  pub is_state : slice_get kept j ≡ Some state

pub parts_of : (instances : List InstInfo) (plans : List InstPlan) (share : List (List ℕ)) (kept : List InstState) (n j : ℕ) → IsWork instances plans share n → AllInstFit instances plans share kept → j < length instances → Parts instances plans share kept j
parts_of instances plans share kept n j work fits lt =
    let inst = some_at instances j lt in
    let p = some_at plans j (omega (arith, lt, work.plan_count)) in
    let chosen = some_at share j (omega (arith, lt, work.share_count)) in
    let state = some_at kept j (omega (arith, lt, fits.same)) in
    record { inst = inst.0; p = p.0; chosen = chosen.0; state = state.0; is_inst = inst.1; is_plan = p.1; is_chosen = chosen.1; is_state = state.1 }

module _ (r : Record) (instances : List InstInfo) (plans : List InstPlan) (share : List (List ℕ)) (kept : List InstState) (n j : ℕ) (work : IsWork instances plans share n) (fits : AllInstFit instances plans share kept) (parts : Parts instances plans share kept j) where
  pub inst_work : IsInstWork parts.inst.items parts.p.items parts.chosen n
  inst_work = work.each j parts.inst parts.p parts.chosen parts.is_inst parts.is_plan parts.is_chosen

  pub found : (exprs : List Term) (lists : List (List QuickItem)) (list : List QuickItem) → AreQuickUpTo (length instances) r instances plans share exprs lists → list ≡ slice_index_or lists j [] → (length list ≡ 0 → ⊥) → IsQuickInst r j exprs parts.inst.items parts.p.items parts.chosen list
  found exprs lists list table is some = subst (λ (xs : List QuickItem). IsQuickInst r j exprs parts.inst.items parts.p.items parts.chosen xs) (sym is)
      (elim (table.each j parts.inst parts.p parts.chosen (slice_get_within instances j parts.inst parts.is_inst) parts.is_inst parts.is_plan parts.is_chosen) [
        | inl none ↦ absurd (some (ap (λ (xs : List QuickItem). length xs) (is ∙ none)))
        | inr quick ↦ quick
      ])

  pub quick_walk : (exprs : List Term) (list : List QuickItem) (values : Env) (args : List _) (before events : List Event) (start counts new : List ℕ) → IsQuickInst r j exprs parts.inst.items parts.p.items parts.chosen list → length before < 2 ^ 32 - 1
      → ((states : List ItemState) (all : List Env) (m : ℕ) → length states ≡ length parts.chosen → IsSample all m values → AllStand parts.inst.items parts.p.items parts.chosen all (λ shape. m) states counts → AllTaken parts.inst.items parts.p.items parts.chosen all (λ shape. m + 1) counts states new)
      → WalkAt r instances plans share before (Sample j args ∷ events) values start kept counts → WalkAt r instances plans share (Sample j args ∷ before) events values start kept new
  quick_walk exprs list values args before events start counts new quick few step h =
      let inst = parts.inst in
      let p = parts.p in
      let chosen = parts.chosen in
      let s = parts.state in
      let states = s.states.items in
      let inside : j < length kept = slice_get_within kept j s parts.is_state in
      let read : get_or kept j s ≡ s = get_or_from_slice_get kept j s s parts.is_state in
      let len : length states ≡ length chosen = ap (λ (y : InstState). length y.states.items) (sym read) ∙ (fits.at j inst p chosen s parts.is_inst parts.is_plan parts.is_chosen).fits.same in
      let same : set kept j s ≡ kept = ap (λ (y : InstState). set kept j y) (sym read) ∙ set-get_or kept j s in
      subst (λ (ks : List InstState). WalkAt r instances plans share (Sample j args ∷ before) events values start ks new) same
      (walk_sample r instances plans share before events j n args inst p chosen values values start kept s counts new work parts.is_inst parts.is_plan parts.is_chosen inside
      (λ holds. holds_bare r.signals before j args values holds)
      (λ holds now. at_sample r j inst.items p.items chosen before events args [] values values states states counts new (sym quick.bare) (writes_none r.signals before args [] values refl holds) few
      (λ all m sample stand. step states all m len sample stand) holds
      (subst (λ (y : InstState). InstAt r j inst.items p.items chosen before (Sample j args ∷ events) y.states.items counts) read now)) h)
