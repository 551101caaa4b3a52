-- One item more, and one instance more.
use Rattle.std.proofs.Common.{◌≡◌, ◌∙◌, ℕ, zero, suc, ◌+◌, ◌*◌, ◌≤◌, ◌<◌, List, [], ◌∷◌, ◌++◌, length, map, take, drop, get_or, refl, sym, ap, subst, Bool, true, false, cond, arith, append_assoc, add-one, drop-cons}
use Rattle.std.proofs.lemmas.List.{length_push}
use Rattle.std.specs.Prelude.{◌==◌, nat_lt, if◌then◌else◌}
use Rattle.cov_ground.specs.Limits.{most_design_bins}
use Rattle.design_data.specs.declared.infos.ItemInfo.{ItemInfo}
use Rattle.design_data.specs.declared.infos.InstInfo.{InstInfo}
use Rattle.design_data.specs.Bins.{bins_in, total}
use Rattle.elab_order.specs.declared.numbers.Load.{Load}
use Rattle.elab_order.specs.Order.{items_numbered, load_of, bins_where, first_of, numbered_from}

-- ---- items

pub more_items : (done new whole rest left : List ItemInfo) (item : ItemInfo) (next : ℕ) → rest ≡ item ∷ left → new ≡ done ++ record item { first_bin = next } ∷ [] → done ++ items_numbered next rest ≡ whole → new ++ items_numbered (next + length item.bins) left ≡ whole
more_items done new whole rest left item next e f h = rw f (append_assoc done (record item { first_bin = next } ∷ []) (items_numbered (next + length item.bins) left) ∙ subst (λ (xs : List ItemInfo). done ++ items_numbered next xs ≡ whole) e h)

pub more_bins : (rest left : List ItemInfo) (item : ItemInfo) (next whole : ℕ) → rest ≡ item ∷ left → next + bins_in rest ≡ whole → (next + length item.bins) + bins_in left ≡ whole
more_bins rest left item next whole e h = let g = subst (λ (xs : List ItemInfo). next + bins_in xs ≡ whole) e h in omega (arith, g)

pub room_for : (rest left : List ItemInfo) (item : ItemInfo) (next whole : ℕ) → rest ≡ item ∷ left → next + bins_in rest ≡ whole → whole ≤ most_design_bins → next + length item.bins ≤ most_design_bins
room_for rest left item next whole e h le = let g = subst (λ (xs : List ItemInfo). next + bins_in xs ≡ whole) e h in omega (arith, g, le)

-- ---- totals along a list

pub suc_more : {X : Type 0} (f : X → ℕ) (xs : List X) (i : ℕ) (x : X) (rest : List X) → drop i xs ≡ x ∷ rest → total f (take (suc i) xs) ≡ total f (take i xs) + f x
suc_more f [] zero x rest e = absurd cc
suc_more f [] (suc i) x rest e = absurd cc
suc_more f (y ∷ ys) zero x rest e = let is : y ≡ x = cc in let h = ap f is in omega (arith, h)
suc_more f (y ∷ ys) (suc i) x rest e = let h = suc_more f ys i x rest e in omega (arith, h)

next_is : {A : Type 0} (xs : List A) (i : ℕ) (x : A) → i < length xs → x ≡ get_or xs i x → drop i xs ≡ x ∷ drop (i + 1) xs
next_is xs i x lt is = drop-cons xs i x lt ∙ rw (add-one, ← is) refl

-- the total of a front and of the element behind it
pub total_more : {X : Type 0} (f : X → ℕ) (xs : List X) (i : ℕ) (x : X) → i < length xs → x ≡ get_or xs i x → total f (take (i + 1) xs) ≡ total f (take i xs) + f x
total_more f xs i x lt is = rw (add-one) (suc_more f xs i x (drop (i + 1) xs) (next_is xs i x lt is))

-- a front counts no more than all
pub total_front : {X : Type 0} (f : X → ℕ) (xs : List X) (i : ℕ) → total f (take i xs) ≤ total f xs
total_front f xs zero = omega arith
total_front f [] (suc i) = omega arith
total_front f (x ∷ xs) (suc i) = let h = total_front f xs i in omega (arith, h)

-- ---- loads

below_fits : (g : ℕ) (xs : List Load) → bins_where (λ h. nat_lt h g) xs ≤ total (λ load. load.bins) xs
below_fits g [] = omega arith
below_fits g (x ∷ xs) = step (nat_lt x.group g) (below_fits g xs)
  where
    step : (b : Bool) → bins_where (λ h. nat_lt h g) xs ≤ total (λ load. load.bins) xs → cond b x.bins 0 + bins_where (λ h. nat_lt h g) xs ≤ x.bins + total (λ load. load.bins) xs
    step true le = omega (arith, le)
    step false le = omega (arith, le)

-- an instance of another group counts once at most
apart_step : (k g b below same rest own all : ℕ) (lt eq : Bool) → nat_lt k g ≡ lt → (k == g) ≡ eq → (below + same) + own ≤ all → ((cond lt b 0 + below) + (cond eq b 0 + same)) + own ≤ b + all
apart_step k g b below same rest own all true true e f le = absurd (grind (arith, e, f))
apart_step k g b below same rest own all true false e f le = omega (arith, le)
apart_step k g b below same rest own all false true e f le = omega (arith, le)
apart_step k g b below same rest own all false false e f le = omega (arith, le)

own_step : (k g b below all : ℕ) (lt : Bool) → nat_lt k g ≡ lt → k ≡ g → below ≤ all → ((cond lt b 0 + below) + 0) + b ≤ b + all
own_step k g b below all true e f le = absurd (grind (arith, e, f))
own_step k g b below all false e f le = omega (arith, le)

-- what counts before an instance, and in it, is among all bins
pub first_fits : (load : Load) (xs : List Load) (i : ℕ) (rest : List Load) → drop i xs ≡ load ∷ rest → first_of xs i load.group + load.bins ≤ total (λ load. load.bins) xs
first_fits load [] zero rest e = absurd cc
first_fits load [] (suc i) rest e = absurd cc
first_fits load (x ∷ xs) zero rest e =
    let is : x ≡ load = cc in
    let h = own_step x.group load.group x.bins (bins_where (λ h. nat_lt h load.group) xs) (total (λ load. load.bins) xs) (nat_lt x.group load.group) refl (ap (λ (l : Load). l.group) is) (below_fits load.group xs) in
    let b : x.bins ≡ load.bins = ap (λ (l : Load). l.bins) is in
    omega (arith, h, b)
first_fits load (x ∷ xs) (suc i) rest e =
    apart_step x.group load.group x.bins (bins_where (λ h. nat_lt h load.group) xs) (bins_where (λ h. h == load.group) (take i xs)) 0 load.bins (total (λ load. load.bins) xs) (nat_lt x.group load.group) (x.group == load.group) refl refl (first_fits load xs i rest e)

-- one load more
pub load_more : (loads : List Load) (i bins : ℕ) (test : ℕ → Bool) (none : Load) (part : ℕ) → (bins ≡ bins_where test (take i loads)) × (bins ≤ i * 4294967296) → i < length loads
    → part ≡ (if test (get_or loads i none).group then (get_or loads i none).bins else 0) → part < 4294967296 → (bins + part ≡ bins_where test (take (i + 1) loads)) × (bins + part ≤ (i + 1) * 4294967296)
load_more loads i bins test none part h lt e small =
    let next : drop i loads ≡ get_or loads i none ∷ drop (suc i) loads = drop-cons loads i none lt in
    let more : bins_where test (take (i + 1) loads) ≡ bins_where test (take i loads) + (if test (get_or loads i none).group then (get_or loads i none).bins else 0) = rw (add-one) (suc_more (λ (l : Load). if test l.group then l.bins else 0) loads i (get_or loads i none) (drop (suc i) loads) next) in
    let a = h.0 in
    let b = h.1 in
    (omega (arith, more, a, e), omega (arith, b, small))

-- ---- instances

pub bins_fit : (items : List ItemInfo) (i next : ℕ) (item : ItemInfo) → next ≡ bins_in (take i items) → i < length items → item ≡ get_or items i item → bins_in items ≤ most_design_bins → next + length item.bins ≤ most_design_bins
bins_fit items i next item h lt is le =
    let more = total_more (λ (x : ItemInfo). length x.bins) items i item lt is in
    let front = total_front (λ (x : ItemInfo). length x.bins) items (i + 1) in
    omega (arith, h, more, front, le)

total-loads : (insts : List InstInfo) → total (λ load. load.bins) (map load_of insts) ≡ total (λ inst. bins_in inst.items) insts
total-loads [] = refl
total-loads (inst ∷ insts) = let h = total-loads insts in omega (arith, h)

-- an instance has no more bins than all
pub inst_fits : (insts : List InstInfo) (i : ℕ) (inst : InstInfo) → i < length insts → inst ≡ get_or insts i inst → total (λ inst. bins_in inst.items) insts ≤ most_design_bins → bins_in inst.items ≤ most_design_bins
inst_fits insts i inst lt is le =
    let more = total_more (λ inst. bins_in inst.items) insts i inst lt is in
    let front = total_front (λ inst. bins_in inst.items) insts (i + 1) in
    omega (arith, more, front, le)

pub drop_next : {A : Type 0} (i : ℕ) (xs : List A) (x : A) (rest : List A) → drop i xs ≡ x ∷ rest → drop (suc i) xs ≡ rest
drop_next zero [] x rest e = absurd cc
drop_next (suc i) [] x rest e = absurd cc
drop_next zero (y ∷ ys) x rest e = cc
drop_next (suc i) (y ∷ ys) x rest e = drop_next i ys x rest e

-- What is done and what is left are the whole, and the loads from there on are those of what is left.
pub record Numbers (loads : List Load) (done rest whole : List InstInfo) : Type 0 where
  pub numbered : done ++ numbered_from loads (length done) rest ≡ whole
  pub left : drop (length done) loads ≡ map load_of rest

pub begins : (loads : List Load) (insts : List InstInfo) → loads ≡ map load_of insts → Numbers loads [] insts (numbered_from loads 0 insts)
begins loads insts e = record { numbered = refl; left = e }

loads_fit : (loads : List Load) (insts : List InstInfo) → loads ≡ map load_of insts → total (λ inst. bins_in inst.items) insts ≤ most_design_bins → total (λ load. load.bins) loads ≤ most_design_bins
loads_fit loads insts e le = subst (λ (ls : List Load). total (λ (load : Load). load.bins) ls ≤ most_design_bins) (sym e) (let h = total-loads insts in omega (arith, h, le))

pub fits : (loads : List Load) (insts done rest left whole : List InstInfo) (inst : InstInfo) (k : ℕ) → k ≡ length done → loads ≡ map load_of insts → total (λ inst. bins_in inst.items) insts ≤ most_design_bins
    → Numbers loads done rest whole → rest ≡ inst ∷ left → first_of loads k inst.group + bins_in inst.items ≤ most_design_bins
fits loads insts done rest left whole inst k same e le n is =
    let h = first_fits (load_of inst) loads (length done) (map load_of left) (n.left ∙ ap (map load_of) is) in
    let all = loads_fit loads insts e le in
    subst (λ (i : ℕ). first_of loads i inst.group + bins_in inst.items ≤ most_design_bins) (sym same) (omega (arith, h, all))

pub goes_on : (loads : List Load) (done new rest left whole : List InstInfo) (inst numbered_one : InstInfo) (k first : ℕ) → k ≡ length done → first ≡ first_of loads k inst.group → numbered_one ≡ record inst { items = items_numbered first inst.items }
    → Numbers loads done rest whole → rest ≡ inst ∷ left → new ≡ done ++ numbered_one ∷ [] → Numbers loads new left whole
goes_on loads done new rest left whole inst numbered_one k first same is made n e g =
    let at : first ≡ first_of loads (length done) inst.group = is ∙ ap (λ (i : ℕ). first_of loads i inst.group) same in
    let f : new ≡ done ++ record inst { items = items_numbered (first_of loads (length done) inst.group) inst.items } ∷ [] = g ∙ ap (λ (x : InstInfo). done ++ x ∷ []) (made ∙ ap (λ (i : ℕ). record inst { items = items_numbered i inst.items }) at) in
    let inst' = record inst { items = items_numbered (first_of loads (length done) inst.group) inst.items } in
    let count : length new ≡ length done + 1 = ap length f ∙ length_push done inst' in
    let all : done ++ numbered_from loads (length done) (inst ∷ left) ≡ whole = subst (λ (xs : List InstInfo). done ++ numbered_from loads (length done) xs ≡ whole) e n.numbered in
    let here : drop (length done) loads ≡ load_of inst ∷ map load_of left = n.left ∙ ap (map load_of) e in
    record {
      numbered = subst (λ (k : ℕ). new ++ numbered_from loads k left ≡ whole) (sym count)
          (ap (λ (xs : List InstInfo). xs ++ numbered_from loads (length done + 1) left) f ∙ (append_assoc done (inst' ∷ []) (numbered_from loads (length done + 1) left) ∙ all));
      left = subst (λ (k : ℕ). drop k loads ≡ map load_of left) (sym (count ∙ add-one (length done))) (drop_next (length done) loads (load_of inst) (map load_of left) here);
    }
