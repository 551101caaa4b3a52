-- Loops over lists.
use Rattle.std.proofs.Common.{◌≡◌, ℕ, suc, ◌+◌, ◌<◌, ◌≤◌, List, [], ◌∷◌, ◌++◌, length, drop, get_or, filter, ◌||◌, not, eqb, refl, sym, ap, ◌∙◌, Bool, true, false, cond, Option, Some, append_assoc, arith}
use Rattle.std.specs.Prelude.{nat_eq, ℤ}
use Rattle.std.specs.List.{list_any}
use Rattle.std.specs.Cmp.Lexicographic.{pointwise}
use Rattle.std.proofs.lemmas.Bool.{ne_eqb}
use Rattle.std.proofs.lemmas.List.{drop_more, drop_all, append-nil}
use Rattle.name_map.specs.Names.{Pairs}
use Rattle.cov_tree.specs.declared.groups.Member.{Member}
use Rattle.design_data.specs.declared.infos.BinInfo.{BinInfo}
use Rattle.elab_crosses.specs.Axes.{own_name, with_own, points_named}
use Rattle.elab_crosses.specs.Selections.{place_from, flag, flags}

pub next_is : {X : Type 0} (xs : List X) (i : ℕ) (x : X) → i < length xs → x ≡ get_or xs i x → drop i xs ≡ x ∷ drop (i + 1) xs
next_is {X} xs i x lt is = drop_more xs i x lt ∙ ap (λ (y : X). y ∷ drop (i + 1) xs) (sym is)

-- ---- names of points

pub own_more : (names new : Pairs (Unit {0})) (ms : List Member) (i : ℕ) (m : Member) (whole : Pairs (Unit {0})) → i < length ms → m ≡ get_or ms i m → new ≡ with_own (own_name m) names → points_named names (drop i ms) ≡ whole → points_named new (drop (i + 1) ms) ≡ whole
unfolding points_named
own_more names new ms i m whole lt is added before = ap (λ (ns : Pairs (Unit {0})). points_named ns (drop (i + 1) ms)) added ∙ (sym (ap (points_named names) (next_is ms i m lt is)) ∙ before)

pub own_done : (names : Pairs (Unit {0})) (ms : List Member) (i : ℕ) (whole : Pairs (Unit {0})) → length ms ≤ i → points_named names (drop i ms) ≡ whole → names ≡ whole
unfolding points_named
own_done names ms i whole le before = sym (ap (points_named names) (drop_all i ms le)) ∙ before

-- ---- a place of a name

pub place_found : (k i : ℕ) (names : List (List ℕ)) (x name : List ℕ) (whole : Option ℕ) → i < length names → x ≡ get_or names i x → pointwise nat_eq x name ≡ true → place_from k (drop i names) name ≡ whole → Some k ≡ whole
place_found k i names x name whole lt is same before = sym (ap (λ (xs : List (List ℕ)). place_from k xs name) (next_is names i x lt is) ∙ ap (λ (b : Bool). cond b (Some k) (place_from (k + 1) (drop (i + 1) names) name)) same) ∙ before

pub place_more : (k i : ℕ) (names : List (List ℕ)) (x name : List ℕ) (whole : Option ℕ) → i < length names → x ≡ get_or names i x → pointwise nat_eq x name ≡ false → place_from k (drop i names) name ≡ whole → place_from (k + 1) (drop (i + 1) names) name ≡ whole
place_more k i names x name whole lt is other before = sym (ap (λ (xs : List (List ℕ)). place_from k xs name) (next_is names i x lt is) ∙ ap (λ (b : Bool). cond b (Some k) (place_from (k + 1) (drop (i + 1) names) name)) other) ∙ before

-- ---- whether some element passes a test

pub any_found : {X : Type 0} (p : X → Bool) (xs : List X) (i : ℕ) (x : X) (whole : Bool) → i < length xs → x ≡ get_or xs i x → p x ≡ true → list_any p (drop i xs) ≡ whole → true ≡ whole
any_found p xs i x whole lt is passes before = sym (ap (list_any p) (next_is xs i x lt is) ∙ ap (λ (b : Bool). b || list_any p (drop (i + 1) xs)) passes) ∙ before

pub any_more : {X : Type 0} (p : X → Bool) (xs : List X) (i : ℕ) (x : X) (whole : Bool) → i < length xs → x ≡ get_or xs i x → p x ≡ false → list_any p (drop i xs) ≡ whole → list_any p (drop (i + 1) xs) ≡ whole
any_more p xs i x whole lt is fails before = sym (ap (list_any p) (next_is xs i x lt is) ∙ ap (λ (b : Bool). b || list_any p (drop (i + 1) xs)) fails) ∙ before

pub any_done : {X : Type 0} (p : X → Bool) (xs : List X) (i : ℕ) (whole : Bool) → length xs ≤ i → list_any p (drop i xs) ≡ whole → false ≡ whole
any_done p xs i whole le before = sym (ap (list_any p) (drop_all i xs le)) ∙ before

kept_one : {X : Type 0} (b : Bool) (x : X) (kept : List X) (any : Bool) → not (eqb (length kept) 0) ≡ any → not (eqb (length (cond b (x ∷ kept) kept)) 0) ≡ (b || any)
kept_one true x kept any h = ap not (ne_eqb (suc (length kept)) 0 (λ e. absurd (omega arith)))
kept_one false x kept any h = h

-- some element passes where some are left
pub some_kept : {X : Type 0} (p : X → Bool) (xs : List X) → not (eqb (length (filter p xs)) 0) ≡ list_any p xs
some_kept p [] = refl
some_kept p (x ∷ xs) = kept_one (p x) x (filter p xs) (list_any p xs) (some_kept p xs)

-- ---- flags of bins

pub flags_more : (wanted : Option ℕ) (listed : Option (List (ℤ × ℤ))) (from : List (Option ℕ)) (old new : List Bool) (bins : List BinInfo) (k i : ℕ) (bin : BinInfo) (whole : List Bool) → i < length bins → bin ≡ get_or bins i bin → new ≡ old ++ flag wanted listed from k bin
    → old ++ flags wanted listed from k (drop i bins) ≡ whole → new ++ flags wanted listed from (k + 1) (drop (i + 1) bins) ≡ whole
unfolding flags
flags_more wanted listed from old new bins k i bin whole lt is added before =
    ap (λ (fs : List Bool). fs ++ flags wanted listed from (k + 1) (drop (i + 1) bins)) added
    ∙ (append_assoc old (flag wanted listed from k bin) (flags wanted listed from (k + 1) (drop (i + 1) bins))
    ∙ (sym (ap (λ (bs : List BinInfo). old ++ flags wanted listed from k bs) (next_is bins i bin lt is)) ∙ before))

pub flags_done : (wanted : Option ℕ) (listed : Option (List (ℤ × ℤ))) (from : List (Option ℕ)) (old : List Bool) (bins : List BinInfo) (k i : ℕ) (whole : List Bool) → length bins ≤ i → old ++ flags wanted listed from k (drop i bins) ≡ whole → old ≡ whole
unfolding flags
flags_done wanted listed from old bins k i whole le before = sym (ap (λ (bs : List BinInfo). old ++ flags wanted listed from k bs) (drop_all i bins le) ∙ append-nil old) ∙ before
