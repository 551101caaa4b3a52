-- The steps of the loops over intervals.
use Rattle.std.proofs.Common.{◌≡◌, subst, ◌∙◌, ℕ, zero, suc, ◌+◌, ◌-◌, ◌<◌, ◌≤◌, ℤ, pos, ◌+ℤ◌, ◌≤ℤ◌, ◌<ℤ◌, List, [], ◌∷◌, ◌++◌, refl, ap, sym, arith, true, false, int_lt, int_le, length, drop, get_or, set, add-one, drop-cons, append_assoc, take, take_all, length-drop}
use Rattle.std.proofs.lemmas.List.{append-nil}
use Rattle.std.specs.Int.{int_max}
use Rattle.std.proofs.lemmas.Int.{ints}
use Rattle.std.proofs.lemmas.List.{drop_all}
use Rattle.cov_base.specs.Intervals.{joined, joins, before, after, merged, front, pieces, beyond, less}

pub drop_next : {X : Type 0} → (xs : List X) (i : ℕ) (d : X) → i < length xs → drop i xs ≡ get_or xs i d ∷ drop (i + 1) xs
drop_next xs i d h = rw add-one (drop-cons xs i d h)

int_le_is : (a b : ℤ) → a ≤ℤ b → int_le a b ≡ true
int_le_is a b h = grind (arith, ints)

int_le_not : (a b : ℤ) → b <ℤ a → int_le a b ≡ false
int_le_not a b h = grind (arith, ints)

int_lt_is : (a b : ℤ) → a <ℤ b → int_lt a b ≡ true
int_lt_is a b h = grind (arith, ints)

pub int_lt_not : (a b : ℤ) → b ≤ℤ a → int_lt a b ≡ false
int_lt_not a b h = grind (arith, ints)

grows : (xs : List (ℤ × ℤ)) (r d : ℤ × ℤ) (m : ℕ) → length xs ≡ suc m → r.0 ≤ℤ ((get_or xs m d).1 +ℤ pos 1)
    → set xs m ((get_or xs m d).0, int_max (get_or xs m d).1 r.1) ≡ joined xs r
grows [] r d m e h = absurd (omega arith)
grows (x ∷ []) r d zero e h = rw (int_le_is r.0 (x.1 +ℤ pos 1) h) refl
grows (x ∷ []) r d (suc m) e h = absurd (omega arith)
grows (x ∷ y ∷ xs) r d zero e h = absurd (omega arith)
grows (x ∷ y ∷ xs) r d (suc m) e h = ap (λ (zs : List (ℤ × ℤ)). x ∷ zs) (grows (y ∷ xs) r d m (omega arith) h)

pushes : (xs : List (ℤ × ℤ)) (r d : ℤ × ℤ) (m : ℕ) → length xs ≡ suc m → ((get_or xs m d).1 +ℤ pos 1) <ℤ r.0 → xs ++ r ∷ [] ≡ joined xs r
pushes [] r d m e h = absurd (omega arith)
pushes (x ∷ []) r d zero e h = rw (int_le_not r.0 (x.1 +ℤ pos 1) h) refl
pushes (x ∷ []) r d (suc m) e h = absurd (omega arith)
pushes (x ∷ y ∷ xs) r d zero e h = absurd (omega arith)
pushes (x ∷ y ∷ xs) r d (suc m) e h = ap (λ (zs : List (ℤ × ℤ)). x ∷ zs) (pushes (y ∷ xs) r d m (omega arith) h)

-- an interval that joins the last one grows it
pub joined_grows : (xs : List (ℤ × ℤ)) (r last : ℤ × ℤ) (n : ℕ) (high : ℤ) → n ≡ length xs → 0 < n → last ≡ get_or xs (n - 1) last → r.0 ≤ℤ (last.1 +ℤ pos 1) → high ≡ int_max last.1 r.1
    → set xs (n - 1) (last.0, high) ≡ joined xs r
joined_grows xs r last n high e some at h grown =
    let near : r.0 ≤ℤ ((get_or xs (n - 1) last).1 +ℤ pos 1) = subst (λ (x : ℤ × ℤ). r.0 ≤ℤ (x.1 +ℤ pos 1)) at h in
    let whole = grows xs r last (n - 1) (omega arith) near in
    rw grown (subst (λ (x : ℤ × ℤ). set xs (n - 1) (x.0, int_max x.1 r.1) ≡ joined xs r) (sym at) whole)

-- another one goes behind it
pub joined_pushes : (xs : List (ℤ × ℤ)) (r last : ℤ × ℤ) (n : ℕ) → n ≡ length xs → 0 < n → last ≡ get_or xs (n - 1) last → (last.1 +ℤ pos 1) <ℤ r.0 → xs ++ r ∷ [] ≡ joined xs r
joined_pushes xs r last n e some at h =
    pushes xs r last (n - 1) (omega arith) (subst (λ (x : ℤ × ℤ). (x.1 +ℤ pos 1) <ℤ r.0) at h)

pub joined_first : (xs : List (ℤ × ℤ)) (r : ℤ × ℤ) → length xs ≡ 0 → xs ++ r ∷ [] ≡ joined xs r
joined_first [] r e = refl
joined_first (x ∷ xs) r e = absurd (omega arith)

pub joins_next : (done rs : List (ℤ × ℤ)) (i : ℕ) (d : ℤ × ℤ) → i < length rs → joins (joined done (get_or rs i d)) (drop (i + 1) rs) ≡ joins done (drop i rs)
joins_next done rs i d h = rw (drop_next rs i d h) refl

pub joins_all : (done rs : List (ℤ × ℤ)) (i : ℕ) → length rs ≤ i → joins done (drop i rs) ≡ done
joins_all done rs i h = rw (drop_all i rs h) refl

pub joins-append : (done xs ys : List (ℤ × ℤ)) → joins done (xs ++ ys) ≡ joins (joins done xs) ys
joins-append done [] ys = refl
joins-append done (x ∷ xs) ys = joins-append (joined done x) xs ys

-- what an interval is without a hole, and without the holes behind it
pub pieces_before : (low high : ℤ) (h : ℤ × ℤ) (holes : List (ℤ × ℤ)) → high <ℤ h.0 → pieces (low, high) (h ∷ holes) ≡ (low, high) ∷ []
pieces_before low high h holes lt = rw (int_lt_is high h.0 lt) refl

pub pieces_end : (low high : ℤ) (h : ℤ × ℤ) (holes : List (ℤ × ℤ)) → h.0 ≤ℤ high → high ≤ℤ h.1 → pieces (low, high) (h ∷ holes) ≡ front low h.0
pieces_end low high h holes le ge = rw (int_lt_not high h.0 le, int_le_is high h.1 ge) (append-nil (front low h.0))

pub pieces_next : (low high : ℤ) (h : ℤ × ℤ) (holes : List (ℤ × ℤ)) → h.0 ≤ℤ high → h.1 <ℤ high → pieces (low, high) (h ∷ holes) ≡ front low h.0 ++ pieces (int_max low (h.1 +ℤ pos 1), high) holes
pieces_next low high h holes le lt = rw (int_lt_not high h.0 le, int_le_not high h.1 lt) refl

pub beyond_before : (high : ℤ) (h : ℤ × ℤ) (holes : List (ℤ × ℤ)) → high <ℤ h.0 → beyond high (h ∷ holes) ≡ h ∷ holes
beyond_before high h holes lt = rw (int_lt_is high h.0 lt) refl

pub beyond_end : (high : ℤ) (h : ℤ × ℤ) (holes : List (ℤ × ℤ)) → h.0 ≤ℤ high → high ≤ℤ h.1 → beyond high (h ∷ holes) ≡ h ∷ holes
beyond_end high h holes le ge = rw (int_lt_not high h.0 le, int_le_is high h.1 ge) refl

pub beyond_next : (high : ℤ) (h : ℤ × ℤ) (holes : List (ℤ × ℤ)) → h.0 ≤ℤ high → h.1 <ℤ high → beyond high (h ∷ holes) ≡ beyond high holes
beyond_next high h holes le lt = rw (int_lt_not high h.0 le, int_le_not high h.1 lt) refl

-- the intervals that begin below a bound
pub before_next : (low : ℤ) (r : ℤ × ℤ) (rs : List (ℤ × ℤ)) → r.0 <ℤ low → before low (r ∷ rs) ≡ r ∷ before low rs
before_next low r rs lt = rw (int_lt_is r.0 low lt) refl

pub after_next : (low : ℤ) (r : ℤ × ℤ) (rs : List (ℤ × ℤ)) → r.0 <ℤ low → after low (r ∷ rs) ≡ after low rs
after_next low r rs lt = rw (int_lt_is r.0 low lt) refl

-- one interval of the first list, joined behind those of the second that begin before it
pub union_next : (done left right : List (ℤ × ℤ)) (i : ℕ) (d : ℤ × ℤ) → i < length left
    → joins (joined (joins done (before (get_or left i d).0 right)) (get_or left i d)) (merged (drop (i + 1) left) (after (get_or left i d).0 right)) ≡ joins done (merged (drop i left) right)
union_next done left right i d h =
    rw (drop_next left i d h, joins-append done (before (get_or left i d).0 right) (get_or left i d ∷ merged (drop (i + 1) left) (after (get_or left i d).0 right))) refl

pub union_end : (done left right : List (ℤ × ℤ)) (i : ℕ) → length left ≤ i → joins done (merged (drop i left) right) ≡ joins done right
union_end done left right i h = rw (drop_all i left h) refl

pub less_next : (done rs holes : List (ℤ × ℤ)) (i : ℕ) (d : ℤ × ℤ) → i < length rs
    → (done ++ pieces (get_or rs i d) holes) ++ less (drop (i + 1) rs) (beyond (get_or rs i d).1 holes) ≡ done ++ less (drop i rs) holes
less_next done rs holes i d h =
    rw (drop_next rs i d h) (append_assoc done (pieces (get_or rs i d) holes) (less (drop (i + 1) rs) (beyond (get_or rs i d).1 holes)))

pub less_end : (done rs holes : List (ℤ × ℤ)) (i : ℕ) → length rs ≤ i → done ++ less (drop i rs) holes ≡ done
less_end done rs holes i h = rw (drop_all i rs h) (append-nil done)

pub drop_at : {X : Type 0} → (xs : List X) (i : ℕ) (x : X) → i < length xs → x ≡ get_or xs i x → drop i xs ≡ x ∷ drop (i + 1) xs
drop_at xs i x h is = drop_next xs i x h ∙ ap (λ y. y ∷ drop (i + 1) xs) (sym is)

pub take_rest : {X : Type 0} → (xs : List X) (i : ℕ) → take (length xs - i) (drop i xs) ≡ drop i xs
take_rest {X} xs i = take_all (length xs - i) (drop i xs) (omega (arith, length-drop {A = X}))

-- one hole of a cut, which ends within the interval
pub cut_next : (done new whole holes hs : List (ℤ × ℤ)) (h : ℤ × ℤ) (low high next : ℤ) → holes ≡ h ∷ hs → new ≡ done ++ front low h.0 → done ++ pieces (low, high) holes ≡ whole → h.0 ≤ℤ high → h.1 <ℤ high → next ≡ int_max low (h.1 +ℤ pos 1)
    → new ++ pieces (next, high) hs ≡ whole
cut_next done new whole holes hs h low high next at added before le lt e =
    rw (added, e) (append_assoc done (front low h.0) (pieces (int_max low (h.1 +ℤ pos 1), high) hs) ∙ ap (λ (xs : List (ℤ × ℤ)). done ++ xs) (sym (pieces_next low high h hs le lt)) ∙ (subst (λ (xs : List (ℤ × ℤ)). done ++ pieces (low, high) xs ≡ whole) at before))

pub cut_next_rest : (holes hs rest : List (ℤ × ℤ)) (h : ℤ × ℤ) (high : ℤ) → holes ≡ h ∷ hs → beyond high holes ≡ rest → h.0 ≤ℤ high → h.1 <ℤ high → beyond high hs ≡ rest
cut_next_rest holes hs rest h high at before le lt = sym (beyond_next high h hs le lt) ∙ subst (λ (xs : List (ℤ × ℤ)). beyond high xs ≡ rest) at before

-- one that reaches beyond it
pub cut_end : (done new whole holes hs : List (ℤ × ℤ)) (h : ℤ × ℤ) (low high : ℤ) → holes ≡ h ∷ hs → new ≡ done ++ front low h.0 → done ++ pieces (low, high) holes ≡ whole → h.0 ≤ℤ high → high ≤ℤ h.1 → new ≡ whole
cut_end done new whole holes hs h low high at added before le ge =
    added ∙ (ap (λ (xs : List (ℤ × ℤ)). done ++ xs) (sym (pieces_end low high h hs le ge)) ∙ subst (λ (xs : List (ℤ × ℤ)). done ++ pieces (low, high) xs ≡ whole) at before)

pub cut_end_rest : (holes hs rest : List (ℤ × ℤ)) (h : ℤ × ℤ) (high : ℤ) → holes ≡ h ∷ hs → beyond high holes ≡ rest → h.0 ≤ℤ high → high ≤ℤ h.1 → holes ≡ rest
cut_end_rest holes hs rest h high at before le ge = at ∙ (sym (beyond_end high h hs le ge) ∙ subst (λ (xs : List (ℤ × ℤ)). beyond high xs ≡ rest) at before)

-- an interval that begins below the bound
pub before_step : (low : ℤ) (done new whole rs ranges : List (ℤ × ℤ)) (r : ℤ × ℤ) → ranges ≡ r ∷ rs → new ≡ joined done r → joins done (before low ranges) ≡ whole → r.0 <ℤ low → joins new (before low rs) ≡ whole
before_step low done new whole rs ranges r at added was lt =
    rw added (sym (ap (joins done) (before_next low r rs lt)) ∙ subst (λ (xs : List (ℤ × ℤ)). joins done (before low xs) ≡ whole) at was)

pub after_step : (low : ℤ) (rs ranges rest : List (ℤ × ℤ)) (r : ℤ × ℤ) → ranges ≡ r ∷ rs → after low ranges ≡ rest → r.0 <ℤ low → after low rs ≡ rest
after_step low rs ranges rest r at was lt = sym (after_next low r rs lt) ∙ subst (λ (xs : List (ℤ × ℤ)). after low xs ≡ rest) at was

-- one interval of a union, behind those that begin before it
pub union_step : (done new last whole left rights right ls : List (ℤ × ℤ)) (r : ℤ × ℤ) → left ≡ r ∷ ls → new ≡ joins done (before r.0 rights) → last ≡ joined new r → right ≡ after r.0 rights → joins done (merged left rights) ≡ whole
    → joins last (merged ls right) ≡ whole
union_step done new last whole left rights right ls r at one two rest was =
    rw (two, one, rest) (sym (joins-append done (before r.0 rights) (r ∷ merged ls (after r.0 rights))) ∙ subst (λ (xs : List (ℤ × ℤ)). joins done (merged xs rights) ≡ whole) at was)
