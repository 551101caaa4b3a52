-- From the lists found before to those found after.
use Rattle.std.proofs.Common.{◌≡◌, ℕ, ◌+◌, ◌-◌, ◌<◌, ◌⊎◌, List, [], ◌∷◌, ◌++◌, length, take, drop, get_or, refl, ap, sym, ◌∙◌, subst, inl, inr, arith, append_assoc, append-nil, length-append, map, Bool, true, false, cond, ◌||◌}
use Rattle.std.specs.Prelude.{ℤ, Vec, Some, None, slice_get, zero, suc}
use Rattle.std.specs.Global.{Global}
use Rattle.std.specs.Ordering.{int_eq}
use Rattle.std.specs.List.{flat_map}
use Rattle.std.specs.Cmp.Lexicographic.{pointwise}
use Rattle.std.proofs.lemmas.Bool.{false≢true}
use Rattle.std.proofs.lemmas.List.Folds.{list_any-append}
use Rattle.std.proofs.lemmas.List.Concat.{flat_map-append, flat_map_single}
use Rattle.std.proofs.lemmas.List.{take_more, take-append-drop, take-append-le, take_all}
use Rattle.trans_found.specs.declared.found.Found.{Found}
use Rattle.trans_found.specs.declared.fault.ExpandFault.{ExpandFault}
use Rattle.trans_found.specs.declared.fault.ExpandFault.TheVariants.{Unbounded, TooLong, TooManyBins, Memory}
use Rattle.trans_found.specs.Lists.{is_among, news, all_of}
use Rattle.trans_found.specs.Found.{lists_of, Holds, Takes, FailsAfter, Closes, Extends, new_groups, packed}
use Rattle.trans_found.proofs.News.{Word, same_word, word_same, among_left, among_right, among_cases, among_first, among_cons, news-append, new_groups-append, packed-append, all_of-append, all_of-packed, all_of-new_groups}

bool_cases : (b : Bool) → (b ≡ true) ⊎ (b ≡ false)
bool_cases true = inl refl
bool_cases false = inr refl

not_true : (b : Bool) → (b ≡ true → ⊥) → b ≡ false
not_true true n = absurd (n refl)
not_true false n = refl

or_false : (a b : Bool) → b ≡ false → (a || b) ≡ a
or_false true b e = refl
or_false false b e = e

-- ---- the set of seen lists

abbrev pub Key : Type 0
Key = Vec ℤ Global

pub seen_after : (lists : List Word) (had has : Key → Bool) (key : Key) (w : Word)
    → ((q : Key) → had q ≡ is_among lists q.items)
    → ((q : Key) → has q ≡ cond (pointwise int_eq key.items q.items) true (had q))
    → key.items ≡ w → (q : Key) → has q ≡ is_among (lists ++ w ∷ []) q.items
seen_after lists had has key w before now same q = elim (bool_cases (pointwise int_eq key.items q.items)) [
  | inl same_key ↦
      let is : w ≡ q.items = sym same ∙ same_word key.items q.items same_key in
      now q ∙ ap (λ b. cond b true (had q)) same_key ∙ sym (subst (λ u. is_among (lists ++ w ∷ []) u ≡ true) is (among_right lists (w ∷ []) w (among_first w [])))
  | inr apart ↦
      let other : is_among (w ∷ []) q.items ≡ false = not_true (is_among (w ∷ []) q.items) (λ h. elim (among_cons w [] q.items h) [
        | inl e ↦ false≢true (sym apart ∙ subst (λ u. pointwise int_eq key.items u ≡ true) (same ∙ sym e) (word_same key.items))
        | inr none ↦ false≢true none
      ]) in
      now q ∙ ap (λ b. cond b true (had q)) apart ∙ before q ∙ sym (list_any-append (pointwise int_eq q.items) lists (w ∷ []) ∙ or_false (is_among lists q.items) (is_among (w ∷ []) q.items) other)
]

pub among_again : (lists : List Word) (w u : Word) → is_among lists w ≡ true → is_among (lists ++ w ∷ []) u ≡ is_among lists u
among_again lists w u h = elim (bool_cases (is_among lists u)) [
  | inl there ↦ among_left lists (w ∷ []) u there ∙ sym there
  | inr apart ↦ not_true (is_among (lists ++ w ∷ []) u) (λ k. elim (among_cases lists (w ∷ []) u k) [
    | inl there ↦ false≢true (sym apart ∙ there)
    | inr here ↦ elim (among_cons w [] u here) [ inl e ↦ false≢true (sym apart ∙ subst (λ z. is_among lists z ≡ true) (sym e) h) | inr none ↦ false≢true none ]
  ]) ∙ sym apart
]

pub news_old : (before : List Word) (w : Word) → is_among before w ≡ true → news before (w ∷ []) ≡ []
news_old before w h = ap (λ b. cond b [] (w ∷ [])) h

pub news_new : (before : List Word) (w : Word) → is_among before w ≡ false → news before (w ∷ []) ≡ w ∷ []
news_new before w h = ap (λ b. cond b [] (w ∷ [])) h

-- ---- lists taken one after the other

pub takes_none : (old : Found) → Holds old → Takes old old []
takes_none old h = record { holds = h; groups = refl; fresh = sym (append-nil old.fresh.items) }

pub lists_after : (old new : Found) (ws : List Word) → Takes old new ws → lists_of new ≡ lists_of old ++ news (lists_of old) ws
lists_after old new ws t =
    ap (λ g. all_of g ++ new.fresh.items) t.groups
    ∙ ap (λ f. all_of old.groups.items ++ f) t.fresh
    ∙ sym (append_assoc (all_of old.groups.items) old.fresh.items (news (lists_of old) ws))

pub takes_more : (a b c : Found) (xs ys : List Word) → Takes a b xs → Takes b c ys → Takes a c (xs ++ ys)
takes_more a b c xs ys s t = record {
  holds = t.holds;
  groups = t.groups ∙ s.groups;
  fresh =
      let new = news (lists_of a) xs in
      t.fresh
      ∙ ap (λ l. b.fresh.items ++ news l ys) (lists_after a b xs s)
      ∙ ap (λ f. f ++ news (lists_of a ++ new) ys) s.fresh
      ∙ append_assoc a.fresh.items new (news (lists_of a ++ new) ys)
      ∙ ap (λ l. a.fresh.items ++ l) (sym (news-append (lists_of a) xs ys));
}

pub fails_first : (before xs ys : List Word) (f : ExpandFault) → FailsAfter before xs f → FailsAfter before (xs ++ ys) f
fails_first before xs ys Unbounded h = h
fails_first before xs ys (TooLong cells) h = h
fails_first before xs ys (TooManyBins count) h = (h.0, omega (arith, h.1, ap length (news-append before xs ys), length-append (news before xs) (news (before ++ news before xs) ys)))
fails_first before xs ys Memory h = h

pub fails_behind : (before xs ys : List Word) (f : ExpandFault) → FailsAfter (before ++ news before xs) ys f → FailsAfter before (xs ++ ys) f
fails_behind before xs ys Unbounded h = h
fails_behind before xs ys (TooLong cells) h = h
fails_behind before xs ys (TooManyBins count) h = (h.0, omega (arith, h.1, ap length (news-append before xs ys), length-append (news before xs) (news (before ++ news before xs) ys), length-append before (news before xs)))
fails_behind before xs ys Memory h = h

pub fails_later : (old new : Found) (xs ys : List Word) (f : ExpandFault) → Takes old new xs → FailsAfter (lists_of new) ys f → FailsAfter (lists_of old) (xs ++ ys) f
fails_later old new xs ys f t h = fails_behind (lists_of old) xs ys f (subst (λ l. FailsAfter l ys f) (lists_after old new xs t) h)

pub left_more : (done rest left whole : List Word) (list : Word) → rest ≡ list ∷ left → done ++ rest ≡ whole → (done ++ list ∷ []) ++ left ≡ whole
left_more done rest left whole list next parts = append_assoc done (list ∷ []) left ∙ ap (λ l. done ++ l) (sym next) ∙ parts

pub fails_left : (old now : Found) (done rest left whole : List Word) (list : Word) (f : ExpandFault) → rest ≡ list ∷ left → done ++ rest ≡ whole → Takes old now done → FailsAfter (lists_of now) (list ∷ []) f → FailsAfter (lists_of old) whole f
fails_left old now done rest left whole list f next parts t h =
    subst (λ l. FailsAfter (lists_of old) l f) (left_more done rest left whole list next parts)
    (fails_first (lists_of old) (done ++ list ∷ []) left f (fails_later old now done (list ∷ []) f t h))

-- ---- groups taken one after the other

pub extends_none : (old : Found) → Holds old → old.fresh.items ≡ [] → Extends old old []
extends_none old h e = record { holds = h; groups = sym (append-nil old.groups.items); fresh = e }

open_lists : (found : Found) → found.fresh.items ≡ [] → lists_of found ≡ all_of found.groups.items
open_lists found e = ap (λ f. all_of found.groups.items ++ f) e ∙ append-nil (all_of found.groups.items)

pub groups_after : (old new : Found) (gs : List (List Word)) → Extends old new gs → all_of new.groups.items ≡ all_of old.groups.items ++ news (all_of old.groups.items) (all_of gs)
groups_after old new gs e =
    let before = all_of old.groups.items in
    ap all_of e.groups
    ∙ all_of-append old.groups.items (packed (new_groups before gs))
    ∙ ap (λ l. before ++ l) (all_of-packed (new_groups before gs) ∙ all_of-new_groups before gs)

pub extends_more : (a b c : Found) (gs hs : List (List Word)) → Extends a b gs → Extends b c hs → Extends a c (gs ++ hs)
extends_more a b c gs hs s t = record {
  holds = t.holds;
  fresh = t.fresh;
  groups =
      let before = all_of a.groups.items in
      let here = new_groups before gs in
      let after : all_of b.groups.items ≡ before ++ all_of here = groups_after a b gs s ∙ ap (λ l. before ++ l) (sym (all_of-new_groups before gs)) in
      t.groups
      ∙ ap (λ l. b.groups.items ++ packed (new_groups l hs)) after
      ∙ ap (λ l. l ++ packed (new_groups (before ++ all_of here) hs)) s.groups
      ∙ append_assoc a.groups.items (packed here) (packed (new_groups (before ++ all_of here) hs))
      ∙ ap (λ l. a.groups.items ++ l) (sym (packed-append here (new_groups (before ++ all_of here) hs)) ∙ ap packed (sym (new_groups-append before gs hs)));
}

-- one group, taken and closed
pub extends_one : (a b c : Found) (g : List Word) → a.fresh.items ≡ [] → Takes a b g → Closes b c → Extends a c (g ∷ [])
extends_one a b c g e t k = record {
  holds = k.holds;
  fresh = k.fresh;
  groups =
      let before = all_of a.groups.items in
      k.groups
      ∙ ap (λ l. l ++ packed (b.fresh.items ∷ [])) t.groups
      ∙ ap (λ f. a.groups.items ++ packed (f ∷ [])) (t.fresh ∙ ap (λ f. f ++ news (lists_of a) g) e ∙ ap (λ l. news l g) (open_lists a e));
}

pub fails_open : (found : Found) (ws : List Word) (f : ExpandFault) → found.fresh.items ≡ [] → FailsAfter (lists_of found) ws f → FailsAfter (all_of found.groups.items) ws f
fails_open found ws f e h = subst (λ l. FailsAfter l ws f) (open_lists found e) h

pub fails_group : (old new : Found) (gs hs : List (List Word)) (f : ExpandFault) → Extends old new gs → FailsAfter (all_of new.groups.items) (all_of hs) f → FailsAfter (all_of old.groups.items) (all_of (gs ++ hs)) f
fails_group old new gs hs f e h =
    let before = all_of old.groups.items in
    subst (λ l. FailsAfter before l f) (sym (all_of-append gs hs))
    (fails_behind before (all_of gs) (all_of hs) f (subst (λ l. FailsAfter l (all_of hs) f) (groups_after old new gs e) h))

-- ---- one element more of a list that is gone through

module _ {X A : Type 0} (g : X → List A) where
  pub flat_next : (xs : List X) (i : ℕ) (x : X) → i < length xs → x ≡ get_or xs i x → flat_map g (take (i + 1) xs) ≡ flat_map g (take i xs) ++ g x
  flat_next xs i x within is =
      ap (λ l. flat_map g l) (take_more xs i x within ∙ ap (λ y. take i xs ++ y ∷ []) (sym is))
      ∙ flat_map-append g (take i xs) (x ∷ [])
      ∙ ap (λ l. flat_map g (take i xs) ++ l) (append-nil (g x))

  pub flat_rest : (xs : List X) (i : ℕ) (x : X) → i < length xs → x ≡ get_or xs i x → flat_map g xs ≡ (flat_map g (take i xs) ++ g x) ++ flat_map g (drop (i + 1) xs)
  flat_rest xs i x within is =
      ap (λ l. flat_map g l) (sym (take-append-drop (i + 1) xs))
      ∙ flat_map-append g (take (i + 1) xs) (drop (i + 1) xs)
      ∙ ap (λ l. l ++ flat_map g (drop (i + 1) xs)) (flat_next xs i x within is)

module _ {X Y : Type 0} (f : X → Y) where
  pub map_next : (xs : List X) (i : ℕ) (x : X) → i < length xs → x ≡ get_or xs i x → map f (take (i + 1) xs) ≡ map f (take i xs) ++ f x ∷ []
  map_next xs i x within is =
      sym (flat_map_single f (take (i + 1) xs)) ∙ flat_next (λ y. f y ∷ []) xs i x within is ∙ ap (λ l. l ++ f x ∷ []) (flat_map_single f (take i xs))

  pub map_rest : (xs : List X) (i : ℕ) (x : X) → i < length xs → x ≡ get_or xs i x → map f xs ≡ (map f (take i xs) ++ f x ∷ []) ++ map f (drop (i + 1) xs)
  map_rest xs i x within is =
      sym (flat_map_single f xs) ∙ flat_rest (λ y. f y ∷ []) xs i x within is
      ∙ ap (λ l. (l ++ f x ∷ []) ++ flat_map (λ y. f y ∷ []) (drop (i + 1) xs)) (flat_map_single f (take i xs))
      ∙ ap (λ l. (map f (take i xs) ++ f x ∷ []) ++ l) (flat_map_single f (drop (i + 1) xs))

module _ {X : Type 0} (f : X → Word) (old now : Found) (xs : List X) (i : ℕ) (x : X) (within : i < length xs) (is : x ≡ get_or xs i x) (so_far : Takes old now (map f (take i xs))) where
  pub takes_next : (new : Found) → Takes now new (f x ∷ []) → Takes old new (map f (take (i + 1) xs))
  takes_next new t = subst (Takes old new) (sym (map_next f xs i x within is)) (takes_more old now new (map f (take i xs)) (f x ∷ []) so_far t)

  pub fails_next : (e : ExpandFault) → FailsAfter (lists_of now) (f x ∷ []) e → FailsAfter (lists_of old) (map f xs) e
  fails_next e h = subst (λ l. FailsAfter (lists_of old) l e) (sym (map_rest f xs i x within is))
      (fails_first (lists_of old) (map f (take i xs) ++ f x ∷ []) (map f (drop (i + 1) xs)) e (fails_later old now (map f (take i xs)) (f x ∷ []) e so_far h))

module _ {X : Type 0} (g : X → List Word) (old now : Found) (xs : List X) (i : ℕ) (x : X) (within : i < length xs) (is : x ≡ get_or xs i x) (so_far : Takes old now (flat_map g (take i xs))) where
  pub takes_part : (new : Found) → Takes now new (g x) → Takes old new (flat_map g (take (i + 1) xs))
  takes_part new t = subst (Takes old new) (sym (flat_next g xs i x within is)) (takes_more old now new (flat_map g (take i xs)) (g x) so_far t)

  pub fails_part : (e : ExpandFault) → FailsAfter (lists_of now) (g x) e → FailsAfter (lists_of old) (flat_map g xs) e
  fails_part e h = subst (λ l. FailsAfter (lists_of old) l e) (sym (flat_rest g xs i x within is))
      (fails_first (lists_of old) (flat_map g (take i xs) ++ g x) (flat_map g (drop (i + 1) xs)) e (fails_later old now (flat_map g (take i xs)) (g x) e so_far h))

module _ {X : Type 0} (f : X → List Word) (old now : Found) (xs : List X) (i : ℕ) (x : X) (within : i < length xs) (is : x ≡ get_or xs i x) (so_far : Extends old now (map f (take i xs))) where
  pub extends_next : (new : Found) → Extends now new (f x ∷ []) → Extends old new (map f (take (i + 1) xs))
  extends_next new t = subst (Extends old new) (sym (map_next f xs i x within is)) (extends_more old now new (map f (take i xs)) (f x ∷ []) so_far t)

  pub fails_extend : (e : ExpandFault) → FailsAfter (lists_of now) (f x) e → FailsAfter (all_of old.groups.items) (all_of (map f xs)) e
  fails_extend e h =
      let before = all_of old.groups.items in
      let here : FailsAfter (all_of now.groups.items) (all_of (f x ∷ [])) e = subst (λ l. FailsAfter (all_of now.groups.items) l e) (sym (append-nil (f x))) (fails_open now (f x) e so_far.fresh h) in
      subst (λ l. FailsAfter before (all_of l) e) (sym (map_rest f xs i x within is))
      (subst (λ l. FailsAfter before l e) (sym (all_of-append (map f (take i xs) ++ f x ∷ []) (map f (drop (i + 1) xs))))
      (fails_first before (all_of (map f (take i xs) ++ f x ∷ [])) (all_of (map f (drop (i + 1) xs))) e (fails_group old now (map f (take i xs)) (f x ∷ []) e so_far here)))

-- ---- the number at a place

pub value_at : (xs : List ℤ) (i : ℕ) (v : ℤ) → Some v ≡ slice_get xs i → v ≡ get_or xs i v
value_at [] i v e = absurd (cc e)
value_at (x ∷ xs) zero v e = cc
value_at (x ∷ xs) (suc i) v e = value_at xs i v e

pub none_at : (xs : List ℤ) (i : ℕ) → i < length xs → None ≡ slice_get xs i → ⊥
none_at [] i within e = omega (arith, within)
none_at (x ∷ xs) zero within e = absurd (cc e)
none_at (x ∷ xs) (suc i) within e = none_at xs i (omega (arith, within)) e

-- what a `pop` leaves after a push
pub popped : (first : Word) (v : ℤ) (old new : Word) (n : ℕ) → new ≡ take (n - 1) old → n ≡ length old → old ≡ first ++ v ∷ [] → new ≡ first
popped first v old new n rest long was =
    let short : n - 1 ≡ length first = omega (arith, long, ap length was, length-append first (v ∷ [])) in
    rest ∙ ap (λ k. take k old) short ∙ ap (λ w. take (length first) w) was
    ∙ take-append-le (length first) first (v ∷ []) (omega arith) ∙ take_all (length first) first (omega arith)

module _ {X : Type 0} (g : X → List (List Word)) (old now : Found) (xs : List X) (i : ℕ) (x : X) (within : i < length xs) (is : x ≡ get_or xs i x) (so_far : Extends old now (flat_map g (take i xs))) where
  pub extends_part : (new : Found) → Extends now new (g x) → Extends old new (flat_map g (take (i + 1) xs))
  extends_part new t = subst (Extends old new) (sym (flat_next g xs i x within is)) (extends_more old now new (flat_map g (take i xs)) (g x) so_far t)

  pub fails_spread : (e : ExpandFault) → FailsAfter (all_of now.groups.items) (all_of (g x)) e → FailsAfter (all_of old.groups.items) (all_of (flat_map g xs)) e
  fails_spread e h =
      let before = all_of old.groups.items in
      let front = flat_map g (take i xs) ++ g x in
      let back = flat_map g (drop (i + 1) xs) in
      subst (λ l. FailsAfter before (all_of l) e) (sym (flat_rest g xs i x within is))
      (subst (λ l. FailsAfter before l e) (sym (all_of-append front back))
      (fails_first before (all_of front) (all_of back) e (fails_group old now (flat_map g (take i xs)) (g x) e so_far h)))
