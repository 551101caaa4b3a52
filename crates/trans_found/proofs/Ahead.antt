-- One number of each of several sets in front of lists: lists that are new stay new, and none is made twice.
use Rattle.std.proofs.Common.{◌≡◌, ℕ, ◌+◌, ◌-◌, ◌*◌, ◌<◌, List, [], ◌∷◌, ◌++◌, length, take, drop, get_or, map, refl, ap, sym, ◌∙◌, subst, inl, inr, arith, append-nil, length-append, length-drop, Bool, true, false, cond, zero, suc}
use Rattle.std.specs.Prelude.{ℤ, pos, ◌+ℤ◌, ◌≤ℤ◌, ◌||◌, replicate}
use Rattle.std.specs.Ordering.{int_eq}
use Rattle.std.specs.List.{flat_map}
use Rattle.std.specs.Cmp.Lexicographic.{pointwise}
use Rattle.std.proofs.lemmas.Bool.{false≢true, or_cases, or_left, or_right}
use Rattle.std.proofs.lemmas.Bool.Decides.{Decides-int_eq}
use Rattle.std.proofs.lemmas.Int.{ints}
use Rattle.std.proofs.lemmas.List.{map-id, length-map, drop_more, take-append-drop, take_all}
use Rattle.std.proofs.lemmas.List.Folds.{list_any-append}
use Rattle.cov_base.specs.Sets.{written, is_in}
use Rattle.trans_seq.specs.declared.seq.Item.{Item}
use Rattle.trans_found.specs.Lists.{from_on, lengths, choices, joined, by_lengths, is_among, news, all_of}
use Rattle.trans_found.specs.Found.{new_groups, packed}
use Rattle.trans_found.specs.Held.{words, once}
use Rattle.trans_found.specs.Alone.{behind, ahead, groups_ahead, AreOrdered}
use Rattle.trans_found.proofs.News.{Word, same_word, word_same, among_left, among_right, among_cases, among_cons, among_first, among_later, among_map, news-append, packed_one}
use Rattle.trans_found.proofs.Counted.{joined-append, map-same, first_map}
use Rattle.trans_found.proofs.Numbers.{AscendsFrom, ordered}

-- ---- what is new among images

bool_same : (a b : Bool) → (a ≡ true → b ≡ true) → (b ≡ true → a ≡ true) → a ≡ b
bool_same true b f g = sym (f refl)
bool_same false true f g = absurd (false≢true (g refl))
bool_same false false f g = refl

module _ (f : Word → Word) (one : (u w : Word) → f u ≡ f w → u ≡ w) where
  same_image : (u w : Word) → pointwise int_eq (f u) (f w) ≡ pointwise int_eq u w
  same_image u w = bool_same (pointwise int_eq (f u) (f w)) (pointwise int_eq u w)
      (λ h. subst (λ z. pointwise int_eq u z ≡ true) (one u w (same_word (f u) (f w) h)) (word_same u))
      (λ h. subst (λ z. pointwise int_eq (f u) (f z) ≡ true) (same_word u w h) (word_same (f u)))

  image_more : (images before : List Word) (w u : Word) → is_among images (f u) ≡ is_among before u → is_among (images ++ f w ∷ []) (f u) ≡ is_among (before ++ w ∷ []) u
  image_more images before w u is =
      list_any-append (pointwise int_eq (f u)) images (f w ∷ [])
      ∙ ap (λ b. b || (pointwise int_eq (f u) (f w) || false)) is
      ∙ ap (λ b. is_among before u || (b || false)) (same_image u w)
      ∙ sym (list_any-append (pointwise int_eq u) before (w ∷ []))

  image_by : (images before : List Word) (w : Word) (ws : List Word) (s t : Bool) → s ≡ t → news images (map f ws) ≡ map f (news before ws)
      → news (images ++ f w ∷ []) (map f ws) ≡ map f (news (before ++ w ∷ []) ws)
      → cond s (news images (map f ws)) (f w ∷ news (images ++ f w ∷ []) (map f ws)) ≡ map f (cond t (news before ws) (w ∷ news (before ++ w ∷ []) ws))
  image_by images before w ws true true e there here = there
  image_by images before w ws true false e there here = absurd (false≢true (sym e))
  image_by images before w ws false true e there here = absurd (false≢true e)
  image_by images before w ws false false e there here = ap (λ l. f w ∷ l) here

  -- it is the image of what is new
  pub news-image : (ws before images : List Word) → ((w : Word) → is_among images (f w) ≡ is_among before w) → news images (map f ws) ≡ map f (news before ws)
  news-image [] before images is = refl
  news-image (w ∷ ws) before images is = image_by images before w ws (is_among images (f w)) (is_among before w) (is w)
      (news-image ws before images is)
      (news-image ws (before ++ w ∷ []) (images ++ f w ∷ []) (λ u. image_more images before w u (is u)))

-- ---- one of several numbers in front

-- each list with one of the numbers in front
abbrev pub each : List ℤ → List Word → List Word
each vs ws = flat_map (λ v. map (λ r. v ∷ r) ws) vs

tail_is : (v : ℤ) (u w : Word) → v ∷ u ≡ v ∷ w → u ≡ w
tail_is v u w e = cc

head_is : (v x : ℤ) (u w : Word) → v ∷ u ≡ x ∷ w → v ≡ x
head_is v x u w e = cc

from-map : (v : ℤ) (ws : List Word) (w : Word) → is_among (map (λ r. v ∷ r) ws) w ≡ true → (u : Word) × (w ≡ v ∷ u) × (is_among ws u ≡ true)
from-map v [] w h = absurd (false≢true h)
from-map v (x ∷ xs) w h = elim (among_cons (v ∷ x) (map (λ r. v ∷ r) xs) w h) [
  | inl e ↦ (x, e, among_first x xs)
  | inr later ↦ let r = from-map v xs w later in (r.0, r.1, among_later x xs r.0 r.2)
]

each-from : (vs : List ℤ) (ws : List Word) (v : ℤ) (w : Word) → is_among (each vs ws) (v ∷ w) ≡ true → is_among ws w ≡ true
each-from [] ws v w h = absurd (false≢true h)
each-from (x ∷ xs) ws v w h = elim (among_cases (map (λ r. x ∷ r) ws) (each xs ws) (v ∷ w) h) [
  | inl here ↦
      let r = from-map x ws (v ∷ w) here in
      let head : v ≡ x = head_is v x w r.0 r.1 in
      subst (λ u. is_among ws u ≡ true) (tail_is x r.0 w (sym r.1 ∙ ap (λ y. y ∷ w) head)) r.2
  | inr later ↦ each-from xs ws v w later
]

each-has : (vs : List ℤ) (ws : List Word) (v : ℤ) (w : Word) → is_in vs v ≡ true → is_among ws w ≡ true → is_among (each vs ws) (v ∷ w) ≡ true
each-has [] ws v w h k = absurd (false≢true h)
each-has (x ∷ xs) ws v w h k = elim (or_cases (int_eq v x) (is_in xs v) h) [
  | inl e ↦ among_left (map (λ r. x ∷ r) ws) (each xs ws) (v ∷ w) (subst (λ y. is_among (map (λ r. y ∷ r) ws) (v ∷ w) ≡ true) ((Decides-int_eq v x).0 e) (among_map (λ r. v ∷ r) ws w k))
  | inr later ↦ among_right (map (λ r. x ∷ r) ws) (each xs ws) (v ∷ w) (each-has xs ws v w later k)
]

up_by : (x v low : ℤ) → low ≤ℤ x → (x +ℤ pos 1) ≤ℤ v → low ≤ℤ v
up_by x v low a b = omega (arith, ints, a, b)

up_from : (low : ℤ) (vs : List ℤ) (v : ℤ) → AscendsFrom low vs → is_in vs v ≡ true → low ≤ℤ v
up_from low [] v up h = absurd (false≢true h)
up_from low (x ∷ xs) v up h = elim (or_cases (int_eq v x) (is_in xs v) h) [
  | inl e ↦ subst (λ y. low ≤ℤ y) (sym ((Decides-int_eq v x).0 e)) up.0
  | inr later ↦ up_by x v low up.0 (up_from (x +ℤ pos 1) xs v up.1 later)
]

past : (x v : ℤ) → v ≡ x → (x +ℤ pos 1) ≤ℤ v → ⊥
past x v e le = omega (arith, ints, e, le)

-- with one of the numbers in front, a list is among the first ones where it is among the others without it
abbrev Reflects : List ℤ → List Word → List Word → Type 0
Reflects vs before images = (v : ℤ) → is_in vs v ≡ true → (w : Word) → is_among images (v ∷ w) ≡ is_among before w

reflects_later : (x : ℤ) (xs : List ℤ) (before images new : List Word) → AscendsFrom (x +ℤ pos 1) xs → Reflects (x ∷ xs) before images → Reflects xs before (images ++ map (λ r. x ∷ r) new)
reflects_later x xs before images new up is v h w =
    let old : is_among images (v ∷ w) ≡ is_among before w = is v (or_right (int_eq v x) (is_in xs v) h) w in
    bool_same (is_among (images ++ map (λ r. x ∷ r) new) (v ∷ w)) (is_among before w)
    (λ k. elim (among_cases images (map (λ r. x ∷ r) new) (v ∷ w) k) [
      | inl there ↦ sym old ∙ there
      | inr here ↦ let r = from-map x new (v ∷ w) here in absurd (past x v (head_is v x w r.0 r.1) (up_from (x +ℤ pos 1) xs v up h))
    ])
    (λ k. among_left images (map (λ r. x ∷ r) new) (v ∷ w) (old ∙ k))

pub news-each : (low : ℤ) (vs : List ℤ) (ws before images : List Word) → AscendsFrom low vs → Reflects vs before images → news images (each vs ws) ≡ each vs (news before ws)
news-each low [] ws before images up is = refl
news-each low (x ∷ xs) ws before images up is =
    let here = map (λ r. x ∷ r) ws in
    let new = map (λ r. x ∷ r) (news before ws) in
    let first : is_in (x ∷ xs) x ≡ true = or_left (int_eq x x) (is_in xs x) ((Decides-int_eq x x).1 refl) in
    news-append images here (each xs ws)
    ∙ ap (λ l. l ++ news (images ++ l) (each xs ws)) (news-image (λ r. x ∷ r) (tail_is x) ws before images (is x first))
    ∙ ap (λ l. new ++ l) (news-each (x +ℤ pos 1) xs ws before (images ++ new) up.1 (reflects_later x xs before images (news before ws) up.1 is))

reflects_more : (vs : List ℤ) (before images new : List Word) → Reflects vs before images → Reflects vs (before ++ new) (images ++ each vs new)
reflects_more vs before images new is v h w =
    bool_same (is_among (images ++ each vs new) (v ∷ w)) (is_among (before ++ new) w)
    (λ k. elim (among_cases images (each vs new) (v ∷ w) k) [
      | inl there ↦ among_left before new w (sym (is v h w) ∙ there)
      | inr here ↦ among_right before new w (each-from vs new v w here)
    ])
    (λ k. elim (among_cases before new w k) [
      | inl there ↦ among_left images (each vs new) (v ∷ w) (is v h w ∙ there)
      | inr here ↦ among_right images (each vs new) (v ∷ w) (each-has vs new v w h here)
    ])

new_groups-each : (low : ℤ) (vs : List ℤ) (gs : List (List Word)) (before images : List Word) → AscendsFrom low vs → Reflects vs before images → new_groups images (map (λ g. each vs g) gs) ≡ map (λ g. each vs g) (new_groups before gs)
new_groups-each low vs [] before images up is = refl
new_groups-each low vs (g ∷ gs) before images up is =
    let new = news before g in
    ap (λ l. l ∷ new_groups (images ++ l) (map (λ g. each vs g) gs)) (news-each low vs g before images up is)
    ∙ ap (λ l. each vs new ∷ l) (new_groups-each low vs gs (before ++ new) (images ++ each vs new) up (reflects_more vs before images new is))

-- ---- one of each of several sets

map_twice : (f g : List Word → List Word) (gs : List (List Word)) → map (λ x. f (g x)) gs ≡ map f (map g gs)
map_twice f g [] = refl
map_twice f g (x ∷ xs) = ap (λ l. f (g x) ∷ l) (map_twice f g xs)

new_groups-ahead : (items : List Item) (gs : List (List Word)) → AreOrdered items → new_groups [] (groups_ahead items gs) ≡ groups_ahead items (new_groups [] gs)
new_groups-ahead [] gs order = ap (λ l. new_groups [] l) (map-id gs) ∙ sym (map-id (new_groups [] gs))
new_groups-ahead (item ∷ items) gs order =
    let vs = written item.set in
    let up = ordered item.set order.0 in
    ap (λ l. new_groups [] l) (map_twice (λ g. each vs g) (λ g. ahead items g) gs)
    ∙ new_groups-each up.0 vs (groups_ahead items gs) [] [] up.1 (λ v h w. refl)
    ∙ ap (λ l. map (λ g. each vs g) l) (new_groups-ahead items gs order.1)
    ∙ sym (map_twice (λ g. each vs g) (λ g. ahead items g) (new_groups [] gs))

each-none : (vs : List ℤ) → each vs [] ≡ []
each-none [] = refl
each-none (v ∷ vs) = each-none vs

ahead-none : (items : List Item) → ahead items [] ≡ []
ahead-none [] = refl
ahead-none (item ∷ items) = ap (λ l. each (written item.set) l) (ahead-none items) ∙ each-none (written item.set)

packed-ahead : (items : List Item) (gs : List (List Word)) → packed (groups_ahead items gs) ≡ packed (groups_ahead items (packed gs))
packed-ahead items [] = refl
packed-ahead items ([] ∷ gs) = ap (λ g. packed (g ∷ groups_ahead items gs)) (ahead-none items) ∙ packed-ahead items gs
packed-ahead items ((w ∷ ws) ∷ gs) = packed_one (ahead items (w ∷ ws)) _ _ (packed-ahead items gs)

-- it is enough to put the items in front of what is new in the groups that aren't empty
pub packed_front : (items : List Item) (gs : List (List Word)) → AreOrdered items → packed (groups_ahead items (packed (new_groups [] gs))) ≡ packed (new_groups [] (groups_ahead items gs))
packed_front items gs order = sym (packed-ahead items (new_groups [] gs)) ∙ ap packed (sym (new_groups-ahead items gs order))

-- ---- items one after the other

pub ahead-all : (items : List Item) → ahead items ([] ∷ []) ≡ words items
ahead-all [] = refl
ahead-all (item ∷ items) = ap (λ l. each (written item.set) l) (ahead-all items)

pub ahead-append : (xs ys : List Item) (ws : List Word) → ahead (xs ++ ys) ws ≡ ahead xs (ahead ys ws)
ahead-append [] ys ws = refl
ahead-append (x ∷ xs) ys ws = ap (λ l. each (written x.set) l) (ahead-append xs ys ws)

joined-each : (vs : List ℤ) (firsts ws : List Word) → joined (each vs firsts) ws ≡ each vs (joined firsts ws)
joined-each [] firsts ws = refl
joined-each (v ∷ vs) firsts ws =
    let here = map (λ r. v ∷ r) firsts in
    let rest = each vs firsts in
    joined-append here rest ws
    ∙ ap (λ l. l ++ joined rest ws) (sym (map-same (joined here ws)) ∙ first_map [] v firsts ws)
    ∙ ap (λ l. map (λ r. v ∷ r) (joined firsts ws) ++ l) (joined-each vs firsts ws)

pub ahead-times : (item : Item) (n : ℕ) (ws : List Word) → joined (choices (written item.set) n) ws ≡ ahead (replicate n (once item)) ws
ahead-times item zero ws = append-nil (map (λ o. [] ++ o) ws) ∙ map-same ws
ahead-times item (suc n) ws =
    joined-each (written item.set) (choices (written item.set) n) ws
    ∙ ap (λ l. each (written item.set) l) (ahead-times item n ws)

pub ahead-joined : (items : List Item) (ws : List Word) → ahead items ws ≡ joined (words items) ws
ahead-joined [] ws = sym (append-nil (map (λ o. [] ++ o) ws) ∙ map-same ws)
ahead-joined (item ∷ items) ws = ap (λ l. each (written item.set) l) (ahead-joined items ws) ∙ sym (joined-each (written item.set) (words items) ws)

-- ---- a tail

ahead-only : (items : List Item) (tail : Word) (ws : List Word) → words items ≡ tail ∷ [] → ahead items ws ≡ behind tail ws
ahead-only items tail ws is = ahead-joined items ws ∙ ap (λ firsts. joined firsts ws) is ∙ append-nil (behind tail ws)

pub ahead-tail : (items : List Item) (n : ℕ) (tail : Word) (ws : List Word) → words (take (length items - n) (drop n items)) ≡ tail ∷ [] → ahead (take n items) (behind tail ws) ≡ ahead items ws
ahead-tail items n tail ws is =
    let all : take (length items - n) (drop n items) ≡ drop n items = take_all (length items - n) (drop n items) (omega (arith, length-drop n items)) in
    sym (ap (λ l. ahead l ws) (sym (take-append-drop n items))
    ∙ ahead-append (take n items) (drop n items) ws
    ∙ ap (λ l. ahead (take n items) l) (ahead-only (drop n items) tail ws (ap words (sym all) ∙ is)))

words-one : (item : Item) (v : ℤ) → written item.set ≡ v ∷ [] → ahead (item ∷ []) ([] ∷ []) ≡ (v ∷ []) ∷ []
words-one item v is = ap (λ vs. each vs ([] ∷ [])) is

pub words_next : (xs : List Item) (i : ℕ) (x : Item) (list next : Word) (v : ℤ) → take (i + 1) xs ≡ take i xs ++ x ∷ [] → written x.set ≡ v ∷ [] → next ≡ list ++ v ∷ [] → words (take i xs) ≡ list ∷ [] → words (take (i + 1) xs) ≡ next ∷ []
words_next xs i x list next v parts only more so_far =
    ap words parts
    ∙ sym (ahead-all (take i xs ++ x ∷ []))
    ∙ ahead-append (take i xs) (x ∷ []) ([] ∷ [])
    ∙ ap (λ l. ahead (take i xs) l) (words-one x v only)
    ∙ ahead-only (take i xs) list ((v ∷ []) ∷ []) so_far
    ∙ ap (λ w. w ∷ []) (sym more)

-- ---- how many they are

length-each : (vs : List ℤ) (ws : List Word) → length (each vs ws) ≡ length vs * length ws
length-each [] ws = omega arith
length-each (v ∷ vs) ws =
    let here = map (λ r. v ∷ r) ws in
    let rest : length (each vs ws) ≡ length vs * length ws = length-each vs ws in
    let one : length here ≡ length ws = length-map ws (λ r. v ∷ r) in
    length-append here (each vs ws) ∙ ap (λ n. length here + n) rest ∙ ap (λ n. n + length vs * length ws) one ∙ (let e : length ws + length vs * length ws ≡ suc (length vs) * length ws = omega arith in e)

pub words-item : (item : Item) (items : List Item) → length (words (item ∷ items)) ≡ length (written item.set) * length (words items)
words-item item items = length-each (written item.set) (words items)

length-ahead : (items : List Item) (ws : List Word) → length (ahead items ws) ≡ length (words items) * length ws
length-ahead [] ws = omega arith
length-ahead (item ∷ items) ws =
    let n = length (written item.set) in
    let m = length (words items) in
    length-each (written item.set) (ahead items ws)
    ∙ ap (λ k. n * k) (length-ahead items ws)
    ∙ (let e : n * (m * length ws) ≡ (n * m) * length ws = omega arith in e)
    ∙ ap (λ k. k * length ws) (sym (words-item item items))

pub length-groups : (items : List Item) (gs : List (List Word)) → length (all_of (groups_ahead items gs)) ≡ length (words items) * length (all_of gs)
length-groups items [] = omega arith
length-groups items (g ∷ gs) =
    let m = length (words items) in
    let rest = all_of (groups_ahead items gs) in
    length-append (ahead items g) rest
    ∙ ap (λ k. k + length rest) (length-ahead items g)
    ∙ ap (λ k. m * length g + k) (length-groups items gs)
    ∙ (let e : m * length g + m * length (all_of gs) ≡ m * (length g + length (all_of gs)) = omega arith in e)
    ∙ ap (λ k. m * k) (sym (length-append g (all_of gs)))

-- ---- items in front that have lists of one length alone

pub groups_next : (others more : List Item) (gs : List (List Word)) → groups_ahead others (groups_ahead more gs) ≡ groups_ahead (others ++ more) gs
groups_next others more [] = refl
groups_next others more (g ∷ gs) = ap (λ l. l ∷ groups_ahead others (groups_ahead more gs)) (sym (ahead-append others more g)) ∙ ap (λ l. ahead (others ++ more) g ∷ l) (groups_next others more gs)

pub groups-times : (item : Item) (n : ℕ) (gs : List (List Word)) → map (λ g. joined (choices (written item.set) n) g) gs ≡ groups_ahead (replicate n (once item)) gs
groups-times item n [] = refl
groups-times item n (g ∷ gs) = ap (λ l. l ∷ map (λ g. joined (choices (written item.set) n) g) gs) (ahead-times item n g) ∙ ap (λ l. ahead (replicate n (once item)) g ∷ l) (groups-times item n gs)

-- what is kept as the items are gone through
abbrev pub FrontSo : List Item → ℕ → List Item → Type 0
FrontSo items i others = by_lengths items ≡ groups_ahead others (by_lengths (drop i items))

pub front_none : (items others : List Item) → others ≡ [] → FrontSo items 0 others
front_none items others none = sym (ap (λ l. groups_ahead l (by_lengths items)) none ∙ map-id (by_lengths items))

pub front_more : (items : List Item) (i : ℕ) (item : Item) (others next : List Item) (low high : ℕ) → i < length items → item ≡ get_or items i item → lengths item.repeat ≡ from_on low (high + 1 - low) → low ≡ high
    → next ≡ others ++ replicate low (once item) → FrontSo items i others → FrontSo items (i + 1) next
front_more items i item others next low high lt is ends same more so_far =
    let rest = drop (i + 1) items in
    let parts : drop i items ≡ item ∷ rest = drop_more items i item lt ∙ ap (λ x. x ∷ rest) (sym is) in
    let one : high + 1 - low ≡ 1 = omega (arith, same) in
    let single : lengths item.repeat ≡ low ∷ [] = ends ∙ ap (λ n. from_on low n) one in
    let row : ℕ → List (List Word) = λ n. map (λ g. joined (choices (written item.set) n) g) (by_lengths rest) in
    so_far
    ∙ ap (λ l. groups_ahead others (by_lengths l)) parts
    ∙ ap (λ ns. groups_ahead others (flat_map row ns)) single
    ∙ ap (λ l. groups_ahead others l) (append-nil (row low) ∙ groups-times item low (by_lengths rest))
    ∙ groups_next others (replicate low (once item)) (by_lengths rest)
    ∙ ap (λ o. groups_ahead o (by_lengths rest)) (sym more)
