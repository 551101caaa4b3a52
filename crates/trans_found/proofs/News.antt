-- What `news` keeps of lists, and of groups of lists.
use Rattle.std.proofs.Common.{◌≡◌, ℕ, ◌⊎◌, List, [], ◌∷◌, ◌++◌, refl, ap, sym, ◌∙◌, subst, inl, inr, append_assoc, append-nil, map, Bool, true, false, cond}
use Rattle.std.specs.Prelude.{ℤ, Contains}
use Rattle.std.specs.Ordering.{int_eq}
use Rattle.std.specs.Cmp.Lexicographic.{pointwise}
use Rattle.std.specs.Cmp.Rules.{signed_items}
use Rattle.std.proofs.lemmas.Bool.{or_cases, or_left, or_right, false≢true}
use Rattle.std.proofs.lemmas.List.Folds.{list_any-append}
use Rattle.std.proofs.lemmas.List.Concat.{flat_map-append}
use Rattle.trans_found.specs.Lists.{joined, is_among, news, all_of}
use Rattle.trans_found.specs.Found.{new_groups, fronted, packed}
use Rattle.trans_seq.proofs.Members.{none_in, first_in, later_in, cases_in}

abbrev pub Word : Type 0
Word = List ℤ

-- ---- being among lists

pub same_word : (u w : Word) → pointwise int_eq u w ≡ true → u ≡ w
same_word u w e = (signed_items u w).0 e

pub word_same : (w : Word) → pointwise int_eq w w ≡ true
word_same w = (signed_items w w).1 refl

pub among_left : (xs ys : List Word) (w : Word) → is_among xs w ≡ true → is_among (xs ++ ys) w ≡ true
among_left xs ys w h = list_any-append (pointwise int_eq w) xs ys ∙ or_left (is_among xs w) (is_among ys w) h

pub among_right : (xs ys : List Word) (w : Word) → is_among ys w ≡ true → is_among (xs ++ ys) w ≡ true
among_right xs ys w h = list_any-append (pointwise int_eq w) xs ys ∙ or_right (is_among xs w) (is_among ys w) h

pub among_cases : (xs ys : List Word) (w : Word) → is_among (xs ++ ys) w ≡ true → (is_among xs w ≡ true) ⊎ (is_among ys w ≡ true)
among_cases xs ys w h = or_cases (is_among xs w) (is_among ys w) (sym (list_any-append (pointwise int_eq w) xs ys) ∙ h)

pub among_first : (w : Word) (xs : List Word) → is_among (w ∷ xs) w ≡ true
among_first w xs = or_left (pointwise int_eq w w) (is_among xs w) (word_same w)

pub among_later : (x : Word) (xs : List Word) (w : Word) → is_among xs w ≡ true → is_among (x ∷ xs) w ≡ true
among_later x xs w h = or_right (pointwise int_eq w x) (is_among xs w) h

pub among_cons : (x : Word) (xs : List Word) (w : Word) → is_among (x ∷ xs) w ≡ true → (w ≡ x) ⊎ (is_among xs w ≡ true)
among_cons x xs w h = elim (or_cases (pointwise int_eq w x) (is_among xs w) h) [ inl e ↦ inl (same_word w x e) | inr later ↦ inr later ]

pub among_map : (f : Word → Word) (xs : List Word) (w : Word) → is_among xs w ≡ true → is_among (map f xs) (f w) ≡ true
among_map f [] w h = absurd (false≢true h)
among_map f (x ∷ xs) w h = elim (among_cons x xs w h) [
  | inl e ↦ subst (λ u. is_among (f x ∷ map f xs) (f u) ≡ true) (sym e) (among_first (f x) (map f xs))
  | inr later ↦ among_later (f x) (map f xs) (f w) (among_map f xs w later)
]

pub among_joined : (firsts others : List Word) (q w : Word) → Contains firsts q → is_among others w ≡ true → is_among (joined firsts others) (q ++ w) ≡ true
among_joined [] others q w h k = absurd (none_in q h)
among_joined (f ∷ fs) others q w h k = elim (cases_in f fs q h) [
  | inl e ↦ among_left (map (λ o. f ++ o) others) (joined fs others) (q ++ w) (subst (λ p. is_among (map (λ o. f ++ o) others) (p ++ w) ≡ true) e (among_map (λ o. f ++ o) others w k))
  | inr later ↦ among_right (map (λ o. f ++ o) others) (joined fs others) (q ++ w) (among_joined fs others q w later k)
]

-- ---- one list more

-- what the lists before grow by at w, and what they then are
abbrev pub added : List Word → Word → List Word
added before w = cond (is_among before w) [] (w ∷ [])

abbrev pub grown : List Word → Word → List Word
grown before w = before ++ added before w

news_by : (before : List Word) (w : Word) (ws : List Word) (b : Bool) → is_among before w ≡ b → cond b (news before ws) (w ∷ news (before ++ w ∷ []) ws) ≡ cond b [] (w ∷ []) ++ news (before ++ cond b [] (w ∷ [])) ws
news_by before w ws true e = ap (λ xs. news xs ws) (sym (append-nil before))
news_by before w ws false e = refl

pub news-cons : (before : List Word) (w : Word) (ws : List Word) → news before (w ∷ ws) ≡ added before w ++ news (grown before w) ws
news-cons before w ws = news_by before w ws (is_among before w) refl

among_grown_by : (before : List Word) (w : Word) (b : Bool) → is_among before w ≡ b → is_among (before ++ cond b [] (w ∷ [])) w ≡ true
among_grown_by before w true e = among_left before [] w e
among_grown_by before w false e = among_right before (w ∷ []) w (among_first w [])

pub among_grown : (before : List Word) (w : Word) → is_among (grown before w) w ≡ true
among_grown before w = among_grown_by before w (is_among before w) refl

pub news-append : (before xs ys : List Word) → news before (xs ++ ys) ≡ news before xs ++ news (before ++ news before xs) ys
news-append before [] ys = ap (λ b. news b ys) (sym (append-nil before))
news-append before (x ∷ xs) ys =
    let a = added before x in
    let b = grown before x in
    news-cons before x (xs ++ ys)
    ∙ ap (λ l. a ++ l) (news-append b xs ys)
    ∙ sym (append_assoc a (news b xs) (news (b ++ news b xs) ys))
    ∙ ap (λ l. (a ++ news b xs) ++ news l ys) (append_assoc before a (news b xs))
    ∙ ap (λ l. l ++ news (before ++ l) ys) (sym (news-cons before x xs))

-- each list is then among them
pub among_news : (before xs : List Word) (w : Word) → is_among xs w ≡ true → is_among (before ++ news before xs) w ≡ true
among_news before [] w h = absurd (false≢true h)
among_news before (x ∷ xs) w h =
    let a = added before x in
    let b = grown before x in
    let shape : before ++ news before (x ∷ xs) ≡ b ++ news b xs = ap (λ l. before ++ l) (news-cons before x xs) ∙ sym (append_assoc before a (news b xs)) in
    subst (λ l. is_among l w ≡ true) (sym shape) (elim (among_cons x xs w h) [
      | inl e ↦ among_left b (news b xs) w (subst (λ u. is_among b u ≡ true) (sym e) (among_grown before x))
      | inr later ↦ among_news b xs w later
    ])

-- ---- what was left out before may be left out again

added_keeps : (before : List Word) (w : Word) (b : Bool) → is_among before w ≡ b → (u : Word) → is_among (before ++ cond b [] (w ∷ [])) u ≡ true → (is_among before u ≡ true) ⊎ (u ≡ w)
added_keeps before w true e u h = elim (among_cases before [] u h) [ inl k ↦ inl k | inr k ↦ absurd (false≢true k) ]
added_keeps before w false e u h = elim (among_cases before (w ∷ []) u h) [ inl k ↦ inl k | inr k ↦ elim (among_cons w [] u k) [ inl same ↦ inr same | inr none ↦ absurd (false≢true none) ] ]

module _ (f : Word → Word) where
  news-map_by : (seen : List Word) (x : Word) (xs before : List Word) (b : Bool) → is_among seen x ≡ b
      → ((w : Word) → is_among seen w ≡ true → is_among before (f w) ≡ true)
      → ((before' : List Word) → ((w : Word) → is_among (seen ++ cond b [] (x ∷ [])) w ≡ true → is_among before' (f w) ≡ true) → news before' (map f (news (seen ++ cond b [] (x ∷ [])) xs)) ≡ news before' (map f xs))
      → news before (map f (cond b [] (x ∷ []) ++ news (seen ++ cond b [] (x ∷ [])) xs)) ≡ news before (f x ∷ map f xs)
  news-map_by seen x xs before true e had next =
      let skip : is_among before (f x) ≡ true = had x e in
      next before (λ w h. had w (elim (among_cases seen [] w h) [ inl k ↦ k | inr k ↦ absurd (false≢true k) ]))
      ∙ ap (λ b. cond b (news before (map f xs)) (f x ∷ news (before ++ f x ∷ []) (map f xs))) (sym skip)
  news-map_by seen x xs before false e had next =
      news-cons before (f x) (map f (news (seen ++ x ∷ []) xs))
      ∙ ap (λ l. added before (f x) ++ l) (next (grown before (f x)) (λ w h. elim (added_keeps seen x false e w h) [
        | inl k ↦ among_left before (added before (f x)) (f w) (had w k)
        | inr same ↦ subst (λ u. is_among (grown before (f x)) (f u) ≡ true) (sym same) (among_grown before (f x))
      ]))
      ∙ sym (news-cons before (f x) (map f xs))

  pub news-map : (seen xs before : List Word) → ((w : Word) → is_among seen w ≡ true → is_among before (f w) ≡ true) → news before (map f (news seen xs)) ≡ news before (map f xs)
  news-map seen [] before had = refl
  news-map seen (x ∷ xs) before had =
      ap (λ l. news before (map f l)) (news-cons seen x xs)
      ∙ news-map_by seen x xs before (is_among seen x) refl had (λ before' had'. news-map (grown seen x) xs before' had')

pub news-joined : (firsts seen xs before : List Word) → ((q : Word) → Contains firsts q → (w : Word) → is_among seen w ≡ true → is_among before (q ++ w) ≡ true) → news before (joined firsts (news seen xs)) ≡ news before (joined firsts xs)
news-joined [] seen xs before had = refl
news-joined (f ∷ fs) seen xs before had =
    let some = map (λ o. f ++ o) (news seen xs) in
    let all = map (λ o. f ++ o) xs in
    let same : news before some ≡ news before all = news-map (λ o. f ++ o) seen xs before (had f (first_in f fs)) in
    news-append before some (joined fs (news seen xs))
    ∙ ap (λ l. l ++ news (before ++ l) (joined fs (news seen xs))) same
    ∙ ap (λ l. news before all ++ l) (news-joined fs seen xs (before ++ news before all) (λ q h w k. among_left before (news before all) (q ++ w) (had q (later_in f fs q h) w k)))
    ∙ sym (news-append before all (joined fs xs))

-- ---- groups

pub all_of-append : (gs hs : List (List Word)) → all_of (gs ++ hs) ≡ all_of gs ++ all_of hs
all_of-append gs hs = flat_map-append (λ g. g) gs hs

pub all_of-new_groups : (before : List Word) (gs : List (List Word)) → all_of (new_groups before gs) ≡ news before (all_of gs)
all_of-new_groups before [] = refl
all_of-new_groups before (g ∷ gs) = ap (λ l. news before g ++ l) (all_of-new_groups (before ++ news before g) gs) ∙ sym (news-append before g (all_of gs))

pub new_groups-append : (before : List Word) (gs hs : List (List Word)) → new_groups before (gs ++ hs) ≡ new_groups before gs ++ new_groups (before ++ all_of (new_groups before gs)) hs
new_groups-append before [] hs = ap (λ b. new_groups b hs) (sym (append-nil before))
new_groups-append before (g ∷ gs) hs =
    let n = news before g in
    let rest = new_groups (before ++ n) gs in
    ap (λ l. n ∷ l) (new_groups-append (before ++ n) gs hs)
    ∙ ap (λ b. n ∷ (rest ++ new_groups b hs)) (append_assoc before n (all_of rest))

pub new_groups-joined : (firsts seen : List Word) (gs : List (List Word)) (before : List Word) → ((q : Word) → Contains firsts q → (w : Word) → is_among seen w ≡ true → is_among before (q ++ w) ≡ true)
    → new_groups before (map (λ g. joined firsts g) (new_groups seen gs)) ≡ new_groups before (map (λ g. joined firsts g) gs)
new_groups-joined firsts seen [] before had = refl
new_groups-joined firsts seen (g ∷ gs) before had =
    let some = news seen g in
    let same : news before (joined firsts some) ≡ news before (joined firsts g) = news-joined firsts seen g before had in
    ap (λ l. l ∷ new_groups (before ++ l) (map (λ h. joined firsts h) (new_groups (seen ++ some) gs))) same
    ∙ ap (λ l. news before (joined firsts g) ∷ l) (new_groups-joined firsts (seen ++ some) gs (before ++ news before (joined firsts g)) (λ q h w k. elim (among_cases seen some w k) [
      | inl old ↦ among_left before (news before (joined firsts g)) (q ++ w) (had q h w old)
      | inr new ↦ subst (λ l. is_among (before ++ l) (q ++ w) ≡ true) same (among_news before (joined firsts some) (q ++ w) (among_joined firsts some q w h new))
    ]))

module _ (firsts : ℕ → List Word) where
  pub new_groups-fronted : (gs : List (List Word)) (ns : List ℕ) (before : List Word) → new_groups before (fronted firsts (new_groups [] gs) ns) ≡ new_groups before (fronted firsts gs ns)
  new_groups-fronted gs [] before = refl
  new_groups-fronted gs (n ∷ ns) before =
      let some = map (λ g. joined (firsts n) g) (new_groups [] gs) in
      let all = map (λ g. joined (firsts n) g) gs in
      let same : new_groups before some ≡ new_groups before all = new_groups-joined (firsts n) [] gs before (λ q h w k. absurd (false≢true k)) in
      new_groups-append before some (fronted firsts (new_groups [] gs) ns)
      ∙ ap (λ l. l ++ new_groups (before ++ all_of l) (fronted firsts (new_groups [] gs) ns)) same
      ∙ ap (λ l. new_groups before all ++ l) (new_groups-fronted gs ns (before ++ all_of (new_groups before all)))
      ∙ sym (new_groups-append before all (fronted firsts gs ns))

-- ---- without the empty groups

pub packed-append : (gs hs : List (List Word)) → packed (gs ++ hs) ≡ packed gs ++ packed hs
packed-append [] hs = refl
packed-append ([] ∷ gs) hs = packed-append gs hs
packed-append ((w ∷ ws) ∷ gs) hs = ap (λ l. (w ∷ ws) ∷ l) (packed-append gs hs)

pub all_of-packed : (gs : List (List Word)) → all_of (packed gs) ≡ all_of gs
all_of-packed [] = refl
all_of-packed ([] ∷ gs) = all_of-packed gs
all_of-packed ((w ∷ ws) ∷ gs) = ap (λ l. (w ∷ ws) ++ l) (all_of-packed gs)

pub packed_one : (g : List Word) (gs hs : List (List Word)) → packed gs ≡ packed hs → packed (g ∷ gs) ≡ packed (g ∷ hs)
packed_one [] gs hs e = e
packed_one (w ∷ ws) gs hs e = ap (λ l. (w ∷ ws) ∷ l) e

pub packed-new_groups : (before : List Word) (gs : List (List Word)) → packed (new_groups before gs) ≡ packed (new_groups before (packed gs))
packed-new_groups before [] = refl
packed-new_groups before ([] ∷ gs) = ap (λ b. packed (new_groups b gs)) (append-nil before) ∙ packed-new_groups before gs
packed-new_groups before ((w ∷ ws) ∷ gs) = packed_one (news before (w ∷ ws)) _ _ (packed-new_groups (before ++ news before (w ∷ ws)) gs)

joined-none : (firsts : List Word) → joined firsts [] ≡ []
joined-none [] = refl
joined-none (f ∷ fs) = joined-none fs

pub packed-joined : (firsts : List Word) (gs : List (List Word)) → packed (map (λ g. joined firsts g) gs) ≡ packed (map (λ g. joined firsts g) (packed gs))
packed-joined firsts [] = refl
packed-joined firsts ([] ∷ gs) = ap (λ g. packed (g ∷ map (λ g. joined firsts g) gs)) (joined-none firsts) ∙ packed-joined firsts gs
packed-joined firsts ((w ∷ ws) ∷ gs) = packed_one (joined firsts (w ∷ ws)) _ _ (packed-joined firsts gs)

module _ (firsts : ℕ → List Word) where
  packed-fronted : (gs : List (List Word)) (ns : List ℕ) → packed (fronted firsts gs ns) ≡ packed (fronted firsts (packed gs) ns)
  packed-fronted gs [] = refl
  packed-fronted gs (n ∷ ns) =
      packed-append (map (λ g. joined (firsts n) g) gs) (fronted firsts gs ns)
      ∙ ap (λ l. l ++ packed (fronted firsts gs ns)) (packed-joined (firsts n) gs)
      ∙ ap (λ l. packed (map (λ g. joined (firsts n) g) (packed gs)) ++ l) (packed-fronted gs ns)
      ∙ sym (packed-append (map (λ g. joined (firsts n) g) (packed gs)) (fronted firsts (packed gs) ns))

  -- it is enough to put an item in front of what is new in the groups that aren't empty
  pub packed_level : (gs : List (List Word)) (ns : List ℕ) → packed (new_groups [] (fronted firsts gs ns)) ≡ packed (new_groups [] (fronted firsts (packed (new_groups [] gs)) ns))
  packed_level gs ns =
      let kept = new_groups [] gs in
      ap packed (sym (new_groups-fronted firsts gs ns []))
      ∙ packed-new_groups [] (fronted firsts kept ns)
      ∙ ap (λ l. packed (new_groups [] l)) (packed-fronted kept ns)
      ∙ sym (packed-new_groups [] (fronted firsts (packed kept) ns))

-- nothing is new of what is there
pub news_none : (before xs : List Word) → ((w : Word) → is_among xs w ≡ true → is_among before w ≡ true) → news before xs ≡ []
news_none before [] had = refl
news_none before (x ∷ xs) had =
    ap (λ (b : Bool). cond b (news before xs) (x ∷ news (before ++ x ∷ []) xs)) (had x (among_first x xs))
    ∙ news_none before xs (λ w h. had w (among_later x xs w h))
