-- How many distinct lists there are: never fewer with one more item in front that has a list.
use Rattle.std.proofs.Common.{◌≡◌, ℕ, ◌≤◌, ◌⊎◌, List, [], ◌∷◌, ◌++◌, length, refl, ap, sym, ◌∙◌, subst, inl, inr, arith, append_assoc, append-nil, map, Bool, true, false, cond, zero, suc}
use Rattle.std.specs.Prelude.{ℤ, Contains}
use Rattle.std.specs.Ordering.{int_eq}
use Rattle.std.specs.List.{flat_map}
use Rattle.std.specs.Cmp.Lexicographic.{pointwise}
use Rattle.std.proofs.lemmas.Bool.{false≢true}
use Rattle.cov_base.specs.Sets.{written}
use Rattle.trans_seq.specs.declared.seq.Item.{Item}
use Rattle.trans_found.specs.Lists.{lengths, choices, joined, by_lengths, is_among, news, all_of, listed}
use Rattle.trans_seq.proofs.Members.{first_in, later_in, cases_in}
use Rattle.trans_found.proofs.News.{Word, same_word, word_same, among_left, among_right, among_cases, among_first, among_later, among_cons, among_joined, added, grown, news-cons, among_grown, among_news, all_of-append}
use Rattle.trans_found.specs.Found.{fronted, HasList, NoList, continued}

-- ---- lists that differ

abbrev pub AllDiffer : List Word → Type 0
AllDiffer [] = Unit {0}
AllDiffer (w ∷ ws) = (is_among ws w ≡ false) × AllDiffer ws

pub bool_cases : (b : Bool) → (b ≡ true) ⊎ (b ≡ false)
bool_cases true = inl refl
bool_cases false = inr refl

pub not_true : (b : Bool) → (b ≡ true → ⊥) → b ≡ false
not_true true n = absurd (n refl)
not_true false n = refl

apart_by : (before : List Word) (x : Word) (b : Bool) → is_among before x ≡ b → (w : Word) (rest : List Word) → is_among (cond b [] (x ∷ []) ++ rest) w ≡ true → ((w ≡ x) × (is_among before x ≡ false)) ⊎ (is_among rest w ≡ true)
apart_by before x true e w rest h = inr h
apart_by before x false e w rest h = elim (among_cons x rest w h) [ inl same ↦ inl (same, e) | inr later ↦ inr later ]

pub news_apart : (before xs : List Word) (w : Word) → is_among (news before xs) w ≡ true → is_among before w ≡ false
news_apart before [] w h = absurd (false≢true h)
news_apart before (x ∷ xs) w h =
    let split = apart_by before x (is_among before x) refl w (news (grown before x) xs) (subst (λ l. is_among l w ≡ true) (news-cons before x xs) h) in
    elim split [
      | inl here ↦ subst (λ u. is_among before u ≡ false) (sym here.0) here.1
      | inr later ↦ not_true (is_among before w) (λ k. false≢true (sym (news_apart (grown before x) xs w later) ∙ among_left before (added before x) w k))
    ]

differ_by : (before : List Word) (x : Word) (xs : List Word) (b : Bool) → is_among before x ≡ b → AllDiffer (news (grown before x) xs) → AllDiffer (cond b [] (x ∷ []) ++ news (grown before x) xs)
differ_by before x xs true e rest = rest
differ_by before x xs false e rest = (not_true (is_among (news (grown before x) xs) x) (λ k. false≢true (sym (news_apart (grown before x) xs x k) ∙ among_grown before x)), rest)

pub news_differ : (before xs : List Word) → AllDiffer (news before xs)
news_differ before [] = tt
news_differ before (x ∷ xs) = subst AllDiffer (sym (news-cons before x xs)) (differ_by before x xs (is_among before x) refl (news_differ (grown before x) xs))

pub news_from : (before xs : List Word) (w : Word) → is_among (news before xs) w ≡ true → is_among xs w ≡ true
news_from before [] w h = h
news_from before (x ∷ xs) w h =
    let split = apart_by before x (is_among before x) refl w (news (grown before x) xs) (subst (λ l. is_among l w ≡ true) (news-cons before x xs) h) in
    elim split [
      | inl here ↦ subst (λ u. is_among (x ∷ xs) u ≡ true) (sym here.0) (among_first x xs)
      | inr later ↦ among_later x xs w (news_from (grown before x) xs w later)
    ]

-- the lists of a sequence are distinct
pub listed-differ : (items : List Item) → AllDiffer (listed items)
unfolding listed
listed-differ items = news_differ [] (all_of (by_lengths items))

-- ---- there are no more of them than of lists that have an image of each

without_one : Word → List Word → List Word
without_one w [] = []
without_one w (x ∷ xs) = cond (pointwise int_eq w x) xs (x ∷ without_one w xs)

shorter_by : (w x : Word) (xs : List Word) (b : Bool) → pointwise int_eq w x ≡ b → is_among (x ∷ xs) w ≡ true → (is_among xs w ≡ true → length xs ≡ suc (length (without_one w xs))) → length (x ∷ xs) ≡ suc (length (cond b xs (x ∷ without_one w xs)))
shorter_by w x xs true e h next = refl
shorter_by w x xs false e h next = elim (among_cons x xs w h) [
  | inl same ↦ absurd (false≢true (sym e ∙ subst (λ u. pointwise int_eq w u ≡ true) same (word_same w)))
  | inr later ↦ ap suc (next later)
]

shorter : (w : Word) (xs : List Word) → is_among xs w ≡ true → length xs ≡ suc (length (without_one w xs))
unfolding without_one
shorter w [] h = absurd (false≢true h)
shorter w (x ∷ xs) h = shorter_by w x xs (pointwise int_eq w x) refl h (shorter w xs)

stays_by : (w x : Word) (xs : List Word) (b : Bool) → pointwise int_eq w x ≡ b → (u : Word) → (u ≡ w → ⊥) → (u ≡ x) ⊎ (is_among xs u ≡ true) → (is_among xs u ≡ true → is_among (without_one w xs) u ≡ true) → is_among (cond b xs (x ∷ without_one w xs)) u ≡ true
stays_by w x xs true e u ne c next = elim c [ inl same ↦ absurd (ne (same ∙ sym (same_word w x e))) | inr later ↦ later ]
stays_by w x xs false e u ne c next = elim c [
  | inl same ↦ subst (λ z. is_among (x ∷ without_one w xs) z ≡ true) (sym same) (among_first x (without_one w xs))
  | inr later ↦ among_later x (without_one w xs) u (next later)
]

stays : (w : Word) (xs : List Word) (u : Word) → (u ≡ w → ⊥) → is_among xs u ≡ true → is_among (without_one w xs) u ≡ true
unfolding without_one
stays w [] u ne h = h
stays w (x ∷ xs) u ne h = stays_by w x xs (pointwise int_eq w x) refl u ne (among_cons x xs u h) (stays w xs u ne)

pub no_more : (f : Word → Word) → ((u w : Word) → f u ≡ f w → u ≡ w) → (ys : List Word) → AllDiffer ys → (zs : List Word) → ((w : Word) → is_among ys w ≡ true → is_among zs (f w) ≡ true) → length ys ≤ length zs
no_more f one [] differ zs has = omega arith
no_more f one (y ∷ ys) differ zs has =
    let here = shorter (f y) zs (has y (among_first y ys)) in
    let rest = no_more f one ys differ.1 (without_one (f y) zs) (λ w k. stays (f y) zs (f w) (λ e. false≢true (sym differ.0 ∙ subst (λ u. is_among ys u ≡ true) (one w y e) k)) (has w (among_later y ys w k))) in
    omega (arith, here, rest)

prefix_one : (q u w : Word) → q ++ u ≡ q ++ w → u ≡ w
prefix_one [] u w e = e
prefix_one (v ∷ q) u w e = prefix_one q u w cc

-- ---- an item in front

among_all_map : (firsts : List Word) (gs : List (List Word)) (q w : Word) → Contains firsts q → is_among (all_of gs) w ≡ true → is_among (all_of (map (λ g. joined firsts g) gs)) (q ++ w) ≡ true
among_all_map firsts [] q w h k = absurd (false≢true k)
among_all_map firsts (g ∷ gs) q w h k =
    let rest = all_of (map (λ g. joined firsts g) gs) in
    elim (among_cases g (all_of gs) w k) [
      | inl here ↦ among_left (joined firsts g) rest (q ++ w) (among_joined firsts g q w h here)
      | inr later ↦ among_right (joined firsts g) rest (q ++ w) (among_all_map firsts gs q w h later)
    ]

among_all_fronted : (firsts : ℕ → List Word) (gs : List (List Word)) (ns : List ℕ) (n : ℕ) (q w : Word) → Contains ns n → Contains (firsts n) q → is_among (all_of gs) w ≡ true → is_among (all_of (fronted firsts gs ns)) (q ++ w) ≡ true
among_all_fronted firsts gs [] n q w i h k = absurd (omega (arith, i.1))
among_all_fronted firsts gs (m ∷ ms) n q w i h k =
    let here = map (λ g. joined (firsts m) g) gs in
    let rest = fronted firsts gs ms in
    subst (λ l. is_among l (q ++ w) ≡ true) (sym (all_of-append here rest)) (elim (cases_in m ms n i) [
      | inl same ↦ among_left (all_of here) (all_of rest) (q ++ w) (among_all_map (firsts m) gs q w (subst (λ j. Contains (firsts j) q) (sym same) h) k)
      | inr later ↦ among_right (all_of here) (all_of rest) (q ++ w) (among_all_fronted firsts gs ms n q w later h k)
    ])

pub no_fewer : (item : Item) (items : List Item) → HasList item → length (listed items) ≤ length (listed (item ∷ items))
unfolding listed
no_fewer item items h =
    let firsts = choices (written item.set) in
    let some = all_of (by_lengths items) in
    let all = all_of (by_lengths (item ∷ items)) in
    no_more (λ w. h.list ++ w) (prefix_one h.list) (news [] some) (news_differ [] some) (news [] all)
    (λ w k. among_news [] all (h.list ++ w) (among_all_fronted firsts (by_lengths items) (lengths item.repeat) h.size h.list w h.is_length h.is_choice (news_from [] some w k)))

-- ---- an item without a list

all_map-none : (gs : List (List Word)) → all_of (map (λ g. joined [] g) gs) ≡ []
all_map-none [] = refl
all_map-none (g ∷ gs) = all_map-none gs

all_fronted-none : (firsts : ℕ → List Word) (gs : List (List Word)) (ns : List ℕ) → ((n : ℕ) → Contains ns n → firsts n ≡ []) → all_of (fronted firsts gs ns) ≡ []
all_fronted-none firsts gs [] none = refl
all_fronted-none firsts gs (n ∷ ns) none =
    all_of-append (map (λ g. joined (firsts n) g) gs) (fronted firsts gs ns)
    ∙ ap (λ l. all_of (map (λ g. joined l g) gs) ++ all_of (fronted firsts gs ns)) (none n (first_in n ns))
    ∙ ap (λ l. l ++ all_of (fronted firsts gs ns)) (all_map-none gs)
    ∙ all_fronted-none firsts gs ns (λ m i. none m (later_in n ns m i))

pub no_list_here : (item : Item) (items : List Item) → NoList item → listed (item ∷ items) ≡ []
unfolding listed
no_list_here item items none = ap (λ l. news [] l) (all_fronted-none (choices (written item.set)) (by_lengths items) (lengths item.repeat) none)

joined-empty : (firsts : List Word) → joined firsts [] ≡ []
joined-empty [] = refl
joined-empty (f ∷ fs) = joined-empty fs

all_map-empty : (firsts : List Word) (gs : List (List Word)) → all_of gs ≡ [] → all_of (map (λ g. joined firsts g) gs) ≡ []
all_map-empty firsts [] e = refl
all_map-empty firsts ([] ∷ gs) e = ap (λ l. l ++ all_of (map (λ g. joined firsts g) gs)) (joined-empty firsts) ∙ all_map-empty firsts gs e
all_map-empty firsts ((w ∷ ws) ∷ gs) e = absurd (omega (arith, ap length e))

all_fronted-empty : (firsts : ℕ → List Word) (gs : List (List Word)) (ns : List ℕ) → all_of gs ≡ [] → all_of (fronted firsts gs ns) ≡ []
all_fronted-empty firsts gs [] e = refl
all_fronted-empty firsts gs (n ∷ ns) e =
    all_of-append (map (λ g. joined (firsts n) g) gs) (fronted firsts gs ns)
    ∙ ap (λ l. l ++ all_of (fronted firsts gs ns)) (all_map-empty (firsts n) gs e)
    ∙ all_fronted-empty firsts gs ns e

news-none : (xs : List Word) → news [] xs ≡ [] → xs ≡ []
news-none [] e = refl
news-none (x ∷ xs) e = absurd (omega (arith, ap length e))

pub no_list_later : (item : Item) (items : List Item) → listed items ≡ [] → listed (item ∷ items) ≡ []
unfolding listed
no_list_later item items e = ap (λ l. news [] l) (all_fronted-empty (choices (written item.set)) (by_lengths items) (lengths item.repeat) (news-none (all_of (by_lengths items)) e))

-- ---- numbers of the set one by one

pub map-append : (f : Word → Word) (xs ys : List Word) → map f (xs ++ ys) ≡ map f xs ++ map f ys
map-append f [] ys = refl
map-append f (x ∷ xs) ys = ap (λ l. f x ∷ l) (map-append f xs ys)

map-map : (f g : Word → Word) (h : Word → Word) → ((w : Word) → f (g w) ≡ h w) → (xs : List Word) → map f (map g xs) ≡ map h xs
map-map f g h e [] = refl
map-map f g h e (x ∷ xs) = ap (λ w. w ∷ map f (map g xs)) (e x) ∙ ap (λ l. h x ∷ l) (map-map f g h e xs)

pub joined-append : (fs gs others : List Word) → joined (fs ++ gs) others ≡ joined fs others ++ joined gs others
joined-append [] gs others = refl
joined-append (f ∷ fs) gs others = ap (λ l. map (λ o. f ++ o) others ++ l) (joined-append fs gs others) ∙ sym (append_assoc (map (λ o. f ++ o) others) (joined fs others) (joined gs others))

-- one number before each of the first lists
pub first_map : (first : Word) (v : ℤ) (firsts others : List Word) → map (λ w. first ++ w) (joined (map (λ r. v ∷ r) firsts) others) ≡ map (λ w. (first ++ v ∷ []) ++ w) (joined firsts others)
first_map first v [] others = refl
first_map first v (f ∷ fs) others =
    let a = map (λ o. (v ∷ f) ++ o) others in
    let b = map (λ o. f ++ o) others in
    let rest = joined (map (λ r. v ∷ r) fs) others in
    let same : map (λ w. first ++ w) a ≡ map (λ w. (first ++ v ∷ []) ++ w) b =
    map-map (λ w. first ++ w) (λ o. (v ∷ f) ++ o) (λ o. first ++ ((v ∷ f) ++ o)) (λ w. refl) others
    ∙ sym (map-map (λ w. (first ++ v ∷ []) ++ w) (λ o. f ++ o) (λ o. first ++ ((v ∷ f) ++ o)) (λ w. append_assoc first (v ∷ []) (f ++ w)) others) in
    map-append (λ w. first ++ w) a rest
    ∙ ap (λ l. l ++ map (λ w. first ++ w) rest) same
    ∙ ap (λ l. map (λ w. (first ++ v ∷ []) ++ w) b ++ l) (first_map first v fs others)
    ∙ sym (map-append (λ w. (first ++ v ∷ []) ++ w) b (joined fs others))

continued_by : (numbers vs : List ℤ) (n : ℕ) (first : Word) (group : List Word)
    → ((v : ℤ) → continued numbers (first ++ v ∷ []) n group ≡ map (λ w. (first ++ v ∷ []) ++ w) (joined (choices numbers n) group))
    → flat_map (λ v. continued numbers (first ++ v ∷ []) n group) vs ≡ map (λ w. first ++ w) (joined (flat_map (λ v. map (λ r. v ∷ r) (choices numbers n)) vs) group)
continued_by numbers [] n first group next = refl
continued_by numbers (v ∷ vs) n first group next =
    let here = map (λ r. v ∷ r) (choices numbers n) in
    let rest = flat_map (λ v. map (λ r. v ∷ r) (choices numbers n)) vs in
    ap (λ l. l ++ flat_map (λ v. continued numbers (first ++ v ∷ []) n group) vs) (next v ∙ sym (first_map first v (choices numbers n) group))
    ∙ ap (λ l. map (λ w. first ++ w) (joined here group) ++ l) (continued_by numbers vs n first group next)
    ∙ sym (map-append (λ w. first ++ w) (joined here group) (joined rest group))
    ∙ ap (λ l. map (λ w. first ++ w) l) (sym (joined-append here rest group))

pub continued-joined : (numbers : List ℤ) (n : ℕ) (first : Word) (group : List Word) → continued numbers first n group ≡ map (λ w. first ++ w) (joined (choices numbers n) group)
continued-joined numbers zero first group =
    sym (map-map (λ w. first ++ w) (λ o. [] ++ o) (λ w. first ++ w) (λ w. refl) group)
    ∙ ap (λ l. map (λ w. first ++ w) l) (sym (append-nil (map (λ o. [] ++ o) group)))
continued-joined numbers (suc n) first group = continued_by numbers numbers n first group (λ v. continued-joined numbers n (first ++ v ∷ []) group)

pub map-same : (xs : List Word) → map (λ w. [] ++ w) xs ≡ xs
map-same [] = refl
map-same (x ∷ xs) = ap (λ l. x ∷ l) (map-same xs)

pub continued_all : (numbers : List ℤ) (n : ℕ) (group : List Word) → continued numbers [] n group ≡ joined (choices numbers n) group
continued_all numbers n group = continued-joined numbers n [] group ∙ map-same (joined (choices numbers n) group)
