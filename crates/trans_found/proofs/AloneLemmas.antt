-- Lists with one number of each of several sets in front of others, and one sequence by itself.
use Rattle.std.proofs.Common.{◌≡◌, ℕ, ◌+◌, ◌*◌, ◌^◌, min, ◌<◌, ◌≤◌, ◌⊎◌, List, [], ◌∷◌, ◌++◌, length, take, drop, get_or, map, refl, ap, sym, ◌∙◌, subst, inl, inr, arith, append_assoc, append-nil, length-append, ◌-◌, Bool, true, false, cond, zero, suc}
use Rattle.std.specs.Prelude.{ℤ, Option, Some, None, slice_get, IfSome}
use Rattle.std.specs.List.{flat_map}
use Rattle.std.proofs.Math.Nat.{mul-le-mul_left}
use Rattle.std.proofs.lemmas.Bool.{false≢true}
use Rattle.std.proofs.lemmas.List.{take_all, take_more, drop_more}
use Rattle.cov_base.specs.Sets.{written, set_of}
use Rattle.cov_ground.specs.Limits.{most_bins}
use Rattle.trans_seq.specs.declared.seq.Item.{Item}
use Rattle.trans_seq.specs.declared.seq.Seq.{Seq}
use Rattle.trans_found.specs.declared.fault.ExpandFault.{ExpandFault}
use Rattle.trans_found.specs.Lists.{is_among, news, all_of, listed, lists_by_all, listed_by_all}
use Rattle.trans_found.specs.Found.{FailsAfter, packed}
use Rattle.trans_found.specs.Held.{words}
use Rattle.trans_found.specs.Alone.{behind, ahead, groups_ahead, AreOrdered}
use Rattle.trans_found.proofs.News.{Word, among_cases, among_cons, among_first, among_later, packed-append}
use Rattle.trans_found.proofs.Counted.{AllDiffer, not_true, map-same, listed-differ}
use Rattle.trans_found.proofs.FoundLemmas.{flat_next, map_next}
use Rattle.trans_found.proofs.Ahead.{ahead-tail, words-item, length-groups}

-- ---- lists added one after the other

pub added_part : (g : ℤ → List Word) (old now new : List Word) (xs : List ℤ) (i : ℕ) (x : ℤ) → i < length xs → x ≡ get_or xs i x
    → now ≡ old ++ flat_map g (take i xs) → new ≡ now ++ g x → new ≡ old ++ flat_map g (take (i + 1) xs)
added_part g old now new xs i x within is so_far next =
    next ∙ ap (λ l. l ++ g x) so_far
    ∙ append_assoc old (flat_map g (take i xs)) (g x)
    ∙ ap (λ l. old ++ l) (sym (flat_next g xs i x within is))

pub added_more : (f : Word → Word) (old now new : List Word) (xs : List Word) (i : ℕ) (x : Word) → i < length xs → x ≡ get_or xs i x
    → now ≡ old ++ map f (take i xs) → new ≡ now ++ f x ∷ [] → new ≡ old ++ map f (take (i + 1) xs)
added_more f old now new xs i x within is so_far next =
    next ∙ ap (λ l. l ++ f x ∷ []) so_far
    ∙ append_assoc old (map f (take i xs)) (f x ∷ [])
    ∙ ap (λ l. old ++ l) (sym (map_next f xs i x within is))

pub behind-two : (first tail : Word) (lists : List Word) → behind first (behind tail lists) ≡ map (λ rest. first ++ (tail ++ rest)) lists
behind-two first tail [] = refl
behind-two first tail (w ∷ ws) = ap (λ l. (first ++ (tail ++ w)) ∷ l) (behind-two first tail ws)

pub behind-none : (first : Word) (lists : List Word) → first ≡ [] → behind first lists ≡ lists
behind-none first lists none = ap (λ f. behind f lists) none ∙ map-same lists

-- ---- groups added one after the other

pub packed_more : (f : List Word → List Word) (now new : List (List Word)) (gs : List (List Word)) (i : ℕ) (g : List Word) → i < length gs → g ≡ get_or gs i g
    → now ≡ packed (map f (take i gs)) → new ≡ now ++ packed (f g ∷ []) → new ≡ packed (map f (take (i + 1) gs))
packed_more f now new gs i g within is so_far next =
    next ∙ ap (λ l. l ++ packed (f g ∷ [])) so_far
    ∙ sym (packed-append (map f (take i gs)) (f g ∷ []))
    ∙ ap packed (sym (map_next f gs i g within is))

pub groups_tail : (items : List Item) (n : ℕ) (tail : Word) (gs : List (List Word)) → words (take (length items - n) (drop n items)) ≡ tail ∷ []
    → map (λ g. ahead (take n items) (behind tail g)) gs ≡ groups_ahead items gs
groups_tail items n tail [] is = refl
groups_tail items n tail (g ∷ gs) is =
    ap (λ l. l ∷ map (λ g. ahead (take n items) (behind tail g)) gs) (ahead-tail items n tail g is)
    ∙ ap (λ l. ahead items g ∷ l) (groups_tail items n tail gs is)

pub groups_same : (items : List Item) (gs : List (List Word)) → map (λ g. ahead items (behind [] g)) gs ≡ groups_ahead items gs
groups_same items [] = refl
groups_same items (g ∷ gs) =
    ap (λ l. ahead items l ∷ map (λ g. ahead items (behind [] g)) gs) (map-same g)
    ∙ ap (λ l. ahead items g ∷ l) (groups_same items gs)

-- ---- how many there are

pub count_next : (count next : ℕ) (gs : List (List Word)) (i : ℕ) (g : List Word) → i < length gs → g ≡ get_or gs i g → next ≡ min (count + length g) (2 ^ 64 - 1)
    → min (next + length (all_of (drop (i + 1) gs))) (2 ^ 64 - 1) ≡ min (count + length (all_of (drop i gs))) (2 ^ 64 - 1)
count_next count next gs i g within is more =
    let rest = all_of (drop (i + 1) gs) in
    let parts : drop i gs ≡ g ∷ drop (i + 1) gs = drop_more gs i g within ∙ ap (λ x. x ∷ drop (i + 1) gs) (sym is) in
    let long : length (all_of (drop i gs)) ≡ length g + length rest = ap (λ l. length (all_of l)) parts ∙ length-append g rest in
    omega (arith, more, long)

min_times : (n k most : ℕ) → min (n * min k most) most ≡ min (n * k) most
min_times zero k most = omega arith
min_times (suc n) k most = elim (le_cases k most) [
  | inl le ↦ ap (λ m. min (suc n * m) most) (let e : min k most ≡ k = omega (arith, le) in e)
  | inr gt ↦ ap (λ m. min (suc n * m) most) (let e : min k most ≡ most = omega (arith, gt) in e) ∙ over n k most gt
]
  where
    le_cases : (a b : ℕ) → (a ≤ b) ⊎ (b < a)
    le_cases a b = grind arith

    over : (n k most : ℕ) → most < k → min (suc n * most) most ≡ min (suc n * k) most
    over n k most gt = let e : n * most ≤ n * k = mul-le-mul_left n (omega (arith, gt)) in omega (arith, gt)

pub count-item : (items others : List Item) (item : Item) (lists n count most : ℕ) → items ≡ item ∷ others → n ≡ length (written item.set) → count ≡ min (length (words others) * lists) most
    → min (n * count) most ≡ min (length (words items) * lists) most
count-item items others item lists n count most parts is so_far =
    let m = length (words others) in
    ap (λ k. min (n * k) most) so_far
    ∙ min_times n (m * lists) most
    ∙ ap (λ k. min k most) (let e : n * (m * lists) ≡ (n * m) * lists = omega arith in e)
    ∙ ap (λ k. min ((k * m) * lists) most) is
    ∙ ap (λ k. min (k * lists) most) (sym (ap (λ l. length (words l)) parts ∙ words-item item others))

-- more lists than there may be, of those of the groups and those that are then in front of them
pub over_groups : (items : List Item) (gs : List (List Word)) (lists count : ℕ) → lists ≡ min (length (all_of gs)) (2 ^ 64 - 1) → count ≡ min (length (words items) * lists) (2 ^ 128 - 1)
    → most_bins < count → most_bins < length (all_of (groups_ahead items gs))
over_groups items gs lists count is all over =
    let m = length (words items) in
    let fewer : m * lists ≤ m * length (all_of gs) = mul-le-mul_left m (omega (arith, is)) in
    omega (arith, all, over, fewer, length-groups items gs)

few_by : (m n lists count : ℕ) → lists ≡ min n (2 ^ 64 - 1) → count ≡ min (m * lists) (2 ^ 128 - 1) → count ≤ 65536 → m * n ≤ 65536
few_by zero n lists count is all few = omega arith
few_by (suc m) n lists count is all few =
    let some : lists + m * lists ≤ 65536 = omega (arith, all, few) in
    let same : lists ≡ n = omega (arith, is, some) in
    subst (λ k. suc m * k ≤ 65536) same (omega (arith, some))

pub within_groups : (items : List Item) (gs : List (List Word)) (lists count : ℕ) → lists ≡ min (length (all_of gs)) (2 ^ 64 - 1) → count ≡ min (length (words items) * lists) (2 ^ 128 - 1)
    → count ≤ most_bins → length (all_of (groups_ahead items gs)) ≤ most_bins
within_groups items gs lists count is all few =
    let whole : length (words items) * length (all_of gs) ≤ 65536 = few_by (length (words items)) (length (all_of gs)) lists count is all few in
    omega (arith, length-groups items gs, whole)

-- ---- distinct lists

pub news_same : (before ws : List Word) → AllDiffer ws → ((w : Word) → is_among ws w ≡ true → is_among before w ≡ false) → news before ws ≡ ws
news_same before [] differ apart = refl
news_same before (w ∷ ws) differ apart =
    ap (λ (b : Bool). cond b (news before ws) (w ∷ news (before ++ w ∷ []) ws)) (apart w (among_first w ws))
    ∙ ap (λ l. w ∷ l) (news_same (before ++ w ∷ []) ws differ.1 later)
  where
    later : (u : Word) → is_among ws u ≡ true → is_among (before ++ w ∷ []) u ≡ false
    later u h = not_true (is_among (before ++ w ∷ []) u) (λ k. elim (among_cases before (w ∷ []) u k) [
      | inl there ↦ false≢true (sym (apart u (among_later w ws u h)) ∙ there)
      | inr here ↦ elim (among_cons w [] u here) [ inl e ↦ false≢true (sym differ.0 ∙ subst (λ z. is_among ws z ≡ true) e h) | inr none ↦ false≢true none ]
    ])

pub news_all_same : (ws : List Word) → AllDiffer ws → news [] ws ≡ ws
news_all_same ws differ = news_same [] ws differ (λ w h. refl)

ordered-append : (xs : List Item) (y : Item) → AreOrdered xs → set_of (written y.set) ≡ y.set → AreOrdered (xs ++ y ∷ [])
ordered-append [] y order is = (is, tt)
ordered-append (x ∷ xs) y order is = (order.0, ordered-append xs y order.1 is)

pub take_next : (xs : List Item) (i : ℕ) (x : Item) → i < length xs → x ≡ get_or xs i x → take (i + 1) xs ≡ take i xs ++ x ∷ []
take_next xs i x within is = take_more xs i x within ∙ ap (λ y. take i xs ++ y ∷ []) (sym is)

pub ordered_next : (xs : List Item) (i : ℕ) (x : Item) → i < length xs → x ≡ get_or xs i x → set_of (written x.set) ≡ x.set → AreOrdered (take i xs) → AreOrdered (take (i + 1) xs)
ordered_next xs i x within is same order =
    subst AreOrdered (sym (take_next xs i x within is)) (ordered-append (take i xs) x order same)

pub ordered_all : (xs : List Item) (i : ℕ) → length xs ≤ i → AreOrdered (take i xs) → AreOrdered xs
ordered_all xs i le order = subst AreOrdered (take_all i xs le) order

-- ---- the lists of a sequence alone

pub one-listed : (seq : Seq) → listed_by_all (seq ∷ []) ≡ listed seq.items
one-listed seq = ap (λ l. news [] l) (append-nil (listed seq.items)) ∙ news_all_same (listed seq.items) (listed-differ seq.items)

pub fails-one : (seq : Seq) (e : ExpandFault) → FailsAfter [] (listed seq.items) e → FailsAfter [] (lists_by_all (seq ∷ [])) e
fails-one seq e h = subst (λ l. FailsAfter [] l e) (sym (append-nil (listed seq.items))) h

-- ---- one number

only-one : (vs : List ℤ) (v : ℤ) → length vs ≡ 1 → Some v ≡ slice_get vs 0 → vs ≡ v ∷ []
only-one [] v one is = absurd (omega (arith, one))
only-one (x ∷ []) v one is = cc
only-one (x ∷ y ∷ ys) v one is = absurd (omega (arith, one))

pub only-number : (vs : List ℤ) (got : Option ℤ) → length vs ≡ 1 → got ≡ slice_get vs 0 → IfSome got (λ number. vs ≡ number ∷ [])
only-number vs (Some v) one is = only-one vs v one is
only-number vs None one is = tt

-- ---- one sequence alone

pub one-of : (seqs : List Seq) (seq : Seq) → 0 < length seqs → length seqs < 2 → seq ≡ get_or seqs 0 seq → seqs ≡ seq ∷ []
one-of [] seq some few is = absurd (omega (arith, some))
one-of (x ∷ []) seq some few is = ap (λ (s : Seq). s ∷ []) (sym is)
one-of (x ∷ y ∷ ys) seq some few is = absurd (omega (arith, few))

pub listed-one : (seqs : List Seq) (seq : Seq) → seqs ≡ seq ∷ [] → listed seq.items ≡ listed_by_all seqs
listed-one seqs seq is = sym (ap (λ l. listed_by_all l) is ∙ one-listed seq)

pub few-by : (n m : ℕ) → m ≡ n → n ≤ most_bins → m ≤ most_bins
few-by n m is few = omega (arith, is, few)
