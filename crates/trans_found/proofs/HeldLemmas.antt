-- Lists with one number of each of several sets, and those that are found already.
use Rattle.std.proofs.Common.{◌≡◌, ◌≤◌, ◌≤ℤ◌, int_le, List, [], ◌∷◌, ◌++◌, length, map, filter, refl, ap, sym, ◌∙◌, subst, inl, inr, arith, append_assoc, append-nil, length-append, Result, Ok, Err, OnOk, Bool, true, false, cond}
use Rattle.std.specs.Prelude.{ℤ, ◌==◌, not, ◌&&◌, ◌||◌, Some, Option}
use Rattle.std.proofs.lemmas.List.Concat.{flat_map-append}
use Rattle.std.specs.Ordering.{int_eq}
use Rattle.std.specs.HashMap.{get}
use Rattle.std.specs.List.{flat_map, list_any}
use Rattle.std.proofs.lemmas.Bool.{false≢true, true≢false, or_cases, or_left, or_right}
use Rattle.std.proofs.lemmas.Bool.Decides.{Decides-int_eq}
use Rattle.std.proofs.lemmas.Grind.{common_steps}
use Rattle.std.proofs.lemmas.Int.{ints}
use Rattle.cov_base.proofs.Members.{is_in-written}
use Rattle.cov_base.specs.Sets.{written, is_in, without}
use Rattle.trans_seq.specs.declared.seq.Item.{Item}
use Rattle.trans_found.specs.declared.found.Found.{Found}
use Rattle.trans_found.specs.declared.held.Held.{Held}
use Rattle.trans_found.specs.declared.held.Known.{Known}
use Rattle.trans_found.specs.declared.fault.ExpandFault.{ExpandFault}
use Rattle.trans_found.specs.declared.fault.ExpandFault.TheVariants.{Unbounded, TooLong, TooManyBins, Memory}
use Rattle.trans_found.specs.Lists.{is_among, news, listed, is_endless, RefusesToExpand}
use Rattle.trans_seq.specs.Cells.{cells_of_items}
use Rattle.cov_ground.specs.Limits.{most_cells}
use Rattle.trans_found.specs.Found.{lists_of, Holds, Takes, FailsAfter}
use Rattle.trans_found.specs.Held.{words, begun, begun_by, HasAll, IsPart, AreHeld}
use Rattle.trans_found.proofs.News.{Word, among_left, among_right, among_cases, among_cons, among_first, among_later, among_map, among_news, news-append, news_none}
use Rattle.trans_found.specs.Alone.{behind, behind_by}
use Rattle.trans_found.proofs.Counted.{map-append, no_more, listed-differ}
use Rattle.trans_found.proofs.FoundLemmas.{lists_after, takes_none}
use Rattle.trans_found.proofs.Numbers.{none_written, written-one}

-- ---- one number after the other

begun-more : (first : Word) (v : ℤ) (ws : List Word) → map (λ w. first ++ w) (map (λ r. v ∷ r) ws) ≡ map (λ w. (first ++ v ∷ []) ++ w) ws
begun-more first v [] = refl
begun-more first v (w ∷ ws) =
    ap (λ u. u ∷ map (λ w. first ++ w) (map (λ r. v ∷ r) ws)) (sym (append_assoc first (v ∷ []) w))
    ∙ ap (λ l. ((first ++ v ∷ []) ++ w) ∷ l) (begun-more first v ws)

pub behind-each : (first : Word) (vs : List ℤ) (ws : List Word) → behind_by first vs ws ≡ behind first (flat_map (λ v. map (λ r. v ∷ r) ws) vs)
behind-each first [] ws = refl
behind-each first (v ∷ vs) ws =
    let here = map (λ r. v ∷ r) ws in
    ap (λ l. l ++ behind_by first vs ws) (sym (begun-more first v ws))
    ∙ ap (λ l. behind first here ++ l) (behind-each first vs ws)
    ∙ sym (map-append (λ w. first ++ w) here (flat_map (λ v. map (λ r. v ∷ r) ws) vs))

pub begun-item : (first : Word) (item : Item) (items : List Item) → begun_by first (written item.set) items ≡ begun first (item ∷ items)
begun-item first item items = behind-each first (written item.set) (words items)

pub begun-none : (first : Word) (set : List (ℤ × ℤ)) (items : List Item) → set ≡ [] → begun_by first (written set) items ≡ []
begun-none first set items none = ap (λ vs. begun_by first vs items) (ap written none ∙ none_written)

pub no_ranges : (set : List (ℤ × ℤ)) → (length set == 0) ≡ true → set ≡ []
no_ranges [] h = refl
no_ranges (range ∷ ranges) h = let e : (length (range ∷ ranges) == 0) ≡ false = grind arith in absurd (false≢true (sym e ∙ h))

-- ---- having all of them

pub has-more : (lists more some : List Word) → HasAll lists some → HasAll (lists ++ more) some
has-more lists more some h w k = among_left lists more w (h w k)

by-of : (first : Word) (vs : List ℤ) (items : List Item) (w : Word) → is_among (begun_by first vs items) w ≡ true → (v : ℤ) × (is_in vs v ≡ true) × (is_among (begun (first ++ v ∷ []) items) w ≡ true)
by-of first [] items w h = absurd (false≢true h)
by-of first (v ∷ vs) items w h = elim (among_cases (begun (first ++ v ∷ []) items) (begun_by first vs items) w h) [
  | inl here ↦ (v, or_left (int_eq v v) (is_in vs v) ((Decides-int_eq v v).1 refl), here)
  | inr later ↦ let r = by-of first vs items w later in (r.0, or_right (int_eq r.0 v) (is_in vs r.0) r.1, r.2)
]

by-from : (first : Word) (vs : List ℤ) (items : List Item) (v : ℤ) (w : Word) → is_in vs v ≡ true → is_among (begun (first ++ v ∷ []) items) w ≡ true → is_among (begun_by first vs items) w ≡ true
by-from first [] items v w h k = absurd (false≢true h)
by-from first (x ∷ vs) items v w h k = elim (or_cases (int_eq v x) (is_in vs v) h) [
  | inl e ↦ among_left (begun (first ++ x ∷ []) items) (begun_by first vs items) w (subst (λ u. is_among (begun (first ++ u ∷ []) items) w ≡ true) ((Decides-int_eq v x).0 e) k)
  | inr later ↦ among_right (begun (first ++ x ∷ []) items) (begun_by first vs items) w (by-from first vs items v w later k)
]

pub has-none : (lists : List Word) (first : Word) (set : List (ℤ × ℤ)) (items : List Item) → set ≡ [] → HasAll lists (begun_by first (written set) items)
has-none lists first set items none w h = absurd (false≢true (subst (λ vs. is_among (begun_by first vs items) w ≡ true) (ap written none ∙ none_written) h))

pub has-both : (lists : List Word) (first : Word) (a b both : List (ℤ × ℤ)) (items : List Item) → ((v : ℤ) → is_in (written both) v ≡ (is_in (written a) v || is_in (written b) v))
    → HasAll lists (begun_by first (written a) items) → HasAll lists (begun_by first (written b) items) → HasAll lists (begun_by first (written both) items)
has-both lists first a b both items each has_a has_b w h =
    let r = by-of first (written both) items w h in
    elim (or_cases (is_in (written a) r.0) (is_in (written b) r.0) (sym (each r.0) ∙ r.1)) [
      | inl in_a ↦ has_a w (by-from first (written a) items r.0 w in_a r.2)
      | inr in_b ↦ has_b w (by-from first (written b) items r.0 w in_b r.2)
    ]

-- ---- what is taken

pub takes-has : (old new : Found) (ws : List Word) → Takes old new ws → HasAll (lists_of new) ws
takes-has old new ws t w h = subst (λ l. is_among l w ≡ true) (sym (lists_after old new ws t)) (among_news (lists_of old) ws w h)

pub takes-keeps : (old new : Found) (ws some : List Word) → Takes old new ws → HasAll (lists_of old) some → HasAll (lists_of new) some
takes-keeps old new ws some t h = subst (λ l. HasAll l some) (sym (lists_after old new ws t)) (has-more (lists_of old) (news (lists_of old) ws) some h)

pub held-more : (known : Known) (old new : Found) (ws : List Word) → Takes old new ws → AreHeld known (lists_of old) → AreHeld known (lists_of new)
held-more known old new ws t h key held is = takes-keeps old new ws (begun_by held.first (written held.numbers) held.rest) t (h key held is)

pub held-kept : (known same : Known) (lists : List Word) → same.kept ≡ known.kept → AreHeld known lists → AreHeld same lists
held-kept known same lists e h mark held is = h mark held (sym (ap (λ kept. get int_eq kept mark) e) ∙ is)

pub takes-same : (old new : Found) (xs ys : List Word) → news (lists_of old) xs ≡ news (lists_of old) ys → Takes old new xs → Takes old new ys
takes-same old new xs ys e t = record { holds = t.holds; groups = t.groups; fresh = t.fresh ∙ ap (λ l. old.fresh.items ++ l) e }

pub takes-known : (found : Found) (ws : List Word) → Holds found → HasAll (lists_of found) ws → Takes found found ws
takes-known found ws holds had = takes-same found found [] ws (sym (news_none (lists_of found) ws had)) (takes_none found holds)

pub fails-same : (before xs ys : List Word) (f : ExpandFault) → news before xs ≡ news before ys → FailsAfter before xs f → FailsAfter before ys f
fails-same before xs ys Unbounded e h = h
fails-same before xs ys (TooLong cells) e h = h
fails-same before xs ys (TooManyBins count) e h = (h.0, omega (arith, h.1, ap length e))
fails-same before xs ys Memory e h = h

-- ---- numbers that are passed over

passed : (p : ℤ → Bool) (g : ℤ → List Word) (vs : List ℤ) (before : List Word) → ((v : ℤ) → p v ≡ false → HasAll before (g v)) → news before (flat_map g (filter p vs)) ≡ news before (flat_map g vs)
passed p g [] before had = refl
passed p g (v ∷ vs) before had = by (p v) (had v) (λ more. passed p g vs (before ++ more) (λ u e. has-more before more (g u) (had u e)))
  where
    by : (t : Bool) → (t ≡ false → HasAll before (g v)) → ((more : List Word) → news (before ++ more) (flat_map g (filter p vs)) ≡ news (before ++ more) (flat_map g vs))
        → news before (flat_map g (cond t (v ∷ filter p vs) (filter p vs))) ≡ news before (g v ++ flat_map g vs)
    by true has rest =
        news-append before (g v) (flat_map g (filter p vs))
        ∙ ap (λ l. news before (g v) ++ l) (rest (news before (g v)))
        ∙ sym (news-append before (g v) (flat_map g vs))
    by false has rest =
        let none : news before (g v) ≡ [] = news_none before (g v) (has refl) in
        let same : news before (flat_map g (filter p vs)) ≡ news before (flat_map g vs) =
        sym (ap (λ l. news l (flat_map g (filter p vs))) (append-nil before)) ∙ rest [] ∙ ap (λ l. news l (flat_map g vs)) (append-nil before) in
        same
        ∙ sym (news-append before (g v) (flat_map g vs)
        ∙ ap (λ l. l ++ news (before ++ l) (flat_map g vs)) none
        ∙ ap (λ l. news l (flat_map g vs)) (append-nil before))

not-false : (b : Bool) → not b ≡ false → b ≡ true
not-false true e = refl
not-false false e = absurd (false≢true (sym e))

pub passed-known : (before : List Word) (first : Word) (set known : List (ℤ × ℤ)) (items : List Item) → HasAll before (begun_by first (written known) items)
    → news before (begun_by first (without (written set) (written known)) items) ≡ news before (begun_by first (written set) items)
unfolding without
passed-known before first set known items had =
    passed (λ v. not (is_in (written known) v)) (λ v. begun (first ++ v ∷ []) items) (written set) before
    (λ v e w h. had w (by-from first (written known) items v w (not-false (is_in (written known) v) e) h))

-- ---- what is kept

some-same : (v w : Held) → Some v ≡ Some w → v ≡ w
some-same v w e = cc

pub held-new : (lists : List Word) (t : Bool) (new held : Held) (old got : Option Held) → got ≡ cond t (Some new) old → got ≡ Some held → HasAll lists (begun_by new.first (written new.numbers) new.rest)
    → (old ≡ Some held → HasAll lists (begun_by held.first (written held.numbers) held.rest)) → HasAll lists (begun_by held.first (written held.numbers) held.rest)
held-new lists true new held old got e is has before = subst (λ (h : Held). HasAll lists (begun_by h.first (written h.numbers) h.rest)) (some-same new held (sym e ∙ is)) has
held-new lists false new held old got e is has before = before (sym e ∙ is)

-- ---- sets within sets have lists within lists

pub has-part : (lists some part : List Word) → HasAll lists some → HasAll some part → HasAll lists part
has-part lists some part h k w e = h w (k w e)

among-behind : (first : Word) (ws : List Word) (w : Word) → is_among (behind first ws) w ≡ true → (r : Word) × (is_among ws r ≡ true) × (w ≡ first ++ r)
among-behind first [] w h = absurd (false≢true h)
among-behind first (x ∷ ws) w h = elim (among_cons (first ++ x) (behind first ws) w h) [
  | inl e ↦ (x, among_first x ws, e)
  | inr later ↦ let r = among-behind first ws w later in (r.0, among_later x ws r.0 r.1, r.2)
]

behind-has : (first : Word) (xs ys : List Word) → HasAll xs ys → HasAll (behind first xs) (behind first ys)
behind-has first xs ys h w k =
    let r = among-behind first ys w k in
    subst (λ u. is_among (behind first xs) u ≡ true) (sym r.2) (among_map (λ o. first ++ o) xs r.0 (h r.0 r.1))

pub begun-parts : (first : Word) (vs us : List ℤ) (items others : List Item) → IsPart vs us → HasAll (words others) (words items) → HasAll (begun_by first us others) (begun_by first vs items)
begun-parts first vs us items others part parts w h =
    let r = by-of first vs items w h in
    by-from first us others r.0 w (part r.0 r.1) (behind-has (first ++ r.0 ∷ []) (words others) (words items) parts w r.2)

pub words-parts : (item other : Item) (items others : List Item) → IsPart (written item.set) (written other.set) → HasAll (words others) (words items) → HasAll (words (other ∷ others)) (words (item ∷ items))
words-parts item other items others part parts = begun-parts [] (written item.set) (written other.set) items others part parts

within : (low high least most v : ℤ) → least ≤ℤ low → high ≤ℤ most → ((int_le low v && int_le v high) || false) ≡ true → ((int_le least v && int_le v most) || false) ≡ true
within low high least most v under over h = grind (arith, common_steps, ints)

pub part-within : (range other : ℤ × ℤ) → other.0 ≤ℤ range.0 → range.1 ≤ℤ other.1 → IsPart (written (range ∷ [])) (written (other ∷ []))
part-within range other under over v h =
    is_in-written (other ∷ []) v ∙ within range.0 range.1 other.0 other.1 v under over (sym (is_in-written (range ∷ []) v) ∙ h)

pub part-none : (set other : List (ℤ × ℤ)) → set ≡ [] → IsPart (written set) (written other)
part-none set other none v h = absurd (false≢true (subst (λ vs. is_in vs v ≡ true) (ap written none ∙ none_written) h))

either : (a b : Bool) → (a ≡ true → b ≡ true) → b ≡ (a || b)
either true b part = part refl
either false b part = refl

other-either : (a b : Bool) → (b ≡ true → a ≡ true) → a ≡ (a || b)
other-either true b part = refl
other-either false true part = part refl
other-either false false part = refl

-- the second set, which has all numbers of the first one, has the numbers of both
pub joined-other : (set other both : List (ℤ × ℤ)) → IsPart (written set) (written other) → both ≡ other → (v : ℤ) → is_in (written both) v ≡ (is_in (written set) v || is_in (written other) v)
joined-other set other both part is v =
    ap (λ rs. is_in (written rs) v) is ∙ either (is_in (written set) v) (is_in (written other) v) (part v)

-- the first set, which has all numbers of the second one, has the numbers of both
pub joined-set : (set other both : List (ℤ × ℤ)) → IsPart (written other) (written set) → both ≡ set → (v : ℤ) → is_in (written both) v ≡ (is_in (written set) v || is_in (written other) v)
joined-set set other both part is v =
    ap (λ rs. is_in (written rs) v) is ∙ other-either (is_in (written set) v) (is_in (written other) v) (part v)

pub part-of : (set other left : List (ℤ × ℤ)) → left ≡ [] → ((v : ℤ) → is_in (written left) v ≡ (is_in (written set) v && not (is_in (written other) v))) → IsPart (written set) (written other)
part-of set other left none each v h =
    by (is_in (written set) v) (is_in (written other) v) h (sym (ap (λ l. is_in l v) (ap written none ∙ none_written)) ∙ each v)
  where
    by : (a b : Bool) → a ≡ true → false ≡ (a && not b) → b ≡ true
    by true true e f = refl
    by true false e f = absurd (false≢true f)
    by false b e f = absurd (false≢true e)

held-part : (lists : List Word) (first : Word) (numbers : List (ℤ × ℤ)) (rest some : List Item) → HasAll (words rest) (words some) → HasAll lists (begun_by first (written numbers) rest) → HasAll lists (begun_by first (written numbers) some)
held-part lists first numbers rest some parts h =
    has-part lists (begun_by first (written numbers) rest) (begun_by first (written numbers) some) h (begun-parts first (written numbers) (written numbers) some rest (λ v k. k) parts)

pub held-at : (lists : List Word) (here first : Word) (numbers got : List (ℤ × ℤ)) (rest some : List Item) → here ≡ first → got ≡ numbers → HasAll (words rest) (words some) → HasAll lists (begun_by here (written numbers) rest) → HasAll lists (begun_by first (written got) some)
held-at lists here first numbers got rest some e is parts h =
    subst (λ f. HasAll lists (begun_by f (written got) some)) e
    (subst (λ n. HasAll lists (begun_by here (written n) some)) (sym is) (held-part lists here numbers rest some parts h))

pub full-part : (lists : List Word) (first : Word) (set numbers : List (ℤ × ℤ)) (rest : List Item) → IsPart (written set) (written numbers) → HasAll lists (begun_by first (written numbers) rest) → HasAll lists (begun_by first (written set) rest)
full-part lists first set numbers rest part h =
    has-part lists (begun_by first (written numbers) rest) (begun_by first (written set) rest) h (begun-parts first (written set) (written numbers) rest rest part (λ w k. k))

pub full-item : (lists : List Word) (first : Word) (item : Item) (rest items : List Item) → items ≡ item ∷ rest → HasAll lists (begun_by first (written item.set) rest) → HasAll lists (begun first items)
full-item lists first item rest items parts h =
    subst (λ l. HasAll lists (begun first l)) (sym parts) (subst (HasAll lists) (begun-item first item rest) h)

pub full-only : (lists : List Word) (first : Word) (item : Item) (v : ℤ) (rest items : List Item) → items ≡ item ∷ rest → written item.set ≡ v ∷ [] → HasAll lists (begun (first ++ v ∷ []) rest) → HasAll lists (begun first items)
full-only lists first item v rest items parts only h =
    full-item lists first item rest items parts
    (subst (λ vs. HasAll lists (begun_by first vs rest)) (sym only) (subst (HasAll lists) (sym (append-nil (begun (first ++ v ∷ []) rest))) h))

pub has-same : (lists : List Word) (first : Word) (a b : List (ℤ × ℤ)) (items : List Item) → ((v : ℤ) → is_in (written b) v ≡ is_in (written a) v) → HasAll lists (begun_by first (written a) items) → HasAll lists (begun_by first (written b) items)
has-same lists first a b items each h =
    has-part lists (begun_by first (written a) items) (begun_by first (written b) items) h (begun-parts first (written b) (written a) items items (λ v k. sym (each v) ∙ k) (λ w k. k))

pub has-one : (lists : List Word) (first : Word) (rs : List (ℤ × ℤ)) (v : ℤ) (items : List Item) → HasAll lists (begun_by first (written rs) items) → HasAll lists (begun (first ++ v ∷ []) items) → HasAll lists (begun_by first (written (rs ++ (v, v) ∷ [])) items)
has-one lists first rs v items had has w k =
    let g : ℤ → List Word = λ u. begun (first ++ u ∷ []) items in
    let each : is_among (flat_map g (written rs) ++ (g v ++ [])) w ≡ true = subst (λ l. is_among l w ≡ true) (ap (flat_map g) (written-one rs v) ∙ flat_map-append g (written rs) (v ∷ [])) k in
    elim (among_cases (flat_map g (written rs)) (g v ++ []) w each) [
      | inl before ↦ had w before
      | inr here ↦ has w (subst (λ l. is_among l w ≡ true) (append-nil (g v)) here)
    ]

-- ---- a sequence that is written out is refused

pub fails-expanded : (before : List Word) (items : List Item) (e : ExpandFault) → list_any is_endless items ≡ false → cells_of_items items ≤ most_cells → RefusesToExpand items e → FailsAfter before (listed items) e
fails-expanded before items Unbounded bounded short r = true≢false (sym r ∙ bounded)
fails-expanded before items (TooLong cells) bounded short r = absurd (omega (arith, short, r.1))
fails-expanded before items (TooManyBins count) bounded short r =
    let more = no_more (λ w. w) (λ u w e. e) (listed items) (listed-differ items) (before ++ news before (listed items)) (λ w k. among_news before (listed items) w k) in
    (r.3, omega (arith, r.2, more, length-append before (news before (listed items))))
fails-expanded before items Memory bounded short r = tt

pub on-ok : {A E : Type 0} (P Q : Type 0) → (P → Q) → (r : Result A E) → OnOk r P → OnOk r Q
on-ok P Q f (Ok x) h = f h
on-ok P Q f (Err e) h = h
