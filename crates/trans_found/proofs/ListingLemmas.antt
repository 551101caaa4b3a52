-- From one item to the next, and from groups to the list of lists.
use Rattle.std.proofs.Common.{◌≡◌, ℕ, ◌+◌, ◌-◌, ◌^◌, min, ◌≤◌, ◌<◌, ◌⊎◌, List, [], ◌∷◌, ◌++◌, length, take, drop, get_or, refl, ap, sym, ◌∙◌, subst, inl, inr, arith, append-nil, map, false, zero, suc, Any, All, Result, Ok, Err, IfOk, IfErr}
use Rattle.std.specs.Prelude.{ℤ, pos, Contains, Vec}
use Rattle.std.specs.Global.{Global}
use Rattle.std.specs.List.{list_any}
use Rattle.std.proofs.lemmas.Slice.{first_rest}
use Rattle.std.proofs.lemmas.List.Elements.{Contains-get_or, All-head, All-tail}
use Rattle.cov_base.specs.Sets.{written}
use Rattle.cov_ground.specs.Limits.{most_bins, most_cells}
use Rattle.trans_found.specs.declared.found.Found.{Found}
use Rattle.trans_found.specs.declared.fault.ExpandFault.{ExpandFault}
use Rattle.trans_found.specs.declared.fault.ExpandFault.TheVariants.{Unbounded, TooLong, TooManyBins, Memory}
use Rattle.trans_seq.specs.declared.seq.Item.{Item}
use Rattle.trans_found.specs.Lists.{from_on, lengths, choices, by_lengths, news, all_of, listed, is_endless, RefusesToExpand}
use Rattle.trans_seq.specs.Cells.{cells_of_items}
use Rattle.trans_found.specs.Found.{lists_of, Holds, FailsAfter, Extends, HasList, NoList, new_groups, packed}
use Rattle.trans_seq.proofs.Members.{none_in, first_in, cases_in, in_map, in_flat_map}
use Rattle.trans_found.specs.Alone.{groups_ahead, Exceeds, AreOrdered, IsFront}
use Rattle.trans_found.proofs.Ahead.{packed_front}
use Rattle.trans_found.proofs.News.{Word, all_of-new_groups, all_of-packed}
use Rattle.trans_found.proofs.Counted.{no_fewer, no_list_here, no_list_later}

-- ---- the numbers from one on

pub length-from_on : (low n : ℕ) → length (from_on low n) ≡ n
length-from_on low zero = refl
length-from_on low (suc n) = ap suc (length-from_on (low + 1) n)

from_on_at : (low n i d : ℕ) → i < n → get_or (from_on low n) i d ≡ low + i
from_on_at low zero i d within = absurd (omega (arith, within))
from_on_at low (suc n) zero d within = omega arith
from_on_at low (suc n) (suc i) d within = let next : get_or (from_on (low + 1) n) i d ≡ (low + 1) + i = from_on_at (low + 1) n i d (omega (arith, within)) in omega (arith, next)

pub size_at : (ns : List ℕ) (low n i size : ℕ) → ns ≡ from_on low n → i < n → size ≡ low + i → size ≡ get_or ns i size
size_at ns low n i size are within is = is ∙ sym (from_on_at low n i size within) ∙ ap (λ l. get_or l i size) (sym are)

-- ---- an item is put in front

pub made : (start end : Found) (gs : List (List Word)) → start.groups.items ≡ [] → Extends start end gs → end.groups.items ≡ packed (new_groups [] gs)
made start end gs none e = e.groups ∙ ap (λ l. l ++ packed (new_groups (all_of l) gs)) none

pub made_few : (end : Found) → Holds end → end.fresh.items ≡ [] → length (all_of end.groups.items) ≤ most_bins
made_few end h none =
    let all : lists_of end ≡ all_of end.groups.items = ap (λ f. all_of end.groups.items ++ f) none ∙ append-nil (all_of end.groups.items) in
    omega (arith, h.few, h.count, ap length all)

-- ---- the first item and the others of a slice

abbrev pub others : List Item → List Item
others items = take (length items - 1) (drop 1 items)

pub split : (items : List Item) (d : Item) → 0 < length items → d ≡ get_or items 0 d → items ≡ d ∷ others items
split items d some is = first_rest items d some ∙ ap (λ l. l ∷ others items) (sym is)

-- ---- from the groups of the others to those of all

pub listed_all : (items : List Item) → listed items ≡ all_of (packed (new_groups [] (by_lengths items)))
unfolding listed
listed_all items = sym (all_of-packed (new_groups [] (by_lengths items)) ∙ all_of-new_groups [] (by_lengths items))

pub news_all : (gs hs : List (List Word)) → packed (new_groups [] gs) ≡ packed (new_groups [] hs) → news [] (all_of gs) ≡ news [] (all_of hs)
news_all gs hs e = sym (all_of-packed (new_groups [] gs) ∙ all_of-new_groups [] gs) ∙ ap all_of e ∙ all_of-packed (new_groups [] hs) ∙ all_of-new_groups [] hs

pub fails_same : (xs ys : List Word) (f : ExpandFault) → news [] xs ≡ news [] ys → FailsAfter [] xs f → FailsAfter [] ys f
fails_same xs ys Unbounded e h = h
fails_same xs ys (TooLong cells) e h = h
fails_same xs ys (TooManyBins count) e h = (h.0, omega (arith, h.1, ap length e))
fails_same xs ys Memory e h = h

-- that the others are too many says that all are too many
no_fewer_news : (item : Item) (items : List Item) → HasList item → length (news [] (all_of (by_lengths items))) ≤ length (news [] (all_of (by_lengths (item ∷ items))))
unfolding listed
no_fewer_news item items has = no_fewer item items has

pub fails_behind_too : (item : Item) (items : List Item) (f : ExpandFault) → HasList item → FailsAfter [] (all_of (by_lengths items)) f → FailsAfter [] (all_of (by_lengths (item ∷ items))) f
fails_behind_too item items Unbounded has h = h
fails_behind_too item items (TooLong cells) has h = h
fails_behind_too item items (TooManyBins count) has h = (h.0, omega (arith, h.1, no_fewer_news item items has))
fails_behind_too item items Memory has h = h

-- items are put in front of what is new behind them
pub fails_front : (n : ℕ) (items : List Item) (f : ExpandFault) → All HasList items → FailsAfter [] (all_of (by_lengths (drop n items))) f → FailsAfter [] (all_of (by_lengths items)) f
fails_front zero items f has h = h
fails_front (suc n) [] f has h = h
fails_front (suc n) (item ∷ items) f has h = fails_behind_too item items f (All-head HasList item items has) (fails_front n items f (All-tail HasList item items has) h)

pub cells_front : (n : ℕ) (items : List Item) → cells_of_items (drop n items) ≤ cells_of_items items
cells_front zero items = omega arith
cells_front (suc n) [] = omega arith
cells_front (suc n) (item ∷ items) = let next : cells_of_items (drop n items) ≤ cells_of_items items = cells_front n items in omega (arith, next)

pub groups_front : (items once : List Item) (size : ℕ) (got : List (List Word)) → IsFront items once size → AreOrdered once → got ≡ packed (new_groups [] (by_lengths (drop size items)))
    → packed (groups_ahead once got) ≡ packed (new_groups [] (by_lengths items))
groups_front items once size got front order is =
    ap (λ l. packed (groups_ahead once l)) is
    ∙ packed_front once (by_lengths (drop size items)) order
    ∙ ap (λ l. packed (new_groups [] l)) (sym front.groups)

-- so many lists are listed
pub listed_front : (items : List Item) (gs : List (List Word)) → packed gs ≡ packed (new_groups [] (by_lengths items)) → length (all_of gs) ≡ length (listed items)
listed_front items gs same = ap length (sym (all_of-packed gs) ∙ ap all_of same ∙ sym (listed_all items))

pub exceeds_front : (items : List Item) (gs : List (List Word)) (f : ExpandFault) → packed gs ≡ packed (new_groups [] (by_lengths items)) → Exceeds (length (all_of gs)) f → FailsAfter [] (all_of (by_lengths items)) f
exceeds_front items gs Unbounded same h = h
exceeds_front items gs (TooLong cells) same h = h
exceeds_front items gs (TooManyBins count) same h =
    (h.0, omega (arith, h.1, ap length (sym (all_of-packed gs) ∙ ap all_of same ∙ all_of-packed (new_groups [] (by_lengths items)) ∙ all_of-new_groups [] (by_lengths items))))
exceeds_front items gs Memory same h = h

pub listed_none : length (listed []) ≡ 1
unfolding listed
listed_none = refl

-- ---- refusals

pub refuses_after : (items : List Item) (f : ExpandFault) → list_any is_endless items ≡ false → cells_of_items items ≤ most_cells → FailsAfter [] (all_of (by_lengths items)) f → RefusesToExpand items f
unfolding listed
refuses_after items Unbounded bounded short h = absurd h
refuses_after items (TooLong cells) bounded short h = absurd h
refuses_after items (TooManyBins count) bounded short h = (bounded, short, omega (arith, h.1), h.0)
refuses_after items Memory bounded short h = (bounded, short)

-- ---- items with and without lists

low_choice : (numbers : List ℤ) (v : ℤ) (n : ℕ) → Contains numbers v → (w : Word) × Contains (choices numbers n) w
low_choice numbers v zero h = ([], first_in [] [])
low_choice numbers v (suc n) h =
    let rest = low_choice numbers v n h in
    (v ∷ rest.0, in_flat_map (λ u. map (λ r. u ∷ r) (choices numbers n)) numbers v (v ∷ rest.0) h (in_map (λ r. v ∷ r) (choices numbers n) rest.0 rest.1))

some_choice : (numbers : List ℤ) (n : ℕ) → (n ≡ 0) ⊎ (0 < length numbers) → (w : Word) × Contains (choices numbers n) w
some_choice numbers n c = elim c [
  | inl e ↦ ([], subst (λ k. Contains (choices numbers k) []) (sym e) (first_in [] []))
  | inr some ↦ low_choice numbers (get_or numbers 0 (pos 0)) n (Contains-get_or numbers 0 (pos 0) some)
]

pub has_some : (item : Item) (low high : ℕ) → lengths item.repeat ≡ from_on low (high + 1 - low) → low ≤ high → (low ≡ 0) ⊎ (0 < length (written item.set)) → HasList item
has_some item low high are order some =
    let choice = some_choice (written item.set) low some in
    let more : suc (high - low) ≡ high + 1 - low = omega arith in
    record {
      size = low;
      is_length = subst (λ ns. Contains ns low) (sym are) (subst (λ k. Contains (from_on low k) low) more (first_in low (from_on (low + 1) (high - low))));
      list = choice.0;
      is_choice = choice.1;
    }

pub from_on_low : (low n m : ℕ) → Contains (from_on low n) m → (low ≤ m) × (0 < n)
from_on_low low zero m h = absurd (none_in m h)
from_on_low low (suc n) m h = elim (cases_in low (from_on (low + 1) n) m h) [
  | inl same ↦ (omega (arith, same), omega arith)
  | inr later ↦ let next = from_on_low (low + 1) n m later in (omega (arith, next.0), omega arith)
]

no_choice : (numbers : List ℤ) (n : ℕ) → 0 < n → length numbers ≡ 0 → choices numbers n ≡ []
no_choice numbers zero some none = absurd (omega (arith, some))
no_choice [] (suc n) some none = refl
no_choice (v ∷ vs) (suc n) some none = absurd (omega (arith, none))

pub has_none : (item : Item) (low high : ℕ) → lengths item.repeat ≡ from_on low (high + 1 - low) → (high < low) ⊎ ((0 < low) × (length (written item.set) ≡ 0)) → NoList item
has_none item low high are c n h =
    let from = from_on_low low (high + 1 - low) n (subst (λ ns. Contains ns n) are h) in
    elim c [
      | inl order ↦ absurd (omega (arith, order, from.1))
      | inr none ↦ no_choice (written item.set) n (omega (arith, none.0, from.0)) none.1
    ]

pub none_listed : (items : List Item) → Any NoList items → listed items ≡ []
none_listed [] h = absurd (omega (arith, h.2))
none_listed (item ∷ items) h = at h.0 h.1 h.2 h.3 h.4 (λ later. none_listed items later)
  where
    at : (k : ℕ) (x : Item) → k < length (item ∷ items) → get_or (item ∷ items) k x ≡ x → NoList x → (Any NoList items → listed items ≡ []) → listed (item ∷ items) ≡ []
    at zero x within is none next = no_list_here item items (subst NoList (sym is) none)
    at (suc k) x within is none next = no_list_later item items (next (k, x, omega (arith, within), is, none))

-- ---- answers

pub if_err : {A E : Type 0} (P Q : E → Type 0) → ((e : E) → P e → Q e) → (r : Result A E) → IfErr r P → IfErr r Q
if_err P Q f (Ok x) h = h
if_err P Q f (Err e) h = f e h

pub no_items : (items : List Item) → length items < 1 → items ≡ []
no_items [] h = refl
no_items (item ∷ items) h = absurd (omega (arith, h))

pub few_listed : {E : Type 0} (items : List Item) (groups : List (List Word)) → groups ≡ packed (new_groups [] (by_lengths items))
    → (r : Result (Vec (List Word) Global) E) → IfOk r (λ made. made.items ≡ groups) → IfOk r (λ made. length (all_of made.items) ≤ most_bins) → IfOk r (λ made. length (listed items) ≤ most_bins)
few_listed items groups same (Ok made) is few = omega (arith, few, ap length (listed_all items ∙ sym (ap all_of (is ∙ same))))
few_listed items groups same (Err e) is few = few

pub short_cells : (cells most : ℕ) → most ≡ min cells (2 ^ 64 - 1) → most ≤ most_cells → cells ≤ most_cells
short_cells cells most e h = omega (arith, e, h)
