-- The lists of a sequence that are written out are its windows of known samples.
use Rattle.std.proofs.Common.{◌≡◌, ℕ, ◌+◌, ◌-◌, ◌<◌, ◌≤◌, ◌↔◌, List, [], ◌∷◌, ◌++◌, length, take, drop, map, refl, ap, sym, ◌∙◌, subst, inl, inr, arith, Bool, true, false, Option, Some, zero, suc}
use Rattle.std.specs.Prelude.{ℤ, Contains, All}
use Rattle.std.specs.List.{list_any, flat_map, take-map, drop-map}
use Rattle.std.proofs.lemmas.Bool.{or_parts, true≢false, cases_eq}
use Rattle.std.proofs.lemmas.Bool.Decides.{Decides-int_eq}
use Rattle.std.proofs.lemmas.Cmp.{int_eq_equiv}
use Rattle.std.proofs.lemmas.List.{length-map, map-append, take-append-drop, length-append}
use Rattle.std.proofs.lemmas.List.Elements.{All-nil, All-cons, All-map, Contains-append_cases}
use Rattle.std.proofs.lemmas.Map.Views.{list_any-from_Contains, Contains-from_any}
use Rattle.std.proofs.Math.Seq.{take-append_seam, drop-append_seam}
use Rattle.cov_base.specs.Sets.{written, is_in}
use Rattle.trans_seq.specs.declared.seq.Item.{Item}
use Rattle.trans_seq.specs.declared.seq.Repeat.{Repeat}
use Rattle.trans_seq.specs.declared.seq.Repeat.TheVariants.{Once, Consec, Goto, NonConsec}
use Rattle.trans_found.specs.Lists.{from_on, lengths, choices, joined, by_lengths, is_among, all_of, listed, goes_on, is_endless, Expands}
use Rattle.trans_seq.specs.Windows.{is_known_in, AllInside, InRepeat, InItem, InSeq, is_end}
use Rattle.trans_seq.proofs.Members.{none_in, first_in, later_in, cases_in, in_map, in_flat_map}
use Rattle.trans_found.proofs.News.{Word, among_first, among_later, among_cons, among_news}
use Rattle.trans_found.proofs.Counted.{news_from}

module _ {X Y : Type 0} where
  from_map : (f : X → Y) (xs : List X) (y : Y) → Contains (map f xs) y → (x : X) × Contains xs x × (f x ≡ y)
  from_map f [] y c = absurd (none_in y c)
  from_map f (x ∷ xs) y c = elim (cases_in (f x) (map f xs) y c) [
    | inl same ↦ (x, first_in x xs, same)
    | inr later ↦ let s = from_map f xs y later in (s.0, later_in x xs s.0 s.1, s.2)
  ]

  pub from_flat_map : (g : X → List Y) (xs : List X) (y : Y) → Contains (flat_map g xs) y → (x : X) × Contains xs x × Contains (g x) y
  from_flat_map g [] y c = absurd (none_in y c)
  from_flat_map g (x ∷ xs) y c = elim (Contains-append_cases (g x) (flat_map g xs) y c) [
    | inl here ↦ (x, first_in x xs, here)
    | inr later ↦ let s = from_flat_map g xs y later in (s.0, later_in x xs s.0 s.1, s.2)
  ]

-- ---- the lengths and the values of an item's lists

in-from_on : (low n k : ℕ) → Contains (from_on low n) k → (low ≤ k) × (k < low + n)
in-from_on low zero k c = absurd (none_in k c)
in-from_on low (suc n) k c = elim (cases_in low (from_on (low + 1) n) k c) [
  | inl same ↦ (omega (arith, same), omega (arith, same))
  | inr later ↦ let s = in-from_on (low + 1) n k later in (omega (arith, s.0), omega (arith, s.1))
]

from_on-has : (low n k : ℕ) → low ≤ k → k < low + n → Contains (from_on low n) k
from_on-has low zero k le lt = absurd (omega (arith, le, lt))
from_on-has low (suc n) k le lt = elim (cases_eq low k) [
  | inl same ↦ subst (λ j. Contains (low ∷ from_on (low + 1) n) j) same (first_in low (from_on (low + 1) n))
  | inr ne ↦ later_in low (from_on (low + 1) n) k (from_on-has (low + 1) n k (omega (arith, le, ne)) (omega (arith, lt)))
]

tail : {X : Type 0} (P : X → Type 0) (x : X) (xs : List X) → All P (x ∷ xs) → All P xs
tail P x xs all = λ k d lt. all (suc k) d (omega (arith, lt))

choice-of : (numbers : List ℤ) (n : ℕ) (w : Word) → Contains (choices numbers n) w → (length w ≡ n) × All (λ v. is_in numbers v ≡ true) w
choice-of numbers zero w c = elim (cases_in [] [] w c) [
  | inl same ↦ subst (λ u. (length u ≡ 0) × All (λ v. is_in numbers v ≡ true) u) same (refl, All-nil (λ v. is_in numbers v ≡ true))
  | inr later ↦ absurd (none_in w later)
]
choice-of numbers (suc n) w c =
    let s = from_flat_map (λ v. map (λ rest. v ∷ rest) (choices numbers n)) numbers w c in
    let t = from_map (λ rest. s.0 ∷ rest) (choices numbers n) w s.2 in
    let rest = choice-of numbers n t.0 t.1 in
    subst (λ u. (length u ≡ suc n) × All (λ v. is_in numbers v ≡ true) u) t.2
    (ap suc rest.0, All-cons (λ v. is_in numbers v ≡ true) s.0 t.0 (list_any-from_Contains int_eq_equiv s.0 numbers s.1) rest.1)

choice-from : (numbers : List ℤ) (w : Word) → All (λ v. is_in numbers v ≡ true) w → Contains (choices numbers (length w)) w
choice-from numbers [] all = first_in [] []
choice-from numbers (v ∷ w) all =
    in_flat_map (λ x. map (λ rest. x ∷ rest) (choices numbers (length w))) numbers v (v ∷ w)
    (Contains-from_any (λ x y. (Decides-int_eq x y).0) v numbers (all 0 v (omega arith)))
    (in_map (λ rest. v ∷ rest) (choices numbers (length w)) w (choice-from numbers w (tail (λ v. is_in numbers v ≡ true) v w all)))

known-back : (P : Option ℤ → Type 0) (w : Word) → All P (map Some w) → All (λ v. P (Some v)) w
known-back P [] all = All-nil (λ v. P (Some v))
known-back P (v ∷ w) all = All-cons (λ v. P (Some v)) v w (all 0 (Some v) (omega arith)) (known-back P w (tail P (Some v) (map Some w) all))

module _ (set : List (ℤ × ℤ)) (r : Repeat) (last : Bool) (bounded : goes_on r ≡ false) where
  repeat-of : (n : ℕ) (w : Word) → Contains (lengths r) n → Contains (choices (written set) n) w → InRepeat (is_known_in set) r last (map Some w)
  repeat-of n w is_length is_choice = at r bounded is_length
    where
      both : (length w ≡ n) × All (λ v. is_in (written set) v ≡ true) w
      both = choice-of (written set) n w is_choice

      inside : AllInside (is_known_in set) (map Some w)
      inside = All-map (λ s. is_known_in set s ≡ true) Some w both.1

      long : length (map Some w) ≡ n
      long = length-map w Some ∙ both.0

      at : (r : Repeat) → goes_on r ≡ false → Contains (lengths r) n → InRepeat (is_known_in set) r last (map Some w)
      at Once b c = elim (cases_in 1 [] n c) [ inl same ↦ (long ∙ sym same, inside) | inr later ↦ absurd (none_in n later) ]
      at (Consec low high) b c = let s = in-from_on low (high + 1 - low) n c in (omega (arith, s.0, long), omega (arith, s.1, long), inside)
      at (Goto low high) b c = absurd (true≢false b)
      at (NonConsec low high) b c = absurd (true≢false b)

  repeat-from : (w : Word) → InRepeat (is_known_in set) r last (map Some w) → Contains (lengths r) (length w) × Contains (choices (written set) (length w)) w
  repeat-from w held = at r bounded held
    where
      long : length (map Some w) ≡ length w
      long = length-map w Some

      choice : AllInside (is_known_in set) (map Some w) → Contains (choices (written set) (length w)) w
      choice inside = choice-from (written set) w (known-back (λ s. is_known_in set s ≡ true) w inside)

      at : (r : Repeat) → goes_on r ≡ false → InRepeat (is_known_in set) r last (map Some w) → Contains (lengths r) (length w) × Contains (choices (written set) (length w)) w
      at Once b held = let one : 1 ≡ length w = sym held.0 ∙ long in (subst (λ n. Contains (1 ∷ []) n) one (first_in 1 []), choice held.1)
      at (Consec low high) b held =
          let lo : low ≤ length (map Some w) = held.0 in
          let hi : length (map Some w) ≤ high = held.1 in
          (from_on-has low (high + 1 - low) (length w) (omega (arith, lo, long)) (omega (arith, lo, hi, long)), choice held.2)
      at (Goto low high) b held = absurd (true≢false b)
      at (NonConsec low high) b held = absurd (true≢false b)

-- ---- sequences

one-of : (items : List Item) → list_any is_endless items ≡ false → (w : Word) → Contains (all_of (by_lengths items)) w → InSeq items (map Some w)
one-of [] bounded w c = elim (cases_in [] [] w c) [
  | inl same ↦ ap (map Some) (sym same)
  | inr later ↦ absurd (none_in w later)
]
one-of (item ∷ items) bounded w c =
    let parts = or_parts (is_endless item) (list_any is_endless items) bounded in
    let numbers = written item.set in
    let groups = by_lengths items in
    let g = from_flat_map (λ group. group) (by_lengths (item ∷ items)) w c in
    let n = from_flat_map (λ n. map (λ group. joined (choices numbers n) group) groups) (lengths item.repeat) g.0 g.1 in
    let h = from_map (λ group. joined (choices numbers n.0) group) groups g.0 n.2 in
    let f = from_flat_map (λ first. map (λ other. first ++ other) h.0) (choices numbers n.0) w (subst (λ group. Contains group w) (sym h.2) g.2) in
    let o = from_map (λ other. f.0 ++ other) h.0 w f.2 in
    let first = f.0 in
    let other = o.0 in
    let here = repeat-of item.set item.repeat (is_end items) parts.0 n.0 first n.1 f.1 in
    let rest = one-of items parts.1 other (in_flat_map (λ group. group) groups h.0 other h.1 o.1) in
    let whole : map Some first ++ map Some other ≡ map Some w = sym (map-append Some first other) ∙ ap (map Some) o.2 in
    subst (InSeq (item ∷ items)) whole (record {
      cut = length (map Some first);
      within = omega (arith, length-append (map Some first) (map Some other));
      first = subst (InItem item (is_end items)) (sym (take-append_seam (map Some first) (map Some other))) here;
      rest = subst (InSeq items) (sym (drop-append_seam (map Some first) (map Some other))) rest;
    })

from-one : (items : List Item) → list_any is_endless items ≡ false → (w : Word) → InSeq items (map Some w) → Contains (all_of (by_lengths items)) w
from-one [] bounded w held = subst (λ u. Contains ([] ∷ []) u) (sym (empty w held)) (first_in [] [])
  where
    empty : (w : Word) → map Some w ≡ [] → w ≡ []
    empty [] e = refl
    empty (v ∷ w) e = absurd (omega (arith, ap length e))
from-one (item ∷ items) bounded w held =
    let parts = or_parts (is_endless item) (list_any is_endless items) bounded in
    let numbers = written item.set in
    let groups = by_lengths items in
    let cut = held.cut in
    let first = take cut w in
    let other = drop cut w in
    let here = repeat-from item.set item.repeat (is_end items) parts.0 first (subst (InItem item (is_end items)) (take-map Some cut w) held.first) in
    let rest = from-one items parts.1 other (subst (InSeq items) (drop-map Some cut w) held.rest) in
    let g = from_flat_map (λ group. group) groups other rest in
    let n = length first in
    let group = joined (choices numbers n) g.0 in
    let made = in_flat_map (λ f. map (λ o. f ++ o) g.0) (choices numbers n) first (first ++ other) here.1 (in_map (λ o. first ++ o) g.0 other g.2) in
    let there = in_flat_map (λ n. map (λ group. joined (choices numbers n) group) groups) (lengths item.repeat) n group here.0 (in_map (λ group. joined (choices numbers n) group) groups g.0 g.1) in
    subst (λ u. Contains (all_of (by_lengths (item ∷ items))) u) (take-append-drop cut w) (in_flat_map (λ group. group) (by_lengths (item ∷ items)) group (first ++ other) there made)

pub among-of : (lists : List Word) (w : Word) → Contains lists w → is_among lists w ≡ true
among-of [] w c = absurd (none_in w c)
among-of (x ∷ xs) w c = elim (cases_in x xs w c) [
  | inl same ↦ subst (λ u. is_among (x ∷ xs) u ≡ true) same (among_first x xs)
  | inr later ↦ among_later x xs w (among-of xs w later)
]

pub among-from : (lists : List Word) (w : Word) → is_among lists w ≡ true → Contains lists w
among-from [] w e = absurd (true≢false (sym e))
among-from (x ∷ xs) w e = elim (among_cons x xs w e) [
  | inl same ↦ subst (λ u. Contains (x ∷ xs) u) (sym same) (first_in x xs)
  | inr later ↦ later_in x xs w (among-from xs w later)
]

pub listed-windows : (items : List Item) → list_any is_endless items ≡ false → (w : Word) → Contains (listed items) w ↔ InSeq items (map Some w)
unfolding listed
listed-windows items bounded w = (
  (λ c. one-of items bounded w (among-from (all_of (by_lengths items)) w (news_from [] (all_of (by_lengths items)) w (among-of (listed items) w c)))),
  (λ held. among-from (listed items) w (among_news [] (all_of (by_lengths items)) w (among-of (all_of (by_lengths items)) w (from-one items bounded w held)))),
)

pub windows-of : (items : List Item) (lists : List Word) → Expands items lists → (w : Word) → Contains lists w ↔ InSeq items (map Some w)
windows-of items lists e w = subst (λ ls. Contains ls w ↔ InSeq items (map Some w)) (sym e.are) (listed-windows items e.bounded w)
