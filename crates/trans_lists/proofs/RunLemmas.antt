-- Items of one set that stand one after the other are one item with as many numbers as they have together.
use Rattle.std.proofs.Common.{◌≡◌, ℤ, ℕ, ◌+◌, ◌-◌, ◌≤◌, List, [], ◌∷◌, ◌++◌, refl, ap, sym, ◌∙◌, subst, arith, append-nil, map, true, zero, suc}
use Rattle.std.specs.Prelude.{replicate, Contains}
use Rattle.std.proofs.lemmas.List.{map-append, replicate-append-replicate}
use Rattle.std.proofs.lemmas.List.Concat.{flat_map-append}
use Rattle.cov_base.specs.Sets.{written}
use Rattle.trans_found.specs.declared.fault.ExpandFault.{ExpandFault}
use Rattle.trans_seq.specs.declared.seq.Item.{Item}
use Rattle.trans_found.specs.Lists.{from_on, lengths, choices, joined, by_lengths, is_among, all_of}
use Rattle.trans_found.specs.Found.{FailsAfter, HasList, fronted, new_groups, packed}
use Rattle.trans_found.specs.Held.{once}
use Rattle.trans_found.specs.Alone.{ahead}
use Rattle.trans_found.proofs.Ahead.{ahead-append, ahead-times}
use Rattle.trans_found.proofs.ListingLemmas.{from_on_low, others, fails_same, news_all}
use Rattle.trans_found.proofs.News.{Word, among_left, among_right, among_news, all_of-append, all_of-new_groups, new_groups-append, packed-append, packed_level, news_none}

-- ---- what is known adds no group

gone : (before : List Word) (known gs : List (List Word)) → ((w : Word) → is_among (all_of known) w ≡ true → is_among before w ≡ true) → packed (new_groups before (known ++ gs)) ≡ packed (new_groups before gs)
gone before [] gs had = refl
gone before (g ∷ known) gs had =
    ap (λ l. packed (l ∷ new_groups (before ++ l) (known ++ gs))) (news_none before g (λ w h. had w (among_left g (all_of known) w h)))
    ∙ ap (λ b. packed (new_groups b (known ++ gs))) (append-nil before)
    ∙ gone before known gs (λ w h. had w (among_right g (all_of known) w h))

parted : (before : List Word) (gs hs : List (List Word)) → packed (new_groups before (gs ++ hs)) ≡ packed (new_groups before gs) ++ packed (new_groups (before ++ all_of (new_groups before gs)) hs)
parted before gs hs = ap packed (new_groups-append before gs hs) ∙ packed-append (new_groups before gs) (new_groups (before ++ all_of (new_groups before gs)) hs)

from_on-append : (low m n : ℕ) → from_on low (m + n) ≡ from_on low m ++ from_on (low + m) n
from_on-append low zero n =
    ap (λ k. from_on low k) (let e : zero + n ≡ n = omega arith in e) ∙ ap (λ k. from_on k n) (let e : low ≡ low + zero = omega arith in e)
from_on-append low (suc m) n =
    ap (λ k. from_on low k) (let e : suc m + n ≡ suc (m + n) = omega arith in e)
    ∙ ap (λ l. low ∷ l) (from_on-append (low + 1) m n ∙ ap (λ k. from_on (low + 1) m ++ from_on k n) (let e : (low + 1) + m ≡ low + suc m = omega arith in e))

-- ---- an item in front of another one of the same set

module _ (item : Item) where
  joined-twice : (m n : ℕ) (ws : List Word) → joined (choices (written item.set) m) (joined (choices (written item.set) n) ws) ≡ joined (choices (written item.set) (m + n)) ws
  joined-twice m n ws =
      ahead-times item m (joined (choices (written item.set) n) ws)
      ∙ ap (λ l. ahead (replicate m (once item)) l) (ahead-times item n ws)
      ∙ sym (ahead-append (replicate m (once item)) (replicate n (once item)) ws)
      ∙ ap (λ l. ahead l ws) (replicate-append-replicate m n (once item))
      ∙ sym (ahead-times item (m + n) ws)

  abbrev row : List (List Word) → ℕ → List (List Word)
  row gs n = map (λ g. joined (choices (written item.set) n) g) gs

  row-twice : (gs : List (List Word)) (m n : ℕ) → row (row gs n) m ≡ row gs (m + n)
  row-twice [] m n = refl
  row-twice (g ∷ gs) m n = ap (λ x. x ∷ row (row gs n) m) (joined-twice m n g) ∙ ap (λ l. joined (choices (written item.set) (m + n)) g ∷ l) (row-twice gs m n)

  abbrev rows : List (List Word) → ℕ → ℕ → List (List Word)
  rows gs low n = fronted (choices (written item.set)) gs (from_on low n)

  row-rows : (gs : List (List Word)) (m low n : ℕ) → row (rows gs low n) m ≡ rows gs (m + low) n
  row-rows gs m low zero = refl
  row-rows gs m low (suc n) =
      map-append (λ g. joined (choices (written item.set) m) g) (row gs low) (rows gs (low + 1) n)
      ∙ ap (λ l. l ++ row (rows gs (low + 1) n) m) (row-twice gs m low)
      ∙ ap (λ l. row gs (m + low) ++ l) (row-rows gs m (low + 1) n ∙ ap (λ k. rows gs k n) (let e : m + (low + 1) ≡ (m + low) + 1 = omega arith in e))

  rows-append : (gs : List (List Word)) (low m n : ℕ) → rows gs low (m + n) ≡ rows gs low m ++ rows gs (low + m) n
  rows-append gs low m n = ap (λ ns. fronted (choices (written item.set)) gs ns) (from_on-append low m n) ∙ flat_map-append (λ n. row gs n) (from_on low m) (from_on (low + m) n)

  -- each further number in front adds one row
  all-rows : (gs : List (List Word)) (before : List Word) (a k c j : ℕ)
      → packed (new_groups before (fronted (choices (written item.set)) (rows gs c (suc j)) (from_on a (suc k)))) ≡ packed (new_groups before (rows gs (a + c) (suc j + k)))
  all-rows gs before a zero c j =
      ap (λ l. packed (new_groups before l)) (append-nil (row (rows gs c (suc j)) a) ∙ row-rows gs a c (suc j) ∙ ap (λ n. rows gs (a + c) n) (let e : suc j ≡ suc j + zero = omega arith in e))
  all-rows gs before a (suc k) c j =
      let here = rows gs (a + c) (suc j) in
      let rest = fronted (choices (written item.set)) (rows gs c (suc j)) (from_on (a + 1) (suc k)) in
      let next = before ++ all_of (new_groups before here) in
      let known = rows gs ((a + 1) + c) j in
      let more = rows gs (((a + 1) + c) + j) (suc k) in
      let shown : here ≡ row gs (a + c) ++ known = ap (λ s. row gs (a + c) ++ rows gs s j) (let e : (a + c) + 1 ≡ (a + 1) + c = omega arith in e) in
      let had : (w : Word) → is_among (all_of known) w ≡ true → is_among next w ≡ true = λ w h.
      subst (λ l. is_among (before ++ l) w ≡ true) (sym (all_of-new_groups before here)) (among_news before (all_of here) w
      (subst (λ l. is_among (all_of l) w ≡ true) (sym shown) (subst (λ l. is_among l w ≡ true) (sym (all_of-append (row gs (a + c)) known)) (among_right (all_of (row gs (a + c))) (all_of known) w h)))) in
      ap (λ l. packed (new_groups before (l ++ rest))) (row-rows gs a c (suc j))
      ∙ parted before here rest
      ∙ ap (λ l. packed (new_groups before here) ++ l) (all-rows gs next (a + 1) k c j
      ∙ ap (λ n. packed (new_groups next (rows gs ((a + 1) + c) n))) (let e : suc j + k ≡ j + suc k = omega arith in e)
      ∙ ap (λ l. packed (new_groups next l)) (rows-append gs ((a + 1) + c) j (suc k))
      ∙ gone next known more had)
      ∙ sym (parted before here more)
      ∙ ap (λ s. packed (new_groups before (here ++ rows gs s (suc k)))) (let e : ((a + 1) + c) + j ≡ (a + c) + suc j = omega arith in e)
      ∙ ap (λ l. packed (new_groups before l)) (sym (rows-append gs (a + c) (suc j) (suc k)))

pub has-order : (item : Item) (low high : ℕ) → HasList item → lengths item.repeat ≡ from_on low (high + 1 - low) → low ≤ high
has-order item low high has ends = omega (arith, (from_on_low low (high + 1 - low) has.size (subst (λ ns. Contains ns has.size) ends has.is_length)).1)

-- one item more of the same set
run-more : (item : Item) (rest : List Item) (low high least most : ℕ) → lengths item.repeat ≡ from_on least (most + 1 - least) → low ≤ high → least ≤ most
    → packed (new_groups [] (fronted (choices (written item.set)) (by_lengths (item ∷ rest)) (from_on low (high + 1 - low))))
    ≡ packed (new_groups [] (fronted (choices (written item.set)) (by_lengths rest) (from_on (low + least) ((high + most) + 1 - (low + least)))))
run-more item rest low high least most ends order has =
    let gs = by_lengths rest in
    let k = high - low in
    let j = most - least in
    let numbers = written item.set in
    let inner : by_lengths (item ∷ rest) ≡ fronted (choices numbers) gs (from_on least (suc j)) =
    ap (λ ns. fronted (choices numbers) gs ns) (ends ∙ ap (λ n. from_on least n) (let e : most + 1 - least ≡ suc j = omega (arith, has) in e)) in
    ap (λ l. packed (new_groups [] (fronted (choices numbers) l (from_on low (high + 1 - low))))) inner
    ∙ ap (λ n. packed (new_groups [] (fronted (choices numbers) (fronted (choices numbers) gs (from_on least (suc j))) (from_on low n)))) (let e : high + 1 - low ≡ suc k = omega (arith, order) in e)
    ∙ all-rows item gs [] low k least j
    ∙ ap (λ n. packed (new_groups [] (fronted (choices numbers) gs (from_on (low + least) n)))) (let e : suc j + k ≡ (high + most) + 1 - (low + least) = omega (arith, order, has) in e)

pub run-step : (set : List (ℤ × ℤ)) (items : List Item) (item : Item) (low high least most : ℕ) → items ≡ item ∷ others items → item.set ≡ set → lengths item.repeat ≡ from_on least (most + 1 - least) → low ≤ high → HasList item
    → packed (new_groups [] (fronted (choices (written set)) (by_lengths items) (from_on low (high + 1 - low))))
    ≡ packed (new_groups [] (fronted (choices (written set)) (by_lengths (others items)) (from_on (low + least) ((high + most) + 1 - (low + least)))))
run-step set items item low high least most parts same ends order has =
    ap (λ l. packed (new_groups [] (fronted (choices (written set)) (by_lengths l) (from_on low (high + 1 - low))))) parts
    ∙ subst (λ s. packed (new_groups [] (fronted (choices (written s)) (by_lengths (item ∷ others items)) (from_on low (high + 1 - low))))
    ≡ packed (new_groups [] (fronted (choices (written s)) (by_lengths (others items)) (from_on (low + least) ((high + most) + 1 - (low + least)))))) same
    (run-more item (others items) low high least most ends order (has-order item least most has ends))

-- the groups of all items, from those behind a run
pub groups-run : (items : List Item) (item : Item) (behind : List Item) (got : List (List Word)) (least most low high : ℕ) → items ≡ item ∷ others items → lengths item.repeat ≡ from_on least (most + 1 - least)
    → packed (new_groups [] (fronted (choices (written item.set)) (by_lengths (others items)) (from_on least (most + 1 - least)))) ≡ packed (new_groups [] (fronted (choices (written item.set)) (by_lengths behind) (from_on low (high + 1 - low))))
    → got ≡ packed (new_groups [] (by_lengths behind))
    → packed (new_groups [] (fronted (choices (written item.set)) got (from_on low (high + 1 - low)))) ≡ packed (new_groups [] (by_lengths items))
groups-run items item behind got least most low high parts ends same is =
    let firsts = choices (written item.set) in
    ap (λ l. packed (new_groups [] (fronted firsts l (from_on low (high + 1 - low))))) is
    ∙ sym (packed_level firsts (by_lengths behind) (from_on low (high + 1 - low)))
    ∙ sym same
    ∙ ap (λ ns. packed (new_groups [] (fronted firsts (by_lengths (others items)) ns))) (sym ends)
    ∙ ap (λ l. packed (new_groups [] (by_lengths l))) (sym parts)

pub fails-run : (items : List Item) (item : Item) (got : List (List Word)) (low high : ℕ) (f : ExpandFault)
    → packed (new_groups [] (fronted (choices (written item.set)) got (from_on low (high + 1 - low)))) ≡ packed (new_groups [] (by_lengths items))
    → FailsAfter [] (all_of (fronted (choices (written item.set)) got (from_on low (high + 1 - low)))) f → FailsAfter [] (all_of (by_lengths items)) f
fails-run items item got low high f same h =
    let gs = fronted (choices (written item.set)) got (from_on low (high + 1 - low)) in
    fails_same (all_of gs) (all_of (by_lengths items)) f (news_all gs (by_lengths items) same) h
