-- The lists of items, one choice of their lengths after the other.
use Rattle.std.proofs.Common.{◌≡◌, ℕ, ◌+◌, ◌-◌, List, [], ◌∷◌, ◌++◌, length, take, map, refl, ap, sym, ◌∙◌, append-nil}
use Rattle.std.specs.Prelude.{replicate}
use Rattle.std.specs.List.{flat_map}
use Rattle.std.proofs.lemmas.Bool.{false≢true}
use Rattle.std.proofs.lemmas.List.{map-id, map-append}
use Rattle.cov_base.specs.Sets.{written}
use Rattle.trans_seq.specs.declared.seq.Item.{Item}
use Rattle.trans_found.specs.Lists.{from_on, lengths, choices, joined, by_lengths, news, all_of, listed}
use Rattle.trans_found.specs.Found.{fronted, in_front, new_groups, packed}
use Rattle.trans_found.specs.Held.{words, once}
use Rattle.trans_found.specs.Alone.{ahead, groups_ahead}
use Rattle.trans_found.proofs.Ahead.{ahead-all, ahead-joined, groups_next, groups-times}
use Rattle.trans_found.proofs.Counted.{map-same}
use Rattle.trans_found.proofs.ListingLemmas.{others}
use Rattle.trans_found.proofs.News.{Word, news-map, all_of-append, all_of-new_groups, all_of-packed, new_groups-joined, packed-new_groups, packed-joined}

-- ---- nothing in front, or nothing behind

pub chosen-listed : (items front : List Item) (before : List Word) → front ≡ [] → news before (all_of (groups_ahead front (by_lengths items))) ≡ news before (listed items)
unfolding listed
chosen-listed items front before none =
    let xs = all_of (by_lengths items) in
    let once_more : news before (map (λ w. [] ++ w) (news [] xs)) ≡ news before (map (λ w. [] ++ w) xs) = news-map (λ w. [] ++ w) [] xs before (λ w k. absurd (false≢true k)) in
    ap (λ l. news before (all_of (groups_ahead l (by_lengths items)))) none
    ∙ ap (λ l. news before (all_of l)) (map-id (by_lengths items))
    ∙ sym (sym (ap (λ l. news before l) (map-same (news [] xs))) ∙ once_more ∙ ap (λ l. news before l) (map-same xs))

pub chosen-none : (items front : List Item) → items ≡ [] → words front ≡ all_of (groups_ahead front (by_lengths items))
chosen-none items front none = sym (ap (λ l. all_of (groups_ahead front (by_lengths l))) none ∙ append-nil (ahead front ([] ∷ [])) ∙ ahead-all front)

pub begun-words : (first : Word) (front : List Item) → first ≡ [] → map (λ rest. first ++ rest) (words front) ≡ words front
begun-words first front none = ap (λ f. map (λ rest. f ++ rest) (words front)) none ∙ map-same (words front)

-- ---- what is new behind the front is enough

ahead-groups : (front : List Item) (gs : List (List Word)) → groups_ahead front gs ≡ map (λ g. joined (words front) g) gs
ahead-groups front [] = refl
ahead-groups front (g ∷ gs) = ap (λ x. x ∷ groups_ahead front gs) (ahead-joined front g) ∙ ap (λ l. joined (words front) g ∷ l) (ahead-groups front gs)

new-behind : (front : List Item) (gs : List (List Word)) (before : List Word)
    → news before (all_of (groups_ahead front gs)) ≡ all_of (packed (new_groups before (map (λ g. joined (words front) g) (packed (new_groups [] gs)))))
new-behind front gs before =
    let firsts = words front in
    let kept = new_groups [] gs in
    sym (all_of-new_groups before (groups_ahead front gs))
    ∙ ap (λ l. all_of (new_groups before l)) (ahead-groups front gs)
    ∙ ap all_of (sym (new_groups-joined firsts [] gs before (λ q h w k. absurd (false≢true k))))
    ∙ sym (all_of-packed (new_groups before (map (λ g. joined firsts g) kept)))
    ∙ ap all_of (packed-new_groups before (map (λ g. joined firsts g) kept))
    ∙ ap (λ l. all_of (packed (new_groups before l))) (packed-joined firsts kept)
    ∙ ap all_of (sym (packed-new_groups before (map (λ g. joined firsts g) (packed kept))))

same-behind : (front : List Item) (gs hs : List (List Word)) (before : List Word) → packed (new_groups [] gs) ≡ packed (new_groups [] hs)
    → news before (all_of (groups_ahead front gs)) ≡ news before (all_of (groups_ahead front hs))
same-behind front gs hs before e =
    new-behind front gs before
    ∙ ap (λ l. all_of (packed (new_groups before (map (λ g. joined (words front) g) l)))) e
    ∙ sym (new-behind front hs before)

-- items of one set that stand one after the other are taken together
pub chosen-run : (front items : List Item) (item : Item) (behind : List Item) (least most low high : ℕ) (before : List Word) → items ≡ item ∷ others items → lengths item.repeat ≡ from_on least (most + 1 - least)
    → packed (new_groups [] (in_front item.set least most (by_lengths (others items)))) ≡ packed (new_groups [] (in_front item.set low high (by_lengths behind)))
    → news before (all_of (groups_ahead front (in_front item.set low high (by_lengths behind)))) ≡ news before (all_of (groups_ahead front (by_lengths items)))
chosen-run front items item behind least most low high before parts ends same =
    let rest = by_lengths (others items) in
    let whole : by_lengths items ≡ in_front item.set least most rest = ap by_lengths parts ∙ ap (λ ns. fronted (choices (written item.set)) rest ns) ends in
    sym (ap (λ gs. news before (all_of (groups_ahead front gs))) whole ∙ same-behind front (in_front item.set least most rest) (in_front item.set low high (by_lengths behind)) before same)

-- ---- one length after the other

-- the lists with so many numbers of the item between the front and those behind
abbrev pub sized : List Item → Item → List Item → ℕ → List Word
sized front item behind n = all_of (groups_ahead front (map (λ g. joined (choices (written item.set) n) g) (by_lengths behind)))

pub chosen-sizes : (front : List Item) (item : Item) (behind : List Item) (ns : List ℕ) → flat_map (sized front item behind) ns ≡ all_of (groups_ahead front (fronted (choices (written item.set)) (by_lengths behind) ns))
chosen-sizes front item behind [] = refl
chosen-sizes front item behind (n ∷ ns) =
    let row = map (λ g. joined (choices (written item.set) n) g) (by_lengths behind) in
    let rest = fronted (choices (written item.set)) (by_lengths behind) ns in
    ap (λ l. sized front item behind n ++ l) (chosen-sizes front item behind ns)
    ∙ sym (ap all_of (map-append (λ g. ahead front g) row rest) ∙ all_of-append (groups_ahead front row) (groups_ahead front rest))

pub chosen-size : (front next : List Item) (item : Item) (behind : List Item) (n : ℕ) → next ≡ front ++ replicate n (once item) → all_of (groups_ahead next (by_lengths behind)) ≡ sized front item behind n
chosen-size front next item behind n more =
    let gs = by_lengths behind in
    ap (λ l. all_of (groups_ahead l gs)) more
    ∙ sym (ap (λ l. all_of (groups_ahead front l)) (groups-times item n gs) ∙ ap all_of (groups_next front (replicate n (once item)) gs))

pub take-front : {X : Type 0} (xs ys : List X) → take (length xs) (xs ++ ys) ≡ xs
take-front [] ys = refl
take-front (x ∷ xs) ys = ap (λ l. x ∷ l) (take-front xs ys)
