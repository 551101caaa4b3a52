-- Words that stand one behind the other.
use Rattle.std.proofs.Common.{◌≡◌, ℕ, zero, suc, ◌+◌, ◌-◌, ◌<◌, ◌≤◌, ℤ, List, [], ◌∷◌, ◌++◌, length, take, drop, get_or, Some, None, refl, ap, sym, subst, ◌∙◌, arith, length-append, length-take, length-drop, take_all, get_or-take, get_or-drop}
use Rattle.std.specs.Prelude.{slice_get}
use Rattle.std.proofs.lemmas.Option.{slice_get_past, slice_get-get_or}
use Rattle.std.proofs.lemmas.List.{drop_at, drop-append-le, take-append-le}
use Rattle.word_table.specs.Tables.{pieces_from, AreCuts, pieces, AreStarts, ends_at, Holds}

pub count_pieces : (start : ℕ) (ends : List ℕ) (values : List ℤ) → length (pieces_from start ends values) ≡ length ends
count_pieces start [] values = refl
count_pieces start (end ∷ ends) values = ap (λ (n : ℕ). suc n) (count_pieces end ends values)

-- where the k-th piece begins and ends
pub record IsPiece (start : ℕ) (ends : List ℕ) (values : List ℤ) (k from to : ℕ) : Type 0 where
  pub order : from ≤ to
  pub within : to ≤ length values
  pub is : get_or (pieces_from start ends values) k [] ≡ take (to - from) (drop from values)

last_cut : (start : ℕ) (ends : List ℕ) (count : ℕ) → AreCuts start ends count → start ≤ count
last_cut start [] count h = h
last_cut start (end ∷ ends) count h = let le : end ≤ count = last_cut end ends count h.1 in omega (arith, le, h.0)

pub piece_at : (start : ℕ) (ends : List ℕ) (values : List ℤ) (k d e : ℕ) → k < length ends → AreCuts start ends (length values)
    → IsPiece start ends values k (get_or (start ∷ ends) k d) (get_or ends k e)
piece_at start [] values k d e lt h = absurd (omega (arith, lt))
piece_at start (end ∷ ends) values zero d e lt h = record { order = h.0; within = last_cut end ends (length values) h.1; is = refl }
piece_at start (end ∷ ends) values (suc k) d e lt h =
    let p = piece_at end ends values k d e (omega (arith, lt)) h.1 in
    record { order = p.order; within = p.within; is = p.is }

pub count_of : (starts : List ℕ) (values : List ℤ) → AreStarts starts (length values) → length (pieces starts values) + 1 ≡ length starts
count_of [] values h = absurd h
count_of (start ∷ ends) values h = let e = count_pieces start ends values in omega (arith, e)

-- a value of a piece
module _ (start : ℕ) (ends : List ℕ) (values : List ℤ) (k from to depth : ℕ) (p : IsPiece start ends values k from to) where
  abbrev pub piece : List ℤ
  piece = get_or (pieces_from start ends values) k []

  long : length piece ≡ to - from
  long = ap (λ (xs : List ℤ). length xs) p.is ∙ (omega (arith, p.order, p.within, length-take (to - from) (drop from values), length-drop from values))

  pub past_piece : to ≤ from + depth → None ≡ slice_get piece depth
  past_piece le = sym (slice_get_past piece depth (omega (arith, long, le)))

  pub in_piece : (v : ℤ) → from + depth < to → v ≡ get_or values (from + depth) v → Some v ≡ slice_get piece depth
  in_piece v lt is =
      let within : depth < length piece = omega (arith, long, lt) in
      let here : get_or piece depth v ≡ v =
      ap (λ (xs : List ℤ). get_or xs depth v) p.is ∙ get_or-take (to - from) (drop from values) depth v (omega (arith, lt)) ∙ get_or-drop from values depth v ∙ sym is in
      ap (λ (x : ℤ). Some x) (sym here) ∙ sym (slice_get-get_or piece depth v within)

pub none_in : (starts : List ℕ) (values : List ℤ) (k depth d e : ℕ) → k < length (pieces starts values) → AreStarts starts (length values) → get_or starts (k + 1) e ≤ get_or starts k d + depth
    → None ≡ slice_get (get_or (pieces starts values) k []) depth
none_in [] values k depth d e lt h le = absurd h
none_in (start ∷ ends) values k depth d e lt h le =
    let count = count_pieces start ends values in
    let next : k + 1 ≡ suc k = omega arith in
    let p = piece_at start ends values k d e (omega (arith, lt, count)) h in
    past_piece start ends values k (get_or (start ∷ ends) k d) (get_or ends k e) depth p
    (subst (λ (n : ℕ). get_or (start ∷ ends) n e ≤ get_or (start ∷ ends) k d + depth) next le)

pub some_in : (starts : List ℕ) (values : List ℤ) (k depth d e : ℕ) (v : ℤ) → k < length (pieces starts values) → AreStarts starts (length values) → get_or starts k d + depth < get_or starts (k + 1) e
    → v ≡ get_or values (get_or starts k d + depth) v → Some v ≡ slice_get (get_or (pieces starts values) k []) depth
some_in [] values k depth d e v lt h less is = absurd h
some_in (start ∷ ends) values k depth d e v lt h less is =
    let count = count_pieces start ends values in
    let next : k + 1 ≡ suc k = omega arith in
    let p = piece_at start ends values k d e (omega (arith, lt, count)) h in
    in_piece start ends values k (get_or (start ∷ ends) k d) (get_or ends k e) depth p v
    (subst (λ (n : ℕ). get_or (start ∷ ends) k d + depth < get_or (start ∷ ends) n e) next less) is

pub within_values : (starts : List ℕ) (values : List ℤ) (k d : ℕ) → k < length starts → AreStarts starts (length values) → get_or starts k d ≤ length values
within_values [] values k d lt h = absurd h
within_values (start ∷ ends) values zero d lt h = last_cut start ends (length values) h
within_values (start ∷ ends) values (suc k) d lt h =
    let p = piece_at start ends values k d d (omega (arith, lt)) h in p.within

-- ---- one more word

more_from : (start : ℕ) (ends : List ℕ) (values word : List ℤ) (n : ℕ) → AreCuts start ends (length values) → ends_at start ends ≡ length values → n ≡ length values + length word
    → pieces_from start (ends ++ n ∷ []) (values ++ word) ≡ pieces_from start ends values ++ word ∷ []
more_from start [] values word n h last is =
    ap (λ (xs : List ℤ). take (n - start) xs ∷ []) (drop_at values word start (sym last)) ∙ ap (λ (xs : List ℤ). xs ∷ []) (take_all (n - start) word (omega (arith, last, is)))
more_from start (end ∷ ends) values word n h last is =
    let le : end ≤ length values = last_cut end ends (length values) h.1 in
    ap (λ (xs : List ℤ). take (end - start) xs ∷ pieces_from end (ends ++ n ∷ []) (values ++ word)) (drop-append-le start values word (omega (arith, le, h.0)))
    ∙ ap (λ (xs : List ℤ). xs ∷ pieces_from end (ends ++ n ∷ []) (values ++ word)) (take-append-le (end - start) (drop start values) word (omega (arith, le, h.0, length-drop start values)))
    ∙ ap (λ (xss : List (List ℤ)). take (end - start) (drop start values) ∷ xss) (more_from end ends values word n h.1 last is)

cuts_more : (start : ℕ) (ends : List ℕ) (count n : ℕ) → AreCuts start ends count → ends_at start ends ≡ count → count ≤ n → AreCuts start (ends ++ n ∷ []) n
cuts_more start [] count n h last le = (omega (arith, last, le), omega arith)
cuts_more start (end ∷ ends) count n h last le = (h.0, cuts_more end ends count n h.1 last le)

ends_more : (start : ℕ) (ends : List ℕ) (n : ℕ) → ends_at start (ends ++ n ∷ []) ≡ n
ends_more start [] n = refl
ends_more start (end ∷ ends) n = ends_more end ends n

pub holds_none : Holds [] (0 ∷ []) []
holds_none = record { starts_so = omega arith; ended = refl; has = refl }

pub holds_more : (words : List (List ℤ)) (starts : List ℕ) (values word : List ℤ) (n : ℕ) → n ≡ length (values ++ word) → Holds words starts values → Holds (words ++ word ∷ []) (starts ++ n ∷ []) (values ++ word)
holds_more words [] values word n is h = absurd h.starts_so
holds_more words (start ∷ ends) values word n is h =
    let len = length-append values word in
    record {
      starts_so = subst (λ (m : ℕ). AreCuts start (ends ++ n ∷ []) m) is (cuts_more start ends (length values) n h.starts_so h.ended (omega (arith, is, len)));
      ended = ends_more start ends n ∙ is;
      has = more_from start ends values word n h.starts_so h.ended (is ∙ len) ∙ ap (λ (xss : List (List ℤ)). xss ++ word ∷ []) h.has;
    }
