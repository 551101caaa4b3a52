-- The only list of a sequence of single values, item by item.
use Rattle.std.proofs.Common.{◌≡◌, ◌∙◌, ℕ, ◌+◌, ◌<◌, ◌≤◌, ℤ, List, [], ◌∷◌, ◌++◌, length, drop, get_or, Option, Some, None, refl, sym, ap, add-one, drop-cons, append-nil}
use Rattle.std.proofs.lemmas.List.{append_assoc, drop_all}
use Rattle.trans_seq.specs.declared.seq.Item.{Item}
use Rattle.trans_seq.specs.Words.{value_once, with_value, word_of}

-- the list behind these values
abbrev pub ahead : List ℤ → Option (List ℤ) → Option (List ℤ)
ahead list None = None
ahead list (Some rest) = Some (list ++ rest)

pub ahead_begins : (word : Option (List ℤ)) → word ≡ ahead [] word
ahead_begins None = refl
ahead_begins (Some rest) = refl

ahead_value : (list : List ℤ) (v : ℤ) (word : Option (List ℤ)) → ahead list (with_value (Some v) word) ≡ ahead (list ++ v ∷ []) word
ahead_value list v None = refl
ahead_value list v (Some rest) = ap (λ (w : List ℤ). Some w) (sym (append_assoc list (v ∷ []) rest))

next_is : (items : List Item) (i : ℕ) (item : Item) → i < length items → item ≡ get_or items i item → drop i items ≡ item ∷ drop (i + 1) items
next_is items i item lt is = drop-cons items i item lt ∙ rw (add-one, ← is) refl

word_next : (items : List Item) (i : ℕ) (item : Item) (value : Option ℤ) → i < length items → item ≡ get_or items i item → value ≡ value_once item.repeat item.set
    → word_of (drop i items) ≡ with_value value (word_of (drop (i + 1) items))
word_next items i item value lt is e = ap word_of (next_is items i item lt is) ∙ ap (λ (v : Option ℤ). with_value v (word_of (drop (i + 1) items))) (sym e)

pub ahead_more : (list : List ℤ) (items : List Item) (i : ℕ) (item : Item) (v : ℤ) (whole : Option (List ℤ)) → whole ≡ ahead list (word_of (drop i items))
    → i < length items → item ≡ get_or items i item → Some v ≡ value_once item.repeat item.set → whole ≡ ahead (list ++ v ∷ []) (word_of (drop (i + 1) items))
ahead_more list items i item v whole e lt is value = e ∙ ap (ahead list) (word_next items i item (Some v) lt is value) ∙ ahead_value list v (word_of (drop (i + 1) items))

pub ahead_stops : (list : List ℤ) (items : List Item) (i : ℕ) (item : Item) (whole : Option (List ℤ)) → whole ≡ ahead list (word_of (drop i items))
    → i < length items → item ≡ get_or items i item → None ≡ value_once item.repeat item.set → None ≡ whole
ahead_stops list items i item whole e lt is value = sym (e ∙ ap (ahead list) (word_next items i item None lt is value))

pub ahead_done : (list : List ℤ) (items : List Item) (i : ℕ) (whole : Option (List ℤ)) → whole ≡ ahead list (word_of (drop i items)) → length items ≤ i → Some list ≡ whole
ahead_done list items i whole e le = sym (e ∙ ap (λ (xs : List Item). ahead list (word_of xs)) (drop_all i items le) ∙ ap (λ (w : List ℤ). Some w) (append-nil list))
