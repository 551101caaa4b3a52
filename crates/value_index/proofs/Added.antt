-- One more span, and one more bin.
use Rattle.std.proofs.Common.{◌≡◌, ◌⊎◌, ℕ, ◌+◌, ◌<◌, ◌≤◌, zero, suc, List, [], ◌∷◌, ◌++◌, length, get_or, take, Bool, true, false, cond, refl, ap, sym, subst, ◌∙◌, inl, inr, arith, add-one}
use Rattle.std.specs.Prelude.{slice_index, slice_index_or, nat_le, nat_lt}
use Rattle.std.specs.List.{Any}
use Rattle.std.proofs.lemmas.List.{append-nil, length-take}
use mathlib.Core.Bool.{◌&&◌, ◌||◌}
use Rattle.std.proofs.lemmas.List.Folds.{list_any_more, Any-from_list_any}
use Rattle.std.proofs.lemmas.Bool.{cases_lt, false≢true, leb-true, le-leb, lt-leb, lt-ltb, le-ltb}
use Rattle.value_index.specs.declared.sets.Span.{Span}
use Rattle.value_index.specs.Segments.{Ascends, IsSegment}
use Rattle.value_index.specs.Found.{in_span, in_set, places, Apart}
use Rattle.value_index.specs.Built.{RangeAdded, SpansAdded, Holds}

-- the cuts from one place to another are those in the span
pub same_test : (cuts : List ℕ) (span : Span) (from to s : ℕ) → s < length cuts
    → ((k : ℕ) → k < from → slice_index cuts k < span.low) → ((k : ℕ) → from ≤ k → k < length cuts → span.low ≤ slice_index cuts k)
    → Ascends cuts → IsSegment cuts span.high to
    → (nat_le from s && nat_lt s (to + 1)) ≡ in_span (slice_index cuts s) span
same_test cuts span from to s within under over up last = ap (λ (b : Bool). b && nat_lt s (to + 1)) (low (cases_lt s from)) ∙ ap (λ (b : Bool). nat_le span.low (slice_index cuts s) && b) (high (cases_lt to s))
  where
    low : (s < from) ⊎ (from ≤ s) → nat_le from s ≡ nat_le span.low (slice_index cuts s)
    low (inl lt) = lt-leb from s lt ∙ sym (lt-leb span.low (slice_index cuts s) (under s lt))
    low (inr le) = le-leb from s le ∙ sym (le-leb span.low (slice_index cuts s) (over s le within))

    high : (to < s) ⊎ (s ≤ to) → nat_lt s (to + 1) ≡ nat_le (slice_index cuts s) span.high
    high (inl lt) = le-ltb s (to + 1) (omega arith) ∙ sym (lt-leb (slice_index cuts s) span.high (last.above s lt within))
    high (inr le) = let up' : slice_index cuts s ≤ slice_index cuts to = up.at s to le last.within in lt-ltb s (to + 1) (omega arith) ∙ sym (le-leb (slice_index cuts s) span.high (omega (arith, up', last.below)))

or_false : (b : Bool) → b ≡ (b || false)
or_false true = refl
or_false false = refl

pub range_empty : (from to bin : ℕ) (old new : List (List ℕ)) → to ≤ from → RangeAdded from from bin old new → RangeAdded from to bin old new
range_empty from to bin old new le h = record {
  same = h.same;
  at = λ s in'. h.at s in' ∙ ap (λ (b : Bool). slice_index_or old s [] ++ cond b (bin ∷ []) []) (none from s (omega arith) (cases_lt s from) ∙ sym (none to s le (cases_lt s from)));
}
  where
    none : (end s : ℕ) → end ≤ from → (s < from) ⊎ (from ≤ s) → (nat_le from s && nat_lt s end) ≡ false
    none end s le (inl lt) = ap (λ (b : Bool). b && nat_lt s end) (lt-leb from s lt)
    none end s le (inr past) = ap (λ (b : Bool). b && nat_lt s end) (le-leb from s past) ∙ le-ltb s end (omega arith)

pub span_added : (cuts : List ℕ) (span : Span) (from to bin : ℕ) (old new : List (List ℕ)) → length old ≡ length cuts
    → ((k : ℕ) → k < from → slice_index cuts k < span.low) → ((k : ℕ) → from ≤ k → k < length cuts → span.low ≤ slice_index cuts k)
    → Ascends cuts → IsSegment cuts span.high to
    → RangeAdded from (to + 1) bin old new → SpansAdded cuts (span ∷ []) bin old new
span_added cuts span from to bin old new len under over up last h = record {
  same = h.same;
  at = λ s lt. h.at s lt ∙ ap (λ (b : Bool). slice_index_or old s [] ++ cond b (bin ∷ []) []) (same_test cuts span from to s (omega arith) under over up last ∙ or_false (in_span (slice_index cuts s) span));
}

join : (a b : Bool) (bin : ℕ) (row : List ℕ) → (a ≡ true → b ≡ true → ⊥) → (row ++ cond a (bin ∷ []) []) ++ cond b (bin ∷ []) [] ≡ row ++ cond (a || b) (bin ∷ []) []
join true true bin row h = absurd (h refl refl)
join true false bin row h = append-nil (row ++ bin ∷ [])
join false true bin row h = ap (λ (xs : List ℕ). xs ++ bin ∷ []) (append-nil row)
join false false bin row h = append-nil (row ++ [])

pub and-true : (a b : Bool) → (a && b) ≡ true → (a ≡ true) × (b ≡ true)
and-true true b e = (refl, e)
and-true false b e = absurd (false≢true e)

pub span-true : (v : ℕ) (s : Span) → in_span v s ≡ true → (s.low ≤ v) × (v ≤ s.high)
span-true v s e = let both : (nat_le s.low v ≡ true) × (nat_le v s.high ≡ true) = and-true (nat_le s.low v) (nat_le v s.high) e in (leb-true s.low v both.0, leb-true v s.high both.1)

get_or-defaults : {X : Type 0} (xs : List X) (d e : X) (i : ℕ) → i < length xs → get_or xs i d ≡ get_or xs i e
get_or-defaults [] d e i lt = absurd (omega arith)
get_or-defaults (x ∷ xs) d e zero lt = refl
get_or-defaults (x ∷ xs) d e (suc i) lt = get_or-defaults xs d e i (omega arith)

get_or-take_lt : {X : Type 0} (xs : List X) (d : X) (k i : ℕ) → k < i → get_or (take i xs) k d ≡ get_or xs k d
get_or-take_lt [] d k i lt = get_or-take_nil i
  where
    get_or-take_nil : (i : ℕ) → get_or (take i []) k d ≡ d
    get_or-take_nil zero = refl
    get_or-take_nil (suc i) = refl
get_or-take_lt (x ∷ xs) d k zero lt = absurd (omega arith)
get_or-take_lt (x ∷ xs) d zero (suc i) lt = refl
get_or-take_lt (x ∷ xs) d (suc k) (suc i) lt = get_or-take_lt xs d k i (omega arith)

-- a value in an earlier span is in no later one
not_both : (spans : List Span) (i : ℕ) (d : Span) (v : ℕ) → Apart spans → i < length spans → in_set v (take i spans) ≡ true → in_span v (get_or spans i d) ≡ true → ⊥
not_both spans i d v apart lt before here =
    let some : Any (λ x. in_span v x ≡ true) (take i spans) = Any-from_list_any (in_span v) (take i spans) before in
    at some.0 some.1 (omega (arith, some.2, length-take i spans)) some.3 some.4
  where
    at : (k : ℕ) (x : Span) → k < i → get_or (take i spans) k x ≡ x → in_span v x ≡ true → ⊥
    at k x lt' is inside =
        let same : get_or spans k x ≡ x = sym (get_or-take_lt spans x k i lt') ∙ is in
        let gap : (get_or spans k x).high < (get_or spans i x).low = apart k i x lt' lt in
        let gap' : x.high < (get_or spans i d).low = subst (λ (y : Span). y.high < (get_or spans i d).low) same (subst (λ (y : Span). (get_or spans k x).high < y.low) (get_or-defaults spans x d i lt) gap) in
        omega (arith, gap', span-true v x inside, span-true v (get_or spans i d) here)

pub spans_more : (cuts : List ℕ) (spans : List Span) (i bin : ℕ) (d : Span) (old mid new : List (List ℕ)) → i < length spans → d ≡ get_or spans i d → Apart spans
    → SpansAdded cuts (take i spans) bin old mid → SpansAdded cuts (d ∷ []) bin mid new → SpansAdded cuts (take (i + 1) spans) bin old new
spans_more cuts spans i bin d old mid new lt is apart h g = record {
  same = g.same ∙ h.same;
  at = λ s in'. let c : ℕ = slice_index cuts s in
      let here : in_span c d ≡ in_span c (get_or spans i d) = ap (in_span c) is in
      g.at s (subst (λ (n : ℕ). s < n) (sym h.same) in') ∙ ap (λ (row : List ℕ). row ++ cond (in_set c (d ∷ [])) (bin ∷ []) []) (h.at s in')
      ∙ ap (λ (b : Bool). (slice_index_or old s [] ++ cond (in_set c (take i spans)) (bin ∷ []) []) ++ cond b (bin ∷ []) []) (sym (or_false (in_span c d)) ∙ here)
      ∙ join (in_set c (take i spans)) (in_span c (get_or spans i d)) bin (slice_index_or old s []) (not_both spans i d c apart lt)
      ∙ ap (λ (b : Bool). slice_index_or old s [] ++ cond b (bin ∷ []) []) (sym (list_any_more (in_span c) spans i d lt));
}

pub places_more : (v j i : ℕ) (sets : List (List Span)) (d : List Span) → i < length sets → places v j (take (suc i) sets) ≡ places v j (take i sets) ++ cond (in_set v (get_or sets i d)) ((j + i) ∷ []) []
places_more v j i [] d lt = absurd (omega arith)
places_more v j zero (s ∷ ss) d lt = let plain : j ≡ j + 0 = omega arith in ap (λ (k : ℕ). cond (in_set v s) (k ∷ []) []) plain
places_more v j (suc i) (s ∷ ss) d lt = step _ _ _ (in_set v s) (places_more v (j + 1) i ss d (omega arith) ∙ ap (λ (k : ℕ). places v (j + 1) (take i ss) ++ cond (in_set v (get_or ss i d)) (k ∷ []) []) (omega arith))
  where
    step : (a b c : List ℕ) (t : Bool) → a ≡ b ++ c → cond t (j ∷ a) a ≡ cond t (j ∷ b) b ++ c
    step a b c true e = ap (λ (xs : List ℕ). j ∷ xs) e
    step a b c false e = e

pub holds_more : (cuts : List ℕ) (sets : List (List Span)) (i : ℕ) (d : List Span) (old new : List (List ℕ)) → i < length sets → d ≡ get_or sets i d
    → Holds cuts (take i sets) old → SpansAdded cuts d i old new → Holds cuts (take (i + 1) sets) new
holds_more cuts sets i d old new lt is h g = record {
  same = g.same ∙ h.same;
  at = λ s in'. let c : ℕ = slice_index cuts s in
      let next : suc i ≡ i + 1 = sym (add-one i) in
      g.at s (subst (λ (n : ℕ). s < n) (sym h.same) in') ∙ ap (λ (row : List ℕ). row ++ cond (in_set c d) (i ∷ []) []) (h.at s in')
      ∙ ap (λ (spans : List Span). places c 0 (take i sets) ++ cond (in_set c spans) (i ∷ []) []) is
      ∙ ap (λ (k : ℕ). places c 0 (take i sets) ++ cond (in_set c (get_or sets i d)) (k ∷ []) []) (omega arith)
      ∙ sym (places_more c 0 i sets d lt) ∙ ap (λ (k : ℕ). places c 0 (take k sets)) next;
}
