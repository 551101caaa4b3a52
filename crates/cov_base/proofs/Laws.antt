-- What the calls on sets promise.
use Rattle.std.proofs.Common.{◌≡◌, ◌∙◌, ap, sym, subst, ℕ, zero, suc, ◌+◌, ◌-◌, ◌*◌, ◌^◌, ◌<◌, ◌≤◌, ℤ, pos, ◌+ℤ◌, ◌≤ℤ◌, List, [], ◌∷◌, ◌++◌, length, get_or, arith, Bool, not, Some, Result, Ok, Err, IfOk}
use Rattle.std.specs.Prelude.{◌||◌, ◌&&◌, slice_get}
use Rattle.std.proofs.lemmas.Int.{ints}
use Rattle.cov_base.specs.Sets.{covers, is_in, written, without, set_of, size, IsNormalForm, IsNormalFrom, EndsBy, least, greatest}
use Rattle.cov_base.specs.Intervals.{joins, merged, less, starts, total, BeginInOrder}
use Rattle.cov_base.proofs.Members.{is_in-written, is_in-append, is_in-without, size_of_some}
use Rattle.cov_base.proofs.Runs.{set_of_is, set_of-written, same_when_covered}
use Rattle.cov_base.proofs.Joins.{joins_normal, joins_ends, joins_cover}
use Rattle.cov_base.proofs.Merges.{merged_begin, merged_ends, merged_cover}
use Rattle.cov_base.proofs.Cuts.{less_normal, less_ends, less_covers}
use Rattle.cov_base.specs.Stored.{IsStored}
use Rattle.cov_base.proofs.Counts.{nth_in, room, room_next, starts_ascend, length-starts}

pub joins_is_set : (rs : List (ℤ × ℤ)) → BeginInOrder least rs → EndsBy greatest rs → IsNormalForm (joins [] rs)
joins_is_set rs order ends = record {
  normal = joins_normal least least [] rs tt tt (omega (arith, ints)) order;
  ends = joins_ends greatest [] rs tt ends;
}

joins_covers : (rs : List (ℤ × ℤ)) (v : ℤ) → BeginInOrder least rs → covers (joins [] rs) v ≡ covers rs v
joins_covers rs v order = joins_cover least least [] rs v tt tt (omega (arith, ints)) order

pub from_ranges_is : (ranges sorted : List (ℤ × ℤ)) → BeginInOrder least sorted → ((v : ℤ) → covers sorted v ≡ covers ranges v) → joins [] sorted ≡ set_of (written ranges)
from_ranges_is ranges sorted order same =
    set_of_is least (joins [] sorted) (written ranges) (joins_normal least least [] sorted tt tt (omega (arith, ints)) order)
    (λ v. joins_covers sorted v order ∙ (same v ∙ sym (is_in-written ranges v)))

pub union_is_set : (left right : List (ℤ × ℤ)) → IsNormalForm left → IsNormalForm right → IsNormalForm (joins [] (merged left right))
union_is_set left right l r = joins_is_set (merged left right) (merged_begin least left right l.normal r.normal) (merged_ends greatest left right l.ends r.ends)

pub union_is : (left right : List (ℤ × ℤ)) → IsNormalForm left → IsNormalForm right → joins [] (merged left right) ≡ set_of (written left ++ written right)
union_is left right l r =
    let order = merged_begin least left right l.normal r.normal in
    set_of_is least (joins [] (merged left right)) (written left ++ written right) (union_is_set left right l r).normal
    (λ v. joins_covers (merged left right) v order ∙ (merged_cover left right v ∙ (either (sym (is_in-written left v)) (sym (is_in-written right v)) ∙ sym (is_in-append (written left) (written right) v))))
  where
    either : {a b c d : Bool} → a ≡ c → b ≡ d → (a || b) ≡ (c || d)
    either e f = λ i. e i || f i

pub minus_is_set : (left right : List (ℤ × ℤ)) → IsNormalForm left → IsNormalForm right → IsNormalForm (less left right)
minus_is_set left right l r = record {
  normal = less_normal least least left right l.normal r.normal;
  ends = less_ends greatest left right l.ends;
}

pub minus_is : (left right : List (ℤ × ℤ)) → IsNormalForm left → IsNormalForm right → less left right ≡ set_of (without (written left) (written right))
minus_is left right l r =
    set_of_is least (less left right) (without (written left) (written right)) (minus_is_set left right l r).normal
    (λ v. less_covers least least left right v l.normal r.normal ∙ (both (sym (is_in-written left v)) (sym (is_in-written right v)) ∙ sym (is_in-without (written left) (written right) v)))
  where
    both : {a b c d : Bool} → a ≡ c → b ≡ d → (a && not b) ≡ (c && not d)
    both e f = λ i. e i && not (f i)

pub set_is : (rs : List (ℤ × ℤ)) → IsNormalForm rs → set_of (written rs) ≡ rs
set_is rs s = sym (set_of-written least rs s.normal)

pub set_is_one : (rs ss : List (ℤ × ℤ)) → IsNormalForm rs → IsNormalForm ss → ((v : ℤ) → is_in (written rs) v ≡ is_in (written ss) v) → rs ≡ ss
set_is_one rs ss r s same = same_when_covered least least rs ss r.normal s.normal (λ v. sym (is_in-written rs v) ∙ (same v ∙ is_in-written ss v))

total_bound : (count : ℕ) (rs : List (ℤ × ℤ)) → count ≤ 3 * 2 ^ 63 → IsNormalFrom (least +ℤ pos count) rs → EndsBy greatest rs → total count rs ≤ 3 * 2 ^ 63
total_bound count [] le n e = le
total_bound count (r ∷ rs) le n e = total_bound (count + size r) rs (room count r n.0 n.1 e.0) (room_next count r rs n) e.1

pub count_bound : (rs : List (ℤ × ℤ)) → IsNormalForm rs → total 0 rs ≤ 3 * 2 ^ 63
count_bound rs s = total_bound 0 rs (omega arith) s.normal s.ends

range_at : (low high : ℤ) (rs : List (ℤ × ℤ)) (p : ℕ) (d : ℤ × ℤ) → IsNormalFrom low rs → EndsBy high rs → p < length rs → (low ≤ℤ (get_or rs p d).0) × ((get_or rs p d).0 ≤ℤ (get_or rs p d).1) × ((get_or rs p d).1 ≤ℤ high)
range_at low high [] p d n e h = absurd (omega arith)
range_at low high (r ∷ rs) zero d n e h = (n.0, n.1, e.0)
range_at low high (r ∷ rs) (suc p) d n e h =
    let rest = range_at (r.1 +ℤ pos 2) high rs p d n.2 e.1 (omega arith) in
    (omega (arith, ints, n.0, n.1, rest.0), rest.1, rest.2)

-- the number at a place
pub record IsNumberAt (rs : List (ℤ × ℤ)) (k : ℕ) (v : ℤ) : Type 0 where
  pub small : v ≤ℤ greatest
  pub is : slice_get (written rs) k ≡ Some v

nth_at : (rs : List (ℤ × ℤ)) (p k j : ℕ) (d : ℤ × ℤ) → IsNormalForm rs → p < length rs → k ≡ get_or (starts 0 rs) p 0 + j → ((t : ℕ) → p < t → t < length rs → k < get_or (starts 0 rs) t 0) → k < total 0 rs → IsNumberAt rs k ((get_or rs p d).0 +ℤ pos j)
nth_at rs p k j d s h e above low =
    let found = nth_in 0 rs p k j d h (omega arith) (λ t lt le. omega (arith, above t lt le)) (omega arith) in
    let range = range_at least greatest rs p d s.normal s.ends h in
    let large = size_of_some (get_or rs p d) range.1 in
    record {
      small = omega (arith, ints, range.2, large, found.0);
      is = found.1;
    }

-- where a number is, the list of starts can be searched
pub record IsSearchable (starts : List ℕ) (rs : List (ℤ × ℤ)) (k : ℕ) : Type 0 where
  pub some : 0 < length starts
  pub first : get_or starts 0 0 ≤ k
  pub ascends : (i j : ℕ) → i ≤ j → j < length starts → get_or starts i 0 ≤ get_or starts j 0
  pub same : length starts ≡ length rs

pub searchable : (rs : List (ℤ × ℤ)) (now before : List ℕ) (count k : ℕ) → now ≡ before → IsStored rs before count → k < count → IsSearchable now rs k
searchable rs now before count k e s lt = rw (e, s.before_is) (by rs (omega (arith, s.count_is)))
  where
    by : (rs : List (ℤ × ℤ)) → k < total 0 rs → IsSearchable (starts 0 rs) rs k
    by [] h = absurd (omega arith)
    by (r ∷ rs) h = record {
      some = omega arith;
      first = omega arith;
      ascends = λ i j le lt. starts_ascend 0 (r ∷ rs) i j le (omega (arith, lt, length-starts 0 (r ∷ rs)));
      same = length-starts 0 (r ∷ rs);
    }

pub nth_is : (rs : List (ℤ × ℤ)) (now before : List ℕ) (count p k : ℕ) (d : ℤ × ℤ) → now ≡ before → IsStored rs before count → k < count → p < length now → get_or now p 0 ≤ k → ((t : ℕ) → p < t → t < length now → k < get_or now t 0) → IsNumberAt rs k ((get_or rs p d).0 +ℤ pos (k - get_or now p 0))
nth_is rs now before count p k d same s low h reached above =
    let is = same ∙ s.before_is in
    let at : k ≡ get_or now p 0 + (k - get_or now p 0) = omega (arith, reached) in
    let start : get_or now p 0 ≡ get_or (starts 0 rs) p 0 = ap (λ (xs : List ℕ). get_or xs p 0) is in
    let later = subst (λ (xs : List ℕ). (t : ℕ) → p < t → t < length xs → k < get_or xs t 0) is above in
    let within : p < length (starts 0 rs) = subst (λ (xs : List ℕ). p < length xs) is h in
    nth_at rs p k (k - get_or now p 0) d s.normal (omega (arith, within, length-starts 0 rs)) (omega (arith, at, start)) (λ t lt le. later t lt (omega (arith, le, length-starts 0 rs))) (omega (arith, s.count_is))

-- what is true of a set is true of the one that a call answers
pub if_set : {E : Type 0} (r : Result (List (ℤ × ℤ)) E) (x : List (ℤ × ℤ)) (P : List (ℤ × ℤ) → Type 0) → IfOk r (λ set. set ≡ x) → P x → IfOk r P
if_set (Ok s) x P e p = subst P (sym e) p
if_set (Err e) x P h p = tt
