-- A tally in place of another.
use Rattle.std.proofs.Common.{◌≡◌, ℕ, zero, suc, ◌+◌, ◌<◌, List, [], ◌∷◌, ◌++◌, length, map, take, drop, get_or, refl, sym, ap, ◌∙◌, arith, length-append, ◌≤◌, Option, Some}
use Rattle.std.proofs.lemmas.List.{append-nil}
use Rattle.std.specs.Prelude.{slice_get, slice_set}
use Rattle.std.specs.Option.{option_map_or}
use Rattle.std.specs.Arc.{arc_value}
use Rattle.std.specs.declared.vec.Vec.{Vec}
use Rattle.std.specs.declared.alloc.Global.{Global}
use Rattle.indexmap.specs.IndexMap.{set_value_at}
use Rattle.tally.specs.declared.tally.Tally.{Tally}
use Rattle.cov_history.specs.History.{Test}
use Rattle.store_parts.specs.declared.held.Kept.{Kept}
use Rattle.store_parts.specs.Words.{test_of}

some_is : {A : Type 0} (x y : A) → ◌≡◌ {A = Option A} (Some x) (Some y) → x ≡ y
some_is x y e = ap (λ o. option_map_or (λ z. z) o x) e

pub same_tests : (es : List (Vec ℕ Global × Kept)) (i : ℕ) (k new : Kept) → slice_get (map (λ (e : Vec ℕ Global × Kept). e.1) es) i ≡ Some k → test_of new ≡ test_of k
    → map {B = List ℕ × Test} (λ (e : Vec ℕ Global × Kept). (e.0.items, test_of e.1)) (set_value_at es i new) ≡ map {B = List ℕ × Test} (λ (e : Vec ℕ Global × Kept). (e.0.items, test_of e.1)) es
same_tests [] i k new g s = refl
same_tests (e ∷ es) zero k new g s =
    let is : e.1 ≡ k = some_is e.1 k g in
    λ j. (e.0.items, (s ∙ ap test_of (sym is)) j) ∷ map {B = List ℕ × Test} (λ (x : Vec ℕ Global × Kept). (x.0.items, test_of x.1)) es
same_tests (e ∷ es) (suc i) k new g s = ap (λ (xs : List (List ℕ × Test)). (e.0.items, test_of e.1) ∷ xs) (same_tests es i k new g s)

pub set_there : (es : List (Vec ℕ Global × Kept)) (i : ℕ) (new : Kept) → map {B = Tally} (λ (e : Vec ℕ Global × Kept). arc_value e.1.tally) (set_value_at es i new) ≡ slice_set (map {B = Tally} (λ (e : Vec ℕ Global × Kept). arc_value e.1.tally) es) i (arc_value new.tally)
set_there [] i new = refl
set_there (e ∷ es) zero new = refl
set_there (e ∷ es) (suc i) new = ap (λ (xs : List Tally). arc_value e.1.tally ∷ xs) (set_there es i new)

-- one place further down
set_next : {A : Type 0} (old new : List A) (n : ℕ) (t : A) → length old ≡ length new → n < length new → t ≡ get_or new n t → slice_set (take (suc n) old ++ drop (suc n) new) n t ≡ take n old ++ drop n new
set_next [] [] n t same below e = absurd (omega (arith, below))
set_next [] (m ∷ ms) n t same below e = absurd (omega (arith, same))
set_next (o ∷ os) [] n t same below e = absurd (omega (arith, same))
set_next (o ∷ os) (m ∷ ms) zero t same below e = λ i. e i ∷ ms
set_next (o ∷ os) (m ∷ ms) (suc n) t same below e = ap (λ xs. o ∷ xs) (set_next os ms n t (omega (arith, same)) (omega (arith, below)) e)

-- so many of the new ones are to be put in place of old ones
pub record IsSetting {A : Type 0} (old new left now : List A) : Type 0 where
  pub same : length old ≡ length new
  pub rest : left ≡ take (length left) new
  pub short : length left ≤ length new
  pub now_is : now ≡ take (length left) old ++ drop (length left) new

take_whole : {A : Type 0} (xs : List A) → take (length xs) xs ≡ xs
take_whole [] = refl
take_whole (x ∷ xs) = ap (λ ys. x ∷ ys) (take_whole xs)

drop_whole : {A : Type 0} (xs : List A) (n : ℕ) → n ≡ length xs → drop n xs ≡ []
drop_whole xs n e = ap (λ m. drop m xs) e ∙ none xs
  where
    none : {A : Type 0} (ys : List A) → drop (length ys) ys ≡ []
    none [] = refl
    none (y ∷ ys) = none ys

pub set_none : {A : Type 0} (old new : List A) → length old ≡ length new → IsSetting old new new old
set_none old new same = record {
  same = same;
  rest = sym (take_whole new);
  short = omega arith;
  now_is = sym (ap (λ xs. take (length new) old ++ xs) (drop_whole new (length new) refl) ∙ append-nil (take (length new) old) ∙ ap (λ n. take n old) (sym same) ∙ take_whole old);
}

-- the last of a front stands at its place
front_last : {A : Type 0} (xs ys : List A) (x : A) (all : List A) → xs ++ x ∷ [] ≡ take (suc (length xs)) all → suc (length xs) ≤ length all → (x ≡ get_or all (length xs) x) × (xs ≡ take (length xs) all)
front_last [] ys x [] e short = absurd (omega (arith, short))
front_last [] ys x (a ∷ as_) e short = (head_is x a e, refl)
  where
    head_is : {A : Type 0} (u v : A) {us vs : List A} → u ∷ us ≡ v ∷ vs → u ≡ v
    head_is u v g = ap (λ l. get_or l 0 u) g
front_last (y ∷ xs) ys x [] e short = absurd (omega (arith, short))
front_last (y ∷ xs) ys x (a ∷ as_) e short =
    let rest = front_last xs ys x as_ (tail_is e) (omega (arith, short)) in
    (rest.0, λ i. get_or (e i) 0 y ∷ rest.1 i)
  where
    tail_is : {A : Type 0} {u v : A} {us vs : List A} → u ∷ us ≡ v ∷ vs → us ≡ vs
    tail_is g = ap (drop 1) g

pub set_one : {A : Type 0} (old new left more now : List A) (t : A) → IsSetting old new left now → left ≡ more ++ t ∷ [] → IsSetting old new more (slice_set now (length more) t)
set_one old new left more now t s e =
    let n : length left ≡ suc (length more) = ap length e ∙ (let l = length-append more (t ∷ []) in omega (arith, l)) in
    let there = front_last more [] t new (sym e ∙ s.rest ∙ ap (λ m. take m new) n) (omega (arith, s.short, n)) in
    record {
      same = s.same;
      rest = there.1;
      short = omega (arith, s.short, n);
      now_is = ap (λ xs. slice_set xs (length more) t) (s.now_is ∙ ap (λ m. take m old ++ drop m new) n) ∙ set_next old new (length more) t s.same (omega (arith, s.short, n)) there.0;
    }

pub set_all : {A : Type 0} (old new left now : List A) → IsSetting old new left now → left ≡ [] → now ≡ new
set_all old new left now s e = s.now_is ∙ ap (λ xs. take (length xs) old ++ drop (length xs) new) e
