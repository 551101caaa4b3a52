-- Runs of bins of one parent, and how many marks are set in each.
use Rattle.std.proofs.Common.{◌≡◌, ◌≢◌, ℕ, zero, suc, ◌+◌, ◌-◌, ◌<◌, ◌≤◌, Bool, true, false, cond, List, [], ◌∷◌, ◌++◌, length, replicate, refl, sym, ap, subst, ◌∙◌, arith, inl, inr}
use Rattle.std.specs.Prelude.{slice_index, slice_index_or, slice_set, ◌==◌}
use Rattle.std.proofs.Math.ListN.{get_or-append}
use Rattle.std.proofs.Math.Seq.{get_or-append_seam}
use Rattle.std.proofs.lemmas.Bool.{eqb-true, cases_lt, cases_eq}
use Rattle.std.proofs.lemmas.List.{length-replicate, get_or-replicate, get_or-set_same, get_or-set_other, length-set, length_push}
use Rattle.cov_history.proofs.Bools.{by_bool}
use Rattle.store_sums.specs.Runs.{marks_in, begin_of, HasRuns, HasNumbers, renumbered}

-- ---- where a run begins

pub low : (parents : List ℕ) (j : ℕ) → begin_of parents j ≤ j
low parents zero = omega arith
low parents (suc j) =
    let before = low parents j in
    by_bool (slice_index parents (suc j) == slice_index parents j) (λ k. rw k (omega (arith, before))) (λ k. rw k (omega arith))

pub between : (parents : List ℕ) (j i : ℕ) → begin_of parents j ≤ i → i ≤ j → begin_of parents i ≡ begin_of parents j
between parents zero i after upto = let e : i ≡ 0 = omega (arith, upto) in ap (begin_of parents) e
between parents (suc j) i after upto =
    elim (cases_lt i (suc j)) [
      | inr past ↦ let e : i ≡ suc j = omega (arith, past, upto) in ap (begin_of parents) e
      | inl less ↦
          by_bool (slice_index parents (suc j) == slice_index parents j)
          (λ k. let s : begin_of parents (suc j) ≡ begin_of parents j = rw k refl in between parents j i (omega (arith, s, after)) (omega (arith, less)) ∙ sym s)
          (λ k. let s : begin_of parents (suc j) ≡ suc j = rw k refl in absurd (omega (arith, s, after, less)))
    ]

pub alike : (parents : List ℕ) (j i : ℕ) → begin_of parents j ≤ i → i ≤ j → slice_index parents i ≡ slice_index parents j
alike parents zero i after upto = let e : i ≡ 0 = omega (arith, upto) in ap (slice_index parents) e
alike parents (suc j) i after upto =
    elim (cases_lt i (suc j)) [
      | inr past ↦ let e : i ≡ suc j = omega (arith, past, upto) in ap (slice_index parents) e
      | inl less ↦
          by_bool (slice_index parents (suc j) == slice_index parents j)
          (λ k. let s : begin_of parents (suc j) ≡ begin_of parents j = rw k refl in alike parents j i (omega (arith, s, after)) (omega (arith, less)) ∙ sym (eqb-true (slice_index parents (suc j)) (slice_index parents j) k))
          (λ k. let s : begin_of parents (suc j) ≡ suc j = rw k refl in absurd (omega (arith, s, after, less)))
    ]

pub none_yet : (parents : List ℕ) → HasRuns parents 0 [] (replicate (length parents) 0)
none_yet parents = record {
  begins_len = refl;
  ends_len = length-replicate (length parents) 0;
  begin = λ place less. absurd (omega (arith, less));
  before = λ place less. absurd (omega (arith, less));
  within = λ first less is. absurd (omega (arith, less));
  last = λ first less is. absurd (omega (arith, less));
}

pub runs_more : (parents begins ends : List ℕ) (i begin : ℕ) → HasRuns parents i begins ends → i < length parents → begin ≡ begin_of parents i → HasRuns parents (i + 1) (begins ++ begin ∷ []) (slice_set ends begin (i + 1))
runs_more parents begins ends i begin h inside is =
    let small = low parents i in
    let there : begin < length ends = omega (arith, small, is, inside, h.ends_len) in
    let len = length_push begins begin in
    record {
      begins_len = omega (arith, len, h.begins_len);
      ends_len = length-set ends begin (i + 1) ∙ h.ends_len;
      begin = λ place less. elim (cases_lt place i) [
        | inl below ↦ get_or-append begins (begin ∷ []) 0 place (omega (arith, below, h.begins_len)) ∙ h.begin place below
        | inr past ↦
            let e : length begins ≡ place = omega (arith, past, less, h.begins_len) in
            let f : i ≡ place = omega (arith, past, less) in
            ap (slice_index (begins ++ begin ∷ [])) (sym e) ∙ get_or-append_seam begins begin [] 0 ∙ is ∙ ap (begin_of parents) f
      ];
      before = λ place less. elim (cases_eq (begin_of parents place) begin) [
        | inl same ↦
            let at : slice_index (slice_set ends begin (i + 1)) (begin_of parents place) ≡ i + 1 = ap (slice_index (slice_set ends begin (i + 1))) same ∙ get_or-set_same ends begin (i + 1) 0 there in
            omega (arith, at, less)
        | inr other ↦
            let at : slice_index (slice_set ends begin (i + 1)) (begin_of parents place) ≡ slice_index ends (begin_of parents place) = get_or-set_other ends begin (begin_of parents place) (i + 1) 0 other in
            let below : place < i = elim (cases_lt place i) [
              | inl lower ↦ lower
              | inr past ↦ let f : place ≡ i = omega (arith, past, less) in absurd (other (ap (begin_of parents) f ∙ sym is))
            ] in
            let old = h.before place below in
            omega (arith, at, old)
      ];
      within = λ first less own. elim (cases_eq first begin) [
        | inl same ↦
            let at : slice_index (slice_set ends begin (i + 1)) first ≡ i + 1 = ap (slice_index (slice_set ends begin (i + 1))) same ∙ get_or-set_same ends begin (i + 1) 0 there in
            omega (arith, at)
        | inr other ↦
            let at : slice_index (slice_set ends begin (i + 1)) first ≡ slice_index ends first = get_or-set_other ends begin first (i + 1) 0 other in
            let below : first < i = elim (cases_lt first i) [
              | inl lower ↦ lower
              | inr past ↦ let f : first ≡ i = omega (arith, past, less) in absurd (other (sym own ∙ ap (begin_of parents) f ∙ sym is))
            ] in
            let old = h.within first below own in
            omega (arith, at, old)
      ];
      last = λ first less own. elim (cases_eq first begin) [
        | inl same ↦
            let at : slice_index (slice_set ends begin (i + 1)) first ≡ i + 1 = ap (slice_index (slice_set ends begin (i + 1))) same ∙ get_or-set_same ends begin (i + 1) 0 there in
            let e : slice_index (slice_set ends begin (i + 1)) first - 1 ≡ i = omega (arith, at) in
            ap (begin_of parents) e ∙ sym is ∙ sym same
        | inr other ↦
            let at : slice_index (slice_set ends begin (i + 1)) first ≡ slice_index ends first = get_or-set_other ends begin first (i + 1) 0 other in
            let below : first < i = elim (cases_lt first i) [
              | inl lower ↦ lower
              | inr past ↦ let f : first ≡ i = omega (arith, past, less) in absurd (other (sym own ∙ ap (begin_of parents) f ∙ sym is))
            ] in
            ap (λ (n : ℕ). begin_of parents (n - 1)) at ∙ h.last first below own
      ];
    }

pub next_runs : (parents begins ends : List ℕ) (i begin : ℕ) (more later : List ℕ) → HasRuns parents i begins ends → i < length parents → begin ≡ begin_of parents i → more ≡ begins ++ begin ∷ [] → later ≡ slice_set ends begin (length begins + 1) → HasRuns parents (i + 1) more later
next_runs parents begins ends i begin more later h inside is m l =
    let end : length begins + 1 ≡ i + 1 = omega (arith, h.begins_len) in
    subst (λ (xs : List ℕ). HasRuns parents (i + 1) xs later) (sym m) (subst (λ (xs : List ℕ). HasRuns parents (i + 1) (begins ++ begin ∷ []) xs) (sym (l ∙ ap (slice_set ends begin) end)) (runs_more parents begins ends i begin h inside is))

-- ---- marks

pub none_set : (n first many : ℕ) → marks_in (replicate n false) first many ≡ 0
none_set n first zero = refl
none_set n first (suc many) =
    let rest = none_set n (first + 1) many in
    let here : slice_index_or (replicate n false) first false ≡ false = no_mark n first in
    rw here (omega (arith, rest))
  where
    no_mark : (n i : ℕ) → slice_index_or (replicate n false) i false ≡ false
    no_mark zero i = refl
    no_mark (suc n) zero = refl
    no_mark (suc n) (suc i) = no_mark n i

pub most : (marks : List Bool) (first many : ℕ) → marks_in marks first many ≤ many
most marks first zero = omega arith
most marks first (suc many) =
    let rest = most marks (first + 1) many in
    by_bool (slice_index_or marks first false) (λ k. rw k (omega (arith, rest))) (λ k. rw k (omega (arith, rest)))

-- a mark that isn't among them
pub outside : (marks : List Bool) (k first many : ℕ) (mark : Bool) → ((j : ℕ) → first ≤ j → j < first + many → j ≢ k) → marks_in (slice_set marks k mark) first many ≡ marks_in marks first many
outside marks k first zero mark other = refl
outside marks k first (suc many) mark other =
    let rest = outside marks k (first + 1) many mark (λ j low high. other j (omega (arith, low)) (omega (arith, high))) in
    let here : slice_index_or (slice_set marks k mark) first false ≡ slice_index_or marks first false = get_or-set_other marks k first mark false (other first (omega arith) (omega arith)) in
    λ i. cond (here i) 1 0 + rest i

-- a mark among them
pub among : (marks : List Bool) (k first many : ℕ) (mark : Bool) → k < length marks → first ≤ k → k < first + many
    → marks_in (slice_set marks k mark) first many + cond (slice_index_or marks k false) 1 0 ≡ marks_in marks first many + cond mark 1 0
among marks k first zero mark inside low high = absurd (omega (arith, low, high))
among marks k first (suc many) mark inside low high =
    elim (cases_eq first k) [
      | inl same ↦
          let rest = outside marks k (first + 1) many mark (λ j after upto e. omega (arith, after, e, same)) in
          let here : slice_index_or (slice_set marks k mark) first false ≡ mark = ap (λ (n : ℕ). slice_index_or (slice_set marks k mark) n false) same ∙ get_or-set_same marks k mark false inside in
          let there : ◌≡◌ {A = ℕ} (cond (slice_index_or marks first false) 1 0) (cond (slice_index_or marks k false) 1 0) = ap (λ (n : ℕ). cond (slice_index_or marks n false) 1 0) same in
          let new : ◌≡◌ {A = ℕ} (cond (slice_index_or (slice_set marks k mark) first false) 1 0) (cond mark 1 0) = ap (λ (b : Bool). cond b 1 0) here in
          omega (arith, rest, there, new)
      | inr other ↦
          let rest = among marks k (first + 1) many mark inside (omega (arith, low, other)) (omega (arith, high)) in
          let here : ◌≡◌ {A = ℕ} (cond (slice_index_or (slice_set marks k mark) first false) 1 0) (cond (slice_index_or marks first false) 1 0) = ap (λ (b : Bool). cond b 1 0) (get_or-set_other marks k first mark false other) in
          omega (arith, rest, here)
    ]

-- ---- numbers

pub numbers_as : {begins ends numbers others : List ℕ} {marks rest : List Bool} → HasNumbers begins ends marks numbers → rest ≡ marks → others ≡ numbers → HasNumbers begins ends rest others
numbers_as {begins} {ends} {numbers} {others} {marks} {rest} h m n = subst (λ (ms : List Bool). HasNumbers begins ends ms others) (sym m) (subst (λ (ns : List ℕ). HasNumbers begins ends marks ns) (sym n) h)

pub read_is : (xs : List ℕ) (i r : ℕ) → i < length xs → r ≡ slice_index_or xs i r → r ≡ slice_index xs i
read_is [] i r inside e = absurd (omega (arith, inside))
read_is (x ∷ xs) zero r inside e = e
read_is (x ∷ xs) (suc i) r inside e = read_is xs i r (omega (arith, inside)) e

module _ (parents begins ends : List ℕ) (runs : HasRuns parents (length parents) begins ends) where
  -- a run has the place exactly where it is the place's own
  own_run : (first j : ℕ) → first < length parents → slice_index begins first ≡ first → first ≤ j → j < slice_index ends first → begin_of parents j ≡ first
  own_run first j inside is low_j high_j =
      let own : begin_of parents first ≡ first = sym (runs.begin first inside) ∙ is in
      let last = runs.last first inside own in
      let upto : j ≤ slice_index ends first - 1 = omega (arith, high_j) in
      let from : begin_of parents (slice_index ends first - 1) ≤ j = omega (arith, last, low_j) in
      between parents (slice_index ends first - 1) j from upto ∙ last

  begin_first : (j : ℕ) → begin_of parents (begin_of parents j) ≡ begin_of parents j
  begin_first j = between parents j (begin_of parents j) (omega arith) (low parents j)

  pub first_inside : (k : ℕ) → k < length parents → slice_index begins k < length parents
  first_inside k inside = let a = runs.begin k inside in let b = low parents k in omega (arith, a, b, inside)

  own_first : (k : ℕ) → k < length parents → slice_index begins (slice_index begins k) ≡ slice_index begins k
  own_first k inside =
      let a = runs.begin k inside in
      runs.begin (slice_index begins k) (first_inside k inside) ∙ ap (begin_of parents) a ∙ begin_first k ∙ sym a

  -- the number of a bin's run, in which the bin is
  number_of : (marks : List Bool) (numbers : List ℕ) (k : ℕ) → HasNumbers begins ends marks numbers → k < length parents
      → (first many : ℕ) × (slice_index numbers (slice_index begins k) ≡ marks_in marks first many) × (first ≤ k) × (k < first + many) × (first + many ≤ length parents)
  number_of marks numbers k h inside =
      let b = slice_index begins k in
      let begin = runs.begin k inside in
      let small = low parents k in
      let there = first_inside k inside in
      let own = own_first k inside in
      let before : k < slice_index ends b = subst (λ (n : ℕ). k < slice_index ends n) (sym begin) (runs.before k inside) in
      let within = runs.within b there (sym (runs.begin b there) ∙ own) in
      (b, slice_index ends b - b, h.at b (omega (arith, there, runs.begins_len)) own, omega (arith, begin, small), omega (arith, before, begin, small), omega (arith, before, within, begin, small))

  -- a number whose mark isn't set has room for one more
  pub room : (marks : List Bool) (numbers : List ℕ) (k : ℕ) → HasNumbers begins ends marks numbers → k < length parents → slice_index_or marks k false ≡ false → slice_index numbers (slice_index begins k) + 1 ≤ length parents
  room marks numbers k h inside unset =
      let n = number_of marks numbers k h inside in
      let a = among marks k n.0 n.1 true (omega (arith, inside, h.marks_len, runs.begins_len)) n.3 n.4 in
      let was : ◌≡◌ {A = ℕ} (cond (slice_index_or marks k false) 1 0) 0 = ap (λ (b : Bool). cond b 1 0) unset in
      let m = most (slice_set marks k true) n.0 n.1 in
      omega (arith, a, was, m, n.2, n.5)

  -- and one whose mark is set is above 0
  pub some : (marks : List Bool) (numbers : List ℕ) (k : ℕ) → HasNumbers begins ends marks numbers → k < length parents → slice_index_or marks k false ≡ true → 0 < slice_index numbers (slice_index begins k)
  some marks numbers k h inside set =
      let n = number_of marks numbers k h inside in
      let a = among marks k n.0 n.1 false (omega (arith, inside, h.marks_len, runs.begins_len)) n.3 n.4 in
      let was : ◌≡◌ {A = ℕ} (cond (slice_index_or marks k false) 1 0) 1 = ap (λ (b : Bool). cond b 1 0) set in
      omega (arith, a, was, n.2)

  -- the bins of a run are right below one node
  pub alike_in : (first j : ℕ) → first < length parents → slice_index begins first ≡ first → first ≤ j → j < slice_index ends first → slice_index parents j ≡ slice_index parents first
  alike_in first j inside is from upto =
      let own = own_run first j inside is from upto in
      sym (alike parents j first (omega (arith, own)) from)

  pub numbered : (marks : List Bool) (numbers : List ℕ) (k : ℕ) (mark : Bool) → HasNumbers begins ends marks numbers → k < length parents
      → HasNumbers begins ends (slice_set marks k mark) (renumbered (slice_index_or marks k false) mark (slice_index begins k) numbers)
  numbered marks numbers k mark h inside =
      let b = slice_index begins k in
      let begin : b ≡ begin_of parents k = runs.begin k inside in
      let small = low parents k in
      record {
        marks_len = length-set marks k mark ∙ h.marks_len;
        numbers_len = len (slice_index_or marks k false) mark ∙ h.numbers_len;
        at = λ first less is.
            let there : first < length parents = omega (arith, less, runs.begins_len) in
            elim (cases_eq first b) [
              | inl same ↦
                  let before : k < slice_index ends first = subst (λ (n : ℕ). k < slice_index ends n) (sym (same ∙ begin)) (runs.before k inside) in
                  let high : k < first + (slice_index ends first - first) = omega (arith, before, same, begin, small) in
                  let a = among marks k first (slice_index ends first - first) mark (omega (arith, inside, h.marks_len, runs.begins_len)) (omega (arith, same, begin, small)) high in
                  changed (slice_index_or marks k false) mark first same (omega (arith, less, h.numbers_len)) (h.at first less is) a
              | inr other ↦
                  unchanged (slice_index_or marks k false) mark first other ∙ h.at first less is
                  ∙ sym (outside marks k first (slice_index ends first - first) mark (λ j from upto e.
                  other (sym (own_run first j there is from (omega (arith, upto, from))) ∙ ap (begin_of parents) e ∙ sym begin)))
            ];
      }
    where
      len : (was mark : Bool) → length (renumbered was mark (slice_index begins k) numbers) ≡ length numbers
      len true true = refl
      len true false = length-set numbers (slice_index begins k) (slice_index numbers (slice_index begins k) - 1)
      len false true = length-set numbers (slice_index begins k) (slice_index numbers (slice_index begins k) + 1)
      len false false = refl

      unchanged : (was mark : Bool) (first : ℕ) → first ≢ slice_index begins k → slice_index (renumbered was mark (slice_index begins k) numbers) first ≡ slice_index numbers first
      unchanged true true first other = refl
      unchanged true false first other = get_or-set_other numbers (slice_index begins k) first (slice_index numbers (slice_index begins k) - 1) 0 other
      unchanged false true first other = get_or-set_other numbers (slice_index begins k) first (slice_index numbers (slice_index begins k) + 1) 0 other
      unchanged false false first other = refl

      changed : (was mark : Bool) (first : ℕ) {new old : ℕ} → first ≡ slice_index begins k → first < length numbers → slice_index numbers first ≡ old → new + cond was 1 0 ≡ old + cond mark 1 0 → slice_index (renumbered was mark (slice_index begins k) numbers) first ≡ new
      changed true true first same inside e a = omega (arith, e, a)
      changed true false first same inside e a =
          let b = slice_index begins k in
          let v : slice_index numbers b ≡ slice_index numbers first = ap (slice_index numbers) (sym same) in
          let s = get_or-set_same numbers b (slice_index numbers b - 1) 0 (omega (arith, same, inside)) in
          ap (slice_index (slice_set numbers b (slice_index numbers b - 1))) same ∙ s ∙ omega (arith, v, e, a)
      changed false true first same inside e a =
          let b = slice_index begins k in
          let v : slice_index numbers b ≡ slice_index numbers first = ap (slice_index numbers) (sym same) in
          let s = get_or-set_same numbers b (slice_index numbers b + 1) 0 (omega (arith, same, inside)) in
          ap (slice_index (slice_set numbers b (slice_index numbers b + 1))) same ∙ s ∙ omega (arith, v, e, a)
      changed false false first same inside e a = omega (arith, e, a)

pub none_numbered : (parents begins ends : List ℕ) → HasRuns parents (length parents) begins ends → HasNumbers begins ends (replicate (length parents) false) (replicate (length parents) 0)
none_numbered parents begins ends runs = record {
  marks_len = length-replicate (length parents) false ∙ sym runs.begins_len;
  numbers_len = length-replicate (length parents) 0 ∙ sym runs.begins_len;
  at = λ first less is. get_or-replicate (length parents) first 0 0 (omega (arith, less, runs.begins_len)) ∙ sym (none_set (length parents) first (slice_index ends first - first));
}
