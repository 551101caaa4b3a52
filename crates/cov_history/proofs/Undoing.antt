-- An Include undoes the Exclude before it.
use Rattle.std.proofs.Common.{◌≡◌, ℕ, ◌+◌, ◌≤◌, Bool, true, false, ◌&&◌, ◌||◌, not, cond, List, [], ◌∷◌, ◌++◌, length, map, refl, sym, ap, subst, ◌∙◌, arith, true≢false, is_some, is_none, append_assoc, add-zero, Option, Some, None, nat_eq, eq-eqb}
use Rattle.std.specs.Prelude.{filter, count_by, sum_by, find, bytes_eq}
use Rattle.std.specs.List.{list_any, list_all}
use Rattle.std.proofs.lemmas.List.{length-map, append-nil}
use Rattle.std.proofs.lemmas.List.Sums.{sum_by_push}
use Rattle.std.proofs.lemmas.List.Folds.{list_any-append}
use Rattle.design_data.specs.declared.design.Design.{Design}
use Rattle.record_codec.specs.declared.record.Record.{Record}
use Rattle.ucis_model.specs.declared.answers.Which.{Which}
use Rattle.ucis_model.specs.declared.answers.Which.TheVariants.{Tests, Bytes, Entries, History}
use Rattle.cov_history.specs.declared.entry.Event.{Event}
use Rattle.cov_history.specs.declared.entry.Event.TheVariants.{Admit, Exclude, Include, Revise, Stop}
use Rattle.cov_history.specs.declared.entry.Entry.{Entry}
use Rattle.cov_history.specs.Tables.{fits}
use Rattle.cov_history.specs.History.{Test, design_of, design_after, tests_of, out_of, out_after, has, without, is_found, has_stop, is_stop, bytes_in, bins_hit, amount, most, passed, suits, may_follow, is_legal, legal_from, kept, contents}
use Rattle.cov_history.specs.Steps.{admitted}
use Rattle.cov_history.specs.Answers.{by}
use Rattle.cov_history.specs.Laws.{spares, excluded_for, IncludeUndoes}
use Rattle.cov_history.proofs.Bools.{by_bool, and_left, and_right, both, not_true, or_false, and_assoc}
use Rattle.cov_history.proofs.Snoc.{design_snoc, contents_snoc, out_snoc, stop_snoc}
use Rattle.cov_history.proofs.Legal.{none_passed, within_of, same_bytes, suits_of, free_of}
use Rattle.cov_history.proofs.Filters.{filter_append, filter_swap, count_kept, any_kept, any_lost, any_part, filter_all, length_without, count_none}
use Rattle.cov_history.proofs.Alike.{same_answer, rows_alike}

find_contents : (p : Record → Bool) (ts : List Test) → is_some (find (λ (t : Test). p t.content) ts) ≡ list_any p (map (λ (t : Test). t.content) ts)
find_contents p [] = refl
find_contents p (t ∷ ts) = let rest = find_contents p ts in by_bool (p t.content) (λ k. rw k refl) (λ k. rw k rest)

none_some : {A : Type 0} (o q : Option A) → is_some o ≡ is_some q → is_none o ≡ is_none q
none_some o q e = flip o ∙ ap not e ∙ sym (flip q)
  where
    flip : {A : Type 0} (o : Option A) → is_none o ≡ not (is_some o)
    flip None = refl
    flip (Some x) = refl

pub itself : (path : List ℕ) → bytes_eq path path ≡ true
itself [] = refl
itself (x ∷ xs) = both (nat_eq x x) (bytes_eq xs xs) (eq-eqb x x refl) (itself xs)

-- the first history is the second with an Exclude of the path in it
record IsWith (opening : Design) (path : List ℕ) (a b : List Entry) : Type 0 where
  design : design_of opening a ≡ design_of opening b
  tests : contents a ≡ contents b
  out : without path (out_of a) ≡ out_of b
  once : count_by (λ p. bytes_eq p path) (out_of a) ≡ 1
  bytes : amount opening a Bytes ≡ amount opening b Bytes
  steps : count_by (λ e. not (is_stop e.event)) a ≡ count_by (λ e. not (is_stop e.event)) b + 1
  stops : has_stop a ≡ has_stop b

module _ (opening : Design) (path : List ℕ) where
  -- the amounts of the second are no greater
  amounts_less : (a b : List Entry) → IsWith opening path a b → ((which : Which) → amount opening a which ≤ most which) → (which : Which) → amount opening b which ≤ most which
  amounts_less a b w within Tests =
      let l = sym (length-map (tests_of a) (λ (t : Test). t.content)) ∙ ap (λ (rs : List Record). length rs) w.tests ∙ length-map (tests_of b) (λ (t : Test). t.content) in
      omega (arith, l, within Tests)
  amounts_less a b w within Bytes = omega (arith, w.bytes, within Bytes)
  amounts_less a b w within Entries =
      let l : amount opening a Entries ≡ amount opening b Entries = λ i. sum_by (bins_hit (w.design i)) (w.tests i) in
      omega (arith, l, within Entries)
  amounts_less a b w within History =
      let l = length_without (λ p. bytes_eq p path) (out_of a) in
      let o = ap (λ (ps : List (List ℕ)). length ps) w.out in
      omega (arith, l, o, w.once, w.steps, within History)

  apart : (p q : List ℕ) → bytes_eq q p ≡ true → bytes_eq p path ≡ false → bytes_eq q path ≡ false
  apart p q e other = ap (λ (x : List ℕ). bytes_eq x path) (same_bytes q p e) ∙ other

  -- another path is out of both or of neither
  has_other : (ps : List (List ℕ)) (p : List ℕ) → bytes_eq p path ≡ false → has p (without path ps) ≡ has p ps
  has_other ps p other = any_kept (λ q. bytes_eq q p) (λ q. not (bytes_eq q path)) (λ q e. ap not (apart p q e other)) ps

  -- what the first allows the second allows
  suits_too : (a b : List Entry) → IsWith opening path a b → (e : Event) → spares path e ≡ true → suits opening a e ≡ true → suits opening b e ≡ true
  suits_too a b w (Admit r) s h =
      let k : is_some (kept b r.id) ≡ is_some (kept a r.id) = find_contents (λ (x : Record). bytes_eq r.id x.id) (tests_of b) ∙ ap (list_any (λ (x : Record). bytes_eq r.id x.id)) (sym w.tests) ∙ sym (find_contents (λ (x : Record). bytes_eq r.id x.id) (tests_of a)) in
      let n = none_some (kept b r.id) (kept a r.id) k in
      let f : fits (design_of opening b) r ≡ fits (design_of opening a) r = ap (λ (d : Design). fits d r) (sym w.design) in
      (λ i. n i && f i) ∙ h
  suits_too a b w (Exclude p) s h =
      let k : has p (out_of b) ≡ has p (out_of a) = ap (has p) (sym w.out) ∙ has_other (out_of a) p (not_true (bytes_eq p path) s) in
      let f : is_found (design_of opening b) p ≡ is_found (design_of opening a) p = ap (λ (d : Design). is_found d p) (sym w.design) in
      (λ i. f i && not (k i)) ∙ h
  suits_too a b w (Include p) s h =
      let k : has p (out_of b) ≡ has p (out_of a) = ap (has p) (sym w.out) ∙ has_other (out_of a) p (not_true (bytes_eq p path) s) in
      k ∙ h
  suits_too a b w (Revise revision) s h = h
  suits_too a b w Stop s h = refl

  -- it is out before a change that spares it and after which it is out
  out_before : (ps : List (List ℕ)) (e : Event) → spares path e ≡ true → has path (out_after ps e) ≡ true → has path ps ≡ true
  out_before ps (Admit r) s h = h
  out_before ps (Exclude p) s h =
      let k : has path (ps ++ p ∷ []) ≡ has path ps = list_any-append (λ q. bytes_eq q path) ps (p ∷ []) ∙ ap (λ b. has path ps || (b || false)) (not_true (bytes_eq p path) s) ∙ or_false (has path ps) in
      sym k ∙ h
  out_before ps (Include p) s h = any_part (λ q. bytes_eq q path) (λ q. not (bytes_eq q p)) ps h
  out_before ps (Revise revision) s h = any_part (λ q. bytes_eq q path) (is_found revision.design) ps h
  out_before ps Stop s h = h

  out_with : (pa pb : List (List ℕ)) (e : Event) → without path pa ≡ pb → spares path e ≡ true → without path (out_after pa e) ≡ out_after pb e
  out_with pa pb (Admit r) w s = w
  out_with pa pb (Exclude p) w s = filter_append (λ q. not (bytes_eq q path)) pa (p ∷ []) ∙ rw s (ap (λ ps. ps ++ p ∷ []) w)
  out_with pa pb (Include p) w s = filter_swap (λ q. not (bytes_eq q path)) (λ q. not (bytes_eq q p)) pa ∙ ap (without p) w
  out_with pa pb (Revise revision) w s = filter_swap (λ q. not (bytes_eq q path)) (is_found revision.design) pa ∙ ap (filter (is_found revision.design)) w
  out_with pa pb Stop w s = w

  once_with : (ps : List (List ℕ)) (e : Event) → spares path e ≡ true → has path (out_after ps e) ≡ true → count_by (λ p. bytes_eq p path) (out_after ps e) ≡ count_by (λ p. bytes_eq p path) ps
  once_with ps (Admit r) s h = refl
  once_with ps (Exclude p) s h =
      let c = sum_by_push (λ (x : List ℕ). cond (bytes_eq x path) 1 0) ps p in
      let z : ◌≡◌ {A = ℕ} (cond (bytes_eq p path) 1 0) 0 = rw (not_true (bytes_eq p path) s) refl in
      omega (arith, c, z)
  once_with ps (Include p) s h = count_kept (λ q. bytes_eq q path) (λ q. not (bytes_eq q p)) (λ q e. ap not (by_bool (bytes_eq q p) (λ k. absurd (true≢false (sym e ∙ apart p q k (not_true (bytes_eq p path) s)))) (λ k. k))) ps
  once_with ps (Revise revision) s h =
      let keep : is_found revision.design path ≡ true = by_bool (is_found revision.design path) (λ k. k) (λ k. absurd (true≢false (sym h ∙ any_lost (λ q. bytes_eq q path) (is_found revision.design) (λ q e. ap (is_found revision.design) (same_bytes q path e) ∙ k) ps))) in
      count_kept (λ q. bytes_eq q path) (is_found revision.design) (λ q e. ap (is_found revision.design) (same_bytes q path e) ∙ keep) ps
  once_with ps Stop s h = refl

  with_more : (a b : List Entry) (e : Entry) → IsWith opening path a b → spares path e.event ≡ true → has path (out_of (a ++ e ∷ [])) ≡ true → IsWith opening path (a ++ e ∷ []) (b ++ e ∷ [])
  with_more a b e w s h =
      let oa = out_snoc a e in
      let ob = out_snoc b e in
      let ca = sum_by_push (λ (x : Entry). cond (not (is_stop x.event)) 1 0) a e in
      let cb = sum_by_push (λ (x : Entry). cond (not (is_stop x.event)) 1 0) b e in
      record {
        design = design_snoc opening a e ∙ ap (λ (d : Design). design_after d e.event) w.design ∙ sym (design_snoc opening b e);
        tests = contents_snoc a e ∙ ap (λ rs. rs ++ admitted e.event) w.tests ∙ sym (contents_snoc b e);
        out = ap (without path) oa ∙ out_with (out_of a) (out_of b) e.event w.out s ∙ sym ob;
        once = ap (count_by (λ p. bytes_eq p path)) oa ∙ once_with (out_of a) e.event s (sym (ap (has path) oa) ∙ h) ∙ w.once;
        bytes = sum_by_push (λ (x : Entry). bytes_in x.event) a e ∙ ap (λ n. n + bytes_in e.event) w.bytes ∙ sym (sum_by_push (λ (x : Entry). bytes_in x.event) b e);
        steps = omega (arith, ca, cb, w.steps);
        stops = stop_snoc a e ∙ ap (λ c. c || is_stop e.event) w.stops ∙ sym (stop_snoc b e);
      }

  follows_too : (a b : List Entry) (e : Entry) → IsWith opening path a b → spares path e.event ≡ true → has path (out_of (a ++ e ∷ [])) ≡ true → may_follow opening a e ≡ true → may_follow opening b e ≡ true
  follows_too a b e w s h m =
      let go = and_left (not (has_stop a)) (suits opening a e.event && is_none (passed opening (a ++ e ∷ []))) m in
      let fit = suits_of opening a e m in
      let within = within_of opening (a ++ e ∷ []) (free_of opening a e m) in
      let none = none_passed opening (b ++ e ∷ []) (amounts_less (a ++ e ∷ []) (b ++ e ∷ []) (with_more a b e w s h) within) in
      both (not (has_stop b)) (suits opening b e.event && is_none (passed opening (b ++ e ∷ []))) (ap not (sym w.stops) ∙ go)
      (both (suits opening b e.event) (is_none (passed opening (b ++ e ∷ []))) (suits_too a b w e.event s fit) (ap (λ (o : Option Which). is_none o) none))

abbrev back : ℕ → List ℕ → Entry
back caller path = by caller (Include path)

abbrev away : ℕ → List ℕ → Entry
away caller path = by caller (Exclude path)

-- it is out wherever an Include is yet to come
out_back : (opening : Design) (path : List ℕ) (b : ℕ) (es h : List Entry) → list_all (λ e. spares path e.event) es ≡ true → legal_from opening h (es ++ back b path ∷ []) ≡ true → has path (out_of h) ≡ true
out_back opening path b [] h s l = suits_of opening h (back b path) (and_left (may_follow opening h (back b path)) true l)
out_back opening path b (e ∷ es) h s l =
    let rest = out_back opening path b es (h ++ e ∷ []) (and_right (spares path e.event) (list_all (λ x. spares path x.event) es) s) (and_right (may_follow opening h e) (legal_from opening (h ++ e ∷ []) (es ++ back b path ∷ [])) l) in
    out_before opening path (out_of h) e.event (and_left (spares path e.event) (list_all (λ x. spares path x.event) es) s) (sym (ap (has path) (out_snoc h e)) ∙ rest)

undone : (opening : Design) (path : List ℕ) (b : ℕ) (es x y : List Entry) → IsWith opening path x y → list_all (λ e. spares path e.event) es ≡ true → legal_from opening x (es ++ back b path ∷ []) ≡ true → (legal_from opening y es ≡ true) × IsWith opening path (x ++ es) (y ++ es)
undone opening path b [] x y w s l = (refl, subst (λ z. IsWith opening path z (y ++ [])) (sym (append-nil x)) (subst (λ z. IsWith opening path x z) (sym (append-nil y)) w))
undone opening path b (e ∷ es) x y w s l =
    let m = and_left (may_follow opening x e) (legal_from opening (x ++ e ∷ []) (es ++ back b path ∷ [])) l in
    let after = and_right (may_follow opening x e) (legal_from opening (x ++ e ∷ []) (es ++ back b path ∷ [])) l in
    let one = and_left (spares path e.event) (list_all (λ z. spares path z.event) es) s in
    let others = and_right (spares path e.event) (list_all (λ z. spares path z.event) es) s in
    let there = out_back opening path b es (x ++ e ∷ []) others after in
    let rest = undone opening path b es (x ++ e ∷ []) (y ++ e ∷ []) (with_more opening path x y e w one there) others after in (
      both (may_follow opening y e) (legal_from opening (y ++ e ∷ []) es) (follows_too opening path x y e w one there m) rest.0,
      subst (λ z. IsWith opening path z (y ++ e ∷ es)) (append_assoc x (e ∷ []) es) (subst (λ z. IsWith opening path ((x ++ e ∷ []) ++ es) z) (append_assoc y (e ∷ []) es) rest.1),
    )

-- after the Exclude
begun : (opening : Design) (path : List ℕ) (a : ℕ) (h : List Entry) → has path (out_of h) ≡ false → IsWith opening path (h ++ away a path ∷ []) h
begun opening path a h none =
    let o = out_snoc h (away a path) in
    let same = itself path in
    let c = sum_by_push (λ (x : Entry). cond (not (is_stop x.event)) 1 0) h (away a path) in
    record {
      design = design_snoc opening h (away a path);
      tests = contents_snoc h (away a path) ∙ append-nil (contents h);
      out = ap (without path) o ∙ filter_append (λ q. not (bytes_eq q path)) (out_of h) (path ∷ []) ∙ rw same (append-nil (without path (out_of h)) ∙ filter_all (λ q. bytes_eq q path) (out_of h) none);
      once =
          let s = sum_by_push (λ (x : List ℕ). cond (bytes_eq x path) 1 0) (out_of h) path in
          let one : ◌≡◌ {A = ℕ} (cond (bytes_eq path path) 1 0) 1 = rw same refl in
          ap (count_by (λ p. bytes_eq p path)) o ∙ omega (arith, s, one, count_none (λ p. bytes_eq p path) (out_of h) none);
      bytes = sum_by_push (λ (x : Entry). bytes_in x.event) h (away a path) ∙ add-zero (amount opening h Bytes);
      steps = omega (arith, c);
      stops = stop_snoc h (away a path) ∙ or_false (has_stop h);
    }

pub legal_append : (d : Design) (before xs ys : List Entry) → legal_from d before (xs ++ ys) ≡ (legal_from d before xs && legal_from d (before ++ xs) ys)
legal_append d before [] ys = ap (λ b. legal_from d b ys) (sym (append-nil before))
legal_append d before (x ∷ xs) ys =
    ap (λ b. may_follow d before x && b) (legal_append d (before ++ x ∷ []) xs ys ∙ ap (λ b. legal_from d (before ++ x ∷ []) xs && legal_from d b ys) (append_assoc before (x ∷ []) xs))
    ∙ and_assoc (may_follow d before x) (legal_from d (before ++ x ∷ []) xs) (legal_from d (before ++ x ∷ xs) ys)

pub include_undoes : IncludeUndoes
include_undoes opening h es a b path s l =
    let split = sym (legal_append opening [] h (excluded_for a b path es)) ∙ l in
    let before = and_left (is_legal opening h) (legal_from opening h (excluded_for a b path es)) split in
    let rest = and_right (is_legal opening h) (legal_from opening h (excluded_for a b path es)) split in
    let m = and_left (may_follow opening h (away a path)) (legal_from opening (h ++ away a path ∷ []) (es ++ back b path ∷ [])) rest in
    let after = and_right (may_follow opening h (away a path)) (legal_from opening (h ++ away a path ∷ []) (es ++ back b path ∷ [])) rest in
    let none = not_true (has path (out_of h)) (and_right (is_found (design_of opening h) path) (not (has path (out_of h))) (suits_of opening h (away a path) m)) in
    let u = undone opening path b es (h ++ away a path ∷ []) h (begun opening path a h none) s after in
    let full = (h ++ away a path ∷ []) ++ es in
    let same : full ++ back b path ∷ [] ≡ h ++ excluded_for a b path es = append_assoc (h ++ away a path ∷ []) es (back b path ∷ []) ∙ append_assoc h (away a path ∷ []) (es ++ back b path ∷ []) in
    let design = ap (design_of opening) (sym same) ∙ design_snoc opening full (back b path) ∙ u.1.design in
    let tests = ap contents (sym same) ∙ contents_snoc full (back b path) ∙ append-nil (contents full) ∙ u.1.tests in
    let out = ap out_of (sym same) ∙ out_snoc full (back b path) ∙ u.1.out in
    record {
      legal = legal_append opening [] h es ∙ both (is_legal opening h) (legal_from opening h es) before u.0;
      tests = tests;
      rows = λ caller first. rows_alike opening (h ++ excluded_for a b path es) (h ++ es) tests caller first;
      answers = λ caller query q. same_answer opening (h ++ excluded_for a b path es) (h ++ es) design tests out caller caller query q;
    }
