-- An answer is New or Changed exactly where the entry may follow.
use Rattle.std.proofs.Common.{◌≡◌, ℕ, zero, suc, ◌+◌, ◌≤◌, Bool, true, false, ◌&&◌, ◌||◌, not, List, [], ◌∷◌, ◌++◌, length, refl, sym, ap, ◌∙◌, arith, true≢false, is_some, is_none, Option, Some, None, bytes_eq, nat_lt}
use Rattle.std.specs.Prelude.{take, drop, if◌then◌else◌}
use Rattle.std.specs.List.{list_any}
use Rattle.std.proofs.lemmas.List.{append-nil}
use Rattle.sha2.specs.Sha256.{sha256}
use Rattle.design_data.specs.declared.design.Design.{Design}
use Rattle.record_codec.specs.declared.record.Record.{Record}
use Rattle.record_codec.specs.Spelling.{spelling}
use Rattle.ucis_model.specs.declared.answers.Which.{Which}
use Rattle.ucis_model.specs.declared.answers.Which.TheVariants.{Tests, Bytes, Entries, History}
use Rattle.ucis_model.specs.declared.answers.Answer.{Answer}
use Rattle.ucis_model.specs.declared.answers.Answer.TheVariants as answers
use Rattle.ucis_model.specs.Nodes.{nodes_of}
use Rattle.ucis_model.specs.Paths.{find_in}
use Rattle.cov_history.specs.declared.entry.Event.{Event}
use Rattle.cov_history.specs.declared.entry.Event.TheVariants.{Admit, Exclude, Include, Revise, Stop}
use Rattle.cov_history.specs.declared.entry.Entry.{Entry}
use Rattle.cov_history.specs.declared.entry.Revision.{Revision}
use Rattle.cov_history.specs.declared.asks.Ask.TheVariants as ask
use Rattle.cov_history.specs.Tables.{fits, same_tables}
use Rattle.cov_history.specs.History.{Test, design_of, design_after, kept, out_of, has, without, is_found, is_revise, is_test_or_revise, has_stop, amount, most, passed, suits, may_follow, is_legal}
use Rattle.cov_history.specs.Answers.{at_node, unless_full, change, stands_since, admit_by, admit_at, exclude_at, include_at, revise_at, by, is_made, table, unless_stopped, answer_at}
use Rattle.cov_history.specs.Laws.{MadeWhereItMayFollow, StaysLegal}
use Rattle.cov_history.proofs.Bools.{by_bool, and_left, and_false, or_false, or_none, both}
use Rattle.cov_history.proofs.Snoc.{legal_snoc, test_count_snoc, bytes_snoc, entries_snoc, history_snoc}
use Rattle.cov_history.proofs.Legal.{none_passed, within_of, legal_within, all_found}
use Rattle.cov_history.proofs.Alike.{quiet_query}

-- ---- what is made

made_going : (h : List Entry) (x : Answer) → is_made (unless_stopped h x) ≡ (not (has_stop h) && is_made x)
made_going h x =
    by_bool (has_stop h)
    (λ stop. by_bool (is_made x) (λ m. rw (stop, m) refl) (λ m. rw (stop, m) m))
    (λ going. rw going refl)

made_change : (opening : Design) (before after : List Entry) (o : Option Which) (x : Answer) → is_made x ≡ true → is_made (unless_full opening before after o x) ≡ is_none o
made_change opening before after None x m = m
made_change opening before after (Some which) x m = refl

either_made : (b : Bool) (x y : Answer) → is_made x ≡ false → is_made (if b then x else y) ≡ (not b && is_made y)
either_made true x y m = m
either_made false x y m = refl

none_made : (b : Bool) (x y : Answer) → is_made x ≡ false → is_made y ≡ false → is_made (if b then x else y) ≡ false
none_made true x y m n = m
none_made false x y m n = n

-- ---- the design at a point

none_revised : (d : Design) (es : List Entry) → list_any (λ e. is_revise e.event) es ≡ false → design_of d es ≡ d
none_revised d [] none = refl
none_revised d (e ∷ es) none =
    let both = or_none (is_revise e.event) (list_any (λ x. is_revise x.event) es) none in
    ap (λ (x : Design). design_of x es) (unrevised d e.event both.0) ∙ none_revised d es both.1
  where
    unrevised : (d : Design) (e : Event) → is_revise e ≡ false → design_after d e ≡ d
    unrevised d (Revise revision) r = absurd (true≢false r)
    unrevised d (Admit r) none = refl
    unrevised d (Exclude path) none = refl
    unrevised d (Include path) none = refl
    unrevised d Stop none = refl

design_split : (d : Design) (h : List Entry) (n : ℕ) → design_of d h ≡ design_of (design_of d (take n h)) (drop n h)
design_split d [] zero = refl
design_split d [] (suc n) = refl
design_split d (x ∷ xs) zero = refl
design_split d (x ∷ xs) (suc n) = design_split (design_after d x.event) xs n

pub design_since : (opening : Design) (h : List Entry) (since : ℕ) → stands_since is_revise h since ≡ false → design_of opening h ≡ design_of opening (take since h)
design_since opening h since none = design_split opening h since ∙ none_revised (design_of opening (take since h)) (drop since h) none

-- ---- changes

module _ (opening : Design) (h : List Entry) (caller : ℕ) where
  abbrev free : Event → Bool
  free e = is_none (passed opening (h ++ by caller e ∷ []))

  changed : (e : Event) (x : Answer) → is_made x ≡ true → is_made (change opening h (by caller e) x) ≡ free e
  changed e x m = made_change opening h (h ++ by caller e ∷ []) (passed opening (h ++ by caller e ∷ [])) x m

  abbrev Follows : Event → Bool → Answer → Type 0
  Follows e moved x = (not (has_stop h) && is_made x) ≡ ((may_follow opening h (by caller e) || false) && not moved)

  -- it is refused, and the change doesn't suit
  unsuited : (e : Event) (moved : Bool) (x : Answer) → is_made x ≡ false → suits opening h e ≡ false → Follows e moved x
  unsuited e moved x m s = rw (m, s) (cases (has_stop h) moved)
    where
      cases : (stop moved : Bool) → (not stop && false) ≡ (((not stop && false) || false) && not moved)
      cases true moved = refl
      cases false moved = refl

  -- it suits, and is made where no limit is passed
  suited : (e : Event) (x : Answer) → is_made x ≡ free e → suits opening h e ≡ true → Follows e false x
  suited e x m s = rw (m, s) (cases (has_stop h) (free e))
    where
      cases : (stop free : Bool) → (not stop && free) ≡ (((not stop && free) || false) && true)
      cases true free = refl
      cases false true = refl
      cases false false = refl

  -- it moved on
  overtaken : (e : Event) (x : Answer) → is_made x ≡ false → Follows e true x
  overtaken e x m = rw m (and_false (not (has_stop h)) ∙ sym (and_false (may_follow opening h (by caller e) || false)))

  admits : (since : ℕ) (r : Record) → fits (design_of opening (take since h)) r ≡ true → Follows (Admit r) (stands_since is_revise h since) (admit_at opening h since (by caller (Admit r)) r)
  admits since r fit = cases (kept h r.id) refl (stands_since is_revise h since) refl
    where
      cases : (o : Option Test) → kept h r.id ≡ o → (moved : Bool) → stands_since is_revise h since ≡ moved → Follows (Admit r) moved (admit_by opening h since (by caller (Admit r)) r o)
      cases (Some t) k moved m =
          unsuited (Admit r) moved (admit_by opening h since (by caller (Admit r)) r (Some t)) (none_made (bytes_eq (spelling t.content) (spelling r)) (answers.Here t.point) (answers.IdTaken (sha256 (spelling t.content))) refl refl)
          (ap (λ (o : Option Test). is_none o && fits (design_of opening h) r) k)
      cases None k true m = overtaken (Admit r) (admit_by opening h since (by caller (Admit r)) r None) (either_made (stands_since is_revise h since) (answers.Moved since) (change opening h (by caller (Admit r)) answers.New) refl ∙ rw m refl)
      cases None k false m =
          suited (Admit r) (admit_by opening h since (by caller (Admit r)) r None)
          (either_made (stands_since is_revise h since) (answers.Moved since) (change opening h (by caller (Admit r)) answers.New) refl ∙ rw m (changed (Admit r) answers.New refl))
          (ap (λ (o : Option Test). is_none o && fits (design_of opening h) r) k ∙ ap (λ (d : Design). fits d r) (design_since opening h since m) ∙ fit)

  abbrev excluded : (path : List ℕ) → Option ℕ → Bool → Answer
  excluded path o there = at_node o (λ n. if there then answers.AlreadyExcluded else change opening h (by caller (Exclude path)) answers.Changed)

  excludes : (path : List ℕ) → Follows (Exclude path) false (exclude_at opening h (by caller (Exclude path)) path)
  excludes path = cases (find_in (nodes_of (design_of opening h)) path) refl (has path (out_of h)) refl
    where
      cases : (o : Option ℕ) → find_in (nodes_of (design_of opening h)) path ≡ o → (there : Bool) → has path (out_of h) ≡ there → Follows (Exclude path) false (excluded path o there)
      cases None f there t = unsuited (Exclude path) false answers.NoSuchPath refl (ap (λ (o : Option ℕ). is_some o && not (has path (out_of h))) f)
      cases (Some n) f true t = unsuited (Exclude path) false answers.AlreadyExcluded refl (ap (λ (b : Bool). is_found (design_of opening h) path && not b) t ∙ and_false (is_found (design_of opening h) path))
      cases (Some n) f false t = suited (Exclude path) (change opening h (by caller (Exclude path)) answers.Changed) (changed (Exclude path) answers.Changed refl) (ap (λ (o : Option ℕ). is_some o && not (has path (out_of h))) f ∙ ap not t)

  revises : (since : ℕ) (revision : Revision) → same_tables revision.design opening ≡ true → Follows (Revise revision) (stands_since is_test_or_revise h since) (revise_at opening h since (by caller (Revise revision)))
  revises since revision same = cases (stands_since is_test_or_revise h since)
    where
      cases : (moved : Bool) → Follows (Revise revision) moved (if moved then answers.Moved since else change opening h (by caller (Revise revision)) answers.Changed)
      cases true = overtaken (Revise revision) (answers.Moved since) refl
      cases false = suited (Revise revision) (change opening h (by caller (Revise revision)) answers.Changed) (changed (Revise revision) answers.Changed refl) same

-- ---- an Include passes no limit

pub one_less : (path : List ℕ) (ps : List (List ℕ)) → has path ps ≡ true → length (without path ps) + 1 ≤ length ps
one_less path [] h = absurd (true≢false (sym h))
one_less path (p ∷ ps) h =
    by_bool (bytes_eq p path)
    (λ same. let e : without path (p ∷ ps) ≡ without path ps = rw same refl in let n = ap (λ (qs : List (List ℕ)). length qs) e in let le = no_more ps in omega (arith, n, le))
    (λ other. let e : without path (p ∷ ps) ≡ p ∷ without path ps = rw other refl in
    let g : has path ps ≡ true = sym (rw other refl) ∙ h in
    let n = ap (λ (qs : List (List ℕ)). length qs) e in let rest = one_less path ps g in omega (arith, n, rest))
  where
    no_more : (qs : List (List ℕ)) → length (without path qs) ≤ length qs
    no_more [] = omega arith
    no_more (q ∷ qs) =
        let rest = no_more qs in
        by_bool (bytes_eq q path)
        (λ same. let e : without path (q ∷ qs) ≡ without path qs = rw same refl in let n = ap (λ (xs : List (List ℕ)). length xs) e in omega (arith, n, rest))
        (λ other. let e : without path (q ∷ qs) ≡ q ∷ without path qs = rw other refl in let n = ap (λ (xs : List (List ℕ)). length xs) e in omega (arith, n, rest))

include_within : (opening : Design) (h : List Entry) (caller : ℕ) (path : List ℕ) → ((which : Which) → amount opening h which ≤ most which) → has path (out_of h) ≡ true
    → (which : Which) → amount opening (h ++ by caller (Include path) ∷ []) which ≤ most which
include_within opening h caller path within there Tests = let n = test_count_snoc opening h (by caller (Include path)) in let w = within Tests in omega (arith, n, w)
include_within opening h caller path within there Bytes = let n = bytes_snoc opening h (by caller (Include path)) in let w = within Bytes in omega (arith, n, w)
include_within opening h caller path within there Entries = let n = entries_snoc opening h (by caller (Include path)) in let w = within Entries in omega (arith, n, w)
include_within opening h caller path within there History = let n = history_snoc opening h (by caller (Include path)) in let w = within History in let less = one_less path (out_of h) there in omega (arith, n, w, less)

pub include_free : (opening : Design) (h : List Entry) (caller : ℕ) (path : List ℕ) → is_legal opening h ≡ true → has path (out_of h) ≡ true → passed opening (h ++ by caller (Include path) ∷ []) ≡ None
include_free opening h caller path legal there = none_passed opening (h ++ by caller (Include path) ∷ []) (include_within opening h caller path (within_of opening h (legal_within opening h legal)) there)

abbrev included : Option ℕ → Bool → Answer
included o there = at_node o (λ n. if there then answers.Changed else answers.NotExcluded)

includes : (opening : Design) (h : List Entry) (caller : ℕ) (path : List ℕ) → is_legal opening h ≡ true → Follows opening h caller (Include path) false (include_at opening h path)
includes opening h caller path legal = cases (find_in (nodes_of (design_of opening h)) path) refl (has path (out_of h)) refl
  where
    cases : (o : Option ℕ) → find_in (nodes_of (design_of opening h)) path ≡ o → (there : Bool) → has path (out_of h) ≡ there → Follows opening h caller (Include path) false (included o there)
    cases None f false t = unsuited opening h caller (Include path) false answers.NoSuchPath refl t
    cases None f true t = absurd (true≢false (sym (all_found opening h legal path t) ∙ ap (λ (o : Option ℕ). is_some o) f))
    cases (Some n) f false t = unsuited opening h caller (Include path) false answers.NotExcluded refl t
    cases (Some n) f true t = suited opening h caller (Include path) answers.Changed (sym (ap (λ (o : Option Which). is_none o) (include_free opening h caller path legal t))) t

-- ---- all asks

nothing : (h : List Entry) (x : Answer) (b : Bool) → is_made x ≡ false → is_made (unless_stopped h x) ≡ (false && b)
nothing h x b none = made_going h x ∙ ap (λ m. not (has_stop h) && m) none ∙ and_false (not (has_stop h))

pub made_where : MadeWhereItMayFollow
unfolding table
made_where opening h caller (ask.Admit since r) legal s = made_going h (admit_at opening h since (by caller (Admit r)) r) ∙ admits opening h caller since r s.1
made_where opening h caller (ask.Exclude path) legal s = made_going h (exclude_at opening h (by caller (Exclude path)) path) ∙ excludes opening h caller path
made_where opening h caller (ask.Include path) legal s = made_going h (include_at opening h path) ∙ includes opening h caller path legal
made_where opening h caller (ask.Revise since revision) legal s = made_going h (revise_at opening h since (by caller (Revise revision))) ∙ revises opening h caller since revision s.1
made_where opening h caller (ask.Hello point) legal s = nothing h (table opening h caller (ask.Hello point)) true (none_made (nat_lt (length h) point) (answers.Ahead (length h)) (answers.Welcome (design_of opening h).bin_count) refl refl)
made_where opening h caller (ask.Tests first) legal s = nothing h (table opening h caller (ask.Tests first)) true refl
made_where opening h caller (ask.Counts first path) legal s = nothing h (table opening h caller (ask.Counts first path)) true (quiet_query opening h caller (ask.Counts first path) refl)
made_where opening h caller (ask.TestCounts first id path) legal s = nothing h (table opening h caller (ask.TestCounts first id path)) true (quiet_query opening h caller (ask.TestCounts first id path) refl)
made_where opening h caller (ask.Illegal first) legal s = nothing h (table opening h caller (ask.Illegal first)) true refl
made_where opening h caller (ask.Coverage path) legal s = nothing h (table opening h caller (ask.Coverage path)) true (quiet_query opening h caller (ask.Coverage path) refl)
made_where opening h caller ask.Rank legal s = nothing h (table opening h caller ask.Rank) true refl
made_where opening h caller (ask.NameOf bin) legal s = nothing h (table opening h caller (ask.NameOf bin)) true (quiet_query opening h caller (ask.NameOf bin) refl)
made_where opening h caller (ask.Fetch place offset) legal s = nothing h (table opening h caller (ask.Fetch place offset)) true (quiet_query opening h caller (ask.Fetch place offset) refl)

-- ---- the history stays legal

one_stays : (opening : Design) (h : List Entry) (e : Entry) (b moved : Bool) → is_legal opening h ≡ true → b ≡ ((may_follow opening h e || false) && not moved) → is_legal opening (h ++ (if b then e ∷ [] else [])) ≡ true
one_stays opening h e true moved legal m =
    let may : may_follow opening h e ≡ true = sym (or_false (may_follow opening h e)) ∙ and_left (may_follow opening h e || false) (not moved) (sym m) in
    legal_snoc opening h e ∙ both (is_legal opening h) (may_follow opening h e) legal may
one_stays opening h e false moved legal m = ap (is_legal opening) (append-nil h) ∙ legal

none_stays : (opening : Design) (h : List Entry) (b : Bool) → is_legal opening h ≡ true → is_legal opening (h ++ (if b then [] else [])) ≡ true
none_stays opening h true legal = ap (is_legal opening) (append-nil h) ∙ legal
none_stays opening h false legal = ap (is_legal opening) (append-nil h) ∙ legal

pub stays_legal : StaysLegal
stays_legal opening h caller (ask.Admit since r) legal s = one_stays opening h (by caller (Admit r)) (is_made (answer_at opening h caller (ask.Admit since r))) (stands_since is_revise h since) legal (made_where opening h caller (ask.Admit since r) legal s)
stays_legal opening h caller (ask.Exclude path) legal s = one_stays opening h (by caller (Exclude path)) (is_made (answer_at opening h caller (ask.Exclude path))) false legal (made_where opening h caller (ask.Exclude path) legal s)
stays_legal opening h caller (ask.Include path) legal s = one_stays opening h (by caller (Include path)) (is_made (answer_at opening h caller (ask.Include path))) false legal (made_where opening h caller (ask.Include path) legal s)
stays_legal opening h caller (ask.Revise since revision) legal s = one_stays opening h (by caller (Revise revision)) (is_made (answer_at opening h caller (ask.Revise since revision))) (stands_since is_test_or_revise h since) legal (made_where opening h caller (ask.Revise since revision) legal s)
stays_legal opening h caller (ask.Hello point) legal s = none_stays opening h (is_made (answer_at opening h caller (ask.Hello point))) legal
stays_legal opening h caller (ask.Tests first) legal s = none_stays opening h (is_made (answer_at opening h caller (ask.Tests first))) legal
stays_legal opening h caller (ask.Counts first path) legal s = none_stays opening h (is_made (answer_at opening h caller (ask.Counts first path))) legal
stays_legal opening h caller (ask.TestCounts first id path) legal s = none_stays opening h (is_made (answer_at opening h caller (ask.TestCounts first id path))) legal
stays_legal opening h caller (ask.Illegal first) legal s = none_stays opening h (is_made (answer_at opening h caller (ask.Illegal first))) legal
stays_legal opening h caller (ask.Coverage path) legal s = none_stays opening h (is_made (answer_at opening h caller (ask.Coverage path))) legal
stays_legal opening h caller ask.Rank legal s = none_stays opening h (is_made (answer_at opening h caller ask.Rank)) legal
stays_legal opening h caller (ask.NameOf bin) legal s = none_stays opening h (is_made (answer_at opening h caller (ask.NameOf bin))) legal
stays_legal opening h caller (ask.Fetch place offset) legal s = none_stays opening h (is_made (answer_at opening h caller (ask.Fetch place offset))) legal
