-- From what a call answers to what is served.
use Rattle.std.proofs.Common.{◌≡◌, ℕ, List, [], ◌∷◌, ◌++◌, Bool, true, false, if◌then◌else◌, refl, sym, ap, subst, ◌∙◌, inl, inr, nat_lt, length}
use Rattle.std.proofs.lemmas.List.{append-nil}
use Rattle.design_data.specs.declared.design.Design.{Design}
use Rattle.record_codec.specs.declared.record.Record.{Record}
use Rattle.ucis_model.specs.declared.answers.Answer.{Answer}
use Rattle.ucis_model.specs.declared.answers.Answer.TheVariants as answer
use Rattle.cov_history.specs.declared.entry.Revision.{Revision}
use Rattle.cov_history.specs.declared.entry.Event.TheVariants as event
use Rattle.cov_history.specs.declared.entry.Entry.{Entry}
use Rattle.cov_history.specs.declared.asks.Ask.{Ask}
use Rattle.cov_history.specs.declared.asks.Ask.TheVariants as ask
use Rattle.cov_history.specs.History.{design_of, has_stop}
use Rattle.cov_history.specs.Answers.{table, answer_at, is_made, entries_of, may_want, Serves, by, hello_at, counts_at, test_counts_at, illegal_at, coverage_at, tests_at, rank_at, name_at, fetch_at, admit_at, exclude_at, include_at, revise_at}
use Rattle.cov_history.proofs.Alike.{quiet_query}
use Rattle.store_parts.specs.Told.{Gives, Makes, Reads}

module _ (opening : Design) (h : List Entry) (caller : ℕ) (going : has_stop h ≡ false) where
  -- where nothing stopped, the table answers
  going_at : (a : Ask) → answer_at opening h caller a ≡ table opening h caller a
  going_at a = rw going refl

  -- ---- queries

  queried : (a : Ask) (said given : Answer) → is_made (table opening h caller a) ≡ false → may_want a ≡ true → said ≡ given → Reads (table opening h caller a) given → Serves opening caller h a said h
  queried a said given quiet may is m =
      elim m [
        | inl p ↦ inl (is ∙ p ∙ sym (going_at a), sym (append-nil h) ∙ ap (λ (b : Bool). h ++ (if b then entries_of caller a else [])) (sym (ap is_made (is ∙ p) ∙ quiet)))
        | inr p ↦ inr (is ∙ p, refl, may)
      ]

  greets : (point : ℕ) (b : Bool) → is_made (if b then answer.Ahead (length h) else answer.Welcome (design_of opening h).bin_count) ≡ false
  greets point true = refl
  greets point false = refl

  pub serves_hello : (point : ℕ) (said : Answer) → said ≡ hello_at opening h point → Serves opening caller h (ask.Hello point) said h
  unfolding table
  serves_hello point said is = inl (is ∙ sym (going_at (ask.Hello point)), sym (append-nil h) ∙ ap (λ (b : Bool). h ++ (if b then [] else [])) (sym (ap is_made is ∙ greets point (nat_lt (length h) point))))

  pub serves_counts : (first : ℕ) (path p : List ℕ) (said given : Answer) → said ≡ given → p ≡ path → Reads (counts_at opening h first p) given → Serves opening caller h (ask.Counts first path) said h
  unfolding table
  serves_counts first path p said given is same m = queried (ask.Counts first path) said given (quiet_query opening h caller (ask.Counts first path) refl) refl is (subst (λ (q : List ℕ). Reads (counts_at opening h first q) given) same m)

  pub serves_coverage : (path p : List ℕ) (said given : Answer) → said ≡ given → p ≡ path → Reads (coverage_at opening h p) given → Serves opening caller h (ask.Coverage path) said h
  unfolding table
  serves_coverage path p said given is same m = queried (ask.Coverage path) said given (quiet_query opening h caller (ask.Coverage path) refl) refl is (subst (λ (q : List ℕ). Reads (coverage_at opening h q) given) same m)

  pub serves_illegal : (first : ℕ) (said given : Answer) → said ≡ given → Reads (illegal_at opening h first) given → Serves opening caller h (ask.Illegal first) said h
  unfolding table
  serves_illegal first said given is m = queried (ask.Illegal first) said given (quiet_query opening h caller (ask.Illegal first) refl) refl is m

  pub serves_tests : (first : ℕ) (said given : Answer) → said ≡ given → Reads (tests_at h first) given → Serves opening caller h (ask.Tests first) said h
  unfolding table
  serves_tests first said given is m = queried (ask.Tests first) said given refl refl is m

  pub serves_test_counts : (first : ℕ) (id i path p : List ℕ) (said given : Answer) → said ≡ given → i ≡ id → p ≡ path → Reads (test_counts_at opening h first i p) given → Serves opening caller h (ask.TestCounts first id path) said h
  unfolding table
  serves_test_counts first id i path p said given is same there m = queried (ask.TestCounts first id path) said given (quiet_query opening h caller (ask.TestCounts first id path) refl) refl is (subst (λ (q : List ℕ). Reads (test_counts_at opening h first id q) given) there (subst (λ (q : List ℕ). Reads (test_counts_at opening h first q p) given) same m))

  pub serves_rank : (said given : Answer) → said ≡ given → Reads (rank_at opening h) given → Serves opening caller h ask.Rank said h
  unfolding table
  serves_rank said given is m = queried ask.Rank said given (quiet_query opening h caller ask.Rank refl) refl is m

  pub serves_name : (bin : ℕ) (said given : Answer) → said ≡ given → Reads (name_at opening h bin) given → Serves opening caller h (ask.NameOf bin) said h
  unfolding table
  serves_name bin said given is m = queried (ask.NameOf bin) said given (quiet_query opening h caller (ask.NameOf bin) refl) refl is m

  pub serves_fetch : (place offset : ℕ) (said given : Answer) → said ≡ given → Reads (fetch_at h place offset) given → Serves opening caller h (ask.Fetch place offset) said h
  unfolding table
  serves_fetch place offset said given is m = queried (ask.Fetch place offset) said given (quiet_query opening h caller (ask.Fetch place offset) refl) refl is m

  -- ---- changes

  given_so : (a : Ask) (e : Entry) (said given : Answer) (after : List Entry) → entries_of caller a ≡ e ∷ [] → said ≡ given → Gives h e (table opening h caller a) given after → Serves opening caller h a said after
  given_so a e said given after es is g =
      inl (is ∙ g.answer ∙ sym (going_at a), g.entries ∙ (λ i. h ++ (if is_made (sym is i) then sym es i else [])))

  made_so : (a : Ask) (e : Entry) (said given : Answer) (after : List Entry) → entries_of caller a ≡ e ∷ [] → may_want a ≡ true → said ≡ given → Makes h e (table opening h caller a) given after → Serves opening caller h a said after
  made_so a e said given after es may is m =
      elim m [
        | inl g ↦ given_so a e said given after es is g
        | inr w ↦ inr (is ∙ w.answer, w.entries, may)
      ]

  pub serves_admit : (since : ℕ) (r : Record) (said given : Answer) (after : List Entry) → said ≡ given → Makes h (by caller (event.Admit r)) (admit_at opening h since (by caller (event.Admit r)) r) given after → Serves opening caller h (ask.Admit since r) said after
  unfolding table
  serves_admit since r said given after is m = made_so (ask.Admit since r) (by caller (event.Admit r)) said given after refl refl is m

  pub serves_exclude : (path p : List ℕ) (said given : Answer) (after : List Entry) → said ≡ given → p ≡ path → Makes h (by caller (event.Exclude p)) (exclude_at opening h (by caller (event.Exclude p)) p) given after → Serves opening caller h (ask.Exclude path) said after
  unfolding table
  serves_exclude path p said given after is same m = made_so (ask.Exclude path) (by caller (event.Exclude path)) said given after refl refl is (subst (λ (q : List ℕ). Makes h (by caller (event.Exclude q)) (exclude_at opening h (by caller (event.Exclude q)) q) given after) same m)

  pub serves_include : (path p : List ℕ) (said given : Answer) (after : List Entry) → said ≡ given → p ≡ path → Gives h (by caller (event.Include p)) (include_at opening h p) given after → Serves opening caller h (ask.Include path) said after
  unfolding table
  serves_include path p said given after is same m = given_so (ask.Include path) (by caller (event.Include path)) said given after refl is (subst (λ (q : List ℕ). Gives h (by caller (event.Include q)) (include_at opening h q) given after) same m)

  pub serves_revise : (since : ℕ) (revision : Revision) (said given : Answer) (after : List Entry) → said ≡ given → Makes h (by caller (event.Revise revision)) (revise_at opening h since (by caller (event.Revise revision))) given after → Serves opening caller h (ask.Revise since revision) said after
  unfolding table
  serves_revise since revision said given after is m = made_so (ask.Revise since revision) (by caller (event.Revise revision)) said given after refl refl is m
