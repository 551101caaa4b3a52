-- What a call answers, as an answer.
use Rattle.std.specs.Prelude.{◌≡◌, ◌⊎◌, ℕ, List, [], ◌∷◌, ◌++◌, Result, Ok, Err, if◌then◌else◌}
use Rattle.ucis_model.specs.declared.answers.Answer.{Answer}
use Rattle.ucis_model.specs.declared.answers.Answer.TheVariants as answer
use Rattle.cov_history.specs.declared.entry.Entry.{Entry}
use Rattle.cov_history.specs.Answers.{is_made}
use Rattle.ucis_model.specs.declared.answers.CountRow.{CountRow}
use Rattle.ucis_model.specs.declared.answers.CoverRow.{CoverRow}
use Rattle.ucis_model.specs.declared.answers.HistoryNode.{HistoryNode}
use Rattle.tally.specs.declared.ranked.Ranked.{Ranked}
use Rattle.store_parts.specs.declared.faults.QueryFault.{QueryFault}
use Rattle.store_parts.specs.declared.faults.QueryFault.TheVariants as queries
use Rattle.store_parts.specs.declared.faults.Admitted.{Admitted}
use Rattle.store_parts.specs.declared.faults.Admitted.TheVariants as admits
use Rattle.store_parts.specs.declared.faults.AdmitFault.{AdmitFault}
use Rattle.store_parts.specs.declared.faults.AdmitFault.TheVariants as refuses
use Rattle.store_parts.specs.declared.faults.ReviseFault.{ReviseFault}
use Rattle.store_parts.specs.declared.faults.ReviseFault.TheVariants as revises
use Rattle.store_parts.specs.declared.faults.IncludeFault.{IncludeFault}
use Rattle.store_parts.specs.declared.faults.IncludeFault.TheVariants as includes
use Rattle.store_parts.specs.declared.faults.ExcludeFault.{ExcludeFault}
use Rattle.store_parts.specs.declared.faults.ExcludeFault.TheVariants as excludes

-- The call answers as expected, and makes the entry where that is New or Changed.
pub record Gives (h : List Entry) (e : Entry) (expected given : Answer) (after : List Entry) : Type 0 where
  pub answer : given ≡ expected
  pub entries : after ≡ h ++ (if is_made given then e ∷ [] else [])

-- Memory is wanted, and nothing is changed.
pub record Wants (h : List Entry) (given : Answer) (after : List Entry) : Type 0 where
  pub answer : given ≡ answer.Memory
  pub entries : after ≡ h

-- The call answers as expected and makes the entry where that is New or Changed; or memory is wanted.
abbrev pub Makes : List Entry → Entry → (expected given : Answer) → (after : List Entry) → Type 0
Makes h e expected given after = Gives h e expected given after ⊎ Wants h given after

-- what admit answers
abbrev pub refused : AdmitFault → Answer
refused (refuses.IdTaken digest) = answer.IdTaken digest
refused (refuses.Moved since) = answer.Moved since
refused (refuses.Full which have want) = answer.Full which have want
refused refuses.Memory = answer.Memory

abbrev pub taken_in : Admitted → Answer
taken_in (admits.New point) = answer.New
taken_in (admits.Here point) = answer.Here point

abbrev pub admitted : {A : Type 0} → Result Admitted (A × AdmitFault) → Answer
admitted (Ok a) = taken_in a
admitted (Err f) = refused f.1

-- the point of a new test is that after its admission; that of one that is here stands in the answer
abbrev pub IsPoint : ℕ → Admitted → Type 0
IsPoint now (admits.New point) = point ≡ now
IsPoint now (admits.Here point) = Unit {0}

-- what exclude answers
abbrev pub not_excluded : ExcludeFault → Answer
not_excluded excludes.NoSuchPath = answer.NoSuchPath
not_excluded excludes.AlreadyExcluded = answer.AlreadyExcluded
not_excluded (excludes.Full which have want) = answer.Full which have want
not_excluded excludes.Memory = answer.Memory

abbrev pub excluded : {A : Type 0} → Result A ExcludeFault → Answer
excluded (Ok x) = answer.Changed
excluded (Err f) = not_excluded f

-- what include answers
abbrev pub included : {A : Type 0} → Result A IncludeFault → Answer
included (Ok x) = answer.Changed
included (Err includes.NoSuchPath) = answer.NoSuchPath
included (Err includes.NotExcluded) = answer.NotExcluded

-- what revise answers
abbrev pub not_revised : ReviseFault → Answer
not_revised (revises.Moved since) = answer.Moved since
not_revised (revises.Full which have want) = answer.Full which have want
not_revised revises.Memory = answer.Memory

abbrev pub revised : {A B : Type 0} → Result A (B × ReviseFault) → Answer
revised (Ok x) = answer.Changed
revised (Err f) = not_revised f.1

-- ---- queries

-- The query is answered as expected; or memory is wanted.
abbrev pub Reads : (expected given : Answer) → Type 0
Reads expected given = (given ≡ expected) ⊎ (given ≡ answer.Memory)

-- what a refused query answers
abbrev pub not_read : QueryFault → Answer
not_read queries.NoSuchPath = answer.NoSuchPath
not_read queries.NoSuchTest = answer.NoSuchTest
not_read queries.Memory = answer.Memory

-- what counts and test_counts answer
abbrev pub rows_read : Result (ℕ × List CountRow) QueryFault → Answer
rows_read (Ok r) = answer.Rows r.0 r.1
rows_read (Err f) = not_read f

-- what coverage answers
abbrev pub cover_read : Result CoverRow QueryFault → Answer
cover_read (Ok row) = answer.CoverageIs row
cover_read (Err f) = not_read f

-- what illegal answers, which is refused for want of memory alone
abbrev pub illegal_read : {M : Type 0} → Result (ℕ × List CountRow) M → Answer
illegal_read (Ok r) = answer.Rows r.0 r.1
illegal_read (Err m) = answer.Memory

-- what tests answers; so is this
abbrev pub tests_read : {M : Type 0} → Result (ℕ × List HistoryNode) M → Answer
tests_read (Ok r) = answer.TestRows r.0 r.1
tests_read (Err m) = answer.Memory

-- what rank answers; so is this
abbrev pub rank_read : {M : Type 0} → Result (List Ranked) M → Answer
rank_read (Ok rows) = answer.RankRows rows
rank_read (Err m) = answer.Memory

-- what name_of answers
abbrev pub name_read : Result (List ℕ) QueryFault → Answer
name_read (Ok path) = answer.PathIs path
name_read (Err f) = not_read f

-- what fetch answers
abbrev pub chunk_read : Result (ℕ × List ℕ) QueryFault → Answer
chunk_read (Ok r) = answer.Chunk r.0 r.1
chunk_read (Err f) = not_read f
