-- Histories: what the entries so far make of design, tests and exclusions, and which entry may come next.
use Rattle.std.specs.Prelude.{ℕ, ◌+◌, List, [], ◌∷◌, ◌++◌, length, map, filter, find, sum_by, count_by, slice_index, Option, Bool, true, false, not, ◌&&◌, nat_lt, is_some, is_none, bytes_eq}
use Rattle.std.specs.List.{list_any}
use Rattle.design_data.specs.declared.design.Design.{Design}
use Rattle.record_codec.specs.declared.record.Record.{Record}
use Rattle.record_codec.specs.Spelling.{spelling}
use Rattle.ucis_model.specs.declared.answers.Which.{Which}
use Rattle.ucis_model.specs.declared.answers.Which.TheVariants.{Tests, Bytes, Entries, History}
use Rattle.ucis_model.specs.Nodes.{nodes_of}
use Rattle.ucis_model.specs.Paths.{find_in}
use Rattle.cov_history.specs.declared.entry.Event.{Event}
use Rattle.cov_history.specs.declared.entry.Event.TheVariants.{Admit, Exclude, Include, Revise, Stop}
use Rattle.cov_history.specs.declared.entry.Entry.{Entry}
use Rattle.cov_history.specs.Tallies.{tally}
use Rattle.cov_history.specs.Tables.{fits, same_tables}
pub use Rattle.history_limits.specs.Amounts.{most}

-- ---- kinds of changes

abbrev pub is_stop : Event → Bool
is_stop Stop = true
is_stop other = false

abbrev pub is_revise : Event → Bool
is_revise (Revise revision) = true
is_revise other = false

abbrev pub is_test_or_revise : Event → Bool
is_test_or_revise (Admit r) = true
is_test_or_revise (Revise revision) = true
is_test_or_revise other = false

abbrev pub has_stop : List Entry → Bool
has_stop h = list_any (λ e. is_stop e.event) h

-- ---- the design: that of the last revision, and the opening one where there is none

abbrev pub design_after : Design → Event → Design
design_after d (Revise revision) = revision.design
design_after d other = d

abbrev pub design_of : Design → List Entry → Design
design_of opening [] = opening
design_of opening (e ∷ es) = design_of (design_after opening e.event) es

-- ---- the tests

-- a test that is kept: the point after its admission, and its record
pub record Test : Type 0 where
  pub point : ℕ
  pub content : Record

abbrev pub tests_in : (point : ℕ) → Event → List Test
tests_in point (Admit r) = record { point = point; content = r } ∷ []
tests_in point other = []

abbrev pub tests_from : (point : ℕ) → List Entry → List Test
tests_from point [] = []
tests_from point (e ∷ es) = tests_in (point + 1) e.event ++ tests_from (point + 1) es

-- the tests in order of admission
abbrev pub tests_of : List Entry → List Test
tests_of h = tests_from 0 h

-- their records
abbrev pub contents : List Entry → List Record
contents h = map (λ t. t.content) (tests_of h)

-- the test that is kept under an id
abbrev pub kept : List Entry → (id : List ℕ) → Option Test
kept h id = find (λ t. bytes_eq id t.content.id) (tests_of h)

-- how often a record hits the bin of a number
abbrev pub hits : Design → Record → (bin : ℕ) → ℕ
hits d r bin = slice_index (tally d r) bin

-- the sum of that over records
abbrev pub hits_of : Design → List Record → (bin : ℕ) → ℕ
hits_of d rs bin = sum_by (λ r. hits d r bin) rs

-- how often the tests hit the bin under the design
abbrev pub count_of : (opening : Design) → List Entry → (bin : ℕ) → ℕ
count_of opening h bin = hits_of (design_of opening h) (contents h) bin

-- ---- what is out

abbrev pub has : (path : List ℕ) → List (List ℕ) → Bool
has path out = list_any (λ p. bytes_eq p path) out

-- the paths without this one
abbrev pub without : (path : List ℕ) → List (List ℕ) → List (List ℕ)
without path out = filter (λ p. not (bytes_eq p path)) out

-- the path finds a node of the design
abbrev pub is_found : Design → (path : List ℕ) → Bool
is_found d path = is_some (find_in (nodes_of d) path)

abbrev pub out_after : List (List ℕ) → Event → List (List ℕ)
out_after out (Exclude path) = out ++ path ∷ []
out_after out (Include path) = without path out
out_after out (Revise revision) = filter (is_found revision.design) out
out_after out other = out

abbrev pub out_from : List (List ℕ) → List Entry → List (List ℕ)
out_from out [] = out
out_from out (e ∷ es) = out_from (out_after out e.event) es

-- the paths that are out, in the order in which they were excluded
abbrev pub out_of : List Entry → List (List ℕ)
out_of h = out_from [] h

-- ---- limits

abbrev pub bytes_in : Event → ℕ
bytes_in (Admit r) = length (spelling r)
bytes_in (Revise revision) = length revision.text
bytes_in other = 0

-- how many bins a record hits
abbrev pub bins_hit : Design → Record → ℕ
bins_hit d r = count_by (nat_lt 0) (tally d r)

-- an amount that has a limit; a Stop counts in none
abbrev pub amount : (opening : Design) → List Entry → Which → ℕ
amount opening h Tests = length (tests_of h)
amount opening h Bytes = sum_by (λ e. bytes_in e.event) h
amount opening h Entries = sum_by (bins_hit (design_of opening h)) (contents h)
amount opening h History = count_by (λ e. not (is_stop e.event)) h + length (out_of h)

abbrev pub is_over : (opening : Design) → List Entry → Which → Bool
is_over opening h which = nat_lt (most which) (amount opening h which)

-- the first limit that is passed
abbrev pub passed : (opening : Design) → List Entry → Option Which
passed opening h = find (is_over opening h) (Tests ∷ Bytes ∷ Entries ∷ History ∷ [])

-- ---- legal histories

-- apart from limits and from a Stop, the change may come after the history
abbrev pub suits : (opening : Design) → List Entry → Event → Bool
suits opening h (Admit r) = is_none (kept h r.id) && fits (design_of opening h) r
suits opening h (Exclude path) = is_found (design_of opening h) path && not (has path (out_of h))
suits opening h (Include path) = has path (out_of h)
suits opening h (Revise revision) = same_tables revision.design opening
suits opening h Stop = true

-- the entry may follow the history: nothing follows a Stop, and no limit is passed after it
abbrev pub may_follow : (opening : Design) → List Entry → Entry → Bool
may_follow opening h e = not (has_stop h) && (suits opening h e.event && is_none (passed opening (h ++ e ∷ [])))

abbrev pub legal_from : (opening : Design) → (before : List Entry) → List Entry → Bool
legal_from opening before [] = true
legal_from opening before (e ∷ es) = may_follow opening before e && legal_from opening (before ++ e ∷ []) es

-- each entry may follow those before it
abbrev pub is_legal : (opening : Design) → List Entry → Bool
is_legal opening h = legal_from opening [] h
