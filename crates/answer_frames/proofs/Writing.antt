-- Answers that a frame can hold have a spelling that it holds.
use Rattle.std.proofs.Common.{◌≡◌, ℕ, zero, suc, ◌+◌, ◌-◌, ◌*◌, ◌≤◌, Bool, true, false, ◌&&◌, List, [], ◌∷◌, ◌++◌, length, take, refl, sym, ap, ◌∙◌, arith, length-append, lt-ltb, le-ltb, true≢false}
use Rattle.std.specs.Prelude.{sum_by, nat_le, nat_lt}
use Rattle.std.specs.List.{flat_map, list_all, AllByRecursion}
use Rattle.std.proofs.lemmas.Bool.{leb-true, le-leb, ltb-true}
use Rattle.std.proofs.lemmas.List.Sums.{sum_by-cons}
use Rattle.std.specs.Int.{w32, w64, to_be_bytes}
use Rattle.ucis_model.specs.declared.answers.Which.{Which}
use Rattle.ucis_model.specs.declared.answers.Which.TheVariants as which
use Rattle.ucis_model.specs.declared.answers.HistoryKind.{HistoryKind}
use Rattle.ucis_model.specs.declared.answers.HistoryKind.TheVariants.{Test, Merge}
use Rattle.ucis_model.specs.declared.answers.HistoryNode.{HistoryNode}
use Rattle.ucis_model.specs.declared.answers.Answer.{Answer}
use Rattle.ucis_model.specs.declared.answers.Answer.TheVariants as answer
use Rattle.cov_proto.specs.declared.replies.Body.TheVariants as body
use Rattle.cov_proto.specs.Limits.{AreFrom, IsText, IsTestRow, HasTestType, HasAnswerType}
use Rattle.cov_proto.specs.Spelled.{flag, limit, text, count_row, test_row, answer_fields, body_fields}
use Rattle.cov_proto.proofs.Sizes.{size_of_count_rows, size_of_rank_rows}
use Rattle.record_codec.specs.Limits.{longest_id}
use Rattle.answer_frames.proofs.Bools.{and_left, and_right, both}
use Rattle.answer_frames.specs.Frames.{IsWritable, is_long}
use Rattle.answer_frames.specs.Held.{most_fields, most_count_rows, most_rank_rows, is_from, is_text, is_test_kind, is_test, test_size, is_held, HasDigests}

length-limit : (w : Which) → length (limit w) ≡ 1
length-limit which.Tests = refl
length-limit which.Bytes = refl
length-limit which.Entries = refl
length-limit which.History = refl

length-flag : (b : Bool) → length (flag b) ≡ 1
length-flag false = refl
length-flag true = refl

-- ---- texts

from_is : (low : ℕ) (bytes : List ℕ) → list_all (is_from low) bytes ≡ true → AreFrom low bytes
from_is low [] h = tt
from_is low (b ∷ bytes) h =
    let here = and_left (is_from low b) (list_all (is_from low) bytes) h in (
      (leb-true low b (and_left (nat_le low b) (nat_lt b 127) here), ltb-true b 127 (and_right (nat_le low b) (nat_lt b 127) here)),
      from_is low bytes (and_right (is_from low b) (list_all (is_from low) bytes) h),
    )

is_from_all : (low : ℕ) (bytes : List ℕ) → AreFrom low bytes → list_all (is_from low) bytes ≡ true
is_from_all low [] h = refl
is_from_all low (b ∷ bytes) h = both (is_from low b) (list_all (is_from low) bytes) (both (nat_le low b) (nat_lt b 127) (le-leb low b h.0.0) (lt-ltb b 127 h.0.1)) (is_from_all low bytes h.1)

text_is : (least low : ℕ) (bytes : List ℕ) → is_text least low bytes ≡ true → IsText least low bytes
text_is least low bytes h =
    let rest = and_right (nat_le least (length bytes)) (nat_le (length bytes) longest_id && list_all (is_from low) bytes) h in
    record {
      some = leb-true least (length bytes) (and_left (nat_le least (length bytes)) (nat_le (length bytes) longest_id && list_all (is_from low) bytes) h);
      short = leb-true (length bytes) longest_id (and_left (nat_le (length bytes) longest_id) (list_all (is_from low) bytes) rest);
      fit = from_is low bytes (and_right (nat_le (length bytes) longest_id) (list_all (is_from low) bytes) rest);
    }

is_text_all : (least low : ℕ) (bytes : List ℕ) → IsText least low bytes → is_text least low bytes ≡ true
is_text_all least low bytes t = both (nat_le least (length bytes)) (nat_le (length bytes) longest_id && list_all (is_from low) bytes) (le-leb least (length bytes) t.some) (both (nat_le (length bytes) longest_id) (list_all (is_from low) bytes) (le-leb (length bytes) longest_id t.short) (is_from_all low bytes t.fit))

-- ---- rows of tests

kind_is : (k : HistoryKind) → is_test_kind k ≡ true → k ≡ Test
kind_is Test h = refl
kind_is Merge h = absurd (true≢false (sym h))

test_is : (row : HistoryNode) → is_test row ≡ true → IsTestRow row
test_is row h =
    let a = nat_lt row.status 4 && (is_text 1 33 row.id && is_text 0 32 row.user) in
    let b = is_text 1 33 row.id && is_text 0 32 row.user in
    let after = and_right (is_test_kind row.kind) a h in
    let texts = and_right (nat_lt row.status 4) b after in
    record {
      kind = kind_is row.kind (and_left (is_test_kind row.kind) a h);
      status = ltb-true row.status 4 (and_left (nat_lt row.status 4) b after);
      id = text_is 1 33 row.id (and_left (is_text 1 33 row.id) (is_text 0 32 row.user) texts);
      user = text_is 0 32 row.user (and_right (is_text 1 33 row.id) (is_text 0 32 row.user) texts);
    }

pub is_test_all : (row : HistoryNode) → IsTestRow row → is_test row ≡ true
is_test_all row t =
    let a = nat_lt row.status 4 && (is_text 1 33 row.id && is_text 0 32 row.user) in
    both (is_test_kind row.kind) a (ap is_test_kind t.kind) (both (nat_lt row.status 4) (is_text 1 33 row.id && is_text 0 32 row.user) (lt-ltb row.status 4 t.status) (both (is_text 1 33 row.id) (is_text 0 32 row.user) (is_text_all 1 33 row.id t.id) (is_text_all 0 32 row.user t.user)))

pub tests_are : (rows : List HistoryNode) → list_all is_test rows ≡ true → AllByRecursion IsTestRow rows
tests_are [] h = tt
tests_are (r ∷ rows) h = (test_is r (and_left (is_test r) (list_all is_test rows) h), tests_are rows (and_right (is_test r) (list_all is_test rows) h))

are_tests_all : (rows : List HistoryNode) → AllByRecursion IsTestRow rows → list_all is_test rows ≡ true
are_tests_all [] h = refl
are_tests_all (r ∷ rows) h = both (is_test r) (list_all is_test rows) (is_test_all r h.0) (are_tests_all rows h.1)

size_is : (r : HistoryNode) → length r.digest ≡ 32 → length (test_row r) ≡ test_size r
unfolding test_row
size_is r d = omega (arith, d, length-append r.digest (text r.id ++ text r.user), length-append (text r.id) (text r.user))

sizes_are : (rows : List HistoryNode) → AllByRecursion (λ r. length r.digest ≡ 32) rows → length (flat_map test_row rows) ≡ sum_by test_size rows
sizes_are [] d = refl
sizes_are (r ∷ rows) d = omega (arith, sum_by-cons test_size r rows, sizes_are rows d.1, size_is r d.0, length-append (test_row r) (flat_map test_row rows))

digests_of : (rows : List HistoryNode) → AllByRecursion HasTestType rows → AllByRecursion (λ r. length r.digest ≡ 32) rows
digests_of [] t = tt
digests_of (r ∷ rows) t = (t.0.digest, digests_of rows t.1)

-- ---- answers

pub held_writable : (a : Answer) → is_held a ≡ true → HasDigests a → IsWritable (body.Store a)
unfolding IsWritable body_fields answer_fields
held_writable (answer.Welcome bins) h d = (tt, omega arith)
held_writable answer.New h d = (tt, omega arith)
held_writable (answer.Here first) h d = (tt, omega arith)
held_writable (answer.Rows total rows) h d = (tt, omega (arith, leb-true (length rows) most_count_rows h, size_of_count_rows rows, length-append (to_be_bytes w32 total) (flat_map count_row rows)))
held_writable (answer.CoverageIs row) h d = (tt, omega (arith, length-append (flag row.met) (flag row.excluded ++ (to_be_bytes w32 row.covered ++ to_be_bytes w32 row.bins)), length-append (flag row.excluded) (to_be_bytes w32 row.covered ++ to_be_bytes w32 row.bins), length-flag row.met, length-flag row.excluded))
held_writable (answer.TestRows total rows) h d =
    let few = leb-true (sum_by test_size rows) (most_fields - 4) (and_right (list_all is_test rows) (nat_le (sum_by test_size rows) (most_fields - 4)) h) in
    (tests_are rows (and_left (list_all is_test rows) (nat_le (sum_by test_size rows) (most_fields - 4)) h), omega (arith, few, sizes_are rows d, length-append (to_be_bytes w32 total) (flat_map test_row rows)))
held_writable (answer.RankRows rows) h d = (tt, omega (arith, leb-true (length rows) most_rank_rows h, size_of_rank_rows rows))
held_writable (answer.PathIs path) h d = (from_is 32 path (and_right (nat_le (length path) most_fields) (list_all (is_from 32) path) h), leb-true (length path) most_fields (and_left (nat_le (length path) most_fields) (list_all (is_from 32) path) h))
held_writable answer.Changed h d = (tt, omega arith)
held_writable (answer.Ahead have) h d = (tt, omega arith)
held_writable (answer.IdTaken digest) h d = (tt, omega (arith, d))
held_writable (answer.Full w have want) h d = (tt, omega (arith, length-append (limit w) (to_be_bytes w64 have ++ to_be_bytes w64 want), length-limit w))
held_writable answer.NoSuchPath h d = (tt, omega arith)
held_writable answer.AlreadyExcluded h d = (tt, omega arith)
held_writable answer.NotExcluded h d = (tt, omega arith)
held_writable answer.NoSuchTest h d = (tt, omega arith)
held_writable answer.Memory h d = (tt, omega arith)
held_writable (answer.Moved since) h d = (tt, omega arith)
held_writable answer.Stopped h d = (tt, omega arith)
held_writable (answer.Chunk len bytes) h d = (tt, omega (arith, leb-true (length bytes) (most_fields - 8) h, length-append (to_be_bytes w64 len) bytes))

-- what has a spelling within a frame is held
pub writable_held : (a : Answer) → HasAnswerType a → IsWritable (body.Store a) → is_held a ≡ true
unfolding IsWritable body_fields answer_fields
writable_held (answer.Rows total rows) t w = le-leb (length rows) most_count_rows (omega (arith, w.1, size_of_count_rows rows, length-append (to_be_bytes w32 total) (flat_map count_row rows)))
writable_held (answer.TestRows total rows) t w = both (list_all is_test rows) (nat_le (sum_by test_size rows) (most_fields - 4)) (are_tests_all rows w.0) (le-leb (sum_by test_size rows) (most_fields - 4) (omega (arith, w.1, sizes_are rows (digests_of rows t.1), length-append (to_be_bytes w32 total) (flat_map test_row rows))))
writable_held (answer.RankRows rows) t w = le-leb (length rows) most_rank_rows (omega (arith, w.1, size_of_rank_rows rows))
writable_held (answer.PathIs path) t w = both (nat_le (length path) most_fields) (list_all (is_from 32) path) (le-leb (length path) most_fields w.1) (is_from_all 32 path w.0)
writable_held (answer.Chunk len bytes) t w = le-leb (length bytes) (most_fields - 8) (omega (arith, w.1, length-append (to_be_bytes w64 len) bytes))
writable_held other t w = refl

pub path_held : (path : List ℕ) → IsWritable (body.Store (answer.PathIs path)) → is_held (answer.PathIs path) ≡ true
path_held path w = writable_held (answer.PathIs path) tt w

-- one that isn't has none, and has rows, a text or bytes
pub unheld_long : (a : Answer) → is_held a ≡ false → is_long a ≡ true
unheld_long (answer.Rows total rows) h = refl
unheld_long (answer.TestRows total rows) h = refl
unheld_long (answer.RankRows rows) h = refl
unheld_long (answer.PathIs path) h = refl
unheld_long (answer.Chunk len bytes) h = refl
unheld_long other h = absurd (true≢false h)

pub unheld : (a : Answer) → is_held a ≡ false → HasAnswerType a → IsWritable (body.Store a) → ⊥
unheld a h t w = true≢false (sym (writable_held a t w) ∙ h)

pub memory_writable : IsWritable (body.Store answer.Memory)
memory_writable = held_writable answer.Memory refl tt

pub shape_writable : (at : ℕ) → IsWritable (body.WrongShape at)
unfolding IsWritable body_fields
shape_writable at = (tt, omega arith)

pub tables_writable : (at : ℕ) → IsWritable (body.ShapeDiffers at)
unfolding IsWritable body_fields
tables_writable at = (tt, omega arith)
