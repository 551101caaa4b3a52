-- Which answers have a spelling that a frame can hold, as a test. Public contracts cite none of it.
use Rattle.std.specs.Prelude.{◌≡◌, ℕ, ◌+◌, ◌-◌, List, length, sum_by, nat_le, nat_lt, Bool, true, false, ◌&&◌}
use Rattle.std.specs.List.{list_all, AllByRecursion}
use Rattle.record_codec.specs.Limits.{longest_id}
use Rattle.ucis_model.specs.declared.answers.HistoryKind.{HistoryKind}
use Rattle.ucis_model.specs.declared.answers.HistoryKind.TheVariants.{Test, Merge}
use Rattle.ucis_model.specs.declared.answers.HistoryNode.{HistoryNode}
use Rattle.ucis_model.specs.declared.answers.Answer.{Answer}
use Rattle.ucis_model.specs.declared.answers.Answer.TheVariants as answer
use Rattle.cov_proto.specs.Frames.{longest_body}

-- the most bytes of an answer's fields, before which a frame has a tag of one byte and a point of eight
abbrev pub most_fields : ℕ
most_fields = longest_body - (1 + 8)

-- the most rows of bins, each of 14 bytes, behind their number of four, and of tests in a ranking, each of 12
abbrev pub most_count_rows : ℕ
most_count_rows = 74901

abbrev pub most_rank_rows : ℕ
most_rank_rows = 87385

-- bytes from low on and below 7F
abbrev pub is_from : (low : ℕ) → ℕ → Bool
is_from low byte = nat_le low byte && nat_lt byte 127

-- a text of such bytes behind its length
abbrev pub is_text : (least low : ℕ) → List ℕ → Bool
is_text least low bytes = nat_le least (length bytes) && (nat_le (length bytes) longest_id && list_all (is_from low) bytes)

abbrev pub is_test_kind : HistoryKind → Bool
is_test_kind Test = true
is_test_kind Merge = false

abbrev pub is_test : HistoryNode → Bool
is_test row = is_test_kind row.kind && (nat_lt row.status 4 && (is_text 1 33 row.id && is_text 0 32 row.user))

-- how many bytes such a row has
abbrev pub test_size : HistoryNode → ℕ
test_size row = 59 + length row.id + length row.user

abbrev pub are_tests : List HistoryNode → Bool
are_tests rows = list_all is_test rows && nat_le (sum_by test_size rows) (most_fields - 4)

-- the answer has a spelling within a frame; one without rows, text or bytes always has
abbrev pub is_held : Answer → Bool
is_held (answer.Rows total rows) = nat_le (length rows) most_count_rows
is_held (answer.TestRows total rows) = are_tests rows
is_held (answer.RankRows rows) = nat_le (length rows) most_rank_rows
is_held (answer.PathIs path) = nat_le (length path) most_fields && list_all (is_from 32) path
is_held (answer.Chunk len bytes) = nat_le (length bytes) (most_fields - 8)
is_held other = true

-- digests have 32 bytes
abbrev pub HasDigests : Answer → Type 0
HasDigests (answer.TestRows total rows) = AllByRecursion (λ row. length row.digest ≡ 32) rows
HasDigests (answer.IdTaken digest) = length digest ≡ 32
HasDigests other = Unit {0}
