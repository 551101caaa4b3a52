-- What a body answers: one row for each tag.
use Rattle.std.specs.Prelude.{◌≡◌, ℕ, suc, ◌-◌, ◌^◌, List, [], ◌∷◌, length, Result, Ok, Err, Bool, true, false, nat_le, ◌==◌, ◌||◌, if◌then◌else◌}
use mathlib.Core.Bool.{◌&&◌}
use Rattle.std.specs.Int.{w8, w32, w64}
use Rattle.tally.specs.declared.ranked.Ranked.{Ranked}
use Rattle.ucis_model.specs.declared.answers.CountRow.{CountRow}
use Rattle.ucis_model.specs.declared.answers.CoverRow.{CoverRow}
use Rattle.ucis_model.specs.declared.answers.HistoryKind.TheVariants as history
use Rattle.ucis_model.specs.declared.answers.HistoryNode.{HistoryNode}
use Rattle.ucis_model.specs.declared.answers.Answer.TheVariants as answer
use Rattle.cov_proto.specs.declared.replies.Body.{Body}
use Rattle.cov_proto.specs.declared.replies.Body.TheVariants.{Store, Done, Farewell, BadMessage, NoUpload, StageBusy, TooLong, Outside, Differs, Missing, DigestDiffers, BadRecord, WrongShape, BadDesign, ShapeDiffers, ReadOnly}
use Rattle.cov_proto.specs.declared.replies.Reply.{Reply}
use Rattle.request_forms.specs.declared.requests.RequestFault.{RequestFault}
use Rattle.request_forms.specs.declared.requests.RequestFault.TheVariants as fault
use Rattle.request_forms.specs.Reading.{◌>>=◌, Reader, Form, Table, number_at, number_within, digest_at, text_at, flag_at, kind_at, pair, nothing, only, before, any_bytes, path, made, found, unknown}
use Rattle.request_forms.specs.Requests.{from_front}
use Rattle.cov_proto.specs.Reading.{limit_at, shaped, rows}

-- ---- rows

abbrev pub count_row_at : Reader CountRow
count_row_at = shaped (λ x. record { bin = x.0; kind = x.1.0; excluded = x.1.1.0; count = x.1.1.1 }) (pair (number_at w32) (pair kind_at (pair flag_at (number_at w64))))

abbrev pub cover_row_at : Reader CoverRow
cover_row_at = shaped (λ x. record { millionths = x.0; met = x.1.0; excluded = x.1.1.0; covered = x.1.1.1.0; bins = x.1.1.1.1 })
    (pair (number_at w32) (pair flag_at (pair flag_at (pair (number_at w32) (number_at w32)))))

abbrev pub test_row_at : Reader HistoryNode
test_row_at = shaped (λ x. record { kind = history.Test; point = x.0; status = x.1.0; seed = x.1.1.0; time = x.1.1.1.0; digest = x.1.1.1.1.0; id = x.1.1.1.1.1.0; user = x.1.1.1.1.1.1 })
    (pair (number_at w64) (pair (number_within w8 0 3) (pair (number_at w64) (pair (number_at w64) (pair digest_at (pair (text_at 1 33) (text_at 0 32)))))))

abbrev pub rank_row_at : Reader Ranked
rank_row_at = shaped (λ x. record { test = x.0; gain = x.1 }) (pair (number_at w32) (number_at w64))

-- BadMagic has no number but 0.
abbrev pub greatest_number : ℕ → ℕ
greatest_number code = if code == 2 then 0 else 2 ^ 64 - 1

unfoldable pub record_fault_at : Reader (ℕ × ℕ)
record_fault_at bytes = do
  code ← number_within w8 1 6 bytes
  number ← number_within w64 0 (greatest_number code.0) code.1
  Ok ((code.0, number.0), number.1)

-- ---- bodies

-- those without fields
abbrev pub bare_replies : Table Body
bare_replies =
    (0x80, made (λ x. Done) nothing)
    ∷ (0x82, made (λ x. Store answer.New) nothing)
    ∷ (0x89, made (λ x. Store answer.Changed) nothing)
    ∷ (0x8A, made (λ x. Farewell) nothing)
    ∷ (0xC1, made (λ x. NoUpload) nothing)
    ∷ (0xC2, made (λ x. StageBusy) nothing)
    ∷ (0xCC, made (λ x. Store answer.NoSuchPath) nothing)
    ∷ (0xCD, made (λ x. Store answer.AlreadyExcluded) nothing)
    ∷ (0xCE, made (λ x. Store answer.NotExcluded) nothing)
    ∷ (0xCF, made (λ x. Store answer.NoSuchTest) nothing)
    ∷ (0xD1, made (λ x. Store answer.Memory) nothing)
    ∷ (0xD5, made (λ x. Store answer.Stopped) nothing)
    ∷ (0xD6, made (λ x. ReadOnly) nothing)
    ∷ []

-- those with one number or one digest
abbrev pub number_replies : Table Body
number_replies =
    (0x81, made (λ x. Store (answer.Welcome x)) (only (number_at w32)))
    ∷ (0x83, made (λ x. Store (answer.Here x)) (only (number_at w64)))
    ∷ (0xC0, made (λ x. BadMessage x) (only (number_at w32)))
    ∷ (0xC3, made (λ x. TooLong x) (only (number_at w64)))
    ∷ (0xC5, made (λ x. Differs x) (only (number_at w64)))
    ∷ (0xC6, made (λ x. Missing x) (only (number_at w64)))
    ∷ (0xC7, made (λ x. DigestDiffers x) (only digest_at))
    ∷ (0xC9, made (λ x. WrongShape x) (only (number_at w32)))
    ∷ (0xCA, made (λ x. Store (answer.IdTaken x)) (only digest_at))
    ∷ (0xD0, made (λ x. Store (answer.Ahead x)) (only (number_at w64)))
    ∷ (0xD3, made (λ x. ShapeDiffers x) (only (number_at w32)))
    ∷ (0xD4, made (λ x. Store (answer.Moved x)) (only (number_at w64)))
    ∷ []

abbrev pub counts_at : Form Body
counts_at = made (λ x. Store (answer.Rows x.0 x.1)) (before (number_at w32) (rows count_row_at))

abbrev pub coverage_at : Form Body
coverage_at = made (λ x. Store (answer.CoverageIs x)) (only cover_row_at)

abbrev pub tests_at : Form Body
tests_at = made (λ x. Store (answer.TestRows x.0 x.1)) (before (number_at w32) (rows test_row_at))

abbrev pub ranks_at : Form Body
ranks_at = made (λ x. Store (answer.RankRows x)) (rows rank_row_at)

abbrev pub path_is_at : Form Body
path_is_at = made (λ x. Store (answer.PathIs x)) path

abbrev pub chunk_at : Form Body
chunk_at = made (λ x. Store (answer.Chunk x.0 x.1)) (before (number_at w64) any_bytes)

abbrev pub outside_at : Form Body
outside_at = made (λ x. Outside x.0 x.1) (only (pair (number_at w64) (number_at w64)))

abbrev pub bad_record_at : Form Body
bad_record_at = made (λ x. BadRecord x.0 x.1) (only record_fault_at)

abbrev pub full_at : Form Body
full_at = made (λ x. Store (answer.Full x.0 x.1.0 x.1.1)) (only (pair limit_at (pair (number_at w64) (number_at w64))))

abbrev pub bad_design_at : Form Body
bad_design_at = made (λ x. BadDesign x.0 x.1) (before (number_at w32) any_bytes)

-- those with several fields, or a text or rows to the end
abbrev pub long_replies : Table Body
long_replies =
    (0x84, counts_at)
    ∷ (0x85, coverage_at)
    ∷ (0x86, tests_at)
    ∷ (0x87, ranks_at)
    ∷ (0x88, path_is_at)
    ∷ (0x8B, chunk_at)
    ∷ (0xC4, outside_at)
    ∷ (0xC8, bad_record_at)
    ∷ (0xCB, full_at)
    ∷ (0xD2, bad_design_at)
    ∷ []

abbrev pub bare_at : ℕ → Form Body
bare_at tag = found tag bare_replies unknown

abbrev pub number_reply_at : ℕ → Form Body
number_reply_at tag = found tag number_replies (bare_at tag)

abbrev pub body_at : ℕ → Form Body
body_at tag = found tag long_replies (number_reply_at tag)

-- the tags of replies: 80 to 8B and C0 to D6
abbrev pub is_reply_tag : ℕ → Bool
is_reply_tag tag = (nat_le 0x80 tag && nat_le tag 0x8B) || (nat_le 0xC0 tag && nat_le tag 0xD6)

-- the tags of replies that hold a text or rows, which are copied
abbrev pub takes_memory : ℕ → Bool
takes_memory tag = (tag == 0x84) || (tag == 0x86) || (tag == 0x87) || (tag == 0x88) || (tag == 0x8B) || (tag == 0xD2)

abbrev pub begins_with_text : List ℕ → Bool
begins_with_text [] = false
begins_with_text (tag ∷ rest) = takes_memory tag

-- the point and the body behind a tag
unfoldable pub tagged_at : ℕ → Form Reply
tagged_at tag bytes = do
  point ← number_at w64 bytes
  body ← body_at tag point.1
  Ok (record { point = point.0; body = body })

-- the reply, or how many bytes are left at the first fault
unfoldable pub reply_left : Form Reply
reply_left [] = Err 0
reply_left (tag ∷ rest) = if is_reply_tag tag then tagged_at tag rest else Err (suc (length rest))

-- the reply that is all of the body, or the place of the first fault
abbrev pub reply_read : Form Reply
reply_read body = from_front (length body) (reply_left body)

-- A fault is told, or memory ran out behind a tag whose reply holds a text or rows.
abbrev pub MayWant : List ℕ → RequestFault → Type 0
MayWant body (fault.BadMessage at) = Unit {0}
MayWant body fault.Memory = begins_with_text body ≡ true

-- A call read this; want of memory alone is free.
abbrev pub HasReadReply : Result Reply RequestFault → Result Reply ℕ → Type 0
HasReadReply (Ok r) read = read ≡ Ok r
HasReadReply (Err (fault.BadMessage at)) read = read ≡ Err at
HasReadReply (Err fault.Memory) read = Unit {0}
