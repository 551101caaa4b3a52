-- How replies are spelled: one list of bytes, which is the body of a frame. It begins with a tag, the point follows, and then stand the
-- fields. Numbers have their highest byte first; the last text of a body has no length.
use Rattle.std.specs.Prelude.{ℕ, List, [], ◌∷◌, ◌++◌, Bool, true, false}
use Rattle.std.specs.List.{flat_map}
use Rattle.std.specs.Int.{w32, w64, to_be_bytes}
use Rattle.design_data.specs.declared.infos.BinKind.{BinKind}
use Rattle.design_data.specs.declared.infos.BinKind.TheVariants.{CvgBin, IllegalBin, IgnoreBin, DefaultBin}
use Rattle.tally.specs.declared.ranked.Ranked.{Ranked}
use Rattle.ucis_model.specs.declared.answers.CountRow.{CountRow}
use Rattle.ucis_model.specs.declared.answers.CoverRow.{CoverRow}
use Rattle.ucis_model.specs.declared.answers.HistoryNode.{HistoryNode}
use Rattle.ucis_model.specs.declared.answers.Which.{Which}
use Rattle.ucis_model.specs.declared.answers.Which.TheVariants as which
use Rattle.ucis_model.specs.declared.answers.Answer.{Answer}
use Rattle.ucis_model.specs.declared.answers.Answer.TheVariants as answer
pub use Rattle.request_forms.specs.Spelled.{one_byte, text, request_spelled}
use Rattle.cov_proto.specs.declared.replies.Body.{Body}
use Rattle.cov_proto.specs.declared.replies.Body.TheVariants as body
use Rattle.cov_proto.specs.declared.replies.Reply.{Reply}

abbrev pub flag : Bool → List ℕ
flag false = 0 ∷ []
flag true = 1 ∷ []

abbrev pub kind : BinKind → List ℕ
kind CvgBin = 0 ∷ []
kind IllegalBin = 1 ∷ []
kind IgnoreBin = 2 ∷ []
kind DefaultBin = 3 ∷ []

abbrev pub limit : Which → List ℕ
limit which.Tests = 0 ∷ []
limit which.Bytes = 1 ∷ []
limit which.Entries = 2 ∷ []
limit which.History = 3 ∷ []

-- bin, kind, whether it is excluded, count
unfoldable pub count_row : CountRow → List ℕ
count_row row = to_be_bytes w32 row.bin ++ (kind row.kind ++ (flag row.excluded ++ to_be_bytes w64 row.count))

-- coverage in millionths, whether it is met, whether it is excluded, covered bins, bins
abbrev pub cover_row : CoverRow → List ℕ
cover_row row = to_be_bytes w32 row.millionths ++ (flag row.met ++ (flag row.excluded ++ (to_be_bytes w32 row.covered ++ to_be_bytes w32 row.bins)))

-- point, status, seed, time, digest, id, user
unfoldable pub test_row : HistoryNode → List ℕ
test_row row = to_be_bytes w64 row.point ++ (one_byte row.status ++ (to_be_bytes w64 row.seed ++ (to_be_bytes w64 row.time ++ (row.digest ++ (text row.id ++ text row.user)))))

-- the test's place, gain
unfoldable pub rank_row : Ranked → List ℕ
rank_row row = to_be_bytes w32 row.test ++ to_be_bytes w64 row.gain

unfoldable pub answer_tag : Answer → ℕ
answer_tag (answer.Welcome bins) = 0x81
answer_tag answer.New = 0x82
answer_tag (answer.Here first) = 0x83
answer_tag (answer.Rows total rows) = 0x84
answer_tag (answer.CoverageIs row) = 0x85
answer_tag (answer.TestRows total rows) = 0x86
answer_tag (answer.RankRows rows) = 0x87
answer_tag (answer.PathIs path) = 0x88
answer_tag answer.Changed = 0x89
answer_tag (answer.Chunk len bytes) = 0x8B
answer_tag (answer.IdTaken digest) = 0xCA
answer_tag (answer.Full limit have want) = 0xCB
answer_tag answer.NoSuchPath = 0xCC
answer_tag answer.AlreadyExcluded = 0xCD
answer_tag answer.NotExcluded = 0xCE
answer_tag answer.NoSuchTest = 0xCF
answer_tag (answer.Ahead have) = 0xD0
answer_tag answer.Memory = 0xD1
answer_tag (answer.Moved since) = 0xD4
answer_tag answer.Stopped = 0xD5

unfoldable pub answer_fields : Answer → List ℕ
answer_fields (answer.Welcome bins) = to_be_bytes w32 bins
answer_fields answer.New = []
answer_fields (answer.Here first) = to_be_bytes w64 first
answer_fields (answer.Rows total rows) = to_be_bytes w32 total ++ flat_map count_row rows
answer_fields (answer.CoverageIs row) = cover_row row
answer_fields (answer.TestRows total rows) = to_be_bytes w32 total ++ flat_map test_row rows
answer_fields (answer.RankRows rows) = flat_map rank_row rows
answer_fields (answer.PathIs path) = path
answer_fields answer.Changed = []
answer_fields (answer.Ahead have) = to_be_bytes w64 have
answer_fields (answer.IdTaken digest) = digest
answer_fields (answer.Full which have want) = limit which ++ (to_be_bytes w64 have ++ to_be_bytes w64 want)
answer_fields answer.NoSuchPath = []
answer_fields answer.AlreadyExcluded = []
answer_fields answer.NotExcluded = []
answer_fields answer.NoSuchTest = []
answer_fields answer.Memory = []
answer_fields (answer.Moved since) = to_be_bytes w64 since
answer_fields answer.Stopped = []
answer_fields (answer.Chunk len bytes) = to_be_bytes w64 len ++ bytes

unfoldable pub body_tag : Body → ℕ
body_tag (body.Store a) = answer_tag a
body_tag body.Done = 0x80
body_tag body.Farewell = 0x8A
body_tag (body.BadMessage at) = 0xC0
body_tag body.NoUpload = 0xC1
body_tag body.StageBusy = 0xC2
body_tag (body.TooLong n) = 0xC3
body_tag (body.Outside offset len) = 0xC4
body_tag (body.Differs at) = 0xC5
body_tag (body.Missing at) = 0xC6
body_tag (body.DigestDiffers got) = 0xC7
body_tag (body.BadRecord code number) = 0xC8
body_tag (body.WrongShape at) = 0xC9
body_tag (body.BadDesign at kind) = 0xD2
body_tag (body.ShapeDiffers at) = 0xD3
body_tag body.ReadOnly = 0xD6

unfoldable pub body_fields : Body → List ℕ
body_fields (body.Store a) = answer_fields a
body_fields body.Done = []
body_fields body.Farewell = []
body_fields (body.BadMessage at) = to_be_bytes w32 at
body_fields body.NoUpload = []
body_fields body.StageBusy = []
body_fields (body.TooLong n) = to_be_bytes w64 n
body_fields (body.Outside offset len) = to_be_bytes w64 offset ++ to_be_bytes w64 len
body_fields (body.Differs at) = to_be_bytes w64 at
body_fields (body.Missing at) = to_be_bytes w64 at
body_fields (body.DigestDiffers got) = got
body_fields (body.BadRecord code number) = one_byte code ++ to_be_bytes w64 number
body_fields (body.WrongShape at) = to_be_bytes w32 at
body_fields (body.BadDesign at kind) = to_be_bytes w32 at ++ kind
body_fields (body.ShapeDiffers at) = to_be_bytes w32 at
body_fields body.ReadOnly = []

-- what is answered
unfoldable pub reply_spelled : Reply → List ℕ
reply_spelled r = body_tag r.body ∷ (to_be_bytes w64 r.point ++ body_fields r.body)
