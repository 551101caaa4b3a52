-- Which replies have a spelling, and what their types say of numbers.
use Rattle.std.specs.Prelude.{◌≡◌, ℕ, ◌<◌, ◌≤◌}
use Rattle.std.specs.List.{AllByRecursion}
use Rattle.tally.specs.declared.ranked.Ranked.{Ranked}
use Rattle.ucis_model.specs.declared.answers.CountRow.{CountRow}
use Rattle.ucis_model.specs.declared.answers.CoverRow.{CoverRow}
use Rattle.ucis_model.specs.declared.answers.HistoryKind.TheVariants as history
use Rattle.ucis_model.specs.declared.answers.HistoryNode.{HistoryNode}
use Rattle.ucis_model.specs.declared.answers.Answer.{Answer}
use Rattle.ucis_model.specs.declared.answers.Answer.TheVariants as answer
use Rattle.cov_proto.specs.declared.replies.Body.{Body}
use Rattle.cov_proto.specs.declared.replies.Body.TheVariants as body
use Rattle.cov_proto.specs.declared.replies.Reply.{Reply}
pub use Rattle.request_forms.specs.Limits.{AreFrom, IsPath, IsText, IsId, IsRequest, Is32, Is64, IsDigest, HasRequestType}

-- ---- what has a spelling

-- a test, and no merge of tests
pub record IsTestRow (row : HistoryNode) : Type 0 where
  pub kind : row.kind ≡ history.Test
  pub status : row.status < 4
  pub id : IsId row.id
  pub user : IsText 0 32 row.user

abbrev pub IsAnswer : Answer → Type 0
IsAnswer (answer.TestRows total rows) = AllByRecursion IsTestRow rows
IsAnswer (answer.PathIs path) = IsPath path
IsAnswer other = Unit {0}

-- the number of BadMagic is 0
pub record IsRecordFault (code number : ℕ) : Type 0 where
  pub some : 1 ≤ code
  pub known : code ≤ 6
  pub magic : code ≡ 2 → number ≡ 0

abbrev pub IsReplyBody : Body → Type 0
IsReplyBody (body.Store a) = IsAnswer a
IsReplyBody (body.BadRecord code number) = IsRecordFault code number
IsReplyBody other = Unit {0}

abbrev pub IsReply : Reply → Type 0
IsReply r = IsReplyBody r.body

-- ---- what the types say: numbers of 32 and of 64 bits, digests of 32 bytes

pub record HasCountType (row : CountRow) : Type 0 where
  pub bin : Is32 row.bin
  pub count : Is64 row.count

pub record HasCoverType (row : CoverRow) : Type 0 where
  pub millionths : Is32 row.millionths
  pub covered : Is32 row.covered
  pub bins : Is32 row.bins

pub record HasTestType (row : HistoryNode) : Type 0 where
  pub point : Is64 row.point
  pub seed : Is64 row.seed
  pub time : Is64 row.time
  pub digest : IsDigest row.digest

pub record HasRankType (row : Ranked) : Type 0 where
  pub test : Is32 row.test
  pub gain : Is64 row.gain

abbrev pub HasAnswerType : Answer → Type 0
HasAnswerType (answer.Welcome bins) = Is32 bins
HasAnswerType (answer.Here first) = Is64 first
HasAnswerType (answer.Rows total rows) = Is32 total × AllByRecursion HasCountType rows
HasAnswerType (answer.CoverageIs row) = HasCoverType row
HasAnswerType (answer.TestRows total rows) = Is32 total × AllByRecursion HasTestType rows
HasAnswerType (answer.RankRows rows) = AllByRecursion HasRankType rows
HasAnswerType (answer.Ahead have) = Is64 have
HasAnswerType (answer.IdTaken digest) = IsDigest digest
HasAnswerType (answer.Full which have want) = Is64 have × Is64 want
HasAnswerType (answer.Moved since) = Is64 since
HasAnswerType (answer.Chunk len bytes) = Is64 len
HasAnswerType other = Unit {0}

abbrev pub HasBodyType : Body → Type 0
HasBodyType (body.Store a) = HasAnswerType a
HasBodyType (body.BadMessage at) = Is32 at
HasBodyType (body.TooLong n) = Is64 n
HasBodyType (body.Outside offset len) = Is64 offset × Is64 len
HasBodyType (body.Differs at) = Is64 at
HasBodyType (body.Missing at) = Is64 at
HasBodyType (body.DigestDiffers got) = IsDigest got
HasBodyType (body.BadRecord code number) = Is64 number
HasBodyType (body.WrongShape at) = Is32 at
HasBodyType (body.BadDesign at kind) = Is32 at
HasBodyType (body.ShapeDiffers at) = Is32 at
HasBodyType other = Unit {0}

abbrev pub HasReplyType : Reply → Type 0
HasReplyType r = Is64 r.point × HasBodyType r.body
