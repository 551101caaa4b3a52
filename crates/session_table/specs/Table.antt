-- What is said to a body at a stage, by itself or by a turn, and the stage afterwards.
use Rattle.std.specs.Prelude.{◌≡◌, ◌⊎◌, ℕ, List, length, Option, Some, None, Result, Ok, Err, Bool, true, false}
use Rattle.std.proofs.Common.{inl, inr}
use Rattle.design_data.specs.declared.design.Design.{Design}
use Rattle.record_codec.specs.declared.fault.RecordFault.{RecordFault}
use Rattle.record_codec.specs.declared.fault.RecordFault.TheVariants as no_record
use Rattle.ucis_model.specs.declared.answers.Answer.TheVariants as answer
use Rattle.cov_history.specs.declared.asks.Ask.TheVariants as ask
use Rattle.cov_history.specs.Turns.{Wish, Plain, Admit, Revise}
use Rattle.upload_stage.specs.declared.fault.StageFault.{StageFault}
use Rattle.upload_stage.specs.declared.fault.StageFault.TheVariants as stage
use Rattle.upload_stage.specs.Uploads.{Upload, begin_fault, piece_fault, finish_fault, begun, with_piece, finished, bytes_of}
use Rattle.cov_proto.specs.Request.{Request}
use Rattle.cov_proto.specs.Request.TheVariants as request
use Rattle.cov_proto.specs.declared.replies.Body.{Body}
use Rattle.cov_proto.specs.declared.replies.Body.TheVariants as body
use Rattle.cov_proto.specs.Requests.{request_read}
use Rattle.cov_compile.specs.Faults.{fault_word, fault_place}
use Rattle.session_table.specs.Contents.{Content, NoRecord, OtherShape, Fitting, IsContent, Text, LongText, NoDesign, OtherTables, Revising, IsTextContent}

-- A reply, or a wish for a turn; and the stage afterwards.
pub record Row : Type 0 where
  pub said : Body ⊎ Wish
  pub stage : Upload

abbrev pub told : Body → Upload → Row
told b s = record { said = inl b; stage = s }

abbrev pub wishes : Wish → Upload → Row
wishes w s = record { said = inr w; stage = s }

-- ---- refusals as replies

abbrev pub stage_refusal : StageFault → Body
stage_refusal stage.NoUpload = body.NoUpload
stage_refusal stage.StageBusy = body.StageBusy
stage_refusal (stage.TooLong n) = body.TooLong n
stage_refusal (stage.Outside offset len) = body.Outside offset len
stage_refusal (stage.Differs at) = body.Differs at
stage_refusal (stage.Missing at) = body.Missing at
stage_refusal (stage.DigestDiffers got) = body.DigestDiffers got
stage_refusal stage.Memory = body.Store answer.Memory

-- the fault's code and number; BadMagic has the number 0
abbrev pub record_refusal : RecordFault → Body
record_refusal (no_record.Short at) = body.BadRecord 1 at
record_refusal no_record.BadMagic = body.BadRecord 2 0
record_refusal (no_record.BadVersion version) = body.BadRecord 3 version
record_refusal (no_record.BadField at) = body.BadRecord 4 at
record_refusal (no_record.TooManyEvents count) = body.BadRecord 5 count
record_refusal (no_record.Trailing at) = body.BadRecord 6 at
record_refusal no_record.Memory = body.Store answer.Memory

-- what is said to an upload that is whole, for a record
abbrev pub said_to : Content → Body ⊎ Wish
said_to (NoRecord fault) = inl (record_refusal fault)
said_to (OtherShape place) = inl (body.WrongShape place)
said_to (Fitting r) = inr (Admit r)

-- the same for a text
abbrev pub said_to_text : List ℕ → Text → Body ⊎ Wish
said_to_text text LongText = inl (body.TooLong (length text))
said_to_text text (NoDesign fault) = inl (body.BadDesign (fault_place fault) (fault_word fault))
said_to_text text (OtherTables place) = inl (body.ShapeDiffers place)
said_to_text text (Revising revision) = inr (Revise revision)

-- ---- the table

abbrev pub begin_row : Option StageFault → Upload → (len : ℕ) → Row
begin_row None s len = told body.Done (begun len)
begin_row (Some fault) s len = told (stage_refusal fault) s

abbrev pub piece_row : Option StageFault → Upload → (offset : ℕ) → List ℕ → Row
piece_row None s offset bytes = told body.Done (with_piece s offset bytes)
piece_row (Some fault) s offset bytes = told (stage_refusal fault) s

abbrev pub IsCommitRow : (opening : Design) → Option StageFault → Upload → Row → Type 0
IsCommitRow opening None s row = (c : Content) × IsContent opening (bytes_of s) c × (row ≡ record { said = said_to c; stage = finished s })
IsCommitRow opening (Some fault) s row = row ≡ told (stage_refusal fault) (finished s)

abbrev pub IsReviseRow : (opening : Design) → Option StageFault → Upload → Row → Type 0
IsReviseRow opening None s row = (t : Text) × IsTextContent opening (bytes_of s) t × (row ≡ record { said = said_to_text (bytes_of s) t; stage = finished s })
IsReviseRow opening (Some fault) s row = row ≡ told (stage_refusal fault) (finished s)

-- The body was read as this request, or as none from a place on; the row is what is said to it.
abbrev pub IsRow : (opening : Design) → Upload → Result Request ℕ → Row → Type 0
IsRow opening s (Err at) row = row ≡ told (body.BadMessage at) s
IsRow opening s (Ok (request.Begin len)) row = row ≡ begin_row (begin_fault s len) s len
IsRow opening s (Ok (request.Piece offset bytes)) row = row ≡ piece_row (piece_fault s offset bytes) s offset bytes
IsRow opening s (Ok (request.Commit digest)) row = IsCommitRow opening (finish_fault s digest) s row
IsRow opening s (Ok (request.Revise digest)) row = IsReviseRow opening (finish_fault s digest) s row
IsRow opening s (Ok (request.Hello point)) row = row ≡ wishes (Plain (ask.Hello point)) s
IsRow opening s (Ok (request.Counts first path)) row = row ≡ wishes (Plain (ask.Counts first path)) s
IsRow opening s (Ok (request.Coverage path)) row = row ≡ wishes (Plain (ask.Coverage path)) s
IsRow opening s (Ok (request.Illegal first)) row = row ≡ wishes (Plain (ask.Illegal first)) s
IsRow opening s (Ok (request.Tests first)) row = row ≡ wishes (Plain (ask.Tests first)) s
IsRow opening s (Ok (request.TestCounts first id path)) row = row ≡ wishes (Plain (ask.TestCounts first id path)) s
IsRow opening s (Ok request.Rank) row = row ≡ wishes (Plain ask.Rank) s
IsRow opening s (Ok (request.Exclude path)) row = row ≡ wishes (Plain (ask.Exclude path)) s
IsRow opening s (Ok (request.Include path)) row = row ≡ wishes (Plain (ask.Include path)) s
IsRow opening s (Ok (request.NameOf bin)) row = row ≡ wishes (Plain (ask.NameOf bin)) s
IsRow opening s (Ok (request.Fetch place offset)) row = row ≡ wishes (Plain (ask.Fetch place offset)) s
IsRow opening s (Ok request.Bye) row = row ≡ told body.Farewell s

-- ---- want of memory

abbrev pub unless : Option StageFault → Upload → Option Upload
unless None s = Some s
unless (Some fault) s = None

-- The stage after Memory is said instead; none where that is never said: to what is no message, to a Hello and a Bye, to a
-- Begin that is refused, and to a Commit or a Revise that the upload alone refuses.
abbrev pub lost : Upload → Result Request ℕ → Option Upload
lost s (Err at) = None
lost s (Ok (request.Hello point)) = None
lost s (Ok request.Bye) = None
lost s (Ok (request.Begin len)) = unless (begin_fault s len) s
lost s (Ok (request.Commit digest)) = unless (finish_fault s digest) (finished s)
lost s (Ok (request.Revise digest)) = unless (finish_fault s digest) (finished s)
lost s (Ok other) = Some s

abbrev pub is_bye_request : Result Request ℕ → Bool
is_bye_request (Ok request.Bye) = true
is_bye_request other = false

abbrev pub is_bye : List ℕ → Bool
is_bye b = is_bye_request (request_read b)
