-- What laws say of replies and their bytes.
use Rattle.std.specs.Prelude.{◌≡◌, ℕ, List, ◌++◌, length, Bool, true, false, ◌==◌}
use Rattle.ucis_model.specs.declared.answers.Answer.TheVariants as answer
use Rattle.request_forms.specs.declared.requests.RequestFault.{RequestFault}
use Rattle.request_forms.specs.declared.requests.RequestFault.TheVariants.{BadMessage, Memory}
pub use Rattle.request_forms.specs.Laws.{AreBytes, SpellsRequest, HasNoRequest, FailsBy, BeginsRequest, stops_request, longest_field}
use Rattle.request_forms.specs.Reading.{is_bad}
use Rattle.cov_proto.specs.declared.replies.Body.{Body}
use Rattle.cov_proto.specs.declared.replies.Body.TheVariants as body
use Rattle.cov_proto.specs.declared.replies.Reply.{Reply}
use Rattle.cov_proto.specs.Limits.{IsReply, HasReplyType}
use Rattle.cov_proto.specs.Spelled.{reply_spelled}

-- the bytes are the spelling of this reply, which is within its limits
pub record SpellsReply (r : Reply) (bytes : List ℕ) : Type 0 where
  pub parts : bytes ≡ reply_spelled r
  pub fits : IsReply r
  pub typed : HasReplyType r

-- A fault, other than want of memory, says that no reply has these bytes.
abbrev pub HasNoReply : List ℕ → RequestFault → Type 0
HasNoReply bytes (BadMessage at) = (r : Reply) → SpellsReply r bytes → ⊥
HasNoReply bytes Memory = Unit {0}

-- ---- where faults stand

-- Some reply begins with these bytes.
pub record BeginsReply (bytes : List ℕ) : Type 0 where
  pub reply : Reply
  pub more : List ℕ
  pub spells : SpellsReply reply (bytes ++ more)

-- no text at the end of the reply takes this byte, and no further row begins with it, behind which these stand
abbrev pub stops_reply : Body → ℕ → List ℕ → Bool
stops_reply (body.Store (answer.Rows total rows)) byte more = length more == 0
stops_reply (body.Store (answer.TestRows total rows)) byte more = length more == 0
stops_reply (body.Store (answer.RankRows rows)) byte more = length more == 0
stops_reply (body.Store (answer.PathIs path)) byte more = is_bad 32 byte
stops_reply (body.Store (answer.Chunk len bytes)) byte more = false
stops_reply (body.BadDesign at kind) byte more = false
stops_reply other byte more = true

-- it ends with a text, or with rows
abbrev pub is_open : Body → Bool
is_open (body.Store (answer.Rows total rows)) = true
is_open (body.Store (answer.TestRows total rows)) = true
is_open (body.Store (answer.RankRows rows)) = true
is_open (body.Store (answer.PathIs path)) = true
is_open (body.Store (answer.Chunk len bytes)) = true
is_open (body.BadDesign at kind) = true
is_open other = false
