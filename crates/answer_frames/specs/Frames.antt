-- Which replies have a spelling that a frame can hold.
use Rattle.std.specs.Prelude.{◌≡◌, ◌⊎◌, ◌-◌, ◌+◌, ◌≤◌, length, Bool, true, false}
use Rattle.ucis_model.specs.declared.answers.Answer.{Answer}
use Rattle.ucis_model.specs.declared.answers.Answer.TheVariants as answer
use Rattle.cov_proto.specs.declared.replies.Body.{Body}
use Rattle.cov_proto.specs.declared.replies.Body.TheVariants as body
use Rattle.cov_proto.specs.Limits.{IsReplyBody, HasAnswerType}
use Rattle.cov_proto.specs.Frames.{longest_body}
use Rattle.cov_proto.specs.Spelled.{body_fields}

-- the reply has a spelling, and a frame can hold it behind its tag, which is one byte, and its point, which is eight
unfoldable pub IsWritable : Body → Type 0
IsWritable b = IsReplyBody b × (length (body_fields b) ≤ longest_body - (1 + 8))

-- an answer with rows, a text or bytes
abbrev pub is_long : Answer → Bool
is_long (answer.Rows total rows) = true
is_long (answer.TestRows total rows) = true
is_long (answer.RankRows rows) = true
is_long (answer.PathIs path) = true
is_long (answer.Chunk len bytes) = true
is_long other = false

-- no reply with this answer has such a spelling, where its numbers and digests are of their types
abbrev pub HasNoFrame : Answer → Type 0
HasNoFrame a = HasAnswerType a → IsWritable (body.Store a) → ⊥

-- the answer itself; or Memory, where it has rows, a text or bytes, and no spelling that a frame can hold
abbrev pub IsKept : (given kept : Answer) → Type 0
IsKept given kept = (kept ≡ given) ⊎ ((kept ≡ answer.Memory) × (is_long given ≡ true) × HasNoFrame given)
