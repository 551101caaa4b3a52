-- A stream of frames cut into bodies, what is written for them, and the session as a whole.
use Rattle.std.specs.Prelude.{◌≡◌, ℕ, ◌<◌, ◌≤◌, List, [], ◌∷◌, ◌++◌, length, take, All, Option, None, true, false, ⊤}
use Rattle.std.specs.Io.KnownBytes.{IsAtEnd}
use Rattle.std.specs.List.{flat_map}
use Rattle.cov_spec.specs.Told.{Grows, Shrinks}
use Rattle.design_data.specs.declared.design.Design.{Design}
use Rattle.cov_history.specs.declared.entry.Entry.{Entry}
use Rattle.cov_history.specs.Turns.{Grown}
use Rattle.cov_proto.specs.declared.replies.Reply.{Reply}
use Rattle.cov_proto.specs.Frames.{IsBody, IsTorn, HasBadLength, frame, frames}
use Rattle.cov_proto.specs.Spelled.{reply_spelled}
use Rattle.session_table.specs.Table.{is_bye}
use Rattle.session_table.specs.Serves.{Place, Serves}
use Rattle.cov_session.specs.declared.ended.Ended.{Ended}
use Rattle.cov_session.specs.declared.ended.Ended.TheVariants as ended

-- ---- how a stream is cut

abbrev pub NoBye : List (List ℕ) → Type 0
NoBye bodies = All (λ b. is_bye b ≡ false) bodies

-- the last body is a Bye, and no other is
pub record LastBye (bodies : List (List ℕ)) : Type 0 where
  pub before : List (List ℕ)
  pub last : List ℕ
  pub is : bodies ≡ before ++ last ∷ []
  pub bye : is_bye last ≡ true
  pub none : NoBye before

-- no body but the last is a Bye
pub record NoByeBefore (bodies : List (List ℕ)) : Type 0 where
  pub before : List (List ℕ)
  pub last : List ℕ
  pub is : bodies ≡ before ++ last ∷ []
  pub none : NoBye before

-- what follows the frames, and where a Bye stands
abbrev pub Rest : Ended → (bodies : List (List ℕ)) → (rest : List ℕ) → Type 0
Rest ended.InputEnd bodies rest = NoBye bodies × (rest ≡ [])
Rest ended.TornFrame bodies rest = NoBye bodies × (0 < length rest) × IsTorn rest
Rest (ended.FrameTooLong len) bodies rest = NoBye bodies × HasBadLength len rest
Rest ended.SessionTooLong bodies rest = NoBye bodies × IsTorn rest
Rest ended.ReadFault bodies rest = NoBye bodies × IsTorn rest
Rest ended.Bye bodies rest = LastBye bodies
Rest ended.WriteFault bodies rest = NoByeBefore bodies
Rest ended.Memory bodies rest = (bodies ≡ []) × (rest ≡ [])

-- the bytes are the frames of the bodies, followed by a rest
pub record Cut (bytes : List ℕ) (bodies : List (List ℕ)) (end : Ended) : Type 0 where
  pub rest : List ℕ
  pub is : bytes ≡ frames bodies ++ rest
  pub each : All IsBody bodies
  pub ends : Rest end bodies rest

-- ---- what is written

abbrev pub reply_frame : Reply → List ℕ
reply_frame reply = frame (reply_spelled reply)

-- the replies before the last are written whole, and of the last a part from its front
pub record WritesFront (before now : Option (List ℕ)) (replies : List Reply) : Type 0 where
  pub whole : List Reply
  pub last : Reply
  pub some : ℕ
  pub is : replies ≡ whole ++ last ∷ []
  pub out : Grows before now (flat_map reply_frame whole ++ take some (reply_frame last))

-- The frames of the replies are written, all of them but where a write failed.
abbrev pub Out : Ended → (before now : Option (List ℕ)) → List Reply → Type 0
Out ended.WriteFault before now replies = WritesFront before now replies
Out other before now replies = Grows before now (flat_map reply_frame replies)

-- at the end of the input fewer bytes were taken than may be, and nothing is left
abbrev pub TookAll : (most : ℕ) → List ℕ → (left : Option (List ℕ)) → Type 0
TookAll most bytes left = (length bytes < most) × IsAtEnd left

-- What the end says of the bytes taken: a session that is too long took as many as it may, and one whose read failed took
-- fewer.
abbrev pub Took : Ended → (most : ℕ) → List ℕ → (left : Option (List ℕ)) → Type 0
Took ended.InputEnd most bytes left = TookAll most bytes left
Took ended.TornFrame most bytes left = TookAll most bytes left
Took ended.SessionTooLong most bytes left = length bytes ≡ most
Took ended.ReadFault most bytes left = length bytes < most
Took other most bytes left = ⊤

-- ---- the session

-- what the link tells, and what the port has seen, at a moment
pub record Outside : Type 0 where
  pub left : Option (List ℕ)
  pub written : Option (List ℕ)
  pub seen : List Entry
  pub own : List (ℕ × Entry)

-- a session begins at the point of what was seen, with no upload
abbrev pub begins_at : List Entry → Place
begins_at h = record { point = length h; stage = None }

-- What was taken is cut into bodies; each is answered by a reply at the history as it was seen at the end, and the replies
-- are written.
pub record Session (opening : Design) (caller most : ℕ) (before after : Outside) (end : Ended) : Type 0 where
  pub taken : List ℕ
  pub bodies : List (List ℕ)
  pub replies : List Reply
  pub entries : List (ℕ × Entry)
  pub to : Place
  pub takes : Shrinks before.left after.left taken
  pub most_taken : length taken ≤ most
  pub took : Took end most taken after.left
  pub cut : Cut taken bodies end
  pub grown : Grown before.seen after.seen
  pub serves : Serves opening after.seen caller (begins_at before.seen) bodies replies entries to
  pub out : Out end before.written after.written replies
  pub own : after.own ≡ before.own ++ entries
