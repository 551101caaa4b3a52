-- A session over its list of bodies.
use Rattle.std.specs.Prelude.{◌≡◌, ◌⊎◌, ℕ, ◌≤◌, List, [], ◌∷◌, ◌++◌, length, Option, Some, Result}
use Rattle.std.proofs.Common.{inl, inr}
use Rattle.design_data.specs.declared.design.Design.{Design}
use Rattle.ucis_model.specs.declared.answers.Answer.{Answer}
use Rattle.ucis_model.specs.declared.answers.Answer.TheVariants as answer
use Rattle.cov_history.specs.declared.entry.Entry.{Entry}
use Rattle.cov_history.specs.Turns.{Wish, TurnsAt}
use Rattle.upload_stage.specs.Uploads.{Upload}
use Rattle.cov_proto.specs.Request.{Request}
use Rattle.cov_proto.specs.declared.replies.Body.{Body}
use Rattle.cov_proto.specs.declared.replies.Body.TheVariants as body
use Rattle.cov_proto.specs.declared.replies.Reply.{Reply}
use Rattle.cov_proto.specs.Requests.{request_read}
use Rattle.session_table.specs.Table.{Row, IsRow, lost}

-- where a session stands between two bodies: the point of its last reply, and its stage
pub record Place : Type 0 where
  pub point : ℕ
  pub stage : Upload

-- a reply by the table alone: its point is that of the reply before
pub record Told (from : Place) (b : Body) (stage : Upload) (reply : Reply) (added : List (ℕ × Entry)) (to : Place) : Type 0 where
  pub body : reply.body ≡ b
  pub point : reply.point ≡ from.point
  pub goes : to ≡ record { point = from.point; stage = stage }
  pub adds : added ≡ []

-- a reply by a turn: its point is that after the turn
pub record Turned (opening : Design) (h : List Entry) (caller : ℕ) (from : Place) (w : Wish) (stage : Upload) (reply : Reply) (added : List (ℕ × Entry)) (to : Place) : Type 0 where
  pub answer : Answer
  pub body : reply.body ≡ body.Store answer
  pub turn : TurnsAt opening h caller from.point w answer added reply.point
  pub goes : to ≡ record { point = reply.point; stage = stage }

abbrev pub BySaid : (opening : Design) → List Entry → (caller : ℕ) → (from : Place) → Body ⊎ Wish → (stage : Upload) → Reply → (added : List (ℕ × Entry)) → (to : Place) → Type 0
BySaid opening h caller from (inl b) stage reply added to = Told from b stage reply added to
BySaid opening h caller from (inr w) stage reply added to = Turned opening h caller from w stage reply added to

-- memory is wanted, before a turn or in it, where it may be; no entry is made
pub record Lacks (h : List Entry) (from : Place) (may : Option Upload) (reply : Reply) (added : List (ℕ × Entry)) (to : Place) : Type 0 where
  pub stage : Upload
  pub may_be : may ≡ Some stage
  pub body : reply.body ≡ body.Store answer.Memory
  pub low : from.point ≤ reply.point
  pub high : reply.point ≤ length h
  pub goes : to ≡ record { point = reply.point; stage = stage }
  pub adds : added ≡ []

-- what the table says to a request is replied
pub record Replied (opening : Design) (h : List Entry) (caller : ℕ) (from : Place) (q : Result Request ℕ) (reply : Reply) (added : List (ℕ × Entry)) (to : Place) : Type 0 where
  pub row : Row
  pub is_row : IsRow opening from.stage q row
  pub by : BySaid opening h caller from row.said row.stage reply added to

-- a request is answered
abbrev pub Answered : (opening : Design) → List Entry → (caller : ℕ) → (from : Place) → Result Request ℕ → Reply → (added : List (ℕ × Entry)) → (to : Place) → Type 0
Answered opening h caller from q reply added to = Replied opening h caller from q reply added to ⊎ Lacks h from (lost from.stage q) reply added to

-- a body is answered
unfoldable pub Step : (opening : Design) → List Entry → (caller : ℕ) → (from : Place) → (body : List ℕ) → Reply → (added : List (ℕ × Entry)) → (to : Place) → Type 0
Step opening h caller from b reply added to = Answered opening h caller from (request_read b) reply added to

-- Each body is answered by one reply, stage and point going on from one to the next.
abbrev pub Serves : (opening : Design) → List Entry → (caller : ℕ) → (from : Place) → (bodies : List (List ℕ)) → (replies : List Reply) → (entries : List (ℕ × Entry)) → (to : Place) → Type 0
Serves opening h caller from [] [] entries to = (entries ≡ []) × (to ≡ from)
Serves opening h caller from (b ∷ bs) (r ∷ rs) entries to = (mid : Place) × (first rest : List (ℕ × Entry)) × Step opening h caller from b r first mid × Serves opening h caller mid bs rs rest to × (entries ≡ first ++ rest)
Serves opening h caller from [] (r ∷ rs) entries to = ⊥
Serves opening h caller from (b ∷ bs) [] entries to = ⊥
