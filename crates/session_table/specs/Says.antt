-- What one body leads to, over a history that grows.
use Rattle.std.specs.Prelude.{◌≡◌, ◌⊎◌, ℕ, ◌≤◌, List, ◌++◌, length, Option, Some, Result, Ok, Err}
use Rattle.std.proofs.Common.{inl}
use Rattle.design_data.specs.declared.design.Design.{Design}
use Rattle.record_codec.specs.declared.record.Record.{Record}
use Rattle.ucis_model.specs.declared.answers.Answer.TheVariants as answer
use Rattle.cov_compile.specs.declared.fault.CompileFault.{CompileFault}
use Rattle.cov_compile.specs.Compiling.{is_memory}
use Rattle.cov_compile.specs.Texts.{Declared}
use Rattle.cov_history.specs.declared.entry.Entry.{Entry}
use Rattle.cov_history.specs.Turns.{Wish, Grown}
use Rattle.upload_stage.specs.Uploads.{Upload}
use Rattle.cov_proto.specs.Request.{Request}
use Rattle.cov_proto.specs.declared.replies.Body.{Body}
use Rattle.cov_proto.specs.declared.replies.Body.TheVariants as body
use Rattle.cov_proto.specs.declared.replies.Reply.{Reply}
use Rattle.answer_frames.specs.Frames.{IsWritable}
use Rattle.session_table.specs.declared.talk.Talk.{Talk}
use Rattle.session_table.specs.declared.bodies.Said.{Said}
use Rattle.cov_compile.specs.Faults.{fault_word, fault_place}
use Rattle.session_table.specs.Contents.{Fitting, IsContent, IsTextContent, Revising}
use Rattle.session_table.specs.Table.{Row, said_to, said_to_text, is_bye}
use Rattle.session_table.specs.Serves.{Place, BySaid, Lacks, Answered, Step}

abbrev pub place_of : Talk → Place
place_of t = record { point = t.point; stage = t.stage }

-- ---- over a history that grows

-- what is said by itself or by a turn
pub record Rowed (opening : Design) (caller : ℕ) (seen : List Entry) (own : List (ℕ × Entry)) (after : List Entry) (own_after : List (ℕ × Entry)) (from : Place) (said : Body ⊎ Wish) (stage : Upload) (may : Option Upload) (reply : Reply) (to : Place) : Type 0 where
  pub adds : List (ℕ × Entry)
  pub by : BySaid opening after caller from said stage reply adds to ⊎ Lacks after from may reply adds to
  pub owns : own_after ≡ own ++ adds
  pub grown : Grown seen after
  pub within : to.point ≤ length after
  pub writable : IsWritable reply.body

-- what is said by itself, or Memory, while the history stays
pub record Local (from : Place) (row : Row) (may : Option Upload) (reply : Reply) (to : Place) : Type 0 where
  pub by : ((b : Body) × (row.said ≡ inl b) × (reply.body ≡ b) × (to ≡ record { point = from.point; stage = row.stage }))
      ⊎ ((stage : Upload) × (may ≡ Some stage) × (reply.body ≡ body.Store answer.Memory) × (to ≡ record { point = from.point; stage = stage }))
  pub point : reply.point ≡ from.point
  pub writable : IsWritable reply.body

-- what a request leads to
pub record Replies (opening : Design) (caller : ℕ) (seen : List Entry) (own : List (ℕ × Entry)) (after : List Entry) (own_after : List (ℕ × Entry)) (from : Place) (q : Result Request ℕ) (reply : Reply) (to : Place) : Type 0 where
  pub adds : List (ℕ × Entry)
  pub answered : Answered opening after caller from q reply adds to
  pub owns : own_after ≡ own ++ adds
  pub grown : Grown seen after
  pub within : to.point ≤ length after
  pub writable : IsWritable reply.body

-- what a body leads to
pub record Says (opening : Design) (caller : ℕ) (seen : List Entry) (own : List (ℕ × Entry)) (after : List Entry) (own_after : List (ℕ × Entry)) (from : Place) (body : List ℕ) (said : Said) (to : Place) : Type 0 where
  pub adds : List (ℕ × Entry)
  pub step : Step opening after caller from body said.reply adds to
  pub owns : own_after ≡ own ++ adds
  pub grown : Grown seen after
  pub within : to.point ≤ length after
  pub writable : IsWritable said.reply.body
  pub bye : said.bye ≡ is_bye body

-- ---- what is found in an upload

-- how a reply says that a text declares no design, or Memory
abbrev pub IsFaultBody : CompileFault → Body → Type 0
IsFaultBody fault b = ((is_memory fault → ⊥) × (b ≡ body.BadDesign (fault_place fault) (fault_word fault))) ⊎ (b ≡ body.Store answer.Memory)

-- a reply instead of a turn, or Memory
abbrev pub Refuses : {C : Type 0} → (is : C → Type 0) → (said : C → Body ⊎ Wish) → Body → Type 0
Refuses {C} is said b = ((c : C) × is c × (said c ≡ inl b)) ⊎ (b ≡ body.Store answer.Memory)

abbrev pub FindsRecord : (opening : Design) → List ℕ → Result Record Body → Type 0
FindsRecord opening bytes (Ok r) = IsContent opening bytes (Fitting r)
FindsRecord opening bytes (Err b) = Refuses (IsContent opening bytes) said_to b × IsWritable b

abbrev pub FindsText : (opening : Design) → List ℕ → Result Declared Body → Type 0
FindsText opening text (Ok c) = IsTextContent opening text (Revising (record { text = c.text; design = c.design }))
FindsText opening text (Err b) = Refuses (IsTextContent opening text) (said_to_text text) b × IsWritable b
