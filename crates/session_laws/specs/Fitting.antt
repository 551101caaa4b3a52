-- The answers at a legal history have spellings that frames can hold.
use Rattle.std.specs.Prelude.{◌≡◌, ℕ, List, true}
use Rattle.design_data.specs.declared.design.Design.{Design}
use Rattle.ucis_model.specs.declared.node.Node.{Node}
use Rattle.ucis_model.specs.declared.answers.Answer.{Answer}
use Rattle.ucis_model.specs.declared.answers.Answer.TheVariants as answer
use Rattle.ucis_model.specs.Paths.{path_of}
use Rattle.cov_history.specs.declared.entry.Entry.{Entry}
use Rattle.cov_history.specs.declared.asks.Ask.{Ask}
use Rattle.cov_history.specs.History.{is_legal}
use Rattle.cov_history.specs.Answers.{nodes_at, answer_at}
use Rattle.cov_proto.specs.declared.replies.Body.TheVariants as body
use Rattle.answer_frames.specs.Frames.{IsWritable}

-- a reply with the answer has a spelling that a frame can hold
abbrev pub HasFrame : Answer → Type 0
HasFrame a = IsWritable (body.Store a)

-- the path of each node has
abbrev pub ArePathsShort : List Node → Type 0
ArePathsShort nodes = (n : ℕ) → HasFrame (answer.PathIs (path_of nodes n))

-- Each answer at a legal history has a spelling that a frame can hold, where the paths of the design's nodes have.
abbrev pub AnswersHaveFrames : Type 0
AnswersHaveFrames = (opening : Design) (h : List Entry) (caller : ℕ) (a : Ask) → is_legal opening h ≡ true → ArePathsShort (nodes_at opening h) → HasFrame (answer_at opening h caller a)
