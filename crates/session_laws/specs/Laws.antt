-- Laws of sessions.
use Rattle.std.specs.Prelude.{◌≡◌, ℕ, List, ◌++◌, length, Bool, true, false}
use Rattle.std.specs.List.{list_any}
use Rattle.design_data.specs.declared.design.Design.{Design}
use Rattle.ucis_model.specs.declared.answers.Answer.{Answer}
use Rattle.ucis_model.specs.declared.answers.Answer.TheVariants as answer
use Rattle.cov_history.specs.declared.entry.Entry.{Entry}
use Rattle.cov_history.specs.History.{has_stop}
use Rattle.cov_proto.specs.declared.replies.Body.{Body}
use Rattle.cov_proto.specs.declared.replies.Body.TheVariants as body
use Rattle.cov_proto.specs.declared.replies.Reply.{Reply}
use Rattle.cov_session.specs.Alone.{own_from, others}
use Rattle.cov_session.specs.Serves.{Place, Serves}

-- ---- what replies say

-- the reply is a store's answer of this kind
abbrev pub is_body_of : (Answer → Bool) → Body → Bool
is_body_of test (body.Store a) = test a
is_body_of test other = false

abbrev pub is_reply_of : (Answer → Bool) → Reply → Bool
is_reply_of test reply = is_body_of test reply.body

-- no reply is of this kind
abbrev pub NoneIs : (Answer → Bool) → List Reply → Type 0
NoneIs test replies = list_any (is_reply_of test) replies ≡ false

abbrev pub is_memory : Answer → Bool
is_memory answer.Memory = true
is_memory other = false

-- the history has moved on, or has ended
abbrev pub is_late : Answer → Bool
is_late (answer.Moved since) = true
is_late answer.Stopped = true
is_late other = false

-- ---- a caller who is alone

-- A session of a caller who alone made entries from the history h on; the history has no Stop.
pub record IsAlone (opening : Design) (h after : List Entry) (caller : ℕ) (from : Place) (bodies : List (List ℕ)) (replies : List Reply) (entries : List (ℕ × Entry)) : Type 0 where
  pub more : List Entry
  pub grown : after ≡ h ++ more
  pub begins : from.point ≡ length h
  pub own : own_from caller 0 after ≡ own_from caller 0 h ++ entries
  pub rest : others caller after ≡ others caller h
  pub going : has_stop after ≡ false
  pub to : Place
  pub serves : Serves opening after caller from bodies replies entries to

-- the same replies with the same entries
pub record AreOne (replies others : List Reply) (entries more : List (ℕ × Entry)) : Type 0 where
  pub same_replies : replies ≡ others
  pub same_entries : entries ≡ more

-- Where no reply is Memory, the opening design, the history and the bodies decide the replies and the entries.
abbrev pub AloneIsOne : Type 0
AloneIsOne = (opening : Design) (h after later : List Entry) (caller : ℕ) (from : Place) (bodies : List (List ℕ)) (replies others : List Reply) (entries more : List (ℕ × Entry))
    → IsAlone opening h after caller from bodies replies entries → IsAlone opening h later caller from bodies others more → NoneIs is_memory replies → NoneIs is_memory others → AreOne replies others entries more

-- No change is refused since the history has moved on or has ended.
abbrev pub AloneIsNeverLate : Type 0
AloneIsNeverLate = (opening : Design) (h after : List Entry) (caller : ℕ) (from : Place) (bodies : List (List ℕ)) (replies : List Reply) (entries : List (ℕ × Entry))
    → IsAlone opening h after caller from bodies replies entries → NoneIs is_late replies
