-- What is written for a caller who is alone.
use Rattle.std.specs.Prelude.{◌≡◌, ℕ, ◌<◌, ◌^◌, List, ◌++◌, Some, false, ⊤}
use Rattle.design_data.specs.declared.design.Design.{Design}
use Rattle.cov_history.specs.declared.entry.Entry.{Entry}
use Rattle.cov_history.specs.History.{has_stop}
use Rattle.cov_session.specs.Alone.{own_from, others}
use Rattle.cov_session.specs.declared.ended.Ended.{Ended}
use Rattle.cov_session.specs.declared.ended.Ended.TheVariants as ended
use Rattle.cov_session.specs.Streams.{Outside, Session}
use Rattle.session_laws.specs.Laws.{NoneIs, is_memory}

-- What came ended the session, and no failed call or want of memory. (A length of a frame has four bytes.)
abbrev pub IsOrderly : Ended → Type 0
IsOrderly ended.Bye = ⊤
IsOrderly ended.InputEnd = ⊤
IsOrderly ended.TornFrame = ⊤
IsOrderly (ended.FrameTooLong len) = len < 2 ^ 32
IsOrderly ended.SessionTooLong = ⊤
IsOrderly other = ⊥

-- A session of a caller who alone made entries from the history h on, over a link that told these bytes and to which it
-- wrote these. It came to an orderly end, no reply is Memory, and the history has no Stop.
pub record Writes (opening : Design) (caller most : ℕ) (h : List Entry) (bytes out : List ℕ) : Type 0 where
  pub before : Outside
  pub after : Outside
  pub end : Ended
  pub session : Session opening caller most before after end
  pub orderly : IsOrderly end
  pub quiet : NoneIs is_memory session.replies
  pub told : before.left ≡ Some bytes
  pub rest : List ℕ
  pub left : after.left ≡ Some rest
  pub old : List ℕ
  pub wrote : before.written ≡ Some old
  pub writes : after.written ≡ Some (old ++ out)
  pub seen : before.seen ≡ h
  pub own : before.own ≡ own_from caller 0 h
  pub own_now : after.own ≡ own_from caller 0 after.seen
  pub alone : others caller after.seen ≡ others caller h
  pub going : has_stop after.seen ≡ false

-- The opening design, the history and the bytes that come decide what is written.
abbrev pub OneOutput : Type 0
OneOutput = (opening : Design) (caller most : ℕ) (h : List Entry) (bytes out other : List ℕ) → Writes opening caller most h bytes out → Writes opening caller most h bytes other → out ≡ other
