-- What `session DESIGN` leaves. A design that can't be had is refused as by the other commands. Over a design that is had,
-- the requests that come over the link are answered, as those of the one caller of a store that begins without entries.
use Rattle.std.specs.Prelude.{◌≡◌, ◌⊎◌, ℕ, ◌^◌, List, [], ◌∷◌, Some, false, codes}
use Rattle.cov_spec.specs.Causes.{Rose}
use Rattle.cov_spec.specs.Told.{Grows, GrowsByFront, Stays}
use Rattle.design_data.specs.declared.design.Design.{Design}
use Rattle.cov_history.specs.declared.entry.Entry.{Entry}
use Rattle.cov_history.specs.History.{has_stop}
use Rattle.cov_session.specs.Alone.{own_from, others}
use Rattle.cov_session.specs.declared.ended.Ended.{Ended}
use Rattle.cov_session.specs.declared.ended.Ended.TheVariants as ended
use Rattle.cov_session.specs.Streams.{Session}
use Rattle.cov_session.specs.Histories.{IsHistory}
use Rattle.covd_commands.specs.declared.status.Status.{Status}
use Rattle.covd_commands.specs.declared.status.Status.TheVariants as status
use Rattle.covd_commands.specs.FromFiles.{Files, HasDesign, NoDesign}
use Rattle.covd_core.specs.Command.{Ends, Leaves}

-- ---- words

-- the words are `session` and the design's name
abbrev pub IsSessionCommand : List (List ℕ) → List ℕ → Type 0
IsSessionCommand words design = words ≡ codes "session" ∷ design ∷ []

abbrev pub IsNoSession : List (List ℕ) → Type 0
IsNoSession words = (design : List ℕ) → IsSessionCommand words design → ⊥

-- ---- a session

-- the most bytes that are taken
abbrev pub most_taken : ℕ
most_taken = 2 ^ 40

-- the status of a session that ended so
abbrev pub ended_status : Ended → Status
ended_status ended.Bye = status.Done
ended_status ended.InputEnd = status.Done
ended_status ended.TornFrame = status.TornFrame
ended_status (ended.FrameTooLong len) = status.FrameTooLong
ended_status ended.SessionTooLong = status.SessionTooLong
ended_status ended.ReadFault = status.ReadFault
ended_status ended.WriteFault = status.WriteFault
ended_status ended.Memory = status.Memory

-- A session of the caller 0 over a history that is empty at first and has no entry but those that its replies made. The
-- history is legal, the text of each revision in it declares its design, and it has no Stop. A fault ends the session only
-- where that count rose.
pub record Conducted (d : Design) (before after : Ends) (end : Ended) : Type 0 where
  pub history : List Entry
  pub session : Session d 0 most_taken
      (record { left = before.left; written = before.written; seen = []; own = [] })
      (record { left = after.left; written = after.written; seen = history; own = own_from 0 0 history })
      end
  pub own : others 0 history ≡ []
  pub is_history : IsHistory d history
  pub going : has_stop history ≡ false
  pub read_cause : end ≡ ended.ReadFault → Rose before.read_faults after.read_faults
  pub write_cause : end ≡ ended.WriteFault → Rose before.write_faults after.write_faults

-- ---- what is left

-- nothing was read
pub record ReadsNothing (e e' : Ends) : Type 0 where
  pub left : e'.left ≡ e.left
  pub read_faults : e'.read_faults ≡ e.read_faults

-- What stays written of a design that can't be had, or where memory ran out before the first read: nothing where memory ran
-- out; some of the refusal's line where a write failed, its count having risen; else that whole line.
abbrev pub LeavesRefusal : Files → ℕ → ℕ → List ℕ → Ends → Ends → Status → Type 0
LeavesRefusal files before now design e e' status.Memory = Stays e.written e'.written
LeavesRefusal files before now design e e' status.WriteFault = Rose e.write_faults e'.write_faults × (s : Status) × (text : List ℕ) × NoDesign files before now design s text × GrowsByFront e.written e'.written text
LeavesRefusal files before now design e e' s = (text : List ℕ) × NoDesign files before now design s text × Grows e.written e'.written text

-- where the requests were served over the design
abbrev pub LeavesServed : Files → List ℕ → Ends → Ends → Status → Type 0
LeavesServed files design e e' s = (d : Design) × HasDesign files design d × (end : Ended) × (s ≡ ended_status end) × Conducted d e e' end

abbrev pub LeavesSession : Files → ℕ → ℕ → List ℕ → Ends → Ends → Status → Type 0
LeavesSession files before now design e e' s =
    (ReadsNothing e e' × LeavesRefusal files before now design e e' s)
    ⊎ LeavesServed files design e e' s

-- What a run leaves at the link: a command that prints leaves its text and reads nothing.
abbrev pub Runs : List (List ℕ) → Files → ℕ → ℕ → Ends → Ends → Status → Type 0
Runs words files before now e e' s =
    (IsNoSession words × ReadsNothing e e' × Leaves words files before now e e' s)
    ⊎ ((design : List ℕ) × IsSessionCommand words design × LeavesSession files before now design e e' s)

-- Told files and a shelf that didn't fail leave one design to a name, or one refusal and no design.
pub record OneDesign (files : Files) (before now : ℕ) (name : List ℕ) : Type 0 where
  pub one : (d e : Design) → HasDesign files name d → HasDesign files name e → d ≡ e
  pub apart : (d : Design) (s : Status) (text : List ℕ) → HasDesign files name d → NoDesign files before now name s text → ⊥
  pub one_refusal : (s s' : Status) (text text' : List ℕ) → NoDesign files before now name s text → NoDesign files before now name s' text' → (s ≡ s') × (text ≡ text')

abbrev pub HasOneDesign : Files → ℕ → ℕ → Type 0
HasOneDesign files before now = (all : List (List ℕ × List ℕ)) → files ≡ Some all → (Rose before now → ⊥) → (name : List ℕ) → OneDesign files before now name
