-- A session between two moments. Public contracts cite none of it.
use Rattle.std.specs.Prelude.{◌≡◌, ℕ, ◌≤◌, List, [], ◌∷◌, ◌++◌, length, take, All, Option, Bool}
use Rattle.std.specs.List.{flat_map}
use Rattle.cov_spec.specs.Told.{Grows, Shrinks}
use Rattle.design_data.specs.declared.design.Design.{Design}
use Rattle.cov_history.specs.declared.entry.Entry.{Entry}
use Rattle.cov_history.specs.Turns.{Grown}
use Rattle.cov_proto.specs.declared.replies.Reply.{Reply}
use Rattle.cov_proto.specs.Frames.{IsBody, frames}
use Rattle.session_table.specs.Table.{is_bye}
use Rattle.session_table.specs.Serves.{Place, Serves}
use Rattle.cov_session.specs.Streams.{NoBye, LastBye, NoByeBefore, WritesFront, reply_frame}

-- the outside, with the bytes that are held and the place between two bodies
pub record World : Type 0 where
  pub left : Option (List ℕ)
  pub held : List ℕ
  pub place : Place
  pub seen : List Entry
  pub own : List (ℕ × Entry)
  pub written : Option (List ℕ)

-- From one moment to a later one these bytes are taken, and these bodies answered by these replies with these entries.
pub record Goes (opening : Design) (caller : ℕ) (w w' : World) (taken : List ℕ) (bodies : List (List ℕ)) (replies : List Reply) (entries : List (ℕ × Entry)) : Type 0 where
  pub takes : Shrinks w.left w'.left taken
  pub cut : w.held ++ taken ≡ frames bodies ++ w'.held
  pub each : All IsBody bodies
  pub grown : Grown w.seen w'.seen
  pub within : w'.place.point ≤ length w'.seen
  pub serves : Serves opening w'.seen caller w.place bodies replies entries w'.place
  pub own : w'.own ≡ w.own ++ entries

-- the same with so many bytes taken, all replies written and no Bye
pub record Ran (opening : Design) (caller count : ℕ) (w w' : World) : Type 0 where
  pub taken : List ℕ
  pub bodies : List (List ℕ)
  pub replies : List Reply
  pub entries : List (ℕ × Entry)
  pub goes : Goes opening caller w w' taken bodies replies entries
  pub long : length taken ≡ count
  pub no_bye : NoBye bodies
  pub out : Grows w.written w'.written (flat_map reply_frame replies)

-- the same up to a Bye
pub record RanToBye (opening : Design) (caller count : ℕ) (w w' : World) : Type 0 where
  pub taken : List ℕ
  pub bodies : List (List ℕ)
  pub replies : List Reply
  pub entries : List (ℕ × Entry)
  pub goes : Goes opening caller w w' taken bodies replies entries
  pub long : length taken ≡ count
  pub bye : LastBye bodies
  pub out : Grows w.written w'.written (flat_map reply_frame replies)

-- the same up to a reply that could not be written whole
pub record RanToFault (opening : Design) (caller count : ℕ) (w w' : World) : Type 0 where
  pub taken : List ℕ
  pub bodies : List (List ℕ)
  pub replies : List Reply
  pub entries : List (ℕ × Entry)
  pub goes : Goes opening caller w w' taken bodies replies entries
  pub long : length taken ≡ count
  pub none : NoByeBefore bodies
  pub out : WritesFront w.written w'.written replies

-- a body that stands in front is answered
pub record Frame (opening : Design) (caller : ℕ) (w w' : World) (bye : Bool) (out : Reply → Type 0) : Type 0 where
  pub body : List ℕ
  pub reply : Reply
  pub entries : List (ℕ × Entry)
  pub goes : Goes opening caller w w' [] (body ∷ []) (reply ∷ []) entries
  pub bye_is : is_bye body ≡ bye
  pub writes : out reply

abbrev pub Whole : World → World → Reply → Type 0
Whole w w' reply = Grows w.written w'.written (reply_frame reply)

abbrev pub Front : World → World → Reply → Type 0
Front w w' reply = (n : ℕ) × Grows w.written w'.written (take n (reply_frame reply))
