-- What a seat has seen is a history.
use Rattle.std.specs.Prelude.{◌≡◌, List, Option, Some, None, IfSome}
use Rattle.std.proofs.Common.{refl}
use Rattle.std.proofs.lemmas.List.Elements.{All-nil}
use Rattle.std.proofs.Math.Logic.{∥∥₁_elim}
use Rattle.turn_lock.specs.declared.types.TurnLock.{TurnLock}
use Rattle.turn_lock.specs.declared.types.Seat.{Seat}
use Rattle.turn_lock.specs.Seats.{IsSeatOf, home, seen}
use Rattle.cov_base.specs.declared.book.Book.{Ghosts}
use Rattle.design_data.specs.declared.design.Design.{Design}
use Rattle.cov_history.specs.declared.entry.Entry.{Entry}
use Rattle.store_core.specs.Histories.{IsDeclared, IsHistory, IsHistory-prop}
use Rattle.cov_server.specs.Places.{seen_in}

-- what is sound for a core is a history
abbrev pub IsLawful : (sound : Design → List Entry → Type 0) → Type 0
IsLawful sound = (opening : Design) (h : List Entry) → sound opening h → IsHistory opening h

pub seat_history : {T : Type 0} {g : Ghosts T Design Entry} (base : T → Design) (sound : Design → List Entry → Type 0) → IsLawful sound → (l : TurnLock T Design Entry) (x : Option (Seat T Design Entry g)) → IfSome x (λ s. IsSeatOf base sound l s) → IsHistory (home base l) (seen_in x)
seat_history base sound lawful l None of = record { legal = refl; declared = All-nil (λ (e : Entry). IsDeclared e.event) }
seat_history base sound lawful l (Some s) of = ∥∥₁_elim of.is_sound (IsHistory-prop (home base l) (seen s)) (lawful (home base l) (seen s))
