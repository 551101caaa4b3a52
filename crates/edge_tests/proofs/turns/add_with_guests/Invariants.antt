use Rattle.std.proofs.Common.{◌≡◌, List, length, nat_le, true}
use Rattle.std.specs.List.{list_all}
use Rattle.edge_tests.specs.declared.turns.Limit.{Limit}
use Rattle.edge_tests.specs.declared.turns.Entry.{Entry}
use Rattle.edge_tests.specs.declared.turns.Entries.{Entries}
use Rattle.turn_lock.specs.Seats.{IsSeatOf}
use Rattle.edge_tests.proofs.turns.add_with_guests.Given as goal

abbrev pub invariant-loop-at : goal.invariant-loop-at
invariant-loop-at g l = IsSeatOf (λ (book : Entries). book.limit) (λ (limit : Limit) (entries : List Entry). list_all (λ (entry : Entry). nat_le (length entry.name) limit.longest) entries ≡ true) l.lock l.host
