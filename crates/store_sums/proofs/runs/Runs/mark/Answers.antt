use Rattle.std.proofs.Common.{◌∙◌, ap, sym, subst, List, ℕ, Bool, arith, length, ◌<◌, ◌≡◌, ◌+◌, true, false}
use Rattle.std.specs.Prelude.{slice_index, slice_index_or, slice_set}
use Rattle.store_sums.specs.Runs.{Marks, HasRuns, HasNumbers, renumbered}
use Rattle.store_sums.proofs.Running.{first_inside, room, some, numbered, numbers_as, read_is}
use Rattle.store_sums.proofs.runs.Runs.mark.Goals as goal

-- where the run begins, as it is read
module _ (parents begins ends : List ℕ) (runs : HasRuns parents (length parents) begins ends) (k r : ℕ) (inside : k < length parents) (read : r ≡ slice_index_or begins k r) where
  at : r ≡ slice_index begins k
  at = read_is begins k r (omega (arith, inside, runs.begins_len)) read

  first_in : (marks : List Bool) (numbers : List ℕ) → HasNumbers begins ends marks numbers → r < length numbers
  first_in marks numbers h = let f = first_inside parents begins ends runs k inside in omega (arith, at, f, h.numbers_len, runs.begins_len)

  room_in : (marks : List Bool) (numbers : List ℕ) → HasNumbers begins ends marks numbers → length parents < 4294967296 → slice_index_or marks k false ≡ false → slice_index numbers r + 1 < 4294967296
  room_in marks numbers h few unset =
      let m = room parents begins ends runs marks numbers k h inside unset in
      let e : slice_index numbers r ≡ slice_index numbers (slice_index begins k) = ap (slice_index numbers) at in
      omega (arith, m, e, few)

  some_in : (marks : List Bool) (numbers : List ℕ) → HasNumbers begins ends marks numbers → slice_index_or marks k false ≡ true → 0 < slice_index numbers r
  some_in marks numbers h set =
      let m = some parents begins ends runs marks numbers k h inside set in
      let e : slice_index numbers r ≡ slice_index numbers (slice_index begins k) = ap (slice_index numbers) at in
      omega (arith, m, e)

  number_in : (marks more : List Bool) (numbers others : List ℕ) (mark : Bool) → HasNumbers begins ends marks numbers → more ≡ slice_set marks k mark → others ≡ renumbered (slice_index_or marks k false) mark r numbers → HasNumbers begins ends more others
  number_in marks more numbers others mark h m n =
      numbers_as (numbered parents begins ends runs marks numbers k mark h inside) m (n ∙ ap (λ (i : ℕ). renumbered (slice_index_or marks k false) mark i numbers) at)

pub set_mark-requires-clause-first : goal.set_mark-requires-clause-first
set_mark-requires-clause-first c =
    let i = c.self.inside in
    let inside : c.args.place < length i.parents.items = subst (λ (m : Marks). c.args.place < length m.parents) (sym c.self.view_is) c.requires in
    first_in i.parents.items i.begins.items i.ends.items c.self.invariant.0 c.args.place c.index-first.result.now inside c.index-first.ensures i.live.items i.lives.items c.self.invariant.1

pub set_mark-requires-clause-room : goal.set_mark-requires-clause-room
set_mark-requires-clause-room c =
    let i = c.self.inside in
    let inside : c.args.place < length i.parents.items = subst (λ (m : Marks). c.args.place < length m.parents) (sym c.self.view_is) c.requires in
    room_in i.parents.items i.begins.items i.ends.items c.self.invariant.0 c.args.place c.index-first.result.now inside c.index-first.ensures i.live.items i.lives.items c.self.invariant.1 c.self.invariant.3

pub set_mark-requires-clause-some : goal.set_mark-requires-clause-some
set_mark-requires-clause-some c =
    let i = c.self.inside in
    let inside : c.args.place < length i.parents.items = subst (λ (m : Marks). c.args.place < length m.parents) (sym c.self.view_is) c.requires in
    some_in i.parents.items i.begins.items i.ends.items c.self.invariant.0 c.args.place c.index-first.result.now inside c.index-first.ensures i.live.items i.lives.items c.self.invariant.1

pub set_mark-requires-2-clause-first : goal.set_mark-requires-2-clause-first
set_mark-requires-2-clause-first c =
    let i = c.self.inside in
    let inside : c.args.place < length i.parents.items = subst (λ (m : Marks). c.args.place < length m.parents) (sym c.self.view_is) c.requires in
    first_in i.parents.items i.begins.items i.ends.items c.self.invariant.0 c.args.place c.index-first.result.now inside c.index-first.ensures i.covered.items i.covers.items c.self.invariant.2

pub set_mark-requires-2-clause-room : goal.set_mark-requires-2-clause-room
set_mark-requires-2-clause-room c =
    let i = c.self.inside in
    let inside : c.args.place < length i.parents.items = subst (λ (m : Marks). c.args.place < length m.parents) (sym c.self.view_is) c.requires in
    room_in i.parents.items i.begins.items i.ends.items c.self.invariant.0 c.args.place c.index-first.result.now inside c.index-first.ensures i.covered.items i.covers.items c.self.invariant.2 c.self.invariant.3

pub set_mark-requires-2-clause-some : goal.set_mark-requires-2-clause-some
set_mark-requires-2-clause-some c =
    let i = c.self.inside in
    let inside : c.args.place < length i.parents.items = subst (λ (m : Marks). c.args.place < length m.parents) (sym c.self.view_is) c.requires in
    some_in i.parents.items i.begins.items i.ends.items c.self.invariant.0 c.args.place c.index-first.result.now inside c.index-first.ensures i.covered.items i.covers.items c.self.invariant.2

pub invariant_of-self : goal.invariant_of-self
invariant_of-self c =
    let i = c.self.inside in
    let inside : c.args.place < length i.parents.items = subst (λ (m : Marks). c.args.place < length m.parents) (sym c.self.view_is) c.requires in (
      c.self.invariant.0,
      number_in i.parents.items i.begins.items i.ends.items c.self.invariant.0 c.args.place c.index-first.result.now inside c.index-first.ensures i.live.items c.set_mark.new.marks.items i.lives.items c.set_mark.new.numbers.items c.args.live c.self.invariant.1 c.set_mark.ensures.marks c.set_mark.ensures.numbers,
      number_in i.parents.items i.begins.items i.ends.items c.self.invariant.0 c.args.place c.index-first.result.now inside c.index-first.ensures i.covered.items c.set_mark-2.new.marks.items i.covers.items c.set_mark-2.new.numbers.items c.args.covered c.self.invariant.2 c.set_mark-2.ensures.marks c.set_mark-2.ensures.numbers,
      c.self.invariant.3,
    )
