use Rattle.std.proofs.Common.{◌≡◌, ℕ, List, ◌∷◌, length, refl, sym, subst, arith}
use Rattle.cov_disk.specs.Files.{Holds, Torn}
use Rattle.cov_disk.specs.Calls.{Done, Wrote, Leaves}
use Rattle.cov_disk.specs.Noted.{done_of}
use Rattle.cov_disk.proofs.Staging.{held_torn}
use Rattle.cov_disk.proofs.memory.MemDiskDisk.write_at.Goals as goal

pub returns-clause-there : goal.returns-clause-there
returns-clause-there c = λ was.
    let first = c.args.self.now.first.items in
    let old = c.args.self.now.bytes.items in
    let calls = done_of c.args.self.now.calls.items in
    let at = c.args.offset in
    let next = c.in-Ok.next.items in
    let put : Holds old at c.args.bytes.now next = subst (λ (l : List ℕ). Holds l at c.args.bytes.now next) c.as_slice.ensures.value c.in-Ok.ensures in
    let torn : Torn at (length c.args.bytes.now) old next = held_torn at old c.args.bytes.now next (c.requires.place refl) put in
    let same : length c.in-Ok-to_vec.copy.items ≡ length c.args.bytes.now = omega (arith, c.in-Ok-to_vec.ensures.len) in
    subst (λ (l : List Done). Leaves first l next) (sym c.in_ok-note.ensures.noted)
    (old, was, subst (λ (n : ℕ). Torn at n old next) (sym same) torn)
