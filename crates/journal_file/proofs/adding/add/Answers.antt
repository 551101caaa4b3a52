use Rattle.std.proofs.Common.{arith, ℕ, List, ◌∷◌, ◌++◌, sym, subst}
use Rattle.cov_disk.specs.Gates.{Ends, EndsEither}
use Rattle.cov_disk.specs.Files.{LeavesOnly}
use Rattle.cov_disk.proofs.Moments.{weaker}
use Rattle.journal_bytes.specs.Items.{IsWritable, part_of, journal_of}
use Rattle.journal_file.specs.Stands.{StandsEither}
use Rattle.journal_file.specs.Ending.{item_with}
use Rattle.journal_file.proofs.Added.{stands_more, stands_either}
use Rattle.journal_file.proofs.adding.add.Goals as goal

pub returns-clause-added : goal.returns-clause-added
returns-clause-added g c = λ digest items t e s.
    let item = item_with c.args.caller c.args.kind c.args.content.now in
    let front = journal_of digest items in
    let fits : IsWritable item = record { caller = omega arith; length = c.requires.short } in
    let ends = c.in_ok-append.ensures.appended front t (sym e.place) s.ends in
    stands_more digest (g.D.Disk.seen c.args.disk.now) (g.D.Disk.seen c.append.new.disk) items item fits s
    (subst (λ (l : List ℕ). Ends (front ++ 1 ∷ (l ++ c.args.content.now)) (g.D.Disk.seen c.append.new.disk)) c.to_bytes-bytes.ensures ends)

pub returns-clause-any_moment : goal.returns-clause-any_moment
returns-clause-any_moment g c = λ digest items t e s.
    let item = item_with c.args.caller c.args.kind c.args.content.now in
    let front = journal_of digest items in
    let fits : IsWritable item = record { caller = omega arith; length = c.requires.short } in
    let run = subst (λ (l : List ℕ). LeavesOnly g.D.Disk.moment g.D.Disk.left_since c.args.disk.now c.append.new.disk (EndsEither front (l ++ c.args.content.now))) c.to_bytes-bytes.ensures
    (c.append.ensures.any_moment front t (sym e.place) s.ends) in
    weaker g.D.Disk.moment g.D.Disk.left_since c.args.disk.now c.append.new.disk (EndsEither front (part_of item)) (StandsEither digest items item)
    (λ f is. stands_either digest (g.D.Disk.seen c.args.disk.now) f items item fits s is) run

pub returns-in_err-append-clause-any_moment : goal.returns-in_err-append-clause-any_moment
returns-in_err-append-clause-any_moment g c = λ digest items t e s.
    let item = item_with c.args.caller c.args.kind c.args.content.now in
    let front = journal_of digest items in
    let fits : IsWritable item = record { caller = omega arith; length = c.requires.short } in
    let run = subst (λ (l : List ℕ). LeavesOnly g.D.Disk.moment g.D.Disk.left_since c.args.disk.now c.append.new.disk (EndsEither front (l ++ c.args.content.now))) c.to_bytes-bytes.ensures
    (c.append.ensures.any_moment front t (sym e.place) s.ends) in
    weaker g.D.Disk.moment g.D.Disk.left_since c.args.disk.now c.append.new.disk (EndsEither front (part_of item)) (StandsEither digest items item)
    (λ f is. stands_either digest (g.D.Disk.seen c.args.disk.now) f items item fits s is) run
