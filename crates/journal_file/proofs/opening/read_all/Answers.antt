use Rattle.std.proofs.Common.{◌≡◌, true, ℕ, List, [], ◌∷◌, ◌++◌, map, sym, subst, ◌∙◌}
use Rattle.journal_file.specs.Stands.{Begins}
use Rattle.journal_file.specs.Ending.{item_of}
use Rattle.journal_file.specs.Outcomes.{ReadTo}
use Rattle.journal_file.proofs.Looked.{looks_here, looks_twice}
use Rattle.journal_file.proofs.Finished.{nothing_read, nothing_missing_yet, read_more, missing_more}
use Rattle.journal_file.proofs.opening.read_all.Goals as goal

pub items-init : goal.items-init
items-init g c = record {
  sound = c.requires;
  room = c.first-end.ensures.room;
  looks = looks_here g.D.Disk.told g.D.Disk.seen g.D.Disk.may_leave g.D.Disk.moment g.D.Disk.left_since c.args.disk.now (λ f left. g.met.D.Disk.only_now c.args.disk.now f left);
  read = λ t b. nothing_read c.args.digest.now c.args.sums.now (g.D.Disk.seen c.args.disk.now) c.new-entries.result.items c.new-entries.ensures.items c.first-end.result b c.first-end.ensures.end;
  missing = λ t b. nothing_missing_yet c.args.digest.now c.args.sums.now (g.D.Disk.seen c.args.disk.now) c.new-entries.result.items c.new-entries.ensures.items c.new-missing.result.items c.new-missing.ensures.items;
}

pub items-preserved : goal.items-preserved
items-preserved g c =
    let i = c.items.invariant in
    let old = c.args.disk.now in
    let seen = g.D.Disk.seen old in
    let digest = c.args.digest.now in
    let sums = c.args.sums.now in
    let entries = c.items.entries.items in
    let looks = c.take_next.ensures.looks in
    let same = i.looks.seen_on in
    let found = rw c.in-Some.is at c.in_ok-found.ensures.takes in
    let got : g.D.Disk.told old ≡ true → Begins digest [] seen → ReadTo digest sums (map item_of entries ++ item_of c.in-Some.entry ∷ []) c.take_next.new.end seen =
    λ t b. subst (λ (f : List ℕ). ReadTo digest sums (map item_of entries ++ item_of c.in-Some.entry ∷ []) c.take_next.new.end f) same
    (found digest (map item_of entries) (i.looks.told_on ∙ t) (subst (λ (f : List ℕ). ReadTo digest sums (map item_of entries) c.items.end f) (sym same) (i.read t b))) in
    record {
      sound = c.in_ok-found.ensures.faults;
      room = c.take_next.ensures.room;
      looks = looks_twice g.D.Disk.told g.D.Disk.seen g.D.Disk.may_leave g.D.Disk.moment g.D.Disk.left_since old c.items.disk c.take_next.new.disk i.looks looks;
      read = λ t b. read_more digest sums seen entries c.push.new.self.items c.in-Some.entry c.in-Ok-push.ensures.items c.take_next.new.end (got t b);
      missing = λ t b. missing_more digest sums seen entries c.push.new.self.items c.in-Some.entry c.in-Ok-push.ensures.items c.make_up.new.missing.items
          (c.in-Ok.ensures digest (map item_of entries) (item_of c.in-Some.entry) (got t b).ends (i.missing t b));
    }
