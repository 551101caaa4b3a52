use Rattle.std.proofs.Common.{◌<◌, ◌+◌, ◌^◌, ℕ, List, drop, take, length, sym, ap, ◌∙◌, arith, length-drop}
use Rattle.std.proofs.lemmas.List.{drop-drop}
use Rattle.journal_file.proofs.Looked.{looks_twice}
use Rattle.journal_file.proofs.Started.{no_head, no_content, an_item}
use Rattle.journal_file.proofs.item.item_at.Goals as goal

pub returns-in_default-clause-item : goal.returns-in_default-clause-item
returns-in_default-clause-item g c = λ t.
    let seen = g.D.Disk.seen c.args.disk.now in
    let h = rw c.in_default.is at (c.in_ok-bytes.ensures.head t) in
    no_head (drop c.args.place seen) (omega (arith, h, length-drop c.args.place seen))

pub returns-in_err-content-clause-looks : goal.returns-in_err-content-clause-looks
returns-in_err-content-clause-looks g c = looks_twice g.D.Disk.told g.D.Disk.seen g.D.Disk.may_leave g.D.Disk.moment g.D.Disk.left_since c.args.disk.now c.head_at.new.disk c.content_at.new.disk c.head_at.ensures.looks c.content_at.ensures.looks

pub returns-in_default-2-clause-looks : goal.returns-in_default-2-clause-looks
returns-in_default-2-clause-looks g c = looks_twice g.D.Disk.told g.D.Disk.seen g.D.Disk.may_leave g.D.Disk.moment g.D.Disk.left_since c.args.disk.now c.head_at.new.disk c.content_at.new.disk c.head_at.ensures.looks c.content_at.ensures.looks

pub returns-clause-looks : goal.returns-clause-looks
returns-clause-looks g c = looks_twice g.D.Disk.told g.D.Disk.seen g.D.Disk.may_leave g.D.Disk.moment g.D.Disk.left_since c.args.disk.now c.head_at.new.disk c.content_at.new.disk c.head_at.ensures.looks c.content_at.ensures.looks

pub returns-in_default-2-clause-item : goal.returns-in_default-2-clause-item
returns-in_default-2-clause-item g c = λ t.
    let seen = g.D.Disk.seen c.args.disk.now in
    let same = c.head_at.ensures.looks.seen_on in
    let head = rw c.in-Some.is at (c.in_ok-bytes.ensures.head t) in
    let short = rw c.in_default-2.is at (c.in_ok-content.ensures.content (c.head_at.ensures.looks.told_on ∙ t)) in
    let fits : c.from_bytes-head.result.length < 2 ^ 32 = omega arith in
    no_content (drop c.args.place seen) c.from_bytes-head.result.caller c.from_bytes-head.result.kind c.from_bytes-head.result.length (sym head.0 ∙ c.from_bytes-head.ensures) fits
    (omega (arith, short, ap (λ (l : List ℕ). length l) same, length-drop c.args.place seen))

pub returns-clause-item : goal.returns-clause-item
returns-clause-item g c = λ t.
    let seen = g.D.Disk.seen c.args.disk.now in
    let place = c.args.place in
    let n = c.from_bytes-head.result.length in
    let same = c.head_at.ensures.looks.seen_on in
    let head = rw c.in-Some.is at (c.in_ok-bytes.ensures.head t) in
    let body = rw c.in-Some-2.is at (c.in_ok-content.ensures.content (c.head_at.ensures.looks.told_on ∙ t)) in
    let fits : n < 2 ^ 32 = omega arith in
    let caller : c.from_bytes-head.result.caller < 2 ^ 32 = omega arith in
    an_item (drop place seen) c.from_bytes-head.result.caller c.from_bytes-head.result.kind n (sym head.0 ∙ c.from_bytes-head.ensures) fits c.in-Some-2.content.items caller
    (body.0 ∙ ap (λ (l : List ℕ). take n (drop (place + 9) l)) same ∙ ap (λ (l : List ℕ). take n l) (sym (drop-drop 9 place seen)))
    (omega (arith, body.1, ap (λ (l : List ℕ). length l) same, length-drop place seen))
