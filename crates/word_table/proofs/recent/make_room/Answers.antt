use Rattle.std.proofs.Common.{◌≡◌, ◌∙◌, ap, sym, subst, arith, ℤ, ◌-◌, List, Option, take, drop, length, length-drop}
use Rattle.std.proofs.lemmas.List.{take_at}
use Rattle.word_table.specs.Recent.{AreLast}
use Rattle.word_table.proofs.Keeping.{last_few}
use Rattle.word_table.proofs.recent.make_room.Goals as goal

pub returns : goal.returns
returns c = λ w h.
    let old = c.args.values.now.items in
    let n = c.len-count.result - 120 in
    let len : c.len-count.result ≡ length old = omega (arith, c.len-count.ensures) in
    let kept : c.truncate.new.self.items ≡ drop n old =
    c.truncate.ensures.items ∙ ap (λ (xs : List (Option ℤ)). take 120 xs) c.rotate_left.ensures.items
    ∙ take_at (drop n old) (take n old) 120 (omega (arith, len, length-drop n old, c.if-count-lt-ROOM.false)) in
    subst (λ (xs : List (Option ℤ)). AreLast xs w) (sym kept) (last_few old w n (omega (arith, len, c.if-count-lt-ROOM.false)) h)
