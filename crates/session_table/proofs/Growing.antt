-- A history that grows.
use Rattle.std.proofs.Common.{◌≡◌, ℕ, ◌+◌, ◌≤◌, List, [], ◌++◌, length, take, sym, ap, ◌∙◌, append_assoc, append-nil, arith, length-append}
use Rattle.std.proofs.lemmas.List.{take-append-le}
use Rattle.cov_history.specs.declared.entry.Entry.{Entry}
use Rattle.cov_history.specs.Turns.{Grown}

pub grown_refl : (h : List Entry) → Grown h h
grown_refl h = record { more = []; is = sym (append-nil h) }

pub grown_then : {a b c : List Entry} → Grown a b → Grown b c → Grown a c
grown_then {a} {b} {c} p q = record { more = p.more ++ q.more; is = q.is ∙ (ap (λ l. l ++ q.more) p.is ∙ append_assoc a p.more q.more) }

pub grown_long : {a b : List Entry} → Grown a b → length a ≤ length b
grown_long {a} {b} p = omega (arith, ap length p.is, length-append a p.more)

pub take_later : {a b : List Entry} (n : ℕ) → Grown a b → n ≤ length a → take n b ≡ take n a
take_later {a} {b} n g le = ap (take n) g.is ∙ take-append-le n a g.more le
