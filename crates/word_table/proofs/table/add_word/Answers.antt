use Rattle.std.proofs.Common.{◌≡◌, ap, sym, subst, ℕ, ℤ, List, [], ◌∷◌, ◌++◌, length, arith}
use Rattle.word_table.specs.Tables.{Holds}
use Rattle.word_table.proofs.Pieces.{holds_more}
use Rattle.word_table.proofs.table.add_word.Goals as goal

pub returns-clause-holds : goal.returns-clause-holds
returns-clause-holds c = λ words h.
    let word = c.args.word.now in
    let values = c.args.values.now.items in
    let starts = c.args.starts.now.items in
    let n : ℕ = c.len.result in
    let more : c.extend_from_slice.new.self.items ≡ values ++ word = c.in_ok-extend_from_slice.ensures.items in
    let count : n ≡ length (values ++ word) = omega (arith, c.len.ensures, ap (λ (xs : List ℤ). length xs) more, c.extend_from_slice.new.self.ok.0) in
    subst (λ (xs : List ℤ). Holds (words ++ word ∷ []) c.push.new.self.items xs) (sym more)
    (subst (λ (ns : List ℕ). Holds (words ++ word ∷ []) ns (values ++ word)) (sym c.in_ok-push.ensures.items) (holds_more words starts values word n count h))
