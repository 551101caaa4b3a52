use Rattle.std.proofs.Common.{◌≡◌, ◌<◌, ◌+◌, ap, ◌∙◌, ℕ, ℤ, List, length, get_or, arith}
use Rattle.word_table.specs.Words.{key}
use Rattle.word_table.specs.Tables.{pieces}
use Rattle.word_table.proofs.Pieces.{count_of, none_in, some_in, within_values}
use Rattle.word_table.proofs.table.WordTable.value_at.Goals as goal

pub index-requires : goal.index-requires
index-requires c =
    let t = c.self.inside in
    let count = count_of t.starts.items t.values.items c.self.invariant.0 in
    let view = ap (λ (xs : List (List ℤ)). length xs) c.self.view_is in
    omega (arith, count, view, c.requires.place, t.starts.ok.0)

pub index-requires-2 : goal.index-requires-2
index-requires-2 c =
    let t = c.self.inside in
    let count = count_of t.starts.items t.values.items c.self.invariant.0 in
    let view = ap (λ (xs : List (List ℤ)). length xs) c.self.view_is in
    omega (arith, count, view, c.requires.place, t.starts.ok.0)

pub returns-then-at-index : goal.returns-then-at-index
returns-then-at-index c =
    let t = c.self.inside in
    let k = c.args.place in
    let view = ap (λ (xs : List (List ℤ)). length xs) c.self.view_is in
    let lt : k < length (pieces t.starts.items t.values.items) = omega (arith, view, c.requires.place) in
    none_in t.starts.items t.values.items k c.args.depth c.index.result.now c.index-2.result.now lt c.self.invariant.0 (omega (arith, c.if-at-index.true, c.index.ensures, c.index-2.ensures))
    ∙ ap (λ (words : List (List ℤ)). key words c.args.depth k) c.self.view_is

pub index-requires-3 : goal.index-requires-3
index-requires-3 c =
    let t = c.self.inside in
    let count = count_of t.starts.items t.values.items c.self.invariant.0 in
    let view = ap (λ (xs : List (List ℤ)). length xs) c.self.view_is in
    let within = within_values t.starts.items t.values.items (c.args.place + 1) c.index-2.result.now (omega (arith, count, view, c.requires.place)) c.self.invariant.0 in
    omega (arith, within, c.if-at-index.false, c.index-2.ensures, t.values.ok.0)

pub returns : goal.returns
returns c =
    let t = c.self.inside in
    let k = c.args.place in
    let at = c.index.result.now + c.args.depth in
    let view = ap (λ (xs : List (List ℤ)). length xs) c.self.view_is in
    let lt : k < length (pieces t.starts.items t.values.items) = omega (arith, view, c.requires.place) in
    let same : at ≡ get_or t.starts.items k c.index.result.now + c.args.depth = omega (arith, c.index.ensures) in
    some_in t.starts.items t.values.items k c.args.depth c.index.result.now c.index-2.result.now c.index-3.result.now lt c.self.invariant.0 (omega (arith, c.if-at-index.false, c.index.ensures, c.index-2.ensures))
    (c.index-3.ensures ∙ ap (λ (n : ℕ). get_or t.values.items n c.index-3.result.now) same)
    ∙ ap (λ (words : List (List ℤ)). key words c.args.depth k) c.self.view_is
