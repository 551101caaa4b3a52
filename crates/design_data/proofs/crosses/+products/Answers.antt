use Rattle.std.proofs.Common.{◌≡◌, ℕ, ◌+◌, List, [], ◌∷◌, ◌++◌, map, ap, sym, ◌∙◌, arith}
use Rattle.std.specs.List.{flat_map, range_with_len}
use Rattle.design_data.specs.Crosses.{products}
use Rattle.design_data.proofs.Lookups.{none, flat_more}
use Rattle.design_data.proofs.crosses.+products.Goals as goal

-- each of the products behind a bin
abbrev behind : List (List ℕ) → ℕ → List (List ℕ)
behind shorter bin = map (λ rest. bin ∷ rest) shorter

pub returns-in_default : goal.returns-in_default
returns-in_default t c =
    c.in_ok-push.ensures ∙ ap (λ (xs : List (List ℕ)). xs ++ c.new.result ∷ []) c.new-empty.ensures ∙ ap (λ (x : List ℕ). x ∷ []) c.new.ensures
    ∙ sym (ap products (none c.args.sizes.now c.in_default.ensures.cases))

pub loop-bin-preserved : goal.loop-bin-preserved
loop-bin-preserved t c =
    let more = flat_more (behind c.in_ok-shorter.shorter) c.loop-bin.bin in
    c.in_ok-append.ensures ∙ ap (λ (xs : List (List ℕ)). xs ++ c.in_ok-behind_each.field-0) c.loop-bin.invariant
    ∙ ap (λ (ys : List (List ℕ)). flat_map (behind c.in_ok-shorter.shorter) (range_with_len 0 c.loop-bin.bin) ++ ys)
    (c.in_ok-behind_each.ensures ∙ ap (λ (shorter : List (List ℕ)). behind shorter c.loop-bin.bin) c.as_slice.ensures)
    ∙ sym more

pub returns : goal.returns
returns t c =
    let e : c.loop-bin.bin ≡ c.in-Some.size.now = omega arith in
    c.loop-bin.invariant ∙ ap (λ (n : ℕ). flat_map (behind c.in_ok-shorter.shorter) (range_with_len 0 n)) e
    ∙ ap (λ (shorter : List (List ℕ)). flat_map (behind shorter) (range_with_len 0 c.in-Some.size.now)) c.in_ok-shorter.ensures
    ∙ sym (ap products c.in-Some.ensures.cases.0)
