use Rattle.std.proofs.Common.{◌≡◌, ◌∙◌, ◌∷◌, ◌||◌, true, false, sym, ap}
use Rattle.std.specs.List.{list_any}
use Rattle.cov_history.specs.declared.entry.Entry.{Entry}
use Rattle.history_answers.specs.Kept.{admits}
use Rattle.history_answers.proofs.Following.{kept_under, empty}
use Rattle.history_answers.proofs.admitting.is_kept.Goals as goal

pub returns-then-admits : goal.returns-then-admits
returns-then-admits c =
    let id = c.args.id.now in
    let some : list_any (λ (e : Entry). admits id e.event) (c.in-Some.entry.now ∷ c.in-Some.later.now) ≡ true = ap (λ b. b || list_any (λ (e : Entry). admits id e.event) c.in-Some.later.now) (sym c.admits.ensures ∙ c.if-admits.true) in
    sym (ap (list_any (λ (e : Entry). admits id e.event)) c.in-Some.ensures.cases.0 ∙ some) ∙ c.loop-entry.invariant ∙ kept_under c.args.entries.now id

pub returns : goal.returns
returns c =
    let id = c.args.id.now in
    let none : list_any (λ (e : Entry). admits id e.event) c.loop-entry.rest.now ≡ false = empty (λ (e : Entry). admits id e.event) c.loop-entry.rest.now c.in_default.ensures.cases in
    sym none ∙ c.loop-entry.invariant ∙ kept_under c.args.entries.now id
