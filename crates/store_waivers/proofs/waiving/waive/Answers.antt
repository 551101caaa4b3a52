use Rattle.std.proofs.Common.{◌≡◌, ◌∙◌, ◌++◌, ℕ, List, Result, sym, ap, subst}
use Rattle.std.proofs.lemmas.Result.{err_from_is_err_and}
use Rattle.design_data.specs.declared.design.Design.{Design}
use Rattle.cov_history.specs.declared.entry.Entry.{Entry}
use Rattle.cov_history.specs.History.{design_of}
use Rattle.merge_store.specs.Stores.{opening_of, entries_of}
use Rattle.merge_store.specs.Now.{nodes_now}
use Rattle.waivers.specs.Waived.{paths_in}
use Rattle.store_waivers.specs.Waived.{Limit, IsLimit}
use Rattle.store_waivers.proofs.Among.{each_line}
use Rattle.store_waivers.proofs.Excluding.{waiving_is, excluding_design}
use Rattle.store_waivers.proofs.waiving.waive.Goals as goal

pub returns-in_err-waive_each-clause-full : goal.returns-in_err-waive_each-clause-full
returns-in_err-waive_each-clause-full c =
    let s = c.args.store.now in
    let paths : List (List ℕ) = c.as_slice.result.now in
    let all : paths ≡ paths_in (nodes_now s) = c.as_slice.ensures.value ∙ c.in_ok-paths.ensures.paths in
    let p = err_from_is_err_and c.from_residual-in_err-waive_each.result c.from_residual-in_err-waive_each.ensures.1 in
    rw (p.1, p.2)
    (subst (λ (given : Result (List Entry) Limit). IsLimit given c.in_err-waive_each.field-0.0) (sym (waiving_is (opening_of s) (entries_of s) paths c.args.waivers.now all))
    c.in_err-waive_each.ensures.answer)

pub returns-clause-design : goal.returns-clause-design
returns-clause-design c =
    let s = c.args.store.now in
    let t = c.waive_each.new.store in
    let paths : List (List ℕ) = c.as_slice.result.now in
    ap (λ (d : Design). design_of d (entries_of t)) c.waive_each.ensures.opening
    ∙ excluding_design (opening_of s) (entries_of s) (entries_of t) _ c.in_ok-waive_each.ensures.answer

pub returns-clause-waived : goal.returns-clause-waived
returns-clause-waived c =
    let s = c.args.store.now in
    let paths : List (List ℕ) = c.as_slice.result.now in
    let all : paths ≡ paths_in (nodes_now s) = c.as_slice.ensures.value ∙ c.in_ok-paths.ensures.paths in
    waiving_is (opening_of s) (entries_of s) paths c.args.waivers.now all ∙ c.in_ok-waive_each.ensures.answer

pub returns-clause-told : goal.returns-clause-told
returns-clause-told c =
    let s = c.args.store.now in
    let paths : List (List ℕ) = c.as_slice.result.now in
    let all : paths ≡ paths_in (nodes_now s) = c.as_slice.ensures.value ∙ c.in_ok-paths.ensures.paths in
    c.in_ok-waive_each.ensures.told ∙ ap (λ (lines : List ℕ). c.args.text.now.items ++ lines) (each_line (nodes_now s) paths c.args.waivers.now all)
