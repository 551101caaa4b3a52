use Rattle.std.proofs.Common.{◌≡◌, ℕ, ◌≤◌, List, Option, Some, None, Ok, Err, inl, inr, subst, sym, ap, ◌∙◌, arith}
use Rattle.std.specs.Prelude.{option_map}
use Rattle.std.proofs.lemmas.Result.{IfOk-weaker}
use Rattle.std.specs.Arc.{arc_value}
use Rattle.design_data.specs.declared.design.Design.{Design}
use Rattle.merge_store.specs.Stores.{opening_of}
use Rattle.waivers.specs.declared.waiver.Waiver.{Waiver}
use Rattle.covd_commands.specs.declared.status.Status.{Status}
use Rattle.covd_commands.specs.declared.stop.Stop.{Stop}
use Rattle.covd_commands.specs.declared.stop.Stop.TheVariants.{Refused}
use Rattle.covd_commands.specs.FromFiles.{Files}
use Rattle.covd_commands.specs.Options.{options_in}
use Rattle.covd_commands.specs.Origins.{origins_of}
use Rattle.covd_filling.specs.Outcomes.{nothing_yet, Fills}
use Rattle.covd_filling.specs.Steps.{filled_of, Stops}
use Rattle.covd_filling.proofs.Fillings.{fills_from}
use Rattle.covd_core.specs.Command.{shown_by}
use Rattle.covd_core.specs.Waived.{NamesWaivers, NoWaivers}
use Rattle.covd_core.proofs.Openings.{has_design}
use Rattle.covd_core.proofs.Waived.{unread_from}
use Rattle.covd_core.proofs.report.report.Goals as goal

pub returns-in-Ok-clause-answer : goal.returns-in-Ok-clause-answer
returns-in-Ok-clause-answer g c =
    let files : Files = g.F.Shelf.files c.args.shelf.now in
    let later : Files = g.F.Shelf.files c.had_compiled.new.shelf in
    let latest : Files = g.F.Shelf.files c.had_waivers.new.shelf in
    let before = g.F.Shelf.faults c.args.shelf.now in
    let middle = g.F.Shelf.faults c.had_compiled.new.shelf in
    let then' = g.F.Shelf.faults c.had_waivers.new.shelf in
    let now = g.F.Shelf.faults c.stored.new.shelf in
    let options = options_in c.args.asked.options in
    let form = c.args.asked.form in
    let origins = origins_of c.args.asked.origins in
    let compiled = c.in-Compiled.compiled in
    let has = has_design files c.args.asked.design.now compiled (rw c.in-Compiled.is at c.in_ok-compiled.ensures.had) in
    let waivers : Option (List Waiver) = option_map (λ some. some.items) c.in-Had.waivers in
    let named : NamesWaivers later options.waivers waivers = rw c.in-Had.is at c.in_ok-waivers.ensures.had in
    let names : NamesWaivers files options.waivers waivers = subst (λ (f : Files). NamesWaivers f options.waivers waivers) c.in_ok-compiled.ensures.same named in
    let d = arc_value c.design.result.now in
    let made = c.in-Ok.ensures.stored in
    let source = c.text.result.now in
    let filled = filled_of c.in-Ok.store c.in-Ok.left in
    IfOk-weaker c.shown_filled.result _ _ (λ a h.
    let told = h ∙ ap (λ (x : Design). shown_by options form source waivers x filled) made.0.opening in
    let shown : Fills (shown_by options form source waivers) options latest then' now d 1 nothing_yet origins a.status a.text.items =
    made.1.ends (shown_by options form source waivers) now (omega arith) a.status a.text.items (ap (λ p. p.0) told, ap (λ p. p.1) told) in
    let of_text = subst (λ (x : List ℕ). Fills (shown_by options form x waivers) options latest then' now d 1 nothing_yet origins a.status a.text.items) c.text.ensures.text shown in
    let of_design = subst (λ (x : Design). Fills (shown_by options form compiled.text waivers) options latest then' now x 1 nothing_yet origins a.status a.text.items) c.design.ensures.design of_text in
    let of_later = subst (λ (x : Files). Fills (shown_by options form compiled.text waivers) options x then' now compiled.design 1 nothing_yet origins a.status a.text.items) (c.in_ok-waivers.ensures.same ∙ c.in_ok-compiled.ensures.same) of_design in
    inr (
      compiled.design,
      has,
      inr (
        waivers,
        names,
        fills_from (shown_by options form compiled.text waivers) options files before then' now compiled.design origins 1 nothing_yet a.status a.text.items
            (omega (arith, c.in_ok-compiled.ensures.later, c.in_ok-waivers.ensures.later)) of_later,
      ),
    ))
    c.shown_filled.ensures

pub returns-in-Refused-2-clause-answer : goal.returns-in-Refused-2-clause-answer
returns-in-Refused-2-clause-answer g c =
    let files : Files = g.F.Shelf.files c.args.shelf.now in
    let later : Files = g.F.Shelf.files c.had_compiled.new.shelf in
    let before = g.F.Shelf.faults c.args.shelf.now in
    let middle = g.F.Shelf.faults c.had_compiled.new.shelf in
    let now = g.F.Shelf.faults c.had_waivers.new.shelf in
    let options = options_in c.args.asked.options in
    let a = c.in-Refused-2.answer in
    let compiled = c.in-Compiled.compiled in
    let has = has_design files c.args.asked.design.now compiled (rw c.in-Compiled.is at c.in_ok-compiled.ensures.had) in
    let none : NoWaivers later middle now options.waivers a.status a.text.items = rw c.in-Refused-2.is at c.in_ok-waivers.ensures.had in
    let of_files = subst (λ (f : Files). NoWaivers f middle now options.waivers a.status a.text.items) c.in_ok-compiled.ensures.same none in
    inr (compiled.design, has, inl (unread_from files before middle now options.waivers a.status a.text.items c.in_ok-compiled.ensures.later of_files))

pub returns-clause-answer : goal.returns-clause-answer
returns-clause-answer g c =
    let files : Files = g.F.Shelf.files c.args.shelf.now in
    let later : Files = g.F.Shelf.files c.had_compiled.new.shelf in
    let latest : Files = g.F.Shelf.files c.had_waivers.new.shelf in
    let before = g.F.Shelf.faults c.args.shelf.now in
    let then' = g.F.Shelf.faults c.had_waivers.new.shelf in
    let now = g.F.Shelf.faults c.stored.new.shelf in
    let options = options_in c.args.asked.options in
    let origins = origins_of c.args.asked.origins in
    let compiled = c.in-Compiled.compiled in
    let has = has_design files c.args.asked.design.now compiled (rw c.in-Compiled.is at c.in_ok-compiled.ensures.had) in
    let waivers : Option (List Waiver) = option_map (λ some. some.items) c.in-Had.waivers in
    let named : NamesWaivers later options.waivers waivers = rw c.in-Had.is at c.in_ok-waivers.ensures.had in
    let names : NamesWaivers files options.waivers waivers = subst (λ (f : Files). NamesWaivers f options.waivers waivers) c.in_ok-compiled.ensures.same named in
    let shown = shown_by options c.args.asked.form compiled.text waivers in
    let d = arc_value c.design.result.now in
    IfOk-weaker c.into_answer.result _ _ (λ a h.
    let stops : Stops options latest then' now d origins (Refused a) = subst (λ (x : Stop). Stops options latest then' now d origins x) h c.in-Err.ensures.stored in
    let of_design = subst (λ (x : Design). Fills shown options latest then' now x 1 nothing_yet origins a.status a.text.items) c.design.ensures.design (stops shown) in
    let of_later = subst (λ (x : Files). Fills shown options x then' now compiled.design 1 nothing_yet origins a.status a.text.items) (c.in_ok-waivers.ensures.same ∙ c.in_ok-compiled.ensures.same) of_design in
    inr (
      compiled.design,
      has,
      inr (
        waivers,
        names,
        fills_from shown options files before then' now compiled.design origins 1 nothing_yet a.status a.text.items
            (omega (arith, c.in_ok-compiled.ensures.later, c.in_ok-waivers.ensures.later)) of_later,
      ),
    ))
    c.into_answer.ensures
