-- What a revision answers, from what stands against it.
use Rattle.std.proofs.Common.{◌≡◌, ℕ, List, refl, sym, inl, inr}
use Rattle.std.proofs.lemmas.List.{append-nil}
use Rattle.design_data.specs.declared.design.Design.{Design}
use Rattle.ucis_model.specs.declared.answers.Answer.TheVariants as answer
use Rattle.cov_history.specs.declared.entry.Event.TheVariants.{Revise}
use Rattle.cov_history.specs.declared.entry.Entry.{Entry}
use Rattle.cov_history.specs.Answers.{revise_at, by}
use Rattle.store_core.specs.Rebins.{Redone}
use Rattle.store_core.specs.Asks.{revision_of}
use Rattle.cov_history.specs.Amounts.{Amounts}
use Rattle.store_parts.specs.declared.faults.ReviseFault.{ReviseFault}
use Rattle.store_parts.specs.declared.faults.ReviseFault.TheVariants as revises
use Rattle.store_parts.specs.Remakes.{MayRevise, IsRefused}
use Rattle.store_parts.specs.Told.{Makes, not_revised}
use Rattle.store_parts.proofs.Revising.{revise_made}

pub refused_so : (opening : Design) (h : List Entry) (r : Redone) (fault : ReviseFault) (caller : ℕ) → IsRefused opening h r fault
    → Makes h (by caller (Revise (revision_of r))) (revise_at opening h r.since (by caller (Revise (revision_of r)))) (not_revised fault) h
refused_so opening h r revises.Memory caller is = inr (record { answer = refl; entries = refl })
refused_so opening h r (revises.Moved since) caller is = inl (record { answer = sym (is caller); entries = sym (append-nil h) })
refused_so opening h r (revises.Full which have want) caller is = inl (record { answer = sym (is caller); entries = sym (append-nil h) })

pub made_so : (opening : Design) (h : List Entry) (r : Redone) (after : Amounts) (caller : ℕ) → MayRevise opening h r after → revise_at opening h r.since (by caller (Revise (revision_of r))) ≡ answer.Changed
made_so opening h r after caller may = revise_made opening h caller r may.calm after (may.amounts caller) may.room
