-- Statuses that no text of the commands has that fill a store.
use Rattle.std.proofs.Common.{◌≡◌, ℕ, List, map, Bool, true, false, Option, Some, None, Result, Ok, Err, inl, inr}
use Rattle.std.specs.Prelude.{replicate, nat_lt, if◌then◌else◌}
use Rattle.design_data.specs.declared.design.Design.{Design}
use Rattle.cov_history.specs.declared.entry.Entry.{Entry}
use Rattle.waivers.specs.declared.waiver.Waiver.{Waiver}
use Rattle.store_waivers.specs.Waived.{Limit, waiving}
use Rattle.covd_commands.specs.declared.status.Status.{Status}
use Rattle.covd_commands.specs.declared.status.Status.TheVariants as status
use Rattle.covd_commands.specs.declared.forms.Form.{Form}
use Rattle.covd_commands.specs.declared.forms.Form.TheVariants as form
use Rattle.covd_commands.specs.Options.{Options}
use Rattle.covd_commands.specs.FromFiles.{Files, NoDesign}
use Rattle.covd_commands.specs.Finding.{Origin, File, Made}
use Rattle.covd_filling.specs.Outcomes.{Filled, nothing_yet}
use Rattle.covd_filling.proofs.Never.{RefusesNone, fills_none}
use Rattle.covd_core.specs.Waived.{NoWaivers}
use Rattle.covd_core.specs.Command.{reached, shown_status, shown_waived, shown_by, Reports, FillAnswers}

pub record Never (s : Status) : Type 0 where
  pub none : RefusesNone s
  pub done : s ≡ status.Done → ⊥
  pub partly : s ≡ status.Partly → ⊥
  pub below : s ≡ status.BelowGoal → ⊥
  pub waivers : s ≡ status.WaiversRefused → ⊥
  pub unread : (files : Files) (before now : ℕ) (file : Option (List ℕ)) (text : List ℕ) → NoWaivers files before now file s text → ⊥
  pub no_design : (files : Files) (before now : ℕ) (name text : List ℕ) → NoDesign files before now name s text → ⊥

no_memory_waivers : (files : Files) (before now : ℕ) (file : Option (List ℕ)) (text : List ℕ) → NoWaivers files before now file status.Memory text → ⊥
no_memory_waivers files before now None text h = h
no_memory_waivers files before now (Some name) text h = h

no_write_fault_waivers : (files : Files) (before now : ℕ) (file : Option (List ℕ)) (text : List ℕ) → NoWaivers files before now file status.WriteFault text → ⊥
no_write_fault_waivers files before now None text h = h
no_write_fault_waivers files before now (Some name) text h = h

pub never_memory : Never status.Memory
never_memory = record {
  none = record { refused = λ e. absurd (cc e); unadmitted = λ e. absurd (cc e); unloaded = λ files before now name most text h. h };
  done = λ e. absurd (cc e);
  partly = λ e. absurd (cc e);
  below = λ e. absurd (cc e);
  waivers = λ e. absurd (cc e);
  unread = no_memory_waivers;
  no_design = λ files before now name text h. h;
}

pub never_write_fault : Never status.WriteFault
never_write_fault = record {
  none = record { refused = λ e. absurd (cc e); unadmitted = λ e. absurd (cc e); unloaded = λ files before now name most text h. h };
  done = λ e. absurd (cc e);
  partly = λ e. absurd (cc e);
  below = λ e. absurd (cc e);
  waivers = λ e. absurd (cc e);
  unread = no_write_fault_waivers;
  no_design = λ files before now name text h. h;
}

module _ {s : Status} (never : Never s) where
  not_reached : (overall : ℕ) (goal : Option ℕ) → s ≡ reached overall goal → ⊥
  not_reached overall None e = never.done e
  not_reached overall (Some goal) e = by_test (nat_lt overall goal) e
    where
      by_test : (below : Bool) → s ≡ (if below then status.BelowGoal else status.Done) → ⊥
      by_test true e = never.below e
      by_test false e = never.done e

  not_shown : (partly : Bool) (overall : ℕ) (goal : Option ℕ) → s ≡ shown_status partly overall goal → ⊥
  not_shown true overall goal e = never.partly e
  not_shown false overall goal e = not_reached overall goal e

  not_waived : (options : Options) (form : Form) (source : List ℕ) (waivers : List Waiver) (d : Design) (f : Filled) (r : Result (List Entry) Limit) → s ≡ (shown_waived options form source waivers d f r).0 → ⊥
  not_waived options form source waivers d f (Ok h) e = not_shown f.partly _ options.goal e
  not_waived options form source waivers d f (Err limit) e = never.waivers e

  not_so : (options : Options) (form : Form) (source : List ℕ) (waivers : Option (List Waiver)) (d : Design) (f : Filled) → s ≡ (shown_by options form source waivers d f).0 → ⊥
  not_so options form source None d f e = not_shown f.partly _ options.goal e
  not_so options form source (Some waivers) d f e = not_waived options form source waivers d f (waiving d f.history waivers) e

  reports_never : (files : Files) (before now : ℕ) (options : Options) (form : Form) (design : List ℕ) (origins : List Origin) (text : List ℕ) → Reports files before now options form design origins s text → ⊥
  reports_never files before now options form design origins text a = elim a [
    | inl b ↦ never.no_design files before now design text b
    | inr b ↦ elim b.2 [
      | inl c ↦ never.unread files before now options.waivers text c
      | inr c ↦ fills_none never.none (shown_by options form b.1.text c.0) (not_so options form b.1.text c.0) options files before now b.0 origins 1 nothing_yet text c.2
    ]
  ]

  pub no_answer : (words : List (List ℕ)) (files : Files) (before now : ℕ) (text : List ℕ) → FillAnswers words files before now s text → ⊥
  no_answer words files before now text a = elim a [
    | inl x ↦ reports_never files before now x.0 form.Report x.1 (map File x.2) text x.4
    | inr y ↦ elim y [
      | inl x ↦ reports_never files before now x.0 x.1 x.2 (map File x.3) text x.5
      | inr x ↦ reports_never files before now x.0 form.Report x.1 (replicate x.4 (Made x.2 x.3)) text x.6
    ]
  ]
