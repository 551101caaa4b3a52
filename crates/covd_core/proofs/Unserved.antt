-- What stays of a session whose design can't be had.
use Rattle.std.proofs.Common.{◌≡◌, ℕ, List, inl, inr, sym, subst}
use Rattle.std.specs.Prelude.{◌⊎◌}
use Rattle.cov_spec.specs.Causes.{Rose}
use Rattle.cov_spec.specs.Told.{Grows, GrowsByFront}
use Rattle.covd_commands.specs.declared.status.Status.{Status}
use Rattle.covd_commands.specs.declared.status.Status.TheVariants as status
use Rattle.covd_commands.specs.FromFiles.{Files, NoDesign}
use Rattle.covd_core.specs.Command.{Ends}
use Rattle.covd_core.specs.Sessions.{LeavesRefusal}

module _ (files : Files) (before now : ℕ) (design text : List ℕ) (e e' : Ends) where
  -- the line of a design that can't be had was written whole
  pub refused_whole : (s : Status) → NoDesign files before now design s text → Grows e.written e'.written text → LeavesRefusal files before now design e e' s
  refused_whole status.Memory h grows = absurd h
  refused_whole status.WriteFault h grows = absurd h
  refused_whole other h grows = (text, h, grows)

  -- as the answer of a write says
  pub refused_leaves : (s given : Status) → NoDesign files before now design given text
      → ((s ≡ given) × Grows e.written e'.written text) ⊎ ((s ≡ status.WriteFault) × Rose e.write_faults e'.write_faults × GrowsByFront e.written e'.written text)
      → LeavesRefusal files before now design e e' s
  refused_leaves s given h done = elim done [
    | inl a ↦ refused_whole s (subst (λ (s : Status). NoDesign files before now design s text) (sym a.0) h) a.1
    | inr b ↦ subst (λ (s : Status). LeavesRefusal files before now design e e' s) (sym b.0) (b.1, given, text, h, b.2)
  ]
