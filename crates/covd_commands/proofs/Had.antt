-- From the answer to a design text to that of a command.
use Rattle.std.proofs.Common.{◌≡◌, ◌≤◌, ℕ, List, length, sym, subst}
use Rattle.std.specs.Prelude.{Err}
use Rattle.cov_base.specs.Loads.{HasFile}
use Rattle.cov_compile.specs.declared.fault.CompileFault.{CompileFault}
use Rattle.cov_compile.specs.Compiling.{IsDesignFault, Compiles}
use Rattle.cov_compile.proofs.Texts.{design_or_fault}
use Rattle.cov_ground.specs.Limits.{longest_design}
use Rattle.covd_commands.specs.declared.status.Status.{Status}
use Rattle.covd_commands.specs.declared.status.Status.TheVariants as status
use Rattle.covd_commands.specs.Lines.{IsDesignFaultText}
use Rattle.covd_commands.specs.FromFiles.{Files, HasNoDesign, NoDesign}

module _ (files : Files) (before now : ℕ) (name text : List ℕ) (file : HasFile files name text) (short : length text ≤ longest_design) (line : List ℕ) where
  has_none : (fault : CompileFault) → Compiles text (Err fault) → IsDesignFaultText fault line → HasNoDesign files name line
  has_none fault refused says =
      let cause : IsDesignFault text fault = refused says.0 in
      record { text = text; file = file; short = short; none = λ parts h. design_or_fault text parts fault h cause; fault = fault; cause = cause; says = says }

  pub no_design : (fault : CompileFault) (s : Status) → Compiles text (Err fault) → (s ≡ status.DesignRefused) × IsDesignFaultText fault line → NoDesign files before now name s line
  no_design fault s refused a = subst (λ (x : Status). NoDesign files before now name x line) (sym a.0) (has_none fault refused a.1)
