-- The waivers of a command, from the file that its options name.
use Rattle.std.specs.Prelude.{◌≡◌, ◌⊎◌, ℕ, ◌≤◌, List, length, Option, Some, None, Result, Ok, Err}
use Rattle.cov_base.specs.Loads.{HasFile}
use Rattle.waivers.specs.declared.waiver.Waiver.{Waiver}
use Rattle.waivers.specs.declared.fault.FaultKind.{FaultKind}
use Rattle.waivers.specs.declared.fault.WaiverFault.TheVariants.{Bad}
use Rattle.waivers.specs.Reading.{longest_text, reading}
use Rattle.waivers.specs.Texts.{refused_line}
use Rattle.covd_commands.specs.declared.status.Status.{Status}
use Rattle.covd_commands.specs.declared.status.Status.TheVariants as status
use Rattle.covd_commands.specs.FromFiles.{Files, NotLoaded}

-- the file of that name has these waivers
pub record HasRead (files : Files) (name : List ℕ) (waivers : List Waiver) : Type 0 where
  pub text : List ℕ
  pub file : HasFile files name text
  pub short : length text ≤ longest_text
  pub reads : reading text ≡ Ok waivers

-- the file of that name has none, and the line says why: the text's first fault and its place
pub record HasNotRead (files : Files) (name line : List ℕ) : Type 0 where
  pub text : List ℕ
  pub file : HasFile files name text
  pub short : length text ≤ longest_text
  pub kind : FaultKind
  pub at : ℕ
  pub fault : reading text ≡ Err (Bad kind at)
  pub says : line ≡ refused_line kind at

-- the waivers of the file, where one is named
abbrev pub NamesWaivers : Files → (file : Option (List ℕ)) → Option (List Waiver) → Type 0
NamesWaivers files None None = Unit {0}
NamesWaivers files (Some name) (Some waivers) = HasRead files name waivers
NamesWaivers files file other = ⊥

-- status and text where a file is named and they can't be had
abbrev pub NoWaivers : Files → ℕ → ℕ → (file : Option (List ℕ)) → Status → List ℕ → Type 0
NoWaivers files before now None s text = ⊥
NoWaivers files before now (Some name) status.WaiversRefused text = HasNotRead files name text
NoWaivers files before now (Some name) s text = NotLoaded files before now name longest_text s text
