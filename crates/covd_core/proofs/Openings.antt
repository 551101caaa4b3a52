-- A design with the text of its file.
use Rattle.std.proofs.Common.{ℕ, List}
use Rattle.covd_commands.specs.FromFiles.{Files, HasDesign}
use Rattle.covd_commands.specs.Texts.{Declared}
use Rattle.covd_core.specs.Starts.{HasOpening}

abbrev pub has_design : (files : Files) (name : List ℕ) (c : Declared) → HasOpening files name c → HasDesign files name c.design
has_design files name c h = record { text = c.text; file = h.file; short = h.short; is_design = h.declares }
