-- What the steps of a command that fills a store answer.
use Rattle.std.specs.Prelude.{ℕ, List, Option, option_map}
use Rattle.covd_commands.specs.FromFiles.{Files}
use Rattle.covd_core.specs.declared.waiving.HadWaivers.{HadWaivers}
use Rattle.covd_core.specs.declared.waiving.HadWaivers.TheVariants as had
use Rattle.covd_core.specs.Waived.{NamesWaivers, NoWaivers}

-- the waivers of the file, where one is named, or the answer that they can't be had
abbrev pub IsHadWaivers : Files → ℕ → ℕ → (file : Option (List ℕ)) → HadWaivers → Type 0
IsHadWaivers files before now file (had.Had waivers) = NamesWaivers files file (option_map (λ some. some.items) waivers)
IsHadWaivers files before now file (had.Refused a) = NoWaivers files before now file a.status a.text.items
