use Rattle.std.proofs.Common.{◌≡◌, drop}
use Rattle.cov_spec.specs.Files.{file_of}
use Rattle.cov_base.specs.Memory.{told}
use Rattle.cov_base.proofs.memory.shelf.find.Given as goal

abbrev pub invariant-loop-file : goal.invariant-loop-file
invariant-loop-file l = file_of (told (drop l.file-index l.files)) l.name ≡ file_of (told l.files) l.name
