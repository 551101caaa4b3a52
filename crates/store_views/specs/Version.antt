-- The version of the program.
use Rattle.std.specs.Prelude.{ℕ, List, codes}

abbrev pub version : List ℕ
version = codes "0.1.0"
