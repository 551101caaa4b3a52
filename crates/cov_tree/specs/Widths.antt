-- Widths of the types that have always the same (IEEE 1800-2017, 6.11, table 6-8).
use Rattle.std.specs.Prelude.{ℕ}
use Rattle.cov_tree.specs.declared.declarations.FixedWidth.{FixedWidth}
use Rattle.cov_tree.specs.declared.declarations.FixedWidth.TheVariants.{Bits8, Bits16, Bits32, Bits64}

abbrev pub bits_of : FixedWidth → ℕ
bits_of Bits8 = 8
bits_of Bits16 = 16
bits_of Bits32 = 32
bits_of Bits64 = 64
