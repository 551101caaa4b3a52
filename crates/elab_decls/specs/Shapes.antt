-- Types (IEEE 1800-2017, 6.9, 6.11 and 6.19).
use Rattle.std.specs.Prelude.{ℕ, ◌+◌, ℤ, pos, ◌-ℤ◌, int_lt, int_le, unsigned_abs, ◌&&◌, Bool, Option, Some, None, Result, Ok, Err, slice_get}
use Rattle.cov_ground.specs.Limits.{most_bits}
use Rattle.bin_spec.specs.Types.{lowest, highest}
use Rattle.name_map.specs.Names.{meaning_of}
use Rattle.cov_tree.specs.Widths.{bits_of}
use Rattle.cov_tree.specs.declared.declarations.TypeText.{TypeText}
use Rattle.cov_tree.specs.declared.declarations.TypeText.TheVariants as texts
use Rattle.const_eval.specs.Typs.{Typ}
use Rattle.const_eval.specs.Binding.{has_width}
use Rattle.elab_base.specs.declared.fault.ElabKind.TheVariants as kind
use Rattle.elab_base.specs.declared.names.What.{What}
use Rattle.elab_base.specs.declared.names.What.TheVariants as what
use Rattle.elab_base.specs.Gives.{Refusal, ◌>>=◌, needs}
use Rattle.elab_base.specs.Steps.{number_in}
use Rattle.elab_decls.specs.declared.outside.Outside.{Outside}
use Rattle.elab_decls.specs.declared.outside.Enumeration.{Enumeration}
use Rattle.elab_decls.specs.declared.outside.Shape.{Shape}

-- high >= low >= 0, of most_bits at most; a low end above 255 has no place in a design
abbrev pub is_span : (high low : ℤ) → Bool
is_span high low = int_le (pos 0) low && (int_le low high && (int_le low (pos 255) && int_lt (high -ℤ low) (pos most_bits)))

abbrev pub span_shape : Bool → (high low : ℤ) → Shape
span_shape signed high low = record { typ = record { width = unsigned_abs (high -ℤ low) + 1; signed = signed }; low = unsigned_abs low; enumeration = None }

abbrev pub plain_shape : ℕ → Bool → Shape
plain_shape width signed = record { typ = record { width = width; signed = signed }; low = 0; enumeration = None }

-- a number of the type
abbrev pub is_number : Typ → ℤ → Bool
is_number typ v = int_le (lowest typ.width typ.signed) v && int_le v (highest typ.width typ.signed)

-- the enumeration at a place, whose base is a type
abbrev pub enumerated : ℕ → Option Enumeration → ℕ → Result Shape Refusal
-- no text reaches this: a name is that of a type only where its enumeration is there
enumerated place None at = Err (kind.UnknownType, at)
-- no text reaches TooWide here: the base of an enumeration has 1 to 64 bits
enumerated place (Some e) at = do
  _ ← needs (has_width e.typ.width) kind.TooWide at
  Ok (record { typ = e.typ; low = e.low; enumeration = Some place })

-- the enumeration that a name stands for
abbrev pub named_shape : Outside → Option What → ℕ → Result Shape Refusal
named_shape outside (Some (what.Type place)) at = enumerated place (slice_get outside.enumerations place) at
named_shape outside other at = Err (kind.UnknownType, at)

-- a type as it is written, in a declaration that stands at `at`
unfoldable pub shape_of : Outside → TypeText → ℕ → Result Shape Refusal
shape_of outside (texts.Vector signed None place) at = Ok (plain_shape 1 signed)
shape_of outside (texts.Vector signed (Some ends) place) at = do
  high ← number_in outside.scope ends.0
  low ← number_in outside.scope ends.1
  _ ← needs (is_span high low) kind.TooWide place
  Ok (span_shape signed high low)
shape_of outside (texts.Fixed width signed) at = Ok (plain_shape (bits_of width) signed)
shape_of outside (texts.Named name place) at = named_shape outside (meaning_of outside.names name) place
