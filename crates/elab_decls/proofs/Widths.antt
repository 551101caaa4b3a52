-- A type has 1 to 64 bits.
use Rattle.std.proofs.Common.{◌≡◌, ℕ, ◌+◌, ◌<◌, subst, arith, true, Option, Some, None, Ok}
use Rattle.std.specs.Prelude.{ℤ, pos, negsuc, ◌-ℤ◌, int_le, int_lt, unsigned_abs, nat_le, ◌&&◌, slice_get}
use Rattle.name_map.specs.Names.{meaning_of}
use Rattle.cov_tree.specs.Widths.{bits_of}
use Rattle.cov_tree.specs.declared.declarations.FixedWidth.{FixedWidth}
use Rattle.cov_tree.specs.declared.declarations.FixedWidth.TheVariants.{Bits8, Bits16, Bits32, Bits64}
use Rattle.cov_tree.specs.declared.declarations.TypeText.{TypeText}
use Rattle.cov_tree.specs.declared.declarations.TypeText.TheVariants as texts
use Rattle.const_eval.specs.Binding.{has_width}
use Rattle.bit_width.specs.Widths.{HasWidth}
use Rattle.elab_base.specs.declared.fault.ElabKind.TheVariants as kind
use Rattle.elab_base.specs.declared.names.What.{What}
use Rattle.elab_base.specs.declared.names.What.TheVariants as what
use Rattle.elab_base.specs.Gives.{needs}
use Rattle.elab_base.specs.Steps.{number_in}
use Rattle.elab_base.proofs.Keeps.{bind_ok, ok_is, needs_ok, and_first, and_second}
use Rattle.elab_decls.specs.declared.outside.Outside.{Outside}
use Rattle.elab_decls.specs.declared.outside.Enumeration.{Enumeration}
use Rattle.elab_decls.specs.declared.outside.Shape.{Shape}
use Rattle.elab_decls.specs.Shapes.{is_span, span_shape, plain_shape, enumerated, named_shape, shape_of}

pub tested_width : (width : ℕ) → has_width width ≡ true → HasWidth width
tested_width width e =
    let low = and_first (nat_le 1 width) (nat_le width 64) e in
    let high = and_second (nat_le 1 width) (nat_le width 64) e in
    (grind (arith, low), grind (arith, high))

difference : (d : ℤ) → int_le (pos 0) d ≡ true → int_lt d (pos 64) ≡ true → HasWidth (unsigned_abs d + 1)
difference (pos n) low high = let lt : n < 64 = grind (arith, high) in (omega arith, omega (arith, lt))
difference (negsuc n) low high = absurd (grind (arith, low))

span_width : (high low : ℤ) → is_span high low ≡ true → HasWidth (unsigned_abs (high -ℤ low) + 1)
span_width high low e =
    let more = and_second (int_le (pos 0) low) (int_le low high && (int_le low (pos 255) && int_lt (high -ℤ low) (pos 64))) e in
    let order = and_first (int_le low high) (int_le low (pos 255) && int_lt (high -ℤ low) (pos 64)) more in
    let last = and_second (int_le low high) (int_le low (pos 255) && int_lt (high -ℤ low) (pos 64)) more in
    let few = and_second (int_le low (pos 255)) (int_lt (high -ℤ low) (pos 64)) last in
    let some : int_le (pos 0) (high -ℤ low) ≡ true = grind (arith, order) in
    difference (high -ℤ low) some few

one_bit : HasWidth 1
one_bit = (omega arith, omega arith)

pub fixed_width : (width : FixedWidth) → HasWidth (bits_of width)
fixed_width Bits8 = (omega arith, omega arith)
fixed_width Bits16 = (omega arith, omega arith)
fixed_width Bits32 = (omega arith, omega arith)
fixed_width Bits64 = (omega arith, omega arith)

enumerated_width : (place : ℕ) (e : Option Enumeration) (at : ℕ) (shape : Shape) → enumerated place e at ≡ Ok shape → HasWidth shape.typ.width
enumerated_width place None at shape e = absurd cc
enumerated_width place (Some x) at shape e =
    let n = bind_ok (needs (has_width x.typ.width) kind.TooWide at) _ shape e in
    subst (λ (s : Shape). HasWidth s.typ.width) (ok_is _ shape n.2) (tested_width x.typ.width (needs_ok (has_width x.typ.width) kind.TooWide at n.0 n.1))

named_width : (outside : Outside) (w : Option What) (at : ℕ) (shape : Shape) → named_shape outside w at ≡ Ok shape → HasWidth shape.typ.width
named_width outside (Some (what.Type place)) at shape e = enumerated_width place (slice_get outside.enumerations place) at shape e
named_width outside (Some what.Constant) at shape e = absurd cc
named_width outside (Some (what.Variable enumeration)) at shape e = absurd cc
named_width outside (Some (what.Group text group)) at shape e = absurd cc
named_width outside (Some what.Instance) at shape e = absurd cc
named_width outside (Some (what.Formal by_ref enumeration)) at shape e = absurd cc
named_width outside (Some (what.Item index)) at shape e = absurd cc
named_width outside (Some what.Bin) at shape e = absurd cc
named_width outside None at shape e = absurd cc

pub shape_width : (outside : Outside) (typ : TypeText) (at : ℕ) (shape : Shape) → shape_of outside typ at ≡ Ok shape → HasWidth shape.typ.width
unfolding shape_of
shape_width outside (texts.Vector signed None place) at shape e = subst (λ (s : Shape). HasWidth s.typ.width) (ok_is (plain_shape 1 signed) shape e) one_bit
shape_width outside (texts.Vector signed (Some ends) place) at shape e =
    let h = bind_ok (number_in outside.scope ends.0) _ shape e in
    let l = bind_ok (number_in outside.scope ends.1) _ shape h.2 in
    let n = bind_ok (needs (is_span h.0 l.0) kind.TooWide place) _ shape l.2 in
    subst (λ (s : Shape). HasWidth s.typ.width) (ok_is (span_shape signed h.0 l.0) shape n.2) (span_width h.0 l.0 (needs_ok (is_span h.0 l.0) kind.TooWide place n.0 n.1))
shape_width outside (texts.Fixed width signed) at shape e = subst (λ (s : Shape). HasWidth s.typ.width) (ok_is (plain_shape (bits_of width) signed) shape e) (fixed_width width)
shape_width outside (texts.Named name place) at shape e = named_width outside (meaning_of outside.names name) place shape e
