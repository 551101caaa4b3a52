-- The numbers of a point (IEEE 1800-2017, 19.5): all numbers of its expression's type, or the constants of an
-- enumeration (6.19) where the expression is the name of something enumerated.
use Rattle.std.specs.Prelude.{ℤ, pos, int_le, ◌-◌, List, [], ◌∷◌, length, map, slice_get, Option, Some, None, if◌then◌else◌}
use Rattle.cov_base.specs.Sets.{written, set_of}
use Rattle.bin_spec.specs.Types.{lowest, highest}
use Rattle.const_eval.specs.Typs.{Typ}
use Rattle.elab_values.specs.declared.domain.Constant.{Constant}
use Rattle.elab_values.specs.declared.domain.Domain.{Domain}

-- all numbers of a type
abbrev pub domain_of_typ : Typ → Domain
domain_of_typ typ = record {
  typ = typ;
  low = lowest typ.width typ.signed;
  high = highest typ.width typ.signed;
  numbers = set_of (written ((lowest typ.width typ.signed, highest typ.width typ.signed) ∷ []));
  constants = None;
}

-- a constant put before the first one, among constants in order, that has no lesser value
abbrev pub put_constant : Constant → List Constant → List Constant
put_constant c [] = c ∷ []
put_constant c (d ∷ ds) = if int_le c.value d.value then c ∷ d ∷ ds else d ∷ put_constant c ds

-- the constants in order of their values
unfoldable pub by_value : List Constant → List Constant
by_value [] = []
by_value (c ∷ cs) = put_constant c (by_value cs)

-- the value of a constant, and 0 where there is none: an enumeration has one at least
abbrev pub value_or : Option Constant → ℤ
value_or None = pos 0
value_or (Some c) = c.value

abbrev pub constant_range : Constant → ℤ × ℤ
constant_range c = (c.value, c.value)

-- the numbers of constants that stand in order of their values
abbrev pub domain_of_sorted : Typ → List Constant → Domain
domain_of_sorted typ cs = record {
  typ = typ;
  low = value_or (slice_get cs 0);
  high = value_or (slice_get cs (length cs - 1));
  numbers = set_of (written (map constant_range cs));
  constants = Some cs;
}

-- the constants of an enumeration of this base
unfoldable pub domain_of_constants : Typ → List Constant → Domain
domain_of_constants typ cs = domain_of_sorted typ (by_value cs)
