-- The numbers of a point: those of its type, or the constants where its expression is the name of something enumerated
-- (IEEE 1800-2017, 19.5 and 6.19).
use Rattle.std.specs.Prelude.{ℕ, ℤ, List, map, slice_get, Option, Some, None}
use Rattle.name_map.specs.Names.{Pairs, meaning_of}
use Rattle.cov_tree.specs.declared.expr.Expr.{Expr}
use Rattle.cov_tree.specs.declared.expr.Expr.TheViews.{out-Expr}
use Rattle.cov_tree.specs.declared.expr.Expr.TheOpen as expr
use Rattle.cov_tree.specs.declared.expr.Expr.TheOpen.{Expr-F}
use Rattle.const_eval.specs.Typs.{Typ}
use Rattle.elab_base.specs.declared.names.What.{What}
use Rattle.elab_decls.specs.declared.outside.Outside.{Outside}
use Rattle.elab_decls.specs.declared.outside.Enumeration.{Enumeration}
use Rattle.elab_decls.specs.Formals.{enumeration_of}
use Rattle.elab_values.specs.declared.domain.Domain.{Domain}
use Rattle.elab_values.specs.declared.domain.Constant.{Constant}
use Rattle.elab_values.specs.Domains.{domain_of_typ, domain_of_constants}

-- the name that stands first counts
abbrev pub first_what : Option What → Option What → Option What
first_what (Some what) later = Some what
first_what None later = later

-- what a name stands for in a group with these formals and sample arguments
abbrev pub what_named : Outside → Pairs What → List ℕ → Option What
what_named outside formals name = first_what (meaning_of formals name) (meaning_of outside.names name)

-- the enumeration of the name that an expression is
abbrev pub named_enumeration : {A : Type 0} → Outside → Pairs What → Expr-F A → Option ℕ
named_enumeration outside formals (expr.Num lit at) = None
named_enumeration outside formals (expr.Name name at) = enumeration_of (what_named outside formals name)
named_enumeration outside formals (expr.Bit name index at) = None
named_enumeration outside formals (expr.Part name high low at) = None
named_enumeration outside formals (expr.Concat parts at) = None
named_enumeration outside formals (expr.Unary op arg at) = None
named_enumeration outside formals (expr.Binary op left right at) = None
named_enumeration outside formals (expr.Cond test yes' no' at) = None

abbrev pub constant_of : List ℕ × ℤ → Constant
constant_of constant = record { name = constant.0; value = constant.1 }

-- the constants of an enumeration, in order of declaration
abbrev pub constants_in : Enumeration → List Constant
constants_in e = map constant_of e.constants

abbrev pub domain_of_enumeration : Typ → Option Enumeration → Domain
-- no text reaches this: an enumeration by which something is declared stands at its place
domain_of_enumeration typ None = domain_of_typ typ
domain_of_enumeration typ (Some e) = domain_of_constants typ (constants_in e)

abbrev pub domain_by : Outside → Typ → Option ℕ → Domain
domain_by outside typ None = domain_of_typ typ
domain_by outside typ (Some place) = domain_of_enumeration typ (slice_get outside.enumerations place)

unfoldable pub domain_of_point : Outside → Pairs What → Expr → Typ → Domain
domain_of_point outside formals e typ = domain_by outside typ (named_enumeration outside formals (out-Expr e))
