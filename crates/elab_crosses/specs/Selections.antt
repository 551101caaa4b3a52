-- Selections of the products of a cross (IEEE 1800-2017, 19.6.1).
use Rattle.std.specs.Prelude.{ℕ, ◌+◌, ◌-◌, nat_eq, ℤ, List, [], ◌∷◌, ◌++◌, length, slice_get, Bool, true, false, ◌&&◌, Option, Some, None, Result, Ok, Err, if◌then◌else◌}
use Rattle.std.specs.List.{list_any}
use Rattle.std.specs.Cmp.Lexicographic.{pointwise}
use Rattle.cov_base.specs.Sets.{written, set_of, is_in}
use Rattle.name_map.specs.Names.{meaning_of}
use Rattle.cov_tree.specs.declared.bins.Elem.{Elem}
use Rattle.cov_tree.specs.declared.groups.Sel.{Sel}
use Rattle.cov_tree.specs.declared.groups.Sel.TheOpen as sel
use Rattle.cov_tree.specs.declared.groups.Sel.TheOpen.{Sel-F}
use Rattle.cov_tree.specs.declared.groups.Sel.TheFolds.{fold-Sel}
use Rattle.const_eval.specs.Scopes.{Levels}
use Rattle.trans_seq.specs.declared.seq.Item.{Item}
use Rattle.trans_seq.specs.declared.seq.Seq.{Seq}
use Rattle.cross_select.specs.declared.select.Select.{Select}
use Rattle.cross_select.specs.declared.select.Select.TheViews.{roll-Select}
use Rattle.cross_select.specs.declared.select.Select.TheOpen as select
use Rattle.design_data.specs.declared.infos.ItemInfo.{ItemInfo}
use Rattle.design_data.specs.declared.infos.BinInfo.{BinInfo}
use Rattle.design_data.specs.declared.infos.BinRule.{BinRule}
use Rattle.design_data.specs.declared.infos.BinRule.TheVariants.{Values, Patterns, Trans, Default, DefaultValues, DefaultSequence, Picked, Product}
use Rattle.design_data.specs.Bins.{is_coverage}
use Rattle.elab_base.specs.declared.fault.ElabKind.TheVariants as kind
use Rattle.elab_base.specs.Gives.{Refusal, ◌>>=◌}
use Rattle.elab_values.specs.declared.domain.Domain.{Domain}
use Rattle.elab_values.specs.declared.made.ItemDecls.{ItemDecls}
use Rattle.elab_values.specs.Listed.{numbers_of}

-- The points of a cross: their names, their indexes among the items of the instance, these items, and what these declare.
pub record Crossed : Type 0 where
  pub names : List (List ℕ)
  pub axes : List ℕ
  pub items : List ItemInfo
  pub decls : List ItemDecls

abbrev pub crossed : List (List ℕ) → List ℕ → List ItemInfo → List ItemDecls → Crossed
crossed names axes items decls = record { names = names; axes = axes; items = items; decls = decls }

-- ---- which point

-- the place of a name among others, the first of which has this place
abbrev pub place_from : ℕ → List (List ℕ) → List ℕ → Option ℕ
place_from k [] name = None
place_from k (x ∷ xs) name = if pointwise nat_eq x name then Some k else place_from (k + 1) xs name

abbrev pub known_axis : Option ℕ → ℕ → Result ℕ Refusal
known_axis None at = Err (kind.NotCrossed, at)
known_axis (Some axis) at = Ok axis

-- the index of the item at a place of the cross
abbrev pub at_place : {X : Type 0} → List X → Option ℕ → Option X
at_place xs None = None
at_place xs (Some index) = slice_get xs index

-- ---- which of its bins

abbrev pub declaration : Option ItemDecls → List ℕ → Option ℕ
declaration None bin = None
declaration (Some decls) bin = meaning_of decls.names bin

abbrev pub known_bin : Option ℕ → ℕ → Result (Option ℕ) Refusal
known_bin None at = Err (kind.UnknownBin, at)
known_bin (Some place) at = Ok (Some place)

-- the place of the declaration of a named bin among those of a point; no name stands for all of them
abbrev pub wanted_bin : Option ItemDecls → Option (List ℕ) → ℕ → Result (Option ℕ) Refusal
wanted_bin decls None at = Ok None
wanted_bin decls (Some bin) at = known_bin (declaration decls bin) at

abbrev pub domain_in : Option ItemDecls → Option Domain
domain_in None = None
domain_in (Some decls) = decls.domain

-- the set of the numbers of a list
abbrev pub set_listed : Levels → Option Domain → List Elem → ℕ → Result (List (ℤ × ℤ)) Refusal
set_listed levels None elems at = Ok []
set_listed levels (Some domain) elems at = do
  numbers ← numbers_of levels domain false elems at
  Ok (set_of numbers)

-- the numbers of a list behind `intersect`, where one stands
unfoldable pub wanted_numbers : Levels → Option Domain → Option (List Elem) → ℕ → Result (Option (List (ℤ × ℤ))) Refusal
wanted_numbers levels domain None at = Ok None
wanted_numbers levels domain (Some elems) at = do
  set ← set_listed levels domain elems at
  Ok (Some set)

-- ---- which bins are chosen

-- some number of the set is a listed one
abbrev pub meets : (listed set : List (ℤ × ℤ)) → Bool
meets listed set = list_any (is_in (written listed)) (written set)

-- some number of the last item of a sequence is a listed one
abbrev pub meets_item : (listed : List (ℤ × ℤ)) → Option Item → Bool
meets_item listed None = false
meets_item listed (Some item) = meets listed item.set

abbrev pub meets_last : (listed : List (ℤ × ℤ)) → Seq → Bool
meets_last listed seq = meets_item listed (slice_get seq.items (length seq.items - 1))

-- A coverage bin of a point has a listed number: one that is left in its set, or one of the last place of one of its
-- sequences. A point of which a cross intersects the bins keeps no patterns.
abbrev pub rule_meets : (listed : List (ℤ × ℤ)) → BinRule → Bool
rule_meets listed (Values set) = meets listed set
rule_meets listed (Patterns patterns) = false
rule_meets listed (Trans seqs) = list_any (meets_last listed) seqs
rule_meets listed Default = false
rule_meets listed (DefaultValues set) = false
rule_meets listed DefaultSequence = false
rule_meets listed (Picked select) = false
rule_meets listed (Product members) = false

abbrev pub has_listed : Option (List (ℤ × ℤ)) → BinRule → Bool
has_listed None rule = true
has_listed (Some listed) rule = rule_meets listed rule

abbrev pub is_place : ℕ → Option ℕ → Bool
is_place place None = false
is_place place (Some declared) = nat_eq declared place

abbrev pub is_from : ℕ → Option (Option ℕ) → Bool
is_from place None = false
is_from place (Some declared) = is_place place declared

-- the bin at a place of its item is one of the wanted declaration
abbrev pub is_wanted : Option ℕ → List (Option ℕ) → ℕ → Bool
is_wanted None from k = true
is_wanted (Some place) from k = is_from place (slice_get from k)

-- whether the bin at a place of its item is chosen, if it is a coverage bin
abbrev pub flag : Option ℕ → Option (List (ℤ × ℤ)) → List (Option ℕ) → ℕ → BinInfo → List Bool
flag wanted listed from k bin = if is_coverage bin.kind then (is_wanted wanted from k && has_listed listed bin.rule) ∷ [] else []

-- for each coverage bin whether it is chosen, the first bin standing at place k
unfoldable pub flags : Option ℕ → Option (List (ℤ × ℤ)) → List (Option ℕ) → ℕ → List BinInfo → List Bool
flags wanted listed from k [] = []
flags wanted listed from k (bin ∷ bins) = flag wanted listed from k bin ++ flags wanted listed from (k + 1) bins

abbrev pub bins_in : Option ItemInfo → List BinInfo
bins_in None = []
bins_in (Some item) = item.bins

abbrev pub from_in : Option ItemDecls → List (Option ℕ)
from_in None = []
from_in (Some decls) = decls.from

abbrev pub chosen : Option ItemInfo → Option ItemDecls → Option ℕ → Option (List (ℤ × ℤ)) → List Bool
chosen item decls wanted listed = flags wanted listed (from_in decls) 0 (bins_in item)

-- ---- selections

-- the bins of a point of the cross: all of them or those of one name, and of these those that have a listed number
unfoldable pub bins_selected : Levels → Option ItemInfo → Option ItemDecls → ℕ → Option (List ℕ) → Option (List Elem) → ℕ → Result Select Refusal
bins_selected levels item decls axis bin elems at = do
  wanted ← wanted_bin decls bin at
  listed ← wanted_numbers levels (domain_in decls) elems at
  Ok (roll-Select (select.Bins axis (chosen item decls wanted listed)))

unfoldable pub leaf : Levels → Crossed → List ℕ → Option (List ℕ) → Option (List Elem) → ℕ → Result Select Refusal
leaf levels c point bin elems at = do
  axis ← known_axis (place_from 0 c.names point) at
  bins_selected levels (at_place c.items (slice_get c.axes axis)) (at_place c.decls (slice_get c.axes axis)) axis bin elems at

abbrev pub none_of : Select → Select
none_of inner = roll-Select (select.Not inner)

abbrev pub both_of : Select → Select → Select
both_of left right = roll-Select (select.And left right)

abbrev pub either_of : Select → Select → Select
either_of left right = roll-Select (select.Or left right)

-- one node of a selection, its parts being decided from left to right
abbrev pub select_layer : Levels → Crossed → Sel-F (Result Select Refusal) → Result Select Refusal
select_layer levels c (sel.BinsOf point bin elems at) = leaf levels c point bin elems at
select_layer levels c (sel.Not inner) = do
  s ← inner
  Ok (none_of s)
select_layer levels c (sel.And left right) = do
  l ← left
  r ← right
  Ok (both_of l r)
select_layer levels c (sel.Or left right) = do
  l ← left
  r ← right
  Ok (either_of l r)

-- what a selection selects, or its first fault
abbrev pub selection_of : Levels → Crossed → Sel → Result Select Refusal
selection_of levels c s = fold-Sel (Result Select Refusal) (select_layer levels c) s
