-- How a `List` stores its elements, so that a type may contain a `List` of itself.
use mathlib.Core.Path.{◌≡◌, refl, sym}
use mathlib.Core.List.{List, []}
use mathlib.Core.Former.{Former, this, list, via, children}
use base.Stored.{code_map}
use denote.RattleType.{RattleType}
use denote.HoleLaws.{Alike}
use denote.HolePlaces.{Recodes, struct_places, laid}
use denote.Hole.Carrier.{listed, list-listed}
use denote.Hole.Fix.{over}
use denote.Param.Weighed.{Weighed, w_list}
use denote.Model.Placed.{view_places}
use Rattle.std.specs.formers.vec.Vec as vec
use Rattle.std.specs.declared.alloc.Global.{Global}
use Rattle.std.specs.contracts.alloc.Global as heap
use Rattle.std.specs.contracts.impls.GlobalAllocator.TheImpl.{ghosts}
use Rattle.cov_tree.specs.declared.list.List.TheInside.{Inside}
use Rattle.cov_tree.specs.declared.list.List.TheView.{view, invariant}
use Rattle.cov_tree.specs.contracts.list.List as contracts
use Rattle.cov_tree.specs.contracts.list.List.TheInside as inside

-- its value is a list
abbrev pub the_former : Former {0} → Former {0}
the_former g = list g

abbrev pub the_weighed : {g : Former {0}} → Weighed g → Weighed (the_former g)
the_weighed w = w_list w

pub the_empty : List ⊥
the_empty = []

abbrev pub the_items : (X : Type 0) → List X → List X
the_items X xs = xs

pub the_items_listed : (X : Type 0) (xs : List X) → listed _ (children (the_former this) X xs) ≡ the_items X xs
the_items_listed X xs = list-listed X xs

-- its only field is a `Vec`
abbrev stored : Former {0}
stored = via (vec.the_former this Global) Inside (λ X fields. fields.items) (λ X items. record { items = items }) (λ X fields. refl) (λ X items. refl)

module _ (A B : RattleType) (f : A.Denot → B.Denot) where
  pub the_places : Alike A B f → Alike (contracts.the_row A) (contracts.the_row B) ((the_former this).map A.Denot B.Denot f)
  the_places alike =
      view_places stored (list this) view (λ X Y g fields. refl) (λ X fields. refl)
      A.Denot B.Denot f (contracts.the_row A).coded (contracts.the_row B).coded
      (invariant A.Denot) (invariant B.Denot) (λ fields p q. refl) (λ fields p q. refl) (λ fields e. tt) (λ fields e. tt)
      (over (inside.the_row A)) (over (inside.the_row B))
      (struct_places (inside.the_type A) (inside.the_type B) (vec.mapped f, tt) _ (λ fields. refl) refl
      (laid _ _ _ (vec.the_places heap.the_row ghosts A B f alike), tt))

  pub the_codes_placed : Recodes A B f → Recodes (contracts.the_row A) (contracts.the_row B) ((the_former this).map A.Denot B.Denot f)
  the_codes_placed same xs = sym (code_map A.coded.code B.coded.code f (λ x. sym (same x)) xs)
