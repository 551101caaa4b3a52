-- How a `Boxed` stores its value, so that a type may contain a `Boxed` of itself.
use mathlib.Core.Path.{refl}
use mathlib.Core.Former.{Former, this, const, pair, via}
use base.Stored.{gnil}
use base.Fml.{ftrue}
use denote.RattleType.{RattleType}
use denote.Memory.{part_of}
use denote.RawPtr.{Ptr}
use denote.Sharing.{nothing}
use denote.HoleLaws.{Alike}
use denote.HolePlaces.{Recodes, struct_places, laid, one_value}
use denote.Hole.Fix.{over}
use denote.Param.Weighed.{Weighed}
use denote.Model.Placed.{view_places}
use Rattle.std.specs.declared.boxed.Box.{Box}
use Rattle.std.specs.contracts.boxed.Box as box
use Rattle.std.specs.declared.alloc.Global.{Global}
use Rattle.std.specs.contracts.alloc.Global as heap
use Rattle.std.specs.contracts.impls.GlobalAllocator.TheImpl.{ghosts}
use Rattle.cov_tree.specs.declared.boxed.Boxed.TheInside.{Inside}
use Rattle.cov_tree.specs.declared.boxed.Boxed.TheView.{view, invariant}
use Rattle.cov_tree.specs.contracts.boxed.Boxed as contracts
use Rattle.cov_tree.specs.contracts.boxed.Boxed.TheInside as inside

-- its value is the value in the box
abbrev pub the_former : Former {0} → Former {0}
the_former g = g

abbrev pub the_weighed : {g : Former {0}} → Weighed g → Weighed (the_former g)
the_weighed w = w

-- its only field is a box: where it lies, and what lies there
abbrev stored : Former {0}
stored = via (pair (const (Ptr × Global)) this) Inside
    (λ X fields. ((fields.inner.ptr, fields.inner.alloc), fields.inner.value))
    (λ X parts. record { inner = record { ptr = parts.0.0; alloc = parts.0.1; value = parts.1 } })
    (λ X fields. refl) (λ X parts. refl)

abbrev holding : {X Y : Type 0} → Box X Global → Y → Box Y Global
holding b value = record { ptr = b.ptr; alloc = b.alloc; value = value }

abbrev box_row : RattleType → RattleType
box_row A = box.the_row A heap.the_row ghosts

module _ (A B : RattleType) (f : A.Denot → B.Denot) where
  box_places : Alike A B f → Alike (box_row A) (box_row B) (λ b. holding b (f b.value))
  unfolding part_of
  box_places alike = record {
    mir_same = λ i. (box_row (one_value A (alike.mir_same i) (λ _. ftrue) (λ _ _. nothing) gnil)).mir;
    own_same = λ b i. (box_row (one_value A (alike.mir_same i) (alike.own_same b.value i) (alike.shr_same b.value i) gnil)).own_val (holding b tt);
    shr_same = λ b i. (box_row (one_value A (alike.mir_same i) (alike.own_same b.value i) (alike.shr_same b.value i) gnil)).shr_at (holding b tt);
  }

  pub the_places : Alike A B f → Alike (contracts.the_row A) (contracts.the_row B) ((the_former this).map A.Denot B.Denot f)
  the_places alike =
      view_places stored this view (λ X Y g fields. refl) (λ X fields. refl)
      A.Denot B.Denot f (contracts.the_row A).coded (contracts.the_row B).coded
      (invariant A.Denot) (invariant B.Denot) (λ fields p q. refl) (λ fields p q. refl) (λ fields e. tt) (λ fields e. tt)
      (over (inside.the_row A)) (over (inside.the_row B))
      (struct_places (inside.the_type A) (inside.the_type B) ((λ b. holding b (f b.value)), tt) _ (λ fields. refl) refl
      (laid _ _ _ (box_places alike), tt))

  pub the_codes_placed : Recodes A B f → Recodes (contracts.the_row A) (contracts.the_row B) ((the_former this).map A.Denot B.Denot f)
  the_codes_placed same value = same value
