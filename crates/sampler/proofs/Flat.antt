-- Lists of quick items in one list.
use Rattle.std.proofs.Common.{◌≡◌, ℕ, ◌-◌, ◌≤◌, List, [], ◌∷◌, ◌++◌, length, drop, refl, ap, ◌∙◌, arith, length-append, length-drop}
use Rattle.std.specs.List.{slice_range, AllByRecursion}
use Rattle.std.proofs.lemmas.List.{take-append-le, drop-append-le, take_all}
use Rattle.std.proofs.lemmas.List.Elements.{recursion_from_All}
use Rattle.std.proofs.Math.Seq.{drop-append_seam}
use Rattle.sampler.specs.declared.lists.QuickItem.{QuickItem}
use Rattle.sampler.specs.declared.lists.QuickPlace.{QuickPlace}
use Rattle.sampler.specs.Quick.{Stands, AllStand, lists_of}

range_kept : (flat list : List QuickItem) (from to : ℕ) → from ≤ to → to ≤ length flat → slice_range (flat ++ list) from to ≡ slice_range flat from to
range_kept flat list from to le within =
    let past : from ≤ length flat = omega arith in
    let room : to - from ≤ length (drop from flat) = omega (arith, length-drop from flat) in
    rw drop-append-le (take-append-le (to - from) (drop from flat) list room)

range_new : (flat list : List QuickItem) → slice_range (flat ++ list) (length flat) (length (flat ++ list)) ≡ list
range_new flat list = rw drop-append_seam (take_all (length (flat ++ list) - length flat) list (omega (arith, length-append flat list)))

lists_kept : (flat list : List QuickItem) (ps : List QuickPlace) → AllByRecursion (Stands flat) ps → lists_of (flat ++ list) ps ≡ lists_of flat ps
lists_kept flat list [] h = refl
lists_kept flat list (p ∷ ps) h = ap (λ (x : List QuickItem). x ∷ lists_of (flat ++ list) ps) (range_kept flat list p.from p.to h.0.ordered h.0.inside) ∙ ap (λ (xs : List (List QuickItem)). slice_range flat p.from p.to ∷ xs) (lists_kept flat list ps h.1)

lists_append : (flat : List QuickItem) (ps qs : List QuickPlace) → lists_of flat (ps ++ qs) ≡ lists_of flat ps ++ lists_of flat qs
lists_append flat [] qs = refl
lists_append flat (p ∷ ps) qs = ap (λ (xs : List (List QuickItem)). slice_range flat p.from p.to ∷ xs) (lists_append flat ps qs)

pub lists_push : (flat list new : List QuickItem) (ps : List QuickPlace) (p : QuickPlace) → AllStand flat ps → new ≡ flat ++ list → p.from ≡ length flat → p.to ≡ length new → lists_of new (ps ++ p ∷ []) ≡ lists_of flat ps ++ list ∷ []
lists_push flat list new ps p h e from to =
    let last : slice_range new p.from p.to ≡ list = rw (from, to, e) (range_new flat list) in
    lists_append new ps (p ∷ []) ∙ ap (λ (xs : List (List QuickItem)). xs ++ slice_range new p.from p.to ∷ []) (ap (λ (f : List QuickItem). lists_of f ps) e ∙ lists_kept flat list ps (recursion_from_All (Stands flat) ps h)) ∙ ap (λ (x : List QuickItem). lists_of flat ps ++ x ∷ []) last
