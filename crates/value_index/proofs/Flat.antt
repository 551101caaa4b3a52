use Rattle.std.proofs.Common.{◌≡◌, ℕ, ◌-◌, ◌≤◌, List, [], ◌∷◌, ◌++◌, length, drop, refl, ap, ◌∙◌, arith, length-append, length-drop}
use Rattle.std.specs.List.{slice_range, AllByRecursion}
use Rattle.std.proofs.lemmas.List.{take-append-le, drop-append-le, take_all}
use Rattle.std.proofs.lemmas.List.Elements.{recursion_from_All}
use Rattle.std.proofs.Math.Seq.{drop-append_seam}
use Rattle.value_index.specs.declared.rows.Place.{Place}
use Rattle.value_index.specs.Rows.{Stands, AllStand, rows_of}

pub range_kept : (flat row : List ℕ) (from to : ℕ) → from ≤ to → to ≤ length flat → slice_range (flat ++ row) from to ≡ slice_range flat from to
range_kept flat row from to le within =
    let past : from ≤ length flat = omega arith in
    let room : to - from ≤ length (drop from flat) = omega (arith, length-drop from flat) in
    rw drop-append-le (take-append-le (to - from) (drop from flat) row room)

pub range_new : (flat row : List ℕ) → slice_range (flat ++ row) (length flat) (length (flat ++ row)) ≡ row
range_new flat row = rw drop-append_seam (take_all (length (flat ++ row) - length flat) row (omega (arith, length-append flat row)))

rows_kept : (flat row : List ℕ) (ps : List Place) → AllByRecursion (Stands flat) ps → rows_of (flat ++ row) ps ≡ rows_of flat ps
rows_kept flat row [] h = refl
rows_kept flat row (p ∷ ps) h = ap (λ (x : List ℕ). x ∷ rows_of (flat ++ row) ps) (range_kept flat row p.from p.to h.0.ordered h.0.inside) ∙ ap (λ (xs : List (List ℕ)). slice_range flat p.from p.to ∷ xs) (rows_kept flat row ps h.1)

rows_append : (flat : List ℕ) (ps qs : List Place) → rows_of flat (ps ++ qs) ≡ rows_of flat ps ++ rows_of flat qs
rows_append flat [] qs = refl
rows_append flat (p ∷ ps) qs = ap (λ (xs : List (List ℕ)). slice_range flat p.from p.to ∷ xs) (rows_append flat ps qs)

pub rows_push : (flat row new : List ℕ) (ps : List Place) (p : Place) → AllStand flat ps → new ≡ flat ++ row → p.from ≡ length flat → p.to ≡ length new → rows_of new (ps ++ p ∷ []) ≡ rows_of flat ps ++ row ∷ []
rows_push flat row new ps p h e from to =
    let last : slice_range new p.from p.to ≡ row = rw (from, to, e) (range_new flat row) in
    rows_append new ps (p ∷ []) ∙ ap (λ (xs : List (List ℕ)). xs ++ slice_range new p.from p.to ∷ []) (ap (λ (f : List ℕ). rows_of f ps) e ∙ rows_kept flat row ps (recursion_from_All (Stands flat) ps h)) ∙ ap (λ (x : List ℕ). rows_of flat ps ++ x ∷ []) last
