-- Entrances of automata, and automata that rest.
use Rattle.std.proofs.Common.{◌≡◌, ◌⊎◌, ℤ, ℕ, ◌+◌, ◌<◌, List, [], ◌∷◌, ◌++◌, length, get_or, Some, refl, sym, subst, ◌∙◌, inl, inr, arith, length-append}
use Rattle.std.proofs.Math.ListN.{get_or-append}
use Rattle.std.proofs.Math.Seq.{get_or-append_seam}
use Rattle.std.proofs.lemmas.Bool.{cases_lt}
use Rattle.std.proofs.lemmas.List.{get_or_default}
use Rattle.design_data.specs.Laws.{Value}
use Rattle.point_tables.specs.declared.tables.Machine.{Machine}
use Rattle.point_tables.specs.declared.tables.Entrance.{Entrance}
use Rattle.point_tables.specs.Tables.{IsEntrance, AreEntrances, key, IsOut, AreResting}

-- ---- one more entrance

pub entrances_none : AreEntrances [] []
entrances_none = record { same = refl; at = λ k machine entrance lt. absurd (omega (arith, lt)) }

pub entrances_more : (machines : List Machine) (entrances : List Entrance) (machine : Machine) (entrance : Entrance) → IsEntrance machine.watcher entrance → AreEntrances machines entrances → AreEntrances (machines ++ machine ∷ []) (entrances ++ entrance ∷ [])
entrances_more machines entrances machine entrance is h = record {
  same = omega (arith, h.same, length-append machines (machine ∷ []), length-append entrances (entrance ∷ []));
  at = λ k m e lt. elim (cases_lt k (length machines)) [
    | inl lower ↦ subst (λ (x : Machine). IsEntrance x.watcher (get_or (entrances ++ entrance ∷ []) k e)) (sym (get_or-append machines (machine ∷ []) m k lower))
        (subst (λ (x : Entrance). IsEntrance (get_or machines k m).watcher x) (sym (get_or-append entrances (entrance ∷ []) e k (omega (arith, lower, h.same)))) (h.at k m e lower))
    | inr past ↦
        let is_last : length machines ≡ k = omega (arith, lt, past, length-append machines (machine ∷ [])) in
        let also : length entrances ≡ k = omega (arith, is_last, h.same) in
        subst (λ (j : ℕ). IsEntrance (get_or (machines ++ machine ∷ []) j m).watcher (get_or (entrances ++ entrance ∷ []) k e)) is_last
        (subst (λ (j : ℕ). IsEntrance (get_or (machines ++ machine ∷ []) (length machines) m).watcher (get_or (entrances ++ entrance ∷ []) j e)) also
        (subst (λ (x : Machine). IsEntrance x.watcher (get_or (entrances ++ entrance ∷ []) (length entrances) e)) (sym (get_or-append_seam machines machine [] m))
        (subst (λ (x : Entrance). IsEntrance machine.watcher x) (sym (get_or-append_seam entrances entrance [] e)) is)))
  ];
}

-- ---- one more that rests

pub rest_more : (entrances : List Entrance) (runs : List (List (ℕ × ℕ))) (v : Value) (from k : ℕ) (run : List (ℕ × ℕ)) (d : Entrance) → run ≡ get_or runs k run → run ≡ [] → k < length runs → length entrances ≡ length runs
    → IsOut (get_or entrances k d) v → AreResting entrances runs v from k → AreResting entrances runs v from (k + 1)
rest_more entrances runs v from k run d is none lt same out h j e r ge less = elim (cases_lt j k) [
  | inl lower ↦ h j e r ge lower
  | inr past ↦
      let here : k ≡ j = omega (arith, past, less) in
      subst (λ (i : ℕ). (get_or runs i r ≡ []) × IsOut (get_or entrances i e) v) here
      (sym (get_or_default runs k run r lt) ∙ sym is ∙ none, subst (λ (x : Entrance). IsOut x v) (get_or_default entrances k d e (omega (arith, lt, same))) out)
]

pub out_at : (k : ℕ) (number : ℤ) (e : Entrance) → k ≡ key number → (k < e.low) ⊎ (e.high < k) → IsOut e (Some number)
out_at k number e is h = subst (λ (n : ℕ). (n < e.low) ⊎ (e.high < n)) is h
