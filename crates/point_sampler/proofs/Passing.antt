-- Automata that rest are passed over.
use Rattle.std.proofs.Common.{◌≡◌, ℕ, zero, suc, ◌+◌, ◌-◌, ◌<◌, ◌≤◌, List, [], ◌∷◌, ◌++◌, length, take, get_or, Bool, false, refl, sym, subst, inl, inr, arith}
use Rattle.std.specs.Prelude.{Contains}
use Rattle.std.proofs.lemmas.Bool.{false≢true, cases_lt}
use Rattle.std.proofs.lemmas.List.{take_more}
use Rattle.trans_auto.specs.State.{Stands}
use Rattle.design_data.specs.declared.infos.BinKind.TheVariants.{CvgBin}
use Rattle.design_data.specs.Laws.{Value}
use Rattle.point_tables.specs.declared.tables.Machine.{Machine}
use Rattle.point_tables.specs.declared.tables.Entrance.{Entrance}
use Rattle.point_tables.specs.declared.tables.Removers.{Removers}
use Rattle.point_tables.specs.Tables.{removed_by, AreEntrances, AreResting}
use Rattle.point_sampler.specs.Met.{SomeTaken, Answered, IsPlaceOf}
use Rattle.point_sampler.proofs.Answering.{answered_more, place_more}
use Rattle.point_sampler.proofs.Resting.{rest_stands, rest_kept, rest_window}

-- ---- those that rest, from one place up to another

along : (from to : ℕ) (P : ℕ → Type 0) → ((k : ℕ) → from ≤ k → k < to → P k → P (k + 1)) → (n k : ℕ) → k + n ≡ to → from ≤ k → P k → P to
along from to P step zero k e le h = let same : k ≡ to = omega (arith, e) in subst P same h
along from to P step (suc n) k e le h = along from to P step n (k + 1) (omega (arith, e)) (omega (arith, le)) (step k le (omega (arith, e)) h)

no_entrance : Entrance
no_entrance = record { bounded = false; low = 0; high = 0 }

no_machine : Machine
no_machine = record { place = 0; kind = CvgBin; watcher = [] }

module _ (machines : List Machine) (entrances : List Entrance) (removers : Removers) (v : Value) (are : AreEntrances machines entrances) (runs : List (List (ℕ × ℕ))) (from to : ℕ) (order : from ≤ to) (within : to ≤ length machines) (rest : AreResting entrances runs v from to) where
  pub taken_over : (w : List Value) → SomeTaken machines removers w v from runs → SomeTaken machines removers w v to runs
  taken_over w h = record {
    done = λ j d r lt inside. elim (cases_lt j from) [
      | inl lower ↦ h.done j d r lower inside
      | inr past ↦
          let own = (get_or machines j d).watcher in
          let removed = removed_by removers (get_or machines j d).kind in
          let none : get_or runs j r ≡ [] = (rest j no_entrance r past lt).0 in
          subst (λ (run : List (ℕ × ℕ)). Stands own removed run (w ++ v ∷ [])) (sym none)
          (rest_stands own removed v (are.at j d no_entrance inside v (rest j no_entrance r past lt).1) w
          (subst (λ (run : List (ℕ × ℕ)). Stands own removed run w) none (h.left j d r past inside)))
    ];
    left = λ j d r le inside. h.left j d r (omega (arith, le, order)) inside;
  }

  one_over : (w : List Value) (met : List ℕ) (ended : Bool) → SomeTaken machines removers w v from runs → (k : ℕ) → from ≤ k → k < to
      → Answered (take k machines) removers (w ++ v ∷ []) met ended → Answered (take (k + 1) machines) removers (w ++ v ∷ []) met ended
  one_over w met ended taken k le lt h =
      let inside : k < length machines = omega (arith, lt, within) in
      let machine = get_or machines k no_machine in
      let removed = removed_by removers machine.kind in
      let out = are.at k no_machine no_entrance inside v (rest k no_entrance [] le lt).1 in
      let stands : Stands machine.watcher removed [] w = subst (λ (run : List (ℕ × ℕ)). Stands machine.watcher removed run w) (rest k no_entrance [] le lt).0 (taken.left k no_machine [] le inside) in
      subst (λ (ms : List Machine). Answered ms removers (w ++ v ∷ []) met ended) (sym (take_more machines k no_machine inside))
      (answered_more removers (w ++ v ∷ []) (take k machines) machine false false met met ended ended h
      (rest_kept machine.watcher removed v out w stands) (rest_window machine.watcher removed v out w stands) refl
      ((λ t. inl t), (λ s. elim s [ inl t ↦ t | inr f ↦ absurd (false≢true f) ])))

  pub answered_over : (w : List Value) (met : List ℕ) (ended : Bool) → SomeTaken machines removers w v from runs
      → Answered (take from machines) removers (w ++ v ∷ []) met ended → Answered (take to machines) removers (w ++ v ∷ []) met ended
  answered_over w met ended taken h =
      along from to (λ k. Answered (take k machines) removers (w ++ v ∷ []) met ended) (one_over w met ended taken) (to - from) from (omega (arith, order)) (omega arith) h

pub among_over : (machines : List Machine) (from to : ℕ) (met : List ℕ) → from ≤ to → to ≤ length machines
    → ((p : ℕ) → Contains met p → IsPlaceOf (take from machines) p) → (p : ℕ) → Contains met p → IsPlaceOf (take to machines) p
among_over machines from to met order within h p c =
    along from to (λ k. IsPlaceOf (take k machines) p)
    (λ k le lt one. subst (λ (ms : List Machine). IsPlaceOf ms p) (sym (take_more machines k no_machine (omega (arith, lt, within)))) (place_more (take k machines) (get_or machines k no_machine) p one))
    (to - from) from (omega (arith, order)) (omega arith) (h p c)
