-- Automata that rest: no window stands, and none begins with the value.
use Rattle.std.proofs.Common.{◌≡◌, ◌↔◌, ℕ, zero, suc, ◌+◌, ◌<◌, List, [], ◌∷◌, ◌++◌, length, drop, Bool, true, false, refl, ap, sym, subst, ◌∙◌, inl, inr, arith, IsTrue, length-append}
use Rattle.std.specs.Prelude.{◌&&◌}
use Rattle.std.specs.List.{AllByRecursion}
use Rattle.std.proofs.lemmas.Bool.{false≢true, cases_lt}
use Rattle.std.proofs.lemmas.List.{drop-append-le, drop_at}
use Rattle.trans_seq.specs.declared.seq.Item.{Item}
use Rattle.trans_seq.specs.declared.seq.Seq.{Seq}
use Rattle.trans_seq.specs.declared.seq.Repeat.{Repeat}
use Rattle.trans_seq.specs.Windows.{EndsKept, EndsWindow, is_end, is_known_in}
use Rattle.trans_seq.specs.Cells.{cells_of_repeat, cells_of_items}
use Rattle.trans_auto.specs.Masks.{SeqsHold}
use Rattle.trans_auto.specs.Steps.{SeqsStep, ItemsStep, RepeatSteps, RunsStep, Leaves}
use Rattle.trans_auto.specs.State.{Stands, Covers}
use Rattle.trans_auto.proofs.BitLemmas.{no-bit}
use Rattle.trans_auto.proofs.Languages.{seqs-step, seqs-start, seqs-dead, not_fresh}
use Rattle.trans_auto.proofs.RunLemmas.{kept-from, window-from, some-drop}
use Rattle.design_data.specs.Laws.{Value}
use Rattle.point_tables.specs.Tables.{BeginsElsewhere}
use Rattle.point_tables.proofs.Places.{in_none}

-- ---- no cell is reached by the value alone

once_none : (base : ℕ) (inside : Bool) → inside ≡ false → RunsStep true base 0 inside 0 1
once_none base inside e zero h = no-bit (base + 0) ∙ ap (λ (b : Bool). false) e ∙ sym (ap (λ (b : Bool). b && true) e)
once_none base inside e (suc m) h = absurd (omega (arith, h))

items_none : (base : ℕ) (v : Value) (items : List Item) → BeginsElsewhere v items → ItemsStep true base 0 0 v items
items_none base v [] b = tt
items_none base v (item ∷ items) b = (
  subst (λ (r : Repeat). RepeatSteps true base 0 (is_known_in item.set v) 0 r) (sym b.0) (once_none base (is_known_in item.set v) b.1),
  false,
  ((λ e. absurd (false≢true e)), (λ l. absurd (false≢true (sym (no-bit (base + 0)) ∙ subst (λ (r : Repeat). Leaves true base 0 r (is_end items)) b.0 l)))),
  (seqs-dead (base + cells_of_repeat item.repeat) v (record { items = items } ∷ [])).0,
)

seqs_none : (base : ℕ) (v : Value) (seqs : List Seq) → AllByRecursion (λ seq. BeginsElsewhere v seq.items) seqs → SeqsStep true base 0 0 v seqs
seqs_none base v [] all = λ k h. no-bit k
seqs_none base v (seq ∷ seqs) all = (items_none base v seq.items all.0, seqs_none (base + cells_of_items seq.items) v seqs all.1)

-- ---- the automaton stays as it is

module _ (own removed : List Seq) (v : Value) (out : AllByRecursion (λ seq. BeginsElsewhere v seq.items) own) where
  alone : SeqsHold 0 0 (v ∷ []) own
  alone = seqs-step true 0 0 0 [] v own ((λ e. refl), (λ e. refl)) (seqs-start 0 own) (seqs_none 0 v own out)

  later : (u : List Value) → (u ≡ [] → ⊥) → SeqsHold 0 0 u own → SeqsHold 0 0 (u ++ v ∷ []) own
  later u some h = seqs-step false 0 0 0 u v own (not_fresh u some) h (seqs-dead 0 v own)

  pub rest_stands : (w : List Value) → Stands own removed [] w → Stands own removed [] (w ++ v ∷ [])
  rest_stands w st = record {
    sound = λ r i. absurd (in_none r i);
    complete = λ n h. elim (cases_lt n (length w)) [
      | inl lt ↦ subst (Covers own removed []) (sym (drop-append-le n w (v ∷ []) (omega (arith, lt)))) (elim (st.complete n lt) [
        | inl dead ↦ inl (later (drop n w) (some-drop own removed w n lt) dead)
        | inr a ↦ absurd (in_none a.0 a.1)
      ])
      | inr ge ↦
          let e : length w ≡ n = let l : n < length (w ++ v ∷ []) = h in omega (arith, l, length-append w (v ∷ []), ge) in
          subst (λ (k : ℕ). Covers own removed [] (drop k (w ++ v ∷ []))) e
          (subst (Covers own removed []) (sym (drop_at w (v ∷ []) (length w) refl)) (inl alone))
    ];
    once = λ i j d lt within. absurd (omega (arith, within));
  }

  pub rest_kept : (w : List Value) → Stands own removed [] w → IsTrue false ↔ EndsKept own removed (w ++ v ∷ [])
  rest_kept w st = kept-from own removed [] (w ++ v ∷ []) false (rest_stands w st) (λ e. absurd (false≢true e)) (λ e run c. absurd (in_none run c))

  pub rest_window : (w : List Value) → Stands own removed [] w → IsTrue false ↔ EndsWindow own (w ++ v ∷ [])
  rest_window w st = window-from own removed [] (w ++ v ∷ []) false (rest_stands w st) (λ e. absurd (false≢true e)) (λ e run c. absurd (in_none run c))
