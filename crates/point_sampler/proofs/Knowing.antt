-- Sequences that are known by a word.
use Rattle.std.proofs.Common.{◌≡◌, ◌↔◌, ℕ, ◌+◌, ◌-◌, ◌<◌, ◌≤◌, ℤ, pos, List, [], length, get_or, drop, Some, None, ap, sym, subst, ◌∙◌, arith, length-drop}
use Rattle.std.specs.Prelude.{reverse, slice_get}
use Rattle.std.proofs.lemmas.List.{length-map, length-reverse, get_or-drop, get_or-map, get_or-reverse, ext_get_or}
use Rattle.std.proofs.lemmas.Option.{slice_get-get_or}
use Rattle.trans_seq.specs.declared.seq.Seq.{Seq}
use Rattle.trans_seq.specs.Windows.{InSome, EndsKept, EndsWindow}
use Rattle.trans_seq.specs.Words.{known, EndsWith}
use Rattle.trans_seq.proofs.WordLemmas.{counts_word}
use Rattle.word_table.specs.Words.{back, Ends}
use Rattle.design_data.specs.Laws.{Value}
use Rattle.point_tables.specs.Tables.{AreKnownBy}

-- ---- the trace ends with the word from its last value to its first, and with the list

module _ (word : List ℤ) (w : List Value) where
  abbrev n : ℕ
  n = length word

  abbrev m : ℕ
  m = length w - length word

  left : (k : ℕ) → n ≤ length w → k < n → get_or (drop m w) k None ≡ back w (n - 1 - k)
  left k fits lt = let e : m + k ≡ length w - 1 - (n - 1 - k) = omega (arith, fits, lt) in get_or-drop m w k None ∙ ap (λ (i : ℕ). get_or w i None) e

  right : (k : ℕ) → k < n → get_or (known (reverse word)) k None ≡ slice_get word (n - 1 - k)
  right k lt =
      get_or-map (λ (v : ℤ). Some v) (reverse word) k (pos 0) None (omega (arith, lt, length-reverse word)) ∙ ap (λ (v : ℤ). Some v) (get_or-reverse word k (pos 0) lt)
      ∙ sym (slice_get-get_or word (n - 1 - k) (pos 0) (omega (arith, lt)))

  same_cut : drop (length w - length (reverse word)) w ≡ drop m w
  same_cut = ap (λ (l : ℕ). drop (length w - l) w) (length-reverse word)

  to_list : Ends word w → EndsWith (reverse word) w
  to_list h =
      let fits : n ≤ length w = h.long in
      let count : length (drop m w) ≡ n = omega (arith, length-drop m w, fits) in (
        omega (arith, fits, length-reverse word),
        same_cut ∙ ext_get_or None (drop m w) (known (reverse word)) (omega (arith, count, length-map (reverse word) (λ (v : ℤ). Some v), length-reverse word))
            (λ k lt. let inside : k < n = omega (arith, lt, count) in left k fits inside ∙ h.at (n - 1 - k) (omega (arith, inside)) ∙ sym (right k inside)),
      )

  from_list : EndsWith (reverse word) w → Ends word w
  from_list h =
      let fits : n ≤ length w = omega (arith, h.0, length-reverse word) in
      record {
        long = fits;
        longer = omega arith;
        at = λ e lt.
            let k : ℕ = n - 1 - e in
            let inside : k < n = omega (arith, lt) in
            let again : n - 1 - k ≡ e = omega (arith, lt) in
            ap (back w) (sym again) ∙ sym (left k fits inside) ∙ ap (λ (xs : List Value). get_or xs k None) (sym same_cut ∙ h.1) ∙ right k inside ∙ ap (slice_get word) again;
      }

-- ---- windows

none_in : (w : List Value) → InSome [] w → ⊥
none_in w a = omega (arith, a.2)

module _ (removed seqs : List Seq) (word : List ℤ) (k : AreKnownBy removed seqs word) (w : List Value) where
  some : 0 < length (reverse word)
  some = omega (arith, k.some, length-reverse word)

  pub kept_by_word : EndsKept seqs removed w ↔ Ends word w
  kept_by_word = let law = counts_word k.seq removed (reverse word) w k.is_word some in
      subst (λ (own : List Seq). EndsKept own removed w ↔ Ends word w) (sym k.is_only) ((λ e. from_list word w (law.0 e).0), (λ e. law.1 (to_list word w e, k.kept)))

  pub window_by_word : EndsWindow seqs w ↔ Ends word w
  window_by_word = let law = counts_word k.seq [] (reverse word) w k.is_word some in
      subst (λ (own : List Seq). EndsWindow own w ↔ Ends word w) (sym k.is_only) (
        (λ e. from_list word w (law.0 (record { from = e.from; some = e.some; in_own = e.is_list; not_removed = none_in (drop e.from w) })).0),
        (λ e. let kept = law.1 (to_list word w e, none_in (known (reverse word))) in record { from = kept.from; some = kept.some; is_list = kept.in_own }),
      )
