-- What a bin that is dropped would have counted.
use Rattle.std.proofs.Common.{◌≡◌, ◌∙◌, ◌⊎◌, ℕ, ℤ, List, [], ◌∷◌, Bool, true, false, Option, refl, sym, subst, inl, inr}
use Rattle.std.specs.Prelude.{◌&&◌, not, Contains}
use Rattle.std.specs.List.{list_any}
use Rattle.std.proofs.lemmas.Bool.{or_parts}
use Rattle.std.proofs.lemmas.List.Folds.{Any-from_list_any}
use Rattle.cov_tree.specs.declared.bins.BinsDecl.{BinsDecl}
use Rattle.const_eval.specs.Terms.{Term}
use Rattle.trans_seq.specs.declared.seq.Seq.{Seq}
use Rattle.trans_seq.specs.Windows.{InSeq, InSome}
use Rattle.trans_seq.specs.Words.{known}
use Rattle.trans_lists.specs.Lists.{listed_by_all}
use Rattle.trans_seq.proofs.Members.{none_in, cases_in}
use Rattle.trans_seq.proofs.WordLemmas.{in_seq_word}
use Rattle.design_data.specs.Bins.{seqs_of}
use Rattle.design_data.specs.Laws.{AddsNoWindow}
use Rattle.design_data.specs.Left.{is_same_seq, has_lists}
use Rattle.elab_values.specs.declared.made.Made.{Made}
use Rattle.elab_transitions.specs.Lists.{seq_of_list}
use Rattle.elab_values.specs.Words.{is_array, kind_of}
use Rattle.elab_transitions.specs.Bins.{plan_of, list_bin, bins_made}
use Rattle.elab_transitions.specs.Tests.{in_some}
use Rattle.elab_transitions.specs.Removal.{removing_of, is_seq_left, is_trans_left}
use Rattle.elab_transitions.specs.Laws.{DroppedAddsNothing}
use Rattle.elab_transitions.proofs.Words.{some_there}
use Rattle.elab_transitions.proofs.OneList.{word_of_list}
use Rattle.elab_transitions.proofs.Same.{seq_same}
use Rattle.elab_transitions.proofs.Arrays.{from_map, not_false, list_left}
use Rattle.elab_transitions.proofs.Written.{AreOften, AllOften, no_window}
use Rattle.elab_transitions.proofs.Declared.{made_of}

-- ---- elements

none_of : (p : Seq → Bool) (seqs : List Seq) (seq : Seq) → list_any p seqs ≡ false → Contains seqs seq → p seq ≡ false
none_of p [] seq e h = absurd (none_in seq h)
none_of p (x ∷ xs) seq e h =
    let parts = or_parts (p x) (list_any p xs) e in
    elim (cases_in x xs seq h) [ inl same ↦ subst (λ y. p y ≡ false) same parts.0 | inr later ↦ none_of p xs seq parts.1 later ]

each_often : (seqs : List Seq) (seq : Seq) → AllOften seqs → Contains seqs seq → AreOften seq.items
each_often [] seq all h = absurd (none_in seq h)
each_often (x ∷ xs) seq all h = elim (cases_in x xs seq h) [ inl same ↦ subst (λ (y : Seq). AreOften y.items) same all.0 | inr later ↦ each_often xs seq all.1 later ]

-- ---- scalar bins

dropped_cases : (lists removed : Bool) → (lists && not removed) ≡ false → (lists ≡ false) ⊎ (removed ≡ true)
dropped_cases true removed e = inr (not_false removed e)
dropped_cases false removed e = inl refl

same_among : (seq : Seq) (removing : List Seq) (w : List (Option ℤ)) → list_any (is_same_seq seq) removing ≡ true → InSeq seq.items w → InSome removing w
same_among seq removing w e h =
    let a = Any-from_list_any (is_same_seq seq) removing e in
    let same : seq ≡ a.1 = (seq_same seq a.1).0 a.4 in
    (a.0, a.1, a.2, a.3, subst (λ (s : Seq). InSeq s.items w) same h)

pub scalar_adds_nothing : (removing seqs : List Seq) → AllOften seqs → list_any (is_seq_left false removing) seqs ≡ false → AddsNoWindow seqs removing
scalar_adds_nothing removing seqs often e w a =
    let here : Contains seqs a.1 = (a.0, a.2, a.3) in
    let gone = none_of (is_seq_left false removing) seqs a.1 e here in
    elim (dropped_cases (has_lists a.1) (list_any (is_same_seq a.1) removing) gone) [
      | inl empty ↦ absurd (no_window a.1.items w (each_often seqs a.1 often here) empty a.4)
      | inr same ↦ same_among a.1 removing w same a.4
    ]

-- ---- elements of arrays

only_seq : (seq : Seq) (w : List (Option ℤ)) → InSome (seq ∷ []) w → InSeq seq.items w
only_seq seq w a = elim (cases_in seq [] a.1 (a.0, a.2, a.3)) [
  | inl same ↦ subst (λ (s : Seq). InSeq s.items w) (sym same) a.4
  | inr later ↦ absurd (none_in a.1 later)
]

list_adds_nothing : (removing : List Seq) (list : List ℤ) → in_some removing list ≡ true → AddsNoWindow (seq_of_list list ∷ []) removing
list_adds_nothing removing list e w a =
    let is : w ≡ known list = in_seq_word (seq_of_list list).items list w (word_of_list list) (only_seq (seq_of_list list) w a) in
    subst (λ (v : List (Option ℤ)). InSome removing v) (sym is) (some_there removing list e)

-- ---- the bins of a declaration

adds_nothing : (b : BinsDecl) (declared : ℕ) (guard : Option Term) (seqs ignored illegal : List Seq) (array : Bool) (bin : Made) → AllOften seqs → Contains (bins_made b declared (plan_of array seqs) guard seqs) bin
    → is_trans_left ignored illegal array bin.bin ≡ false → AddsNoWindow (seqs_of bin.bin.rule) (removing_of bin.bin.kind ignored illegal)
unfolding bins_made is_trans_left
adds_nothing b declared guard seqs ignored illegal true bin often h gone =
    let m = from_map (list_bin b declared guard) (listed_by_all seqs) bin h in
    let removing = removing_of (kind_of b.word) ignored illegal in
    let out = not_false (in_some removing m.0) (sym (list_left b declared guard ignored illegal m.0) ∙ subst (λ (x : Made). is_trans_left ignored illegal true x.bin ≡ false) m.2 gone) in
    subst (λ (x : Made). AddsNoWindow (seqs_of x.bin.rule) (removing_of x.bin.kind ignored illegal)) (sym m.2) (list_adds_nothing removing m.0 out)
adds_nothing b declared guard seqs ignored illegal false bin often h gone = elim (cases_in _ [] bin h) [
  | inl same ↦ subst (λ (x : Made). AddsNoWindow (seqs_of x.bin.rule) (removing_of x.bin.kind ignored illegal)) same
      (scalar_adds_nothing (removing_of (kind_of b.word) ignored illegal) seqs often (subst (λ (x : Made). is_trans_left ignored illegal false x.bin ≡ false) (sym same) gone))
  | inr later ↦ absurd (none_in bin later)
]

pub dropped : DroppedAddsNothing
dropped levels domain b sequences before made bin ignored illegal e h gone =
    let m = made_of levels domain b sequences before made e in
    adds_nothing b before.declared m.guard m.seqs ignored illegal (is_array b.size) bin m.often (subst (λ (bins : List Made). Contains bins bin) (sym m.bins) h) gone
