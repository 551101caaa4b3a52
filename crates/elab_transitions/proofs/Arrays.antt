-- The bins left of an array.
use Rattle.std.proofs.Common.{◌≡◌, ◌∙◌, ℕ, ℤ, List, [], ◌∷◌, map, get_or, Bool, true, false, Option, Some, None, refl, sym, ap, subst, inl, inr, arith}
use Rattle.std.specs.Prelude.{◌≢◌, ◌||◌, not, Contains}
use Rattle.std.specs.List.{AllPairs, list_any}
use Rattle.std.proofs.lemmas.Bool.{true≢false, false≢true}
use Rattle.std.proofs.lemmas.List.Elements.{Contains-get_or}
use Rattle.std.proofs.lemmas.List.Kept.{AllPairs-cons, AllPairs-filter}
use Rattle.cov_tree.specs.declared.bins.BinsDecl.{BinsDecl}
use Rattle.const_eval.specs.Terms.{Term}
use Rattle.trans_seq.specs.declared.seq.Seq.{Seq}
use Rattle.trans_lists.specs.Lists.{has_endless, is_among, lists_by_all, listed_by_all}
use Rattle.trans_seq.specs.Words.{word_of}
use Rattle.trans_seq.proofs.Members.{none_in, first_in, later_in, cases_in, in_filter, from_filter, in_map}
use Rattle.trans_lists.proofs.News.{among_first, among_later}
use Rattle.trans_lists.proofs.Counted.{AllDiffer, news_differ}
use Rattle.trans_lists.proofs.MergeLemmas.{all-windows}
use Rattle.elab_values.specs.declared.made.Made.{Made}
use Rattle.elab_transitions.specs.Lists.{seq_of_list}
use Rattle.elab_values.specs.Words.{kind_of}
use Rattle.elab_transitions.specs.Bins.{plan_of, list_bin, bins_made}
use Rattle.elab_transitions.specs.Tests.{in_some}
use Rattle.elab_transitions.specs.Removal.{removing_of, is_removed, is_seq_left, is_trans_left}
use Rattle.elab_transitions.specs.Laws.{IsKept, ArrayIsItsLists, bins_left}
use Rattle.design_data.specs.Bins.{seqs_of as seqs_of_rule}
use Rattle.elab_transitions.proofs.Words.{some_there, some_back}
use Rattle.elab_transitions.proofs.OneList.{word_of_list}

pub from_map : {X Y : Type 0} (f : X → Y) (xs : List X) (y : Y) → Contains (map f xs) y → (x : X) × Contains xs x × (y ≡ f x)
from_map f [] y h = absurd (none_in y h)
from_map f (x ∷ xs) y h = elim (cases_in (f x) (map f xs) y h) [
  | inl same ↦ (x, first_in x xs, sym same)
  | inr later ↦ let r = from_map f xs y later in (r.0, later_in x xs r.0 r.1, r.2)
]

or_false : (b : Bool) → (b || false) ≡ b
or_false true = refl
or_false false = refl

not_true : (b : Bool) → not b ≡ true → b ≡ false
not_true true e = absurd (false≢true e)
not_true false e = refl

pub not_false : (b : Bool) → not b ≡ false → b ≡ true
not_false true e = refl
not_false false e = absurd (true≢false e)

is_false : (b : Bool) → (b ≡ true → ⊥) → b ≡ false
is_false true h = absurd (h refl)
is_false false h = refl

-- the bin of a list is left where the list isn't removed
pub list_left : (b : BinsDecl) (declared : ℕ) (guard : Option Term) (ignored illegal : List Seq) (list : List ℤ)
    → is_trans_left ignored illegal true (list_bin b declared guard list).bin ≡ not (in_some (removing_of (kind_of b.word) ignored illegal) list)
unfolding is_trans_left
list_left b declared guard ignored illegal list =
    let removing = removing_of (kind_of b.word) ignored illegal in
    or_false (is_seq_left true removing (seq_of_list list)) ∙ ap (λ (word : Option (List ℤ)). not (is_removed removing word)) (word_of_list list)

module _ (b : BinsDecl) (declared : ℕ) (guard : Option Term) (seqs ignored illegal : List Seq) (bounded : list_any has_endless seqs ≡ false) where
  removing : List Seq
  removing = removing_of (kind_of b.word) ignored illegal

  kept : (list : List ℤ) → Contains (listed_by_all seqs) list → is_trans_left ignored illegal true (list_bin b declared guard list).bin ≡ true → IsKept seqs (removing_of (kind_of b.word) ignored illegal) list
  kept list h left =
      let out = not_true (in_some (removing_of (kind_of b.word) ignored illegal) list) (sym (list_left b declared guard ignored illegal list) ∙ left) in
      record {
        held = (all-windows seqs bounded list).0 h;
        not_removed = λ r. true≢false (sym (some_back (removing_of (kind_of b.word) ignored illegal) list r) ∙ out);
      }

  each : (made : Made) → Contains (bins_left ignored illegal true (bins_made b declared (plan_of true seqs) guard seqs)) made
      → (list : List ℤ) × IsKept seqs (removing_of (kind_of b.word) ignored illegal) list × (made ≡ list_bin b declared guard list)
  unfolding bins_made
  each made h =
      let p : Made → Bool = λ m. is_trans_left ignored illegal true m.bin in
      let f = from_filter p (map (list_bin b declared guard) (listed_by_all seqs)) made h in
      let m = from_map (list_bin b declared guard) (listed_by_all seqs) made f.0 in
      (m.0, kept m.0 m.1 (subst (λ (x : Made). is_trans_left ignored illegal true x.bin ≡ true) m.2 f.1), m.2)

  all : (list : List ℤ) → IsKept seqs (removing_of (kind_of b.word) ignored illegal) list → Contains (bins_left ignored illegal true (bins_made b declared (plan_of true seqs) guard seqs)) (list_bin b declared guard list)
  unfolding bins_made
  all list k =
      let p : Made → Bool = λ m. is_trans_left ignored illegal true m.bin in
      let here = (all-windows seqs bounded list).1 k.held in
      let out = is_false (in_some (removing_of (kind_of b.word) ignored illegal) list) (λ e. k.not_removed (some_there (removing_of (kind_of b.word) ignored illegal) list e)) in
      in_filter p (map (list_bin b declared guard) (listed_by_all seqs)) (list_bin b declared guard list) (in_map (list_bin b declared guard) (listed_by_all seqs) list here) (list_left b declared guard ignored illegal list ∙ ap not out)

-- ---- each once

among_in : (lists : List (List ℤ)) (list : List ℤ) → Contains lists list → is_among lists list ≡ true
among_in [] list h = absurd (none_in list h)
among_in (x ∷ xs) list h = elim (cases_in x xs list h) [
  | inl same ↦ subst (λ l. is_among (x ∷ xs) l ≡ true) same (among_first x xs)
  | inr later ↦ among_later x xs list (among_in xs list later)
]

-- what differs is made into what differs
once_made : {Y : Type 0} (f : List ℤ → Y) → ((u w : List ℤ) → f u ≡ f w → u ≡ w) → (lists : List (List ℤ)) → AllDiffer lists → AllPairs (λ a b. a ≢ b) (map f lists)
once_made f one [] differ = λ i j d lt within. absurd (omega (arith, within))
once_made f one (x ∷ xs) differ =
    AllPairs-cons (λ a b. a ≢ b) (f x) (map f xs)
    (λ k d within same.
    let m = from_map f xs (get_or (map f xs) k d) (Contains-get_or (map f xs) k d within) in
    true≢false (sym (among_in xs x (subst (λ l. Contains xs l) (sym (one x m.0 (same ∙ m.2))) m.1)) ∙ differ.0))
    (once_made f one xs differ.1)

-- the list of the first sequence of a bin
first_word : List Seq → Option (List ℤ)
first_word [] = None
first_word (seq ∷ seqs) = word_of seq.items

list_in : Made → Option (List ℤ)
list_in made = first_word (seqs_of_rule made.bin.rule)

some_same : (u w : List ℤ) → Some u ≡ Some w → u ≡ w
some_same u w e = cc

bin_one : (b : BinsDecl) (declared : ℕ) (guard : Option Term) (u w : List ℤ) → list_bin b declared guard u ≡ list_bin b declared guard w → u ≡ w
unfolding first_word list_in
bin_one b declared guard u w e = some_same u w (sym (word_of_list u) ∙ ap list_in e ∙ word_of_list w)

once : (b : BinsDecl) (declared : ℕ) (guard : Option Term) (seqs ignored illegal : List Seq) → AllPairs (λ a b. a ≢ b) (bins_left ignored illegal true (bins_made b declared (plan_of true seqs) guard seqs))
unfolding bins_made
once b declared guard seqs ignored illegal =
    AllPairs-filter (λ a b. a ≢ b) (λ made. is_trans_left ignored illegal true made.bin) (map (list_bin b declared guard) (listed_by_all seqs))
    (once_made (list_bin b declared guard) (bin_one b declared guard) (listed_by_all seqs) (news_differ [] (lists_by_all seqs)))

pub array_is : ArrayIsItsLists
array_is b declared guard seqs ignored illegal bounded = record {
  each = each b declared guard seqs ignored illegal bounded;
  all = all b declared guard seqs ignored illegal bounded;
  once = once b declared guard seqs ignored illegal;
}
