-- The limits within which a declaration's bins are, and that a bin left has a sequence left.
use Rattle.std.proofs.Common.{◌≡◌, ◌∙◌, ℕ, ◌+◌, ◌≤◌, ℤ, List, [], ◌∷◌, length, map, take, drop, Bool, true, false, Option, Some, refl, sym, ap, subst, inl, inr, arith, length-drop, length-take}
use Rattle.std.specs.Prelude.{nat_le, ◌&&◌, not, Contains}
use Rattle.std.specs.List.{AllByRecursion, list_all, list_any}
use Rattle.std.proofs.lemmas.Bool.{and_parts, and_from, or_parts, or_left, false≢true, true≢false}
use Rattle.std.proofs.lemmas.List.{length-map}
use Rattle.std.proofs.lemmas.List.Folds.{Any-from_list_any}
use Rattle.cov_ground.specs.Limits.{most_cells}
use Rattle.cov_tree.specs.declared.bins.BinsDecl.{BinsDecl}
use Rattle.cov_tree.specs.declared.bins.Word.{Word}
use Rattle.cov_tree.specs.declared.bins.Word.TheVariants as words
use Rattle.const_eval.specs.Terms.{Term}
use Rattle.trans_seq.specs.declared.seq.Item.{Item}
use Rattle.trans_seq.specs.declared.seq.Seq.{Seq}
use Rattle.trans_seq.specs.declared.seq.Repeat.{Repeat}
use Rattle.trans_seq.specs.declared.seq.Repeat.TheVariants.{Once, Consec, Goto, NonConsec}
use Rattle.trans_seq.specs.Cells.{cells_of_repeat, cells_of_items, cells_of_seqs}
use Rattle.trans_lists.specs.Lists.{goes_on, is_endless, has_endless, listed_by_all}
use Rattle.trans_seq.specs.Windows.{InRepeat, InSeq, InSome, is_known_in, is_end}
use Rattle.trans_seq.proofs.Members.{none_in, first_in, later_in, cases_in}
use Rattle.trans_lists.proofs.MergeLemmas.{all-windows}
use Rattle.design_data.specs.Bins.{seqs_of}
use Rattle.design_data.specs.Left.{is_same_seq, has_lists, has_numbers, has_seq_left}
use Rattle.elab_values.specs.declared.made.Made.{Made}
use Rattle.elab_transitions.specs.Lists.{item_once, seq_of_list}
use Rattle.elab_values.specs.Words.{is_array, kind_of}
use Rattle.elab_transitions.specs.Bins.{is_short, is_within, removing_after, removed_by, plan_of, bins_in, list_bin, bins_made}
use Rattle.elab_transitions.specs.Tests.{in_some}
use Rattle.elab_transitions.specs.Removal.{removing_of, is_trans_left}
use Rattle.elab_transitions.specs.Laws.{MadeIsWithin, LeftHasSeq}
use Rattle.elab_transitions.proofs.Words.{some_back}
use Rattle.elab_transitions.proofs.OneList.{word_of_list, some_once}
use Rattle.elab_transitions.proofs.Same.{seq_same}
use Rattle.elab_transitions.proofs.Arrays.{from_map, list_left}
use Rattle.elab_transitions.proofs.Declared.{made_of}
use Rattle.trans_seq.proofs.WordLemmas.{word_in_seq}

-- ---- lengths of lists

repeat_length : (set : List (ℤ × ℤ)) (repeat : Repeat) (last : Bool) (w : List (Option ℤ)) → goes_on repeat ≡ false → InRepeat (is_known_in set) repeat last w → length w ≤ cells_of_repeat repeat
repeat_length set Once last w e h = omega (arith, h.0)
repeat_length set (Consec low high) last w e h = h.1
repeat_length set (Goto low high) last w e h = absurd (true≢false e)
repeat_length set (NonConsec low high) last w e h = absurd (true≢false e)

seq_length : (items : List Item) (w : List (Option ℤ)) → list_any is_endless items ≡ false → InSeq items w → length w ≤ cells_of_items items
seq_length [] w e h = omega (arith, ap length h)
seq_length (item ∷ items) w e h =
    let parts = or_parts (is_endless item) (list_any is_endless items) e in
    let first = repeat_length item.set item.repeat (is_end items) (take h.cut w) parts.0 h.first in
    let rest = seq_length items (drop h.cut w) parts.1 h.rest in
    let within : h.cut ≤ length w = h.within in
    omega (arith, first, rest, within, length-take h.cut w, length-drop h.cut w)

one_short : (seqs : List Seq) (seq : Seq) → list_any has_endless seqs ≡ false → list_all is_within seqs ≡ true → Contains seqs seq → (has_endless seq ≡ false) × (is_within seq ≡ true)
one_short [] seq e short h = absurd (none_in seq h)
one_short (x ∷ xs) seq e short h =
    let ends = or_parts (has_endless x) (list_any has_endless xs) e in
    let within = and_parts (is_within x) (list_all is_within xs) short in
    elim (cases_in x xs seq h) [
      | inl same ↦ (subst (λ (y : Seq). has_endless y ≡ false) same ends.0, subst (λ (y : Seq). is_within y ≡ true) same within.0)
      | inr later ↦ one_short xs seq ends.1 within.1 later
    ]

list_length : (seqs : List Seq) (list : List ℤ) → list_any has_endless seqs ≡ false → list_all is_within seqs ≡ true → InSome seqs (map Some list) → length list ≤ most_cells
unfolding is_within
list_length seqs list e short a =
    let one = one_short seqs a.1 e short (a.0, a.2, a.3) in
    let long = seq_length a.1.items (map Some list) one.0 a.4 in
    let same = length-map list (λ (v : ℤ). Some v) in
    let few : nat_le (cells_of_items a.1.items) most_cells ≡ true = one.1 in
    grind (arith, long, same, few)

list_cells : (list : List ℤ) → cells_of_items (seq_of_list list).items ≡ length list
list_cells [] = refl
list_cells (v ∷ vs) = let rest = list_cells vs in omega (arith, rest)

-- ---- the bins

abbrev IsShortBin : Made → Type 0
IsShortBin made = cells_of_seqs (seqs_of made.bin.rule) ≤ most_cells

list_bins_short : (b : BinsDecl) (declared : ℕ) (guard : Option Term) (lists : List (List ℤ)) → ((list : List ℤ) → Contains lists list → length list ≤ most_cells) → AllByRecursion IsShortBin (map (list_bin b declared guard) lists)
list_bins_short b declared guard [] each = tt
list_bins_short b declared guard (list ∷ lists) each =
    let few = each list (first_in list lists) in
    let cells = list_cells list in
    (omega (arith, few, cells), list_bins_short b declared guard lists (λ l h. each l (later_in list lists l h)))

bins_short : (array : Bool) (b : BinsDecl) (declared : ℕ) (guard : Option Term) (seqs : List Seq) → (array ≡ true → list_any has_endless seqs ≡ false) → is_short array seqs ≡ true → AllByRecursion IsShortBin (bins_made b declared (plan_of array seqs) guard seqs)
unfolding bins_made
bins_short true b declared guard seqs bounded short =
    let ends = bounded refl in
    list_bins_short b declared guard (listed_by_all seqs) (λ list h. list_length seqs list ends short ((all-windows seqs ends list).0 h))
bins_short false b declared guard seqs bounded short = (grind (arith, short), tt)

bins_count : (array : Bool) (b : BinsDecl) (declared : ℕ) (guard : Option Term) (seqs : List Seq) → length (bins_made b declared (plan_of array seqs) guard seqs) ≡ bins_in (plan_of array seqs)
unfolding bins_made
bins_count true b declared guard seqs = length-map (listed_by_all seqs) (list_bin b declared guard)
bins_count false b declared guard seqs = refl

removing_sum : (word : Word) (before : ℕ) (seqs : List Seq) → removing_after word before seqs ≡ before + cells_of_seqs (removed_by word seqs)
removing_sum words.Bins before seqs = omega arith
removing_sum words.Illegal before seqs = refl
removing_sum words.Ignore before seqs = refl

pub is_within_limits : MadeIsWithin
is_within_limits levels domain b sequences before made e =
    let m = made_of levels domain b sequences before made e in
    let room = m.room in
    let within = m.within in
    let sum = removing_sum b.word before.removing m.seqs in
    let count = bins_count (is_array b.size) b before.declared m.guard m.seqs in
    let bins = ap (λ (bs : List Made). length bs) m.bins in
    let after = m.removing in
    let removed = ap (λ (ss : List Seq). cells_of_seqs ss) m.removed in
    record {
      few = grind (arith, room, count, bins);
      short = subst (λ (bs : List Made). AllByRecursion (λ (bin : Made). cells_of_seqs (seqs_of bin.bin.rule) ≤ most_cells) bs) m.bins (bins_short (is_array b.size) b before.declared m.guard m.seqs m.bounded m.short);
      removing = sym after ∙ sum ∙ ap (λ (n : ℕ). before.removing + n) removed;
      removing_short = subst (λ (n : ℕ). n ≤ most_cells) after (grind (arith, within));
    }

-- ---- a sequence is left

list_numbers : (list : List ℤ) → list_all (λ (item : Item). has_numbers item.set) (map item_once list) ≡ true
list_numbers [] = refl
list_numbers (v ∷ vs) = and_from (has_numbers (item_once v).set) (list_all (λ (item : Item). has_numbers item.set) (map item_once vs)) (some_once v) (list_numbers vs)

none_same : (b : Bool) → (b ≡ true → ⊥) → not b ≡ true
none_same true h = absurd (h refl)
none_same false h = refl

list_has_seq : (removing : List Seq) (list : List ℤ) → not (in_some removing list) ≡ true → has_seq_left removing (seq_of_list list ∷ []) ≡ true
list_has_seq removing list e =
    let seq = seq_of_list list in
    let taken = list_any (is_same_seq seq) removing in
    let alone : not taken ≡ true = none_same taken (λ h.
    let a = Any-from_list_any (is_same_seq seq) removing h in
    let same : seq ≡ a.1 = (seq_same seq a.1).0 a.4 in
    let in_removing : InSome removing (map Some list) = (a.0, a.1, a.2, a.3, subst (λ (s : Seq). InSeq s.items (map Some list)) same (word_in_seq seq.items list (word_of_list list))) in
    false≢true (sym (ap not (some_back removing list in_removing)) ∙ e)) in
    or_left (has_lists seq && not taken) false (and_from (has_lists seq) (not taken) (list_numbers list) alone)

left_by_size : (array : Bool) (b : BinsDecl) (declared : ℕ) (guard : Option Term) (seqs ignored illegal : List Seq) (bin : Made) → Contains (bins_made b declared (plan_of array seqs) guard seqs) bin
    → is_trans_left ignored illegal array bin.bin ≡ true → has_seq_left (removing_of bin.bin.kind ignored illegal) (seqs_of bin.bin.rule) ≡ true
unfolding bins_made is_trans_left
left_by_size true b declared guard seqs ignored illegal bin h left =
    let m = from_map (list_bin b declared guard) (listed_by_all seqs) bin h in
    let out = sym (list_left b declared guard ignored illegal m.0) ∙ subst (λ (x : Made). is_trans_left ignored illegal true x.bin ≡ true) m.2 left in
    subst (λ (x : Made). has_seq_left (removing_of x.bin.kind ignored illegal) (seqs_of x.bin.rule) ≡ true) (sym m.2) (list_has_seq (removing_of (kind_of b.word) ignored illegal) m.0 out)
left_by_size false b declared guard seqs ignored illegal bin h left = elim (cases_in _ [] bin h) [
  | inl same ↦ subst (λ (x : Made). has_seq_left (removing_of x.bin.kind ignored illegal) (seqs_of x.bin.rule) ≡ true) same
      (subst (λ (x : Made). is_trans_left ignored illegal false x.bin ≡ true) (sym same) left)
  | inr later ↦ absurd (none_in bin later)
]

pub has_seq : LeftHasSeq
has_seq levels domain b sequences before made bin ignored illegal e h left =
    let m = made_of levels domain b sequences before made e in
    left_by_size (is_array b.size) b before.declared m.guard m.seqs ignored illegal bin (subst (λ (bins : List Made). Contains bins bin) (sym m.bins) h) left
