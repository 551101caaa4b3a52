-- What a bin has left, where other bins of its item took from it. A bin with nothing left is none of the design's.
use Rattle.std.specs.Prelude.{ℤ, ◌==◌, List, [], ◌∷◌, Bool, true, false, not, ◌&&◌}
use Rattle.std.specs.Ordering.{int_eq}
use Rattle.std.specs.List.{list_all, list_any}
use Rattle.std.specs.Cmp.Lexicographic.{pointwise}
use Rattle.trans_seq.specs.declared.seq.Item.{Item}
use Rattle.trans_seq.specs.declared.seq.Seq.{Seq}
use Rattle.trans_seq.specs.declared.seq.Repeat.{Repeat}
use Rattle.trans_seq.specs.declared.seq.Repeat.TheVariants.{Once, Consec, Goto, NonConsec}

-- two repetitions written alike: `a[*1]` isn't `a`
abbrev pub is_same_repeat : Repeat → Repeat → Bool
is_same_repeat Once Once = true
is_same_repeat (Consec low high) (Consec other_low other_high) = low == other_low && high == other_high
is_same_repeat (Goto low high) (Goto other_low other_high) = low == other_low && high == other_high
is_same_repeat (NonConsec low high) (NonConsec other_low other_high) = low == other_low && high == other_high
is_same_repeat other repeat = false

abbrev pub is_same_range : ℤ × ℤ → ℤ × ℤ → Bool
is_same_range a b = int_eq a.0 b.0 && int_eq a.1 b.1

abbrev pub is_same_item : Item → Item → Bool
is_same_item a b = pointwise is_same_range a.set b.set && is_same_repeat a.repeat b.repeat

-- two sequences are equal item by item
abbrev pub is_same_seq : Seq → Seq → Bool
is_same_seq a b = pointwise is_same_item a.items b.items

abbrev pub has_numbers : List (ℤ × ℤ) → Bool
has_numbers [] = false
has_numbers (range ∷ ranges) = true

-- each of its items has a number
abbrev pub has_lists : Seq → Bool
has_lists seq = list_all (λ item. has_numbers item.set) seq.items

-- Some sequence is left: each of its items has a number, and it is none of the removing sequences item by item.
abbrev pub has_seq_left : (removing seqs : List Seq) → Bool
has_seq_left removing seqs = list_any (λ seq. has_lists seq && not (list_any (is_same_seq seq) removing)) seqs
