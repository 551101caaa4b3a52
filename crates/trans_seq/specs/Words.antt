-- Sequences of which each item is one value, once: they have one list (IEEE 1800-2017, 19.5.2).
use Rattle.std.specs.Prelude.{◌≡◌, ◌↔◌, ℤ, ◌≤◌, ◌<◌, ◌-◌, List, [], ◌∷◌, length, map, drop, Option, Some, None, if◌then◌else◌}
use Rattle.std.specs.Ordering.{int_eq}
use Rattle.trans_seq.specs.declared.seq.Item.{Item}
use Rattle.trans_seq.specs.declared.seq.Seq.{Seq}
use Rattle.trans_seq.specs.declared.seq.Repeat.{Repeat}
use Rattle.trans_seq.specs.declared.seq.Repeat.TheVariants.{Once, Consec, Goto, NonConsec}
use Rattle.trans_seq.specs.Windows.{InSeq, InSome, EndsKept}

-- the number of a set that has one
abbrev pub one_of : List (ℤ × ℤ) → Option ℤ
one_of [] = None
one_of (r ∷ []) = if int_eq r.0 r.1 then Some r.0 else None
one_of (r ∷ s ∷ rs) = None

abbrev pub value_once : Repeat → List (ℤ × ℤ) → Option ℤ
value_once Once set = one_of set
value_once (Consec low high) set = None
value_once (Goto low high) set = None
value_once (NonConsec low high) set = None

abbrev pub with_value : Option ℤ → Option (List ℤ) → Option (List ℤ)
with_value None rest = None
with_value (Some v) None = None
with_value (Some v) (Some rest) = Some (v ∷ rest)

-- the only list of a sequence of single values
abbrev pub word_of : List Item → Option (List ℤ)
word_of [] = Some []
word_of (item ∷ items) = with_value (value_once item.repeat item.set) (word_of items)

-- the values of a list, all known
abbrev pub known : List ℤ → List (Option ℤ)
known word = map (λ v. Some v) word

-- the last values are those of the list
abbrev pub EndsWith : List ℤ → List (Option ℤ) → Type 0
EndsWith word w = (length word ≤ length w) × (drop (length w - length word) w ≡ known word)

abbrev pub IsWordOf : List ℤ → Seq → Type 0
IsWordOf word seq = word_of seq.items ≡ Some word

-- ---- laws

-- the list is the only one of its sequence
abbrev pub WordIsOnlyList : Type 0
WordIsOnlyList = (seq : Seq) (word : List ℤ) (w : List (Option ℤ)) → IsWordOf word seq → InSeq seq.items w ↔ (w ≡ known word)

-- the sequence counts at a sample exactly where the trace ends with its list, and no removing sequence has that list
abbrev pub KeptAtItsWord : Type 0
KeptAtItsWord = (seq : Seq) (removed : List Seq) (word : List ℤ) (w : List (Option ℤ)) → IsWordOf word seq → 0 < length word
    → EndsKept (seq ∷ []) removed w ↔ (EndsWith word w × (InSome removed (known word) → ⊥))
