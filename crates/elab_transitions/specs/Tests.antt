-- Whether a list of known values is a list of an item and of a sequence, by trying each cut: the tests that go with the
-- relations `InItem` and `InSeq` of trans_seq, which say what such a list is (IEEE 1800-2017, 19.5.2).
use Rattle.std.specs.Prelude.{ℤ, ℕ, zero, suc, ◌+◌, ◌-◌, ◌==◌, nat_le, Bool, true, false, not, ◌&&◌, List, [], ◌∷◌, length, take, drop}
use Rattle.std.specs.List.{list_all, list_any}
use Rattle.cov_base.specs.Sets.{written, is_in}
use Rattle.trans_seq.specs.declared.seq.Item.{Item}
use Rattle.trans_seq.specs.declared.seq.Seq.{Seq}
use Rattle.trans_seq.specs.declared.seq.Repeat.{Repeat}
use Rattle.trans_seq.specs.declared.seq.Repeat.TheVariants.{Once, Consec, Goto, NonConsec}
use Rattle.trans_lists.specs.Lists.{from_on}
use Rattle.trans_seq.specs.Windows.{is_end}

-- the list begins with a list of p, and what follows is a list of q
abbrev pub is_then : (p q : List ℤ → Bool) → List ℤ → Bool
is_then p q w = list_any (λ cut. p (take cut w) && q (drop cut w)) (from_on 0 (length w + 1))

module _ (set : List (ℤ × ℤ)) where
  abbrev pub are_inside : List ℤ → Bool
  are_inside w = list_all (is_in (written set)) w

  abbrev pub are_outside : List ℤ → Bool
  are_outside w = list_all (λ v. not (is_in (written set) v)) w

  abbrev pub is_one : List ℤ → Bool
  is_one w = length w == 1 && are_inside w

  abbrev pub is_block : List ℤ → Bool
  is_block w = is_then are_outside is_one w

  abbrev pub are_blocks : ℕ → List ℤ → Bool
  are_blocks zero w = length w == 0
  are_blocks (suc m) w = is_then (are_blocks m) is_block w

  abbrev pub is_goto : ℕ → ℕ → List ℤ → Bool
  is_goto low high w = list_any (λ m. are_blocks m w) (from_on low (high + 1 - low))

  abbrev pub in_blocks : ℕ → ℕ → Bool → List ℤ → Bool
  in_blocks low high true w = is_then (is_goto low high) are_outside w
  in_blocks low high false w = is_goto low high w

  abbrev pub in_repeat : Repeat → Bool → List ℤ → Bool
  in_repeat Once last w = is_one w
  in_repeat (Consec low high) last w = nat_le low (length w) && (nat_le (length w) high && are_inside w)
  in_repeat (Goto low high) last w = in_blocks low high false w
  in_repeat (NonConsec low high) last w = in_blocks low high (not last) w

-- the list is one of a sequence's
abbrev pub in_seq : List Item → List ℤ → Bool
in_seq [] w = length w == 0
in_seq (item ∷ items) w = is_then (in_repeat item.set item.repeat (is_end items)) (in_seq items) w

-- the list is one of these sequences'
unfoldable pub in_some : List Seq → List ℤ → Bool
in_some seqs w = list_any (λ seq. in_seq seq.items w) seqs
