-- Words in another order.
use Rattle.std.proofs.Common.{List, inl, inr}
use Rattle.std.specs.List.Sorted.{IsPermutation}
use Rattle.std.proofs.lemmas.List.Sorted.{Contains-permutation, IsPermutation-sym}
use Rattle.word_table.specs.declared.row.PlacedWord.{PlacedWord}
use Rattle.word_table.proofs.Sorting.{once_moved}
use Rattle.point_tables.specs.declared.tables.Machine.{Machine}
use Rattle.point_tables.specs.declared.tables.Removers.{Removers}
use Rattle.point_tables.specs.Tables.{AreDivided}

pub divided_moved : (removers : Removers) (all own : List Machine) (rows moved : List PlacedWord) → IsPermutation rows moved → AreDivided removers all own rows → AreDivided removers all own moved
divided_moved removers all own rows moved p h =
    let back = IsPermutation-sym rows moved p in
    record {
      from = h.from;
      words = λ row c. h.words row (Contains-permutation moved rows row back c);
      each = λ machine c. elim (h.each machine c) [ inl mine ↦ inl mine | inr r ↦ inr (r.0, Contains-permutation rows moved r.0 p r.1, r.2) ];
      ascend = h.ascend;
      once = once_moved rows moved p h.once;
      apart = λ machine c has. h.apart machine c (record { row = has.row; is_one = Contains-permutation moved rows has.row back has.is_one; is_place = has.is_place });
    }
