-- Transition bins, each with an automaton or a word.
use Rattle.std.proofs.Common.{◌≡◌, ◌≢◌, ℕ, ◌+◌, ◌<◌, ◌≤◌, ℤ, List, [], ◌∷◌, ◌++◌, length, get_or, refl, ap, sym, subst, inl, inr, arith}
use Rattle.std.specs.Prelude.{Contains, AllPairs, map, reverse}
use Rattle.std.proofs.lemmas.List.{length-map, length-append, length-reverse, map_push, get_or-map, append-nil}
use Rattle.std.proofs.lemmas.List.Elements.{All-nil, All-push, Contains-append_left, Contains-push, Contains-push_cases, Contains-get_or}
use Rattle.std.proofs.lemmas.List.Quantifiers.{all_pairs_push}
use Rattle.cov_base.specs.Limits.{most_bins, most_cells}
use Rattle.trans_seq.specs.declared.seq.Seq.{Seq}
use Rattle.trans_seq.specs.Cells.{cells_of_seqs}
use Rattle.design_data.specs.declared.infos.ItemInfo.{ItemInfo}
use Rattle.design_data.specs.declared.infos.BinKind.{BinKind}
use Rattle.design_data.specs.declared.infos.BinRule.{BinRule}
use Rattle.design_data.specs.declared.infos.BinRule.TheVariants.{Values, Patterns, Trans, Default, DefaultValues, DefaultSequence, Picked, Product}
use Rattle.design_data.specs.Limits.{IsPointRule}
use Rattle.word_table.specs.declared.row.PlacedWord.{PlacedWord}
use Rattle.word_table.specs.Recent.{longest}
use Rattle.word_table.specs.Placed.{ArePlaced}
use Rattle.point_tables.specs.declared.tables.Machine.{Machine}
use Rattle.point_tables.specs.declared.tables.Entrance.{Entrance}
use Rattle.point_tables.specs.declared.tables.Removers.{Removers}
use Rattle.point_tables.specs.declared.transitions.Divided.{Divided}
use Rattle.point_tables.specs.Tables.{removed_by, machine_of, AreEntrances, AreKnownBy, IsKnownBy, AreDivided}
use Rattle.point_tables.specs.Divided.{BinDivided, BinsDivided}
use Rattle.point_tables.proofs.Places.{in_none}
use Rattle.point_tables.proofs.Entering.{entrances_none}
use Rattle.point_tables.proofs.OnlyLists.{word_cells}

pub divided_none : (removers : Removers) → AreDivided removers [] [] []
divided_none removers = record {
  from = λ machine c. absurd (in_none machine c);
  words = λ row c. absurd (in_none row c);
  each = λ machine c. absurd (in_none machine c);
  ascend = λ i j d lt within. absurd (omega (arith, within));
  once = λ i j d lt within. absurd (omega (arith, within));
  apart = λ machine c. absurd (in_none machine c);
}

-- ---- one more transition bin, behind all others

module _ (removers : Removers) (all own : List Machine) (rows : List PlacedWord) (h : AreDivided removers all own rows) (machine : Machine) (below : (m : Machine) → Contains all m → m.place < machine.place) where
  abbrev more : List Machine
  more = all ++ machine ∷ []

  row_below : (row : PlacedWord) → Contains rows row → row.place < machine.place
  row_below row c = let o = h.words row c in omega (arith, below o.0 o.1, o.2.is_place)

  old_words : (row : PlacedWord) → Contains rows row → (m : Machine) × Contains more m × IsKnownBy removers m row
  old_words row c = let o = h.words row c in (o.0, Contains-append_left all (machine ∷ []) o.0 o.1, o.2)

  pub with_machine : AreDivided removers more (own ++ machine ∷ []) rows
  with_machine = record {
    from = λ m c. elim (Contains-push_cases own machine m c) [ inl old ↦ Contains-append_left all (machine ∷ []) m (h.from m old) | inr e ↦ subst (Contains more) e (Contains-push all machine) ];
    words = old_words;
    each = λ m c. elim (Contains-push_cases all machine m c) [
      | inl old ↦ elim (h.each m old) [ inl mine ↦ inl (Contains-append_left own (machine ∷ []) m mine) | inr row ↦ inr row ]
      | inr e ↦ inl (subst (Contains (own ++ machine ∷ [])) e (Contains-push own machine))
    ];
    ascend = all_pairs_push (λ a b. a.place < b.place) own machine h.ascend (λ k d lt. below (get_or own k d) (h.from (get_or own k d) (Contains-get_or own k d lt)));
    once = h.once;
    apart = λ m c p. elim (Contains-push_cases own machine m c) [
      | inl old ↦ h.apart m old p
      | inr e ↦ omega (arith, row_below p.row p.is_one, p.is_place, ap (λ (x : Machine). x.place) e)
    ];
  }

  module _ (row : PlacedWord) (is : IsKnownBy removers machine row) where
    abbrev with_row : List PlacedWord
    with_row = rows ++ row ∷ []

    pub with_word : AreDivided removers more own with_row
    with_word = record {
      from = λ m c. Contains-append_left all (machine ∷ []) m (h.from m c);
      words = λ r c. elim (Contains-push_cases rows row r c) [
        | inl old ↦ old_words r old
        | inr e ↦ (machine, Contains-push all machine, subst (IsKnownBy removers machine) e is)
      ];
      each = λ m c. elim (Contains-push_cases all machine m c) [
        | inl old ↦ elim (h.each m old) [ inl mine ↦ inl mine | inr r ↦ inr (r.0, Contains-append_left rows (row ∷ []) r.0 r.1, r.2) ]
        | inr e ↦ inr (row, Contains-push rows row, subst (λ (x : Machine). IsKnownBy removers x row) e is)
      ];
      ascend = h.ascend;
      once =
          let place : PlacedWord → ℕ = λ r. r.place in
          subst (AllPairs (λ a b. a ≢ b)) (sym (map_push place rows row))
          (all_pairs_push (λ a b. a ≢ b) (map place rows) row.place h.once (λ k d lt e.
          let inside : k < length rows = omega (arith, lt, length-map rows place) in
          let at : get_or (map place rows) k d ≡ (get_or rows k row).place = get_or-map place rows k row d inside in
          omega (arith, e, at, is.is_place, row_below (get_or rows k row) (Contains-get_or rows k row inside))));
      apart = λ m c p. elim (Contains-push_cases rows row p.row p.is_one) [
        | inl old ↦ h.apart m c (record { row = p.row; is_one = old; is_place = p.is_place })
        | inr e ↦ omega (arith, below m (h.from m c), p.is_place, is.is_place, ap (λ (r : PlacedWord). r.place) e)
      ];
    }

-- ---- a bin

abbrev Bounded : List Machine → ℕ → Type 0
Bounded all place = (m : Machine) → Contains all m → m.place < place

same_all : (removers : Removers) (all own : List Machine) (rows : List PlacedWord) → AreDivided removers all own rows → AreDivided removers (all ++ []) (own ++ []) rows
same_all removers all own rows h = subst (λ (ms : List Machine). AreDivided removers ms (own ++ []) rows) (sym (append-nil all)) (subst (λ (ms : List Machine). AreDivided removers all ms rows) (sym (append-nil own)) h)

by_machine : (removers : Removers) (all own : List Machine) (rows : List PlacedWord) (place : ℕ) (kind : BinKind) (rule : BinRule) → Bounded all place → AreDivided removers all own rows
    → AreDivided removers (all ++ machine_of place kind rule) (own ++ machine_of place kind rule) rows
by_machine removers all own rows place kind (Values set) below h = same_all removers all own rows h
by_machine removers all own rows place kind (Patterns patterns) below h = same_all removers all own rows h
by_machine removers all own rows place kind (Trans seqs) below h = with_machine removers all own rows h (record { place = place; kind = kind; watcher = seqs }) below
by_machine removers all own rows place kind Default below h = same_all removers all own rows h
by_machine removers all own rows place kind (DefaultValues set) below h = same_all removers all own rows h
by_machine removers all own rows place kind DefaultSequence below h = same_all removers all own rows h
by_machine removers all own rows place kind (Picked select) below h = same_all removers all own rows h
by_machine removers all own rows place kind (Product members) below h = same_all removers all own rows h

by_word : (removers : Removers) (all own : List Machine) (rows : List PlacedWord) (place : ℕ) (kind : BinKind) (seqs : List Seq) (word : List ℤ) → Bounded all place → AreKnownBy (removed_by removers kind) seqs word → AreDivided removers all own rows
    → AreDivided removers (all ++ machine_of place kind (Trans seqs)) own (rows ++ record { word = word; place = place } ∷ [])
by_word removers all own rows place kind seqs word below known h =
    with_word removers all own rows h (record { place = place; kind = kind; watcher = seqs }) below (record { word = word; place = place }) (record { is_place = refl; known = known })

-- the word of a bin within its limits isn't long
word_short : (item : ItemInfo) (kind : BinKind) (removed seqs : List Seq) (word : List ℤ) → AreKnownBy removed seqs word → IsPointRule item kind (Trans seqs) → length word ≤ longest
word_short item kind removed seqs word k rule =
    let few : cells_of_seqs (k.seq ∷ []) ≤ most_cells = subst (λ (own : List Seq). cells_of_seqs own ≤ most_cells) k.is_only rule.0 in
    omega (arith, few, word_cells k.seq.items (reverse word) k.is_word, length-reverse word)

module _ (removers : Removers) (item : ItemInfo) (all : List Machine) (place : ℕ) (kind : BinKind) (rule : BinRule) (old new : Divided)
    (below : Bounded all place) (own : IsPointRule item kind rule) (one : BinDivided removers place kind rule old new) (h : BinsDivided removers all old) (few : length old.rows.items < most_bins) where
  pub one_divided : BinsDivided removers (all ++ machine_of place kind rule) new
  one_divided = elim one.either [
    | inl m ↦ record {
      are = subst (λ (rows : List PlacedWord). AreDivided removers (all ++ machine_of place kind rule) new.machines.items rows) (sym m.0)
          (subst (λ (ms : List Machine). AreDivided removers (all ++ machine_of place kind rule) ms old.rows.items) (sym m.1)
          (by_machine removers all old.machines.items old.rows.items place kind rule below h.are));
      entrances = one.entrances h.entrances;
      placed = subst ArePlaced (sym m.0) h.placed;
    }
    | inr w ↦
        let got = w.1 in
        let row : PlacedWord = record { word = got.word; place = place } in
        let short : length got.word ≤ longest = word_short item kind (removed_by removers kind) got.seqs got.word got.known (subst (IsPointRule item kind) got.is_rule own) in
        record {
          are = subst (λ (rows : List PlacedWord). AreDivided removers (all ++ machine_of place kind rule) new.machines.items rows) (sym got.is_new)
              (subst (λ (ms : List Machine). AreDivided removers (all ++ machine_of place kind rule) ms (old.rows.items ++ row ∷ [])) (sym w.0)
              (subst (λ (r : BinRule). AreDivided removers (all ++ machine_of place kind r) old.machines.items (old.rows.items ++ row ∷ [])) (sym got.is_rule)
              (by_word removers all old.machines.items old.rows.items place kind got.seqs got.word below got.known h.are)));
          entrances = one.entrances h.entrances;
          placed = subst ArePlaced (sym got.is_new) (record {
            short = All-push (λ r. length r.word ≤ longest) old.rows.items row h.placed.short short;
            few = omega (arith, few, length-append old.rows.items (row ∷ []));
          });
        }
  ]

  pub rows_more : length new.rows.items ≤ length old.rows.items + 1
  rows_more = elim one.either [
    | inl m ↦ omega (arith, ap (λ (rows : List PlacedWord). length rows) m.0)
    | inr w ↦ omega (arith, ap (λ (rows : List PlacedWord). length rows) w.1.is_new, length-append old.rows.items (record { word = w.1.word; place = place } ∷ []))
  ]

pub bins_none : (removers : Removers) (none : Divided) → none.machines.items ≡ [] → none.entrances.items ≡ [] → none.rows.items ≡ [] → BinsDivided removers [] none
bins_none removers none m e r = record {
  are = subst (λ (rows : List PlacedWord). AreDivided removers [] none.machines.items rows) (sym r) (subst (λ (ms : List Machine). AreDivided removers [] ms []) (sym m) (divided_none removers));
  entrances = subst (λ (es : List Entrance). AreEntrances none.machines.items es) (sym e) (subst (λ (ms : List Machine). AreEntrances ms []) (sym m) entrances_none);
  placed = subst ArePlaced (sym r) (record { short = All-nil (λ row. length row.word ≤ longest); few = omega arith });
}
