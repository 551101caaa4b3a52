-- An item that is put behind others.
use Rattle.std.proofs.Common.{◌≡◌, inl, inr, ⊎_elim, ℕ, ◌<◌, List, [], ◌∷◌, ◌++◌, length, sym, subst, ◌∙◌, ap, arith, length-append}
use Rattle.std.proofs.lemmas.List.{append-nil}
use Rattle.std.proofs.lemmas.List.Elements.{All-nil, All-push}
use Rattle.cov_disk.specs.Gates.{Ends, EndsEither}
use Rattle.journal_bytes.specs.Items.{Item, IsWritable, header, part_of, journal_of}
use Rattle.journal_file.specs.declared.end.End.{End}
use Rattle.journal_file.specs.Stands.{StandsFor, StandsEither}
use Rattle.journal_file.specs.Ending.{EndsAt}
use Rattle.journal_file.proofs.Longer.{journal_more}

pub stands_bare : (digest file : List ℕ) → file ≡ header digest ++ 0 ∷ [] → StandsFor digest [] file
stands_bare digest file is = record {
  writable = All-nil IsWritable;
  ends = record { gate = 0; rest = []; is = is ∙ ap (λ (l : List ℕ). l ++ 0 ∷ []) (sym (append-nil (header digest))); shut = λ e. absurd (omega (arith, e)) };
}

pub stands_more : (digest file other : List ℕ) (items : List Item) (item : Item) → IsWritable item → StandsFor digest items file → Ends (journal_of digest items ++ 1 ∷ part_of item) other → StandsFor digest (items ++ item ∷ []) other
stands_more digest file other items item fits s e = record {
  writable = All-push IsWritable items item s.writable fits;
  ends = subst (λ (l : List ℕ). Ends l other) (sym (journal_more digest items item)) e;
}

pub stands_either : (digest file other : List ℕ) (items : List Item) (item : Item) → IsWritable item → StandsFor digest items file → EndsEither (journal_of digest items) (part_of item) other → StandsEither digest items item other
stands_either digest file other items item fits s e = ⊎_elim
    (λ without. inl (record { writable = s.writable; ends = without }))
    (λ within. inr (stands_more digest file other items item fits s within))
    e

-- the gate behind the items stands in the file
pub gate_inside : (digest file : List ℕ) (items : List Item) (end : End) → EndsAt digest items end → StandsFor digest items file → end.place < length file
gate_inside digest file items end e s = omega (arith, e.place, ap (λ (l : List ℕ). length l) s.ends.is, length-append (journal_of digest items) (s.ends.gate ∷ s.ends.rest))
