-- All items of a journal, one after another.
use Rattle.std.proofs.Common.{◌≡◌, inr, ℕ, ◌+◌, ◌*◌, ◌≤◌, ◌<◌, List, [], ◌∷◌, ◌++◌, map, drop, sym, ap, ◌∙◌, subst, arith}
use Rattle.std.specs.Prelude.{Ok}
use Rattle.std.proofs.lemmas.List.{map-append, length-map, drop_all}
use Rattle.journal_bytes.specs.Items.{Item}
use Rattle.journal_bytes.specs.Sums.{sums_of}
use Rattle.journal_file.specs.declared.end.End.{End}
use Rattle.journal_file.specs.declared.entry.Entry.{Entry}
use Rattle.journal_file.specs.declared.opening.Opened.{Opened}
use Rattle.journal_file.specs.declared.fault.OpenFault.TheVariants.{Damaged}
use Rattle.journal_file.specs.Stands.{StandsFor, Begins}
use Rattle.journal_file.specs.Damage.{whole}
use Rattle.journal_file.specs.Ending.{item_of, EndsAt}
use Rattle.journal_file.specs.Outcomes.{Refuses, ReadTo, Reads, Opens}

module _ (digest sums file : List ℕ) (entries : List Entry) (none : entries ≡ []) where
  pub nothing_read : (end : End) → Begins digest [] file → EndsAt digest [] end → ReadTo digest sums (map item_of entries) end file
  nothing_read end b e = subst (λ (l : List Entry). ReadTo digest sums (map item_of l) end file) (sym none) (record { begins = b; ends = e; agrees = λ k lt w. absurd (omega (arith, lt)) })

  pub nothing_missing_yet : (missing : List ℕ) → missing ≡ [] → missing ≡ drop (32 * whole sums) (sums_of digest (map item_of entries))
  nothing_missing_yet missing is = is ∙ sym (drop_all {X = ℕ} (32 * whole sums) [] (omega arith)) ∙ ap (λ (l : List Entry). drop (32 * whole sums) (sums_of digest (map item_of l))) (sym none)

mapped : (entries : List Entry) (entry : Entry) → map item_of entries ++ item_of entry ∷ [] ≡ map item_of (entries ++ entry ∷ [])
mapped entries entry = sym (map-append item_of entries (entry ∷ []))

module _ (digest sums file : List ℕ) (entries more : List Entry) (entry : Entry) (pushed : more ≡ entries ++ entry ∷ []) where
  now : map item_of entries ++ item_of entry ∷ [] ≡ map item_of more
  now = mapped entries entry ∙ ap (map item_of) (sym pushed)

  pub read_more : (end : End) → ReadTo digest sums (map item_of entries ++ item_of entry ∷ []) end file → ReadTo digest sums (map item_of more) end file
  read_more end r = subst (λ (items : List Item). ReadTo digest sums items end file) now r

  pub missing_more : (missing : List ℕ) → missing ≡ drop (32 * whole sums) (sums_of digest (map item_of entries ++ item_of entry ∷ [])) → missing ≡ drop (32 * whole sums) (sums_of digest (map item_of more))
  missing_more missing is = subst (λ (items : List Item). missing ≡ drop (32 * whole sums) (sums_of digest items)) now is

module _ (digest sums file : List ℕ) (opened : Opened) where
  pub all_read : (end : End) → opened.end ≡ end → ReadTo digest sums (map item_of opened.entries.items) end file → StandsFor digest (map item_of opened.entries.items) file
      → opened.missing.items ≡ drop (32 * whole sums) (sums_of digest (map item_of opened.entries.items)) → Reads digest sums file (Ok opened)
  all_read end same r stands missing = (
    record {
      begins = r.begins;
      end = subst (EndsAt digest (map item_of opened.entries.items)) (sym same) r.ends;
      agrees = r.agrees;
      missing = missing;
    },
    stands,
  )

  pub opened_right : Reads digest sums file (Ok opened) → whole sums ≤ opened.end.count + 1 → Opens digest sums file (Ok opened)
  opened_right (r, stands) few = record {
    stands = stands;
    end = r.end;
    agrees = r.agrees;
    enough = omega (arith, few, r.end.count, length-map opened.entries.items item_of);
    missing = r.missing;
  }

  pub opened_short : Reads digest sums file (Ok opened) → opened.end.count + 1 < whole sums → Refuses digest sums file (Damaged opened.end.place)
  opened_short (r, stands) many = (
    map item_of opened.entries.items,
    inr (record {
      stands = stands;
      place = sym r.end.place;
      before = r.agrees;
      more = omega (arith, many, r.end.count);
    }),
  )
