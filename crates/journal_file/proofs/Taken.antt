-- The item behind the gate that was read up to.
use Rattle.std.proofs.Common.{◌≡◌, ◌≢◌, inl, inr, ℕ, ◌+◌, ◌≤◌, ◌<◌, ◌^◌, List, [], ◌∷◌, ◌++◌, length, get_or, drop, sym, ap, ◌∙◌, subst, arith, append_assoc, length-append}
use Rattle.std.proofs.lemmas.List.{drop_at}
use Rattle.std.proofs.Math.Seq.{get_or-append_seam}
use Rattle.journal_bytes.specs.Items.{Item, journal_of}
use Rattle.journal_file.specs.declared.end.End.{End}
use Rattle.journal_file.specs.declared.fault.OpenFault.{OpenFault}
use Rattle.journal_file.specs.declared.fault.OpenFault.TheVariants.{DiskFault, BadJournal, OtherDesign, Damaged, TooLong, Memory}
use Rattle.journal_file.specs.Stands.{StandsFor, Begins, StartsWith, StartsWithNone}
use Rattle.journal_file.specs.Damage.{whole, sum_at, Agrees}
use Rattle.journal_file.specs.Ending.{EndsAt}
use Rattle.journal_file.specs.Outcomes.{IsOfMachine, Refuses, ReadTo, IsOpen}
use Rattle.journal_file.proofs.Longer.{begins_more}
use Rattle.journal_file.proofs.Linked.{agrees_more}

pub machine_refuses : (digest sums file : List ℕ) (fault : OpenFault) → IsOfMachine fault → Refuses digest sums file fault
machine_refuses digest sums file DiskFault is = tt
machine_refuses digest sums file (BadJournal at) is = absurd is
machine_refuses digest sums file (OtherDesign other) is = absurd is
machine_refuses digest sums file (Damaged at) is = absurd is
machine_refuses digest sums file TooLong is = absurd is
machine_refuses digest sums file Memory is = tt

module _ (digest sums : List ℕ) (items : List Item) (end : End) (file : List ℕ) (r : ReadTo digest sums items end file) where
  pub inside : end.place < length file
  inside = omega (arith, r.ends.place, ap (λ (l : List ℕ). length l) r.begins.is, length-append (journal_of digest items) (r.begins.gate ∷ r.begins.rest))

  gate_there : get_or file end.place 0 ≡ r.begins.gate
  gate_there =
      ap (λ (l : List ℕ). get_or l end.place 0) r.begins.is
      ∙ ap (λ (n : ℕ). get_or (journal_of digest items ++ r.begins.gate ∷ r.begins.rest) n 0) r.ends.place
      ∙ get_or-append_seam (journal_of digest items) r.begins.gate r.begins.rest 0

  pub gate_open : (byte : ℕ) → byte ≡ get_or file end.place 0 → byte ≡ 1 → IsOpen digest items file
  gate_open byte is one = record {
    rest = r.begins.rest;
    is = r.begins.is ∙ ap (λ (g : ℕ). journal_of digest items ++ g ∷ r.begins.rest) (sym gate_there ∙ sym is ∙ one);
  }

  pub gate_shut : (byte : ℕ) → byte ≡ get_or file end.place 0 → byte ≢ 1 → StandsFor digest items file
  gate_shut byte is other = record {
    writable = r.begins.writable;
    ends = record { gate = r.begins.gate; rest = r.begins.rest; is = r.begins.is; shut = λ one. other (is ∙ gate_there ∙ one) };
  }

  module _ (o : IsOpen digest items file) where
    pub behind_gate : drop (end.place + 1) file ≡ o.rest
    behind_gate =
        ap (λ (l : List ℕ). drop (end.place + 1) l) (o.is ∙ sym (append_assoc (journal_of digest items) (1 ∷ []) o.rest))
        ∙ drop_at (journal_of digest items ++ 1 ∷ []) o.rest (end.place + 1) (omega (arith, r.ends.place, length-append (journal_of digest items) (1 ∷ [])))

    pub none_taken : StartsWithNone (drop (end.place + 1) file) → Refuses digest sums file (BadJournal end.place)
    none_taken none = inr (
      items,
      (
        record {
          writable = r.begins.writable;
          rest = o.rest;
          is = o.is;
          place = sym r.ends.place;
          none = subst StartsWithNone behind_gate none;
        },
        r.agrees,
      ),
    )

    module _ (item : Item) (new : End) (s : StartsWith item (drop (end.place + 1) file)) (e : EndsAt digest (items ++ item ∷ []) new) where
      more : Begins digest (items ++ item ∷ []) file
      more = begins_more digest items item file o.rest r.begins o.is (subst (StartsWith item) behind_gate s)

      pub other_sum : (end.count < whole sums) × (sum_at sums end.count ≢ new.sum) → Refuses digest sums file (Damaged end.place)
      other_sum d = (
        items,
        inl (record {
          item = item;
          begins = more;
          place = sym r.ends.place;
          before = r.agrees;
          there = subst (λ (n : ℕ). n < whole sums) r.ends.count d.0;
          differs = λ same. d.1 (ap (sum_at sums) r.ends.count ∙ same ∙ sym e.sum);
        }),
      )

      module _ (same : end.count < whole sums → sum_at sums end.count ≡ new.sum) where
        all_agree : Agrees digest sums (items ++ item ∷ [])
        all_agree = agrees_more digest sums items item new.sum r.agrees (λ w. ap (sum_at sums) (sym r.ends.count) ∙ same (subst (λ (n : ℕ). n < whole sums) (sym r.ends.count) w)) e.sum

        pub too_long : 2 ^ 62 ≤ new.place → Refuses digest sums file TooLong
        too_long far = (items ++ item ∷ [], ((more, all_agree), subst (λ (n : ℕ). 2 ^ 62 ≤ n) e.place far))

        pub one_taken : ReadTo digest sums (items ++ item ∷ []) new file
        one_taken = record {
          begins = more;
          ends = e;
          agrees = all_agree;
        }
