-- What a further entry keeps.
use Rattle.std.proofs.Common.{◌≡◌, ℕ, zero, suc, ◌+◌, ◌≤◌, Bool, true, false, ◌||◌, List, [], ◌∷◌, ◌++◌, length, map, drop, refl, sym, ap, subst, ◌∙◌, add-zero, arith, nat_le, Option}
use Rattle.std.specs.Prelude.{sum_by}
use Rattle.std.specs.List.{list_any}
use Rattle.std.proofs.lemmas.Bool.{le-ltb}
use Rattle.std.proofs.lemmas.List.{append-nil}
use Rattle.std.proofs.lemmas.List.Elements.{All-nil, All-cons, All-append}
use Rattle.design_data.specs.declared.design.Design.{Design}
use Rattle.ucis_model.specs.declared.node.Node.{Node}
use Rattle.ucis_model.specs.declared.answers.Which.{Which}
use Rattle.ucis_model.specs.declared.answers.Which.TheVariants.{Tests, Bytes, Entries, History}
use Rattle.ucis_model.specs.Nodes.{nodes_of}
use Rattle.cov_history.specs.declared.entry.Event.{Event}
use Rattle.cov_history.specs.declared.entry.Event.TheVariants.{Exclude, Include}
use Rattle.cov_history.specs.declared.entry.Entry.{Entry}
use Rattle.cov_history.specs.History.{Test, design_of, design_after, tests_of, tests_in, contents, hits_of, count_of, out_of, out_after, has_stop, is_stop, is_revise, bytes_in, bins_hit, amount, most, suits, may_follow, is_legal}
use Rattle.cov_history.specs.Answers.{stands_since}
use Rattle.cov_history.proofs.Bools.{and_false, or_false}
use Rattle.cov_history.proofs.Snoc.{design_snoc, tests_snoc, out_snoc, legal_snoc, stop_snoc, since_snoc, bytes_snoc}
use Rattle.cov_history.proofs.Legal.{none_passed}
use Rattle.store_core.specs.Histories.{IsDeclared, AreDeclared}
use Rattle.store_parts.specs.Keeps.{IsLast, HasOut, Keeps, rows_of}

pub legal_more : (opening : Design) (h : List Entry) (e : Entry) → is_legal opening h ≡ true → has_stop h ≡ false → suits opening h e.event ≡ true → ((which : Which) → amount opening (h ++ e ∷ []) which ≤ most which) → is_legal opening (h ++ e ∷ []) ≡ true
legal_more opening h e legal going fit within =
    let last : may_follow opening h e ≡ true = rw (going, fit, none_passed opening (h ++ e ∷ []) within) refl in
    legal_snoc opening h e ∙ rw (legal, last) refl

pub declared_more : (h : List Entry) (e : Entry) → AreDeclared h → IsDeclared e.event → AreDeclared (h ++ e ∷ [])
declared_more h e all one =
    let last = All-cons (λ (x : Entry). IsDeclared x.event) e [] one (All-nil (λ (x : Entry). IsDeclared x.event)) in
    All-append (λ (x : Entry). IsDeclared x.event) h (e ∷ []) all last

pub going_more : (h : List Entry) (e : Entry) → has_stop h ≡ false → is_stop e.event ≡ false → has_stop (h ++ e ∷ []) ≡ false
going_more h e going ok = stop_snoc h e ∙ rw (going, ok) refl

-- ---- the last entry of a kind

pub last_same : (test : Event → Bool) (h : List Entry) (e : Entry) (last : ℕ) → IsLast test h last → test e.event ≡ false → IsLast test (h ++ e ∷ []) last
last_same test h e last k none since = since_snoc test h e since ∙ rw none (ap (λ b. stands_since test h since || b) (and_false (nat_le since (length h))) ∙ or_false (stands_since test h since) ∙ k since)

drop_nil : {A : Type 0} (n : ℕ) → drop {A = A} n [] ≡ []
drop_nil zero = refl
drop_nil (suc n) = refl

pub none_last : (test : Event → Bool) → IsLast test [] 0
none_last test since = ap (list_any (λ (e : Entry). test e.event)) (drop_nil {A = Entry} since) ∙ sym (le-ltb since 0 (omega arith))

-- ---- changes that touch neither tests nor design

pub record IsQuiet (e : Event) : Type 0 where
  pub design : (d : Design) → design_after d e ≡ d
  pub tests : (point : ℕ) → tests_in point e ≡ []
  pub bytes : bytes_in e ≡ 0
  pub going : is_stop e ≡ false
  pub revises : is_revise e ≡ false
  pub declared : IsDeclared e

pub quiet_exclude : (path : List ℕ) → IsQuiet (Exclude path)
quiet_exclude path = record { design = λ d. refl; tests = λ point. refl; bytes = refl; going = refl; revises = refl; declared = tt }

pub quiet_include : (path : List ℕ) → IsQuiet (Include path)
quiet_include path = record { design = λ d. refl; tests = λ point. refl; bytes = refl; going = refl; revises = refl; declared = tt }

module _ (opening : Design) (h : List Entry) (e : Entry) (q : IsQuiet e.event) where
  pub same_design : design_of opening (h ++ e ∷ []) ≡ design_of opening h
  same_design = design_snoc opening h e ∙ q.design (design_of opening h)

  pub same_tests : tests_of (h ++ e ∷ []) ≡ tests_of h
  same_tests = tests_snoc h e ∙ ap (λ ts. tests_of h ++ ts) (q.tests (length h + 1)) ∙ append-nil (tests_of h)

  same_contents : contents (h ++ e ∷ []) ≡ contents h
  same_contents = ap (map (λ (t : Test). t.content)) same_tests

  same_counts : (bin : ℕ) → count_of opening (h ++ e ∷ []) bin ≡ count_of opening h bin
  same_counts bin = λ i. hits_of (same_design i) (same_contents i) bin

  same_bytes : amount opening (h ++ e ∷ []) Bytes ≡ amount opening h Bytes
  same_bytes = bytes_snoc opening h e ∙ ap (λ n. amount opening h Bytes + n) q.bytes ∙ add-zero (amount opening h Bytes)

  same_entries : amount opening (h ++ e ∷ []) Entries ≡ amount opening h Entries
  same_entries = λ i. sum_by (bins_hit (same_design i)) (same_contents i)

  pub tests_few : ((which : Which) → amount opening h which ≤ most which) → amount opening (h ++ e ∷ []) Tests ≤ most Tests
  tests_few within = subst (λ (n : ℕ). n ≤ most Tests) (sym (ap (λ (ts : List Test). length ts) same_tests)) (within Tests)

  pub bytes_few : ((which : Which) → amount opening h which ≤ most which) → amount opening (h ++ e ∷ []) Bytes ≤ most Bytes
  bytes_few within = subst (λ (n : ℕ). n ≤ most Bytes) (sym same_bytes) (within Bytes)

  pub entries_few : ((which : Which) → amount opening h which ≤ most which) → amount opening (h ++ e ∷ []) Entries ≤ most Entries
  entries_few within = subst (λ (n : ℕ). n ≤ most Entries) (sym same_entries) (within Entries)

  pub quiet_within : ((which : Which) → amount opening h which ≤ most which) → amount opening (h ++ e ∷ []) History ≤ most History → (which : Which) → amount opening (h ++ e ∷ []) which ≤ most which
  quiet_within within room Tests = tests_few within
  quiet_within within room Bytes = bytes_few within
  quiet_within within room Entries = entries_few within
  quiet_within within room History = room

  pub quiet_keeps : {design : Design} {nodes : List Node} {tests : List (List ℕ × Test)} {tallies : List (List (ℕ × ℕ))} {counts : List ℕ} {out : List (Option (List ℕ))} {outs bytes entries revised : ℕ}
      → Keeps opening design nodes h tests tallies counts out outs bytes entries revised
      → (new_out : List (Option (List ℕ))) (new_outs : ℕ)
      → suits opening h e.event ≡ true → amount opening (h ++ e ∷ []) History ≤ most History
      → HasOut nodes (out_after (out_of h) e.event) new_out new_outs
      → Keeps opening design nodes (h ++ e ∷ []) tests tallies counts new_out new_outs bytes entries revised
  quiet_keeps {nodes = nodes} {revised = revised} k new_out new_outs fit room outs =
      let within = quiet_within k.within room in
      record {
        legal = legal_more opening h e k.legal k.going fit within;
        declared = declared_more h e k.declared q.declared;
        going = going_more h e k.going q.going;
        design_is = k.design_is ∙ sym same_design;
        nodes_are = k.nodes_are ∙ ap nodes_of (sym same_design);
        tests_are = k.tests_are ∙ ap (map (λ (t : Test). (t.content.id, t))) (sym same_tests);
        tallies_are = k.tallies_are ∙ (λ i. map (rows_of (sym same_design i)) (sym same_tests i));
        within = within;
        sums = record {
          same_len = k.sums.same_len ∙ ap (λ (d : Design). d.bin_count) (sym same_design);
          at = λ bin. k.sums.at bin ∙ sym (same_counts bin);
        };
        outs_are = subst (λ ps. HasOut nodes ps new_out new_outs) (sym (out_snoc h e)) outs;
        bytes_are = k.bytes_are ∙ sym same_bytes;
        entries_are = k.entries_are ∙ sym same_entries;
        revised_is = last_same is_revise h e revised k.revised_is q.revises;
      }
