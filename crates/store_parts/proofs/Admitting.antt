-- A store with one more test.
use Rattle.std.proofs.Common.{◌≡◌, ℕ, ◌+◌, ◌<◌, ◌≤◌, true, false, List, [], ◌∷◌, ◌++◌, length, map, take, refl, sym, ap, subst, ◌∙◌, arith, Option, Some, None, lt-ltb, le-ltb, inl, inr}
use Rattle.std.specs.Prelude.{slice_index}
use Rattle.std.proofs.lemmas.Bool.{cases_lt}
use Rattle.std.proofs.Math.ListN.{get_or-eq_default}
use Rattle.std.proofs.lemmas.List.{map-append, length-map}
use Rattle.tally.specs.Rows.{rows_from, count_in, Adds, HasRoom}
use Rattle.design_data.specs.declared.design.Design.{Design}
use Rattle.record_codec.specs.declared.record.Record.{Record}
use Rattle.ucis_model.specs.declared.node.Node.{Node}
use Rattle.ucis_model.specs.declared.answers.Which.{Which}
use Rattle.ucis_model.specs.declared.answers.Which.TheVariants.{Tests}
use Rattle.ucis_model.specs.declared.answers.Answer.TheVariants as answer
use Rattle.ucis_model.specs.Nodes.{nodes_of}
use Rattle.cov_history.specs.declared.entry.Event.TheVariants.{Admit}
use Rattle.cov_history.specs.declared.entry.Entry.{Entry}
use Rattle.cov_history.specs.Tallies.{tally}
use Rattle.cov_history.specs.History.{Test, design_of, tests_of, contents, hits, count_of, is_revise, amount, most, suits, kept}
use Rattle.cov_history.specs.Answers.{admit_at, by, stands_since, change}
use Rattle.cov_history.proofs.Snoc.{design_snoc, tests_snoc, out_snoc, counts_snoc}
use Rattle.cov_history.proofs.Legal.{within_of}
use Rattle.cov_history.proofs.Made.{design_since}
use Rattle.cov_history.proofs.Amounting.{passed_is, full_is}
use Rattle.cov_history.specs.Amounts.{Amounts, AreAmounts, amount_in, first_passed}
use Rattle.store_parts.specs.Keeps.{HasOut, Keeps, rows_of}
use Rattle.store_parts.specs.May.{MayAdmit}
use Rattle.store_parts.proofs.Steps.{legal_more, declared_more, going_more, last_same}
use Rattle.store_parts.proofs.Tallied.{counted, sum_few, hits_few, no_hits}

abbrev pub test_at : ℕ → Record → Test
test_at point r = record { point = point; content = r }

module _ {opening design : Design} {nodes : List Node} {h : List Entry} {tests : List (List ℕ × Test)} {tallies : List (List (ℕ × ℕ))} {counts : List ℕ} {out : List (Option (List ℕ))} {outs bytes entries revised : ℕ} (k : Keeps opening design nodes h tests tallies counts out outs bytes entries revised) where
  -- ---- what is answered to a new id

  module _ (caller since : ℕ) (r : Record) (new : kept h r.id ≡ None) where
    pub admit_moved : since < revised → admit_at opening h since (by caller (Admit r)) r ≡ answer.Moved since
    admit_moved moved = rw (new, k.revised_is since, lt-ltb since revised moved) refl

    module _ (calm : revised ≤ since) where
      calm_is : stands_since is_revise h since ≡ false
      calm_is = k.revised_is since ∙ le-ltb since revised calm

      pub same_since : design_of opening (take since h) ≡ design_of opening h
      same_since = sym (design_since opening h since calm_is)

      to_change : admit_at opening h since (by caller (Admit r)) r ≡ change opening h (by caller (Admit r)) answer.New
      to_change = rw (new, calm_is) refl

      pub admit_full : (now after : Amounts) (which : Which) → AreAmounts opening h now → AreAmounts opening (h ++ by caller (Admit r) ∷ []) after → first_passed after ≡ Some which → admit_at opening h since (by caller (Admit r)) r ≡ answer.Full which (amount_in now which) (amount_in after which)
      admit_full now after which a b p = to_change ∙ rw (passed_is opening (h ++ by caller (Admit r) ∷ []) after b ∙ p) (full_is opening h (h ++ by caller (Admit r) ∷ []) now after a b which)

      pub admit_made : (after : Amounts) → AreAmounts opening (h ++ by caller (Admit r) ∷ []) after → first_passed after ≡ None → admit_at opening h since (by caller (Admit r)) r ≡ answer.New
      admit_made after b p = to_change ∙ rw (passed_is opening (h ++ by caller (Admit r) ∷ []) after b ∙ p) refl

  -- ---- room for the counts

  length_contents : length (contents h) ≤ 4096
  length_contents = let e = length-map (tests_of h) (λ (t : Test). t.content) in omega (arith, e, k.within Tests)

  pub counts_room : (r : Record) → HasRoom (count_in (rows_from 0 (tally (design_of opening h) r))) counts
  counts_room r bin below =
      let d = design_of opening h in
      omega (arith, k.sums.at bin, sum_few d (contents h) bin length_contents, counted d r bin, hits_few d r bin)

  -- ---- the store afterwards

  module _ (caller : ℕ) (r : Record) (under : Design) (after : Amounts) (m : MayAdmit opening h r under after) (sums : List ℕ) (adds : Adds (count_in (rows_from 0 (tally (design_of opening h) r))) counts sums) where
    within : (which : Which) → amount opening (h ++ by caller (Admit r) ∷ []) which ≤ most which
    within = within_of opening (h ++ by caller (Admit r) ∷ []) (passed_is opening (h ++ by caller (Admit r) ∷ []) after (m.amounts caller) ∙ m.room)

    count_more : (bin : ℕ) → count_of opening (h ++ by caller (Admit r) ∷ []) bin ≡ count_of opening h bin + hits (design_of opening h) r bin
    count_more bin = let s = counts_snoc opening h (by caller (Admit r)) bin in omega (arith, s)

    sum_at : (bin : ℕ) → slice_index sums bin ≡ count_of opening (h ++ by caller (Admit r) ∷ []) bin
    sum_at bin = elim (cases_lt bin (length counts)) [
      | inl below ↦ omega (arith, adds.at bin below, k.sums.at bin, counted (design_of opening h) r bin, count_more bin)
      | inr past ↦
          let a : slice_index counts bin ≡ 0 = get_or-eq_default counts 0 past in
          let b : slice_index sums bin ≡ 0 = get_or-eq_default sums 0 (omega (arith, past, adds.same)) in
          let n : hits (design_of opening h) r bin ≡ 0 = no_hits (design_of opening h) r bin (omega (arith, past, k.sums.same_len)) in
          omega (arith, a, b, n, k.sums.at bin, count_more bin)
    ]

    pub admit_keeps : Keeps opening design nodes (h ++ by caller (Admit r) ∷ []) (tests ++ (r.id, test_at (length h + 1) r) ∷ []) (tallies ++ rows_from 0 (tally (design_of opening h) r) ∷ []) sums out outs after.bytes after.entries revised
    admit_keeps =
        let x = by caller (Admit r) in
        let same : design_of opening (h ++ x ∷ []) ≡ design_of opening h = design_snoc opening h x in
        let more : tests_of (h ++ x ∷ []) ≡ tests_of h ++ test_at (length h + 1) r ∷ [] = tests_snoc h x in
        let fit : suits opening h (Admit r) ≡ true = rw (m.is_new, m.fit) refl in
        record {
          legal = legal_more opening h x k.legal k.going fit within;
          declared = declared_more h x k.declared tt;
          going = going_more h x k.going refl;
          design_is = k.design_is ∙ sym same;
          nodes_are = k.nodes_are ∙ ap nodes_of (sym same);
          tests_are = ap (λ ts. ts ++ (r.id, test_at (length h + 1) r) ∷ []) k.tests_are ∙ sym (ap (map (λ (t : Test). (t.content.id, t))) more ∙ map-append (λ (t : Test). (t.content.id, t)) (tests_of h) (test_at (length h + 1) r ∷ []));
          tallies_are = ap (λ ts. ts ++ rows_from 0 (tally (design_of opening h) r) ∷ []) k.tallies_are ∙ sym ((λ i. map (rows_of (same i)) (more i)) ∙ map-append (rows_of (design_of opening h)) (tests_of h) (test_at (length h + 1) r ∷ []));
          within = within;
          sums = record {
            same_len = adds.same ∙ k.sums.same_len ∙ ap (λ (x : Design). x.bin_count) (sym same);
            at = sum_at;
          };
          outs_are = subst (λ ps. HasOut nodes ps out outs) (sym (out_snoc h x)) k.outs_are;
          bytes_are = (m.amounts caller).bytes;
          entries_are = (m.amounts caller).entries;
          revised_is = last_same is_revise h x revised k.revised_is refl;
        }
