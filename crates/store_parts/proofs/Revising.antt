-- A store after a revision.
use Rattle.std.proofs.Common.{◌≡◌, ℕ, zero, suc, ◌+◌, ◌<◌, ◌≤◌, true, false, List, [], ◌∷◌, ◌++◌, length, map, take, drop, refl, sym, ap, subst, ◌∙◌, arith, Option, Some, None, lt-ltb, le-ltb, append_assoc, true≢false}
use Rattle.std.specs.Prelude.{sum_by, filter}
use Rattle.std.specs.List.{list_any}
use Rattle.std.proofs.lemmas.List.{map-append, append-nil, length-map}
use Rattle.std.proofs.lemmas.Simd.{map-map}
use Rattle.tally.specs.Rows.{rows_from}
use Rattle.design_data.specs.declared.design.Design.{Design}
use Rattle.record_codec.specs.declared.record.Record.{Record}
use Rattle.ucis_model.specs.declared.node.Node.{Node}
use Rattle.ucis_model.specs.declared.answers.Which.{Which}
use Rattle.ucis_model.specs.declared.answers.Which.TheVariants.{Entries}
use Rattle.ucis_model.specs.declared.answers.Answer.TheVariants as answer
use Rattle.ucis_model.specs.Nodes.{nodes_of}
use Rattle.cov_history.specs.declared.entry.Event.{Event}
use Rattle.cov_history.specs.declared.entry.Event.TheVariants.{Admit, Exclude, Include, Revise, Stop}
use Rattle.cov_history.specs.declared.entry.Entry.{Entry}
use Rattle.cov_history.specs.Tallies.{tally}
use Rattle.cov_history.specs.Sums.{all_hits}
use Rattle.cov_history.specs.Steps.{admitted}
use Rattle.cov_history.specs.History.{Test, design_of, tests_of, tests_from, tests_in, contents, hits_of, out_of, is_found, has_stop, is_revise, is_test_or_revise, bins_hit, amount}
use Rattle.cov_history.specs.Answers.{revise_at, by, stands_since, change}
use Rattle.cov_history.proofs.Bools.{or_none}
use Rattle.cov_history.proofs.Snoc.{design_snoc, tests_snoc, out_snoc, test_count_snoc, bytes_snoc, history_snoc, admitted_is}
use Rattle.cov_history.proofs.Legal.{within_of}
use Rattle.cov_history.proofs.Summing.{all_hits_at, all_hits_length}
use Rattle.store_core.specs.Rebins.{Redone, tallies_of}
use Rattle.store_core.specs.Asks.{IsReadied, revision_of}
use Rattle.cov_history.specs.Amounts.{Amounts, AreAmounts, amount_in, first_passed}
use Rattle.store_parts.specs.Keeps.{Keeps, HasOut, IsLast, rows_of}
use Rattle.store_parts.specs.Remakes.{IsRemade, MayRevise}
use Rattle.cov_history.proofs.Amounting.{passed_is, full_is}
use Rattle.store_parts.proofs.Excluding.{history_amount}
use Rattle.store_parts.proofs.Latest.{last_new}
use Rattle.store_parts.proofs.Steps.{legal_more, declared_more, going_more}

-- ---- the records at a point

records : List Entry → List Record
records [] = []
records (e ∷ es) = admitted e.event ++ records es

records_are : (point : ℕ) (h : List Entry) → map (λ (t : Test). t.content) (tests_from point h) ≡ records h
unfolding records
records_are point [] = refl
records_are point (e ∷ es) = map-append (λ (t : Test). t.content) (tests_in (point + 1) e.event) (tests_from (point + 1) es) ∙ (λ i. admitted_is (point + 1) e.event i ++ records_are (point + 1) es i)

records_split : (h : List Entry) (at : ℕ) → records h ≡ records (take at h) ++ records (drop at h)
unfolding records
records_split [] zero = refl
records_split (e ∷ es) zero = refl
records_split [] (suc n) = refl
records_split (e ∷ es) (suc n) = ap (λ rs. admitted e.event ++ rs) (records_split es n) ∙ sym (append_assoc (admitted e.event) (records (take n es)) (records (drop n es)))

none_admitted : (e : Event) → is_test_or_revise e ≡ false → admitted e ≡ []
none_admitted (Admit r) h = absurd (true≢false h)
none_admitted (Exclude path) h = refl
none_admitted (Include path) h = refl
none_admitted (Revise revision) h = refl
none_admitted Stop h = refl

no_records : (h : List Entry) → list_any (λ (e : Entry). is_test_or_revise e.event) h ≡ false → records h ≡ []
unfolding records
no_records [] h = refl
no_records (e ∷ es) h = let q = or_none (is_test_or_revise e.event) (list_any (λ (x : Entry). is_test_or_revise x.event) es) h in λ i. none_admitted e.event q.0 i ++ no_records es q.1 i

-- where nothing was admitted since a point, the records are those at the point
pub contents_since : (h : List Entry) (since : ℕ) → stands_since is_test_or_revise h since ≡ false → contents h ≡ contents (take since h)
contents_since h since none = records_are 0 h ∙ records_split h since ∙ ap (λ rs. records (take since h) ++ rs) (no_records (drop since h) none) ∙ append-nil (records (take since h)) ∙ sym (records_are 0 (take since h))

-- ---- the history with the revision

module _ (opening : Design) (h : List Entry) (caller : ℕ) (r : Redone) where
  abbrev entry : Entry
  entry = by caller (Revise (revision_of r))

  after_design : design_of opening (h ++ entry ∷ []) ≡ r.design
  after_design = design_snoc opening h entry

  after_tests : tests_of (h ++ entry ∷ []) ≡ tests_of h
  after_tests = tests_snoc h entry ∙ append-nil (tests_of h)

  after_contents : contents (h ++ entry ∷ []) ≡ contents h
  after_contents = ap (map (λ (t : Test). t.content)) after_tests

  pub revised_amounts : (now after : Amounts) (outs : ℕ) → has_stop h ≡ false → AreAmounts opening h now → contents h ≡ r.records → outs ≡ length (filter (is_found r.design) (out_of h))
      → after.tests ≡ now.tests → after.bytes ≡ now.bytes + length r.text → after.entries ≡ sum_by (bins_hit r.design) r.records → after.history ≡ (length h + 1) + outs → AreAmounts opening (h ++ entry ∷ []) after
  revised_amounts now after outs going a same o t b e y =
      let n = test_count_snoc opening h entry in
      let m = bytes_snoc opening h entry in
      let l = history_snoc opening h entry in
      let g = history_amount opening h going in
      let s : amount opening (h ++ entry ∷ []) Entries ≡ sum_by (bins_hit r.design) r.records = λ i. sum_by (bins_hit (after_design i)) ((after_contents ∙ same) i) in
      record {
        tests = omega (arith, t, a.tests, n);
        bytes = omega (arith, b, a.bytes, m);
        entries = e ∙ sym s;
        history = omega (arith, y, l, g, o);
      }

  -- ---- what is answered

  pub revise_moved : (last : ℕ) → IsLast is_test_or_revise h last → r.since < last → revise_at opening h r.since entry ≡ answer.Moved r.since
  revise_moved last k moved = rw (k r.since, lt-ltb r.since last moved) refl

  pub calm_is : (last : ℕ) → IsLast is_test_or_revise h last → last ≤ r.since → stands_since is_test_or_revise h r.since ≡ false
  calm_is last k calm = k r.since ∙ le-ltb r.since last calm

  module _ (calm : stands_since is_test_or_revise h r.since ≡ false) where
    to_change : revise_at opening h r.since entry ≡ change opening h entry answer.Changed
    to_change = rw calm refl

    pub revise_full : (now after : Amounts) (which : Which) → AreAmounts opening h now → AreAmounts opening (h ++ entry ∷ []) after → first_passed after ≡ Some which → revise_at opening h r.since entry ≡ answer.Full which (amount_in now which) (amount_in after which)
    revise_full now after which a b p = to_change ∙ rw (passed_is opening (h ++ entry ∷ []) after b ∙ p) (full_is opening h (h ++ entry ∷ []) now after a b which)

    pub revise_made : (after : Amounts) → AreAmounts opening (h ++ entry ∷ []) after → first_passed after ≡ None → revise_at opening h r.since entry ≡ answer.Changed
    revise_made after b p = to_change ∙ rw (passed_is opening (h ++ entry ∷ []) after b ∙ p) refl

  -- ---- what is kept

  module _ {design : Design} {nodes : List Node} {tests : List (List ℕ × Test)} {tallies : List (List (ℕ × ℕ))} {counts : List ℕ} {out : List (Option (List ℕ))} {outs bytes entries revised : ℕ} (k : Keeps opening design nodes h tests tallies counts out outs bytes entries revised) where
    pub revise_keeps : (after : Amounts) (new_out : List (Option (List ℕ))) (new_outs : ℕ) → IsReadied opening h r → MayRevise opening h r after → IsRemade h r.design new_out new_outs
        → Keeps opening r.design (nodes_of r.design) (h ++ entry ∷ []) tests (tallies_of r.design r.records) (all_hits r.design r.records) new_out new_outs after.bytes after.entries (length h + 1)
    revise_keeps after new_out new_outs ready may made =
        let are = may.amounts caller in
        let same : r.records ≡ contents h = ready.records ∙ sym (contents_since h r.since may.calm) in
        let within = within_of opening (h ++ entry ∷ []) (passed_is opening (h ++ entry ∷ []) after are ∙ may.room) in
        record {
          legal = legal_more opening h entry k.legal k.going ready.tables within;
          declared = declared_more h entry k.declared ∣ ready.declared ∣₁;
          going = going_more h entry k.going refl;
          design_is = sym after_design;
          nodes_are = ap nodes_of (sym after_design);
          tests_are = k.tests_are ∙ ap (map (λ (t : Test). (t.content.id, t))) (sym after_tests);
          tallies_are = ap (tallies_of r.design) same ∙ map-map (λ (c : Record). rows_from 0 (tally r.design c)) (λ (t : Test). t.content) (tests_of h) ∙ (λ i. map (rows_of (sym after_design i)) (sym after_tests i));
          within = within;
          sums = record {
            same_len = all_hits_length r.design r.records ∙ ap (λ (d : Design). d.bin_count) (sym after_design);
            at = λ bin. all_hits_at r.design r.records bin ∙ (λ i. hits_of (sym after_design i) ((same ∙ sym after_contents) i) bin);
          };
          outs_are = subst (λ ps. HasOut (nodes_of r.design) ps new_out new_outs) (sym (out_snoc h entry)) made;
          bytes_are = are.bytes;
          entries_are = are.entries;
          revised_is = last_new is_revise h entry revised k.revised_is refl;
        }

-- as many tallies as tests
pub tally_count : (opening : Design) (h : List Entry) (r : Redone) (after : Amounts) → IsReadied opening h r → MayRevise opening h r after → length (tallies_of r.design r.records) ≡ length (tests_of h)
tally_count opening h r after ready may =
    length-map r.records (λ (c : Record). rows_from 0 (tally r.design c))
    ∙ ap (λ (rs : List Record). length rs) (ready.records ∙ sym (contents_since h r.since may.calm))
    ∙ length-map (tests_of h) (λ (t : Test). t.content)
