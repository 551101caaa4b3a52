-- Which bins of a point are met at a value of its trace.
use Rattle.std.proofs.Common.{◌≡◌, ◌≢◌, ◌⊎◌, ℕ, zero, suc, ◌+◌, ◌<◌, List, [], ◌∷◌, ◌++◌, length, get_or, drop, Bool, true, false, Option, Some, None, refl, ap, sym, subst, ◌∙◌, inl, inr, arith}
use Rattle.std.specs.Prelude.{Contains, AllPairs, All, slice_get, not}
use Rattle.std.proofs.lemmas.Bool.{false≢true, true≢false}
use Rattle.std.proofs.lemmas.List.Elements.{Contains-append_left, Contains-append_right, Contains-append_cases, Contains-get_or}
use Rattle.std.proofs.lemmas.Option.{cond_some, slice_get_within, slice_get-get_or, get_or_from_slice_get}
use Rattle.trans_seq.specs.declared.seq.Seq.{Seq}
use Rattle.trans_seq.specs.Windows.{InSome, EndsKept, EndsWindow}
use Rattle.design_data.specs.declared.infos.ItemInfo.{ItemInfo}
use Rattle.design_data.specs.declared.infos.BinInfo.{BinInfo}
use Rattle.design_data.specs.declared.infos.BinKind.{BinKind}
use Rattle.design_data.specs.declared.infos.BinKind.TheVariants.{CvgBin, IllegalBin, IgnoreBin, DefaultBin}
use Rattle.design_data.specs.declared.infos.BinRule.{BinRule}
use Rattle.design_data.specs.declared.infos.BinRule.TheVariants.{Values, Patterns, Trans, Default, DefaultValues, DefaultSequence, Picked, Product}
use Rattle.design_data.specs.Bins.{seqs_of, removing_seqs}
use Rattle.design_data.specs.Laws.{Value, is_listed}
use Rattle.cov_counting.specs.Hits.{Meets, EndsNone, IsDefaultSequence}
use Rattle.word_table.specs.Placed.{EndsAt}
use Rattle.point_sampler.specs.declared.plan.PointPlan.{PointPlan}
use Rattle.point_tables.specs.declared.tables.Machine.{Machine}
use Rattle.point_sampler.specs.Plans.{IsPlanOf, is_default_sequence}
use Rattle.point_tables.specs.Tables.{removed_by, machine_of, machines_from, places_from, has_value}
use Rattle.point_sampler.specs.Met.{MetBy, StandApart, IsTransPlace, IsTracePlace, EndsNowhere, AreTransMet, SomeMeets, AreMet}
use Rattle.point_sampler.proofs.Places.{in_first, once_append, from_places, to_places, places_once}
use Rattle.point_tables.proofs.Automata.{from_machines}
use Rattle.point_sampler.proofs.Knowing.{kept_by_word, window_by_word}
use Rattle.point_tables.proofs.Bins.{same_bin}

-- ---- automata

-- each transition bin is among those that are to have an automaton
pub to_machines : (first : ℕ) (bins : List BinInfo) (index : ℕ) (bin : BinInfo) (seqs : List Seq) → slice_get bins index ≡ Some bin → bin.rule ≡ Trans seqs
    → Contains (machines_from first bins) (record { place = first + index; kind = bin.kind; watcher = seqs })
to_machines first [] index bin seqs is rule = let lt : index < length {A = BinInfo} [] = slice_get_within [] index bin is in absurd (omega (arith, lt))
to_machines first (b ∷ bins) zero bin seqs is rule =
    let e : first ≡ first + 0 = omega arith in
    let same : bin ≡ b = sym (cond_some true b bin is).1 in
    Contains-append_left (machine_of first b.kind b.rule) (machines_from (first + 1) bins) (record { place = first + 0; kind = bin.kind; watcher = seqs })
    (subst (λ (n : ℕ). Contains (machine_of first b.kind b.rule) (record { place = n; kind = bin.kind; watcher = seqs })) e
    (subst (λ (x : BinInfo). Contains (machine_of first x.kind x.rule) (record { place = first; kind = bin.kind; watcher = seqs })) same
    (subst (λ (r : BinRule). Contains (machine_of first bin.kind r) (record { place = first; kind = bin.kind; watcher = seqs })) (sym rule)
    (in_first (record { place = first; kind = bin.kind; watcher = seqs }) []))))
to_machines first (b ∷ bins) (suc index) bin seqs is rule =
    let e : first + 1 + index ≡ first + suc index = omega arith in
    Contains-append_right (machine_of first b.kind b.rule) (machines_from (first + 1) bins) (record { place = first + suc index; kind = bin.kind; watcher = seqs })
    (subst (λ (n : ℕ). Contains (machines_from (first + 1) bins) (record { place = n; kind = bin.kind; watcher = seqs })) e (to_machines (first + 1) bins index bin seqs is rule))

-- ---- rules

sequence_rule : (rule : BinRule) → is_default_sequence rule ≡ true → rule ≡ DefaultSequence
sequence_rule (Values set) e = absurd (false≢true e)
sequence_rule (Patterns patterns) e = absurd (false≢true e)
sequence_rule (Trans seqs) e = absurd (false≢true e)
sequence_rule Default e = absurd (false≢true e)
sequence_rule (DefaultValues set) e = absurd (false≢true e)
sequence_rule DefaultSequence e = refl
sequence_rule (Picked select) e = absurd (false≢true e)
sequence_rule (Product members) e = absurd (false≢true e)

not_true : (b : Bool) → not b ≡ true → b ≡ false
not_true true e = absurd (false≢true e)
not_true false e = refl

not_false : (b : Bool) → b ≡ false → not b ≡ true
not_false true e = absurd (true≢false e)
not_false false e = refl

-- the rule of a bin of values is met exactly where it has the value
value_met : (item : ItemInfo) (kind : BinKind) (rule : BinRule) (w : List Value) (v : Value) → has_value item.bins v rule ≡ true → Meets item kind rule w v
value_met item kind (Values set) w v e = e
value_met item kind (Patterns patterns) w v e = e
value_met item kind (Trans seqs) w v e = absurd (false≢true e)
value_met item kind Default w v e = not_true (is_listed item.bins v) e
value_met item kind (DefaultValues set) w v e = e
value_met item kind DefaultSequence w v e = absurd (false≢true e)
value_met item kind (Picked select) w v e = absurd (false≢true e)
value_met item kind (Product members) w v e = absurd (false≢true e)

-- what a rule that is met says
MetHow : ItemInfo → BinKind → BinRule → List Value → Value → Type 0
MetHow item kind rule w v = (has_value item.bins v rule ≡ true)
    ⊎ ((((seqs : List Seq) × (rule ≡ Trans seqs) × EndsKept seqs (removing_seqs item kind) (w ++ v ∷ []))) ⊎ ((rule ≡ DefaultSequence) × IsDefaultSequence item w v))

met_how : (item : ItemInfo) (kind : BinKind) (rule : BinRule) (w : List Value) (v : Value) → Meets item kind rule w v → MetHow item kind rule w v
unfolding MetHow
met_how item kind (Values set) w v m = inl m
met_how item kind (Patterns patterns) w v m = inl m
met_how item kind (Trans seqs) w v m = inr (inl (seqs, refl, m))
met_how item kind Default w v m = inl (not_false (is_listed item.bins v) m)
met_how item kind (DefaultValues set) w v m = inl m
met_how item kind DefaultSequence w v m = inr (inr (refl, m))
met_how item kind (Picked select) w v m = absurd m
met_how item kind (Product members) w v m = absurd m

-- ---- the plan of a point

module _ (item : ItemInfo) (plan : PointPlan) (is_plan : IsPlanOf item plan) where
  removed : (kind : BinKind) → removed_by plan.removers kind ≡ removing_seqs item kind
  removed CvgBin = is_plan.removers.covering
  removed IllegalBin = is_plan.removers.none
  removed IgnoreBin = is_plan.removers.ignoring
  removed DefaultBin = is_plan.removers.none

  abbrev sequence_test : BinInfo → Bool
  sequence_test bin = is_default_sequence bin.rule

  pub record IsTransBin (place : ℕ) (machine : Machine) : Type 0 where
    pub bin : BinInfo
    pub is_bin : slice_get item.bins place ≡ Some bin
    pub is_kind : machine.kind ≡ bin.kind
    pub is_rule : bin.rule ≡ Trans machine.watcher

  abbrev all : List Machine
  all = machines_from 0 item.bins

  -- the bin of a transition
  bin_of : (machine : Machine) (place : ℕ) → Contains all machine → machine.place ≡ place → IsTransBin place machine
  bin_of machine place c at =
      let m = from_machines 0 item.bins machine c in
      let e : m.index ≡ place = omega (arith, m.is_place, at) in
      record { bin = m.bin; is_bin = subst (λ (n : ℕ). slice_get item.bins n ≡ Some m.bin) e m.is_bin; is_kind = m.is_kind; is_rule = m.is_rule }

  trans_bin : (place : ℕ) → IsTransPlace plan place → (machine : Machine) × IsTransBin place machine
  trans_bin place p = elim p [
    | inl m ↦ (m.machine, bin_of m.machine place (is_plan.machines.from m.machine m.is_one) m.is_place)
    | inr h ↦ let o = is_plan.machines.words h.row h.is_one in (o.0, bin_of o.0 place o.1 (sym o.2.is_place ∙ h.is_place))
  ]

  pub record IsSequenceBin (place : ℕ) : Type 0 where
    pub bin : BinInfo
    pub is_bin : slice_get item.bins place ≡ Some bin
    pub is_rule : bin.rule ≡ DefaultSequence

  sequence_of : (place : ℕ) → Contains plan.sequences.items place → IsSequenceBin place
  sequence_of place c =
      let p = from_places sequence_test 0 item.bins place (subst (λ (ps : List ℕ). Contains ps place) is_plan.sequences c) in
      let e : p.index ≡ place = omega (arith, p.is_place) in
      record { bin = p.element; is_bin = subst (λ (n : ℕ). slice_get item.bins n ≡ Some p.element) e p.is_element; is_rule = sequence_rule p.element.rule p.passes }

  pub apart_of : StandApart plan
  apart_of = record {
    ascend = is_plan.machines.ascend;
    words_once = is_plan.machines.once;
    words = λ place m h. is_plan.machines.apart m.machine m.is_one (record { row = h.row; is_one = h.is_one; is_place = h.is_place ∙ sym m.is_place });
    once = subst (λ (ps : List ℕ). AllPairs (λ a b. a ≢ b) ps) (sym is_plan.sequences) (places_once sequence_test 0 item.bins);
    apart = λ place p c.
        let t = (trans_bin place p).1 in
        let s = sequence_of place c in
        false≢true (ap is_default_sequence (sym t.is_rule) ∙ ap sequence_test (same_bin item.bins place t.bin s.bin t.is_bin s.is_bin) ∙ ap is_default_sequence s.is_rule);
  }

  -- ---- default sequences

  module _ (w : List Value) (v : Value) where
    none_of : EndsNowhere plan w v → (rule : BinRule) (kind : BinKind) (k : ℕ) (bin : BinInfo) → slice_get item.bins k ≡ Some bin → bin.rule ≡ rule → EndsNone (seqs_of rule) (w ++ v ∷ [])
    none_of n (Trans seqs) kind k bin is e = λ from lt s.
        let machine : Machine = record { place = 0 + k; kind = bin.kind; watcher = seqs } in
        elim (is_plan.machines.each machine (to_machines 0 item.bins k bin seqs is e)) [
          | inl mine ↦ n.machines (record { machine = machine; is_one = mine; ends = record { from = from; some = lt; is_list = s } })
          | inr r ↦ n.words (0 + k) (record {
            row = r.0;
            is_one = r.1;
            is_place = r.2.is_place;
            ends = (window_by_word (removed_by plan.removers bin.kind) seqs r.0.word r.2.known (w ++ v ∷ [])).0 (record { from = from; some = lt; is_list = s });
          })
        ]
    none_of n (Values set) kind k bin is e = λ from lt s. absurd (omega (arith, s.2))
    none_of n (Patterns patterns) kind k bin is e = λ from lt s. absurd (omega (arith, s.2))
    none_of n Default kind k bin is e = λ from lt s. absurd (omega (arith, s.2))
    none_of n (DefaultValues set) kind k bin is e = λ from lt s. absurd (omega (arith, s.2))
    none_of n DefaultSequence kind k bin is e = λ from lt s. absurd (omega (arith, s.2))
    none_of n (Picked select) kind k bin is e = λ from lt s. absurd (omega (arith, s.2))
    none_of n (Product members) kind k bin is e = λ from lt s. absurd (omega (arith, s.2))

    to_sequence : EndsNowhere plan w v → IsDefaultSequence item w v
    to_sequence n = record {
      later = n.later;
      bins = λ k d lt. none_of n (get_or item.bins k d).rule (get_or item.bins k d).kind k (get_or item.bins k d) (slice_get-get_or item.bins k d lt) refl;
      removing = λ from lt s. n.others (record { from = from; some = lt; is_list = subst (λ (seqs : List Seq). InSome seqs (drop from (w ++ v ∷ []))) (sym is_plan.others) s });
    }

    no_window : IsDefaultSequence item w v → (machine : Machine) → Contains all machine → EndsWindow machine.watcher (w ++ v ∷ []) → ⊥
    no_window d machine c e =
        let t = bin_of machine machine.place c refl in
        let none = d.bins machine.place t.bin (slice_get_within item.bins machine.place t.bin t.is_bin) in
        let same : get_or item.bins machine.place t.bin ≡ t.bin = get_or_from_slice_get item.bins machine.place t.bin t.bin t.is_bin in
        none e.from e.some (subst (λ (seqs : List Seq). InSome seqs (drop e.from (w ++ v ∷ []))) (sym (ap (λ (b : BinInfo). seqs_of b.rule) same ∙ ap seqs_of t.is_rule)) e.is_list)

    from_sequence : IsDefaultSequence item w v → EndsNowhere plan w v
    from_sequence d = record {
      later = d.later;
      machines = λ e. no_window d e.machine (is_plan.machines.from e.machine e.is_one) e.ends;
      words = λ place e.
          let o = is_plan.machines.words e.row e.is_one in
          no_window d o.0 o.1 ((window_by_word (removed_by plan.removers o.0.kind) o.0.watcher e.row.word o.2.known (w ++ v ∷ [])).1 e.ends);
      others = λ e. d.removing e.from e.some (subst (λ (seqs : List Seq). InSome seqs (drop e.from (w ++ v ∷ []))) is_plan.others e.is_list);
    }

    -- ---- all bins

    abbrev value_test : BinInfo → Bool
    value_test bin = has_value item.bins v bin.rule

    met_at : (place : ℕ) (bin : BinInfo) → slice_get item.bins place ≡ Some bin → Meets item bin.kind bin.rule w v → SomeMeets item (slice_get item.bins place) w v
    met_at place bin is m = subst (λ (o : Option BinInfo). SomeMeets item o w v) (sym is) m

    from_kept : (machine : Machine) (place : ℕ) → Contains all machine → machine.place ≡ place → EndsKept machine.watcher (removed_by plan.removers machine.kind) (w ++ v ∷ []) → SomeMeets item (slice_get item.bins place) w v
    from_kept machine place c at kept =
        let t = bin_of machine place c at in
        met_at place t.bin t.is_bin (subst (λ (r : BinRule). Meets item t.bin.kind r w v) (sym t.is_rule)
        (subst (λ (seqs : List Seq). EndsKept machine.watcher seqs (w ++ v ∷ [])) (removed machine.kind ∙ ap (removing_seqs item) t.is_kind) kept))

    from_trans : (place : ℕ) → MetBy plan.machines.items plan.removers (w ++ v ∷ []) place → SomeMeets item (slice_get item.bins place) w v
    from_trans place m = from_kept m.machine place (is_plan.machines.from m.machine m.is_one) m.is_place m.kept

    from_word : (place : ℕ) → EndsAt plan.words (w ++ v ∷ []) place → SomeMeets item (slice_get item.bins place) w v
    from_word place e =
        let o = is_plan.machines.words e.row e.is_one in
        from_kept o.0 place o.1 (sym o.2.is_place ∙ e.is_place) ((kept_by_word (removed_by plan.removers o.0.kind) o.0.watcher e.row.word o.2.known (w ++ v ∷ [])).1 e.ends)

    from_value : (place : ℕ) → Contains (places_from value_test 0 item.bins) place → SomeMeets item (slice_get item.bins place) w v
    from_value place c =
        let p = from_places value_test 0 item.bins place c in
        let e : p.index ≡ place = omega (arith, p.is_place) in
        met_at place p.element (subst (λ (n : ℕ). slice_get item.bins n ≡ Some p.element) e p.is_element) (value_met item p.element.kind p.element.rule w v p.passes)

    from_next : (place : ℕ) → Contains plan.sequences.items place → EndsNowhere plan w v → SomeMeets item (slice_get item.bins place) w v
    from_next place c n =
        let s = sequence_of place c in
        met_at place s.bin s.is_bin (subst (λ (r : BinRule). Meets item s.bin.kind r w v) (sym s.is_rule) (to_sequence n))

    to_trans : (place : ℕ) (bin : BinInfo) (seqs : List Seq) → slice_get item.bins place ≡ Some bin → bin.rule ≡ Trans seqs → EndsKept seqs (removing_seqs item bin.kind) (w ++ v ∷ [])
        → MetBy plan.machines.items plan.removers (w ++ v ∷ []) place ⊎ EndsAt plan.words (w ++ v ∷ []) place
    to_trans place bin seqs is e kept =
        let machine : Machine = record { place = 0 + place; kind = bin.kind; watcher = seqs } in
        let own : EndsKept seqs (removed_by plan.removers bin.kind) (w ++ v ∷ []) = subst (λ (removing : List Seq). EndsKept seqs removing (w ++ v ∷ [])) (sym (removed bin.kind)) kept in
        elim (is_plan.machines.each machine (to_machines 0 item.bins place bin seqs is e)) [
          | inl mine ↦ inl (record { machine = machine; is_one = mine; is_place = omega arith; kept = own })
          | inr r ↦ inr (record {
            row = r.0;
            is_one = r.1;
            is_place = omega (arith, r.2.is_place);
            ends = (kept_by_word (removed_by plan.removers bin.kind) seqs r.0.word r.2.known (w ++ v ∷ [])).0 own;
          })
        ]

    in_places : (test : BinInfo → Bool) (place : ℕ) (bin : BinInfo) → slice_get item.bins place ≡ Some bin → test bin ≡ true → Contains (places_from test 0 item.bins) place
    in_places test place bin is e = let z : 0 + place ≡ place = omega arith in subst (Contains (places_from test 0 item.bins)) z (to_places test 0 item.bins place bin is e)

    module _ (trans met : List ℕ) (is_trans : AreTransMet plan w v trans) (is_met : met ≡ trans ++ places_from value_test 0 item.bins) where
      met_how_at : (place : ℕ) (bin : BinInfo) → slice_get item.bins place ≡ Some bin → MetHow item bin.kind bin.rule w v → Contains met place
      unfolding MetHow
      met_how_at place bin is how = subst (λ (ps : List ℕ). Contains ps place) (sym is_met) (elim how [
        | inl value ↦ Contains-append_right trans (places_from value_test 0 item.bins) place (in_places value_test place bin is value)
        | inr (inl t) ↦ Contains-append_left trans (places_from value_test 0 item.bins) place ((is_trans place).1 (elim (to_trans place bin t.0 is t.1 t.2) [ inl m ↦ inl m | inr word ↦ inr (inl word) ]))
        | inr (inr d) ↦ Contains-append_left trans (places_from value_test 0 item.bins) place ((is_trans place).1 (inr (inr (
          subst (λ (ps : List ℕ). Contains ps place) (sym is_plan.sequences) (in_places sequence_test place bin is (ap is_default_sequence d.0)),
          from_sequence d.1,
        ))))
      ])

      to_met : (place : ℕ) (o : Option BinInfo) → slice_get item.bins place ≡ o → SomeMeets item o w v → Contains met place
      to_met place None is m = absurd m
      to_met place (Some bin) is m = met_how_at place bin is (met_how item bin.kind bin.rule w v m)

      pub are_met : AreMet item w v met
      are_met = λ place. (
        (λ c. elim (Contains-append_cases trans (places_from value_test 0 item.bins) place (subst (λ (ps : List ℕ). Contains ps place) is_met c)) [
          | inl t ↦ elim ((is_trans place).0 t) [ inl m ↦ from_trans place m | inr (inl e) ↦ from_word place e | inr (inr n) ↦ from_next place n.0 n.1 ]
          | inr x ↦ from_value place x
        ]),
        (λ m. to_met place (slice_get item.bins place) refl m),
      )

  module _ (v : Value) (trans met : List ℕ) (among : (place : ℕ) → Contains trans place → IsTracePlace plan place) where
    abbrev test : BinInfo → Bool
    test bin = has_value item.bins v bin.rule

    pub met_within : met ≡ trans ++ places_from test 0 item.bins → All (λ place. place < length item.bins) met
    met_within is = λ k d lt. elim (Contains-append_cases trans (places_from test 0 item.bins) (get_or met k d) (subst (λ (ps : List ℕ). Contains ps (get_or met k d)) is (Contains-get_or met k d lt))) [
      | inl t ↦ elim (among (get_or met k d) t) [
        | inl p ↦ let b = (trans_bin (get_or met k d) p).1 in slice_get_within item.bins (get_or met k d) b.bin b.is_bin
        | inr c ↦ let s = sequence_of (get_or met k d) c in slice_get_within item.bins (get_or met k d) s.bin s.is_bin
      ]
      | inr x ↦ let p = from_places test 0 item.bins (get_or met k d) x in omega (arith, p.is_place, slice_get_within item.bins p.index p.element p.is_element)
    ]

    not_both : (place : ℕ) → Contains trans place → Contains (places_from test 0 item.bins) place → ⊥
    not_both place t x =
        let p = from_places test 0 item.bins place x in
        let e : p.index ≡ place = omega (arith, p.is_place) in
        let at : slice_get item.bins place ≡ Some p.element = subst (λ (n : ℕ). slice_get item.bins n ≡ Some p.element) e p.is_element in
        elim (among place t) [
          | inl q ↦ let b = (trans_bin place q).1 in
              false≢true (ap (has_value item.bins v) (sym b.is_rule) ∙ ap test (same_bin item.bins place b.bin p.element b.is_bin at) ∙ p.passes)
          | inr c ↦ let s = sequence_of place c in
              false≢true (ap (has_value item.bins v) (sym s.is_rule) ∙ ap test (same_bin item.bins place s.bin p.element s.is_bin at) ∙ p.passes)
        ]

    pub met_once : met ≡ trans ++ places_from test 0 item.bins → AllPairs (λ a b. a ≢ b) trans → AllPairs (λ a b. a ≢ b) met
    met_once is once = subst (λ (ps : List ℕ). AllPairs (λ a b. a ≢ b) ps) (sym is) (once_append trans (places_from test 0 item.bins) once (places_once test 0 item.bins) not_both)
