-- The counts of several parts together.
use Rattle.std.proofs.Common.{◌≡◌, ◌≢◌, ◌⊎◌, ◌∙◌, ℕ, ◌+◌, ◌<◌, ◌≤◌, List, length, get_or, sym, subst, inl, inr, arith}
use Rattle.std.specs.Prelude.{slice_index, Result, Ok, IfOk}
use Rattle.std.specs.Global.{Vec}
use Rattle.std.proofs.Math.ListN.{get_or-eq_default}
use Rattle.std.proofs.lemmas.Bool.{cases_lt}
use Rattle.design_data.specs.declared.infos.ItemInfo.{ItemInfo}
use Rattle.design_data.specs.declared.infos.InstInfo.{InstInfo}
use Rattle.design_data.specs.declared.infos.BinInfo.{BinInfo}
use Rattle.design_data.specs.declared.design.Design.{Design}
use Rattle.record_codec.specs.declared.record.Record.{Record}
use Rattle.record_codec.specs.Samples.{samples_of}
use Rattle.cov_counting.specs.Tallies.{IsCount, IsBin, IsTally}
use Rattle.sampler.specs.Starting.{AreAllZero}
use Rattle.sampler.specs.Shares.{part_of, IsPartTally}
use Rattle.sampler_threads.specs.Merging.{IsMerged, Joins, AllJoin}

abbrev SomeJoin : (a b joined : List ℕ) → ℕ → Type 0
SomeJoin a b joined n = (k : ℕ) → k < n → Joins (get_or a k 0) (get_or b k 0) (get_or joined k 0)

module _ (a b now new : List ℕ) (n : ℕ) where
  pub join_more : SomeJoin a b now n → ((k : ℕ) → n ≤ k → get_or now k 0 ≡ get_or a k 0) → Joins (get_or now n 0) (get_or b n 0) (get_or new n 0) → ((k : ℕ) → k ≢ n → get_or new k 0 ≡ get_or now k 0) → SomeJoin a b new (n + 1)
  join_more done left here others k lt = elim (cases_lt k n) [
    | inl lower ↦ subst (Joins (get_or a k 0) (get_or b k 0)) (sym (others k (λ same. absurd (omega (arith, same, lower))))) (done k lower)
    | inr ge ↦
        let same : n ≡ k = omega (arith, lt, ge) in
        subst (λ (j : ℕ). Joins (get_or a j 0) (get_or b j 0) (get_or new j 0)) same (subst (λ (x : ℕ). Joins x (get_or b n 0) (get_or new n 0)) (left n (omega arith)) here)
  ]

  pub join_end : length now ≡ length a → length b ≡ length a → length b ≤ n → SomeJoin a b now n → ((k : ℕ) → n ≤ k → get_or now k 0 ≡ get_or a k 0) → AllJoin a b now
  join_end same sized past done left = record { same = same; at = λ k. at k (cases_lt k n) }
    where
      at : (k : ℕ) → (k < n) ⊎ (n ≤ k) → Joins (get_or a k 0) (get_or b k 0) (get_or now k 0)
      at k (inl lt) = done k lt
      at k (inr ge) =
          let none : get_or b k 0 ≡ 0 = get_or-eq_default b 0 (omega (arith, ge, past)) in
          record { left = λ e. left k ge; right = λ e. left k ge ∙ e ∙ sym none }

module _ (d : Design) (r : Record) (labels : List (List ℕ)) (parts : ℕ) where
  -- nothing is counted before the first part
  pub merged_none : (counts : List ℕ) → length counts ≡ d.bin_count → AreAllZero counts → IsMerged d r labels parts 0 counts
  merged_none counts len zero = record { same = len; at = λ instance inst item bin number b lt. absurd (omega (arith, lt)); others = λ instance inst item bin number b le. zero number }

  pub merged_more : (part : ℕ) (old counts new : List ℕ) → IsMerged d r labels parts part old → IsPartTally d r labels parts part counts → AllJoin old counts new → IsMerged d r labels parts (part + 1) new
  merged_more part old counts new h own join = record {
    same = join.same ∙ h.same;
    at = λ instance inst item bin number b lt. at instance inst item bin number b lt (cases_lt (part_of labels parts instance b.item_index) part);
    others = λ instance inst item bin number b le.
        (join.at number).left (own.others instance inst item bin number b (λ same. absurd (omega (arith, same, le)))) ∙ h.others instance inst item bin number b (omega (arith, le));
  }
    where
      at : (instance : ℕ) (inst : InstInfo) (item : ItemInfo) (bin : BinInfo) (number : ℕ) (b : IsBin d instance inst item bin number) → part_of labels parts instance b.item_index < part + 1
          → (part_of labels parts instance b.item_index < part) ⊎ (part ≤ part_of labels parts instance b.item_index) → IsCount inst.items item bin (samples_of r instance) (slice_index new number)
      at instance inst item bin number b lt (inl lower) =
          subst (IsCount inst.items item bin (samples_of r instance)) (sym ((join.at number).left (own.others instance inst item bin number b (λ same. absurd (omega (arith, same, lower)))))) (h.at instance inst item bin number b lower)
      at instance inst item bin number b lt (inr ge) =
          subst (IsCount inst.items item bin (samples_of r instance)) (sym ((join.at number).right (h.others instance inst item bin number b ge))) (own.at instance inst item bin number b (omega (arith, lt, ge)))

  -- what was found of a part
  pub part_found : {E : Type 0} (part : ℕ) (found : Result (Vec ℕ) E) (counts : Vec ℕ) (slice : List ℕ) → found ≡ Ok counts → slice ≡ counts.items → IfOk found (λ made. IsPartTally d r labels parts part made.items) → IsPartTally d r labels parts part slice
  part_found {E = E} part found counts slice e is h = subst (IsPartTally d r labels parts part) (sym is) (subst (λ (f : Result (Vec ℕ) E). IfOk f (λ made. IsPartTally d r labels parts part made.items)) e h)

  -- each item is of one of the parts
  pub merged_all : (counts : List ℕ) → 0 < parts → IsMerged d r labels parts parts counts → IsTally d r counts
  merged_all counts some h = record { same = h.same; at = λ instance inst item bin number b. h.at instance inst item bin number b (omega (arith, some)) }
