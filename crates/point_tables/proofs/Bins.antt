-- Bins at their places, and what is asked of one bin more.
use Rattle.std.proofs.Common.{◌≡◌, ℕ, zero, suc, ◌+◌, ◌<◌, ◌≤◌, List, [], ◌∷◌, ◌++◌, length, get_or, take, Bool, true, false, cond, Some, None, refl, ap, sym, subst, ◌∙◌, inl, inr, arith, length-append}
use Rattle.std.specs.Prelude.{slice_get, Option, IfSome}
use Rattle.std.proofs.lemmas.Bool.{cases_lt}
use Rattle.std.proofs.lemmas.List.Filters.{length-filter_more}
use Rattle.std.proofs.lemmas.Option.{cond_some, slice_get_within}
use Rattle.design_data.specs.declared.infos.BinInfo.{BinInfo}
use Rattle.design_data.specs.Bins.{is_coverage}
use Rattle.point_tables.specs.declared.tables.Entry.{Entry}
use Rattle.const_eval.specs.Terms.{Term}
use Rattle.point_tables.specs.Tables.{covering, IsGuardAt, IsEntry, AreEntriesOf}

pub same_bin : (bins : List BinInfo) (place : ℕ) (a b : BinInfo) → slice_get bins place ≡ Some a → slice_get bins place ≡ Some b → a ≡ b
same_bin bins place a b e f = (cond_some true a b (sym e ∙ f)).1

pub slice_get_left : {X : Type 0} → (xs ys : List X) (k : ℕ) → k < length xs → slice_get (xs ++ ys) k ≡ slice_get xs k
slice_get_left [] ys k lt = absurd (omega (arith, lt))
slice_get_left (x ∷ xs) ys zero lt = refl
slice_get_left (x ∷ xs) ys (suc k) lt = slice_get_left xs ys k (omega (arith, lt))

pub slice_get_last : {X : Type 0} → (xs : List X) (y : X) → slice_get (xs ++ y ∷ []) (length xs) ≡ Some y
slice_get_last [] y = refl
slice_get_last (x ∷ xs) y = slice_get_last xs y

-- ---- what is asked of bins

abbrev pub one_more : Bool → ℕ
one_more b = cond b 1 0

-- the place of a guard is that of a bin
pub before_within : (bins : List BinInfo) (before : Option ℕ) (guard : Option Term) → IsGuardAt bins before guard → IfSome before (λ earlier. earlier < length bins)
before_within bins None guard h = tt
before_within bins (Some place) guard h = slice_get_within bins place h.0 h.1

pub entries_more : (bins : List BinInfo) (place : ℕ) (bin : BinInfo) (entries : List Entry) (entry : Entry) → slice_get bins place ≡ Some bin → IsEntry bins place bin entry → AreEntriesOf bins place entries
    → AreEntriesOf bins (place + 1) (entries ++ entry ∷ [])
entries_more bins place bin entries entry is here h = record {
  same = omega (arith, length-append entries (entry ∷ []), h.same);
  at = λ p b e is_b is_e. elim (cases_lt p (length entries)) [
    | inl lower ↦ h.at p b e is_b (sym (slice_get_left entries (entry ∷ []) p lower) ∙ is_e)
    | inr past ↦
        let lt : p < length (entries ++ entry ∷ []) = slice_get_within (entries ++ entry ∷ []) p e is_e in
        let last : length entries ≡ p = omega (arith, past, lt, length-append entries (entry ∷ [])) in
        let same : place ≡ p = omega (arith, last, h.same) in
        let is_entry : entry ≡ e = (cond_some true entry e (sym (slice_get_last entries entry) ∙ ap (λ (k : ℕ). slice_get (entries ++ entry ∷ []) k) last ∙ is_e)).1 in
        let is_bin : bin ≡ b = same_bin bins place bin b is (ap (λ (k : ℕ). slice_get bins k) same ∙ is_b) in
        subst (λ (k : ℕ). IsEntry bins k b e) same (subst (λ (x : BinInfo). IsEntry bins place x e) is_bin (subst (λ (x : Entry). IsEntry bins place bin x) is_entry here))
  ];
}

next_by : (b : Bool) (n : ℕ) → cond b (n + 1) n ≡ n + one_more b
next_by true n = refl
next_by false n = omega arith

pub counted_more : (bins : List BinInfo) (place : ℕ) (bin : BinInfo) (covers : Bool) (number next : ℕ) → place < length bins → bin ≡ get_or bins place bin → covers ≡ is_coverage bin.kind
    → number ≡ length (covering (take place bins)) → next ≡ cond covers (number + 1) number → next ≡ length (covering (take (place + 1) bins))
counted_more bins place bin covers number next lt is is_covers is_number is_next =
    let more : length (covering (take (place + 1) bins)) ≡ length (covering (take place bins)) + one_more (is_coverage (get_or bins place bin).kind) = length-filter_more (λ (b : BinInfo). is_coverage b.kind) bins place bin lt in
    let same : one_more covers ≡ one_more (is_coverage (get_or bins place bin).kind) = ap one_more (is_covers ∙ ap (λ (b : BinInfo). is_coverage b.kind) is) in
    omega (arith, is_next, next_by covers number, is_number, more, same)

pub counted_few : (covers : Bool) (number next place : ℕ) → next ≡ cond covers (number + 1) number → number ≤ place → next ≤ place + 1
counted_few true number next place is le = omega (arith, is, le)
counted_few false number next place is le = omega (arith, is, le)
