-- The places of bins that are met, counted one by one.
use Rattle.std.proofs.Common.{◌≡◌, ◌≢◌, ◌⊎◌, ℕ, zero, suc, ◌+◌, ◌<◌, ◌≤◌, List, [], ◌∷◌, ◌++◌, length, get_or, take, Bool, true, false, cond, Some, None, All, refl, ap, sym, subst, ◌∙◌, inl, inr, arith}
use Rattle.std.specs.Prelude.{filter, Contains, AllPairs, slice_get, slice_index, slice_set}
use Rattle.std.proofs.lemmas.Bool.{false≢true, true≢false, cases_lt}
use Rattle.std.proofs.lemmas.List.{get_or-set_same, get_or-set_other}
use Rattle.std.proofs.lemmas.List.Elements.{Contains-append_left, Contains-push, Contains-push_cases, Contains-get_or}
use Rattle.std.proofs.lemmas.List.Filters.{length-filter_more}
use Rattle.std.proofs.lemmas.List.Quantifiers.{all_pairs_push}
use Rattle.std.proofs.lemmas.Option.{cond_some, slice_get_within, slice_get-get_or, get_or_from_slice_get}
use Rattle.design_data.specs.declared.infos.ItemInfo.{ItemInfo}
use Rattle.design_data.specs.declared.infos.BinInfo.{BinInfo}
use Rattle.design_data.specs.Bins.{is_coverage}
use Rattle.record_codec.specs.Samples.{Env}
use Rattle.cov_counting.specs.Hits.{holds}
use Rattle.point_tables.specs.declared.tables.Entry.{Entry}
use Rattle.point_tables.specs.Tables.{covering, IsEntry, IsPlain, AreEntries}
use Rattle.point_sampler.specs.Met.{raised, IsOn, PlaceTaken, IsNoted, AllTaken}
use Rattle.point_tables.proofs.Bins.{same_bin, one_more}

pub some_at : {X : Type 0} → (xs : List X) (k : ℕ) → k < length xs → (x : X) × (slice_get xs k ≡ Some x)
some_at [] k lt = absurd (omega (arith, lt))
some_at (x ∷ xs) zero lt = (x, refl)
some_at (x ∷ xs) (suc k) lt = some_at xs k (omega (arith, lt))

-- ---- entries

-- where each bin counts for coverage, as many stand before a place as its number says
all_cover : (bins : List BinInfo) (place : ℕ) → All IsPlain bins → place < length bins → length (covering (take place bins)) ≡ place
all_cover bins zero plain lt = refl
all_cover [] (suc place) plain lt = absurd (omega (arith, lt))
all_cover (bin ∷ bins) (suc place) plain lt =
    let covers : is_coverage bin.kind ≡ true = (plain 0 bin (omega arith)).0 in
    let later : length (covering (take place bins)) ≡ place = all_cover bins place (λ k d less. plain (suc k) d (omega (arith, less))) (omega (arith, lt)) in
    ap (λ (b : Bool). length (cond b (bin ∷ covering (take place bins)) (covering (take place bins)))) covers ∙ more later
  where
    more : {n : ℕ} → n ≡ place → suc n ≡ suc place
    more e = ap suc e

-- a bin of which nothing is asked
pub plain_entry : (bins : List BinInfo) (entries : List Entry) (place : ℕ) (bin : BinInfo) → AreEntries bins entries → length entries ≡ 0 → place < length bins → slice_get bins place ≡ Some bin
    → IsEntry bins place bin (record { covers = true; number = place; guard = None })
plain_entry bins entries place bin (inl are) empty lt is = absurd (omega (arith, lt, are.same, empty))
plain_entry bins entries place bin (inr none) empty lt is =
    let at : get_or bins place bin ≡ bin = get_or_from_slice_get bins place bin bin is in
    let plain : IsPlain bin = subst IsPlain at (none.1 place bin lt) in
    record {
      covers = sym plain.0;
      number = sym (all_cover bins place none.1 lt);
      guard = plain.1;
    }

pub listed_entry : (bins : List BinInfo) (entries : List Entry) (place : ℕ) (bin : BinInfo) (d : Entry) → AreEntries bins entries → (length entries ≡ 0 → ⊥) → place < length bins → slice_get bins place ≡ Some bin → IsEntry bins place bin (get_or entries place d)
listed_entry bins entries place bin d (inl are) some lt is = are.at place bin (get_or entries place d) is (slice_get-get_or entries place d (omega (arith, lt, are.same)))
listed_entry bins entries place bin d (inr none) some lt is = absurd (some (ap (λ (es : List Entry). length es) none.0))

-- ---- numbers of coverage bins

module _ {X : Type 0} (test : X → Bool) where
  length_by : (b : Bool) (x : X) (short long : List X) → length short ≤ length long → length (cond b (x ∷ short) short) ≤ length (cond b (x ∷ long) long)
  length_by true x short long le = omega (arith, le)
  length_by false x short long le = le

  rises : (xs : List X) (a b : ℕ) → a ≤ b → length (filter test (take a xs)) ≤ length (filter test (take b xs))
  rises xs zero b le = omega arith
  rises [] (suc a) zero le = absurd (omega (arith, le))
  rises [] (suc a) (suc b) le = omega arith
  rises (x ∷ xs) (suc a) zero le = absurd (omega (arith, le))
  rises (x ∷ xs) (suc a) (suc b) le = length_by (test x) x (filter test (take a xs)) (filter test (take b xs)) (rises xs a b (omega (arith, le)))

  -- a place that passes has a number of its own
  pub numbers_apart : (xs : List X) (a b : ℕ) (x : X) → slice_get xs a ≡ Some x → test x ≡ true → a < b → length (filter test (take a xs)) < length (filter test (take b xs))
  numbers_apart xs a b x is passes lt =
      let more : length (filter test (take (a + 1) xs)) ≡ length (filter test (take a xs)) + one_more (test (get_or xs a x)) = length-filter_more test xs a x (slice_get_within xs a x is) in
      let one : one_more (test (get_or xs a x)) ≡ one_more true = ap one_more (ap test (get_or_from_slice_get xs a x x is) ∙ passes) in
      omega (arith, more, one, rises xs (a + 1) b (omega (arith, lt)))

  get_by : (b : Bool) (x y : X) (all front : List X) → slice_get all (length front) ≡ Some y → slice_get (cond b (x ∷ all) all) (length (cond b (x ∷ front) front)) ≡ Some y
  get_by true x y all front e = e
  get_by false x y all front e = e

  first_by : (b : Bool) (x : X) (all : List X) → b ≡ true → slice_get (cond b (x ∷ all) all) 0 ≡ Some x
  first_by true x all e = refl
  first_by false x all e = absurd (false≢true e)

  -- the element that passes, at its number
  pub at_number : (xs : List X) (a : ℕ) (x : X) → slice_get xs a ≡ Some x → test x ≡ true → slice_get (filter test xs) (length (filter test (take a xs))) ≡ Some x
  at_number [] a x is passes = let lt : a < length {A = X} [] = slice_get_within [] a x is in absurd (omega (arith, lt))
  at_number (y ∷ xs) zero x is passes =
      let same : y ≡ x = (cond_some true y x is).1 in
      first_by (test y) y (filter test xs) (ap test same ∙ passes) ∙ ap (λ (z : X). Some z) same
  at_number (y ∷ xs) (suc a) x is passes = get_by (test y) y x (filter test xs) (filter test (take a xs)) (at_number xs a x is passes)

  pub record IsNumbered (xs : List X) (number : ℕ) (x : X) : Type 0 where
    pub place : ℕ
    pub is_element : slice_get xs place ≡ Some x
    pub passes : test x ≡ true
    pub is_number : number ≡ length (filter test (take place xs))

  later_by : (b : Bool) (y : X) (xs : List X) (number : ℕ) (x : X) → test y ≡ b → (less : ℕ) → number ≡ cond b (less + 1) less → IsNumbered xs less x → IsNumbered (y ∷ xs) number x
  later_by true y xs number x e less is n = record { place = suc n.place; is_element = n.is_element; passes = n.passes; is_number = number_true e n.is_number is }
    where
      number_true : test y ≡ true → less ≡ length (filter test (take n.place xs)) → number ≡ less + 1 → number ≡ length (cond (test y) (y ∷ filter test (take n.place xs)) (filter test (take n.place xs)))
      number_true e l m = m ∙ (let o : less + 1 ≡ length (y ∷ filter test (take n.place xs)) = omega (arith, l) in o) ∙ ap (λ (b : Bool). length (cond b (y ∷ filter test (take n.place xs)) (filter test (take n.place xs)))) (sym e)
  later_by false y xs number x e less is n = record {
    place = suc n.place;
    is_element = n.is_element;
    passes = n.passes;
    is_number = is ∙ n.is_number ∙ ap (λ (b : Bool). length (cond b (y ∷ filter test (take n.place xs)) (filter test (take n.place xs)))) (sym e);
  }

  from_by : (b : Bool) (y : X) (xs : List X) (number : ℕ) (x : X) → test y ≡ b → ((n : ℕ) → slice_get (filter test xs) n ≡ Some x → IsNumbered xs n x)
      → slice_get (cond b (y ∷ filter test xs) (filter test xs)) number ≡ Some x → IsNumbered (y ∷ xs) number x
  from_by true y xs zero x e rest is = let same : y ≡ x = (cond_some true y x is).1 in record { place = 0; is_element = ap (λ (z : X). Some z) same; passes = ap test (sym same) ∙ e; is_number = refl }
  from_by true y xs (suc n) x e rest is = later_by true y xs (suc n) x e n (omega arith) (rest n is)
  from_by false y xs number x e rest is = later_by false y xs number x e number refl (rest number is)

  pub from_number : (xs : List X) (number : ℕ) (x : X) → slice_get (filter test xs) number ≡ Some x → IsNumbered xs number x
  from_number [] number x is = let lt : number < length {A = X} [] = slice_get_within [] number x is in absurd (omega (arith, lt))
  from_number (y ∷ xs) number x is = from_by (test y) y xs number x refl (λ n e. from_number xs n x e) is

-- ---- one place

pub off_taken : (item : ItemInfo) (env : Env) (place : ℕ) (counts row : List ℕ) (bin : BinInfo) → slice_get item.bins place ≡ Some bin → holds bin.guard env ≡ false → PlaceTaken item env place counts row counts row
off_taken item env place counts row bin is off = record {
  on = λ b on. absurd (true≢false (sym on.guarded ∙ ap (λ (x : BinInfo). holds x.guard env) (same_bin item.bins place b bin on.is_bin is) ∙ off));
  off = λ b at g. (refl, refl);
}

pub on_taken : (item : ItemInfo) (env : Env) (place : ℕ) (old new old_row row : List ℕ) (bin : BinInfo) (entry : Entry) → slice_get item.bins place ≡ Some bin → holds bin.guard env ≡ true → IsEntry item.bins place bin entry
    → new ≡ slice_set old (item.first_bin + place) (raised (slice_index old (item.first_bin + place))) → row ≡ cond entry.covers (old_row ++ entry.number ∷ []) old_row
    → PlaceTaken item env place old old_row new row
on_taken item env place old new old_row row bin entry is g e is_new is_row = record {
  on = λ b on. (
    is_new,
    is_row ∙ ap (λ (n : ℕ). cond entry.covers (old_row ++ n ∷ []) old_row) e.number
        ∙ ap (λ (c : Bool). cond c (old_row ++ length (covering (take place item.bins)) ∷ []) old_row) (e.covers ∙ ap (λ (x : BinInfo). is_coverage x.kind) (same_bin item.bins place bin b is on.is_bin)),
  );
  off = λ b at off. absurd (true≢false (sym g ∙ ap (λ (x : BinInfo). holds x.guard env) (same_bin item.bins place bin b is at) ∙ off));
}

-- ---- all places

row_cases : (c : Bool) (row : List ℕ) (n m : ℕ) → Contains (cond c (row ++ n ∷ []) row) m → Contains row m ⊎ ((c ≡ true) × (n ≡ m))
row_cases true row n m h = elim (Contains-push_cases row n m h) [ inl old ↦ inl old | inr e ↦ inr (refl, e) ]
row_cases false row n m h = inl h

row_old : (c : Bool) (row : List ℕ) (n m : ℕ) → Contains row m → Contains (cond c (row ++ n ∷ []) row) m
row_old true row n m h = Contains-append_left row (n ∷ []) m h
row_old false row n m h = h

row_new : (c : Bool) (row : List ℕ) (n : ℕ) → c ≡ true → Contains (cond c (row ++ n ∷ []) row) n
row_new true row n e = Contains-push row n
row_new false row n e = absurd (false≢true e)

row_once : (c : Bool) (row : List ℕ) (n : ℕ) → AllPairs (λ a b. a ≢ b) row → (c ≡ true → Contains row n → ⊥) → AllPairs (λ a b. a ≢ b) (cond c (row ++ n ∷ []) row)
row_once true row n h apart = all_pairs_push (λ a b. a ≢ b) row n h (λ k d lt e. apart refl (subst (Contains row) e (Contains-get_or row k d lt)))
row_once false row n h apart = h

module _ (item : ItemInfo) (env : Env) (front : List ℕ) (place : ℕ) (fresh : Contains front place → ⊥) where
  abbrev next : List ℕ
  next = front ++ place ∷ []

  -- what was noted stays so
  noted_old : (number : ℕ) → IsNoted item.bins env front number → IsNoted item.bins env next number
  noted_old number n = record { place = n.place; is_met = Contains-append_left front (place ∷ []) n.place n.is_met; bin = n.bin; is_on = n.is_on; covers = n.covers; is_number = n.is_number }

  -- and is that of a front place, or of the new one
  noted_cases : (number : ℕ) (n : IsNoted item.bins env next number) → Contains front n.place ⊎ (place ≡ n.place)
  noted_cases number n = Contains-push_cases front place n.place n.is_met

  pub taken_off : (old now row : List ℕ) (bin : BinInfo) → slice_get item.bins place ≡ Some bin → holds bin.guard env ≡ false → AllTaken item env front old now row → AllTaken item env next old now row
  taken_off old now row bin is off h = record {
    on = λ p b c on. elim (Contains-push_cases front place p c) [
      | inl earlier ↦ h.on p b earlier on
      | inr e ↦ absurd (not_on b (subst (λ (q : ℕ). IsOn item.bins env q b) (sym e) on))
    ];
    off = λ number n. h.off number (λ p b c on. n p b (Contains-append_left front (place ∷ []) p c) on);
    row = λ number. (
      (λ c. noted_old number ((h.row number).0 c)),
      (λ n. elim (noted_cases number n) [
        | inl earlier ↦ (h.row number).1 (record { place = n.place; is_met = earlier; bin = n.bin; is_on = n.is_on; covers = n.covers; is_number = n.is_number })
        | inr e ↦ absurd (not_on n.bin (subst (λ (q : ℕ). IsOn item.bins env q n.bin) (sym e) n.is_on))
      ]),
    );
    once = h.once;
  }
    where
      not_on : (b : BinInfo) → IsOn item.bins env place b → ⊥
      not_on b on = true≢false (sym on.guarded ∙ ap (λ (x : BinInfo). holds x.guard env) (same_bin item.bins place b bin on.is_bin is) ∙ off)

  abbrev number : ℕ
  number = length (covering (take place item.bins))

  -- the new place's number stands for no other place
  fresh_number : (bin : BinInfo) → slice_get item.bins place ≡ Some bin → is_coverage bin.kind ≡ true → IsNoted item.bins env front number → ⊥
  fresh_number bin is covers n = elim (cases_lt n.place place) [
    | inl lower ↦ let lt = numbers_apart (λ (b : BinInfo). is_coverage b.kind) item.bins n.place place n.bin n.is_on.is_bin n.covers lower in absurd (omega (arith, lt, n.is_number))
    | inr past ↦ elim (cases_lt place n.place) [
      | inl higher ↦ let lt = numbers_apart (λ (b : BinInfo). is_coverage b.kind) item.bins place n.place bin is covers higher in absurd (omega (arith, lt, n.is_number))
      | inr same ↦ let e : n.place ≡ place = omega (arith, past, same) in fresh (subst (Contains front) e n.is_met)
    ]
  ]

  pub taken_on : (old now row : List ℕ) (bin : BinInfo) → slice_get item.bins place ≡ Some bin → holds bin.guard env ≡ true → item.first_bin + length item.bins ≤ length now → AllTaken item env front old now row
      → AllTaken item env next old (slice_set now (item.first_bin + place) (raised (slice_index now (item.first_bin + place)))) (cond (is_coverage bin.kind) (row ++ number ∷ []) row)
  taken_on old now row bin is g within h = record {
    on = λ p b c on. elim (Contains-push_cases front place p c) [
      | inl earlier ↦ get_or-set_other now at (item.first_bin + p) up 0 (λ e. fresh (subst (Contains front) (let s : p ≡ place = omega (arith, e) in s) earlier)) ∙ h.on p b earlier on
      | inr e ↦ subst (λ (q : ℕ). slice_index (slice_set now at up) (item.first_bin + q) ≡ raised (slice_index old (item.first_bin + q))) e
          (get_or-set_same now at up 0 inside ∙ ap raised (h.off at (λ q d m on' same. fresh (subst (Contains front) (let s : q ≡ place = omega (arith, same) in s) m))))
    ];
    off = λ n none. get_or-set_other now at n up 0 (λ e. none place bin (Contains-push front place) (record { is_bin = is; guarded = g }) e)
        ∙ h.off n (λ p b c on. none p b (Contains-append_left front (place ∷ []) p c) on);
    row = λ n. (
      (λ c. elim (row_cases (is_coverage bin.kind) row number n c) [
        | inl old ↦ noted_old n ((h.row n).0 old)
        | inr new ↦ record { place = place; is_met = Contains-push front place; bin = bin; is_on = record { is_bin = is; guarded = g }; covers = new.0; is_number = sym new.1 }
      ]),
      (λ m. elim (noted_cases n m) [
        | inl earlier ↦ row_old (is_coverage bin.kind) row number n ((h.row n).1 (record { place = m.place; is_met = earlier; bin = m.bin; is_on = m.is_on; covers = m.covers; is_number = m.is_number }))
        | inr e ↦
            let here : slice_get item.bins place ≡ Some m.bin = ap (λ (q : ℕ). slice_get item.bins q) e ∙ m.is_on.is_bin in
            let c : is_coverage bin.kind ≡ true = ap (λ (b : BinInfo). is_coverage b.kind) (same_bin item.bins place bin m.bin is here) ∙ m.covers in
            let same : number ≡ n = ap (λ (q : ℕ). length (covering (take q item.bins))) e ∙ sym m.is_number in
            subst (λ (q : ℕ). Contains (cond (is_coverage bin.kind) (row ++ number ∷ []) row) q) same (row_new (is_coverage bin.kind) row number c)
      ]),
    );
    once = row_once (is_coverage bin.kind) row number h.once (λ c m. fresh_number bin is c ((h.row number).0 m));
  }
    where
      at : ℕ
      at = item.first_bin + place

      up : ℕ
      up = raised (slice_index now (item.first_bin + place))

      inside : item.first_bin + place < length now
      inside = omega (arith, within, slice_get_within item.bins place bin is)

taken_by : (item : ItemInfo) (env : Env) (front : List ℕ) (place : ℕ) (old now new row next_row : List ℕ) (bin : BinInfo) (b : Bool) → holds bin.guard env ≡ b → slice_get item.bins place ≡ Some bin
    → (Contains front place → ⊥) → item.first_bin + length item.bins ≤ length now → PlaceTaken item env place now row new next_row → AllTaken item env front old now row → AllTaken item env (front ++ place ∷ []) old new next_row
taken_by item env front place old now new row next_row bin true g is fresh within t h =
    let e = t.on bin (record { is_bin = is; guarded = g }) in
    subst (λ (cs : List ℕ). AllTaken item env (front ++ place ∷ []) old cs next_row) (sym e.0) (subst (λ (r : List ℕ). AllTaken item env (front ++ place ∷ []) old (slice_set now (item.first_bin + place) (raised (slice_index now (item.first_bin + place)))) r) (sym e.1)
    (taken_on item env front place fresh old now row bin is g within h))
taken_by item env front place old now new row next_row bin false g is fresh within t h =
    let e = t.off bin is g in
    subst (λ (cs : List ℕ). AllTaken item env (front ++ place ∷ []) old cs next_row) (sym e.0) (subst (λ (r : List ℕ). AllTaken item env (front ++ place ∷ []) old now r) (sym e.1)
    (taken_off item env front place fresh old now row bin is g h))

pub all_taken_more : (item : ItemInfo) (env : Env) (front : List ℕ) (place : ℕ) (old now new row next_row : List ℕ) → place < length item.bins → (Contains front place → ⊥) → item.first_bin + length item.bins ≤ length now
    → PlaceTaken item env place now row new next_row → AllTaken item env front old now row → AllTaken item env (front ++ place ∷ []) old new next_row
all_taken_more item env front place old now new row next_row lt fresh within t h =
    let b = some_at item.bins place lt in taken_by item env front place old now new row next_row b.0 (holds b.0.guard env) refl b.1 fresh within t h

none_taken : (item : ItemInfo) (env : Env) (counts : List ℕ) → AllTaken item env [] counts counts []
none_taken item env counts = record {
  on = λ place bin h o. absurd (omega (arith, h.1));
  off = λ number h. refl;
  row = λ number. ((λ h. absurd (omega (arith, h.1))), (λ n. absurd (omega (arith, n.is_met.1))));
  once = λ i j d less lt. absurd (omega (arith, lt));
}

-- one place alone
pub one_taken : (item : ItemInfo) (env : Env) (place : ℕ) (old new row next_row : List ℕ) → place < length item.bins → item.first_bin + length item.bins ≤ length old → row ≡ [] → PlaceTaken item env place old row new next_row
    → AllTaken item env (place ∷ []) old new next_row
one_taken item env place old new row next_row lt within none t =
    all_taken_more item env [] place old old new row next_row lt (λ h. absurd (omega (arith, h.1))) within t (subst (λ (r : List ℕ). AllTaken item env [] old old r) (sym none) (none_taken item env old))

pub single : (xs : List ℕ) → length xs ≡ 1 → get_or xs 0 0 ∷ [] ≡ xs
single [] e = absurd (omega (arith, e))
single (x ∷ []) e = refl
single (x ∷ y ∷ xs) e = absurd (omega (arith, e))
