-- Bins by name: what the code makes is what the definition says.
use Rattle.std.proofs.Common.{◌≡◌, ℕ, suc, ◌+◌, ◌<◌, ◌≤◌, true, false, List, [], ◌∷◌, ◌++◌, length, map, take, refl, sym, ap, subst, ◌∙◌, arith, Option, Some, None, true≢false, append_assoc}
use Rattle.std.specs.Prelude.{slice_index_or, slice_set, fold, filter, bytes_eq, is_some, if◌then◌else◌, ◌-◌, IfSome}
use Rattle.std.specs.List.{list_any}
use Rattle.std.specs.declared.vec.Vec.{Vec}
use Rattle.std.specs.declared.alloc.Global.{Global}
use Rattle.std.proofs.lemmas.List.{map-append, length-map, map-set, get_or-map, append-nil}
use Rattle.std.proofs.lemmas.List.Folds.{list_any-append}
use Rattle.std.proofs.lemmas.List.Elements.{filter-append}
use Rattle.std.proofs.lemmas.List.Sums.{fold-append}
use Rattle.name_map.specs.Names.{Pairs, meaning_of, with_name}
use Rattle.cov_history.proofs.Bools.{by_bool, or_none}
use Rattle.store_sums.proofs.Walks.{take_step}
use Rattle.store_sums.proofs.Ranges.{at_any}
use Rattle.name_map.proofs.Named.{same_names, same_as_itself}
use Rattle.store_sums.specs.Groups.{put_at, Group, with_bin, groups_of, places_from, HasGroups}

-- one bin more in a list that is there
pub put_list : (lists : List (Vec ℕ Global)) (place bin : ℕ) (old new : Vec ℕ Global) → place < length lists → old ≡ slice_index_or lists place old → new.items ≡ old.items ++ bin ∷ []
    → map (λ (l : Vec ℕ Global). l.items) (slice_set lists place new) ≡ put_at (Some place) bin (map (λ (l : Vec ℕ Global). l.items) lists)
put_list lists place bin old new inside at e =
    let f : Vec ℕ Global → List ℕ = λ l. l.items in
    let there : slice_index_or (map f lists) place [] ≡ f old = get_or-map f lists place old [] inside ∙ ap f (sym at) in
    map-set f lists place new ∙ ap (slice_set (map f lists) place) (e ∙ ap (λ xs. xs ++ bin ∷ []) (sym there))

abbrev bins_in : List Group → List (List ℕ)
bins_in gs = map (λ (g : Group). g.1) gs

-- ---- a name that no group has

new_group : (a : ℕ) (gs : List Group) (name : List ℕ) (bin : ℕ) → meaning_of (places_from a gs) name ≡ None → with_bin gs name bin ≡ gs ++ (name, bin ∷ []) ∷ []
unfolding meaning_of
new_group a [] name bin e = refl
new_group a (g ∷ gs) name bin e =
    by_bool (bytes_eq name g.0)
    (λ k. let s : meaning_of (places_from a (g ∷ gs)) name ≡ Some a = rw k refl in absurd (cc))
    (λ k. let s : meaning_of (places_from a (g ∷ gs)) name ≡ meaning_of (places_from (a + 1) gs) name = rw k refl in rw k (ap (λ xs. g ∷ xs) (new_group (a + 1) gs name bin (sym s ∙ e))))

places_last : (a : ℕ) (gs : List Group) (name : List ℕ) (bins : List ℕ) → places_from a (gs ++ (name, bins) ∷ []) ≡ places_from a gs ++ (name, a + length gs) ∷ []
places_last a [] name bins = let e : a ≡ a + 0 = omega arith in ap (λ (n : ℕ). (name, n) ∷ []) e
places_last a (g ∷ gs) name bins =
    let e : (a + 1) + length gs ≡ a + suc (length gs) = omega arith in
    ap (λ (ps : Pairs ℕ). (g.0, a) ∷ ps) (places_last (a + 1) gs name bins ∙ ap (λ (n : ℕ). places_from (a + 1) gs ++ (name, n) ∷ []) e)

-- ---- a name that a group has

pub record Placed (a : ℕ) (gs : List Group) (name : List ℕ) (bin i : ℕ) : Type 0 where
  pub low : a ≤ i
  pub inside : i < a + length gs
  pub lists : bins_in (with_bin gs name bin) ≡ slice_set (bins_in gs) (i - a) (slice_index_or (bins_in gs) (i - a) [] ++ bin ∷ [])
  pub names : places_from a (with_bin gs name bin) ≡ places_from a gs

old_group : (a : ℕ) (gs : List Group) (name : List ℕ) (bin i : ℕ) → meaning_of (places_from a gs) name ≡ Some i → Placed a gs name bin i
unfolding meaning_of
old_group a [] name bin i e = absurd (cc)
old_group a (g ∷ gs) name bin i e =
    by_bool (bytes_eq name g.0)
    (λ k.
    let s : meaning_of (places_from a (g ∷ gs)) name ≡ Some a = rw k refl in
    let same : a ≡ i = cc in
    let zero_is : i - a ≡ 0 = omega (arith, same) in
    record { low = omega (arith, same); inside = omega (arith, same); lists = rw (k, zero_is) refl; names = rw k refl })
    (λ k.
    let s : meaning_of (places_from a (g ∷ gs)) name ≡ meaning_of (places_from (a + 1) gs) name = rw k refl in
    let p = old_group (a + 1) gs name bin i (sym s ∙ e) in
    let step : i - a ≡ suc (i - (a + 1)) = omega (arith, p.low) in
    record {
      low = omega (arith, p.low);
      inside = omega (arith, p.inside);
      lists = rw (k, step) (ap (λ xs. g.1 ∷ xs) p.lists);
      names = rw k (ap (λ (ps : Pairs ℕ). (g.0, a) ∷ ps) p.names);
    })

-- ---- one bin more

pub inside : (gs : List Group) (names : Pairs ℕ) (lists : List (List ℕ)) (name : List ℕ) → HasGroups gs names lists → IfSome (meaning_of names name) (λ place. place < length lists)
inside gs names lists name h = by (meaning_of names name) refl
  where
    by : (o : Option ℕ) → meaning_of names name ≡ o → IfSome o (λ place. place < length lists)
    by None e = tt
    by (Some i) e =
        let p = old_group 0 gs name 0 i (sym (ap (λ (ps : Pairs ℕ). meaning_of ps name) h.names_are) ∙ e) in
        let l = ap (λ (ls : List (List ℕ)). length ls) h.lists_are in
        let m = length-map gs (λ (g : Group). g.1) in
        omega (arith, p.inside, l, m)

pub group_more : (gs : List Group) (names more : Pairs ℕ) (lists longer : List (List ℕ)) (name : List ℕ) (bin : ℕ) → HasGroups gs names lists → more ≡ with_name names name (length lists) → longer ≡ put_at (meaning_of names name) bin lists
    → HasGroups (with_bin gs name bin) more longer
group_more gs names more lists longer name bin h m l = by (meaning_of names name) refl
  where
    len : length lists ≡ 0 + length gs
    len = let a = ap (λ (ls : List (List ℕ)). length ls) h.lists_are in let b = length-map gs (λ (g : Group). g.1) in omega (arith, a, b)

    by : (o : Option ℕ) → meaning_of names name ≡ o → HasGroups (with_bin gs name bin) more longer
    by None e =
        let fresh = new_group 0 gs name bin (sym (ap (λ (ps : Pairs ℕ). meaning_of ps name) h.names_are) ∙ e) in
        let n : more ≡ names ++ (name, length lists) ∷ [] = m ∙ ap (λ (o : Option ℕ). if is_some o then names else names ++ (name, length lists) ∷ []) e in
        let g : longer ≡ lists ++ (bin ∷ []) ∷ [] = l ∙ ap (λ (o : Option ℕ). put_at o bin lists) e in
        record {
          names_are = n ∙ (λ i. h.names_are i ++ (name, len i) ∷ []) ∙ sym (places_last 0 gs name (bin ∷ [])) ∙ ap (places_from 0) (sym fresh);
          lists_are = g ∙ ap (λ (ls : List (List ℕ)). ls ++ (bin ∷ []) ∷ []) h.lists_are ∙ sym (map-append (λ (g : Group). g.1) gs ((name, bin ∷ []) ∷ [])) ∙ ap bins_in (sym fresh);
        }
    by (Some i) e =
        let p = old_group 0 gs name bin i (sym (ap (λ (ps : Pairs ℕ). meaning_of ps name) h.names_are) ∙ e) in
        let n : more ≡ names = m ∙ ap (λ (o : Option ℕ). if is_some o then names else names ++ (name, length lists) ∷ []) e in
        let g : longer ≡ put_at (Some i) bin lists = l ∙ ap (λ (o : Option ℕ). put_at o bin lists) e in
        let z : i ≡ i - 0 = omega arith in
        record {
          names_are = n ∙ h.names_are ∙ sym p.names;
          lists_are = g ∙ ap (put_at (Some i) bin) h.lists_are ∙ ap (λ (j : ℕ). put_at (Some j) bin (bins_in gs)) z ∙ sym p.lists;
        }

-- ---- the definition by names, each once

-- no two names of the list are the same
Apart : List (List ℕ) → Type 0
Apart [] = Unit {0}
Apart (name ∷ names) = (list_any (bytes_eq name) names ≡ false) × Apart names

eq_sym : (a b : List ℕ) → bytes_eq a b ≡ bytes_eq b a
eq_sym a b = by_bool (bytes_eq a b)
    (λ k. let e = same_names a b k in k ∙ sym (subst (λ (x : List ℕ). bytes_eq b x ≡ true) (sym e) (same_as_itself b)))
    (λ k. by_bool (bytes_eq b a)
    (λ j. let e = same_names b a j in k ∙ sym (subst (λ (x : List ℕ). bytes_eq b x ≡ false) e (subst (λ (x : List ℕ). bytes_eq x b ≡ false) (sym e) k)))
    (λ j. k ∙ sym j))

module _ (f : ℕ → List ℕ) where
  abbrev named : List ℕ → (name : List ℕ) → List ℕ
  named bins name = filter (λ n. bytes_eq (f n) name) bins

  abbrev pub group : List ℕ → (name : List ℕ) → Group
  group bins name = (name, named bins name)

  -- each bin's name is among these
  Covers : (done : List ℕ) (names : List (List ℕ)) → Type 0
  Covers done names = (name : List ℕ) → list_any (bytes_eq name) names ≡ false → named done name ≡ []

  named_last : (done : List ℕ) (b : ℕ) (name : List ℕ) → named (done ++ b ∷ []) name ≡ named done name ++ (if bytes_eq (f b) name then b ∷ [] else [])
  named_last done b name =
      filter-append (λ n. bytes_eq (f n) name) done (b ∷ []) ∙ ap (λ xs. named done name ++ xs) (by_bool (bytes_eq (f b) name) (λ k. rw k refl) (λ k. rw k refl))

  has_last : (done : List ℕ) (b : ℕ) (name : List ℕ) → bytes_eq (f b) name ≡ true → named (done ++ b ∷ []) name ≡ named done name ++ b ∷ []
  has_last done b name k = named_last done b name ∙ rw k refl

  not_last : (done : List ℕ) (b : ℕ) (name : List ℕ) → bytes_eq (f b) name ≡ false → named (done ++ b ∷ []) name ≡ named done name
  not_last done b name k = named_last done b name ∙ rw k (append-nil (named done name))

  same_rest : (done : List ℕ) (b : ℕ) (names : List (List ℕ)) → list_any (bytes_eq (f b)) names ≡ false → map (group done) names ≡ map (group (done ++ b ∷ [])) names
  same_rest done b [] none = refl
  same_rest done b (n ∷ ns) none =
      let two = or_none (bytes_eq (f b) n) (list_any (bytes_eq (f b)) ns) none in
      let h : named done n ≡ named (done ++ b ∷ []) n = sym (not_last done b n two.0) in λ i. (n, h i) ∷ same_rest done b ns two.1 i

  there : (done : List ℕ) (b : ℕ) (names : List (List ℕ)) → Apart names → list_any (bytes_eq (f b)) names ≡ true → with_bin (map (group done) names) (f b) b ≡ map (group (done ++ b ∷ [])) names
  unfolding Apart
  there done b [] apart some = absurd (cc)
  there done b (n ∷ ns) apart some =
      by_bool (bytes_eq (f b) n)
      (λ k.
      let same = same_names (f b) n k in
      let none : list_any (bytes_eq (f b)) ns ≡ false = subst (λ (x : List ℕ). list_any (bytes_eq x) ns ≡ false) (sym same) apart.0 in
      let h : named done n ++ b ∷ [] ≡ named (done ++ b ∷ []) n = sym (has_last done b n k) in
      rw k (λ i. (n, h i) ∷ same_rest done b ns none i))
      (λ k.
      let later : list_any (bytes_eq (f b)) ns ≡ true = sym (rw k refl) ∙ some in
      let h : named done n ≡ named (done ++ b ∷ []) n = sym (not_last done b n k) in
      rw k (λ i. (n, h i) ∷ there done b ns apart.1 later i))

  new_name : (gs : List Group) (done : List ℕ) (b : ℕ) (names : List (List ℕ)) → gs ≡ map (group done) names → list_any (bytes_eq (f b)) names ≡ false → with_bin (map (group done) names) (f b) b ≡ map (group done) names ++ (f b, b ∷ []) ∷ []
  new_name gs done b [] e none = refl
  new_name gs done b (n ∷ ns) e none =
      let two = or_none (bytes_eq (f b) n) (list_any (bytes_eq (f b)) ns) none in
      rw two.0 (ap (λ xs. (n, named done n) ∷ xs) (new_name (map (group done) ns) done b ns refl two.1))

  abbrev once_with : List (List ℕ) → List ℕ → List (List ℕ)
  once_with done name = if list_any (bytes_eq name) done then done else done ++ name ∷ []

  step : (done : List ℕ) (b : ℕ) (names : List (List ℕ)) → Apart names → Covers done names → with_bin (map (group done) names) (f b) b ≡ map (group (done ++ b ∷ [])) (once_with names (f b))
  unfolding Covers
  step done b names apart covers =
      by_bool (list_any (bytes_eq (f b)) names)
      (λ k. there done b names apart k ∙ sym (rw k refl))
      (λ k.
      let last : (f b, b ∷ []) ≡ group (done ++ b ∷ []) (f b) = let h : b ∷ [] ≡ named (done ++ b ∷ []) (f b) = sym (has_last done b (f b) (same_as_itself (f b)) ∙ ap (λ xs. xs ++ b ∷ []) (covers (f b) k)) in λ i. (f b, h i) in
      new_name (map (group done) names) done b names refl k ∙ (λ i. same_rest done b names k i ++ last i ∷ []) ∙ sym (rw k (map-append (group (done ++ b ∷ [])) names (f b ∷ []))))

  apart_last : (names : List (List ℕ)) (name : List ℕ) → Apart names → list_any (bytes_eq name) names ≡ false → Apart (names ++ name ∷ [])
  unfolding Apart
  apart_last [] name apart none = (refl, tt)
  apart_last (n ∷ ns) name apart none =
      let two = or_none (bytes_eq name n) (list_any (bytes_eq name) ns) none in
      let other : bytes_eq n name ≡ false = eq_sym n name ∙ two.0 in
      (list_any-append (bytes_eq n) ns (name ∷ []) ∙ rw (apart.0, other) refl, apart_last ns name apart.1 two.1)

  apart_step : (names : List (List ℕ)) (name : List ℕ) → Apart names → Apart (once_with names name)
  apart_step names name apart = by_bool (list_any (bytes_eq name) names) (λ k. rw k apart) (λ k. rw k (apart_last names name apart k))

  covers_step : (done : List ℕ) (b : ℕ) (names : List (List ℕ)) → Covers done names → Covers (done ++ b ∷ []) (once_with names (f b))
  unfolding Covers
  covers_step done b names covers name none =
      by_bool (list_any (bytes_eq (f b)) names)
      (λ k.
      let old : list_any (bytes_eq name) names ≡ false = sym (ap (λ (xs : List (List ℕ)). list_any (bytes_eq name) xs) (rw k refl)) ∙ none in
      let other : bytes_eq (f b) name ≡ false = by_bool (bytes_eq (f b) name) (λ j. let e = same_names (f b) name j in absurd (true≢false (sym k ∙ ap (λ (x : List ℕ). list_any (bytes_eq x) names) e ∙ old))) (λ j. j) in
      not_last done b name other ∙ covers name old)
      (λ k.
      let whole : list_any (bytes_eq name) (names ++ f b ∷ []) ≡ false = sym (ap (λ (xs : List (List ℕ)). list_any (bytes_eq name) xs) (rw k refl)) ∙ none in
      let two = or_none (list_any (bytes_eq name) names) (list_any (bytes_eq name) (f b ∷ [])) (sym (list_any-append (bytes_eq name) names (f b ∷ [])) ∙ whole) in
      let one = or_none (bytes_eq name (f b)) false two.1 in
      not_last done b name (eq_sym (f b) name ∙ one.0) ∙ covers name two.0)

  from : (rest done : List ℕ) (names : List (List ℕ)) → Apart names → Covers done names
      → fold (λ groups bin. with_bin groups (f bin) bin) (map (group done) names) rest ≡ map (group (done ++ rest)) (fold once_with names (map f rest))
  from [] done names apart covers = ap (λ (bins : List ℕ). map (group bins) names) (sym (append-nil done))
  from (b ∷ rest) done names apart covers =
      ap (λ (gs : List Group). fold (λ groups bin. with_bin groups (f bin) bin) gs rest) (step done b names apart covers)
      ∙ from rest (done ++ b ∷ []) (once_with names (f b)) (apart_step names (f b) apart) (covers_step done b names covers)
      ∙ ap (λ (bins : List ℕ). map (group bins) (fold once_with (once_with names (f b)) (map f rest))) (append_assoc done (b ∷ []) rest)

  -- the groups are those of the names, each once
  pub groups_are : (bins : List ℕ) → groups_of f bins ≡ map (group bins) (fold once_with [] (map f bins))
  unfolding Apart Covers
  groups_are bins = from bins [] [] tt (λ name none. refl)

  -- the groups with one bin more
  pub groups_more : (bins : List ℕ) (i d : ℕ) (names more : Pairs ℕ) (lists longer : List (Vec ℕ Global)) (name : List ℕ) → i < length bins → name ≡ f (slice_index_or bins i d)
      → HasGroups (groups_of f (take i bins)) names (map (λ (l : Vec ℕ Global). l.items) lists) → more ≡ with_name names name (length lists) → map (λ (l : Vec ℕ Global). l.items) longer ≡ put_at (meaning_of names name) (slice_index_or bins i d) (map (λ (l : Vec ℕ Global). l.items) lists)
      → HasGroups (groups_of f (take (i + 1) bins)) more (map (λ (l : Vec ℕ Global). l.items) longer)
  groups_more bins i d names more lists longer name inside is h m l =
      let x = slice_index_or bins i d in
      let len : length (map (λ (l : Vec ℕ Global). l.items) lists) ≡ length lists = length-map lists (λ (l : Vec ℕ Global). l.items) in
      let added : HasGroups (with_bin (groups_of f (take i bins)) name x) more (map (λ (l : Vec ℕ Global). l.items) longer) = group_more (groups_of f (take i bins)) names more (map (λ (l : Vec ℕ Global). l.items) lists) (map (λ (l : Vec ℕ Global). l.items) longer) name x h (m ∙ ap (λ (n : ℕ). with_name names name n) (sym len)) l in
      let whole : with_bin (groups_of f (take i bins)) name x ≡ groups_of f (take (i + 1) bins) =
      ap (λ (n : List ℕ). with_bin (groups_of f (take i bins)) n x) is
      ∙ sym (fold-append (λ (groups : List Group) bin. with_bin groups (f bin) bin) [] (take i bins) (x ∷ []))
      ∙ ap (λ (xs : List ℕ). groups_of f xs) (sym (take_step bins i x inside (at_any bins i d x inside))) in
      subst (λ (gs : List Group). HasGroups gs more (map (λ (l : Vec ℕ Global). l.items) longer)) whole added

-- the place of a name is that of a list
pub place_inside : (gs : List Group) (names : Pairs ℕ) (lists : List (Vec ℕ Global)) (name : List ℕ) → HasGroups gs names (map (λ (l : Vec ℕ Global). l.items) lists) → IfSome (meaning_of names name) (λ place. place < length lists)
place_inside gs names lists name h =
    subst (λ (n : ℕ). IfSome (meaning_of names name) (λ place. place < n)) (length-map lists (λ (l : Vec ℕ Global). l.items)) (inside gs names (map (λ (l : Vec ℕ Global). l.items) lists) name h)
