-- The lists of the sequences up to a place, and those of one more.
use Rattle.std.proofs.Common.{◌≡◌, ℕ, ◌+◌, ◌≤◌, ◌<◌, List, [], ◌∷◌, ◌++◌, length, take, drop, get_or, map, refl, ap, sym, ◌∙◌, subst, arith, append-nil, Bool, true, false, cond, Some}
use Rattle.std.specs.Prelude.{Contains}
use Rattle.std.specs.List.{list_any}
use Rattle.std.proofs.lemmas.List.{get_or-take, get_or_default, length-take, take_all}
use Rattle.cov_ground.specs.Limits.{most_bins}
use Rattle.trans_seq.specs.declared.seq.Seq.{Seq}
use Rattle.trans_found.specs.declared.found.Found.{Found}
use Rattle.trans_found.specs.declared.fault.ExpandFault.{ExpandFault}
use Rattle.trans_seq.specs.Windows.{InSeq}
use Rattle.trans_found.specs.Lists.{is_among, news, all_of, listed, has_endless, lists_by_all, listed_by_all}
use Rattle.trans_found.specs.Found.{lists_of, Holds, Takes, FailsAfter, IsHeldBefore, Merges}
use Rattle.trans_found.proofs.News.{Word, among_first, among_later, news-append, among_news, news_none}
use Rattle.trans_found.proofs.FoundLemmas.{flat_next, flat_rest, fails_first, fails_behind}
use Rattle.trans_lists.proofs.MergeLemmas.{none_of, among_all}
use Rattle.trans_lists.proofs.Written.{among-of, among-from, listed-windows}

lists_found : (seqs : List Seq) (place : ℕ) (found : Found) → Merges seqs place found → lists_of found ≡ news [] (lists_by_all (take place seqs))
lists_found seqs place found m = ap (λ g. all_of g ++ found.fresh.items) m.groups ∙ m.fresh

module _ (seqs : List Seq) (place : ℕ) (seq : Seq) (found : Found) (within : place < length seqs) (is : seq ≡ get_or seqs place seq) (so_far : Merges seqs place found) where
  next : news [] (lists_by_all (take (place + 1) seqs)) ≡ news [] (lists_by_all (take place seqs)) ++ news (news [] (lists_by_all (take place seqs))) (listed seq.items)
  next =
      ap (λ l. news [] l) (flat_next (λ (s : Seq). listed s.items) seqs place seq within is)
      ∙ news-append [] (lists_by_all (take place seqs)) (listed seq.items)

  pub merges_more : (new : Found) → Takes found new (listed seq.items) → Merges seqs (place + 1) new
  merges_more new t = record {
    holds = t.holds;
    groups = t.groups ∙ so_far.groups;
    fresh =
        t.fresh
        ∙ ap (λ l. l ++ news (lists_of found) (listed seq.items)) so_far.fresh
        ∙ ap (λ l. news [] (lists_by_all (take place seqs)) ++ news l (listed seq.items)) (lists_found seqs place found so_far)
        ∙ sym next;
  }

  pub fails_more : (e : ExpandFault) → FailsAfter (lists_of found) (listed seq.items) e → FailsAfter [] (lists_by_all seqs) e
  fails_more e h =
      let xs = lists_by_all (take place seqs) in
      let here : FailsAfter (news [] xs) (listed seq.items) e = subst (λ l. FailsAfter l (listed seq.items) e) (lists_found seqs place found so_far) h in
      subst (λ l. FailsAfter [] l e) (sym (flat_rest (λ (s : Seq). listed s.items) seqs place seq within is))
      (fails_first [] (xs ++ listed seq.items) (lists_by_all (drop (place + 1) seqs)) e (fails_behind [] xs (listed seq.items) e here))

  module _ (bounded : list_any has_endless seqs ≡ false) (held : IsHeldBefore seqs place) where
    there : (w : Word) → is_among (listed seq.items) w ≡ true → is_among (news [] (lists_by_all (take place seqs))) w ≡ true
    there w h =
        let first = get_or seqs held.first seq in
        let before : held.first < place = held.before in
        let lt : held.first < length seqs = omega (arith, before, within) in
        let here : Contains seqs seq = (place, within, sym is) in
        let in_seqs : Contains seqs first = (held.first, lt, get_or_default seqs held.first first seq lt) in
        let at : get_or (take place seqs) held.first first ≡ first = get_or-take place seqs held.first first before ∙ in_seqs.2 in
        let in_front : Contains (take place seqs) first = (held.first, omega (arith, before, within, length-take place seqs), at) in
        let window : InSeq seq.items (map Some w) = (listed-windows seq.items (none_of has_endless seqs seq bounded here) w).0 (among-from (listed seq.items) w h) in
        let same : InSeq first.items (map Some w) = held.holds seq (map Some w) (subst (λ (s : Seq). InSeq s.items (map Some w)) is window) in
        let list = (listed-windows first.items (none_of has_endless seqs first bounded in_seqs) w).1 same in
        among_news [] (lists_by_all (take place seqs)) w (among_all (take place seqs) first w in_front (among-of (listed first.items) w list))

    pub merges_held : Merges seqs (place + 1) found
    merges_held = record {
      holds = so_far.holds;
      groups = so_far.groups;
      fresh =
          let xs = lists_by_all (take place seqs) in
          so_far.fresh ∙ sym (next ∙ ap (λ l. news [] xs ++ l) (news_none (news [] xs) (listed seq.items) there) ∙ append-nil (news [] xs));
    }

-- ---- all sequences

pub merged_all : (seqs : List Seq) (place : ℕ) (found : Found) → length seqs ≤ place → Merges seqs place found → found.fresh.items ≡ listed_by_all seqs
merged_all seqs place found le m = m.fresh ∙ ap (λ (xs : List Seq). news [] (lists_by_all xs)) (take_all place seqs le)

pub merged_few : (seqs : List Seq) (place : ℕ) (found : Found) → length seqs ≤ place → Merges seqs place found → length (listed_by_all seqs) ≤ most_bins
merged_few seqs place found le m =
    let count = m.holds.count in
    let few = m.holds.few in
    let lists = ap (λ (l : List Word). length l) (lists_found seqs place found m ∙ sym m.fresh ∙ merged_all seqs place found le m) in
    omega (arith, count, few, lists)

pub merges_none : (seqs : List Seq) (found : Found) → Holds found → found.groups.items ≡ [] → found.fresh.items ≡ [] → Merges seqs 0 found
merges_none seqs found holds groups fresh = record { holds = holds; groups = groups; fresh = fresh }

-- ---- the same sequence at two places

pub repeated : (seqs : List Seq) (first place : ℕ) (a b : Seq) → first < place → place < length seqs → a ≡ get_or seqs place a → b ≡ get_or seqs first b → a ≡ b → IsHeldBefore seqs place
repeated seqs first place a b before within at_place at_first same = record {
  first = first;
  before = before;
  holds = λ d w h.
      let lt : first < length seqs = omega (arith, before, within) in
      let here : get_or seqs place d ≡ a = get_or_default seqs place d a within ∙ sym at_place in
      let there : b ≡ get_or seqs first d = at_first ∙ get_or_default seqs first b d lt in
      subst (λ (s : Seq). InSeq s.items w) (here ∙ same ∙ there) h;
}
