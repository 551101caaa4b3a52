-- The lists of several sequences, one sequence after the other.
use Rattle.std.proofs.Common.{◌≡◌, ◌≤◌, ◌↔◌, List, [], ◌∷◌, ◌++◌, length, map, ap, sym, ◌∙◌, subst, inl, inr, arith, Bool, true, false, Some}
use Rattle.std.specs.Prelude.{Contains, All}
use Rattle.std.specs.List.{list_any}
use Rattle.std.proofs.lemmas.Bool.{or_parts, true≢false}
use Rattle.cov_ground.specs.Limits.{most_bins}
use Rattle.trans_seq.specs.declared.seq.Seq.{Seq}
use Rattle.trans_found.specs.declared.found.Found.{Found}
use Rattle.trans_found.specs.declared.fault.ExpandFault.{ExpandFault}
use Rattle.trans_found.specs.declared.fault.ExpandFault.TheVariants.{Unbounded, TooLong, TooManyBins, Memory}
use Rattle.trans_seq.specs.Windows.{InSome}
use Rattle.trans_found.specs.Lists.{is_among, news, all_of, listed, has_endless, IsShort, lists_by_all, listed_by_all, RefusesToExpand, RefusesToExpandAll}
use Rattle.trans_found.specs.Found.{lists_of, Takes, FailsAfter}
use Rattle.trans_seq.proofs.Members.{none_in, cases_in, in_flat_map}
use Rattle.trans_found.proofs.News.{Word, among_left, among_right, among_news}
use Rattle.trans_found.proofs.Counted.{no_more, listed-differ, news_from, map-same}
use Rattle.trans_lists.proofs.Written.{from_flat_map, among-of, among-from, listed-windows}

pub none_of : (p : Seq → Bool) (seqs : List Seq) (seq : Seq) → list_any p seqs ≡ false → Contains seqs seq → p seq ≡ false
none_of p [] seq e h = absurd (none_in seq h)
none_of p (x ∷ xs) seq e h =
    let parts = or_parts (p x) (list_any p xs) e in
    elim (cases_in x xs seq h) [ inl same ↦ subst (λ y. p y ≡ false) same parts.0 | inr later ↦ none_of p xs seq parts.1 later ]

each_of : (P : Seq → Type 0) (seqs : List Seq) (seq : Seq) → All P seqs → Contains seqs seq → P seq
each_of P seqs seq all h = subst P h.2 (all h.0 seq h.1)

pub among_all : (seqs : List Seq) (seq : Seq) (w : Word) → Contains seqs seq → is_among (listed seq.items) w ≡ true → is_among (lists_by_all seqs) w ≡ true
among_all [] seq w h k = absurd (none_in seq h)
among_all (x ∷ xs) seq w h k = elim (cases_in x xs seq h) [
  | inl same ↦ among_left (listed x.items) (lists_by_all xs) w (subst (λ y. is_among (listed y.items) w ≡ true) (sym same) k)
  | inr later ↦ among_right (listed x.items) (lists_by_all xs) w (among_all xs seq w later k)
]

-- all sequences have no fewer lists than one of them
no_fewer_all : (seqs : List Seq) (seq : Seq) → Contains seqs seq → length (listed seq.items) ≤ length (listed_by_all seqs)
no_fewer_all seqs seq h = no_more (λ w. w) (λ u w e. e) (listed seq.items) (listed-differ seq.items) (listed_by_all seqs) (λ w k. among_news [] (lists_by_all seqs) w (among_all seqs seq w h k))

-- ---- refusals

-- one sequence is refused
pub fails_one : (seqs : List Seq) (seq : Seq) (e : ExpandFault) → Contains seqs seq → list_any has_endless seqs ≡ false → All IsShort seqs → RefusesToExpand seq.items e → FailsAfter [] (lists_by_all seqs) e
fails_one seqs seq Unbounded h bounded short r = true≢false (sym r ∙ none_of has_endless seqs seq bounded h)
fails_one seqs seq (TooLong cells) h bounded short r = let le = each_of IsShort seqs seq short h in absurd (omega (arith, le, r.1))
fails_one seqs seq (TooManyBins count) h bounded short r = let more = no_fewer_all seqs seq h in (r.3, omega (arith, r.2, more))
fails_one seqs seq Memory h bounded short r = tt

pub refuses_all : (seqs : List Seq) (e : ExpandFault) → list_any has_endless seqs ≡ false → All IsShort seqs → FailsAfter [] (lists_by_all seqs) e → RefusesToExpandAll seqs e
refuses_all seqs Unbounded bounded short h = absurd h
refuses_all seqs (TooLong cells) bounded short h = absurd h
refuses_all seqs (TooManyBins count) bounded short h = (bounded, short, omega (arith, h.1), h.0)
refuses_all seqs Memory bounded short h = (bounded, short)

-- ---- the lists found

-- the lists of a sequence, as they are taken
pub without_front : (lists : List Word) (listed_here : List Word) → lists ≡ listed_here → map (λ rest. [] ++ rest) lists ≡ listed_here
without_front lists listed_here e = map-same lists ∙ e

pub none_before : (start : Found) → start.groups.items ≡ [] → start.fresh.items ≡ [] → lists_of start ≡ []
none_before start groups fresh = ap (λ g. all_of g ++ start.fresh.items) groups ∙ fresh

pub all_found : (start end : Found) (seqs : List Seq) → start.groups.items ≡ [] → start.fresh.items ≡ [] → Takes start end (lists_by_all seqs) → end.fresh.items ≡ listed_by_all seqs
all_found start end seqs groups fresh t =
    t.fresh ∙ ap (λ f. f ++ news (lists_of start) (lists_by_all seqs)) fresh ∙ ap (λ b. news b (lists_by_all seqs)) (none_before start groups fresh)

pub few_found : (start end : Found) (seqs : List Seq) → start.groups.items ≡ [] → start.fresh.items ≡ [] → Takes start end (lists_by_all seqs) → length (listed_by_all seqs) ≤ most_bins
few_found start end seqs groups fresh t =
    let all : lists_of end ≡ end.fresh.items = ap (λ g. all_of g ++ end.fresh.items) (t.groups ∙ groups) in
    omega (arith, t.holds.few, t.holds.count, ap length (all ∙ all_found start end seqs groups fresh t))

pub fails_from : (start : Found) (ws : List Word) (e : ExpandFault) → start.groups.items ≡ [] → start.fresh.items ≡ [] → FailsAfter (lists_of start) ws e → FailsAfter [] ws e
fails_from start ws e groups fresh h = subst (λ b. FailsAfter b ws e) (none_before start groups fresh) h

-- ---- windows

pub all-windows : (seqs : List Seq) → list_any has_endless seqs ≡ false → (w : Word) → Contains (listed_by_all seqs) w ↔ InSome seqs (map Some w)
all-windows seqs bounded w = (
  (λ c. let all = among-from (lists_by_all seqs) w (news_from [] (lists_by_all seqs) w (among-of (listed_by_all seqs) w c)) in
      let s = from_flat_map (λ (seq : Seq). listed seq.items) seqs w all in
      let in_seqs : Contains seqs s.0 = s.1 in
      (in_seqs.0, s.0, in_seqs.1, in_seqs.2, (listed-windows s.0.items (none_of has_endless seqs s.0 bounded in_seqs) w).0 s.2)),
  (λ a. let in_seqs : Contains seqs a.1 = (a.0, a.2, a.3) in
      let one = (listed-windows a.1.items (none_of has_endless seqs a.1 bounded in_seqs) w).1 a.4 in
      let all = in_flat_map (λ (seq : Seq). listed seq.items) seqs a.1 w in_seqs one in
      among-from (listed_by_all seqs) w (among_news [] (lists_by_all seqs) w (among-of (lists_by_all seqs) w all))),
)
