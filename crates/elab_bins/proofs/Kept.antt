-- What is known of the bins of a point: there are no more than an item may have, and each has something left.
use Rattle.std.proofs.Common.{◌≡◌, ◌∙◌, ℕ, zero, suc, ◌+◌, ◌≤◌, ℤ, List, [], ◌∷◌, ◌++◌, length, map, filter, refl, ap, subst, Bool, true, false, arith, Option, Some, None, Ok}
use Rattle.std.specs.Prelude.{nat_le, int_lt, if◌then◌else◌}
use Rattle.std.specs.List.{AllByRecursion}
use Rattle.std.proofs.lemmas.List.{length-append, length_push}
use Rattle.cov_ground.specs.Limits.{most_bins, most_cells}
use Rattle.cov_base.specs.Sets.{written, set_of, ascending, put}
use Rattle.bin_spec.specs.Parts.{places, part, parts}
use Rattle.cov_tree.specs.declared.bins.BinsDecl.{BinsDecl}
use Rattle.cov_tree.specs.declared.bins.Step.{Step}
use Rattle.cov_tree.specs.declared.bins.Word.{Word}
use Rattle.cov_tree.specs.declared.bins.Word.TheVariants as words
use Rattle.cov_tree.specs.declared.bins.Right.{Right}
use Rattle.cov_tree.specs.declared.bins.Right.TheVariants as rights
use Rattle.cov_tree.specs.declared.bins.Size.{Size}
use Rattle.cov_tree.specs.declared.bins.Size.TheVariants as sizes
use Rattle.const_eval.specs.Terms.{Term}
use Rattle.const_eval.specs.Scopes.{Levels}
use Rattle.trans_seq.specs.declared.seq.Seq.{Seq}
use Rattle.trans_seq.specs.Cells.{cells_of_seqs}
use Rattle.design_data.specs.declared.infos.BinRule.TheVariants.{Default}
use Rattle.elab_base.specs.declared.fault.ElabKind.TheVariants as kind
use Rattle.elab_base.specs.Gives.{needs, each_at}
use Rattle.elab_base.specs.Steps.{guard_in}
use Rattle.elab_base.proofs.Keeps.{bind_ok, ok_is, each_keeps, needs_ok, all_append}
use Rattle.elab_values.specs.declared.domain.Domain.{Domain}
use Rattle.elab_values.specs.declared.elements.Listed.{Listed}
use Rattle.elab_values.specs.declared.made.Made.{Made}
use Rattle.elab_values.specs.declared.made.PointBins.{PointBins}
use Rattle.elab_values.specs.declared.made.Settings.{Settings}
use Rattle.design_data.specs.declared.infos.BinRule.{BinRule}
use Rattle.elab_bins.specs.declared.plans.Manner.{Manner}
use Rattle.elab_bins.specs.Wildcards.{manner_of, is_kept, patterns_in, pattern_rule, numbers_in}
use Rattle.elab_transitions.specs.Bins.{trans_bins_of, default_bin_of}
use Rattle.elab_transitions.specs.Removal.{is_trans_left}
use Rattle.elab_bins.specs.declared.walked.Entry.{Entry}
use Rattle.elab_bins.specs.declared.walked.Entry.TheVariants.{Bin, Rest}
use Rattle.elab_bins.specs.declared.walked.Walked.{Walked}
use Rattle.elab_bins.specs.declared.plans.Head.{Head}
use Rattle.elab_bins.specs.declared.plans.Plan.{Plan}
use Rattle.elab_bins.specs.declared.plans.Plan.TheVariants as plans
use Rattle.elab_bins.specs.declared.plans.Wanted.{Wanted}
use Rattle.elab_bins.specs.declared.plans.Wanted.TheVariants as wants
use Rattle.elab_bins.specs.Automatic.{automatic, declares_coverage, automatic_added, automatic_binned, with_automatic}
use Rattle.elab_values.specs.Words.{kind_of}
use Rattle.elab_bins.specs.Declarations.{default_kind, elements_in, entered, head_of, bins_added, values_binned, listed_binned, elements_binned, values_declared, one_added, rest_added, rule_added, default_sized, default_declared, declared_by, bins_declared, no_bins, bins_walked}
use Rattle.elab_bins.specs.Filter.{passes, keep_of, filter_in, kept_numbers}
use Rattle.elab_bins.specs.Left.{bin_left, has_some, some_of, left_of, bins_left, left_by, point_left, walked_left, bins_of_point}
use Rattle.elab_bins.specs.Transitions.{before, seqs_kept, trans_listed, trans_added, trans_declared, made_added, default_sequence_declared, in_array, transitions_left}
use Rattle.elab_bins.proofs.Rooms.{trans_room, default_room}
use Rattle.elab_bins.proofs.Sequences.{KnownMade, AreKnown, MadeHasSeq, walked_known, undeclared_known, filled_known, by_known, seqs_left}
use Rattle.elab_bins.specs.Made.{wanted_in, bins_wanted, plan_of, planned, plan_bins, named_bin, single, part_bins, parts_kept, bins_made}
use Rattle.elab_bins.specs.Rest.{unlisted, rest_bin, all_bins, entry_counted, entries_counted, all_filled}

-- ---- how many bins a declaration makes

pub length-map : {A B : Type 0} (f : A → B) (xs : List A) → length (map f xs) ≡ length xs
length-map f [] = refl
length-map f (x ∷ xs) = ap (λ (n : ℕ). suc n) (length-map f xs)

length-places : (n : ℕ) → length (places n) ≡ n
length-places zero = refl
length-places (suc n) = let h = length-places n in let e = length_push (places n) n in omega (arith, h, e)

length-parts : (numbers : List ℤ) (n : ℕ) → length (parts numbers n) ≡ n
unfolding parts
length-parts numbers n = length-map (part numbers n) (places n) ∙ length-places n

length-part_bins : (head : Head) (j : ℕ) (sets : List (List (ℤ × ℤ))) → length (part_bins head j sets) ≡ length sets
length-part_bins head j [] = refl
length-part_bins head j (set ∷ sets) = ap (λ (n : ℕ). suc n) (length-part_bins head (j + 1) sets)

pub length-parts_kept : (distribute : Bool) (keep : Option Term) (n : ℕ) (numbers kept : List ℤ) → length (parts_kept distribute keep n numbers kept) ≡ n
length-parts_kept distribute None n numbers kept = length-parts kept n
length-parts_kept true (Some term) n numbers kept = length-map (filter (passes term)) (parts numbers n) ∙ length-parts numbers n
length-parts_kept false (Some term) n numbers kept = length-parts kept n

length-made : (distribute : Bool) (keep : Option Term) (plan : Plan) (head : Head) (numbers kept : List ℤ) → length (bins_made distribute keep plan head numbers kept) ≡ plan_bins plan
unfolding bins_made
length-made distribute keep plans.One head numbers kept = refl
length-made distribute keep (plans.Each distinct) head numbers kept = length-map (single head) distinct
length-made distribute keep (plans.Spread n) head numbers kept =
    let sets = parts_kept distribute keep n numbers kept in
    length-part_bins head 0 (map set_of sets) ∙ (length-map set_of sets ∙ length-parts_kept distribute keep n numbers kept)

plan_is : (wanted : Wanted) (kept : List ℤ) → plan_bins (plan_of wanted kept) ≡ bins_wanted wanted kept
plan_is wants.One kept = refl
plan_is wants.Each kept = refl
plan_is (wants.Spread n) kept = refl

-- a plan has room in its item
plan_fits : (have : ℕ) (wanted : Wanted) (kept : List ℤ) (at : ℕ) (plan : Plan) → planned have wanted kept at ≡ Ok plan → have + plan_bins plan ≤ most_bins
unfolding planned
plan_fits have wanted kept at plan e =
    let n = bind_ok (needs (nat_le (have + bins_wanted wanted kept) most_bins) kind.TooManyBins at) _ plan e in
    let fits = needs_ok (nat_le (have + bins_wanted wanted kept) most_bins) kind.TooManyBins at n.0 n.1 in
    let same = plan_is wanted kept in
    let here : have + plan_bins (plan_of wanted kept) ≤ most_bins = grind (arith, fits, same) in
    subst (λ (p : Plan). have + plan_bins p ≤ most_bins) (ok_is (plan_of wanted kept) plan n.2) here

-- ---- the declarations

-- the bins among entries, without those of arrays of `default`
abbrev bins_among : List Entry → ℕ
bins_among [] = 0
bins_among (Bin made ∷ es) = bins_among es + 1
bins_among (Rest head ∷ es) = bins_among es

among-append : (xs ys : List Entry) → bins_among (xs ++ ys) ≡ bins_among xs + bins_among ys
among-append [] ys = omega arith
among-append (Bin made ∷ xs) ys = let h = among-append xs ys in omega (arith, h)
among-append (Rest head ∷ xs) ys = among-append xs ys

among-bins : (bins : List Made) → bins_among (map Bin bins) ≡ length bins
among-bins [] = refl
among-bins (made ∷ bins) = let h = among-bins bins in omega (arith, h)

pub record AreCounted (w : Walked) : Type 0 where
  pub few : w.count ≤ most_bins
  pub is : w.count ≡ bins_among w.entries

added_counted : (head : Head) (count : ℕ) (bins : List Made) (kept : List ℤ) (w : Walked) → length bins ≡ count → w.count + count ≤ most_bins → AreCounted w → AreCounted (bins_added head count bins kept w)
unfolding bins_added
added_counted head count bins kept w many room h =
    let was = h.is in
    let both = among-append w.entries (map Bin bins) in
    let these = among-bins bins in
    record { few = room; is = omega (arith, was, both, these, many) }

values_counted : (domain : Domain) (distribute : Bool) (keep : Option Term) (wanted : Wanted) (elements : List Listed) (head : Head) (w t : Walked) → values_binned domain distribute keep wanted elements head w ≡ Ok t → AreCounted w → AreCounted t
unfolding values_binned
values_counted domain distribute keep wanted elements head w t e h =
    let n = bind_ok (numbers_in domain keep elements head.at) _ t e in
    let k = bind_ok (kept_numbers keep n.0 head.at) _ t n.2 in
    let p = bind_ok (planned w.count wanted k.0 head.at) _ t k.2 in
    let many = length-made distribute keep p.0 head n.0 k.0 in
    subst AreCounted (ok_is _ t p.2) (added_counted head (plan_bins p.0) (bins_made distribute keep p.0 head n.0 k.0) k.0 w many (plan_fits w.count wanted k.0 head.at p.0 p.1) h)

made_counted : (name : List ℕ) (made : Made) (w : Walked) → w.count + 1 ≤ most_bins → AreCounted w → AreCounted (made_added name made w)
made_counted name made w room h =
    let was = h.is in
    let both = among-append w.entries (Bin made ∷ []) in
    record { few = room; is = omega (arith, was, both) }

one_counted : (head : Head) (rule : BinRule) (w t : Walked) → rule_added head rule w ≡ Ok t → AreCounted w → AreCounted t
unfolding rule_added one_added
one_counted head rule w t e h =
    let n = bind_ok (needs (nat_le (w.count + 1) most_bins) kind.TooManyBins head.at) _ t e in
    let fits = needs_ok (nat_le (w.count + 1) most_bins) kind.TooManyBins head.at n.0 n.1 in
    subst AreCounted (ok_is _ t n.2) (made_counted head.name (named_bin head head.name rule) w (grind (arith, fits)) h)

listed_counted : (domain : Domain) (manner : Manner) (keep : Option Term) (wanted : Wanted) (elements : List Listed) (head : Head) (w t : Walked) → listed_binned domain manner keep wanted elements head w ≡ Ok t → AreCounted w → AreCounted t
unfolding listed_binned
listed_counted domain manner keep wanted elements head w t e h = by (is_kept manner.patterns head.kind keep wanted elements) e
  where
    by : (b : Bool) → (if b then rule_added head (pattern_rule domain (patterns_in elements)) w else values_binned domain manner.distribute keep wanted elements head w) ≡ Ok t → AreCounted t
    by true e = one_counted head (pattern_rule domain (patterns_in elements)) w t e h
    by false e = values_counted domain manner.distribute keep wanted elements head w t e h

declared_values : (levels : Levels) (domain : Domain) (manner : Manner) (b : BinsDecl) (w t : Walked) → values_declared levels domain manner b w ≡ Ok t → AreCounted w → AreCounted t
unfolding values_declared elements_binned
declared_values levels domain manner b w t e h =
    let s = bind_ok (elements_in levels domain b.wildcard b.right) _ t e in
    let k = bind_ok (filter_in levels domain.typ (keep_of b.right)) _ t s.2 in
    let a = bind_ok (wanted_in levels b.size b.at) _ t k.2 in
    let g = bind_ok (guard_in levels b.guard) _ t a.2 in
    listed_counted domain manner k.0 a.0 s.0 (head_of b (kind_of b.word) g.0 w) w t g.2 h

rest_counted : (head : Head) (w : Walked) → AreCounted w → AreCounted (rest_added head w)
unfolding rest_added
rest_counted head w h =
    let was = h.is in
    let both = among-append w.entries (Rest head ∷ []) in
    record { few = h.few; is = omega (arith, was, both) }

sized_counted : (size : Size) (head : Head) (w t : Walked) → default_sized size head w ≡ Ok t → AreCounted w → AreCounted t
sized_counted sizes.Open head w t e h = subst AreCounted (ok_is (rest_added head w) t e) (rest_counted head w h)
sized_counted sizes.Scalar head w t e h = one_counted head Default w t e h
sized_counted (sizes.Fixed bins) head w t e h = one_counted head Default w t e h

declared_default : (levels : Levels) (b : BinsDecl) (w t : Walked) → default_declared levels b w ≡ Ok t → AreCounted w → AreCounted t
unfolding default_declared
declared_default levels b w t e h =
    let g = bind_ok (guard_in levels b.guard) _ t e in
    sized_counted b.size (head_of b (default_kind b.word) g.0 w) w t g.2 h

-- sequences are no bins
seqs_counted : (word : Word) (seqs : List Seq) (w : Walked) → AreCounted w → AreCounted (seqs_kept word seqs w)
seqs_counted words.Bins seqs w h = h
seqs_counted words.Illegal seqs w h = record { few = h.few; is = h.is }
seqs_counted words.Ignore seqs w h = record { few = h.few; is = h.is }

declared_trans : (levels : Levels) (domain : Domain) (b : BinsDecl) (sequences : List (List Step)) (w t : Walked) → trans_declared levels domain b sequences w ≡ Ok t → AreCounted w → AreCounted t
unfolding trans_declared trans_added
declared_trans levels domain b sequences w t e h =
    let m = bind_ok (trans_bins_of levels domain b sequences (before w)) _ t e in
    let room = trans_room levels domain b sequences (before w) m.0 m.1 in
    let was = h.is in
    let both = among-append w.entries (map Bin m.0.bins) in
    let these = among-bins m.0.bins in
    let listed : AreCounted (trans_listed b.name m.0 w) = record { few = room; is = omega (arith, was, both, these) } in
    subst AreCounted (ok_is _ t m.2) (seqs_counted b.word m.0.removed (trans_listed b.name m.0 w) listed)

declared_default_sequence : (levels : Levels) (b : BinsDecl) (w t : Walked) → default_sequence_declared levels b w ≡ Ok t → AreCounted w → AreCounted t
unfolding default_sequence_declared
declared_default_sequence levels b w t e h =
    let m = bind_ok (default_bin_of levels b (before w)) _ t e in
    subst AreCounted (ok_is _ t m.2) (made_counted b.name m.0 w (default_room levels b (before w) m.0 m.1) h)

right_counted : (levels : Levels) (domain : Domain) (manner : Manner) (b : BinsDecl) (right : Right) (w t : Walked) → declared_by levels domain manner b w right ≡ Ok t → AreCounted w → AreCounted t
right_counted levels domain manner b (rights.Ranges elems keep) w t e h = declared_values levels domain manner b w t e h
right_counted levels domain manner b (rights.Whole name keep) w t e h = declared_values levels domain manner b w t e h
right_counted levels domain manner b (rights.Trans seqs) w t e h = declared_trans levels domain b seqs w t e h
right_counted levels domain manner b rights.Default w t e h = declared_default levels b w t e h
right_counted levels domain manner b rights.DefaultSequence w t e h = declared_default_sequence levels b w t e h

declared_counted : (levels : Levels) (domain : Domain) (name : List ℕ) (manner : Manner) (b : BinsDecl) (w t : Walked) → bins_declared levels domain name manner b w ≡ Ok t → AreCounted w → AreCounted t
unfolding bins_declared
declared_counted levels domain name manner b w t e h =
    let a = bind_ok (entered name b w) _ t e in
    right_counted levels domain manner b b.right w t a.2 h

begins_counted : AreCounted no_bins
begins_counted = record { few = omega arith; is = refl }

walked_counted : (levels : Levels) (domain : Domain) (name : List ℕ) (manner : Manner) (bs : List BinsDecl) (w : Walked) → bins_walked levels domain name manner bs ≡ Ok w → AreCounted w
unfolding bins_walked
walked_counted levels domain name manner bs w e =
    each_keeps (λ k. bins_declared levels domain name manner) AreCounted (λ k b s t e h. declared_counted levels domain name manner b s t e h) 0 bs no_bins w e begins_counted

-- ---- automatic bins

automatic_counted : (domain : Domain) (settings : Settings) (at : ℕ) (w t : Walked) → automatic_binned domain settings at w ≡ Ok t → AreCounted w → AreCounted t
unfolding automatic_binned automatic_added
automatic_counted domain settings at w t e h =
    let autos = automatic domain settings at in
    let n = bind_ok (needs (nat_le (w.count + length autos) most_bins) kind.TooManyBins at) _ t e in
    let fits = needs_ok (nat_le (w.count + length autos) most_bins) kind.TooManyBins at n.0 n.1 in
    let was = h.is in
    let both = among-append w.entries (map Bin autos) in
    let these = among-bins autos in
    subst AreCounted (ok_is _ t n.2) (record { few = grind (arith, fits); is = omega (arith, was, both, these) })

undeclared_counted : (domain : Domain) (settings : Settings) (bs : List BinsDecl) (at : ℕ) (w t : Walked) → with_automatic domain settings bs at w ≡ Ok t → AreCounted w → AreCounted t
unfolding with_automatic
undeclared_counted domain settings bs at w t e h = by (declares_coverage bs) refl e
  where
    by : (b : Bool) → declares_coverage bs ≡ b → (if b then Ok w else automatic_binned domain settings at w) ≡ Ok t → AreCounted t
    by true is e = subst AreCounted (ok_is w t e) h
    by false is e = automatic_counted domain settings at w t e h

-- ---- arrays of `default`

length-put : (v : ℤ) (xs : List ℤ) → length (put v xs) ≤ length xs + 1
length-put v [] = omega arith
length-put v (x ∷ xs) = by (int_lt v x) (int_lt x v) (length-put v xs)
  where
    by : (a b : Bool) → length (put v xs) ≤ length xs + 1 → length (if a then v ∷ x ∷ xs else (if b then x ∷ put v xs else x ∷ xs)) ≤ suc (length xs) + 1
    by true b h = omega arith
    by false true h = omega (arith, h)
    by false false h = omega arith

length-ascending : (xs : List ℤ) → length (ascending xs) ≤ length xs
length-ascending [] = omega arith
length-ascending (x ∷ xs) = let h = length-ascending xs in let p = length-put x (ascending xs) in omega (arith, h, p)

pub record AreFilled (count : ℕ) (among : ℕ) (bins : List Made) (t : ℕ) : Type 0 where
  pub few : t ≤ most_bins
  pub all : count + length bins ≤ t + among

entries_filled : (rest : List (ℤ × ℤ)) (k : ℕ) (es : List Entry) (count t : ℕ) → each_at (λ i. entry_counted (length (written rest))) k es count ≡ Ok t → count ≤ most_bins → AreFilled count (bins_among es) (all_bins rest es) t
unfolding each_at all_bins entry_counted
entries_filled rest k [] count t e le = let is : count ≡ t = ok_is count t e in record { few = omega (arith, is, le); all = omega (arith, is) }
entries_filled rest k (Bin made ∷ es) count t e le =
    let h = entries_filled rest (k + 1) es count t e le in
    let all = h.all in
    record { few = h.few; all = omega (arith, all) }
entries_filled rest k (Rest head ∷ es) count t e le =
    let more = length (written rest) in
    let b = bind_ok (entry_counted more (Rest head) count) (each_at (λ i. entry_counted more) (k + 1) es) t e in
    let n = bind_ok (needs (nat_le (count + more) most_bins) kind.TooManyBins head.at) _ b.0 b.1 in
    let fits : count + more ≤ most_bins = grind (arith, needs_ok (nat_le (count + more) most_bins) kind.TooManyBins head.at n.0 n.1) in
    let next : count + more ≡ b.0 = ok_is (count + more) b.0 n.2 in
    let h = entries_filled rest (k + 1) es b.0 t b.2 (omega (arith, fits, next)) in
    let all = h.all in
    let these = length-map (rest_bin head) (ascending (written rest)) in
    let few = length-ascending (written rest) in
    let both = length-append (map (rest_bin head) (ascending (written rest))) (all_bins rest es) in
    record { few = h.few; all = omega (arith, all, these, few, both, next) }

filled_few : (domain : Domain) (w : Walked) (bins : List Made) → all_filled domain w.listed w.entries w.count ≡ Ok bins → AreCounted w → length bins ≤ most_bins
unfolding all_filled entries_counted
filled_few domain w bins e h =
    let rest = unlisted domain w.listed in
    let t = bind_ok (entries_counted (length (written rest)) w.entries w.count) _ bins e in
    let f = entries_filled rest 0 w.entries w.count t.0 t.1 h.few in
    let few = f.few in
    let all = f.all in
    let was = h.is in
    subst (λ (bins : List Made). length bins ≤ most_bins) (ok_is (all_bins rest w.entries) bins t.2) (omega (arith, few, all, was))

-- ---- what is left

HasSome : Made → Type 0
HasSome made = has_some made.bin.rule ≡ true

some_few : (made : Made) (b : Bool) → has_some made.bin.rule ≡ b → length (some_of made) ≤ 1
some_few made true e = rw e (omega arith)
some_few made false e = rw e (omega arith)

some_have : (made : Made) (b : Bool) → has_some made.bin.rule ≡ b → AllByRecursion HasSome (some_of made)
unfolding HasSome
some_have made true e = rw e (e, tt)
some_have made false e = rw e tt

left_few : (all illegal : List (ℤ × ℤ)) (bins : List Made) → length (bins_left all illegal bins) ≤ length bins
unfolding bins_left
left_few all illegal [] = omega arith
left_few all illegal (made ∷ bins) =
    let one = some_few (record made { bin = bin_left all illegal made.bin }) (has_some (bin_left all illegal made.bin).rule) refl in
    let count = length-append (left_of all illegal made) (bins_left all illegal bins) in
    let rest = left_few all illegal bins in
    omega (arith, one, count, rest)

left_have : (all illegal : List (ℤ × ℤ)) (bins : List Made) → AllByRecursion HasSome (bins_left all illegal bins)
unfolding bins_left
left_have all illegal [] = tt
left_have all illegal (made ∷ bins) = all_append HasSome (left_of all illegal made) (bins_left all illegal bins) (some_have (record made { bin = bin_left all illegal made.bin }) (has_some (bin_left all illegal made.bin).rule) refl) (left_have all illegal bins)

by_left_few : (ignored illegal : List (ℤ × ℤ)) (bins : List Made) → length (left_by ignored illegal bins) ≤ length bins
unfolding left_by
by_left_few ignored illegal bins = left_few (set_of (written (ignored ++ illegal))) (set_of (written illegal)) bins

by_left_have : (ignored illegal : List (ℤ × ℤ)) (bins : List Made) → AllByRecursion HasSome (left_by ignored illegal bins)
unfolding left_by
by_left_have ignored illegal bins = left_have (set_of (written (ignored ++ illegal))) (set_of (written illegal)) bins

one_few : (bs : List BinsDecl) (ignored illegal : List Seq) (made : Made) (bins : List Made) (b : Bool) → is_trans_left ignored illegal (in_array bs made.declared) made.bin ≡ b → length (transitions_left bs ignored illegal bins) ≤ length bins → length (transitions_left bs ignored illegal (made ∷ bins)) ≤ length (made ∷ bins)
unfolding transitions_left
one_few bs ignored illegal made bins true e h = rw e (omega (arith, h))
one_few bs ignored illegal made bins false e h = rw e (omega (arith, h))

trans_few : (bs : List BinsDecl) (ignored illegal : List Seq) (bins : List Made) → length (transitions_left bs ignored illegal bins) ≤ length bins
unfolding transitions_left
trans_few bs ignored illegal [] = omega arith
trans_few bs ignored illegal (made ∷ bins) = one_few bs ignored illegal made bins (is_trans_left ignored illegal (in_array bs made.declared) made.bin) refl (trans_few bs ignored illegal bins)

one_has : (bs : List BinsDecl) (ignored illegal : List Seq) (made : Made) (bins : List Made) (b : Bool) → is_trans_left ignored illegal (in_array bs made.declared) made.bin ≡ b → HasSome made → AllByRecursion HasSome (transitions_left bs ignored illegal bins) → AllByRecursion HasSome (transitions_left bs ignored illegal (made ∷ bins))
unfolding transitions_left
one_has bs ignored illegal made bins true e some h = rw e (some, h)
one_has bs ignored illegal made bins false e some h = rw e h

trans_have : (bs : List BinsDecl) (ignored illegal : List Seq) (bins : List Made) → AllByRecursion HasSome bins → AllByRecursion HasSome (transitions_left bs ignored illegal bins)
unfolding transitions_left
trans_have bs ignored illegal [] h = tt
trans_have bs ignored illegal (made ∷ bins) h = one_has bs ignored illegal made bins (is_trans_left ignored illegal (in_array bs made.declared) made.bin) refl h.0 (trans_have bs ignored illegal bins h.1)

-- the bins of a point: no more than an item may have, each of a rule of points, with some number or some sequence left
pub record AreLeft (found : PointBins) : Type 0 where
  pub few : length found.bins ≤ most_bins
  pub have : AllByRecursion (λ made. has_some made.bin.rule ≡ true) found.bins
  pub seqs : AllByRecursion (MadeHasSeq found.ignored found.illegal) found.bins

-- the sequences that take windows away have 120 cells at most together
abbrev pub IsRemoving : PointBins → Type 0
IsRemoving found = cells_of_seqs (found.ignored ++ found.illegal) ≤ most_cells

point_is_left : (bs : List BinsDecl) (w : Walked) (bins : List Made) → length bins ≤ most_bins → AllByRecursion (KnownMade bs) bins → AreLeft (point_left bs w bins)
unfolding HasSome
point_is_left bs w bins few known =
    let left = left_by w.ignored w.illegal bins in
    let less = by_left_few w.ignored w.illegal bins in
    let least = trans_few bs w.ignored_seqs w.illegal_seqs left in
    record {
      few = omega (arith, few, less, least);
      have = trans_have bs w.ignored_seqs w.illegal_seqs left (by_left_have w.ignored w.illegal bins);
      seqs = seqs_left bs w.ignored_seqs w.illegal_seqs left (by_known bs w.ignored w.illegal bins known);
    }

-- what a point's walk leads to
record IsWalked (levels : Levels) (domain : Domain) (name : List ℕ) (settings : Settings) (bs : List BinsDecl) (found : PointBins) : Type 0 where
  pub w : Walked
  pub bins : List Made
  pub counted : AreCounted w
  pub known : AreKnown bs w
  pub filled : all_filled domain w.listed w.entries w.count ≡ Ok bins
  pub is : point_left bs w bins ≡ found

point_walked : (levels : Levels) (domain : Domain) (name : List ℕ) (settings : Settings) (bs : List BinsDecl) (at : ℕ) (found : PointBins) → bins_of_point levels domain name settings bs at ≡ Ok found → IsWalked levels domain name settings bs found
unfolding bins_of_point walked_left
point_walked levels domain name settings bs at found e =
    let d = bind_ok (bins_walked levels domain name (manner_of domain settings bs) bs) _ found e in
    let w = bind_ok (with_automatic domain settings bs at d.0) _ found d.2 in
    let all = bind_ok (all_filled domain w.0.listed w.0.entries w.0.count) _ found w.2 in
    record {
      w = w.0;
      bins = all.0;
      counted = undeclared_counted domain settings bs at d.0 w.0 w.1 (walked_counted levels domain name (manner_of domain settings bs) bs d.0 d.1);
      known = undeclared_known bs domain settings at d.0 w.0 w.1 (walked_known levels domain name (manner_of domain settings bs) bs d.0 d.1);
      filled = all.1;
      is = ok_is (point_left bs w.0 all.0) found all.2;
    }

filled_is : (domain : Domain) (listed : List (ℤ × ℤ)) (entries : List Entry) (count : ℕ) (bins : List Made) → all_filled domain listed entries count ≡ Ok bins → all_bins (unlisted domain listed) entries ≡ bins
unfolding all_filled
filled_is domain listed entries count bins e =
    let c = bind_ok (entries_counted (length (written (unlisted domain listed))) entries count) _ bins e in
    ok_is (all_bins (unlisted domain listed) entries) bins c.2

pub few_left : (levels : Levels) (domain : Domain) (name : List ℕ) (settings : Settings) (bs : List BinsDecl) (at : ℕ) (found : PointBins) → bins_of_point levels domain name settings bs at ≡ Ok found → AreLeft found
few_left levels domain name settings bs at found e =
    let p = point_walked levels domain name settings bs at found e in
    let few = filled_few domain p.w p.bins p.filled p.counted in
    let known = subst (AllByRecursion (KnownMade bs)) (filled_is domain p.w.listed p.w.entries p.w.count p.bins p.filled) (filled_known bs (unlisted domain p.w.listed) p.w.entries p.known.entries) in
    subst AreLeft p.is (point_is_left bs p.w p.bins few known)

pub few_removing : (levels : Levels) (domain : Domain) (name : List ℕ) (settings : Settings) (bs : List BinsDecl) (at : ℕ) (found : PointBins) → bins_of_point levels domain name settings bs at ≡ Ok found → IsRemoving found
few_removing levels domain name settings bs at found e =
    let p = point_walked levels domain name settings bs at found e in
    let sum = p.known.removing in
    let short = p.known.short in
    subst IsRemoving p.is (omega (arith, sum, short))
