-- What a point removes is what its ignore and illegal bins list, so that what is removed stays listed.
use Rattle.std.proofs.Common.{◌≡◌, ◌∙◌, ℕ, ◌+◌, ◌<◌, ◌≤◌, ℤ, pos, List, [], ◌∷◌, ◌++◌, length, map, filter, refl, sym, ap, subst, Bool, true, false, cond, arith, Option, Some, None, Ok}
use Rattle.std.specs.Prelude.{nat_le, int_le, negsuc, unsigned_abs, if◌then◌else◌, ◌&&◌, ◌||◌}
use Rattle.std.specs.Ordering.{int_eq}
use Rattle.std.specs.List.{flat_map, list_any}
use Rattle.cov_ground.specs.Limits.{most_bins, most_values}
use Rattle.cov_base.specs.Sets.{written, set_of, without, is_in, is_within, ascending}
use Rattle.cov_base.proofs.Members.{is_in-written, is_in-without, is_in-ascending, is_in-append, is_in-filter}
use Rattle.cov_base.proofs.Runs.{set_of_numbers}
use Rattle.bin_spec.specs.Parts.{parts}
use Rattle.value_bins.proofs.Written.{written-append}
use Rattle.bin_spec.proofs.Spreads.{parts_together}
use Rattle.cov_tree.specs.declared.bins.BinsDecl.{BinsDecl}
use Rattle.cov_tree.specs.declared.bins.Step.{Step}
use Rattle.cov_tree.specs.declared.bins.Word.{Word}
use Rattle.cov_tree.specs.declared.bins.Word.TheVariants as words
use Rattle.cov_tree.specs.declared.bins.Right.{Right}
use Rattle.cov_tree.specs.declared.bins.Right.TheVariants as rights
use Rattle.cov_tree.specs.declared.bins.Size.{Size}
use Rattle.cov_tree.specs.declared.bins.Size.TheVariants as sizes
use Rattle.const_eval.specs.Terms.{Term}
use Rattle.const_eval.specs.Scopes.{Levels}
use Rattle.trans_seq.specs.declared.seq.Seq.{Seq}
use Rattle.elab_transitions.specs.Bins.{trans_bins_of, default_bin_of}
use Rattle.elab_transitions.specs.Removal.{removing_of, is_rule_left, is_trans_left}
use Rattle.std.specs.List.{AllByRecursion}
use Rattle.std.proofs.lemmas.Bool.{true≢false}
use Rattle.design_data.specs.declared.infos.BinKind.{BinKind}
use Rattle.design_data.specs.declared.infos.BinKind.TheVariants.{CvgBin, IllegalBin, IgnoreBin, DefaultBin}
use Rattle.design_data.specs.declared.infos.BinRule.{BinRule}
use Rattle.design_data.specs.declared.infos.BinRule.TheVariants.{Values, Patterns, Trans, Default, DefaultValues, DefaultSequence, Picked, Product}
use Rattle.design_data.specs.Laws.{lists, KeepsListed}
use Rattle.elab_base.specs.declared.fault.ElabKind.TheVariants as kind
use Rattle.elab_base.specs.Gives.{needs}
use Rattle.elab_base.specs.Steps.{guard_in, number_in}
use Rattle.elab_base.proofs.Keeps.{bind_ok, ok_is, each_keeps, needs_ok}
use Rattle.elab_values.specs.declared.domain.Domain.{Domain}
use Rattle.elab_values.specs.declared.elements.Listed.{Listed}
use Rattle.elab_values.specs.declared.made.Made.{Made}
use Rattle.elab_values.specs.declared.made.PointBins.{PointBins}
use Rattle.elab_values.specs.declared.made.Settings.{Settings}
use Rattle.elab_bins.specs.declared.plans.Manner.{Manner}
use Rattle.elab_bins.specs.Wildcards.{manner_of, is_kept, patterns_in, pattern_rule, numbers_in}
use Rattle.elab_bins.specs.declared.walked.Entry.{Entry}
use Rattle.elab_bins.specs.declared.walked.Entry.TheVariants.{Bin, Rest}
use Rattle.elab_bins.specs.declared.walked.Walked.{Walked}
use Rattle.elab_bins.specs.declared.plans.Head.{Head}
use Rattle.elab_bins.specs.declared.plans.Plan.{Plan}
use Rattle.elab_bins.specs.declared.plans.Wanted.{Wanted}
use Rattle.elab_bins.specs.declared.plans.Wanted.TheVariants as wants
use Rattle.elab_values.specs.Words.{kind_of}
use Rattle.elab_bins.specs.Declarations.{default_kind, is_ignore, is_illegal, with_set, entered, elements_in, head_of, bins_added, values_binned, listed_binned, elements_binned, values_declared, one_added, rest_added, rule_added, default_sized, default_declared, declared_by, bins_declared, no_bins, bins_walked}
use Rattle.elab_bins.specs.Filter.{passes, keep_of, filter_in, kept_numbers}
use Rattle.elab_bins.specs.Left.{set_left, rule_left, kind_left, bin_left, has_some, some_of, bins_left, left_by, point_left, walked_left, bins_of_point}
use Rattle.elab_bins.specs.Transitions.{before, seqs_kept, trans_listed, trans_added, trans_declared, default_sequence_declared, in_array, transitions_left}
use Rattle.elab_bins.proofs.Sequences.{IsTrans, trans_are, default_is}
use Rattle.elab_bins.specs.Made.{wanted_in, IsWanted, bins_wanted, plan_of, planned, plan_bins, named_bin, single, part_bins, parts_kept, bins_made}
use Rattle.elab_bins.specs.Rest.{rest_bin, all_bins, unlisted, entries_counted, all_filled}
use Rattle.elab_bins.specs.Automatic.{auto_head, auto_bin, constant_bin, automatic_by, automatic, declares_coverage, automatic_added, automatic_binned, with_automatic}
use Rattle.elab_bins.specs.Laws.{bins_declared_in, RemovalKeepsListed}
use Rattle.auto_bins.specs.Automatic.{automatic_ranges}
use Rattle.const_eval.specs.Typs.{Typ}
use Rattle.elab_values.specs.declared.domain.Constant.{Constant}
use Rattle.design_data.specs.declared.infos.BinInfo.{BinInfo}

-- ---- truth values

and_true : (a : Bool) → (a && true) ≡ a
and_true true = refl
and_true false = refl

or_false : (a : Bool) → (a || false) ≡ a
or_false true = refl
or_false false = refl

or_assoc : (a b c : Bool) → ((a || b) || c) ≡ (a || (b || c))
or_assoc true b c = refl
or_assoc false b c = refl

or_more : (a b c d : Bool) → a ≡ b → c ≡ d → (a || c) ≡ (b || d)
or_more a b c d e f = rw (e, f) refl

and_or : (k a b : Bool) → ((k && a) || (k && b)) ≡ (k && (a || b))
and_or true a b = refl
and_or false a b = refl

and_none : (k : Bool) → false ≡ (k && false)
and_none true = refl
and_none false = refl

or_true : (a b c : Bool) → (a || b) ≡ true → (a ≡ true → c ≡ true) → (b ≡ true → c ≡ true) → c ≡ true
or_true true b c e f g = f refl
or_true false b c e f g = g e

or_left : (a b : Bool) → a ≡ true → (a || b) ≡ true
or_left a b e = rw e refl

or_right : (a b : Bool) → b ≡ true → (a || b) ≡ true
or_right true b e = refl
or_right false b e = e

-- ---- what a list of bins lists

-- a rule lists a known number
abbrev pub rule_lists : ℤ → BinRule → Bool
rule_lists v rule = lists (Some v) rule

abbrev lists_in : List Made → ℤ → Bool
lists_in bins v = list_any (λ made. rule_lists v made.bin.rule) bins

abbrev pub listed_by : (BinKind → Bool) → List Made → ℤ → Bool
listed_by kinds bins v = list_any (λ made. kinds made.bin.kind && rule_lists v made.bin.rule) bins

pub record Tracks (ignored illegal : List (ℤ × ℤ)) (bins : List Made) : Type 0 where
  pub ignores : (v : ℤ) → is_in (written ignored) v ≡ listed_by is_ignore bins v
  pub forbids : (v : ℤ) → is_in (written illegal) v ≡ listed_by is_illegal bins v

-- ---- one bin

left_lists : (removed set : List (ℤ × ℤ)) (v : ℤ) → is_in (written removed) v ≡ false → is_in (written (set_left removed set)) v ≡ is_in (written set) v
left_lists removed set v e = set_of_numbers (without (written set) (written removed)) v ∙ (is_in-without (written set) (written removed) v ∙ rw e (and_true (is_in (written set) v)))

-- where a number isn't removed, what is left of a rule lists it as before
rule_left_lists : (removed : List (ℤ × ℤ)) (rule : BinRule) (v : ℤ) → is_in (written removed) v ≡ false → rule_lists v (rule_left removed rule) ≡ rule_lists v rule
unfolding rule_left
rule_left_lists removed (Values set) v e = left_lists removed set v e
rule_left_lists removed (Patterns patterns) v e = refl
rule_left_lists removed (Trans seqs) v e = refl
rule_left_lists removed Default v e = refl
rule_left_lists removed (DefaultValues set) v e = refl
rule_left_lists removed DefaultSequence v e = refl
rule_left_lists removed (Picked select) v e = refl
rule_left_lists removed (Product places) v e = refl

pub nothing_listed : (rule : BinRule) (v : ℤ) → has_some rule ≡ false → rule_lists v rule ≡ false
unfolding written
nothing_listed (Values []) v e = refl
nothing_listed (Values (r ∷ rs)) v e = absurd (grind (arith, e))
nothing_listed (Patterns patterns) v e = absurd cc
nothing_listed (Trans seqs) v e = refl
nothing_listed Default v e = refl
nothing_listed (DefaultValues set) v e = refl
nothing_listed DefaultSequence v e = refl
nothing_listed (Picked select) v e = refl
nothing_listed (Product places) v e = refl

some_step : (made : Made) (bins : List Made) (v : ℤ) (b : Bool) → has_some made.bin.rule ≡ b → lists_in (cond b (made ∷ []) [] ++ bins) v ≡ (rule_lists v made.bin.rule || lists_in bins v)
some_step made bins v true e = refl
some_step made bins v false e = rw (nothing_listed made.bin.rule v e) refl

some_listed : (made : Made) (bins : List Made) (v : ℤ) → lists_in (some_of made ++ bins) v ≡ (rule_lists v made.bin.rule || lists_in bins v)
some_listed made bins v = some_step made bins v (has_some made.bin.rule) refl

-- ---- all bins

kept_kind : (all illegal : List (ℤ × ℤ)) (kind : BinKind) (rule : BinRule) (v : ℤ) → is_in (written all) v ≡ false → is_in (written illegal) v ≡ false → rule_lists v (kind_left kind all illegal rule) ≡ rule_lists v rule
kept_kind all illegal CvgBin rule v a l = rule_left_lists all rule v a
kept_kind all illegal IgnoreBin rule v a l = rule_left_lists illegal rule v l
kept_kind all illegal IllegalBin rule v a l = refl
kept_kind all illegal DefaultBin rule v a l = refl

none_removed : (all illegal : List (ℤ × ℤ)) (bins : List Made) (v : ℤ) → is_in (written all) v ≡ false → is_in (written illegal) v ≡ false → lists_in (bins_left all illegal bins) v ≡ lists_in bins v
unfolding bins_left bin_left
none_removed all illegal [] v a l = refl
none_removed all illegal (made ∷ bins) v a l =
    some_listed (record made { bin = bin_left all illegal made.bin }) (bins_left all illegal bins) v ∙ or_more _ _ _ _ (kept_kind all illegal made.bin.kind made.bin.rule v a l) (none_removed all illegal bins v a l)

-- the kinds of bins that keep the number
Keeps : (kinds : BinKind → Bool) → (all illegal : List (ℤ × ℤ)) → ℤ → Type 0
Keeps kinds all illegal v = (kind : BinKind) (rule : BinRule) → (kinds kind && rule_lists v rule) ≡ true → rule_lists v (kind_left kind all illegal rule) ≡ true

stays : (kinds : BinKind → Bool) (all illegal : List (ℤ × ℤ)) (bins : List Made) (v : ℤ) → Keeps kinds all illegal v → listed_by kinds bins v ≡ true → lists_in (bins_left all illegal bins) v ≡ true
unfolding bins_left bin_left Keeps
stays kinds all illegal [] v keeps e = absurd (grind (arith, e))
stays kinds all illegal (made ∷ bins) v keeps e =
    let left : Made = record made { bin = bin_left all illegal made.bin } in
    some_listed left (bins_left all illegal bins) v ∙ or_true (kinds made.bin.kind && rule_lists v made.bin.rule) (listed_by kinds bins v) (rule_lists v left.bin.rule || lists_in (bins_left all illegal bins) v) e
    (λ h. or_left _ _ (keeps made.bin.kind made.bin.rule h))
    (λ h. or_right _ _ (stays kinds all illegal bins v keeps h))

was : (kinds : BinKind → Bool) (bins : List Made) (v : ℤ) → listed_by kinds bins v ≡ true → lists_in bins v ≡ true
was kinds [] v e = e
was kinds (made ∷ bins) v e = or_true (kinds made.bin.kind && rule_lists v made.bin.rule) (listed_by kinds bins v) (rule_lists v made.bin.rule || lists_in bins v) e
    (λ h. or_left _ _ (second (kinds made.bin.kind) (rule_lists v made.bin.rule) h))
    (λ h. or_right _ _ (was kinds bins v h))
  where
    second : (a b : Bool) → (a && b) ≡ true → b ≡ true
    second true b e = e
    second false b e = absurd (grind (arith, e))

illegal_keeps : (all illegal : List (ℤ × ℤ)) (v : ℤ) → Keeps is_illegal all illegal v
unfolding Keeps
illegal_keeps all illegal v CvgBin rule e = absurd (grind (arith, e))
illegal_keeps all illegal v IgnoreBin rule e = absurd (grind (arith, e))
illegal_keeps all illegal v IllegalBin rule e = e
illegal_keeps all illegal v DefaultBin rule e = absurd (grind (arith, e))

ignore_keeps : (all illegal : List (ℤ × ℤ)) (v : ℤ) → is_in (written illegal) v ≡ false → Keeps is_ignore all illegal v
unfolding Keeps
ignore_keeps all illegal v l CvgBin rule e = absurd (grind (arith, e))
ignore_keeps all illegal v l IgnoreBin rule e = rule_left_lists illegal rule v l ∙ e
ignore_keeps all illegal v l IllegalBin rule e = absurd (grind (arith, e))
ignore_keeps all illegal v l DefaultBin rule e = absurd (grind (arith, e))

pub written_more : (xs ys : List (ℤ × ℤ)) (v : ℤ) → is_in (written (xs ++ ys)) v ≡ (is_in (written xs) v || is_in (written ys) v)
written_more xs ys v = ap (λ (ns : List ℤ). is_in ns v) (written-append xs ys) ∙ is_in-append (written xs) (written ys) v

by_cases : (ignored illegal : List (ℤ × ℤ)) (bins : List Made) (v : ℤ) (g l : Bool) → Tracks ignored illegal bins → is_in (written ignored) v ≡ g → is_in (written illegal) v ≡ l
    → lists_in (left_by ignored illegal bins) v ≡ lists_in bins v
unfolding left_by
by_cases ignored illegal bins v g true t e f =
    let by = sym (t.forbids v) ∙ f in
    stays is_illegal (set_of (written (ignored ++ illegal))) (set_of (written illegal)) bins v (illegal_keeps _ _ v) by ∙ sym (was is_illegal bins v by)
by_cases ignored illegal bins v true false t e f =
    let by = sym (t.ignores v) ∙ e in
    let none : is_in (written (set_of (written illegal))) v ≡ false = set_of_numbers (written illegal) v ∙ f in
    stays is_ignore (set_of (written (ignored ++ illegal))) (set_of (written illegal)) bins v (ignore_keeps _ _ v none) by ∙ sym (was is_ignore bins v by)
by_cases ignored illegal bins v false false t e f =
    let none : is_in (written (set_of (written illegal))) v ≡ false = set_of_numbers (written illegal) v ∙ f in
    let all : is_in (written (set_of (written (ignored ++ illegal)))) v ≡ false = set_of_numbers (written (ignored ++ illegal)) v ∙ (written_more ignored illegal v ∙ rw (e, f) refl) in
    none_removed (set_of (written (ignored ++ illegal))) (set_of (written illegal)) bins v all none

listed_stays : (ignored illegal : List (ℤ × ℤ)) (bins : List Made) → Tracks ignored illegal bins → (v : ℤ) → lists_in (left_by ignored illegal bins) v ≡ lists_in bins v
listed_stays ignored illegal bins t v = by_cases ignored illegal bins v (is_in (written ignored) v) (is_in (written illegal) v) t refl refl

-- ---- the bins of a declaration list what it lists

one_lists : (x v : ℤ) → is_in (written (set_of (written ((x, x) ∷ [])))) v ≡ int_eq v x
one_lists x v = set_of_numbers (written ((x, x) ∷ [])) v ∙ (is_in-written ((x, x) ∷ []) v ∙ (or_false (is_within v (x, x)) ∙ within x v))
  where
    within : (x v : ℤ) → (int_le x v && int_le v x) ≡ int_eq v x
    within x v = grind arith

singles_list : (kinds : BinKind → Bool) (head : Head) (numbers : List ℤ) (v : ℤ) → listed_by kinds (map (single head) numbers) v ≡ (kinds head.kind && is_in numbers v)
singles_list kinds head [] v = and_none (kinds head.kind)
singles_list kinds head (x ∷ xs) v = rw (one_lists x v, singles_list kinds head xs v) (and_or (kinds head.kind) (int_eq v x) (is_in xs v))

parts_list : (kinds : BinKind → Bool) (head : Head) (j : ℕ) (lists : List (List ℤ)) (v : ℤ) → listed_by kinds (part_bins head j (map set_of lists)) v ≡ (kinds head.kind && is_in (flat_map (λ xs. xs) lists) v)
parts_list kinds head j [] v = and_none (kinds head.kind)
parts_list kinds head j (xs ∷ lists) v =
    rw (set_of_numbers xs v, parts_list kinds head (j + 1) lists v, is_in-append xs (flat_map (λ ys. ys) lists) v) (and_or (kinds head.kind) (is_in xs v) (is_in (flat_map (λ ys. ys) lists) v))

filters_flat : (p : ℤ → Bool) (lists : List (List ℤ)) (v : ℤ) → is_in (flat_map (λ xs. xs) (map (filter p) lists)) v ≡ is_in (filter p (flat_map (λ xs. xs) lists)) v
filters_flat p [] v = refl
filters_flat p (xs ∷ lists) v =
    is_in-append (filter p xs) (flat_map (λ ys. ys) (map (filter p) lists)) v
    ∙ (or_more _ _ _ _ (is_in-filter p xs v) (filters_flat p lists v ∙ is_in-filter p (flat_map (λ ys. ys) lists) v)
    ∙ (spread (is_in xs v) (is_in (flat_map (λ ys. ys) lists) v) (p v) ∙ (ap (λ (b : Bool). b && p v) (sym (is_in-append xs (flat_map (λ ys. ys) lists) v)) ∙ sym (is_in-filter p (xs ++ flat_map (λ ys. ys) lists) v))))
  where
    spread : (a b q : Bool) → ((a && q) || (b && q)) ≡ ((a || b) && q)
    spread true true true = refl
    spread true true false = refl
    spread true false true = refl
    spread true false false = refl
    spread false b q = refl

kept_is : (term : Term) (numbers kept : List ℤ) (at : ℕ) → kept_numbers (Some term) numbers at ≡ Ok kept → filter (passes term) numbers ≡ kept
unfolding kept_numbers
kept_is term numbers kept at e = let n = bind_ok (needs (nat_le (length numbers) most_values) kind.TooManyValues at) _ kept e in ok_is (filter (passes term) numbers) kept n.2

parts_have : (distribute : Bool) (keep : Option Term) (n : ℕ) (numbers kept : List ℤ) (at : ℕ) (v : ℤ) → 0 < n → kept_numbers keep numbers at ≡ Ok kept → is_in (flat_map (λ xs. xs) (parts_kept distribute keep n numbers kept)) v ≡ is_in kept v
parts_have distribute None n numbers kept at v some e = ap (λ (xs : List ℤ). is_in xs v) (parts_together kept n some)
parts_have false (Some term) n numbers kept at v some e = ap (λ (xs : List ℤ). is_in xs v) (parts_together kept n some)
parts_have true (Some term) n numbers kept at v some e = filters_flat (passes term) (parts numbers n) v ∙ (ap (λ (xs : List ℤ). is_in (filter (passes term) xs) v) (parts_together numbers n some) ∙ ap (λ (xs : List ℤ). is_in xs v) (kept_is term numbers kept at e))

made_list : (kinds : BinKind → Bool) (distribute : Bool) (keep : Option Term) (wanted : Wanted) (head : Head) (numbers kept : List ℤ) (at : ℕ) (v : ℤ) → IsWanted wanted → kept_numbers keep numbers at ≡ Ok kept
    → listed_by kinds (bins_made distribute keep (plan_of wanted kept) head numbers kept) v ≡ (kinds head.kind && is_in kept v)
unfolding bins_made
made_list kinds distribute keep wants.One head numbers kept at v some e = rw (set_of_numbers kept v) (or_false (kinds head.kind && is_in kept v))
made_list kinds distribute keep wants.Each head numbers kept at v some e = singles_list kinds head (ascending kept) v ∙ ap (λ (r : Bool). kinds head.kind && r) (is_in-ascending kept v)
made_list kinds distribute keep (wants.Spread n) head numbers kept at v some e =
    parts_list kinds head 0 (parts_kept distribute keep n numbers kept) v ∙ ap (λ (r : Bool). kinds head.kind && r) (parts_have distribute keep n numbers kept at v some e)

-- ---- the walk

abbrev entry_lists : (BinKind → Bool) → ℤ → Entry → Bool
entry_lists kinds v (Bin made) = kinds made.bin.kind && rule_lists v made.bin.rule
entry_lists kinds v (Rest head) = false

abbrev among : (BinKind → Bool) → List Entry → ℤ → Bool
among kinds entries v = list_any (entry_lists kinds v) entries

among-append : (kinds : BinKind → Bool) (xs ys : List Entry) (v : ℤ) → among kinds (xs ++ ys) v ≡ (among kinds xs v || among kinds ys v)
among-append kinds [] ys v = refl
among-append kinds (x ∷ xs) ys v = ap (λ (r : Bool). entry_lists kinds v x || r) (among-append kinds xs ys v) ∙ sym (or_assoc (entry_lists kinds v x) (among kinds xs v) (among kinds ys v))

among-bins : (kinds : BinKind → Bool) (bins : List Made) (v : ℤ) → among kinds (map Bin bins) v ≡ listed_by kinds bins v
among-bins kinds [] v = refl
among-bins kinds (made ∷ bins) v = ap (λ (r : Bool). (kinds made.bin.kind && rule_lists v made.bin.rule) || r) (among-bins kinds bins v)

pub record Tracked (w : Walked) : Type 0 where
  pub ignores : (v : ℤ) → is_in (written w.ignored) v ≡ among is_ignore w.entries v
  pub forbids : (v : ℤ) → is_in (written w.illegal) v ≡ among is_illegal w.entries v

set_more : (b : Bool) (old : List (ℤ × ℤ)) (kept : List ℤ) (v : ℤ) → is_in (written (with_set b old kept)) v ≡ (is_in (written old) v || (b && is_in kept v))
set_more true old kept v = written_more old (set_of kept) v ∙ ap (λ (r : Bool). is_in (written old) v || r) (set_of_numbers kept v)
set_more false old kept v = sym (or_false (is_in (written old) v))

side : (kinds : BinKind → Bool) (kind : BinKind) (old : List (ℤ × ℤ)) (kept : List ℤ) (entries : List Entry) (bins : List Made) (v : ℤ) → is_in (written old) v ≡ among kinds entries v → listed_by kinds bins v ≡ (kinds kind && is_in kept v)
    → is_in (written (with_set (kinds kind) old kept)) v ≡ among kinds (entries ++ map Bin bins) v
side kinds kind old kept entries bins v e f =
    set_more (kinds kind) old kept v ∙ (or_more _ _ _ _ e (sym f ∙ sym (among-bins kinds bins v)) ∙ sym (among-append kinds entries (map Bin bins) v))

added_tracks : (head : Head) (count : ℕ) (bins : List Made) (kept : List ℤ) (w : Walked) → ((kinds : BinKind → Bool) (v : ℤ) → listed_by kinds bins v ≡ (kinds head.kind && is_in kept v)) → Tracked w → Tracked (bins_added head count bins kept w)
unfolding bins_added
added_tracks head count bins kept w list h = record {
  ignores = λ v. side is_ignore head.kind w.ignored kept w.entries bins v (h.ignores v) (list is_ignore v);
  forbids = λ v. side is_illegal head.kind w.illegal kept w.entries bins v (h.forbids v) (list is_illegal v);
}

values_track : (domain : Domain) (distribute : Bool) (keep : Option Term) (wanted : Wanted) (elements : List Listed) (head : Head) (w t : Walked) → IsWanted wanted → values_binned domain distribute keep wanted elements head w ≡ Ok t → Tracked w → Tracked t
unfolding values_binned planned
values_track domain distribute keep wanted elements head w t some e h =
    let n = bind_ok (numbers_in domain keep elements head.at) _ t e in
    let k = bind_ok (kept_numbers keep n.0 head.at) _ t n.2 in
    let p = bind_ok (planned w.count wanted k.0 head.at) _ t k.2 in
    let m = bind_ok (needs (nat_le (w.count + bins_wanted wanted k.0) most_bins) kind.TooManyBins head.at) _ p.0 p.1 in
    let is : plan_of wanted k.0 ≡ p.0 = ok_is (plan_of wanted k.0) p.0 m.2 in
    let list : (kinds : BinKind → Bool) (v : ℤ) → listed_by kinds (bins_made distribute keep p.0 head n.0 k.0) v ≡ (kinds head.kind && is_in k.0 v) = λ kinds v. subst (λ (q : Plan). listed_by kinds (bins_made distribute keep q head n.0 k.0) v ≡ (kinds head.kind && is_in k.0 v)) is (made_list kinds distribute keep wanted head n.0 k.0 head.at v some k.1) in
    subst Tracked (ok_is _ t p.2) (added_tracks head (plan_bins p.0) (bins_made distribute keep p.0 head n.0 k.0) k.0 w list h)

one_or_more : (n : ℤ) → int_le (pos 1) n ≡ true → 1 ≤ unsigned_abs n
one_or_more (pos n) e = grind (arith, e)
one_or_more (negsuc n) e = absurd (grind (arith, e))

wanted_some : (levels : Levels) (size : Size) (at : ℕ) (wanted : Wanted) → wanted_in levels size at ≡ Ok wanted → IsWanted wanted
unfolding wanted_in
wanted_some levels sizes.Scalar at wanted e = subst IsWanted (ok_is wants.One wanted e) tt
wanted_some levels sizes.Open at wanted e = subst IsWanted (ok_is wants.Each wanted e) tt
wanted_some levels (sizes.Fixed bins) at wanted e =
    let n = bind_ok (number_in levels bins) _ wanted e in
    let m = bind_ok (needs (int_le (pos 1) n.0) kind.ZeroBins at) _ wanted n.2 in
    subst IsWanted (ok_is (wants.Spread (unsigned_abs n.0)) wanted m.2) (one_or_more n.0 (needs_ok (int_le (pos 1) n.0) kind.ZeroBins at m.0 m.1))

-- an entry that lists nothing
idle_tracks : (w : Walked) (entry : Entry) (kinds : BinKind → Bool) (v : ℤ) → entry_lists kinds v entry ≡ false → among kinds (w.entries ++ entry ∷ []) v ≡ among kinds w.entries v
idle_tracks w entry kinds v idle = among-append kinds w.entries (entry ∷ []) v ∙ (rw idle (or_false (among kinds w.entries v)))

-- a bin that no ignore and no illegal bin is
one_tracks : (head : Head) (rule : BinRule) (w t : Walked) → ((v : ℤ) → entry_lists is_ignore v (Bin (named_bin head head.name rule)) ≡ false) → ((v : ℤ) → entry_lists is_illegal v (Bin (named_bin head head.name rule)) ≡ false) → rule_added head rule w ≡ Ok t → Tracked w → Tracked t
unfolding rule_added one_added
one_tracks head rule w t idle calm e h =
    let n = bind_ok (needs (nat_le (w.count + 1) most_bins) kind.TooManyBins head.at) _ t e in
    let entry : Entry = Bin (named_bin head head.name rule) in
    subst Tracked (ok_is _ t n.2) (record {
      ignores = λ v. h.ignores v ∙ sym (idle_tracks w entry is_ignore v (idle v));
      forbids = λ v. h.forbids v ∙ sym (idle_tracks w entry is_illegal v (calm v));
    })

default_tracks : (head : Head) (w t : Walked) → rule_added head Default w ≡ Ok t → Tracked w → Tracked t
default_tracks head w t e h = one_tracks head Default w t (λ v. sym (and_none (is_ignore head.kind))) (λ v. sym (and_none (is_illegal head.kind))) e h

-- a bin that keeps patterns is one of coverage
coverage_kept : (patterns : Bool) (bin_kind : BinKind) (keep : Option Term) (wanted : Wanted) (elements : List Listed) → is_kept patterns bin_kind keep wanted elements ≡ true → (is_ignore bin_kind ≡ false) × (is_illegal bin_kind ≡ false)
coverage_kept patterns CvgBin keep wanted elements e = (refl, refl)
coverage_kept patterns DefaultBin keep wanted elements e = (refl, refl)
coverage_kept patterns IllegalBin (Some term) wanted elements e = absurd cc
coverage_kept true IllegalBin None wanted elements e = absurd cc
coverage_kept false IllegalBin None wanted elements e = absurd cc
coverage_kept patterns IgnoreBin (Some term) wanted elements e = absurd cc
coverage_kept true IgnoreBin None wanted elements e = absurd cc
coverage_kept false IgnoreBin None wanted elements e = absurd cc

listed_track : (domain : Domain) (manner : Manner) (keep : Option Term) (wanted : Wanted) (elements : List Listed) (head : Head) (w t : Walked) → IsWanted wanted → listed_binned domain manner keep wanted elements head w ≡ Ok t → Tracked w → Tracked t
unfolding listed_binned
listed_track domain manner keep wanted elements head w t some e h = by (is_kept manner.patterns head.kind keep wanted elements) refl e
  where
    rule : BinRule
    rule = pattern_rule domain (patterns_in elements)

    none : (k r : Bool) → k ≡ false → (k && r) ≡ false
    none k r is = rw is refl

    by : (b : Bool) → is_kept manner.patterns head.kind keep wanted elements ≡ b → (if b then rule_added head rule w else values_binned domain manner.distribute keep wanted elements head w) ≡ Ok t → Tracked t
    by true is e =
        let other = coverage_kept manner.patterns head.kind keep wanted elements is in
        one_tracks head rule w t (λ v. none (is_ignore head.kind) (rule_lists v rule) other.0) (λ v. none (is_illegal head.kind) (rule_lists v rule) other.1) e h
    by false is e = values_track domain manner.distribute keep wanted elements head w t some e h

declared_values : (levels : Levels) (domain : Domain) (manner : Manner) (b : BinsDecl) (w t : Walked) → values_declared levels domain manner b w ≡ Ok t → Tracked w → Tracked t
unfolding values_declared elements_binned
declared_values levels domain manner b w t e h =
    let s = bind_ok (elements_in levels domain b.wildcard b.right) _ t e in
    let k = bind_ok (filter_in levels domain.typ (keep_of b.right)) _ t s.2 in
    let a = bind_ok (wanted_in levels b.size b.at) _ t k.2 in
    let g = bind_ok (guard_in levels b.guard) _ t a.2 in
    listed_track domain manner k.0 a.0 s.0 (head_of b (kind_of b.word) g.0 w) w t (wanted_some levels b.size b.at a.0 a.1) g.2 h

rest_tracks : (head : Head) (w : Walked) → Tracked w → Tracked (rest_added head w)
unfolding rest_added
rest_tracks head w h = record {
  ignores = λ v. h.ignores v ∙ sym (idle_tracks w (Rest head) is_ignore v refl);
  forbids = λ v. h.forbids v ∙ sym (idle_tracks w (Rest head) is_illegal v refl);
}

sized_tracks : (size : Size) (head : Head) (w t : Walked) → default_sized size head w ≡ Ok t → Tracked w → Tracked t
sized_tracks sizes.Open head w t e h = subst Tracked (ok_is (rest_added head w) t e) (rest_tracks head w h)
sized_tracks sizes.Scalar head w t e h = default_tracks head w t e h
sized_tracks (sizes.Fixed bins) head w t e h = default_tracks head w t e h

-- ---- transitions list nothing

none_listed : (k : Bool) → ((k && false) || false) ≡ false
none_listed true = refl
none_listed false = refl

trans_idle : (kinds : BinKind → Bool) (declared : ℕ) (bins : List Made) (v : ℤ) → AllByRecursion (IsTrans declared) bins → listed_by kinds bins v ≡ false
trans_idle kinds declared [] v h = refl
trans_idle kinds declared (made ∷ bins) v h = rw (ap (rule_lists v) h.0.rule, trans_idle kinds declared bins v h.1) (none_listed (kinds made.bin.kind))

listed_tracks : (w : Walked) (bins : List Made) → ((kinds : BinKind → Bool) (v : ℤ) → listed_by kinds bins v ≡ false) → (kinds : BinKind → Bool) (v : ℤ) → among kinds (w.entries ++ map Bin bins) v ≡ among kinds w.entries v
listed_tracks w bins idle kinds v = among-append kinds w.entries (map Bin bins) v ∙ (or_more _ _ _ _ refl (among-bins kinds bins v ∙ idle kinds v) ∙ or_false (among kinds w.entries v))

seqs_track : (word : Word) (seqs : List Seq) (w : Walked) → Tracked w → Tracked (seqs_kept word seqs w)
seqs_track words.Bins seqs w h = h
seqs_track words.Illegal seqs w h = record { ignores = h.ignores; forbids = h.forbids }
seqs_track words.Ignore seqs w h = record { ignores = h.ignores; forbids = h.forbids }

declared_trans : (levels : Levels) (domain : Domain) (b : BinsDecl) (sequences : List (List Step)) (w t : Walked) → trans_declared levels domain b sequences w ≡ Ok t → Tracked w → Tracked t
unfolding trans_declared trans_added
declared_trans levels domain b sequences w t e h =
    let m = bind_ok (trans_bins_of levels domain b sequences (before w)) _ t e in
    let are = trans_are levels domain b sequences (before w) m.0 m.1 in
    let idle : (kinds : BinKind → Bool) (v : ℤ) → listed_by kinds m.0.bins v ≡ false = λ kinds v. trans_idle kinds (length w.names) m.0.bins v are in
    let listed : Tracked (trans_listed b.name m.0 w) = record {
      ignores = λ v. h.ignores v ∙ sym (listed_tracks w m.0.bins idle is_ignore v);
      forbids = λ v. h.forbids v ∙ sym (listed_tracks w m.0.bins idle is_illegal v);
    } in
    subst Tracked (ok_is _ t m.2) (seqs_track b.word m.0.removed (trans_listed b.name m.0 w) listed)

declared_default_sequence : (levels : Levels) (b : BinsDecl) (w t : Walked) → default_sequence_declared levels b w ≡ Ok t → Tracked w → Tracked t
unfolding default_sequence_declared
declared_default_sequence levels b w t e h =
    let m = bind_ok (default_bin_of levels b (before w)) _ t e in
    let is = default_is levels b (before w) m.0 m.1 in
    let idle : (kinds : BinKind → Bool) (v : ℤ) → entry_lists kinds v (Bin m.0) ≡ false = λ kinds v. rw (ap (rule_lists v) is) (sym (and_none (kinds m.0.bin.kind))) in
    subst Tracked (ok_is _ t m.2) (record {
      ignores = λ v. h.ignores v ∙ sym (idle_tracks w (Bin m.0) is_ignore v (idle is_ignore v));
      forbids = λ v. h.forbids v ∙ sym (idle_tracks w (Bin m.0) is_illegal v (idle is_illegal v));
    })

right_tracks : (levels : Levels) (domain : Domain) (manner : Manner) (b : BinsDecl) (right : Right) (w t : Walked) → declared_by levels domain manner b w right ≡ Ok t → Tracked w → Tracked t
unfolding default_declared
right_tracks levels domain manner b (rights.Ranges elems keep) w t e h = declared_values levels domain manner b w t e h
right_tracks levels domain manner b (rights.Whole name keep) w t e h = declared_values levels domain manner b w t e h
right_tracks levels domain manner b (rights.Trans seqs) w t e h = declared_trans levels domain b seqs w t e h
right_tracks levels domain manner b rights.Default w t e h =
    let g = bind_ok (guard_in levels b.guard) _ t e in
    sized_tracks b.size (head_of b (default_kind b.word) g.0 w) w t g.2 h
right_tracks levels domain manner b rights.DefaultSequence w t e h = declared_default_sequence levels b w t e h

declared_tracks : (levels : Levels) (domain : Domain) (name : List ℕ) (manner : Manner) (b : BinsDecl) (w t : Walked) → bins_declared levels domain name manner b w ≡ Ok t → Tracked w → Tracked t
unfolding bins_declared
declared_tracks levels domain name manner b w t e h =
    let a = bind_ok (entered name b w) _ t e in
    right_tracks levels domain manner b b.right w t a.2 h

pub walked_tracks : (levels : Levels) (domain : Domain) (name : List ℕ) (manner : Manner) (bs : List BinsDecl) (w : Walked) → bins_walked levels domain name manner bs ≡ Ok w → Tracked w
unfolding bins_walked written
walked_tracks levels domain name manner bs w e =
    each_keeps (λ k. bins_declared levels domain name manner) Tracked (λ k b s t e h. declared_tracks levels domain name manner b s t e h) 0 bs no_bins w e (record { ignores = λ v. refl; forbids = λ v. refl })

-- ---- automatic bins remove nothing

ranges_idle : (kinds : BinKind → Bool) (head : Head) (ranges : List (ℤ × ℤ)) (v : ℤ) → kinds head.kind ≡ false → listed_by kinds (map (auto_bin head) ranges) v ≡ false
ranges_idle kinds head [] v e = refl
ranges_idle kinds head (r ∷ rs) v e = rw e (ranges_idle kinds head rs v e)

constants_idle : (kinds : BinKind → Bool) (head : Head) (constants : List Constant) (v : ℤ) → kinds head.kind ≡ false → listed_by kinds (map (constant_bin head) constants) v ≡ false
constants_idle kinds head [] v e = refl
constants_idle kinds head (c ∷ cs) v e = rw e (constants_idle kinds head cs v e)

automatic_idle : (kinds : BinKind → Bool) (head : Head) (typ : Typ) (most : ℕ) (constants : Option (List Constant)) (v : ℤ) → kinds head.kind ≡ false → listed_by kinds (automatic_by head typ most constants) v ≡ false
automatic_idle kinds head typ most None v e = ranges_idle kinds head (automatic_ranges typ.width typ.signed most) v e
automatic_idle kinds head typ most (Some constants) v e = constants_idle kinds head constants v e

automatic_tracks : (domain : Domain) (settings : Settings) (at : ℕ) (w t : Walked) → automatic_binned domain settings at w ≡ Ok t → Tracked w → Tracked t
unfolding automatic_binned automatic_added
automatic_tracks domain settings at w t e h =
    let autos = automatic domain settings at in
    let n = bind_ok (needs (nat_le (w.count + length autos) most_bins) kind.TooManyBins at) _ t e in
    let idle : (kinds : BinKind → Bool) (v : ℤ) → kinds CvgBin ≡ false → among kinds (w.entries ++ map Bin autos) v ≡ among kinds w.entries v = λ kinds v none. among-append kinds w.entries (map Bin autos) v ∙ (or_more _ _ _ _ refl (among-bins kinds autos v ∙ automatic_idle kinds (auto_head at) domain.typ settings.auto_bin_max domain.constants v none) ∙ or_false (among kinds w.entries v)) in
    subst Tracked (ok_is _ t n.2) (record {
      ignores = λ v. h.ignores v ∙ sym (idle is_ignore v refl);
      forbids = λ v. h.forbids v ∙ sym (idle is_illegal v refl);
    })

pub undeclared_tracks : (domain : Domain) (settings : Settings) (bs : List BinsDecl) (at : ℕ) (w t : Walked) → with_automatic domain settings bs at w ≡ Ok t → Tracked w → Tracked t
unfolding with_automatic
undeclared_tracks domain settings bs at w t e h = by (declares_coverage bs) e
  where
    by : (b : Bool) → (if b then Ok w else automatic_binned domain settings at w) ≡ Ok t → Tracked t
    by true e = subst Tracked (ok_is w t e) h
    by false e = automatic_tracks domain settings at w t e h

-- ---- arrays of `default` list nothing

rest_idle : (kinds : BinKind → Bool) (head : Head) (numbers : List ℤ) (more : List Made) (v : ℤ) → listed_by kinds (map (rest_bin head) numbers ++ more) v ≡ listed_by kinds more v
rest_idle kinds head [] more v = refl
rest_idle kinds head (x ∷ xs) more v = rw (sym (and_none (kinds head.kind))) (rest_idle kinds head xs more v)

all_list : (kinds : BinKind → Bool) (rest : List (ℤ × ℤ)) (entries : List Entry) (v : ℤ) → listed_by kinds (all_bins rest entries) v ≡ among kinds entries v
unfolding all_bins
all_list kinds rest [] v = refl
all_list kinds rest (Bin made ∷ entries) v = ap (λ (r : Bool). (kinds made.bin.kind && rule_lists v made.bin.rule) || r) (all_list kinds rest entries v)
all_list kinds rest (Rest head ∷ entries) v = rest_idle kinds head (ascending (written rest)) (all_bins rest entries) v ∙ all_list kinds rest entries v

-- ---- the law

none_unknown : (rule : BinRule) → lists None rule ≡ false
none_unknown (Values set) = refl
none_unknown (Patterns patterns) = refl
none_unknown (Trans seqs) = refl
none_unknown Default = refl
none_unknown (DefaultValues set) = refl
none_unknown DefaultSequence = refl
none_unknown (Picked select) = refl
none_unknown (Product places) = refl

unknown_rules : (bins : List Made) → list_any (lists None) (map (λ (made : Made). made.bin.rule) bins) ≡ false
unknown_rules [] = refl
unknown_rules (made ∷ bins) = rw (none_unknown made.bin.rule) (unknown_rules bins)

unknown_bins : (bins : List Made) → list_any (λ (bin : BinInfo). lists None bin.rule) (map (λ (made : Made). made.bin) bins) ≡ false
unknown_bins [] = refl
unknown_bins (made ∷ bins) = rw (none_unknown made.bin.rule) (unknown_bins bins)

known_rules : (bins : List Made) (v : ℤ) → list_any (lists (Some v)) (map (λ (made : Made). made.bin.rule) bins) ≡ lists_in bins v
known_rules [] v = refl
known_rules (made ∷ bins) v = ap (λ (r : Bool). rule_lists v made.bin.rule || r) (known_rules bins v)

known_bins : (bins : List Made) (v : ℤ) → list_any (λ (bin : BinInfo). lists (Some v) bin.rule) (map (λ (made : Made). made.bin) bins) ≡ lists_in bins v
known_bins [] v = refl
known_bins (made ∷ bins) v = ap (λ (r : Bool). rule_lists v made.bin.rule || r) (known_bins bins v)

-- a bin that removal of transitions drops lists nothing
dropped_idle : (array : Bool) (removing : List Seq) (rule : BinRule) (v : ℤ) → is_rule_left array removing rule ≡ false → rule_lists v rule ≡ false
dropped_idle array removing (Values set) v e = absurd (true≢false e)
dropped_idle array removing (Patterns patterns) v e = absurd (true≢false e)
dropped_idle array removing (Trans seqs) v e = refl
dropped_idle array removing Default v e = refl
dropped_idle array removing (DefaultValues set) v e = refl
dropped_idle array removing DefaultSequence v e = refl
dropped_idle array removing (Picked select) v e = refl
dropped_idle array removing (Product places) v e = refl

pub dropped_lists : (bs : List BinsDecl) (ignored illegal : List Seq) (made : Made) (v : ℤ) → is_trans_left ignored illegal (in_array bs made.declared) made.bin ≡ false → rule_lists v made.bin.rule ≡ false
unfolding is_trans_left
dropped_lists bs ignored illegal made v e = dropped_idle (in_array bs made.declared) (removing_of made.bin.kind ignored illegal) made.bin.rule v e

one_stays : (bs : List BinsDecl) (ignored illegal : List Seq) (made : Made) (bins : List Made) (v : ℤ) (b : Bool) → is_trans_left ignored illegal (in_array bs made.declared) made.bin ≡ b → lists_in (transitions_left bs ignored illegal bins) v ≡ lists_in bins v
    → lists_in (transitions_left bs ignored illegal (made ∷ bins)) v ≡ lists_in (made ∷ bins) v
unfolding transitions_left
one_stays bs ignored illegal made bins v true e h = rw e (ap (λ (r : Bool). rule_lists v made.bin.rule || r) h)
one_stays bs ignored illegal made bins v false e h = rw (e, dropped_lists bs ignored illegal made v e) h

trans_stay : (bs : List BinsDecl) (ignored illegal : List Seq) (bins : List Made) (v : ℤ) → lists_in (transitions_left bs ignored illegal bins) v ≡ lists_in bins v
unfolding transitions_left
trans_stay bs ignored illegal [] v = refl
trans_stay bs ignored illegal (made ∷ bins) v = one_stays bs ignored illegal made bins v (is_trans_left ignored illegal (in_array bs made.declared) made.bin) refl (trans_stay bs ignored illegal bins v)

keeps : (bs : List BinsDecl) (w : Walked) (bins : List Made) → Tracks w.ignored w.illegal bins → KeepsListed (map (λ (made : Made). made.bin.rule) bins) (map (λ (made : Made). made.bin) (point_left bs w bins).bins)
keeps bs w bins t None = unknown_bins (point_left bs w bins).bins ∙ sym (unknown_rules bins)
keeps bs w bins t (Some v) =
    let left = left_by w.ignored w.illegal bins in
    known_bins (point_left bs w bins).bins v ∙ (trans_stay bs w.ignored_seqs w.illegal_seqs left v ∙ (listed_stays w.ignored w.illegal bins t v ∙ sym (known_rules bins v)))

pub declared_is : (levels : Levels) (domain : Domain) (name : List ℕ) (settings : Settings) (bs : List BinsDecl) (at : ℕ) (d w : Walked) (all : List Made) → bins_walked levels domain name (manner_of domain settings bs) bs ≡ Ok d → with_automatic domain settings bs at d ≡ Ok w
    → all_filled domain w.listed w.entries w.count ≡ Ok all → bins_declared_in levels domain name settings bs at ≡ Ok all
unfolding bins_declared_in
declared_is levels domain name settings bs at d w all e f g = rw (e, f, g) refl

pub filled_is : (domain : Domain) (listed : List (ℤ × ℤ)) (entries : List Entry) (count : ℕ) (all : List Made) → all_filled domain listed entries count ≡ Ok all → all_bins (unlisted domain listed) entries ≡ all
unfolding all_filled
filled_is domain listed entries count all e =
    let c = bind_ok (entries_counted (length (written (unlisted domain listed))) entries count) _ all e in
    ok_is (all_bins (unlisted domain listed) entries) all c.2

pub tracks_all : (rest : List (ℤ × ℤ)) (w : Walked) (all : List Made) → all_bins rest w.entries ≡ all → Tracked w → Tracks w.ignored w.illegal all
tracks_all rest w all is t = subst (Tracks w.ignored w.illegal) is (record { ignores = λ v. t.ignores v ∙ sym (all_list is_ignore rest w.entries v); forbids = λ v. t.forbids v ∙ sym (all_list is_illegal rest w.entries v) })

pub removal_keeps : RemovalKeepsListed
unfolding bins_of_point walked_left
removal_keeps levels domain name settings bs at found e =
    let d = bind_ok (bins_walked levels domain name (manner_of domain settings bs) bs) _ found e in
    let w = bind_ok (with_automatic domain settings bs at d.0) _ found d.2 in
    let all = bind_ok (all_filled domain w.0.listed w.0.entries w.0.count) _ found w.2 in
    let is = filled_is domain w.0.listed w.0.entries w.0.count all.0 all.1 in
    let t = undeclared_tracks domain settings bs at d.0 w.0 w.1 (walked_tracks levels domain name (manner_of domain settings bs) bs d.0 d.1) in
    let kept = keeps bs w.0 all.0 (tracks_all (unlisted domain w.0.listed) w.0 all.0 is t) in
    (all.0, declared_is levels domain name settings bs at d.0 w.0 all.0 d.1 w.1 all.1, subst (λ (f : PointBins). KeepsListed (map (λ (made : Made). made.bin.rule) all.0) (map (λ (made : Made). made.bin) f.bins)) (ok_is (point_left bs w.0 all.0) found all.2) kept)
