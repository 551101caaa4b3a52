-- What is known of a point's sequences: those that take windows away have 120 cells at most together, and so has each bin
-- of transitions, which has a sequence left.
use Rattle.std.proofs.Common.{◌≡◌, ◌∙◌, ℕ, ◌+◌, ◌≤◌, ℤ, List, [], ◌∷◌, ◌++◌, length, map, refl, sym, ap, subst, Bool, true, false, arith, Option, Some, None, Ok, slice_get}
use Rattle.std.specs.Prelude.{nat_le, Contains, if◌then◌else◌}
use Rattle.std.specs.Option.{option_map_or}
use Rattle.std.specs.List.{AllByRecursion, list_any}
use Rattle.std.proofs.lemmas.List.{append_assoc, length_push}
use Rattle.cov_ground.specs.Limits.{most_bins, most_cells}
use Rattle.cov_base.specs.Sets.{written, set_of, ascending}
use Rattle.cov_tree.specs.declared.bins.BinsDecl.{BinsDecl}
use Rattle.cov_tree.specs.declared.bins.Step.{Step}
use Rattle.cov_tree.specs.declared.bins.Word.{Word}
use Rattle.cov_tree.specs.declared.bins.Word.TheVariants as words
use Rattle.cov_tree.specs.declared.bins.Right.{Right}
use Rattle.cov_tree.specs.declared.bins.Right.TheVariants as rights
use Rattle.cov_tree.specs.declared.bins.Size.{Size}
use Rattle.cov_tree.specs.declared.bins.Size.TheVariants as sizes
use Rattle.const_eval.specs.Typs.{Typ}
use Rattle.const_eval.specs.Terms.{Term}
use Rattle.const_eval.specs.Scopes.{Levels}
use Rattle.trans_seq.specs.declared.seq.Seq.{Seq}
use Rattle.trans_seq.specs.Cells.{cells_of_seqs}
use Rattle.trans_found.specs.Lists.{listed_by_all}
use Rattle.trans_seq.proofs.Members.{first_in, later_in}
use Rattle.auto_bins.specs.Automatic.{automatic_ranges}
use Rattle.design_data.specs.Bins.{seqs_of}
use Rattle.design_data.specs.Left.{has_seq_left}
use Rattle.design_data.specs.declared.infos.BinKind.{BinKind}
use Rattle.design_data.specs.declared.infos.BinKind.TheVariants.{CvgBin, IllegalBin, IgnoreBin, DefaultBin}
use Rattle.design_data.specs.declared.infos.BinRule.{BinRule}
use Rattle.design_data.specs.declared.infos.BinRule.TheVariants.{Values, Patterns, Trans, Default, DefaultValues, DefaultSequence, Picked, Product}
use Rattle.elab_base.specs.declared.fault.ElabKind.TheVariants as kind
use Rattle.elab_base.specs.Gives.{needs, each_at}
use Rattle.elab_base.specs.Steps.{guard_in}
use Rattle.elab_base.proofs.Keeps.{bind_ok, ok_is, all_push, all_append}
use Rattle.elab_values.specs.declared.domain.Constant.{Constant}
use Rattle.elab_values.specs.declared.domain.Domain.{Domain}
use Rattle.elab_values.specs.declared.elements.Listed.{Listed}
use Rattle.elab_values.specs.declared.made.Made.{Made}
use Rattle.elab_values.specs.declared.made.Settings.{Settings}
use Rattle.elab_bins.specs.declared.plans.Manner.{Manner}
use Rattle.elab_bins.specs.Wildcards.{is_kept, patterns_in, has_number, pattern_rule, numbers_in}
use Rattle.elab_bins.proofs.Literals.{some_first}
use Rattle.elab_transitions.specs.declared.plans.Before.{Before}
use Rattle.elab_transitions.specs.declared.bins.TransBins.{TransBins}
use Rattle.elab_values.specs.Words.{is_array}
use Rattle.elab_transitions.specs.Bins.{list_bin, default_bin_of, trans_bins_of, removed_by}
use Rattle.elab_transitions.specs.Bins as trans
use Rattle.elab_transitions.specs.Removal.{removing_of, is_seq_left, is_rule_left, is_trans_left}
use Rattle.elab_transitions.proofs.Declared.{made_of}
use Rattle.elab_transitions.proofs.Within.{is_within_limits, has_seq}
use Rattle.elab_bins.specs.declared.walked.Entry.{Entry}
use Rattle.elab_bins.specs.declared.walked.Entry.TheVariants.{Bin, Rest}
use Rattle.elab_bins.specs.declared.walked.Walked.{Walked}
use Rattle.elab_bins.specs.declared.plans.Head.{Head}
use Rattle.elab_bins.specs.declared.plans.Plan.{Plan}
use Rattle.elab_bins.specs.declared.plans.Wanted.{Wanted}
use Rattle.elab_bins.specs.declared.plans.Plan.TheVariants as plans
use Rattle.elab_bins.specs.Automatic.{auto_head, auto_bin, constant_bin, automatic_by, automatic, declares_coverage, automatic_added, automatic_binned, with_automatic}
use Rattle.elab_values.specs.Words.{kind_of}
use Rattle.elab_bins.specs.Declarations.{default_kind, elements_in, entered, head_of, bins_added, values_binned, listed_binned, elements_binned, values_declared, one_added, rest_added, rule_added, default_sized, default_declared, declared_by, bins_declared, no_bins, bins_walked}
use Rattle.elab_bins.specs.Filter.{keep_of, filter_in, kept_numbers}
use Rattle.elab_bins.specs.Left.{rule_left, kind_left, bin_left, has_some, some_of, left_of, bins_left, left_by}
use Rattle.elab_bins.specs.Made.{wanted_in, planned, named_bin, single, part_bins, parts_kept, bins_made}
use Rattle.elab_bins.specs.Rest.{rest_bin, all_bins}
use Rattle.elab_bins.specs.Transitions.{before, seqs_kept, trans_listed, trans_added, trans_declared, made_added, default_sequence_declared, in_array, transitions_left}

-- ---- one bin

-- a bin of a point, which is of values, of patterns, of transitions or a default bin: one of patterns has some of them,
-- and one of transitions has 120 cells at most, and a sequence left wherever the test of its declaration leaves it
abbrev pub IsKnown : (array : Bool) → BinKind → BinRule → Type 0
IsKnown array kind (Values set) = Unit {0}
IsKnown array kind (Patterns patterns) = 1 ≤ length patterns
IsKnown array kind (Trans seqs) = (cells_of_seqs seqs ≤ most_cells)
    × ((ignored illegal : List Seq) → list_any (is_seq_left array (removing_of kind ignored illegal)) seqs ≡ true → has_seq_left (removing_of kind ignored illegal) seqs ≡ true)
IsKnown array kind Default = Unit {0}
IsKnown array kind (DefaultValues set) = Unit {0}
IsKnown array kind DefaultSequence = Unit {0}
IsKnown array kind (Picked select) = ⊥
IsKnown array kind (Product members) = ⊥

abbrev pub KnownMade : List BinsDecl → Made → Type 0
KnownMade bs made = IsKnown (in_array bs made.declared) made.bin.kind made.bin.rule

abbrev KnownEntry : List BinsDecl → Entry → Type 0
KnownEntry bs (Bin made) = KnownMade bs made
KnownEntry bs (Rest head) = Unit {0}

-- ---- the bins of declarations

singles_known : (bs : List BinsDecl) (head : Head) (numbers : List ℤ) → AllByRecursion (KnownEntry bs) (map Bin (map (single head) numbers))
singles_known bs head [] = tt
singles_known bs head (v ∷ vs) = (tt, singles_known bs head vs)

parts_known : (bs : List BinsDecl) (head : Head) (j : ℕ) (sets : List (List (ℤ × ℤ))) → AllByRecursion (KnownEntry bs) (map Bin (part_bins head j sets))
parts_known bs head j [] = tt
parts_known bs head j (set ∷ sets) = (tt, parts_known bs head (j + 1) sets)

values_known : (bs : List BinsDecl) (distribute : Bool) (keep : Option Term) (plan : Plan) (head : Head) (numbers kept : List ℤ) → AllByRecursion (KnownEntry bs) (map Bin (bins_made distribute keep plan head numbers kept))
unfolding bins_made
values_known bs distribute keep plans.One head numbers kept = (tt, tt)
values_known bs distribute keep (plans.Each distinct) head numbers kept = singles_known bs head distinct
values_known bs distribute keep (plans.Spread n) head numbers kept = parts_known bs head 0 (map set_of (parts_kept distribute keep n numbers kept))

trans_rule : (array : Bool) (kind : BinKind) (rule : BinRule) (seqs : List Seq) → rule ≡ Trans seqs → cells_of_seqs (seqs_of rule) ≤ most_cells
    → ((ignored illegal : List Seq) → is_rule_left array (removing_of kind ignored illegal) rule ≡ true → has_seq_left (removing_of kind ignored illegal) (seqs_of rule) ≡ true) → IsKnown array kind rule
trans_rule array kind rule seqs is few left = subst (IsKnown array kind) (sym is) (
  subst (λ (r : BinRule). cells_of_seqs (seqs_of r) ≤ most_cells) is few,
  subst (λ (r : BinRule). (ignored illegal : List Seq) → is_rule_left array (removing_of kind ignored illegal) r ≡ true → has_seq_left (removing_of kind ignored illegal) (seqs_of r) ≡ true) is left,
)

-- what the bins of a declaration of transitions have in common
pub record IsTrans (declared : ℕ) (made : Made) : Type 0 where
  pub place : made.declared ≡ Some declared
  pub seqs : List Seq
  pub rule : made.bin.rule ≡ Trans seqs

lists_trans : (b : BinsDecl) (declared : ℕ) (guard : Option Term) (lists : List (List ℤ)) → AllByRecursion (IsTrans declared) (map (list_bin b declared guard) lists)
lists_trans b declared guard [] = tt
lists_trans b declared guard (list ∷ lists) = (record { place = refl; seqs = _; rule = refl }, lists_trans b declared guard lists)

made_trans : (b : BinsDecl) (declared : ℕ) (array : Bool) (guard : Option Term) (seqs : List Seq) → AllByRecursion (IsTrans declared) (trans.bins_made b declared (trans.plan_of array seqs) guard seqs)
unfolding trans.bins_made
made_trans b declared false guard seqs = (record { place = refl; seqs = seqs; rule = refl }, tt)
made_trans b declared true guard seqs = lists_trans b declared guard (listed_by_all seqs)

pub trans_are : (levels : Levels) (domain : Domain) (b : BinsDecl) (sequences : List (List Step)) (before : Before) (made : TransBins) → trans_bins_of levels domain b sequences before ≡ Ok made → AllByRecursion (IsTrans before.declared) made.bins
trans_are levels domain b sequences before made e =
    let of = made_of levels domain b sequences before made e in
    subst (AllByRecursion (IsTrans before.declared)) of.bins (made_trans b before.declared (is_array b.size) of.guard of.seqs)

pub default_is : (levels : Levels) (b : BinsDecl) (before : Before) (made : Made) → default_bin_of levels b before ≡ Ok made → made.bin.rule ≡ DefaultSequence
unfolding default_bin_of
default_is levels b before made e =
    let g = bind_ok (guard_in levels b.guard) _ made e in
    let n = bind_ok (needs (nat_le (before.bins + 1) most_bins) kind.TooManyBins b.at) _ made g.2 in
    ap (λ (m : Made). m.bin.rule) (sym (ok_is _ made n.2))

-- a bin of transitions has a sequence left where it is left
abbrev LeavesSeq : (array : Bool) → Made → Type 0
LeavesSeq array made = (ignored illegal : List Seq) → is_trans_left ignored illegal array made.bin ≡ true → has_seq_left (removing_of made.bin.kind ignored illegal) (seqs_of made.bin.rule) ≡ true

leaves_rule : (array : Bool) (made : Made) → LeavesSeq array made → (ignored illegal : List Seq) → is_rule_left array (removing_of made.bin.kind ignored illegal) made.bin.rule ≡ true → has_seq_left (removing_of made.bin.kind ignored illegal) (seqs_of made.bin.rule) ≡ true
unfolding is_trans_left
leaves_rule array made leaves ignored illegal e = leaves ignored illegal e

trans_known : (bs : List BinsDecl) (array : Bool) (declared : ℕ) → in_array bs (Some declared) ≡ array → (bins : List Made) → AllByRecursion (IsTrans declared) bins → AllByRecursion (λ (made : Made). cells_of_seqs (seqs_of made.bin.rule) ≤ most_cells) bins
    → ((made : Made) → Contains bins made → LeavesSeq array made) → AllByRecursion (KnownEntry bs) (map Bin bins)
trans_known bs array declared is [] all short leave = tt
trans_known bs array declared is (made ∷ bins) all short leave =
    let here = all.0 in
    let same : in_array bs made.declared ≡ array = ap (in_array bs) here.place ∙ is in
    let one = trans_rule array made.bin.kind made.bin.rule here.seqs here.rule short.0 (leaves_rule array made (leave made (first_in made bins))) in
    (subst (λ (a : Bool). IsKnown a made.bin.kind made.bin.rule) (sym same) one, trans_known bs array declared is bins all.1 short.1 (λ m h. leave m (later_in made bins m h)))

-- ---- a declaration

pub record AreKnown (bs : List BinsDecl) (w : Walked) : Type 0 where
  pub entries : AllByRecursion (KnownEntry bs) w.entries
  pub removing : w.removing ≡ cells_of_seqs (w.ignored_seqs ++ w.illegal_seqs)
  pub short : w.removing ≤ most_cells

pub record IsNext (bs : List BinsDecl) (w t : Walked) : Type 0 where
  pub known : AreKnown bs t
  pub names : length t.names ≡ length w.names + 1

values_next : (bs : List BinsDecl) (domain : Domain) (distribute : Bool) (keep : Option Term) (wanted : Wanted) (elements : List Listed) (head : Head) (w t : Walked) → values_binned domain distribute keep wanted elements head w ≡ Ok t → AreKnown bs w → IsNext bs w t
unfolding values_binned bins_added
values_next bs domain distribute keep wanted elements head w t e h =
    let n = bind_ok (numbers_in domain keep elements head.at) _ t e in
    let k = bind_ok (kept_numbers keep n.0 head.at) _ t n.2 in
    let p = bind_ok (planned w.count wanted k.0 head.at) _ t k.2 in
    let bins = bins_made distribute keep p.0 head n.0 k.0 in
    let count = length_push w.names head.name in
    subst (IsNext bs w) (ok_is _ t p.2) (record {
      known = record { entries = all_append (KnownEntry bs) w.entries (map Bin bins) h.entries (values_known bs distribute keep p.0 head n.0 k.0); removing = h.removing; short = h.short };
      names = omega (arith, count);
    })

-- a bin that has no sequences
made_next : (bs : List BinsDecl) (name : List ℕ) (made : Made) (w : Walked) → KnownMade bs made → AreKnown bs w → IsNext bs w (made_added name made w)
made_next bs name made w one h =
    let count = length_push w.names name in
    record { known = record { entries = all_push (KnownEntry bs) w.entries (Bin made) h.entries one; removing = h.removing; short = h.short }; names = omega (arith, count) }

one_next : (bs : List BinsDecl) (head : Head) (rule : BinRule) (w t : Walked) → IsKnown (in_array bs head.declared) head.kind rule → rule_added head rule w ≡ Ok t → AreKnown bs w → IsNext bs w t
unfolding rule_added one_added
one_next bs head rule w t known e h =
    let n = bind_ok (needs (nat_le (w.count + 1) most_bins) kind.TooManyBins head.at) _ t e in
    subst (IsNext bs w) (ok_is _ t n.2) (made_next bs head.name (named_bin head head.name rule) w known h)

pattern_known : (array : Bool) (bin_kind : BinKind) (domain : Domain) (elements : List Listed) → IsKnown array bin_kind (pattern_rule domain (patterns_in elements))
pattern_known array bin_kind domain elements = by (list_any (has_number domain) (patterns_in elements)) refl
  where
    by : (b : Bool) → list_any (has_number domain) (patterns_in elements) ≡ b → IsKnown array bin_kind (if b then Patterns (patterns_in elements) else Values [])
    by true e = some_first (has_number domain) (patterns_in elements) e
    by false e = tt

listed_next : (bs : List BinsDecl) (domain : Domain) (manner : Manner) (keep : Option Term) (wanted : Wanted) (elements : List Listed) (head : Head) (w t : Walked) → listed_binned domain manner keep wanted elements head w ≡ Ok t → AreKnown bs w → IsNext bs w t
unfolding listed_binned
listed_next bs domain manner keep wanted elements head w t e h = by (is_kept manner.patterns head.kind keep wanted elements) e
  where
    by : (b : Bool) → (if b then rule_added head (pattern_rule domain (patterns_in elements)) w else values_binned domain manner.distribute keep wanted elements head w) ≡ Ok t → IsNext bs w t
    by true e = one_next bs head (pattern_rule domain (patterns_in elements)) w t (pattern_known (in_array bs head.declared) head.kind domain elements) e h
    by false e = values_next bs domain manner.distribute keep wanted elements head w t e h

declared_values : (bs : List BinsDecl) (levels : Levels) (domain : Domain) (manner : Manner) (b : BinsDecl) (w t : Walked) → values_declared levels domain manner b w ≡ Ok t → AreKnown bs w → IsNext bs w t
unfolding values_declared elements_binned
declared_values bs levels domain manner b w t e h =
    let s = bind_ok (elements_in levels domain b.wildcard b.right) _ t e in
    let k = bind_ok (filter_in levels domain.typ (keep_of b.right)) _ t s.2 in
    let a = bind_ok (wanted_in levels b.size b.at) _ t k.2 in
    let g = bind_ok (guard_in levels b.guard) _ t a.2 in
    listed_next bs domain manner k.0 a.0 s.0 (head_of b (kind_of b.word) g.0 w) w t g.2 h

rest_next : (bs : List BinsDecl) (head : Head) (w : Walked) → AreKnown bs w → IsNext bs w (rest_added head w)
unfolding rest_added
rest_next bs head w h =
    let count = length_push w.names head.name in
    record { known = record { entries = all_push (KnownEntry bs) w.entries (Rest head) h.entries tt; removing = h.removing; short = h.short }; names = omega (arith, count) }

sized_next : (bs : List BinsDecl) (size : Size) (head : Head) (w t : Walked) → default_sized size head w ≡ Ok t → AreKnown bs w → IsNext bs w t
sized_next bs sizes.Open head w t e h = subst (IsNext bs w) (ok_is (rest_added head w) t e) (rest_next bs head w h)
sized_next bs sizes.Scalar head w t e h = one_next bs head Default w t tt e h
sized_next bs (sizes.Fixed bins) head w t e h = one_next bs head Default w t tt e h

declared_default : (bs : List BinsDecl) (levels : Levels) (b : BinsDecl) (w t : Walked) → default_declared levels b w ≡ Ok t → AreKnown bs w → IsNext bs w t
unfolding default_declared
declared_default bs levels b w t e h =
    let g = bind_ok (guard_in levels b.guard) _ t e in
    sized_next bs b.size (head_of b (default_kind b.word) g.0 w) w t g.2 h

default_sequence_next : (bs : List BinsDecl) (levels : Levels) (b : BinsDecl) (w t : Walked) → default_sequence_declared levels b w ≡ Ok t → AreKnown bs w → IsNext bs w t
unfolding default_sequence_declared
default_sequence_next bs levels b w t e h =
    let m = bind_ok (default_bin_of levels b (before w)) _ t e in
    let one = subst (IsKnown (in_array bs m.0.declared) m.0.bin.kind) (sym (default_is levels b (before w) m.0 m.1)) tt in
    subst (IsNext bs w) (ok_is _ t m.2) (made_next bs b.name m.0 w one h)

joined : (first rest : List Seq) → cells_of_seqs (first ++ rest) ≡ cells_of_seqs first + cells_of_seqs rest
joined [] rest = omega arith
joined (seq ∷ first) rest = let more = joined first rest in omega (arith, more)

-- the cells of what takes windows away
kept_cells : (word : Word) (seqs removed : List Seq) (was : ℕ) (w : Walked) → removed_by word seqs ≡ removed → w.removing ≡ was + cells_of_seqs removed → was ≡ cells_of_seqs (w.ignored_seqs ++ w.illegal_seqs)
    → w.removing ≡ cells_of_seqs ((seqs_kept word removed w).ignored_seqs ++ (seqs_kept word removed w).illegal_seqs)
kept_cells words.Bins seqs removed was w is sum e = let none : cells_of_seqs removed ≡ 0 = ap (λ (ss : List Seq). cells_of_seqs ss) (sym is) in omega (arith, sum, e, none)
kept_cells words.Illegal seqs removed was w is sum e =
    let old = joined w.ignored_seqs w.illegal_seqs in
    let more = joined w.illegal_seqs removed in
    let all = joined w.ignored_seqs (w.illegal_seqs ++ removed) in
    omega (arith, sum, e, old, more, all)
kept_cells words.Ignore seqs removed was w is sum e =
    let old = joined w.ignored_seqs w.illegal_seqs in
    let more = joined w.ignored_seqs removed in
    let all = joined (w.ignored_seqs ++ removed) w.illegal_seqs in
    omega (arith, sum, e, old, more, all)

kept_next : (bs : List BinsDecl) (word : Word) (seqs : List Seq) (was t : Walked) → AllByRecursion (KnownEntry bs) t.entries → t.removing ≡ cells_of_seqs ((seqs_kept word seqs t).ignored_seqs ++ (seqs_kept word seqs t).illegal_seqs) → t.removing ≤ most_cells
    → length t.names ≡ length was.names + 1 → IsNext bs was (seqs_kept word seqs t)
kept_next bs words.Bins seqs was t all sum short count = record { known = record { entries = all; removing = sum; short = short }; names = count }
kept_next bs words.Illegal seqs was t all sum short count = record { known = record { entries = all; removing = sum; short = short }; names = count }
kept_next bs words.Ignore seqs was t all sum short count = record { known = record { entries = all; removing = sum; short = short }; names = count }

trans_next : (bs : List BinsDecl) (levels : Levels) (domain : Domain) (b : BinsDecl) (sequences : List (List Step)) (w t : Walked) → trans_declared levels domain b sequences w ≡ Ok t → in_array bs (Some (length w.names)) ≡ is_array b.size → AreKnown bs w → IsNext bs w t
unfolding trans_declared trans_added
trans_next bs levels domain b sequences w t e is h =
    let m = bind_ok (trans_bins_of levels domain b sequences (before w)) _ t e in
    let of = made_of levels domain b sequences (before w) m.0 m.1 in
    let within = is_within_limits levels domain b sequences (before w) m.0 m.1 in
    let all = trans_are levels domain b sequences (before w) m.0 m.1 in
    let new = trans_known bs (is_array b.size) (length w.names) is m.0.bins all within.short (λ made inside ignored illegal left. has_seq levels domain b sequences (before w) m.0 made ignored illegal m.1 inside left) in
    let listed = trans_listed b.name m.0 w in
    let count = length_push w.names b.name in
    let sum = kept_cells b.word of.seqs m.0.removed w.removing listed of.removed within.removing h.removing in
    subst (IsNext bs w) (ok_is _ t m.2) (kept_next bs b.word m.0.removed w listed (all_append (KnownEntry bs) w.entries (map Bin m.0.bins) h.entries new) sum within.removing_short (omega (arith, count)))

right_next : (bs : List BinsDecl) (levels : Levels) (domain : Domain) (manner : Manner) (b : BinsDecl) (right : Right) (w t : Walked) → declared_by levels domain manner b w right ≡ Ok t → in_array bs (Some (length w.names)) ≡ is_array b.size → AreKnown bs w → IsNext bs w t
right_next bs levels domain manner b (rights.Ranges elems keep) w t e is h = declared_values bs levels domain manner b w t e h
right_next bs levels domain manner b (rights.Whole name keep) w t e is h = declared_values bs levels domain manner b w t e h
right_next bs levels domain manner b (rights.Trans seqs) w t e is h = trans_next bs levels domain b seqs w t e is h
right_next bs levels domain manner b rights.Default w t e is h = declared_default bs levels b w t e h
right_next bs levels domain manner b rights.DefaultSequence w t e is h = default_sequence_next bs levels b w t e h

declared_next : (bs : List BinsDecl) (levels : Levels) (domain : Domain) (name : List ℕ) (manner : Manner) (b : BinsDecl) (w t : Walked) → bins_declared levels domain name manner b w ≡ Ok t → in_array bs (Some (length w.names)) ≡ is_array b.size → AreKnown bs w → IsNext bs w t
unfolding bins_declared
declared_next bs levels domain name manner b w t e is h =
    let a = bind_ok (entered name b w) _ t e in
    right_next bs levels domain manner b b.right w t a.2 is h

-- ---- all declarations

behind : (done : List BinsDecl) (b : BinsDecl) (rest : List BinsDecl) → slice_get (done ++ b ∷ rest) (length done) ≡ Some b
behind [] b rest = refl
behind (x ∷ done) b rest = behind done b rest

array_here : (bs done : List BinsDecl) (b : BinsDecl) (rest : List BinsDecl) (n : ℕ) → done ++ b ∷ rest ≡ bs → n ≡ length done → in_array bs (Some n) ≡ is_array b.size
array_here bs done b rest n same count =
    subst (λ (ds : List BinsDecl). in_array ds (Some n) ≡ is_array b.size) same
    (subst (λ (k : ℕ). in_array (done ++ b ∷ rest) (Some k) ≡ is_array b.size) (sym count)
    (ap (λ (o : Option BinsDecl). option_map_or (λ (d : BinsDecl). is_array d.size) o false) (behind done b rest)))

rest_known : (bs : List BinsDecl) (levels : Levels) (domain : Domain) (name : List ℕ) (manner : Manner) (k : ℕ) (done rest : List BinsDecl) (w t : Walked) → each_at (λ i. bins_declared levels domain name manner) k rest w ≡ Ok t
    → done ++ rest ≡ bs → length w.names ≡ length done → AreKnown bs w → AreKnown bs t
unfolding each_at
rest_known bs levels domain name manner k done [] w t e same count h = subst (AreKnown bs) (ok_is w t e) h
rest_known bs levels domain name manner k done (b ∷ rest) w t e same count h =
    let s = bind_ok (bins_declared levels domain name manner b w) (each_at (λ i. bins_declared levels domain name manner) (k + 1) rest) t e in
    let n = declared_next bs levels domain name manner b w s.0 s.1 (array_here bs done b rest (length w.names) same count) h in
    let names = n.names in
    let longer = length_push done b in
    rest_known bs levels domain name manner (k + 1) (done ++ b ∷ []) rest s.0 t s.2 (append_assoc done (b ∷ []) rest ∙ same) (omega (arith, names, longer, count)) n.known

pub walked_known : (levels : Levels) (domain : Domain) (name : List ℕ) (manner : Manner) (bs : List BinsDecl) (w : Walked) → bins_walked levels domain name manner bs ≡ Ok w → AreKnown bs w
unfolding bins_walked
walked_known levels domain name manner bs w e = rest_known bs levels domain name manner 0 [] bs no_bins w e refl refl (record { entries = tt; removing = refl; short = omega arith })

-- ---- automatic bins

ranges_known : (bs : List BinsDecl) (head : Head) (ranges : List (ℤ × ℤ)) → AllByRecursion (KnownEntry bs) (map Bin (map (auto_bin head) ranges))
ranges_known bs head [] = tt
ranges_known bs head (r ∷ rs) = (tt, ranges_known bs head rs)

constants_known : (bs : List BinsDecl) (head : Head) (constants : List Constant) → AllByRecursion (KnownEntry bs) (map Bin (map (constant_bin head) constants))
constants_known bs head [] = tt
constants_known bs head (c ∷ cs) = (tt, constants_known bs head cs)

automatic_known : (bs : List BinsDecl) (head : Head) (typ : Typ) (most : ℕ) (constants : Option (List Constant)) → AllByRecursion (KnownEntry bs) (map Bin (automatic_by head typ most constants))
automatic_known bs head typ most None = ranges_known bs head (automatic_ranges typ.width typ.signed most)
automatic_known bs head typ most (Some constants) = constants_known bs head constants

binned_known : (bs : List BinsDecl) (domain : Domain) (settings : Settings) (at : ℕ) (w t : Walked) → automatic_binned domain settings at w ≡ Ok t → AreKnown bs w → AreKnown bs t
unfolding automatic_binned automatic_added
binned_known bs domain settings at w t e h =
    let autos = automatic domain settings at in
    let n = bind_ok (needs (nat_le (w.count + length autos) most_bins) kind.TooManyBins at) _ t e in
    subst (AreKnown bs) (ok_is _ t n.2) (record {
      entries = all_append (KnownEntry bs) w.entries (map Bin autos) h.entries (automatic_known bs (auto_head at) domain.typ settings.auto_bin_max domain.constants);
      removing = h.removing;
      short = h.short;
    })

pub undeclared_known : (bs : List BinsDecl) (domain : Domain) (settings : Settings) (at : ℕ) (w t : Walked) → with_automatic domain settings bs at w ≡ Ok t → AreKnown bs w → AreKnown bs t
unfolding with_automatic
undeclared_known bs domain settings at w t e h = by (declares_coverage bs) e
  where
    by : (b : Bool) → (if b then Ok w else automatic_binned domain settings at w) ≡ Ok t → AreKnown bs t
    by true e = subst (AreKnown bs) (ok_is w t e) h
    by false e = binned_known bs domain settings at w t e h

-- ---- arrays of `default`

rests_known : (bs : List BinsDecl) (head : Head) (numbers : List ℤ) → AllByRecursion (KnownMade bs) (map (rest_bin head) numbers)
rests_known bs head [] = tt
rests_known bs head (v ∷ vs) = (tt, rests_known bs head vs)

pub filled_known : (bs : List BinsDecl) (rest : List (ℤ × ℤ)) (entries : List Entry) → AllByRecursion (KnownEntry bs) entries → AllByRecursion (KnownMade bs) (all_bins rest entries)
unfolding all_bins
filled_known bs rest [] all = tt
filled_known bs rest (Bin made ∷ entries) all = (all.0, filled_known bs rest entries all.1)
filled_known bs rest (Rest head ∷ entries) all = all_append (KnownMade bs) (map (rest_bin head) (ascending (written rest))) (all_bins rest entries) (rests_known bs head (ascending (written rest))) (filled_known bs rest entries all.1)

-- ---- removal of numbers

rule_stays : (array : Bool) (kind : BinKind) (removed : List (ℤ × ℤ)) (rule : BinRule) → IsKnown array kind rule → IsKnown array kind (rule_left removed rule)
unfolding rule_left
rule_stays array kind removed (Values set) h = tt
rule_stays array kind removed (Patterns patterns) h = h
rule_stays array kind removed (Trans seqs) h = h
rule_stays array kind removed Default h = h
rule_stays array kind removed (DefaultValues set) h = h
rule_stays array kind removed DefaultSequence h = h
rule_stays array kind removed (Picked select) h = h
rule_stays array kind removed (Product members) h = h

kind_stays : (array : Bool) (kind : BinKind) (all illegal : List (ℤ × ℤ)) (rule : BinRule) → IsKnown array kind rule → IsKnown array kind (kind_left kind all illegal rule)
kind_stays array CvgBin all illegal rule h = rule_stays array CvgBin all rule h
kind_stays array IgnoreBin all illegal rule h = rule_stays array IgnoreBin illegal rule h
kind_stays array IllegalBin all illegal rule h = h
kind_stays array DefaultBin all illegal rule h = h

some_known : (bs : List BinsDecl) (made : Made) (b : Bool) → has_some made.bin.rule ≡ b → KnownMade bs made → AllByRecursion (KnownMade bs) (some_of made)
some_known bs made true e h = rw e (h, tt)
some_known bs made false e h = rw e tt

left_known : (bs : List BinsDecl) (all illegal : List (ℤ × ℤ)) (bins : List Made) → AllByRecursion (KnownMade bs) bins → AllByRecursion (KnownMade bs) (bins_left all illegal bins)
unfolding bins_left bin_left
left_known bs all illegal [] h = tt
left_known bs all illegal (made ∷ bins) h =
    let left : Made = record made { bin = bin_left all illegal made.bin } in
    all_append (KnownMade bs) (left_of all illegal made) (bins_left all illegal bins)
    (some_known bs left (has_some left.bin.rule) refl (kind_stays (in_array bs made.declared) made.bin.kind all illegal made.bin.rule h.0)) (left_known bs all illegal bins h.1)

pub by_known : (bs : List BinsDecl) (ignored illegal : List (ℤ × ℤ)) (bins : List Made) → AllByRecursion (KnownMade bs) bins → AllByRecursion (KnownMade bs) (left_by ignored illegal bins)
unfolding left_by
by_known bs ignored illegal bins h = left_known bs (set_of (written (ignored ++ illegal))) (set_of (written illegal)) bins h

-- ---- removal of transitions

-- a rule of a point, of which a sequence is left where it is one of transitions
abbrev pub HasSeq : (removing : List Seq) → BinRule → Type 0
HasSeq removing (Values set) = Unit {0}
HasSeq removing (Patterns patterns) = 1 ≤ length patterns
HasSeq removing (Trans seqs) = (cells_of_seqs seqs ≤ most_cells) × (has_seq_left removing seqs ≡ true)
HasSeq removing Default = Unit {0}
HasSeq removing (DefaultValues set) = Unit {0}
HasSeq removing DefaultSequence = Unit {0}
HasSeq removing (Picked select) = ⊥
HasSeq removing (Product members) = ⊥

abbrev pub MadeHasSeq : (ignored illegal : List Seq) → Made → Type 0
MadeHasSeq ignored illegal made = HasSeq (removing_of made.bin.kind ignored illegal) made.bin.rule

has_seq_of : (array : Bool) (kind : BinKind) (ignored illegal : List Seq) (rule : BinRule) → is_rule_left array (removing_of kind ignored illegal) rule ≡ true → IsKnown array kind rule → HasSeq (removing_of kind ignored illegal) rule
has_seq_of array kind ignored illegal (Values set) e h = tt
has_seq_of array kind ignored illegal (Patterns patterns) e h = h
has_seq_of array kind ignored illegal (Trans seqs) e h = (h.0, h.1 ignored illegal e)
has_seq_of array kind ignored illegal Default e h = tt
has_seq_of array kind ignored illegal (DefaultValues set) e h = tt
has_seq_of array kind ignored illegal DefaultSequence e h = tt
has_seq_of array kind ignored illegal (Picked select) e h = absurd h
has_seq_of array kind ignored illegal (Product members) e h = absurd h

made_has_seq : (bs : List BinsDecl) (ignored illegal : List Seq) (made : Made) → is_trans_left ignored illegal (in_array bs made.declared) made.bin ≡ true → KnownMade bs made → MadeHasSeq ignored illegal made
unfolding is_trans_left
made_has_seq bs ignored illegal made e h = has_seq_of (in_array bs made.declared) made.bin.kind ignored illegal made.bin.rule e h

one_left : (bs : List BinsDecl) (ignored illegal : List Seq) (made : Made) (bins : List Made) (b : Bool) → is_trans_left ignored illegal (in_array bs made.declared) made.bin ≡ b → KnownMade bs made
    → AllByRecursion (MadeHasSeq ignored illegal) (transitions_left bs ignored illegal bins) → AllByRecursion (MadeHasSeq ignored illegal) (transitions_left bs ignored illegal (made ∷ bins))
unfolding transitions_left
one_left bs ignored illegal made bins true e h rest = rw e (made_has_seq bs ignored illegal made e h, rest)
one_left bs ignored illegal made bins false e h rest = rw e rest

pub seqs_left : (bs : List BinsDecl) (ignored illegal : List Seq) (bins : List Made) → AllByRecursion (KnownMade bs) bins → AllByRecursion (MadeHasSeq ignored illegal) (transitions_left bs ignored illegal bins)
unfolding transitions_left
seqs_left bs ignored illegal [] h = tt
seqs_left bs ignored illegal (made ∷ bins) h = one_left bs ignored illegal made bins (is_trans_left ignored illegal (in_array bs made.declared) made.bin) refl h.0 (seqs_left bs ignored illegal bins h.1)
