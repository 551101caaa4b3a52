-- Removal takes exactly what ignore and illegal bins list.
use Rattle.std.proofs.Common.{◌≡◌, ◌∙◌, ℤ, List, [], ◌∷◌, ◌++◌, refl, sym, ap, subst, Bool, true, false}
use Rattle.std.specs.Prelude.{not, ◌&&◌, ◌||◌}
use Rattle.std.specs.List.{AllByRecursion}
use Rattle.std.proofs.lemmas.List.{append_assoc}
use Rattle.cov_base.specs.Sets.{written, set_of, without, is_in}
use Rattle.cov_base.proofs.Members.{is_in-without}
use Rattle.cov_base.proofs.Runs.{set_of_numbers}
use Rattle.cov_tree.specs.declared.bins.BinsDecl.{BinsDecl}
use Rattle.trans_seq.specs.declared.seq.Seq.{Seq}
use Rattle.elab_transitions.specs.Removal.{is_trans_left}
use Rattle.design_data.specs.declared.infos.BinKind.{BinKind}
use Rattle.design_data.specs.declared.infos.BinKind.TheVariants.{CvgBin, IllegalBin, IgnoreBin, DefaultBin}
use Rattle.design_data.specs.declared.infos.BinRule.{BinRule}
use Rattle.design_data.specs.declared.infos.BinRule.TheVariants.{Values, Patterns, Trans, Default, DefaultValues, DefaultSequence, Picked, Product}
use Rattle.elab_base.proofs.Keeps.{bind_ok, ok_is}
use Rattle.elab_values.specs.declared.made.Made.{Made}
use Rattle.elab_values.specs.declared.made.PointBins.{PointBins}
use Rattle.elab_bins.specs.Declarations.{is_ignore, is_illegal, bins_walked}
use Rattle.elab_bins.specs.Automatic.{with_automatic}
use Rattle.elab_bins.specs.Laws.{lists_for, is_taken, lists_left, IsBinLeft, AreOneLeft, AreLeftOf, RemovalIsExact}
use Rattle.elab_bins.specs.Left.{set_left, rule_left, kind_left, bin_left, has_some, left_of, bins_left, left_by, point_left, walked_left, bins_of_point}
use Rattle.elab_bins.specs.Rest.{all_filled, unlisted}
use Rattle.elab_bins.specs.Transitions.{in_array, trans_left_of, transitions_left}
use Rattle.elab_bins.specs.Wildcards.{manner_of, keeps_patterns}
use Rattle.elab_bins.proofs.Clean.{MayStand, MadeStands, walked_clean, undeclared_clean, filled_stand}
use Rattle.elab_bins.proofs.Tracked.{rule_lists, Tracks, nothing_listed, written_more, walked_tracks, undeclared_tracks, tracks_all, filled_is, declared_is, dropped_lists}

-- ---- one rule

and_true : (a : Bool) → a ≡ (a && true)
and_true true = refl
and_true false = refl

set_exact : (removed set : List (ℤ × ℤ)) (v : ℤ) (b : Bool) → is_in (written removed) v ≡ b → is_in (written (set_left removed set)) v ≡ (is_in (written set) v && not b)
set_exact removed set v b e = set_of_numbers (without (written set) (written removed)) v ∙ (is_in-without (written set) (written removed) v ∙ ap (λ (c : Bool). is_in (written set) v && not c) e)

-- where patterns stand, nothing is removed
abbrev IsFree : BinRule → Bool → Type 0
IsFree (Patterns patterns) b = b ≡ false
IsFree (Values set) b = Unit {0}
IsFree (Trans seqs) b = Unit {0}
IsFree Default b = Unit {0}
IsFree (DefaultValues set) b = Unit {0}
IsFree DefaultSequence b = Unit {0}
IsFree (Picked select) b = Unit {0}
IsFree (Product members) b = Unit {0}

rule_exact : (removed : List (ℤ × ℤ)) (rule : BinRule) (v : ℤ) (b : Bool) → IsFree rule b → is_in (written removed) v ≡ b → rule_lists v (rule_left removed rule) ≡ (rule_lists v rule && not b)
unfolding rule_left
rule_exact removed (Values set) v b free e = set_exact removed set v b e
rule_exact removed (Patterns patterns) v b free e = and_true (rule_lists v (Patterns patterns)) ∙ ap (λ (c : Bool). rule_lists v (Patterns patterns) && not c) (sym free)
rule_exact removed (Trans seqs) v b free e = refl
rule_exact removed Default v b free e = refl
rule_exact removed (DefaultValues set) v b free e = refl
rule_exact removed DefaultSequence v b free e = refl
rule_exact removed (Picked select) v b free e = refl
rule_exact removed (Product members) v b free e = refl

-- ---- one bin

-- the sets that are removed have what is taken
record Takes (all illegal : List (ℤ × ℤ)) (bins : List Made) : Type 0 where
  pub both : (v : ℤ) → is_in (written all) v ≡ (lists_for is_ignore bins v || lists_for is_illegal bins v)
  pub forbidden : (v : ℤ) → is_in (written illegal) v ≡ lists_for is_illegal bins v

free_left : (rule : BinRule) (kind : BinKind) (bins : List Made) (v : ℤ) → ((taken : BinKind) → IsFree rule (is_taken bins taken v)) → IsFree rule (is_taken bins kind v)
free_left rule kind bins v free = free kind

kind_exact : (all illegal : List (ℤ × ℤ)) (bins : List Made) (kind : BinKind) (rule : BinRule) (v : ℤ) → Takes all illegal bins → IsFree rule (is_taken bins kind v) → rule_lists v (kind_left kind all illegal rule) ≡ (rule_lists v rule && not (is_taken bins kind v))
kind_exact all illegal bins CvgBin rule v t free = rule_exact all rule v (is_taken bins CvgBin v) free (t.both v)
kind_exact all illegal bins IgnoreBin rule v t free = rule_exact illegal rule v (is_taken bins IgnoreBin v) free (t.forbidden v)
kind_exact all illegal bins IllegalBin rule v t free = and_true (rule_lists v rule)
kind_exact all illegal bins DefaultBin rule v t free = and_true (rule_lists v rule)

-- what removal by numbers and then by transitions leaves of one bin
kept : (all none : List (ℤ × ℤ)) (taken : BinKind → ℤ → Bool) (made : Made) → ((v : ℤ) → rule_lists v (bin_left all none made.bin).rule ≡ lists_left taken made v) → IsBinLeft taken made (record made { bin = bin_left all none made.bin })
unfolding bin_left
kept all none taken made is = record { name = refl; kind = refl; numbers = is }

one_left : (bs : List BinsDecl) (ignored illegal : List Seq) (all none : List (ℤ × ℤ)) (taken : BinKind → ℤ → Bool) (made : Made) (b c : Bool)
    → ((v : ℤ) → rule_lists v (bin_left all none made.bin).rule ≡ lists_left taken made v) → has_some (bin_left all none made.bin).rule ≡ b → is_trans_left ignored illegal (in_array bs made.declared) (bin_left all none made.bin) ≡ c
    → AreOneLeft taken made (transitions_left bs ignored illegal (left_of all none made))
unfolding transitions_left
one_left bs ignored illegal all none taken made false c is some left = rw some (λ v. sym (is v) ∙ nothing_listed (bin_left all none made.bin).rule v some)
one_left bs ignored illegal all none taken made true true is some left = rw (some, left) (kept all none taken made is)
one_left bs ignored illegal all none taken made true false is some left = rw (some, left) (λ v. sym (is v) ∙ dropped_lists bs ignored illegal (record made { bin = bin_left all none made.bin }) v left)

-- ---- all bins

trans_append : (bs : List BinsDecl) (ignored illegal : List Seq) (xs ys : List Made) → transitions_left bs ignored illegal (xs ++ ys) ≡ transitions_left bs ignored illegal xs ++ transitions_left bs ignored illegal ys
unfolding transitions_left
trans_append bs ignored illegal [] ys = refl
trans_append bs ignored illegal (x ∷ xs) ys = ap (λ (zs : List Made). trans_left_of bs ignored illegal x ++ zs) (trans_append bs ignored illegal xs ys) ∙ sym (append_assoc (trans_left_of bs ignored illegal x) (transitions_left bs ignored illegal xs) (transitions_left bs ignored illegal ys))

none_trans : (bs : List BinsDecl) (ignored illegal : List Seq) → transitions_left bs ignored illegal [] ≡ []
unfolding transitions_left
none_trans bs ignored illegal = refl

all_left : (bs : List BinsDecl) (ignored illegal : List Seq) (all none : List (ℤ × ℤ)) (taken : BinKind → ℤ → Bool) (bins : List Made) → AllByRecursion (λ made. (v : ℤ) → rule_lists v (bin_left all none made.bin).rule ≡ lists_left taken made v) bins
    → AreLeftOf taken bins (transitions_left bs ignored illegal (bins_left all none bins))
unfolding bins_left
all_left bs ignored illegal all none taken [] are = none_trans bs ignored illegal
all_left bs ignored illegal all none taken (made ∷ bins) are = (
  transitions_left bs ignored illegal (left_of all none made),
  transitions_left bs ignored illegal (bins_left all none bins),
  trans_append bs ignored illegal (left_of all none made) (bins_left all none bins),
  one_left bs ignored illegal all none taken made (has_some (bin_left all none made.bin).rule) (is_trans_left ignored illegal (in_array bs made.declared) (bin_left all none made.bin)) are.0 refl refl,
  all_left bs ignored illegal all none taken bins are.1,
)

-- patterns stand where nothing is taken
rule_free : (patterns : Bool) (rule : BinRule) (b : Bool) → (patterns ≡ true → b ≡ false) → MayStand patterns rule → IsFree rule b
rule_free patterns (Values set) b none stands = tt
rule_free patterns (Patterns ps) b none stands = none stands
rule_free patterns (Trans seqs) b none stands = tt
rule_free patterns Default b none stands = tt
rule_free patterns (DefaultValues set) b none stands = tt
rule_free patterns DefaultSequence b none stands = tt
rule_free patterns (Picked select) b none stands = tt
rule_free patterns (Product members) b none stands = tt

each_exact : (patterns : Bool) (all illegal : List (ℤ × ℤ)) (bins some : List Made) → Takes all illegal bins → (patterns ≡ true → (kind : BinKind) (v : ℤ) → is_taken bins kind v ≡ false) → AllByRecursion (MadeStands patterns) some
    → AllByRecursion (λ made. (v : ℤ) → rule_lists v (bin_left all illegal made.bin).rule ≡ lists_left (is_taken bins) made v) some
unfolding bin_left
each_exact patterns all illegal bins [] t none stand = tt
each_exact patterns all illegal bins (made ∷ some) t none stand = (
  λ v. kind_exact all illegal bins made.bin.kind made.bin.rule v t (rule_free patterns made.bin.rule (is_taken bins made.bin.kind v) (λ is. none is made.bin.kind v) stand.0),
  each_exact patterns all illegal bins some t none stand.1,
)

-- ---- a point

takes : (ignored illegal : List (ℤ × ℤ)) (bins : List Made) → Tracks ignored illegal bins → Takes (set_of (written (ignored ++ illegal))) (set_of (written illegal)) bins
takes ignored illegal bins t = record {
  both = λ v. set_of_numbers (written (ignored ++ illegal)) v ∙ (written_more ignored illegal v ∙ either (t.ignores v) (t.forbids v));
  forbidden = λ v. set_of_numbers (written illegal) v ∙ t.forbids v;
}
  where
    either : {a b c d : Bool} → a ≡ c → b ≡ d → (a || b) ≡ (c || d)
    either e f = λ i. e i || f i

none_in : (v : ℤ) → is_in (written []) v ≡ false
unfolding written
none_in v = refl

none_taken : (ignored illegal : List (ℤ × ℤ)) (bins : List Made) → Tracks ignored illegal bins → ignored ≡ [] → illegal ≡ [] → (kind : BinKind) (v : ℤ) → is_taken bins kind v ≡ false
none_taken ignored illegal bins t e f kind v =
    let calm : lists_for is_ignore bins v ≡ false = sym (t.ignores v) ∙ (ap (λ (rs : List (ℤ × ℤ)). is_in (written rs) v) e ∙ none_in v) in
    let non : lists_for is_illegal bins v ≡ false = sym (t.forbids v) ∙ (ap (λ (rs : List (ℤ × ℤ)). is_in (written rs) v) f ∙ none_in v) in
    by kind calm non
  where
    by : (kind : BinKind) → lists_for is_ignore bins v ≡ false → lists_for is_illegal bins v ≡ false → is_taken bins kind v ≡ false
    by CvgBin calm non = rw (calm, non) refl
    by IgnoreBin calm non = non
    by IllegalBin calm non = refl
    by DefaultBin calm non = refl

pub removal_exact : RemovalIsExact
unfolding bins_of_point walked_left left_by
removal_exact levels domain name settings bs at found e =
    let d = bind_ok (bins_walked levels domain name (manner_of domain settings bs) bs) _ found e in
    let w = bind_ok (with_automatic domain settings bs at d.0) _ found d.2 in
    let all = bind_ok (all_filled domain w.0.listed w.0.entries w.0.count) _ found w.2 in
    let rest = unlisted domain w.0.listed in
    let is = filled_is domain w.0.listed w.0.entries w.0.count all.0 all.1 in
    let t = tracks_all rest w.0 all.0 is (undeclared_tracks domain settings bs at d.0 w.0 w.1 (walked_tracks levels domain name (manner_of domain settings bs) bs d.0 d.1)) in
    let patterns = keeps_patterns domain settings bs in
    let clean = undeclared_clean patterns domain settings bs at d.0 w.0 w.1 (walked_clean levels domain name settings bs d.0 d.1) in
    let stand = subst (AllByRecursion (MadeStands patterns)) is (filled_stand patterns rest w.0.entries clean.stand) in
    let each = each_exact patterns (set_of (written (w.0.ignored ++ w.0.illegal))) (set_of (written w.0.illegal)) all.0 all.0 (takes w.0.ignored w.0.illegal all.0 t) (λ yes'. none_taken w.0.ignored w.0.illegal all.0 t (clean.ignored yes') (clean.illegal yes')) stand in
    let left = all_left bs w.0.ignored_seqs w.0.illegal_seqs (set_of (written (w.0.ignored ++ w.0.illegal))) (set_of (written w.0.illegal)) (is_taken all.0) all.0 each in
    (all.0, declared_is levels domain name settings bs at d.0 w.0 all.0 d.1 w.1 all.1, subst (λ (f : PointBins). AreLeftOf (is_taken all.0) all.0 f.bins) (ok_is (point_left bs w.0 all.0) found all.2) left)
