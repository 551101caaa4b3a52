-- The bins of a cross that have something left, among all its bins.
use Rattle.std.proofs.Common.{◌≡◌, ℕ, ◌+◌, ◌≤◌, List, [], ◌∷◌, ◌++◌, length, map, refl, sym, subst, ap, ◌∙◌, Bool, true, false, ◌||◌, ◌&&◌, not, cond, arith}
use Rattle.std.specs.Prelude.{IsTrue}
use Rattle.std.specs.List.{AllByRecursion, list_any, list_all, flat_map}
use Rattle.std.proofs.Math.Bool.{or-false}
use Rattle.std.proofs.lemmas.List.{map-append}
use Rattle.std.proofs.lemmas.List.Folds.{list_any-append, list_all-append}
use Rattle.std.proofs.lemmas.List.Concat.{flat_map-append}
use Rattle.design_data.specs.declared.infos.BinInfo.{BinInfo}
use Rattle.design_data.specs.declared.infos.BinKind.{BinKind}
use Rattle.design_data.specs.declared.infos.BinKind.TheVariants.{CvgBin, IllegalBin, IgnoreBin, DefaultBin}
use Rattle.design_data.specs.declared.infos.BinRule.{BinRule}
use Rattle.design_data.specs.declared.infos.BinRule.TheVariants.{Values, Patterns, Trans, Default, DefaultValues, DefaultSequence, Picked, Product}
use Rattle.cross_select.specs.Selections.{is_selected}
use Rattle.design_data.specs.Crosses.{IsProduct, products, fits, picks, takes_from, leaves, is_left, has}
use Rattle.design_data.specs.Laws.{automatic_products, members_of, HasAutomatic}
use Rattle.design_data.specs.Limits.{IsCrossRule}
use Rattle.elab_base.proofs.Keeps.{and_first, and_second, all_append, all_as}
use Rattle.elab_values.specs.declared.made.Made.{Made}
use Rattle.elab_crosses.specs.Removal.{infos, takes, has_left, left_of, automatic_bin}
use Rattle.elab_crosses.proofs.Removing.{none_takes}
use Rattle.elab_crosses.proofs.Unpicked.{members_automatic}
use Rattle.elab_crosses.proofs.Members.{both_true, by_bool, same_bool, not_false, IsIn, in_each, some_in, any_as, filter_same, all_filter, all_map, products_are}

-- ---- what a bin selects, some bin that has something left selects

-- nothing takes from an illegal bin
leaves_illegal : (kind : BinKind) (b : Bool) → not (takes_from kind IllegalBin && b) ≡ true
leaves_illegal CvgBin b = refl
leaves_illegal IllegalBin b = refl
leaves_illegal IgnoreBin b = refl
leaves_illegal DefaultBin b = refl

left_illegal : (bins : List BinInfo) (product : List ℕ) → is_left bins IllegalBin product ≡ true
left_illegal [] product = refl
left_illegal (bin ∷ bins) product = both_true (leaves bin IllegalBin product) (is_left bins IllegalBin product) (leaves_illegal bin.kind (picks product bin.rule)) (left_illegal bins product)

-- what takes from a bin that takes itself is illegal
taker : (first second kind : BinKind) → takes_from first second ≡ true → takes_from second kind ≡ true → first ≡ IllegalBin
taker CvgBin second kind e f = absurd cc
taker DefaultBin second kind e f = absurd cc
taker IllegalBin second kind e f = refl
taker IgnoreBin CvgBin kind e f = absurd cc
taker IgnoreBin IllegalBin kind e f = absurd cc
taker IgnoreBin IgnoreBin kind e f = absurd cc
taker IgnoreBin DefaultBin kind e f = absurd cc

taken : (bins : List BinInfo) (kind : BinKind) (product : List ℕ) → is_left bins kind product ≡ false → list_any (takes kind product) bins ≡ true
taken bins kind product e = not_false (list_any (takes kind product) bins) (none_takes kind product bins ∙ e)

-- the bin has something left, and selects the product
abbrev kept_picks : (sizes : List ℕ) → List BinInfo → (product : List ℕ) → BinInfo → Bool
kept_picks sizes bins product bin = has_left sizes bins bin && picks product bin.rule

covered_left : (sizes : List ℕ) (bins : List BinInfo) (product : List ℕ) (bin : BinInfo) → IsIn product (products sizes) → IsIn bin bins → picks product bin.rule ≡ true → is_left bins bin.kind product ≡ true → list_any (kept_picks sizes bins product) bins ≡ true
covered_left sizes bins product bin among stands picked left =
    let some : has_left sizes bins bin ≡ true =
    among (λ p. picks p bin.rule && is_left bins bin.kind p) (both_true (picks product bin.rule) (is_left bins bin.kind product) picked left) in
    stands (kept_picks sizes bins product) (both_true (has_left sizes bins bin) (picks product bin.rule) some picked)

-- a bin that takes the product from others: what takes it from this one is illegal
covered_taker : (sizes : List ℕ) (bins : List BinInfo) (product : List ℕ) (bin : BinInfo) (kind : BinKind) → IsIn product (products sizes) → IsIn bin bins → takes kind product bin ≡ true → list_any (kept_picks sizes bins product) bins ≡ true
covered_taker sizes bins product bin kind among stands e =
    by_bool (is_left bins bin.kind product) (covered_left sizes bins product bin among stands (and_second (takes_from bin.kind kind) (picks product bin.rule) e))
    (λ gone. some_in (takes bin.kind product) bins (λ other stands' f.
    covered_left sizes bins product other among stands' (and_second (takes_from other.kind bin.kind) (picks product other.rule) f)
    (subst (λ (k : BinKind). is_left bins k product ≡ true) (sym (taker other.kind bin.kind kind (and_first (takes_from other.kind bin.kind) (picks product other.rule) f) (and_first (takes_from bin.kind kind) (picks product bin.rule) e))) (left_illegal bins product)))
    (taken bins bin.kind product gone))

covered : (sizes : List ℕ) (bins : List BinInfo) (product : List ℕ) → IsIn product (products sizes) → list_any (λ bin. picks product bin.rule) bins ≡ true → list_any (kept_picks sizes bins product) bins ≡ true
covered sizes bins product among e =
    some_in (λ bin. picks product bin.rule) bins (λ bin stands picked.
    by_bool (is_left bins bin.kind product) (covered_left sizes bins product bin among stands picked)
    (λ gone. some_in (takes bin.kind product) bins (λ other stands' f. covered_taker sizes bins product other bin.kind among stands' f) (taken bins bin.kind product gone))) e

-- ---- the bins that have something left

kept_any_by : (b : Bool) (test : BinInfo → Bool) (made : Made) (ms : List Made) (rest : Bool) → list_any test (infos ms) ≡ rest → list_any test (infos (cond b (made ∷ []) [] ++ ms)) ≡ ((b && test made.bin) || rest)
kept_any_by true test made ms rest e = ap (λ (r : Bool). test made.bin || r) e
kept_any_by false test made ms rest e = e

kept_any : (sizes : List ℕ) (bins : List BinInfo) (test : BinInfo → Bool) (ms : List Made) → list_any test (infos (flat_map (left_of sizes bins) ms)) ≡ list_any (λ bin. has_left sizes bins bin && test bin) (infos ms)
kept_any sizes bins test [] = refl
kept_any sizes bins test (made ∷ ms) =
    kept_any_by (has_left sizes bins made.bin) test made (flat_map (left_of sizes bins) ms) (list_any (λ bin. has_left sizes bins bin && test bin) (infos ms)) (kept_any sizes bins test ms)

kept_all_by : (b : Bool) (test : BinInfo → Bool) (made : Made) (ms : List Made) → test made.bin ≡ true → list_all test (infos ms) ≡ true → list_all test (infos (cond b (made ∷ []) [] ++ ms)) ≡ true
kept_all_by true test made ms here e = both_true (test made.bin) (list_all test (infos ms)) here e
kept_all_by false test made ms here e = e

kept_all : (sizes : List ℕ) (bins : List BinInfo) (test : BinInfo → Bool) (ms : List Made) → list_all test (infos ms) ≡ true → list_all test (infos (flat_map (left_of sizes bins) ms)) ≡ true
kept_all sizes bins test [] e = refl
kept_all sizes bins test (made ∷ ms) e =
    kept_all_by (has_left sizes bins made.bin) test made (flat_map (left_of sizes bins) ms) (and_first (test made.bin) (list_all test (infos ms)) e)
    (kept_all sizes bins test ms (and_second (test made.bin) (list_all test (infos ms)) e))

kept_few_by : (b : Bool) (made : Made) (ms : List Made) (n : ℕ) → length ms ≤ n → length (cond b (made ∷ []) [] ++ ms) ≤ n + 1
kept_few_by true made ms n le = omega (arith, le)
kept_few_by false made ms n le = omega (arith, le)

pub kept_few : (sizes : List ℕ) (bins : List BinInfo) (ms : List Made) → length (flat_map (left_of sizes bins) ms) ≤ length ms
kept_few sizes bins [] = omega arith
kept_few sizes bins (made ∷ ms) =
    let h = kept_few_by (has_left sizes bins made.bin) made (flat_map (left_of sizes bins) ms) (length ms) (kept_few sizes bins ms) in omega (arith, h)

-- ---- with the automatic bins behind them

-- all bins of a cross: what is left of the declared ones, and the automatic ones of some products
abbrev pub all_bins : (sizes : List ℕ) → List Made → (names : List (List (List ℕ))) → (at : ℕ) → (ps : List (List ℕ)) → List Made
all_bins sizes ms names at ps = flat_map (left_of sizes (infos ms)) ms ++ map (automatic_bin names at) ps

none_picks : (names : List (List (List ℕ))) (at : ℕ) (ps : List (List ℕ)) (product : List ℕ) → list_any (λ bin. picks product bin.rule) (infos (map (automatic_bin names at) ps)) ≡ false
none_picks names at [] product = refl
none_picks names at (p ∷ ps) product = none_picks names at ps product

all_leave : (names : List (List (List ℕ))) (at : ℕ) (ps : List (List ℕ)) (kind : BinKind) (product : List ℕ) → is_left (infos (map (automatic_bin names at) ps)) kind product ≡ true
all_leave names at [] kind product = refl
all_leave names at (p ∷ ps) kind product = all_leave names at ps kind product

infos_append : (ms more : List Made) → infos (ms ++ more) ≡ infos ms ++ infos more
infos_append ms more = map-append (λ (m : Made). m.bin) ms more

-- all bins together select what the declared ones select
same_picked : (sizes : List ℕ) (ms : List Made) (names : List (List (List ℕ))) (at : ℕ) (ps : List (List ℕ)) (product : List ℕ) → IsIn product (products sizes)
    → list_any (λ bin. picks product bin.rule) (infos (all_bins sizes ms names at ps)) ≡ list_any (λ bin. picks product bin.rule) (infos ms)
same_picked sizes ms names at ps product among =
    let test = λ (bin : BinInfo). picks product bin.rule in
    let kept = flat_map (left_of sizes (infos ms)) ms in
    let automatic = map (automatic_bin names at) ps in
    ap (list_any test) (infos_append kept automatic)
    ∙ (list_any-append test (infos kept) (infos automatic)
    ∙ (ap (λ (b : Bool). list_any test (infos kept) || b) (none_picks names at ps product)
    ∙ (or-false (list_any test (infos kept))
    ∙ (kept_any sizes (infos ms) test ms
    ∙ same_bool (list_any (kept_picks sizes (infos ms) product) (infos ms)) (list_any test (infos ms))
    (any_as (kept_picks sizes (infos ms) product) test (infos ms) (λ bin. and_second (has_left sizes (infos ms) bin) (picks product bin.rule)))
    (covered sizes (infos ms) product among)))))

same_automatic : (sizes : List ℕ) (ms : List Made) (names : List (List (List ℕ))) (at : ℕ) (ps : List (List ℕ)) → automatic_products sizes (infos (all_bins sizes ms names at ps)) ≡ automatic_products sizes (infos ms)
same_automatic sizes ms names at ps =
    filter_same (λ product. not (list_any (λ bin. picks product bin.rule) (infos (all_bins sizes ms names at ps)))) (λ product. not (list_any (λ bin. picks product bin.rule) (infos ms))) (products sizes)
    (in_each (λ product. not (list_any (λ bin. picks product bin.rule) (infos (all_bins sizes ms names at ps))) ≡ not (list_any (λ bin. picks product bin.rule) (infos ms))) (products sizes) (λ product among. ap not (same_picked sizes ms names at ps product among)))

-- all bins together leave what the declared ones leave
left_by_all : (sizes : List ℕ) (ms : List Made) (names : List (List (List ℕ))) (at : ℕ) (ps : List (List ℕ)) (kind : BinKind) (product : List ℕ) → is_left (infos ms) kind product ≡ true → is_left (infos (all_bins sizes ms names at ps)) kind product ≡ true
left_by_all sizes ms names at ps kind product e =
    let test = λ (bin : BinInfo). leaves bin kind product in
    let kept = flat_map (left_of sizes (infos ms)) ms in
    let automatic = map (automatic_bin names at) ps in
    ap (list_all test) (infos_append kept automatic)
    ∙ (list_all-append test (infos kept) (infos automatic) ∙ both_true (list_all test (infos kept)) (list_all test (infos automatic)) (kept_all sizes (infos ms) test ms e) (all_leave names at ps kind product))

-- ---- rules

-- the rule of a declared bin, whose selection fits the crossed points
abbrev pub HasSelection : (sizes : List ℕ) → BinRule → Type 0
HasSelection sizes (Values set) = ⊥
HasSelection sizes (Patterns patterns) = ⊥
HasSelection sizes (Trans seqs) = ⊥
HasSelection sizes Default = ⊥
HasSelection sizes (DefaultValues set) = ⊥
HasSelection sizes DefaultSequence = ⊥
HasSelection sizes (Picked select) = IsTrue (fits sizes select)
HasSelection sizes (Product members) = ⊥

abbrev pub AreDeclared : (sizes : List ℕ) → List Made → Type 0
AreDeclared sizes ms = AllByRecursion (λ made. HasSelection sizes made.bin.rule) ms

-- it has something left
abbrev IsKept : (sizes : List ℕ) → List BinInfo → Made → Type 0
IsKept sizes bins made = HasSelection sizes made.bin.rule × (has_left sizes bins made.bin ≡ true)

are_kept_by : (sizes : List ℕ) (bins : List BinInfo) (made : Made) (ms : List Made) (b : Bool) → has_left sizes bins made.bin ≡ b → HasSelection sizes made.bin.rule → AllByRecursion (IsKept sizes bins) ms → AllByRecursion (IsKept sizes bins) (cond b (made ∷ []) [] ++ ms)
are_kept_by sizes bins made ms true is here all = ((here, is), all)
are_kept_by sizes bins made ms false is here all = all

are_kept : (sizes : List ℕ) (bins : List BinInfo) (ms : List Made) → AreDeclared sizes ms → AllByRecursion (IsKept sizes bins) (flat_map (left_of sizes bins) ms)
are_kept sizes bins [] all = tt
are_kept sizes bins (made ∷ ms) all = are_kept_by sizes bins made (flat_map (left_of sizes bins) ms) (has_left sizes bins made.bin) refl all.0 (are_kept sizes bins ms all.1)

kept_rule : (sizes : List ℕ) (bins all : List BinInfo) (kind : BinKind) (rule : BinRule) → ((product : List ℕ) → is_left bins kind product ≡ true → is_left all kind product ≡ true) → HasSelection sizes rule
    → list_any (λ product. picks product rule && is_left bins kind product) (products sizes) ≡ true → IsCrossRule sizes all kind rule
kept_rule sizes bins all kind (Values set) more fit left = fit
kept_rule sizes bins all kind (Patterns patterns) more fit left = fit
kept_rule sizes bins all kind (Trans seqs) more fit left = fit
kept_rule sizes bins all kind Default more fit left = fit
kept_rule sizes bins all kind (DefaultValues set) more fit left = fit
kept_rule sizes bins all kind DefaultSequence more fit left = fit
kept_rule sizes bins all kind (Picked select) more fit left = (
  fit,
  any_as (λ product. is_selected select product && is_left bins kind product) (has all kind (Picked select)) (products sizes)
      (λ product both. both_true (is_selected select product) (is_left all kind product) (and_first (is_selected select product) (is_left bins kind product) both) (more product (and_second (is_selected select product) (is_left bins kind product) both))) left,
)
kept_rule sizes bins all kind (Product members) more fit left = absurd fit

no_members : (sizes : List ℕ) (rule : BinRule) → HasSelection sizes rule → members_of rule ≡ []
no_members sizes (Values set) fit = absurd fit
no_members sizes (Patterns patterns) fit = absurd fit
no_members sizes (Trans seqs) fit = absurd fit
no_members sizes Default fit = absurd fit
no_members sizes (DefaultValues set) fit = absurd fit
no_members sizes DefaultSequence fit = absurd fit
no_members sizes (Picked select) fit = refl
no_members sizes (Product members) fit = absurd fit

none_automatic : (sizes : List ℕ) (bins : List BinInfo) (ms : List Made) → AllByRecursion (IsKept sizes bins) ms → flat_map (λ bin. members_of bin.rule) (infos ms) ≡ []
none_automatic sizes bins [] all = refl
none_automatic sizes bins (made ∷ ms) all =
    let rest = none_automatic sizes bins ms all.1 in
    let here = no_members sizes made.bin.rule all.0.0 in λ i. here i ++ rest i

-- ---- of all bins

-- each bin has some product left, or is that of a product
pub rules_of_all : (sizes : List ℕ) (ms : List Made) (names : List (List (List ℕ))) (at : ℕ) → AreDeclared sizes ms
    → AllByRecursion (λ bin. IsCrossRule sizes (infos (all_bins sizes ms names at (automatic_products sizes (infos ms)))) bin.kind bin.rule) (infos (all_bins sizes ms names at (automatic_products sizes (infos ms))))
rules_of_all sizes ms names at declared =
    let ps = automatic_products sizes (infos ms) in
    let all = infos (all_bins sizes ms names at ps) in
    let kept = flat_map (left_of sizes (infos ms)) ms in
    let Right = λ (made : Made). IsCrossRule sizes all made.bin.kind made.bin.rule in
    let first : AllByRecursion Right kept = all_as (IsKept sizes (infos ms)) Right (λ made is. kept_rule sizes (infos ms) all made.bin.kind made.bin.rule (left_by_all sizes ms names at ps made.bin.kind) is.0 is.1) kept (are_kept sizes (infos ms) ms declared) in
    let members : AllByRecursion (IsProduct sizes) ps = all_filter (IsProduct sizes) (λ product. not (list_any (λ bin. picks product bin.rule) (infos ms))) (products sizes) (products_are sizes) in
    let second : AllByRecursion Right (map (automatic_bin names at) ps) = all_map Right (automatic_bin names at) ps members in
    all_map (λ bin. IsCrossRule sizes all bin.kind bin.rule) (λ (made : Made). made.bin) (all_bins sizes ms names at ps) (all_append Right kept (map (automatic_bin names at) ps) first second)

-- their automatic bins are those of the products that no bin among them selects
pub automatic_of_all : (sizes : List ℕ) (ms : List Made) (names : List (List (List ℕ))) (at : ℕ) → AreDeclared sizes ms → HasAutomatic sizes (infos (all_bins sizes ms names at (automatic_products sizes (infos ms))))
automatic_of_all sizes ms names at declared =
    let ps = automatic_products sizes (infos ms) in
    let members = λ (bins : List BinInfo). flat_map (λ bin. members_of bin.rule) bins in
    let kept = flat_map (left_of sizes (infos ms)) ms in
    let automatic = map (automatic_bin names at) ps in
    ap members (infos_append kept automatic)
    ∙ (flat_map-append (λ bin. members_of bin.rule) (infos kept) (infos automatic)
    ∙ (ap (λ (qs : List (List ℕ)). qs ++ members (infos automatic)) (none_automatic sizes (infos ms) kept (are_kept sizes (infos ms) ms declared))
    ∙ (members_automatic names at ps ∙ sym (same_automatic sizes ms names at ps))))
