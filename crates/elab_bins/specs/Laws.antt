-- Laws of a point's bins, above their definition (IEEE 1800-2017, 19.5.1, 19.5.5 and 19.5.6).
use Rattle.std.specs.Prelude.{◌≡◌, ℕ, ◌<◌, ◌≤◌, ℤ, ◌<ℤ◌, List, [], ◌∷◌, ◌++◌, map, Bool, true, false, not, ◌&&◌, ◌||◌, Option, Some, Result, Ok}
use Rattle.std.specs.List.{flat_map, list_any, AllByRecursion}
use Rattle.cov_base.specs.Sets.{IsInt, span, written, is_in, ascending}
use Rattle.bin_spec.specs.Parts.{parts}
use Rattle.bin_spec.specs.Types.{domain as domain_of}
use Rattle.auto_bins.specs.Automatic.{automatic_ranges}
use Rattle.cov_tree.specs.declared.bins.BinsDecl.{BinsDecl}
use Rattle.const_eval.specs.Terms.{Term}
use Rattle.const_eval.specs.Scopes.{Levels}
use Rattle.design_data.specs.declared.infos.BinKind.{BinKind}
use Rattle.design_data.specs.declared.infos.BinKind.TheVariants.{CvgBin, IllegalBin, IgnoreBin, DefaultBin}
use Rattle.design_data.specs.Laws.{lists, KeepsListed}
use Rattle.elab_base.specs.Gives.{Refusal, ◌>>=◌}
use Rattle.elab_values.specs.declared.domain.Domain.{Domain}
use Rattle.elab_values.specs.declared.made.Made.{Made}
use Rattle.elab_values.specs.declared.made.PointBins.{PointBins}
use Rattle.elab_values.specs.declared.made.Settings.{Settings}
use Rattle.elab_bins.specs.Automatic.{with_automatic}
use Rattle.elab_bins.specs.declared.plans.Head.{Head}
use Rattle.elab_bins.specs.declared.plans.Plan.{Plan}
use Rattle.elab_bins.specs.declared.plans.Wanted.{Wanted}
use Rattle.elab_bins.specs.Made.{planned, bins_made}
use Rattle.elab_bins.specs.Declarations.{is_ignore, is_illegal, bins_walked}
use Rattle.elab_bins.specs.Left.{bins_of_point}
use Rattle.elab_bins.specs.declared.walked.Entry.TheVariants.{Rest}
use Rattle.elab_bins.specs.Rest.{entry_bins, all_filled}
use Rattle.elab_bins.specs.Wildcards.{manner_of}

-- all bins of a point, its automatic ones too, before anything is removed
unfoldable pub bins_declared_in : Levels → Domain → (name : List ℕ) → Settings → List BinsDecl → (at : ℕ) → Result (List Made) Refusal
bins_declared_in levels domain name settings bs at = do
  declared ← bins_walked levels domain name (manner_of domain settings bs) bs
  w ← with_automatic domain settings bs at declared
  all_filled domain w.listed w.entries w.count

-- What ignore and illegal bins remove stays listed in one of them: the sets left have the numbers of those declared.
abbrev pub RemovalKeepsListed : Type 0
RemovalKeepsListed = (levels : Levels) (domain : Domain) (name : List ℕ) (settings : Settings) (bs : List BinsDecl) (at : ℕ) (found : PointBins) → bins_of_point levels domain name settings bs at ≡ Ok found
    → (bins : List Made) × (bins_declared_in levels domain name settings bs at ≡ Ok bins) × KeepsListed (map (λ made. made.bin.rule) bins) (map (λ made. made.bin) found.bins)

-- ---- what removal takes

-- a bin of these kinds lists the number
abbrev pub lists_for : (BinKind → Bool) → List Made → ℤ → Bool
lists_for kinds bins v = list_any (λ made. kinds made.bin.kind && lists (Some v) made.bin.rule) bins

-- the numbers that bins of a point take from those of a kind: ignore bins take theirs from coverage bins, and illegal bins
-- from coverage and ignore bins
abbrev pub is_taken : List Made → BinKind → ℤ → Bool
is_taken bins CvgBin v = lists_for is_ignore bins v || lists_for is_illegal bins v
is_taken bins IgnoreBin v = lists_for is_illegal bins v
is_taken bins IllegalBin v = false
is_taken bins DefaultBin v = false

-- what a bin lists, but for what is taken from its kind
abbrev pub lists_left : (taken : BinKind → ℤ → Bool) → Made → ℤ → Bool
lists_left taken made v = lists (Some v) made.bin.rule && not (taken made.bin.kind v)

pub record IsBinLeft (taken : BinKind → ℤ → Bool) (made left : Made) : Type 0 where
  pub name : left.bin.name ≡ made.bin.name
  pub kind : left.bin.kind ≡ made.bin.kind
  pub numbers : (v : ℤ) → lists (Some v) left.bin.rule ≡ lists_left taken made v

-- Of a bin either one is left, which has its name and its kind and lists exactly what isn't taken, or none, and then all
-- that it lists is taken.
abbrev pub AreOneLeft : (taken : BinKind → ℤ → Bool) → Made → List Made → Type 0
AreOneLeft taken made [] = (v : ℤ) → lists_left taken made v ≡ false
AreOneLeft taken made (left ∷ []) = IsBinLeft taken made left
AreOneLeft taken made (left ∷ next ∷ more) = ⊥

-- of each bin, in order, what is left
abbrev pub AreLeftOf : (taken : BinKind → ℤ → Bool) → List Made → List Made → Type 0
AreLeftOf taken [] left = left ≡ []
AreLeftOf taken (made ∷ bins) left = (one : List Made) × (rest : List Made) × (left ≡ one ++ rest) × AreOneLeft taken made one × AreLeftOf taken bins rest

-- After removal no coverage or ignore bin of a point lists a number that an illegal bin lists, and no coverage bin one that
-- an ignore bin lists; removal takes no other number away.
abbrev pub RemovalIsExact : Type 0
RemovalIsExact = (levels : Levels) (domain : Domain) (name : List ℕ) (settings : Settings) (bs : List BinsDecl) (at : ℕ) (found : PointBins) → bins_of_point levels domain name settings bs at ≡ Ok found
    → (bins : List Made) × (bins_declared_in levels domain name settings bs at ≡ Ok bins) × AreLeftOf (is_taken bins) bins found.bins

-- ---- `b[n]` and `b[]`

-- The parts of `b[n]` one after the other are the listed numbers: together they have exactly these, and each listing of a
-- number stands in one part.
abbrev pub PartsAreWhole : Type 0
PartsAreWhole = (numbers : List ℤ) (n : ℕ) → 0 < n → flat_map (λ part. part) (parts numbers n) ≡ numbers

-- no number is listed twice
abbrev pub AreListedOnce : List ℤ → Type 0
AreListedOnce [] = Unit {0}
AreListedOnce (x ∷ xs) = (is_in xs x ≡ false) × AreListedOnce xs

-- a number of one list is in none behind it
abbrev pub AreApart : List (List ℤ) → Type 0
AreApart [] = Unit {0}
AreApart (xs ∷ lists) = ((v : ℤ) → is_in xs v ≡ true → AllByRecursion (λ ys. is_in ys v ≡ false) lists) × AreApart lists

-- Where no number is listed twice, no two parts of `b[n]` share one.
abbrev pub PartsAreApart : Type 0
PartsAreApart = (numbers : List ℤ) (n : ℕ) → 0 < n → AreListedOnce numbers → AreApart (parts numbers n)

-- each number is greater than those before it
abbrev pub Ascend : List ℤ → Type 0
Ascend [] = Unit {0}
Ascend (x ∷ xs) = AllByRecursion (λ y. x <ℤ y) xs × Ascend xs

-- The numbers of `b[]`: each that is listed, once, ascending.
abbrev pub SinglesAreListed : Type 0
SinglesAreListed = (numbers : List ℤ) → Ascend (ascending numbers) × ((v : ℤ) → is_in (ascending numbers) v ≡ is_in numbers v)

-- ---- names

-- no name stands twice
abbrev pub NamesDiffer : List (List ℕ) → Type 0
NamesDiffer [] = Unit {0}
NamesDiffer (name ∷ names) = AllByRecursion (λ other. name ≡ other → ⊥) names × NamesDiffer names

-- The bins of one declaration that lists numbers of 64 bits have names that differ.
abbrev pub BinsAreNamed : Type 0
BinsAreNamed = (distribute : Bool) (keep : Option Term) (have : ℕ) (wanted : Wanted) (plan : Plan) (head : Head) (numbers kept : List ℤ) (at : ℕ) → AllByRecursion IsInt kept → planned have wanted kept at ≡ Ok plan
    → NamesDiffer (map (λ made. made.bin.name) (bins_made distribute keep plan head numbers kept))

-- So have the bins of an array of `default`, one for each number that is listed nowhere.
abbrev pub RestsAreNamed : Type 0
RestsAreNamed = (rest : List (ℤ × ℤ)) (head : Head) → AllByRecursion IsInt (written rest) → NamesDiffer (map (λ made. made.bin.name) (entry_bins rest (Rest head)))

-- ---- automatic bins

-- Automatic bins cut the numbers of a type of 1 to 64 bits into parts: one after the other, ascending, without a gap or an
-- overlap.
abbrev pub AutomaticCuts : Type 0
AutomaticCuts = (width : ℕ) (signed : Bool) (most : ℕ) → 1 ≤ width → 1 ≤ most → written (automatic_ranges width signed most) ≡ span (domain_of width signed)
