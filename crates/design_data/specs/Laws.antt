-- Laws that whoever makes a design from declarations owes. On two of them the meaning of `default` and of `default
-- sequence` rests: what removal takes away stands in some ignore or illegal bin. By the third a cross has all its
-- automatic bins.
use Rattle.std.specs.Prelude.{◌≡◌, ℤ, ℕ, List, [], ◌∷◌, filter, Option, Some, None, Bool, false, not}
use Rattle.std.specs.List.{flat_map, list_any}
use Rattle.wildcard_bins.specs.declared.pattern.Pattern.{Pattern}
use Rattle.wildcard_bins.specs.Patterns.{agrees}
use Rattle.trans_seq.specs.declared.seq.Seq.{Seq}
use Rattle.trans_seq.specs.Windows.{is_known_in, InSome}
use Rattle.design_data.specs.Crosses.{picks, products}
use Rattle.design_data.specs.declared.infos.BinInfo.{BinInfo}
use Rattle.design_data.specs.declared.infos.BinRule.{BinRule}
use Rattle.design_data.specs.declared.infos.BinRule.TheVariants.{Values, Patterns, Trans, Default, DefaultValues, DefaultSequence, Picked, Product}

-- A sampled value is a whole number, or None where it is Unknown: some bit of it is x or z.
abbrev pub Value : Type 0
Value = Option ℤ

-- one of the patterns stands for the known value (IEEE 1800-2017, 19.5.4)
abbrev pub in_patterns : List Pattern → Value → Bool
in_patterns patterns None = false
in_patterns patterns (Some v) = list_any (λ pattern. agrees pattern v) patterns

-- a bin of values lists the value; those of a default array list nothing
abbrev pub lists : Value → BinRule → Bool
lists v (Values set) = is_known_in set v
lists v (Patterns patterns) = in_patterns patterns v
lists v (Trans seqs) = false
lists v Default = false
lists v (DefaultValues set) = false
lists v DefaultSequence = false
lists v (Picked select) = false
lists v (Product members) = false

-- a bin of the point lists the value; an Unknown one is listed nowhere
abbrev pub is_listed : List BinInfo → Value → Bool
is_listed bins v = list_any (λ bin. lists v bin.rule) bins

-- The sets left in a point's bins have the same union as its listed ones: those of its declarations and of its
-- automatic bins, before removal.
abbrev pub KeepsListed : (declared : List BinRule) → (bins : List BinInfo) → Type 0
KeepsListed declared bins = (v : Value) → is_listed bins v ≡ list_any (lists v) declared

-- A transition bin of a point that has nothing left, and so isn't among its bins, adds no window that isn't one of the
-- ignored or the illegal sequences (19.5.5, 19.5.6).
abbrev pub AddsNoWindow : (dropped removing : List Seq) → Type 0
AddsNoWindow dropped removing = (window : List Value) → InSome dropped window → InSome removing window

-- The products of a cross that no declared bin selects, in order: each is an automatic bin (19.6).
abbrev pub automatic_products : (sizes : List ℕ) → List BinInfo → List (List ℕ)
automatic_products sizes bins = filter (λ product. not (list_any (λ bin. picks product bin.rule) bins)) (products sizes)

-- the product of an automatic bin; none of another
abbrev pub members_of : BinRule → List (List ℕ)
members_of (Values set) = []
members_of (Patterns patterns) = []
members_of (Trans seqs) = []
members_of Default = []
members_of (DefaultValues set) = []
members_of DefaultSequence = []
members_of (Picked select) = []
members_of (Product members) = members ∷ []

-- The automatic bins of a cross of points with so many coverage bins are those.
abbrev pub HasAutomatic : (sizes : List ℕ) → List BinInfo → Type 0
HasAutomatic sizes bins = flat_map (λ bin. members_of bin.rule) bins ≡ automatic_products sizes bins
