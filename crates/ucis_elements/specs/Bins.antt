-- Bins as elements of the interchange format.
use Rattle.std.specs.Prelude.{ℤ, ℕ, List, [], ◌∷◌, codes, decimal, Bool}
use Rattle.bin_spec.specs.Types.{domain}
use Rattle.const_eval.specs.Typs.{Typ}
use Rattle.trans_seq.specs.declared.seq.Item.{Item}
use Rattle.trans_seq.specs.declared.seq.Seq.{Seq}
use Rattle.wildcard_bins.specs.declared.pattern.Pattern.{Pattern}
use Rattle.design_data.specs.declared.infos.BinInfo.{BinInfo}
use Rattle.design_data.specs.declared.infos.BinRule.{BinRule}
use Rattle.design_data.specs.declared.infos.BinRule.TheVariants.{Values, Patterns, Trans, Default, DefaultValues, DefaultSequence, Picked, Product}
use Rattle.markup.specs.Trees.{Markup, Nothing, Both, Element, Empty, Text, Attribute, attribute, number, integer, each, line}
use Rattle.ucis_elements.specs.Words.{kind_word, named, user_attr}
use Rattle.ucis_elements.specs.Numbers.{item_text, pattern_text, pattern_range}

-- how often the bin was hit
abbrev pub contents : (count : ℕ) → Markup
contents count = Empty (codes "contents") (number (codes "coverageCount") count ∷ [])

-- values, with the bin's count
unfoldable pub range_element : (count : ℕ) → ℤ × ℤ → Markup
range_element count range = Element (codes "range") (integer (codes "from") range.0 ∷ integer (codes "to") range.1 ∷ []) (contents count)

abbrev pub pattern_element : (count : ℕ) → Pattern → Markup
pattern_element count pattern = range_element count (pattern_range pattern)

abbrev pub pattern_attr : Pattern → Markup
pattern_attr pattern = user_attr (codes "pattern") (pattern_text pattern)

abbrev pub seq_value : List ℕ → Markup
seq_value value = Element (codes "seqValue") [] (Text value)

abbrev pub item_element : Item → Markup
item_element item = seq_value (item_text item)

unfoldable pub seq_element : (count : ℕ) → Seq → Markup
seq_element count seq = Element (codes "sequence") [] (Both (contents count) (each item_element seq.items))

abbrev pub default_sequence : (count : ℕ) → Markup
default_sequence count = Element (codes "sequence") [] (Both (contents count) (seq_value (codes "default")))

-- what a bin of a point counts (IEEE 1800-2017, 19.5)
unfoldable pub rule_elements : Typ → (count : ℕ) → BinRule → Markup
rule_elements typ count (Values set) = each (range_element count) set
rule_elements typ count (Patterns patterns) = Both (each (pattern_element count) patterns) (each pattern_attr patterns)
rule_elements typ count (Trans seqs) = each (seq_element count) seqs
rule_elements typ count Default = Both (range_element count (domain typ.width typ.signed)) (user_attr (codes "rule") (codes "default"))
rule_elements typ count (DefaultValues set) = Both (each (range_element count) set) (user_attr (codes "rule") (codes "default"))
rule_elements typ count DefaultSequence = default_sequence count
rule_elements typ count (Picked select) = Nothing
rule_elements typ count (Product members) = Nothing

abbrev pub bin_attributes : (key : ℕ) → (excluded : Bool) → BinInfo → List Attribute
bin_attributes key excluded bin = named bin.name key excluded (attribute (codes "type") (kind_word bin.kind) ∷ [])

unfoldable pub point_element : Typ → (key : ℕ) → (excluded : Bool) → (count : ℕ) → BinInfo → Markup
point_element typ key excluded count bin = Element (codes "coverpointBin") (bin_attributes key excluded bin) (rule_elements typ count bin.rule)

-- a bin of a point of this type
abbrev pub point_bin : Typ → (key : ℕ) → (excluded : Bool) → (count : ℕ) → BinInfo → Markup
point_bin typ key excluded count bin = line (point_element typ key excluded count bin)

abbrev pub index_element : ℕ → Markup
index_element index = Element (codes "index") [] (Text (decimal index))

-- of an automatic bin of a cross, the place of its bin among the coverage bins of each crossed point (19.6)
abbrev pub index_elements : BinRule → Markup
index_elements (Product members) = each index_element members
index_elements (Values set) = Nothing
index_elements (Patterns patterns) = Nothing
index_elements (Trans seqs) = Nothing
index_elements Default = Nothing
index_elements (DefaultValues set) = Nothing
index_elements DefaultSequence = Nothing
index_elements (Picked select) = Nothing

-- a bin of a cross
unfoldable pub cross_bin : (key : ℕ) → (excluded : Bool) → (count : ℕ) → BinInfo → Markup
cross_bin key excluded count bin = line (Element (codes "crossBin") (bin_attributes key excluded bin) (Both (index_elements bin.rule) (contents count)))
