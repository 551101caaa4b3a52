-- The attributes that elements of the interchange format have in common.
use Rattle.std.specs.Prelude.{ℕ, List, [], ◌∷◌, codes, Bool}
use Rattle.design_data.specs.declared.infos.BinKind.{BinKind}
use Rattle.design_data.specs.declared.infos.BinKind.TheVariants.{CvgBin, IllegalBin, IgnoreBin, DefaultBin}
use Rattle.markup.specs.Trees.{Markup, Element, Empty, Text, Attribute, attribute, number, truth}

-- the type of a bin
abbrev pub kind_word : BinKind → List ℕ
kind_word CvgBin = codes "bins"
kind_word IllegalBin = codes "illegal"
kind_word IgnoreBin = codes "ignore"
kind_word DefaultBin = codes "default"

-- the name of what an element stands for, its key, which no other element has, and whether it is excluded
abbrev pub named : (name : List ℕ) → (key : ℕ) → (excluded : Bool) → List Attribute → List Attribute
named name key excluded more = attribute (codes "name") name ∷ number (codes "key") key ∷ truth (codes "excluded") excluded ∷ more

-- what the format has no attribute for
abbrev pub user_attr : (key value : List ℕ) → Markup
user_attr key value = Element (codes "userAttr") (attribute (codes "key") key ∷ attribute (codes "type") (codes "str") ∷ []) (Text value)

-- A place in a source: a design doesn't keep lines, so each is the first line of its file.
abbrev pub source_id : (name : List ℕ) → Markup
source_id name = Empty name (number (codes "file") 1 ∷ number (codes "line") 1 ∷ number (codes "inlineCount") 1 ∷ [])
