-- The bins of the lists of an array (IEEE 1800-2017, 19.5.2): each has a list of values of its own.
use Rattle.std.specs.Prelude.{ℕ, ℤ, List, [], ◌∷◌, ◌++◌, map}
use Rattle.std.specs.List.{flat_map}
use Rattle.std.specs.Fmt.{signed_decimal}
use Rattle.cov_base.specs.Sets.{written, set_of}
use Rattle.trans_seq.specs.declared.seq.Item.{Item}
use Rattle.trans_seq.specs.declared.seq.Seq.{Seq}
use Rattle.trans_seq.specs.declared.seq.Repeat.TheVariants.{Once}

-- `=>v`, v in decimal
abbrev pub arrowed : ℤ → List ℕ
arrowed v = 61 ∷ 62 ∷ signed_decimal v

-- the values with arrows between them
unfoldable pub list_text : List ℤ → List ℕ
list_text [] = []
list_text (v ∷ vs) = signed_decimal v ++ flat_map arrowed vs

-- `name[4=>5=>6]`
unfoldable pub list_name : List ℕ → List ℤ → List ℕ
list_name name list = name ++ (91 ∷ (list_text list ++ 93 ∷ []))

-- one value, once
abbrev pub item_once : ℤ → Item
item_once v = record { set = set_of (written ((v, v) ∷ [])); repeat = Once }

-- the sequence that has this list alone
abbrev pub seq_of_list : List ℤ → Seq
seq_of_list list = record { items = map item_once list }
