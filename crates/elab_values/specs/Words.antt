-- What the words of a declaration of bins mean (IEEE 1800-2017, 19.5).
use Rattle.std.specs.Prelude.{Bool, true, false}
use Rattle.cov_tree.specs.declared.bins.Size.{Size}
use Rattle.cov_tree.specs.declared.bins.Size.TheVariants as sizes
use Rattle.cov_tree.specs.declared.bins.Word.{Word}
use Rattle.cov_tree.specs.declared.bins.Word.TheVariants as words
use Rattle.design_data.specs.declared.infos.BinKind.{BinKind}
use Rattle.design_data.specs.declared.infos.BinKind.TheVariants.{CvgBin, IgnoreBin, IllegalBin}

-- the kind of the bins that a word declares
abbrev pub kind_of : Word → BinKind
kind_of words.Bins = CvgBin
kind_of words.Illegal = IllegalBin
kind_of words.Ignore = IgnoreBin

-- `[]` stands, so that each value or each list of values has a bin
abbrev pub is_array : Size → Bool
is_array sizes.Scalar = false
is_array sizes.Open = true
is_array (sizes.Fixed bins) = false
