-- The words of the kinds of bins.
use Rattle.std.specs.Prelude.{ℕ, List, codes}
use Rattle.design_data.specs.declared.infos.BinKind.{BinKind}
use Rattle.design_data.specs.declared.infos.BinKind.TheVariants.{CvgBin, IllegalBin, IgnoreBin, DefaultBin}

-- the word of a bin's kind, as it is printed
abbrev pub kind_word : BinKind → List ℕ
kind_word CvgBin = codes "CVGBIN"
kind_word IllegalBin = codes "ILLEGALBIN"
kind_word IgnoreBin = codes "IGNOREBIN"
kind_word DefaultBin = codes "DEFAULTBIN"
