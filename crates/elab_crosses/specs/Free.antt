-- How the code keeps the products that are left to bins. Public contracts cite none of it.
use Rattle.std.specs.Prelude.{ℕ, List}
use Rattle.design_data.specs.declared.infos.BinInfo.{BinInfo}
use Rattle.design_data.specs.declared.infos.BinKind.{BinKind}
use Rattle.design_data.specs.declared.infos.BinKind.TheVariants.{CvgBin, IllegalBin, IgnoreBin, DefaultBin}
use Rattle.design_data.specs.Crosses.{is_left}
use Rattle.product_bits.specs.Marks.{Marks}
use Rattle.elab_crosses.specs.declared.left.Free.{Free}

abbrev pub free_of : Free → BinKind → List ℕ
free_of free CvgBin = free.coverage
free_of free IllegalBin = free.illegal
free_of free IgnoreBin = free.ignored
free_of free DefaultBin = free.default

-- for each kind the products that the bins leave to it
abbrev pub IsFree : (sizes : List ℕ) → List BinInfo → Free → Type 0
IsFree sizes bins free = (kind : BinKind) → Marks sizes (is_left bins kind) (free_of free kind)
