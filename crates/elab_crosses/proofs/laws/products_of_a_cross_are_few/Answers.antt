use Rattle.elab_crosses.proofs.Crossing.{cross_products}
use Rattle.elab_crosses.proofs.laws.products_of_a_cross_are_few.Goals as goal

pub returns : goal.returns
returns c = cross_products
