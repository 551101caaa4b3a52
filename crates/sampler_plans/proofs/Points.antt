-- Points of a design.
use Rattle.std.proofs.Common.{◌≡◌, List, subst}
use Rattle.const_eval.specs.Terms.{Term}
use Rattle.design_data.specs.declared.infos.ItemInfo.{ItemInfo}
use Rattle.design_data.specs.declared.infos.ItemShape.TheVariants.{Point}
use Rattle.design_data.specs.Limits.{IsItem, IsShape}
use Rattle.point_sampler.specs.Tables.{IsPoint}

pub is_point : (items : List ItemInfo) (item : ItemInfo) (expr : Term) → IsItem items item → item.shape ≡ Point expr → IsPoint item
is_point items item expr h e = record { few = h.bins; removing = h.removing; rules = (subst (IsShape items item) e h.shape).1 }
