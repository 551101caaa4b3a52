use Rattle.std.proofs.Common.{◌∙◌, ap, sym, is_some, Option, List, None}
use Rattle.std.specs.Prelude.{slice_index_or}
use Rattle.std.specs.Arc.{arc_value}
use Rattle.std.specs.declared.sync.Arc.{Arc}
use Rattle.std.specs.declared.alloc.Global.{Global}
use Rattle.cov_tree.specs.declared.name.Name.{Name}
use Rattle.store_sums.proofs.Stored.{option_at, is_some_map}
use Rattle.store_sums.proofs.sums.Sums.is_out.Goals as goal

pub returns : goal.returns
returns c =
    let s = c.args.self.now in
    let n = c.args.node in
    c.is_some_at.ensures ∙ ap (λ (xs : List (Option (Arc Name Global))). is_some (slice_index_or xs n None)) c.as_slice.ensures.value
    ∙ sym (is_some_map arc_value (slice_index_or s.out.items n None)) ∙ ap is_some (sym (option_at arc_value s.out.items n))
