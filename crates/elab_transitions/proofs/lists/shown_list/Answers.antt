use Rattle.std.proofs.Common.{◌≡◌, ◌∙◌, ◌++◌, ap}
use Rattle.std.specs.List.{flat_map}
use Rattle.elab_transitions.specs.Lists.{arrowed}
use Rattle.elab_transitions.proofs.Arrows.{named}
use Rattle.elab_transitions.proofs.lists.shown_list.Goals as goal

pub returns-clause-name : goal.returns-clause-name
returns-clause-name c =
    let list = c.args.list.now in
    let text : c.as_slice.result.now ≡ flat_map arrowed list =
    c.as_slice.ensures.value ∙ c.in_ok-add_values.ensures.text ∙ ap (λ t. t ++ flat_map arrowed list) c.in_ok-text.ensures.items in
    named c.args.name.now c.in_ok-name.name c.as_slice.result.now list text c.in_ok-name.ensures
