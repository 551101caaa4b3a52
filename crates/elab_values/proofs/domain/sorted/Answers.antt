use Rattle.std.proofs.Common.{rules, ap, ◌∙◌}
use Rattle.std.proofs.lemmas.List.Sorted.{answers_always}
use Rattle.elab_values.specs.Domains.{by_value}
use Rattle.elab_values.proofs.Sorting.{sorted_is}
use Rattle.elab_values.proofs.domain.sorted.Goals as goal

pub returns : goal.returns
returns c =
    sorted_is c.in_ok-copies.copies.items c.sort_by_key.new.self.items
    (c.in_ok-sort_by_key.ensures.sorted (λ x. x.value) (answers_always _ _ _ (λ f a r g called. search rules)))
    (c.sort_by_key.ensures.stable (λ x. x.value) (answers_always _ _ _ (λ f a r g called. search rules)))
    ∙ ap by_value c.in_ok-copies.ensures
