use Rattle.std.proofs.Common.{◌++◌, ◌∷◌, [], List, ap, ◌∙◌, rules}
use Rattle.sampler.specs.declared.lists.QuickItem.{QuickItem}
use Rattle.sampler.specs.declared.lists.QuickPlace.{QuickPlace}
use Rattle.sampler.specs.Quick.{lists_of}
use Rattle.sampler.proofs.Flat.{lists_push}
use Rattle.sampler.proofs.lists.QuickLists.push.Goals as goal

pub returns : goal.returns
returns c =
    let flat : List QuickItem = c.self.inside.items.items in
    let new : List QuickItem = c.append.new.self.items in
    ap (λ (ps : List QuickPlace). lists_of new ps) c.in_ok-push.ensures.items
    ∙ lists_push flat c.args.list.items new c.self.inside.places.items _ c.self.invariant c.in_ok-append.ensures.items (search rules) (search rules)
    ∙ ap (λ (xs : List (List QuickItem)). xs ++ c.args.list.items ∷ []) c.self.view_is
