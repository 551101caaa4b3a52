-- The text of a list, from the text of its values behind arrows.
use Rattle.std.proofs.Common.{◌≡◌, ◌∙◌, ℕ, ◌-◌, ◌<◌, ℤ, List, [], ◌∷◌, ◌++◌, length, take, drop, ap, arith}
use Rattle.std.specs.List.{flat_map}
use Rattle.std.proofs.lemmas.List.{take_all, length-drop}
use Rattle.elab_transitions.specs.Lists.{arrowed, list_text, list_name}

pub behind_arrow : (text : List ℕ) → take (length text - 2) (drop 2 text) ≡ drop 2 text
behind_arrow text = take_all (length text - 2) (drop 2 text) (omega (arith, length-drop 2 text))

pub no_arrow : (text : List ℕ) → length text < 2 → [] ≡ drop 2 text
no_arrow [] short = λ i. []
no_arrow (x ∷ []) short = λ i. []
no_arrow (x ∷ y ∷ text) short = absurd (omega (arith, short))

without_first : (list : List ℤ) → drop 2 (flat_map arrowed list) ≡ list_text list
unfolding list_text
without_first [] = λ i. []
without_first (v ∷ vs) = λ i. drop 2 (flat_map arrowed (v ∷ vs))

pub named : (name made text : List ℕ) (list : List ℤ) → text ≡ flat_map arrowed list → made ≡ name ++ (91 ∷ (drop 2 text ++ 93 ∷ [])) → made ≡ list_name name list
unfolding list_name
named name made text list is e = e ∙ ap (λ t. name ++ (91 ∷ (drop 2 t ++ 93 ∷ []))) is ∙ ap (λ t. name ++ (91 ∷ (t ++ 93 ∷ []))) (without_first list)
