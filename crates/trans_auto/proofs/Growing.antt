-- Lists that grow at their ends.
use Rattle.std.proofs.Common.{◌≡◌, List, [], ◌∷◌, ◌++◌, ◌∙◌, ap}
use Rattle.std.proofs.lemmas.List.{append_assoc}
use Rattle.std.specs.Prelude.{⊤, Result, Ok, Err, OnOk}
use Rattle.trans_auto.specs.Layout.{Grows}

-- one element, and then others
pub grows-on : {X E : Type 0} (r : Result ⊤ E) (old more new : List X) (one : X) (P Q : List X → Type 0) → more ≡ old ++ one ∷ [] → ((rest : List X) → P rest → Q (one ∷ rest)) → OnOk r (Grows more new P) → OnOk r (Grows old new Q)
grows-on (Ok x) old more new one P Q is f g = (one ∷ g.0, g.1 ∙ ap (λ xs. xs ++ g.0) is ∙ append_assoc old (one ∷ []) g.0, f g.0 g.2)
grows-on (Err e) old more new one P Q is f g = g
