-- Names with their places, one after the other.
use Rattle.std.proofs.Common.{◌≡◌, ◌∙◌, ℕ, ◌+◌, ◌<◌, ◌≤◌, List, ◌∷◌, length, drop, get_or, ap, sym}
use Rattle.std.proofs.lemmas.List.{drop_all, drop_more}
use Rattle.name_map.specs.Names.{Pairs, with_name, with_names}
use Rattle.elab_members.specs.Items.{places_from}

pub place_more : (names : List (List ℕ)) (k : ℕ) (name : List ℕ) (old new : Pairs ℕ) (whole : Pairs ℕ) → k < length names → name ≡ get_or names k name → new ≡ with_name old name k → with_names old (places_from k (drop k names)) ≡ whole → with_names new (places_from (k + 1) (drop (k + 1) names)) ≡ whole
place_more names k name old new whole lt is added was =
    let next : drop k names ≡ name ∷ drop (k + 1) names = drop_more names k name lt ∙ ap (λ (n : List ℕ). n ∷ drop (k + 1) names) (sym is) in
    ap (λ (pairs : Pairs ℕ). with_names pairs (places_from (k + 1) (drop (k + 1) names))) added ∙ (sym (ap (λ (rest : List (List ℕ)). with_names old (places_from k rest)) next) ∙ was)

pub places_done : (names : List (List ℕ)) (k : ℕ) (all whole : Pairs ℕ) → length names ≤ k → with_names all (places_from k (drop k names)) ≡ whole → all ≡ whole
places_done names k all whole le was = ap (λ (rest : List (List ℕ)). with_names all (places_from k rest)) (sym (drop_all k names le)) ∙ was
