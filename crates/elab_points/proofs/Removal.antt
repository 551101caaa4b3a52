-- What removal leaves, bin by bin.
use Rattle.std.proofs.Common.{◌≡◌, ◌∙◌, ℤ, List, [], ◌∷◌, ◌++◌, sym, ap, append-nil}
use Rattle.std.proofs.lemmas.List.{append_assoc}
use Rattle.elab_values.specs.declared.made.Made.{Made}
use Rattle.elab_bins.specs.Left.{bins_left, left_of}

pub left_more : (all illegal : List (ℤ × ℤ)) (bs : List Made) (b : Made) → bins_left all illegal (bs ++ b ∷ []) ≡ bins_left all illegal bs ++ left_of all illegal b
unfolding bins_left
left_more all illegal [] b = append-nil (left_of all illegal b)
left_more all illegal (x ∷ bs) b = ap (λ (r : List Made). left_of all illegal x ++ r) (left_more all illegal bs b) ∙ sym (append_assoc (left_of all illegal x) (bins_left all illegal bs) (left_of all illegal b))
