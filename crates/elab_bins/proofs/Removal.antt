-- What removal leaves, bin by bin.
use Rattle.std.proofs.Common.{◌≡◌, ◌∙◌, ℤ, List, [], ◌∷◌, ◌++◌, sym, ap, append-nil}
use Rattle.std.proofs.lemmas.List.{append_assoc}
use Rattle.cov_tree.specs.declared.bins.BinsDecl.{BinsDecl}
use Rattle.trans_seq.specs.declared.seq.Seq.{Seq}
use Rattle.elab_values.specs.declared.made.Made.{Made}
use Rattle.elab_bins.specs.declared.walked.Entry.{Entry}
use Rattle.elab_bins.specs.Rest.{entry_bins, all_bins}
use Rattle.elab_bins.specs.Transitions.{trans_left_of, transitions_left}

pub bins_more : (rest : List (ℤ × ℤ)) (es : List Entry) (e : Entry) (old next new : List Made) → old ≡ all_bins rest es → next ≡ entry_bins rest e → new ≡ old ++ next → new ≡ all_bins rest (es ++ e ∷ [])
unfolding all_bins
bins_more rest es e old next new was is added = added ∙ (λ i. was i ++ is i) ∙ sym (more es)
  where
    more : (es : List Entry) → all_bins rest (es ++ e ∷ []) ≡ all_bins rest es ++ entry_bins rest e
    more [] = append-nil (entry_bins rest e)
    more (x ∷ es) = ap (λ (r : List Made). entry_bins rest x ++ r) (more es) ∙ sym (append_assoc (entry_bins rest x) (all_bins rest es) (entry_bins rest e))

pub trans_more : (bs : List BinsDecl) (ignored illegal : List Seq) (xs : List Made) (x : Made) (old new : List Made) → old ≡ transitions_left bs ignored illegal xs → new ≡ old ++ trans_left_of bs ignored illegal x → new ≡ transitions_left bs ignored illegal (xs ++ x ∷ [])
unfolding transitions_left
trans_more bs ignored illegal xs x old new was added = added ∙ (ap (λ (r : List Made). r ++ trans_left_of bs ignored illegal x) was ∙ sym (more xs))
  where
    more : (xs : List Made) → transitions_left bs ignored illegal (xs ++ x ∷ []) ≡ transitions_left bs ignored illegal xs ++ trans_left_of bs ignored illegal x
    more [] = append-nil (trans_left_of bs ignored illegal x)
    more (y ∷ ys) = ap (λ (r : List Made). trans_left_of bs ignored illegal y ++ r) (more ys) ∙ sym (append_assoc (trans_left_of bs ignored illegal y) (transitions_left bs ignored illegal ys) (trans_left_of bs ignored illegal x))
