-- Where no sequence takes lists away.
use Rattle.std.proofs.Common.{◌≡◌, List, [], ◌∷◌, length, refl, ap, sym, ◌∙◌, arith, true, false, not}
use Rattle.std.specs.Prelude.{ℤ, Option, Some, None, ◌==◌}
use Rattle.std.proofs.lemmas.Bool.{false≢true}
use Rattle.trans_seq.specs.declared.seq.Seq.{Seq}
use Rattle.trans_seq.specs.Words.{word_of}
use Rattle.elab_transitions.specs.Tests.{in_some}
use Rattle.elab_transitions.specs.Removal.{is_removed, is_seq_left}

none_removed : (list : Option (List ℤ)) → is_removed [] list ≡ false
unfolding in_some
none_removed None = refl
none_removed (Some list) = refl

pub untaken : (removing : List Seq) (seq : Seq) → removing ≡ [] → is_seq_left true removing seq ≡ true
untaken removing seq none = ap (λ r. is_seq_left true r seq) none ∙ ap not (none_removed (word_of seq.items))

pub no_seqs : (seqs : List Seq) → (length seqs == 0) ≡ true → seqs ≡ []
no_seqs [] h = refl
no_seqs (seq ∷ seqs) h = let e : (length (seq ∷ seqs) == 0) ≡ false = grind arith in absurd (false≢true (sym e ∙ h))
