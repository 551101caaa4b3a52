-- The sequence of a list has that list alone.
use Rattle.std.proofs.Common.{◌≡◌, ◌∙◌, ℤ, List, [], ◌∷◌, map, Bool, Option, Some, None, refl, sym, ap, true, arith}
use Rattle.std.specs.Ordering.{int_eq}
use Rattle.std.specs.Prelude.{if◌then◌else◌}
use Rattle.std.proofs.lemmas.Int.{ints}
use Rattle.std.proofs.lemmas.Bool.Decides.{Decides-int_eq}
use Rattle.cov_base.specs.Sets.{written, set_of}
use Rattle.cov_base.proofs.Runs.{set_of-written}
use Rattle.trans_seq.specs.Words.{one_of, with_value, word_of}
use Rattle.design_data.specs.Left.{has_numbers}
use Rattle.elab_transitions.specs.Lists.{item_once, seq_of_list}

single_set : (v : ℤ) → set_of (written ((v, v) ∷ [])) ≡ (v, v) ∷ []
single_set v = sym (set_of-written v ((v, v) ∷ []) (omega (arith, ints), omega (arith, ints), tt))

one_value : (v : ℤ) → one_of (set_of (written ((v, v) ∷ []))) ≡ Some v
one_value v =
    let same : int_eq v v ≡ true = (Decides-int_eq v v).1 refl in
    ap one_of (single_set v) ∙ ap (λ (b : Bool). if b then Some v else None) same

pub word_of_list : (list : List ℤ) → word_of (seq_of_list list).items ≡ Some list
word_of_list [] = refl
word_of_list (v ∷ vs) = ap (λ (o : Option ℤ). with_value o (word_of (map item_once vs))) (one_value v) ∙ ap (with_value (Some v)) (word_of_list vs)

pub some_once : (v : ℤ) → has_numbers (item_once v).set ≡ true
some_once v = ap has_numbers (single_set v)
