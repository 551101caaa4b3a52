-- The node of a bin is one.
use Rattle.std.proofs.Common.{◌≡◌, ℕ, zero, suc, ◌+◌, ◌<◌, Bool, List, ◌∷◌, length, refl, sym, ◌∙◌, arith, Option, Some, None}
use Rattle.std.specs.Prelude.{filter, slice_get, IfSome}
use Rattle.std.specs.List.{range_with_len}
use Rattle.ucis_model.specs.declared.node.Node.{Node}
use Rattle.ucis_model.specs.Paths.{node_at}
use Rattle.cov_history.specs.Nodes.{is_bin, node_of_bin}
use Rattle.cov_history.proofs.Bools.{by_bool}

at_or_after : (a n m : ℕ) (xs : List ℕ) → ((j : ℕ) → slice_get xs j ≡ Some m → m < a + suc n) → (i : ℕ) → slice_get (a ∷ xs) i ≡ Some m → m < a + suc n
at_or_after a n m xs later zero e = let same : a ≡ m = cc in omega (arith, same)
at_or_after a n m xs later (suc j) e = later j e

kept_below : (p : ℕ → Bool) (a n i m : ℕ) → slice_get (filter p (range_with_len a n)) i ≡ Some m → m < a + n
kept_below p a zero i m e = absurd (cc)
kept_below p a (suc n) i m e =
    by_bool (p a)
    (λ k. at_or_after a n m (filter p (range_with_len (a + 1) n)) (λ j f. omega (arith, kept_below p (a + 1) n j m f)) i (sym (rw k refl) ∙ e))
    (λ k. omega (arith, kept_below p (a + 1) n i m (sym (rw k refl) ∙ e)))

pub some_inside : (nodes : List Node) (bin : ℕ) (o : Option ℕ) → o ≡ node_of_bin nodes bin → IfSome o (λ n. n < length nodes)
some_inside nodes bin None e = tt
some_inside nodes bin (Some n) e = let b = kept_below (λ n. is_bin (node_at nodes n).kind) 0 (length nodes) bin n (sym e) in omega (arith, b)
