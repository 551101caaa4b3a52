-- A store without entries.
use Rattle.std.proofs.Common.{◌≡◌, ℕ, zero, suc, ◌≤◌, List, [], ◌∷◌, length, map, refl, ap, ◌∙◌, arith, replicate, Option, None}
use Rattle.std.specs.Prelude.{slice_index, slice_index_or}
use Rattle.std.proofs.lemmas.List.{length-replicate}
use Rattle.std.proofs.lemmas.List.Elements.{All-nil}
use Rattle.design_data.specs.declared.design.Design.{Design}
use Rattle.ucis_model.specs.declared.node.Node.{Node}
use Rattle.ucis_model.specs.declared.answers.Which.{Which}
use Rattle.ucis_model.specs.declared.answers.Which.TheVariants.{Tests, Bytes, Entries, History}
use Rattle.ucis_model.specs.Nodes.{nodes_of}
use Rattle.cov_history.specs.declared.entry.Entry.{Entry}
use Rattle.cov_history.specs.History.{amount, most, is_revise}
use Rattle.store_core.specs.Histories.{IsDeclared}
use Rattle.store_parts.specs.Keeps.{Keeps}
use Rattle.store_parts.proofs.Steps.{none_last}

none_within : (opening : Design) (which : Which) → amount opening [] which ≤ most which
none_within opening Tests = omega arith
none_within opening Bytes = omega arith
none_within opening Entries = omega arith
none_within opening History = omega arith

pub map_none : {A B : Type 0} (f : Option A → B) (n : ℕ) (y : B) → f None ≡ y → map f (replicate n None) ≡ replicate n y
map_none f zero y e = refl
map_none f (suc n) y e = λ i. e i ∷ map_none f n y e i

-- the same at each place, and where there is none
same_at : {A : Type 0} (n i : ℕ) (x : A) → slice_index_or (replicate n x) i x ≡ x
same_at zero i x = refl
same_at (suc n) zero x = refl
same_at (suc n) (suc i) x = same_at n i x

pub fresh : (d : Design) (nodes : List Node) (counts : List ℕ) (out : List (Option (List ℕ))) → nodes ≡ nodes_of d → counts ≡ replicate d.bin_count 0 → out ≡ replicate (length nodes) None → Keeps d d nodes [] [] [] counts out 0 0 0 0
fresh d nodes counts out n c o = record {
  legal = refl;
  declared = All-nil (λ (e : Entry). IsDeclared e.event);
  going = refl;
  design_is = refl;
  nodes_are = n;
  tests_are = refl;
  tallies_are = refl;
  within = none_within d;
  sums = record {
    same_len = ap length c ∙ length-replicate d.bin_count 0;
    at = λ bin. ap (λ xs. slice_index xs bin) c ∙ same_at d.bin_count bin 0;
  };
  outs_are = record {
    same_len = ap length o ∙ length-replicate (length nodes) None;
    at = λ n. ap (λ xs. slice_index_or xs n None) o ∙ same_at (length nodes) n None;
    each_once = λ path. omega arith;
    count = refl;
  };
  bytes_are = refl;
  entries_are = refl;
  revised_is = none_last is_revise;
}
