-- What filters keep of the parts of listed numbers.
use Rattle.std.proofs.Common.{◌≡◌, ◌∙◌, ℤ, List, [], ◌∷◌, map, filter, refl, ap, sym, Bool}
use Rattle.std.specs.Prelude.{◌&&◌}
use Rattle.cov_base.specs.Sets.{written, set_of}
use Rattle.cov_base.proofs.Members.{is_in-filter}
use Rattle.cov_base.proofs.Runs.{set_of_normal, set_of_covers, set_of_is, set_of_numbers}
use Rattle.const_eval.specs.Terms.{Term}
use Rattle.elab_bins.specs.Filter.{passes}
use Rattle.elab_bins.specs.Made.{set_filtered}

-- what passes of the numbers of a set
set_passing : (p : ℤ → Bool) (numbers : List ℤ) → set_of (filter p (written (set_of numbers))) ≡ set_of (filter p numbers)
set_passing p numbers =
    let these = filter p (written (set_of numbers)) in
    set_of_is (set_of_normal these).0 (set_of these) (filter p numbers) (set_of_normal these).1
    (λ v. set_of_covers these v ∙ (is_in-filter p (written (set_of numbers)) v ∙ (ap (λ (b : Bool). b && p v) (set_of_numbers numbers v) ∙ sym (is_in-filter p numbers v))))

each_passing : (term : Term) (parts : List (List ℤ)) → map (set_filtered term) (map set_of parts) ≡ map set_of (map (filter (passes term)) parts)
each_passing term [] = refl
each_passing term (part ∷ parts) = λ i. set_passing (passes term) part i ∷ each_passing term parts i

pub parts_passing : (term : Term) (parts : List (List ℤ)) (sets left : List (List (ℤ × ℤ))) → sets ≡ map set_of parts → left ≡ map (set_filtered term) sets → left ≡ map set_of (map (filter (passes term)) parts)
parts_passing term parts sets left are is = is ∙ (ap (map (set_filtered term)) are ∙ each_passing term parts)
