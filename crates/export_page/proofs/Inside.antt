-- Bins that are chosen among nodes are nodes.
use Rattle.std.proofs.Common.{◌≡◌, ℕ, ◌<◌, ◌≤◌, List, Bool, take, length, sym, subst}
use Rattle.std.specs.Prelude.{All, filter}
use Rattle.std.proofs.lemmas.List.{take_all}
use Rattle.std.proofs.lemmas.List.Elements.{All-filter, All-take}
use Rattle.export_page.specs.Views.{most_bins}

pub chosen_inside : (p : ℕ → Bool) (most : ℕ) (all kept : List ℕ) → All (λ k. k < most) all → kept ≡ filter p all → All (λ k. k < most) kept
chosen_inside p most all kept inside e = subst (λ (ns : List ℕ). All (λ k. k < most) ns) (sym e) (All-filter p (λ k. k < most) all inside)

pub shown_inside : (most : ℕ) (all shown : List ℕ) → All (λ k. k < most) all → shown ≡ take most_bins all → All (λ k. k < most) shown
shown_inside most all shown inside e = subst (λ (ns : List ℕ). All (λ k. k < most) ns) (sym e) (All-take (λ k. k < most) most_bins all inside)

pub all_shown : (nodes : List ℕ) → length nodes ≤ most_bins → nodes ≡ take most_bins nodes
all_shown nodes few = sym (take_all most_bins nodes few)
