-- What a revision makes of a store.
use Rattle.std.specs.Prelude.{◌≡◌, ℕ, List, ◌++◌, ◌∷◌, [], filter, None, Option, false, ⊤}
use Rattle.design_data.specs.declared.design.Design.{Design}
use Rattle.ucis_model.specs.Nodes.{nodes_of}
use Rattle.cov_history.specs.declared.entry.Entry.{Entry}
use Rattle.cov_history.specs.declared.entry.Event.TheVariants as event
use Rattle.cov_history.specs.History.{out_of, is_found, is_test_or_revise}
use Rattle.cov_history.specs.Answers.{by, stands_since, revise_at}
use Rattle.store_core.specs.Rebins.{Redone}
use Rattle.store_core.specs.Asks.{revision_of}
use Rattle.store_parts.specs.declared.faults.ReviseFault.{ReviseFault}
use Rattle.store_parts.specs.declared.faults.ReviseFault.TheVariants as revises
use Rattle.cov_history.specs.Amounts.{Amounts, AreAmounts, first_passed}
use Rattle.store_parts.specs.Keeps.{HasOut}
use Rattle.store_parts.specs.Told.{not_revised}

-- of the paths that are out, those that find a node of the design stand at that node
abbrev pub IsRemade : List Entry → Design → (out : List (Option (List ℕ))) → (outs : ℕ) → Type 0
IsRemade h d out outs = HasOut (nodes_of d) (filter (is_found d) (out_of h)) out outs

-- nothing was admitted or revised since the basis, and these amounts afterwards pass no limit
pub record MayRevise (opening : Design) (h : List Entry) (r : Redone) (after : Amounts) : Type 0 where
  pub calm : stands_since is_test_or_revise h r.since ≡ false
  pub amounts : (caller : ℕ) → AreAmounts opening (h ++ by caller (event.Revise (revision_of r)) ∷ []) after
  pub room : first_passed after ≡ None

-- this is answered, whoever asks, or memory is wanted
abbrev pub IsRefused : (opening : Design) → List Entry → Redone → ReviseFault → Type 0
IsRefused opening h r revises.Memory = ⊤
IsRefused opening h r fault = (caller : ℕ) → revise_at opening h r.since (by caller (event.Revise (revision_of r))) ≡ not_revised fault
