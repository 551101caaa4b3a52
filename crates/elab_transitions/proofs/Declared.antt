-- What the elaboration of a declaration tells of its bins.
use Rattle.std.proofs.Common.{◌≡◌, ◌∙◌, ℕ, ◌+◌, List, Bool, true, false, refl, Option, ap, Ok}
use Rattle.std.specs.Prelude.{nat_le, not, ◌&&◌}
use Rattle.std.specs.List.{list_any}
use Rattle.std.proofs.lemmas.Bool.{false≢true}
use Rattle.cov_ground.specs.Limits.{most_bins, most_cells}
use Rattle.cov_tree.specs.declared.bins.BinsDecl.{BinsDecl}
use Rattle.cov_tree.specs.declared.bins.Step.{Step}
use Rattle.const_eval.specs.Terms.{Term}
use Rattle.const_eval.specs.Scopes.{Levels}
use Rattle.trans_seq.specs.declared.seq.Seq.{Seq}
use Rattle.trans_lists.specs.Lists.{has_endless}
use Rattle.elab_base.specs.declared.fault.ElabKind.TheVariants as kind
use Rattle.elab_base.specs.Gives.{needs}
use Rattle.elab_base.specs.Steps.{guard_in}
use Rattle.elab_base.proofs.Keeps.{bind_ok, ok_is, needs_ok}
use Rattle.elab_values.specs.declared.domain.Domain.{Domain}
use Rattle.elab_transitions.specs.declared.plans.Before.{Before}
use Rattle.elab_transitions.specs.declared.plans.Plan.{Plan}
use Rattle.elab_transitions.specs.declared.bins.TransBins.{TransBins}
use Rattle.elab_transitions.specs.Steps as steps
use Rattle.elab_values.specs.Words.{is_array}
use Rattle.elab_transitions.specs.Bins.{any_goes_on, is_bounded, is_short, removing_after, removing_in, removed_by, plan_of, plan_in, bins_in, fitted, bins_made, trans_made, seqs_binned, steps_binned, trans_bins_of}
use Rattle.elab_transitions.proofs.Written.{IsOften, AllOften, sequences_often, seqs_repeat, seqs_bounded}

bounded_by : (array any : Bool) → array ≡ true → not (array && any) ≡ true → any ≡ false
bounded_by true true is e = absurd (false≢true e)
bounded_by true false is e = refl
bounded_by false any is e = absurd (false≢true is)

-- its sequences and its guard, the limits that they are within, and what is made of them
pub record IsMadeOf (b : BinsDecl) (before : Before) (made : TransBins) : Type 0 where
  pub seqs : List Seq
  pub guard : Option Term
  pub often : AllOften seqs
  pub bounded : is_array b.size ≡ true → list_any has_endless seqs ≡ false
  pub short : is_short (is_array b.size) seqs ≡ true
  pub within : nat_le (removing_after b.word before.removing seqs) most_cells ≡ true
  pub room : nat_le (before.bins + bins_in (plan_of (is_array b.size) seqs)) most_bins ≡ true
  pub bins : bins_made b before.declared (plan_of (is_array b.size) seqs) guard seqs ≡ made.bins
  pub removed : removed_by b.word seqs ≡ made.removed
  pub removing : removing_after b.word before.removing seqs ≡ made.removing

pub made_of : (levels : Levels) (domain : Domain) (b : BinsDecl) (sequences : List (List Step)) (before : Before) (made : TransBins) → trans_bins_of levels domain b sequences before ≡ Ok made → IsMadeOf b before made
unfolding trans_bins_of steps_binned seqs_binned fitted plan_in removing_in trans_made
made_of levels domain b sequences before made e =
    let l = bind_ok (steps.sequences_of levels domain b.wildcard sequences) _ made e in
    let g = bind_ok (guard_in levels b.guard) _ made l.2 in
    let u = bind_ok (needs (is_bounded (is_array b.size) l.0) kind.Unbounded b.at) _ made g.2 in
    let s = bind_ok (steps.seqs_of domain l.0 b.at) _ made u.2 in
    let f = bind_ok (fitted b before s.0) _ made s.2 in
    let t = bind_ok (needs (is_short (is_array b.size) s.0) kind.TooLong b.at) _ f.0 f.1 in
    let r = bind_ok (removing_in b.word before.removing s.0 b.at) _ f.0 t.2 in
    let p = bind_ok (plan_in (is_array b.size) s.0 before.bins b.at) _ f.0 r.2 in
    let n = bind_ok (needs (nat_le (before.bins + bins_in (plan_of (is_array b.size) s.0)) most_bins) kind.TooManyBins b.at) _ p.0 p.1 in
    let q = bind_ok (needs (nat_le (removing_after b.word before.removing s.0) most_cells) kind.TooLong b.at) _ r.0 r.1 in
    let plan : plan_of (is_array b.size) s.0 ≡ p.0 = ok_is _ p.0 n.2 in
    let fit : p.0 ≡ f.0.0 = ap (λ (x : Plan × ℕ). x.0) (ok_is _ f.0 p.2) in
    let sum : removing_after b.word before.removing s.0 ≡ r.0 = ok_is _ r.0 q.2 in
    let passed : r.0 ≡ f.0.1 = ap (λ (x : Plan × ℕ). x.1) (ok_is _ f.0 p.2) in
    let whole : trans_made b before.declared f.0.0 f.0.1 g.0 s.0 ≡ made = ok_is _ made f.2 in
    record {
      seqs = s.0;
      guard = g.0;
      often = seqs_repeat domain b.at IsOften l.0 s.0 s.1 (sequences_often levels domain b.wildcard sequences l.0 l.1);
      bounded = λ array. seqs_bounded domain b.at l.0 s.0 s.1 (bounded_by (is_array b.size) (list_any any_goes_on l.0) array (needs_ok (is_bounded (is_array b.size) l.0) kind.Unbounded b.at u.0 u.1));
      short = needs_ok (is_short (is_array b.size) s.0) kind.TooLong b.at t.0 t.1;
      within = needs_ok (nat_le (removing_after b.word before.removing s.0) most_cells) kind.TooLong b.at q.0 q.1;
      room = needs_ok (nat_le (before.bins + bins_in (plan_of (is_array b.size) s.0)) most_bins) kind.TooManyBins b.at n.0 n.1;
      bins = ap (λ (x : Plan). bins_made b before.declared x g.0 s.0) (plan ∙ fit) ∙ ap (λ (x : TransBins). x.bins) whole;
      removed = ap (λ (x : TransBins). x.removed) whole;
      removing = sum ∙ passed ∙ ap (λ (x : TransBins). x.removing) whole;
    }
