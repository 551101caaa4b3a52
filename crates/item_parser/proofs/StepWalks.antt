-- Where a reader of sequences stands, from one part of a rule to the next.
use Rattle.std.proofs.Common.{ℕ, List, [], ◌∷◌, Option, Some, None, false, refl}
use Rattle.cov_tree.specs.declared.bins.Elem.{Elem}
use Rattle.cov_tree.specs.declared.bins.Step.{Step}
use Rattle.cov_tree.specs.declared.bins.Times.{Times}
use Rattle.cov_lexer.specs.declared.kind.Kind.{Kind}
use Rattle.cov_lexer.specs.declared.kind.Kind.TheVariants.{OpenParen, CloseParen, OpenSquare, CloseSquare, Colon, Assign, FatArrow, ThinArrow, Star}
use Rattle.cov_grammar.specs.declared.marked.Marked.{Marked}
use Rattle.cov_grammar.specs.declared.place.Place.{Place}
use Rattle.cov_grammar.specs.declared.place.Room.{Room}
use Rattle.cov_grammar.specs.declared.place.Standing.TheVariants.{StepEnd}
use Rattle.cov_grammar.specs.declared.place.Stop.{Stop}
use Rattle.cov_grammar.specs.Rule.{In, one, word, offset, both, fold, map_to, ahead, behind, maybe}
use Rattle.cov_grammar.specs.Parses.{Reads, Fails}
use Rattle.cov_grammar.specs.Expressions.{pair, snoc, expr}
use Rattle.cov_grammar.specs.Bins.{elems, repetition, repeated, step, times_or_once, seq}
use Rattle.cov_grammar.proofs.Lawful.{Lawful, Lawfuls, lawful_one, lawful_word, lawful_here, lawful_map, lawful_maybe, lawful_both, lawful_fold}
use Rattle.cov_grammar.proofs.Compose.{both_reads, both_fails, both_then_fails}
use Rattle.cov_grammar.proofs.Steps.{Leads, leads_self, here_reads, bind_step}
use Rattle.cov_grammar.proofs.ExprLaws.{expr_lawful}
use Rattle.cov_grammar.proofs.BinsLaws.{elems_lawful, repetition_lawful, step_lawful}
use Rattle.token_reader.proofs.Chains.{no_part, part}

module _ (text : List ℕ) (ts : List Marked) where
  abbrev pub w : (k : Kind) → Lawful ts (λ _. one ts (k ∷ []))
  w k = lawful_word ts k

  -- a repetition
  abbrev pub colon_lawful : Lawful ts (λ r. ahead (word ts Colon) (expr text ts r))
  colon_lawful = lawful_both _ (w Colon) (expr_lawful text ts) refl

  abbrev pub two_numbers_lawful : Lawful ts (λ r. both pair (expr text ts r) (maybe (ahead (word ts Colon) (expr text ts r))))
  two_numbers_lawful = lawful_both pair (expr_lawful text ts) (lawful_maybe colon_lawful refl) refl

  abbrev pub ways : List Kind
  ways = Star ∷ ThinArrow ∷ Assign ∷ []

  abbrev pub times_lawful : Lawful ts (λ r. both repeated (one ts (Star ∷ ThinArrow ∷ Assign ∷ [])) (both pair (expr text ts r) (maybe (ahead (word ts Colon) (expr text ts r)))))
  times_lawful = lawful_both repeated (lawful_one ts (Star ∷ ThinArrow ∷ Assign ∷ [])) two_numbers_lawful refl

  abbrev pub times_close_lawful : Lawful ts (λ r. behind (both repeated (one ts (Star ∷ ThinArrow ∷ Assign ∷ [])) (both pair (expr text ts r) (maybe (ahead (word ts Colon) (expr text ts r))))) (word ts CloseSquare))
  times_close_lawful = lawful_both _ times_lawful (w CloseSquare) refl

  pub no_repetition : {d : Room} {p : Place} → (In ts p.at (OpenSquare ∷ []) → ⊥) → Reads (λ r. maybe (repetition text ts r)) d p None p
  unfolding repetition
  no_repetition h = no_part (OpenSquare ∷ []) times_close_lawful h

  pub repetition_part : {d : Room} {p : Place} {k : Marked} {m : Place} → Reads (λ _. word ts OpenSquare) d p k m →
      Leads (λ r. behind (both repeated (one ts (Star ∷ ThinArrow ∷ Assign ∷ [])) (both pair (expr text ts r) (maybe (ahead (word ts Colon) (expr text ts r))))) (word ts CloseSquare)) d m (λ r. maybe (repetition text ts r)) d p (λ x. Some x)
  unfolding repetition
  repetition_part r = part (OpenSquare ∷ []) times_close_lawful r

  -- a step
  abbrev pub step_of : ℕ → List Elem → Option Times → Step
  step_of start elems times = record { elems = elems; times = times_or_once times; at = start }

  abbrev maybe_repetition_lawful : Lawful ts (λ r. maybe (repetition text ts r))
  maybe_repetition_lawful = lawful_maybe (repetition_lawful text ts) refl

  abbrev step_lawfuls : Lawfuls ts (λ r start. both (step_of start) (elems text ts StepEnd r) (maybe (repetition text ts r)))
  step_lawfuls = record {
    first = (lawful_both (step_of 0) (elems_lawful text ts StepEnd) (lawful_maybe (repetition_lawful text ts) refl) refl).first;
    cont = (lawful_both (step_of 0) (elems_lawful text ts StepEnd) (lawful_maybe (repetition_lawful text ts) refl) refl).cont;
    null = false;
    sound = λ start d e h. (lawful_both (step_of start) (elems_lawful text ts StepEnd) (lawful_maybe (repetition_lawful text ts) refl) refl).sound d e h;
  }

  step_begun : (d : Room) (p : Place) → Leads (λ r. both (step_of (offset ts p.at)) (elems text ts StepEnd r) (maybe (repetition text ts r))) d p (step text ts) d p (λ x. x)
  unfolding step
  step_begun d p = bind_step (lawful_here ts) step_lawfuls refl (leads_self (step text ts) d p) (here_reads ts d p)

  pub step_fails : {d : Room} {p : Place} {s : Stop} → Fails (elems text ts StepEnd) d p s → Fails (step text ts) d p s
  step_fails {d = d} {p = p} f = (step_begun d p).fails (both_fails (step_of (offset ts p.at)) (elems_lawful text ts StepEnd) (lawful_maybe (repetition_lawful text ts) refl) refl f)

  pub step_breaks : {d : Room} {p : Place} {xs : List Elem} {q : Place} {s : Stop} → Reads (elems text ts StepEnd) d p xs q → Fails (λ r. maybe (repetition text ts r)) d q s → Fails (step text ts) d p s
  step_breaks {d = d} {p = p} r f = (step_begun d p).fails (both_then_fails (step_of (offset ts p.at)) (elems_lawful text ts StepEnd) (lawful_maybe (repetition_lawful text ts) refl) refl r f)

  pub step_reads : {d : Room} {p : Place} {xs : List Elem} {q : Place} {t : Option Times} {k : Place} → Reads (elems text ts StepEnd) d p xs q → Reads (λ r. maybe (repetition text ts r)) d q t k →
      Reads (step text ts) d p (record { elems = xs; times = times_or_once t; at = offset ts p.at }) k
  step_reads {d = d} {p = p} r t = (step_begun d p).reads (both_reads (step_of (offset ts p.at)) (elems_lawful text ts StepEnd) (lawful_maybe (repetition_lawful text ts) refl) refl r t)

  -- steps in parentheses
  abbrev pub steps_lawful : Lawful ts (λ r. fold snoc (map_to (λ x. x ∷ []) (step text ts r)) (ahead (word ts FatArrow) (step text ts r)))
  steps_lawful = lawful_fold snoc (lawful_map (step_lawful text ts) _) (lawful_both _ (w FatArrow) (step_lawful text ts) refl) refl refl refl

  abbrev pub steps_close_lawful : Lawful ts (λ r. behind (fold snoc (map_to (λ x. x ∷ []) (step text ts r)) (ahead (word ts FatArrow) (step text ts r))) (word ts CloseParen))
  steps_close_lawful = lawful_both _ steps_lawful (w CloseParen) refl

  pub seq_leads : (d : Room) (p : Place) → Leads (λ r. ahead (word ts OpenParen) (behind (fold snoc (map_to (λ x. x ∷ []) (step text ts r)) (ahead (word ts FatArrow) (step text ts r))) (word ts CloseParen))) d p (seq text ts) d p (λ x. x)
  unfolding seq
  seq_leads d p = leads_self (seq text ts) d p
