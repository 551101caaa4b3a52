use Rattle.std.proofs.Common.{◌≡◌, sym, subst, true, List}
use Rattle.std.specs.Prelude.{is_ok}
use Rattle.cov_history.specs.declared.entry.Entry.{Entry}
use Rattle.cov_history.specs.Answers.{is_made}
use Rattle.cov_history.specs.History.{is_legal}
use Rattle.history_answers.proofs.Asked.{still_legal, still_if}
use Rattle.history_answers.proofs.plain.PlainStore.serve.Goals as goal

pub invariant_of-self : goal.invariant_of-self
invariant_of-self g c =
    let s = c.args.self.now in
    let m : is_made c.in_ok-answer.answer ≡ true = search in
    let more = still_legal s.opening s.entries.items c.args.caller c.args.ask c.in_ok-answer.answer c.in-Some.entry s.legal c.requires (c.in_ok-answer.ensures c.args.caller) m c.in-Some.ensures in
    record {
      legal = subst (λ (es : List Entry). is_legal s.opening es ≡ true) (sym c.push.ensures.items) (still_if s.opening s.entries.items c.in-Some.entry (is_ok c.push.result) s.legal more);
      known = λ x is. absurd (cc);
    }
