use Rattle.std.proofs.Common.{◌≡◌, ◌∙◌, ℕ, List, [], ◌∷◌, ◌++◌, length, sym, ap, subst, Some}
use mathlib.Core.List.{IsPrefix}
use Rattle.design_data.specs.declared.design.Design.{Design}
use Rattle.cov_history.specs.declared.entry.Entry.{Entry}
use Rattle.cov_history.specs.Turns.{PortTurn, Grown, ServesOrStops}
use Rattle.store_core.specs.Asks.{asked}
use Rattle.turn_lock.specs.History.{AtMostOneMore}
use Rattle.turn_lock.specs.Seats.{seen, own, taken, home}
use Rattle.cov_server.proofs.Ports.{serves_most, served_later, grown_later, grown_by}
use Rattle.cov_server.proofs.turns.SharedPortPort.turn.Goals as goal

pub give-requires-clause-entries : goal.give-requires-clause-entries
give-requires-clause-entries g c =
    let now = c.deref_mut.result.now in
    let after = g.C.Book.entries c.serve-answered.new.self in
    let held : g.C.Book.entries now ≡ taken c.take-turn.result.0 = ap g.C.Book.entries c.deref_mut.ensures.value ∙ sym c.take-turn.ensures.taken in
    let most = serves_most g.C.Book.number g.met.C.Core.numbered (g.C.Book.base now) c.number-caller.result (g.C.Book.entries now) after (asked c.args.ask) c.serve-answered.result.answer _ _ c.serve-answered.ensures.served in
    subst (λ (n : ℕ). AtMostOneMore g.C.Book.number n (taken c.take-turn.result.0) after) (c.number-caller.ensures ∙ sym c.take-turn.ensures.by.same_number)
    (subst (λ (h : List Entry). AtMostOneMore g.C.Book.number c.number-caller.result h after) held most)

pub returns-clause-grown : goal.returns-clause-grown
returns-clause-grown g c =
    let now = c.deref_mut.result.now in
    let after = g.C.Book.entries c.serve-answered.new.self in
    let seat = c.in-Some.seat in
    let there : c.args.self.now.seat ≡ Some seat = cc in
    let back : c.replace-old.new.self ≡ Some c.give.result = cc in
    let p : IsPrefix (seen seat) (g.C.Book.entries now) = subst (λ (h : List Entry). IsPrefix (seen seat) h) (ap g.C.Book.entries (sym c.deref_mut.ensures.value)) c.take-turn.ensures.begins in
    let grown = grown_by _ _ (g.C.Book.entries now) after (asked c.args.ask) c.serve-answered.result.answer _ _ c.serve-answered.ensures.served in
    let t = subst (λ (h : List Entry). Grown (seen seat) h) (sym c.give.ensures.seen) (grown_later (seen seat) (g.C.Book.entries now) after p grown) in
    rw (there, back) t

pub returns-clause-turn : goal.returns-clause-turn
returns-clause-turn g c =
    let now = c.deref_mut.result.now in
    let after = g.C.Book.entries c.serve-answered.new.self in
    let seat = c.in-Some.seat in
    let there : c.args.self.now.seat ≡ Some seat = cc in
    let back : c.replace-old.new.self ≡ Some c.give.result = cc in
    let d : Design = home g.C.Book.base c.args.self.now.shared.now.lock in
    let n = c.number-caller.result in
    let held : g.C.Book.entries now ≡ taken c.take-turn.result.0 = ap g.C.Book.entries c.deref_mut.ensures.value ∙ sym c.take-turn.ensures.taken in
    let based : g.C.Book.base now ≡ d = ap g.C.Book.base c.deref_mut.ensures.value ∙ c.take-turn.ensures.base in
    let p : IsPrefix (seen seat) (g.C.Book.entries now) = subst (λ (h : List Entry). IsPrefix (seen seat) h) (ap g.C.Book.entries (sym c.deref_mut.ensures.value)) c.take-turn.ensures.begins in
    let s = subst (λ (x : Design). ServesOrStops x n (g.C.Book.entries now) (asked c.args.ask) c.serve-answered.result.answer after (g.C.Core.faults now) (g.C.Core.faults c.serve-answered.new.self)) based c.serve-answered.ensures.served in
    let same : after ≡ g.C.Book.entries now → own g.C.Book.number c.give.result ≡ own g.C.Book.number seat = λ e. c.give.ensures.same (e ∙ held) ∙ c.take-turn.ensures.own in
    let more : (e : Entry) → after ≡ g.C.Book.entries now ++ e ∷ [] → own g.C.Book.number c.give.result ≡ own g.C.Book.number seat ++ (length (g.C.Book.entries now), e) ∷ [] =
    λ e is. c.give.ensures.more e (is ∙ ap (λ l. l ++ e ∷ []) held) ∙ (ap (λ l. l ++ (length (taken c.take-turn.result.0), e) ∷ []) c.take-turn.ensures.own ∙ ap (λ (l : List Entry). own g.C.Book.number seat ++ (length l, e) ∷ []) (sym held)) in
    let t = served_later d n (seen seat) (g.C.Book.entries now) after (own g.C.Book.number seat) (own g.C.Book.number c.give.result) (asked c.args.ask) c.serve-answered.result.answer c.serve-answered.result.point _ _ s p c.serve-answered.ensures.point same more in
    let u = subst (λ (m : ℕ). PortTurn d (seen seat) (own g.C.Book.number seat) (seen c.give.result) (own g.C.Book.number c.give.result) m (asked c.args.ask) c.serve-answered.result.answer c.serve-answered.result.point) c.number-caller.ensures
    (subst (λ (h : List Entry). PortTurn d (seen seat) (own g.C.Book.number seat) h (own g.C.Book.number c.give.result) n (asked c.args.ask) c.serve-answered.result.answer c.serve-answered.result.point) (sym c.give.ensures.seen) t) in
    rw (there, back) u
