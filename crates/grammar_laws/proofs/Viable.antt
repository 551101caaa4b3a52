-- Viable first tokens are the first tokens of a design text, and are so by their kinds and spellings alone.
use Rattle.std.proofs.Common.{◌≡◌, ℕ, zero, suc, ◌<◌, ◌≤◌, List, [], ◌∷◌, ◌++◌, Some, true, inl, inr, length, take, refl, sym, ◌∙◌, subst, arith, slice_get, length-append}
use Rattle.std.proofs.lemmas.Bool.{cases_lt}
use Rattle.cov_grammar.specs.declared.marked.Marked.{Marked}
use Rattle.cov_grammar.specs.declared.place.Room.{Room}
use Rattle.cov_grammar.specs.Designs.{design}
use Rattle.cov_grammar.specs.Fault.{start, DerivesWithin, IsViableWithin}
use Rattle.cov_grammar.proofs.Whole.{viable_inside, derived_viable, shorter_viable}
use Rattle.grammar_laws.specs.Continuations.{AreAlike, LieIn, ArePlainFrom, GoesOn}
use Rattle.grammar_laws.proofs.Keeps.{any}
use Rattle.grammar_laws.proofs.Tails.{get_of_left, spelled_left}
use Rattle.grammar_laws.proofs.Completes.{Ended, Produces}
use Rattle.grammar_laws.proofs.Designs.{design_produces}

pub take_below : {A : Type 0} (n : ℕ) (xs : List A) (i : ℕ) → i < n → slice_get (take n xs) i ≡ slice_get xs i
take_below zero xs i h = absurd (omega arith)
take_below (suc n) [] i h = refl
take_below (suc n) (x ∷ xs) zero h = refl
take_below (suc n) (x ∷ xs) (suc i) h = take_below n xs i (omega arith)

pub take_long : {A : Type 0} (n : ℕ) (xs : List A) → n ≤ length xs → length (take n xs) ≡ n
take_long zero xs h = refl
take_long (suc n) [] h = absurd (omega arith)
take_long (suc n) (x ∷ xs) h = let e = take_long n xs (omega arith) in omega arith

-- first tokens alike begin a design alike
pub alike_viable : (room : Room) (n : ℕ) (first : List ℕ) (before : List Marked) (second : List ℕ) (after : List Marked) → AreAlike n first before second after →
    IsViableWithin room first before n → IsViableWithin room second after n
alike_viable room n first before second after alike h =
    let p : Produces {S = Unit {0}} true any any (λ _ text ts. design text ts room) = design_produces room in
    (p.begun.keeps n first before second after alike tt tt tt).begins start n (omega arith) h

alike_taken : (text : List ℕ) (n : ℕ) (ts : List Marked) → AreAlike n text ts text (take n ts)
alike_taken text n ts = record { like = λ i t l h. record { token = t; stands = take_below n ts i l ∙ h; kind = refl; spelling = refl } }

ended : (room : Room) (text : List ℕ) (ts : List Marked) → LieIn text ts → IsViableWithin room text ts (length ts) → Ended (λ text ts. design text ts room) text ts start
ended room text ts lie h =
    let p : Produces {S = Unit {0}} true any any (λ _ text ts. design text ts room) = design_produces room in
    elim (cases_lt 0 (length ts)) [
      | inl l ↦ p.begun.ends tt text ts lie start l h
      | inr l ↦ p.fill tt text ts lie start (omega arith)
    ]

goes : (room : Room) (text : List ℕ) (ts : List Marked) (n : ℕ) → length (take n ts) ≡ n → Ended (λ text ts. design text ts room) text (take n ts) start → GoesOn room text ts n
goes room text ts n long e =
    let other = e.goes.text_is in
    let us = e.goes.tokens_are in
    let whole : DerivesWithin room e.other e.us e.tree = (e.end, e.derives, e.whole) in
    let plain : ArePlainFrom n e.other e.us = subst (λ (z : ℕ). ArePlainFrom z e.other e.us) long e.goes.plain in
    record {
      more = e.goes.more;
      behind = e.goes.behind;
      decls = e.tree;
      derives = subst (λ (z : List ℕ). DerivesWithin room z (take n ts ++ e.goes.behind) e.tree) other (subst (λ (z : List Marked). DerivesWithin room e.other z e.tree) us whole);
      lie = subst (λ (z : List ℕ). LieIn z (take n ts ++ e.goes.behind)) other (subst (λ (z : List Marked). LieIn e.other z) us e.goes.lie);
      plain = subst (λ (z : List ℕ). ArePlainFrom n z (take n ts ++ e.goes.behind)) other (subst (λ (z : List Marked). ArePlainFrom n e.other z) us plain);
    }

pub viable_goes_on : (room : Room) (text : List ℕ) (ts : List Marked) (n : ℕ) → LieIn text (take n ts) → IsViableWithin room text ts n → GoesOn room text ts n
viable_goes_on room text ts n lie h =
    let long = take_long n ts (viable_inside text ts room n h) in
    goes room text ts n long (ended room text (take n ts) lie (subst (λ (z : ℕ). IsViableWithin room text (take n ts) z) (sym long)
    (alike_viable room n text ts text (take n ts) (alike_taken text n ts) h)))

alike_before : (room : Room) (text : List ℕ) (ts : List Marked) (n : ℕ) → n ≤ length ts → LieIn text (take n ts) → (g : GoesOn room text ts n) →
    AreAlike n (text ++ g.more) (take n ts ++ g.behind) text ts
alike_before room text ts n l lie g = record {
  like = λ i t b h.
      let long = take_long n ts l in
      let at : slice_get (take n ts) i ≡ Some t = sym (get_of_left (take n ts) g.behind i (omega arith)) ∙ h in
      record { token = t; stands = sym (take_below n ts i b) ∙ at; kind = refl; spelling = sym (spelled_left text g.more t (lie.inside i t at)) };
}

pub goes_on_viable : (room : Room) (text : List ℕ) (ts : List Marked) (n : ℕ) → n ≤ length ts → LieIn text (take n ts) → GoesOn room text ts n → IsViableWithin room text ts n
goes_on_viable room text ts n l lie g =
    let long = take_long n ts l in
    let all = length-append (take n ts) g.behind in
    let whole = derived_viable (text ++ g.more) (take n ts ++ g.behind) room g.decls g.derives in
    alike_viable room n (text ++ g.more) (take n ts ++ g.behind) text ts (alike_before room text ts n l lie g)
    (shorter_viable (text ++ g.more) (take n ts ++ g.behind) room n (length (take n ts ++ g.behind)) (omega arith) whole)
