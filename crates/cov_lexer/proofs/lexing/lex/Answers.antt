use Rattle.std.proofs.Common.{◌≡◌, ◌+◌, ◌-◌, ◌<◌, ◌++◌, ℕ, List, arith, refl, append_assoc, append-nil, suc, [], ◌∷◌, inl, inr, length, subst, sym}
use Rattle.std.proofs.lemmas.Result.{err_from_is_err_and}
use Rattle.cov_lexer.specs.declared.token.Token.{Token}
use Rattle.cov_lexer.specs.declared.token.LexFault.{LexFault}
use Rattle.cov_lexer.specs.Lexes.{Covers, Lexes, IsLexFault, IsFaultAt, place}
use Rattle.cov_lexer.specs.Reading.{MayStand}
use Rattle.cov_lexer.proofs.Covering.{one_list, fault_or_tokens, one_fault, covers_ascend, covers_within}
use Rattle.cov_lexer.proofs.lexing.lex.Goals as goal

pub loop-at-init : goal.loop-at-init
loop-at-init c = record { so_far = λ d rest k h. rw c.new-tokens.ensures.items (d, h); inside = omega arith }

pub loop-at-preserved : goal.loop-at-preserved
loop-at-preserved c = record {
  so_far = λ d rest k h. c.loop-at.invariant.so_far (suc d) rest k (
    c.in_ok-found.found.«end»,
    c.in_ok-found.ensures.more,
    c.in_ok-found.ensures.inside,
    inl (subst (λ o. MayStand c.args.text.now c.loop-at.«at» o c.in_ok-found.found.«end») c.in_default.is c.in_ok-found.ensures.stands, h),
  );
  inside = c.in_ok-found.ensures.inside;
}

pub loop-at-preserved-in_ok-push : goal.loop-at-preserved-in_ok-push
loop-at-preserved-in_ok-push c =
    let m : c.loop-at.«at» < c.in_ok-found.found.«end» = c.in_ok-found.ensures.more in
    let e : c.loop-at.«at» + (c.in_ok-found.found.«end» - c.loop-at.«at») ≡ c.in_ok-found.found.«end» = omega arith in
    record {
      so_far = λ d rest k h. rw (c.in_ok-push.ensures.items, append_assoc)
          (c.loop-at.invariant.so_far (suc d) (record { kind = c.in-Some.sort.kind; spelled = c.in-Some.sort.spelled; «at» = c.loop-at.«at»; len = c.in_ok-found.found.«end» - c.loop-at.«at» } ∷ rest) k (
            c.in_ok-found.found.«end»,
            m,
            c.in_ok-found.ensures.inside,
            (let stands = subst (λ o. MayStand c.args.text.now c.loop-at.«at» o c.in_ok-found.found.«end») c.in-Some.is c.in_ok-found.ensures.stands in inr (_, rest, refl, refl, e, stands.0, stands.1, h)),
          ));
      inside = c.in_ok-found.ensures.inside;
    }

fault_here : (text : List ℕ) (f : LexFault) (i : ℕ) (ts : List Token) → ((c : ℕ) (rest : List Token) (k : ℕ) → Covers text c i rest k → (d : ℕ) × Covers text d 0 (ts ++ rest) k) →
    i < length text → IsFaultAt text f → place f ≡ i → IsLexFault text f
fault_here text f i ts so_far l h e = record {
  before = (let q = so_far 0 [] i (refl, refl) in (q.0, _, subst (λ k. Covers text q.0 0 (ts ++ []) k) (sym e) q.1));
  inside = omega arith;
  here = h;
}

pub returns-in_err-found-clause-cause : goal.returns-in_err-found-clause-cause
returns-in_err-found-clause-cause c =
    let p = err_from_is_err_and c.from_residual.result c.from_residual.ensures.1 in
    rw (p.1, p.2) (λ not_memory. fault_here c.args.text.now c.in_err-found.field-0.0 c.loop-at.«at» c.loop-at.tokens.items c.loop-at.invariant.so_far c.loop-at-test.true c.in_err-found.ensures.0 c.in_err-found.ensures.1)

pub returns-in_err-found-clause-only_cause : goal.returns-in_err-found-clause-only_cause
returns-in_err-found-clause-only_cause c =
    let p = err_from_is_err_and c.from_residual.result c.from_residual.ensures.1 in
    rw (p.1, p.2) (λ not_memory other h. one_fault c.args.text.now other c.in_err-found.field-0.0 h
    (fault_here c.args.text.now c.in_err-found.field-0.0 c.loop-at.«at» c.loop-at.tokens.items c.loop-at.invariant.so_far c.loop-at-test.true c.in_err-found.ensures.0 c.in_err-found.ensures.1))

pub returns-in_err-found-clause-none : goal.returns-in_err-found-clause-none
returns-in_err-found-clause-none c =
    let p = err_from_is_err_and c.from_residual.result c.from_residual.ensures.1 in
    rw (p.1, p.2) (λ not_memory tokens h. fault_or_tokens c.args.text.now c.in_err-found.field-0.0 tokens
    (fault_here c.args.text.now c.in_err-found.field-0.0 c.loop-at.«at» c.loop-at.tokens.items c.loop-at.invariant.so_far c.loop-at-test.true c.in_err-found.ensures.0 c.in_err-found.ensures.1) h)

lexes_all : (text : List ℕ) (i : ℕ) (ts : List Token) → ((c : ℕ) (rest : List Token) (k : ℕ) → Covers text c i rest k → (d : ℕ) × Covers text d 0 (ts ++ rest) k) → i ≡ length text → Lexes text ts
lexes_all text i ts so_far e =
    let q = so_far 0 [] (length text) (refl, e) in
    (q.0, subst (λ xs. Covers text q.0 0 xs (length text)) (append-nil ts) q.1)

pub returns-clause-read : goal.returns-clause-read
returns-clause-read c = lexes_all c.args.text.now c.loop-at.«at» c.loop-at.tokens.items c.loop-at.invariant.so_far (let a = c.loop-at.invariant.inside in omega (arith, c.loop-at-test.false))

pub returns-clause-only : goal.returns-clause-only
returns-clause-only c = λ others h. one_list c.args.text.now others c.loop-at.tokens.items h (returns-clause-read c)

pub returns-clause-ascend : goal.returns-clause-ascend
returns-clause-ascend c = let h = returns-clause-read c in covers_ascend c.args.text.now h.0 0 c.loop-at.tokens.items (length c.args.text.now) (omega arith) h.1

pub returns-clause-sound : goal.returns-clause-sound
returns-clause-sound c = λ fault h. fault_or_tokens c.args.text.now fault c.loop-at.tokens.items h (returns-clause-read c)

pub returns-clause-within : goal.returns-clause-within
returns-clause-within c = let h = returns-clause-read c in covers_within c.args.text.now h.0 0 c.loop-at.tokens.items (length c.args.text.now) h.1
