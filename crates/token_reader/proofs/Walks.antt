-- Where a reader stands behind single tokens.
use Rattle.std.proofs.Common.{◌≡◌, ℕ, ◌+◌, List, sym, ap, subst}
use Rattle.std.proofs.Common.{Result, IfErr}
use Rattle.std.proofs.lemmas.Result.{err_from_is_err_and}
use Rattle.std.specs.Result.{IsErrAnd}
use Rattle.cov_lexer.specs.declared.kind.Kind.{Kind}
use Rattle.cov_lexer.specs.declared.kind.Kind.TheVariants.{Ident}
use Rattle.cov_grammar.specs.declared.marked.Marked.{Marked}
use Rattle.cov_grammar.specs.declared.place.Place.{Place}
use Rattle.cov_grammar.specs.declared.place.Room.{Room}
use Rattle.cov_grammar.specs.declared.place.Stop.{Stop}
use Rattle.cov_grammar.specs.declared.place.Stop.TheVariants.{TooDeep}
use Rattle.cov_grammar.specs.Rule.{Rule, after, one, word}
use Rattle.cov_grammar.specs.Parses.{Reads, Fails}
use Rattle.cov_grammar.specs.Expressions.{spelled}
use Rattle.cov_grammar.specs.Bins.{ident}
use Rattle.cov_grammar.proofs.Lawful.{lawful_word}
use Rattle.cov_grammar.proofs.Compose.{map_reads, map_fails}
use Rattle.cov_grammar.proofs.Steps.{one_next}

pub counted_next : (ts : List Marked) (ks : List Kind) {d : Room} {p : Place} {t : Marked} {q : Place} → Reads (λ _. one ts ks) d p t q →
    record { at = q.at; used = p.used + 1 } ≡ after p (p.used + 1)
counted_next ts ks {p = p} r =
    let behind : ℕ → Place = λ n. record { at = n; used = p.used + 1 } in
    ap behind (one_next ts ks r).0

pub ident_reads : (text : List ℕ) (ts : List Marked) {d : Room} {p : Place} {t : Marked} {q : Place} → Reads (λ _. word ts Ident) d p t q → Reads (λ _. ident text ts) d p (spelled text t) q
unfolding ident
ident_reads text ts r = map_reads (spelled text) (lawful_word ts Ident) r

pub ident_fails : (text : List ℕ) (ts : List Marked) {d : Room} {p : Place} {s : Stop} → Fails (λ _. word ts Ident) d p s → Fails (λ _. ident text ts) d p s
unfolding ident
ident_fails text ts r = map_fails (spelled text) (lawful_word ts Ident) r

-- no level is left
pub too_deep : {T : Type 0} {F : Room → Rule T} {d : Room} {p : Place} {k : ℕ} (s : Stop) → s ≡ TooDeep k → Fails F d p (TooDeep k) → Fails F d p s
too_deep {F = F} {d = d} {p = p} s e f = subst (λ s. Fails F d p s) (sym e) f

-- the exit of a `?`, where a clause speaks of the fault alone
pub exits_if : {X : Type 0} (P : Stop → Type 0) (r : Result X Stop) (s : Stop) → IsErrAnd r (λ e. e ≡ s) → P s → IfErr r P
exits_if P r s h f =
    let x = err_from_is_err_and r h in
    rw (x.1, x.2) f
