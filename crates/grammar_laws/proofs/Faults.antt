-- Where a text has its fault of syntax, by the designs that its first tokens lead on to.
use Rattle.std.proofs.Common.{false, Bool, ◌≡◌, ℕ, zero, suc, ◌+◌, ◌<◌, ◌≤◌, List, [], ◌∷◌, ◌++◌, Some, inl, inr, length, take, drop, refl, sym, ◌∙◌, ap, subst, arith, slice_get, length-append}
use Rattle.cov_lexer.specs.declared.token.Token.{Token}
use Rattle.cov_lexer.specs.Lexes.{Lexes, Ascend}
use Rattle.cov_lexer.proofs.Covering.{covers_ascend}
use Rattle.cov_lexer.specs.declared.kind.Kind.{Kind}
use Rattle.cov_lexer.specs.declared.kind.Kind.TheVariants.{Ident}
use Rattle.cov_grammar.specs.declared.place.Room.{Room}
use Rattle.cov_lexer.specs.Kinds.{has}
use Rattle.cov_grammar.specs.Bins.{squares}
use Rattle.cov_grammar.specs.Marking.{alone, expr_kinds, next_begins, marked}
use Rattle.cov_grammar.specs.Fault.{IsViableWithin, IsSyntaxFault}
use Rattle.cov_grammar.proofs.Whole.{derived_viable, shorter_viable}
use Rattle.grammar_laws.specs.Continuations.{GoesOn}
use Rattle.grammar_laws.specs.Tokens.{follows_name, AreSpelledAlike, EndsAlone, GoOnAlike, StandIn, LeadsOn}
use Rattle.grammar_laws.proofs.Tails.{get_of_left, range_left}
use Rattle.grammar_laws.proofs.Viable.{take_below, take_long, goes_on_viable}
use Rattle.grammar_laws.proofs.Marks.{Untold, alone_stays, marked_long, marked_lie, viable_leads_on, spelled_alike_viable}

ascend_within : (i n : ℕ) (ts : List Token) → Ascend i ts n → i ≤ n
ascend_within i n [] h = h
ascend_within i n (t ∷ ts) h = let l = ascend_within (t.«at» + t.len) n ts h.2 in let a = h.0 in omega arith

ascend_inside : (i n : ℕ) (ts : List Token) → Ascend i ts n → (k : ℕ) (t : Token) → slice_get ts k ≡ Some t → t.«at» + t.len ≤ n
ascend_inside i n [] h k t e = absurd (cc)
ascend_inside i n (x ∷ ts) h zero t e = subst (λ (z : Token). z.«at» + z.len ≤ n) (let s : x ≡ t = cc in s) (ascend_within (x.«at» + x.len) n ts h.2)
ascend_inside i n (x ∷ ts) h (suc k) t e = ascend_inside (x.«at» + x.len) n ts h.2 k t e

-- the tokens of a text stand in it
pub lexed_stand : (k : ℕ) (text : List ℕ) (ts : List Token) → Lexes text ts → StandIn k text ts
lexed_stand k text ts h = record { inside = λ i t l e. ascend_inside 0 (length text) ts (covers_ascend text h.0 0 ts (length text) (omega arith) h.1) i t e }

at_first : {A : Type 0} (n : ℕ) (xs ys : List A) (i : ℕ) (x : A) → n ≤ length xs → i < n → slice_get (take n xs ++ ys) i ≡ Some x → slice_get xs i ≡ Some x
at_first n xs ys i x l b h = let e = take_long n xs l in sym (take_below n xs i b) ∙ sym (get_of_left (take n xs) ys i (omega arith)) ∙ h

follows_same : (text more : List ℕ) (n : ℕ) (named : Bool) (ts rest : List Token) (i : ℕ) → n ≤ length ts → i < n → StandIn n text ts →
    follows_name (text ++ more) named (take n ts ++ rest) i ≡ follows_name text named ts i
follows_same text more zero named ts rest i l b h = absurd (omega arith)
follows_same text more (suc n) named [] rest i l b h = absurd (omega arith)
follows_same text more (suc n) named (t ∷ ts) rest zero l b h = refl
follows_same text more (suc n) named (t ∷ ts) rest (suc i) l b h =
    let a = alone_stays text more t (h.inside 0 t (omega arith) refl) in
    ap (λ (z : Kind). follows_name (text ++ more) (has z (Ident ∷ [])) (take n ts ++ rest) i) a
    ∙ follows_same text more n (has (alone text t) (Ident ∷ [])) ts rest i (omega arith) (omega arith) (record { inside = λ j x k e. h.inside (suc j) x (omega arith) e })

-- what leads on to a design is viable, where it ends in no `[` behind a name
pub leads_on_viable : (room : Room) (text : List ℕ) (ts : List Token) (n : ℕ) → n ≤ length ts → StandIn n text ts → EndsAlone n text ts → LeadsOn room text ts n →
    IsViableWithin room text (marked text ts) n
leads_on_viable room text ts n l stand end g =
    let other = text ++ g.more in
    let us = take n ts ++ g.behind in
    let a = take_long n ts l in
    let b = length-append (take n ts) g.behind in
    let c = marked_long other us in
    let alike : AreSpelledAlike n other us text ts = record {
      many = omega arith;
      like = λ i t j h.
          let e = at_first n ts g.behind i t l j h in
          record { token = t; stands = e; kind = refl; spelling = sym (range_left text g.more t.«at» t.len (stand.inside i t j e)) };
    } in
    let ends : Untold n other false us = record {
      other = λ i t j h.
          let e = at_first n ts g.behind i t l (omega arith) h in
          elim (end.other i t j e) [
            | inl f ↦ inl (ap (λ (z : Kind). has z squares) (alone_stays text g.more t (stand.inside i t (omega arith) e)) ∙ f)
            | inr f ↦ inr (follows_same text g.more n false ts g.behind i l (omega arith) stand ∙ f)
          ];
    } in
    spelled_alike_viable room other text us ts n alike (inl ends)
    (shorter_viable other (marked other us) room n (length (marked other us)) (omega arith) (derived_viable other (marked other us) room g.decls g.derives))

next_at : (text : List ℕ) (xs : List Token) (n : ℕ) (t : Token) → slice_get xs n ≡ Some t → next_begins text (drop n xs) ≡ has (alone text t) expr_kinds
next_at text [] n t h = absurd (cc)
next_at text (x ∷ xs) zero t h = let e : x ≡ t = cc in ap (λ (z : Token). has (alone text z) expr_kinds) e
next_at text (x ∷ xs) (suc n) t h = next_at text xs n t h

get_there : {A : Type 0} (xs : List A) (n : ℕ) → n < length xs → (x : A) × (slice_get xs n ≡ Some x)
get_there [] n h = absurd (omega arith)
get_there (x ∷ xs) zero h = (x, refl)
get_there (x ∷ xs) (suc n) h = get_there xs n (omega arith)

at_first_back : {A : Type 0} (n : ℕ) (xs ys : List A) (i : ℕ) (x : A) → n ≤ length xs → i < n → slice_get xs i ≡ Some x → slice_get (take n xs ++ ys) i ≡ Some x
at_first_back n xs ys i x l b h = let e = take_long n xs l in get_of_left (take n xs) ys i (omega arith) ∙ take_below n xs i b ∙ h

-- and fewer than lead on are viable, whatever they end in
pub fewer_viable : (room : Room) (text : List ℕ) (ts : List Token) (m n : ℕ) → m < n → n ≤ length ts → StandIn n text ts → LeadsOn room text ts n → IsViableWithin room text (marked text ts) m
fewer_viable room text ts m n b l stand g =
    let other = text ++ g.more in
    let us = take n ts ++ g.behind in
    let a = take_long n ts l in
    let e = length-append (take n ts) g.behind in
    let c = marked_long other us in
    let alike : AreSpelledAlike m other us text ts = record {
      many = omega arith;
      like = λ i t j h.
          let e = at_first n ts g.behind i t l (omega arith) h in
          record { token = t; stands = e; kind = refl; spelling = sym (range_left text g.more t.«at» t.len (stand.inside i t (omega arith) e)) };
    } in
    let t = get_there ts m (omega arith) in
    let next : GoOnAlike m other us text ts = record {
      next = next_at other us m t.0 (at_first_back n ts g.behind m t.0 l b t.1)
          ∙ ap (λ (z : Kind). has z expr_kinds) (alone_stays text g.more t.0 (stand.inside m t.0 b t.1)) ∙ sym (next_at text ts m t.0 t.1);
    } in
    spelled_alike_viable room other text us ts m alike (inr next)
    (shorter_viable other (marked other us) room m (length (marked other us)) (omega arith) (derived_viable other (marked other us) room g.decls g.derives))

-- the tokens before a fault of syntax lead on to a design
pub fault_after : (room : Room) (text : List ℕ) (ts : List Token) (k : ℕ) → Lexes text ts → IsSyntaxFault room text (marked text ts) k → (n : ℕ) → n ≤ k → LeadsOn room text ts n
fault_after room text ts k lexes fault n l = viable_leads_on room text ts n (lexed_stand n text ts lexes) (fault.before n l)

-- and with the token there no tokens do
pub fault_last : (room : Room) (text : List ℕ) (ts : List Token) (k : ℕ) → Lexes text ts → IsSyntaxFault room text (marked text ts) k →
    (other : Room) (n : ℕ) → k < n → n ≤ length ts → GoesOn other text (marked text ts) n → ⊥
fault_last room text ts k lexes fault other n l m g =
    let e = marked_long text ts in
    fault.after n l (other, goes_on_viable other text (marked text ts) n (omega arith) (marked_lie n text ts (lexed_stand n text ts lexes)) g)

pub fault_last_token : (room : Room) (text : List ℕ) (ts : List Token) (k : ℕ) → Lexes text ts → IsSyntaxFault room text (marked text ts) k →
    (other : Room) → k + 1 ≤ length ts → EndsAlone (k + 1) text ts → LeadsOn other text ts (k + 1) → ⊥
fault_last_token room text ts k lexes fault other m end g =
    fault.after (k + 1) (omega arith) (other, leads_on_viable other text ts (k + 1) m (lexed_stand (k + 1) text ts lexes) end g)

pub fault_next : (room : Room) (text : List ℕ) (ts : List Token) (k : ℕ) → Lexes text ts → IsSyntaxFault room text (marked text ts) k →
    (other : Room) (n : ℕ) → k + 1 < n → n ≤ length ts → LeadsOn other text ts n → ⊥
fault_next room text ts k lexes fault other n l m g =
    fault.after (k + 1) (omega arith) (other, fewer_viable other text ts (k + 1) n l m (lexed_stand n text ts lexes) g)
