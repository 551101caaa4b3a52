-- A rule and the same rule with more room.
use Rattle.std.proofs.Common.{◌≡◌, ℕ, zero, suc, ◌+◌, ◌≤◌, List, [], ◌∷◌, ◌++◌, Some, None, Bool, true, false, ◌&&◌, inl, inr, refl, sym, subst, arith}
use Rattle.cov_lexer.specs.declared.kind.Kind.{Kind}
use Rattle.cov_grammar.specs.declared.marked.Marked.{Marked}
use Rattle.cov_grammar.specs.declared.place.Place.{Place}
use Rattle.cov_grammar.specs.declared.place.Room.{Room}
use Rattle.cov_grammar.specs.Rule.{Rule, one, same_word, counted, afresh, give, here, never, bind, either, times, many, map_to, both, fold, ahead, behind, allow, maybe}
use Rattle.cov_grammar.proofs.Sets.{disjoint, subset, when, disjoint-nil, when-nothing, and-true}
use Rattle.cov_grammar.proofs.Facts.{Facts, give_facts, here_facts, never_facts, one_facts, same_word_facts, counted_facts, afresh_facts, bind_facts, either_facts, larger}
use Rattle.cov_grammar.proofs.Many.{many_facts}

-- b has at least the room of a
pub record Under (a b : Room) : Type 0 where
  pub levels : a.levels ≤ b.levels
  pub operators : a.operators ≤ b.operators

pub same_room : (a : Room) → Under a a
same_room a = record { levels = omega arith; operators = omega arith }

-- room for both
abbrev pub join : Room → Room → Room
join a b = record { levels = a.levels + b.levels; operators = a.operators + b.operators }

pub join_left : (a b : Room) → Under a (join a b)
join_left a b = record { levels = omega arith; operators = omega arith }

pub join_right : (a b : Room) → Under b (join a b)
join_right a b = record { levels = omega arith; operators = omega arith }

-- what A derives and how it begins holds for A' too
pub record Within {T : Type 0} (A A' : Rule T) : Type 0 where
  pub derives : (p : Place) (t : T) (q : Place) → A.derives p t q → A'.derives p t q
  pub begins : (p : Place) (n : ℕ) → A.begins p n → A'.begins p n

pub record Sound {T : Type 0} (ts : List Marked) (A A' : Rule T) (first cont : List Kind) (null : Bool) : Type 0 where
  pub less : Facts ts A first cont null
  pub more : Facts ts A' first cont null
  pub within : Within A A'

same_within : {T : Type 0} (A : Rule T) → Within A A
same_within A = record { derives = λ p t q h. h; begins = λ p n h. h }

pub give_sound : {T : Type 0} (ts : List Marked) (x : T) → Sound ts (give x) (give x) [] [] true
give_sound ts x = record { less = give_facts ts x; more = give_facts ts x; within = same_within (give x) }

pub here_sound : (ts : List Marked) → Sound ts (here ts) (here ts) [] [] true
here_sound ts = record { less = here_facts ts; more = here_facts ts; within = same_within (here ts) }

pub one_sound : (ts : List Marked) (ks : List Kind) → Sound ts (one ts ks) (one ts ks) ks [] false
one_sound ts ks = record { less = one_facts ts ks; more = one_facts ts ks; within = same_within (one ts ks) }

pub same_word_sound : (text : List ℕ) (ts : List Marked) (k : Kind) (spelling : List ℕ) → Sound ts (same_word text ts k spelling) (same_word text ts k spelling) (k ∷ []) [] false
same_word_sound text ts k s = record { less = same_word_facts text ts k s; more = same_word_facts text ts k s; within = same_within (same_word text ts k s) }

pub counted_sound : (ts : List Marked) (m n : ℕ) (ks : List Kind) → m ≤ n → Sound ts (counted ts m ks) (counted ts n ks) ks [] false
unfolding counted
counted_sound ts m n ks l = record {
  less = counted_facts ts m ks;
  more = counted_facts ts n ks;
  within = record {
    derives = λ p t q h. (h.0, h.1, (let u = h.2 in omega arith), h.3);
    begins = λ p k h. elim h [ inl e ↦ inl e | inr x ↦ inr (x.0, x.1, x.2, (let u = x.3 in omega arith), x.4) ];
  };
}

pub afresh_sound : {T : Type 0} {ts : List Marked} {A A' : Rule T} {first cont : List Kind} {null : Bool} → Sound ts A A' first cont null → Sound ts (afresh A) (afresh A') first cont null
unfolding afresh
afresh_sound s = record {
  less = afresh_facts s.less;
  more = afresh_facts s.more;
  within = record { derives = λ p t q h. (h.0, s.within.derives _ t _ h.1, h.2); begins = λ p n h. s.within.begins _ n h };
}

pub never_sound : {T : Type 0} {ts : List Marked} {A' : Rule T} {first cont : List Kind} {null : Bool} → Facts ts A' first cont null → Sound ts never A' first cont null
unfolding never
never_sound {A' = A'} f = record {
  less = never_facts _ _ _ _;
  more = f;
  within = record { derives = λ p t q h. absurd h; begins = λ p n h. subst (λ m. A'.begins p m) (sym h) (f.empty p) };
}

bind_within : {S T : Type 0} {A A' : Rule S} {B B' : S → Rule T} → Within A A' → ((a : S) → Within (B a) (B' a)) → Within (bind A B) (bind A' B')
unfolding bind
bind_within a b = record {
  derives = λ p t q h. (h.0, h.1, a.derives p h.0 h.1 h.2, (b h.0).derives h.1 t q h.3);
  begins = λ p n h. elim h [
    | inl g ↦ inl (a.begins p n g)
    | inr x ↦ inr (x.0, x.1, a.derives p x.0 x.1 x.2, (b x.0).begins x.1 n x.3)
  ];
}

pub bind_sound : {S T : Type 0} {ts : List Marked} {A A' : Rule S} {B B' : S → Rule T} {fa ca : List Kind} {na : Bool} {fb cb : List Kind} {nb : Bool} →
    Sound ts A A' fa ca na → ((a : S) → Sound ts (B a) (B' a) fb cb nb) → disjoint ca fb ≡ true →
    Sound ts (bind A B) (bind A' B') (fa ++ when na fb) (cb ++ when nb ca) (na && nb)
bind_sound {ts = ts} {A = A} {A' = A'} {B = B} {B' = B'} {fa = fa} {ca = ca} {na = na} {fb = fb} {cb = cb} {nb = nb} a b apart = record {
  less = bind_facts ts A B fa ca na fb cb nb a.less (λ x. (b x).less) apart;
  more = bind_facts ts A' B' fa ca na fb cb nb a.more (λ x. (b x).more) apart;
  within = bind_within a.within (λ x. (b x).within);
}

pub either_sound : {T : Type 0} {ts : List Marked} {A A' B B' : Rule T} {fa ca : List Kind} {na : Bool} {fb cb : List Kind} →
    Sound ts A A' fa ca na → Sound ts B B' fb cb false → disjoint fa fb ≡ true →
    Sound ts (either A B) (either A' B') (fa ++ fb) ((ca ++ cb) ++ when na fb) na
unfolding either
either_sound {ts = ts} {A = A} {A' = A'} {B = B} {B' = B'} {fa = fa} {ca = ca} {na = na} {fb = fb} {cb = cb} a b apart = record {
  less = either_facts ts A B fa ca na fb cb a.less b.less apart;
  more = either_facts ts A' B' fa ca na fb cb a.more b.more apart;
  within = record {
    derives = λ p t q h. elim h [ inl x ↦ inl (a.within.derives p t q x) | inr x ↦ inr (b.within.derives p t q x) ];
    begins = λ p n h. elim h [ inl x ↦ inl (a.within.begins p n x) | inr x ↦ inr (b.within.begins p n x) ];
  };
}

times_within : {S T : Type 0} (f : S → T → S) {A A' : Rule T} (c : ℕ) (acc : S) → Within A A' → Within (times f A c acc) (times f A' c acc)
unfolding times
times_within f zero acc w = same_within (give acc)
times_within f (suc c) acc w = bind_within w (λ x. times_within f c (f acc x) w)

pub many_sound : {S T : Type 0} {ts : List Marked} (f : S → T → S) {A A' : Rule T} {fa ca : List Kind} (acc : S) →
    Sound ts A A' fa ca false → disjoint ca fa ≡ true →
    Sound ts (many f A acc) (many f A' acc) fa (ca ++ fa) true
unfolding many
many_sound {ts = ts} f {A = A} {A' = A'} {fa = fa} {ca = ca} acc a apart = record {
  less = many_facts ts f A fa ca a.less apart acc;
  more = many_facts ts f A' fa ca a.more apart acc;
  within = record {
    derives = λ p t q h. (h.0, (times_within f h.0 acc a.within).derives p t q h.1);
    begins = λ p n h. (h.0, (times_within f h.0 acc a.within).begins p n h.1);
  };
}

pub map_sound : {S T : Type 0} {ts : List Marked} (f : S → T) {A A' : Rule S} {fa ca : List Kind} {na : Bool} →
    Sound ts A A' fa ca na → Sound ts (map_to f A) (map_to f A') fa ca na
unfolding map_to
map_sound {ts = ts} f {A = A} {A' = A'} {fa = fa} {ca = ca} {na = na} a =
    let s : Sound ts (map_to f A) (map_to f A') (fa ++ when na []) ca (na && true) = bind_sound a (λ x. give_sound ts (f x)) (disjoint-nil ca) in
    subst (λ b. Sound ts (map_to f A) (map_to f A') fa ca b) (and-true na)
    (subst (λ xs. Sound ts (map_to f A) (map_to f A') xs ca (na && true)) (when-nothing fa na) s)

pub both_sound : {S T U : Type 0} {ts : List Marked} (f : S → T → U) {A A' : Rule S} {B B' : Rule T} {fa ca : List Kind} {na : Bool} {fb cb : List Kind} {nb : Bool} →
    Sound ts A A' fa ca na → Sound ts B B' fb cb nb → disjoint ca fb ≡ true →
    Sound ts (both f A B) (both f A' B') (fa ++ when na fb) (cb ++ when nb ca) (na && nb)
unfolding both
both_sound f a b apart = bind_sound a (λ x. map_sound (f x) b) apart

pub ahead_sound : {S T : Type 0} {ts : List Marked} {A A' : Rule S} {B B' : Rule T} {fa ca : List Kind} {na : Bool} {fb cb : List Kind} {nb : Bool} →
    Sound ts A A' fa ca na → Sound ts B B' fb cb nb → disjoint ca fb ≡ true →
    Sound ts (ahead A B) (ahead A' B') (fa ++ when na fb) (cb ++ when nb ca) (na && nb)
ahead_sound a b apart = both_sound _ a b apart

pub behind_sound : {S T : Type 0} {ts : List Marked} {A A' : Rule S} {B B' : Rule T} {fa ca : List Kind} {na : Bool} {fb cb : List Kind} {nb : Bool} →
    Sound ts A A' fa ca na → Sound ts B B' fb cb nb → disjoint ca fb ≡ true →
    Sound ts (behind A B) (behind A' B') (fa ++ when na fb) (cb ++ when nb ca) (na && nb)
behind_sound a b apart = both_sound _ a b apart

pub fold_sound : {S T : Type 0} {ts : List Marked} (f : S → T → S) {A A' : Rule S} {B B' : Rule T} {fa ca : List Kind} {na : Bool} {fb cb : List Kind} →
    Sound ts A A' fa ca na → Sound ts B B' fb cb false → disjoint ca fb ≡ true → disjoint cb fb ≡ true →
    Sound ts (fold f A B) (fold f A' B') (fa ++ when na fb) ((cb ++ fb) ++ ca) (na && true)
unfolding fold
fold_sound f a b apart again = bind_sound a (λ x. many_sound f x b again) apart

pub maybe_sound : {T : Type 0} {ts : List Marked} {A A' : Rule T} {fa ca : List Kind} →
    Sound ts A A' fa ca false → Sound ts (maybe A) (maybe A') fa (ca ++ fa) true
unfolding maybe
maybe_sound {ts = ts} a = either_sound (give_sound ts None) (map_sound Some a) refl

pub larger_sound : {T : Type 0} {ts : List Marked} {A A' : Rule T} {first cont : List Kind} {null : Bool} {first' cont' : List Kind} →
    Sound ts A A' first cont null → subset first first' ≡ true → subset cont cont' ≡ true → Sound ts A A' first' cont' null
larger_sound {first' = first'} {cont' = cont'} s p q = record {
  less = larger first' cont' s.less p q;
  more = larger first' cont' s.more p q;
  within = s.within;
}

pub allow_sound : {T : Type 0} {ts : List Marked} {A A' : Rule T} {first cont : List Kind} {null : Bool} (a b : Bool) → (a ≡ true → b ≡ true) →
    Sound ts A A' first cont null → Sound ts (allow a A) (allow b A') first cont null
allow_sound true true h s = s
allow_sound true false h s = let no = h refl in absurd (cc)
allow_sound false true h s = never_sound s.more
allow_sound false false h s = never_sound (never_facts _ _ _ _)
