-- Rules with their sets, for every room.
use Rattle.std.proofs.Common.{◌≡◌, ℕ, List, [], ◌∷◌, ◌++◌, Bool, true, false, ◌&&◌, subst}
use Rattle.cov_lexer.specs.declared.kind.Kind.{Kind}
use Rattle.cov_grammar.specs.declared.marked.Marked.{Marked}
use Rattle.cov_grammar.specs.declared.place.Place.{Place}
use Rattle.cov_grammar.specs.declared.place.Room.{Room}
use Rattle.cov_grammar.specs.Rule.{Rule, one, same_word, counted, afresh, give, here, bind, either, many, map_to, both, fold, allow, maybe}
use Rattle.cov_grammar.specs.Parses.{Reads}
use Rattle.cov_grammar.proofs.Sets.{disjoint, subset, when}
use Rattle.cov_grammar.proofs.Facts.{Facts}
use Rattle.cov_grammar.proofs.Sound.{Under, same_room, join, join_left, join_right, Sound, give_sound, here_sound, one_sound, same_word_sound, counted_sound, afresh_sound, bind_sound, either_sound, many_sound, map_sound, both_sound, fold_sound, maybe_sound, larger_sound, allow_sound}

-- a rule with its sets
pub record Lawful {T : Type 0} (ts : List Marked) (F : Room → Rule T) : Type 0 where
  pub first : List Kind
  pub cont : List Kind
  pub null : Bool
  pub sound : (d e : Room) → Under d e → Sound ts (F d) (F e) first cont null

-- the same for a rule that depends on a tree
pub record Lawfuls {S T : Type 0} (ts : List Marked) (B : Room → S → Rule T) : Type 0 where
  pub first : List Kind
  pub cont : List Kind
  pub null : Bool
  pub sound : (a : S) (d e : Room) → Under d e → Sound ts (B d a) (B e a) first cont null

pub facts_of : {T : Type 0} {ts : List Marked} {F : Room → Rule T} (l : Lawful ts F) (r : Room) → Facts ts (F r) l.first l.cont l.null
facts_of l r = (l.sound r r (same_room r)).less

-- with sets that hold these
abbrev pub lawful_in : {T : Type 0} {ts : List Marked} {F : Room → Rule T} (l : Lawful ts F) (first cont : List Kind) → subset l.first first ≡ true → subset l.cont cont ≡ true → Lawful ts F
lawful_in l first cont p q = record { first = first; cont = cont; null = l.null; sound = λ d e h. larger_sound (l.sound d e h) p q }

abbrev pub lawful_give : {T : Type 0} (ts : List Marked) (x : T) → Lawful ts (λ _. give x)
lawful_give ts x = record { first = []; cont = []; null = true; sound = λ d e h. give_sound ts x }

abbrev pub lawful_here : (ts : List Marked) → Lawful ts (λ _. here ts)
lawful_here ts = record { first = []; cont = []; null = true; sound = λ d e h. here_sound ts }

abbrev pub lawful_one : (ts : List Marked) (ks : List Kind) → Lawful ts (λ _. one ts ks)
lawful_one ts ks = record { first = ks; cont = []; null = false; sound = λ d e h. one_sound ts ks }

abbrev pub lawful_word : (ts : List Marked) (k : Kind) → Lawful ts (λ _. one ts (k ∷ []))
lawful_word ts k = lawful_one ts (k ∷ [])

abbrev pub lawful_same_word : (text : List ℕ) (ts : List Marked) (k : Kind) (spelling : List ℕ) → Lawful ts (λ _. same_word text ts k spelling)
lawful_same_word text ts k s = record { first = k ∷ []; cont = []; null = false; sound = λ d e h. same_word_sound text ts k s }

abbrev pub lawful_counted : (ts : List Marked) (ks : List Kind) → Lawful ts (λ r. counted ts r.operators ks)
lawful_counted ts ks = record { first = ks; cont = []; null = false; sound = λ d e h. counted_sound ts d.operators e.operators ks h.operators }

module _ {S : Type 0} {ts : List Marked} {A : Room → Rule S} (la : Lawful ts A) where
  abbrev pub lawful_afresh : Lawful ts (λ e. afresh (A e))
  lawful_afresh = record { first = la.first; cont = la.cont; null = la.null; sound = λ d e h. afresh_sound (la.sound d e h) }

  abbrev pub lawful_map : {T : Type 0} (f : S → T) → Lawful ts (λ e. map_to f (A e))
  lawful_map f = record { first = la.first; cont = la.cont; null = la.null; sound = λ d e h. map_sound f (la.sound d e h) }

  abbrev pub lawful_allow : (b : Bool) → Lawful ts (λ e. allow b (A e))
  lawful_allow b = record { first = la.first; cont = la.cont; null = la.null; sound = λ d e h. allow_sound b b (λ x. x) (la.sound d e h) }

  pub full : la.null ≡ false → (d e : Room) → Under d e → Sound ts (A d) (A e) la.first la.cont false
  full filled d e h = subst (λ b. Sound ts (A d) (A e) la.first la.cont b) filled (la.sound d e h)

  abbrev pub lawful_maybe : la.null ≡ false → Lawful ts (λ e. maybe (A e))
  lawful_maybe filled = record { first = la.first; cont = la.cont ++ la.first; null = true; sound = λ d e h. maybe_sound (full filled d e h) }

  abbrev pub lawful_many : {U : Type 0} (f : U → S → U) → la.null ≡ false → disjoint la.cont la.first ≡ true → (acc : U) → Lawful ts (λ e. many f (A e) acc)
  lawful_many f filled again acc = record { first = la.first; cont = la.cont ++ la.first; null = true; sound = λ d e h. many_sound f acc (full filled d e h) again }

module _ {S T U : Type 0} {ts : List Marked} {A : Room → Rule S} {B : Room → Rule T} (f : S → T → U) (la : Lawful ts A) (lb : Lawful ts B) (apart : disjoint la.cont lb.first ≡ true) where
  abbrev pub lawful_both : Lawful ts (λ e. both f (A e) (B e))
  lawful_both = record {
    first = la.first ++ when la.null lb.first;
    cont = lb.cont ++ when lb.null la.cont;
    null = la.null && lb.null;
    sound = λ d e h. both_sound f (la.sound d e h) (lb.sound d e h) apart;
  }

module _ {S T : Type 0} {ts : List Marked} {A : Room → Rule S} {B : Room → S → Rule T} (la : Lawful ts A) (lb : Lawfuls ts B) (apart : disjoint la.cont lb.first ≡ true) where
  abbrev pub lawful_bind : Lawful ts (λ e. bind (A e) (B e))
  lawful_bind = record {
    first = la.first ++ when la.null lb.first;
    cont = lb.cont ++ when lb.null la.cont;
    null = la.null && lb.null;
    sound = λ d e h. bind_sound (la.sound d e h) (λ a. lb.sound a d e h) apart;
  }

module _ {T : Type 0} {ts : List Marked} {A B : Room → Rule T} (la : Lawful ts A) (lb : Lawful ts B) (filled : lb.null ≡ false) (apart : disjoint la.first lb.first ≡ true) where
  abbrev pub lawful_either : Lawful ts (λ e. either (A e) (B e))
  lawful_either = record {
    first = la.first ++ lb.first;
    cont = (la.cont ++ lb.cont) ++ when la.null lb.first;
    null = la.null;
    sound = λ d e h. either_sound (la.sound d e h) (full lb filled d e h) apart;
  }

module _ {S T : Type 0} {ts : List Marked} {A : Room → Rule S} {B : Room → Rule T} (f : S → T → S) (la : Lawful ts A) (lb : Lawful ts B) (filled : lb.null ≡ false)
    (apart : disjoint la.cont lb.first ≡ true) (again : disjoint lb.cont lb.first ≡ true) where
  abbrev pub lawful_fold : Lawful ts (λ e. fold f (A e) (B e))
  lawful_fold = record {
    first = la.first ++ when la.null lb.first;
    cont = (lb.cont ++ lb.first) ++ la.cont;
    null = la.null && true;
    sound = λ d e h. fold_sound f (la.sound d e h) (full lb filled d e h) apart again;
  }

-- one tree, whatever the room
pub reads_only : {T : Type 0} {ts : List Marked} {F : Room → Rule T} (lf : Lawful ts F) {r : Room} {p : Place} {t : T} {q : Place} → Reads F r p t q →
    (e : Room) (u : T) (m : Place) → (F e).derives p u m → m.at ≡ q.at → u ≡ t
reads_only lf {r = r} {p = p} {t = t} {q = q} x e u m h same =
    ((facts_of lf (join r e)).one_tree p u t m q
    ((lf.sound e (join r e) (join_right r e)).within.derives p u m h)
    ((lf.sound r (join r e) (join_left r e)).within.derives p t q x.derives) same).0
