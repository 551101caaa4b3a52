-- Patterns and their pieces.
use Rattle.std.proofs.Common.{◌≡◌, ◌∙◌, ℕ, suc, ◌+◌, ◌<◌, ◌≤◌, List, [], ◌∷◌, ◌++◌, length, take, drop, map, get_or, nat_eq, ◌-◌, Bool, true, false, refl, sym, ap, append_assoc, arith}
use Rattle.std.specs.Prelude.{not, ◌&&◌}
use Rattle.std.specs.List.{position_or_len, starts_with, list_all}
use Rattle.std.proofs.lemmas.List.{append-nil, drop_more, take_all}
use Rattle.std.proofs.lemmas.Bool.{eq-eqb, eqb-true, and_parts, and_right, both_ways}
use Rattle.std.proofs.lemmas.List.Sums.{prefix_len-le-length}
use Rattle.std.proofs.lemmas.Grind.{flat_map-append}
use Rattle.waivers.specs.declared.pieces.Piece.{Piece}
use Rattle.waivers.specs.Patterns.{Part, Byte, WithinName, Anything, parts}
use Rattle.waivers.specs.Patterns.{is_match}
use Rattle.waivers.specs.Lines.{matches_root}
use Rattle.waivers.specs.Pieces.{is_star, spelled, parts_of}

pub ends_within : (bytes : List ℕ) → position_or_len is_star bytes ≤ length bytes
ends_within bytes = prefix_len-le-length (λ x. not (is_star x)) bytes

suc_is : (n : ℕ) → 1 + n ≡ suc n
suc_is n = omega arith

byte_first : (byte : ℕ) (bytes : List ℕ) → is_star byte ≡ false → parts (byte ∷ bytes) ≡ Byte byte ∷ parts bytes
unfolding parts
byte_first byte [] e = rw e refl
byte_first byte (next ∷ bytes) e = rw e refl

literal_step : (b : Bool) (byte : ℕ) (bytes : List ℕ) → is_star byte ≡ b
    → parts bytes ≡ map Byte (take (position_or_len is_star bytes) bytes) ++ parts (drop (position_or_len is_star bytes) bytes)
    → parts (byte ∷ bytes) ≡ map Byte (take (position_or_len is_star (byte ∷ bytes)) (byte ∷ bytes)) ++ parts (drop (position_or_len is_star (byte ∷ bytes)) (byte ∷ bytes))
literal_step true byte bytes e h = rw e refl
literal_step false byte bytes e h = rw (e, suc_is) (byte_first byte bytes e ∙ ap (λ (ps : List Part). Byte byte ∷ ps) h)

pub literal_first : (bytes : List ℕ) → parts bytes ≡ map Byte (take (position_or_len is_star bytes) bytes) ++ parts (drop (position_or_len is_star bytes) bytes)
literal_first [] = refl
literal_first (byte ∷ bytes) = literal_step (is_star byte) byte bytes refl (literal_first bytes)

two_first : (byte next : ℕ) (bytes : List ℕ) → is_star byte ≡ true → is_star next ≡ true → parts (byte ∷ next ∷ bytes) ≡ Anything ∷ parts bytes
unfolding parts
two_first byte next bytes e f = rw (e, f) refl

one_first : (byte next : ℕ) (bytes : List ℕ) → is_star byte ≡ true → is_star next ≡ false → parts (byte ∷ next ∷ bytes) ≡ WithinName ∷ parts (next ∷ bytes)
unfolding parts
one_first byte next bytes e f = rw (e, f) refl

one_alone : (byte : ℕ) → is_star byte ≡ true → parts (byte ∷ []) ≡ WithinName ∷ parts []
unfolding parts
one_alone byte e = rw e refl

abbrev two_stars : List ℕ
two_stars = 42 ∷ 42 ∷ []

is_same : (byte : ℕ) → nat_eq 42 byte ≡ true → is_star byte ≡ true
is_same byte e = eq-eqb byte 42 (sym (eqb-true 42 byte e))

same_is : (byte : ℕ) → is_star byte ≡ true → nat_eq 42 byte ≡ true
same_is byte e = eq-eqb 42 byte (sym (eqb-true byte 42 e))

rest_is : (n : ℕ) (bytes : List ℕ) → n ≡ length bytes → take n bytes ≡ bytes
rest_is n bytes e = take_all n bytes (omega (arith, e))

pub two_stars_first : (pattern : List ℕ) → starts_with nat_eq pattern two_stars ≡ true → parts pattern ≡ Anything ∷ parts (take (length pattern - 2) (drop 2 pattern))
two_stars_first [] e = absurd cc
two_stars_first (byte ∷ []) e = absurd (both_ways (nat_eq 42 byte && false) (and_right (nat_eq 42 byte) false refl) e)
two_stars_first (byte ∷ next ∷ bytes) e =
    let first = and_parts (nat_eq 42 byte) (nat_eq 42 next && true) e in
    let second = and_parts (nat_eq 42 next) true first.1 in
    two_first byte next bytes (is_same byte first.0) (is_same next second.0)
    ∙ ap (λ (l : List ℕ). Anything ∷ parts l) (sym (rest_is (length (byte ∷ next ∷ bytes) - 2) bytes (omega arith)))

pub one_star_first : (pattern : List ℕ) → 0 < length pattern → get_or pattern 0 0 ≡ 42 → starts_with nat_eq pattern two_stars ≡ false
    → parts pattern ≡ WithinName ∷ parts (take (length pattern - 1) (drop 1 pattern))
one_star_first [] lt is e = absurd (omega (arith, lt))
one_star_first (byte ∷ []) lt is e = one_alone byte (eq-eqb byte 42 is)
one_star_first (byte ∷ next ∷ bytes) lt is e =
    let star = eq-eqb byte 42 is in
    by (is_star next) star refl ∙ ap (λ (l : List ℕ). WithinName ∷ parts l) (sym (rest_is (length (byte ∷ next ∷ bytes) - 1) (next ∷ bytes) (omega arith)))
  where
    by : (b : Bool) → is_star byte ≡ true → is_star next ≡ b → parts (byte ∷ next ∷ bytes) ≡ WithinName ∷ parts (next ∷ bytes)
    by true star f = absurd (both_ways (nat_eq 42 byte && (nat_eq 42 next && true)) e (rw (same_is byte star, same_is next f) refl))
    by false star f = one_first byte next bytes star f

pub parts_whole : (made : List Part) (rest : List ℕ) (all : List Part) → length rest ≡ 0 → made ++ parts rest ≡ all → made ≡ all
unfolding parts
parts_whole made [] all none is = sym (append-nil made) ∙ is
parts_whole made (byte ∷ rest) all none is = absurd (omega (arith, none))

-- one piece more
pub piece_more : (pieces : List Piece) (piece : Piece) (rest : List Part) → parts_of (pieces ++ piece ∷ []) ++ rest ≡ parts_of pieces ++ (spelled piece ++ rest)
piece_more pieces piece rest =
    ap (λ (ps : List Part). ps ++ rest) (flat_map-append spelled pieces (piece ∷ []) ∙ ap (λ (ps : List Part). parts_of pieces ++ ps) (append-nil (spelled piece)))
    ∙ append_assoc (parts_of pieces) (spelled piece) rest

pub piece_at : (pieces : List Piece) (place : ℕ) (piece : Piece) → place < length pieces → piece ≡ get_or pieces place piece
    → parts_of (drop place pieces) ≡ spelled piece ++ parts_of (drop (place + 1) pieces)
piece_at pieces place piece lt is = ap parts_of (drop_more pieces place piece lt) ∙ ap (λ (p : Piece). spelled p ++ parts_of (drop (place + 1) pieces)) (sym is)

-- what a step over the first piece takes
pub ruleset piece_steps = (piece_more, ends_within, literal_first, two_stars_first, one_star_first)

-- ---- the root

root_step : (a b : Bool) (byte next : ℕ) (bytes : List ℕ) → is_star byte ≡ a → is_star next ≡ b
    → is_match bytes [] ≡ list_all is_star bytes → is_match (next ∷ bytes) [] ≡ list_all is_star (next ∷ bytes) → is_match (byte ∷ next ∷ bytes) [] ≡ list_all is_star (byte ∷ next ∷ bytes)
unfolding parts
root_step true true byte next bytes e f h g = rw (e, f) h
root_step true false byte next bytes e f h g = rw (e, f) (g ∙ rw f refl)
root_step false b byte next bytes e f h g = rw e refl

root_last : (a : Bool) (byte : ℕ) → is_star byte ≡ a → is_match (byte ∷ []) [] ≡ list_all is_star (byte ∷ [])
unfolding parts
root_last true byte e = rw e refl
root_last false byte e = rw e refl

stars_alone : (pattern : List ℕ) → is_match pattern [] ≡ list_all is_star pattern
unfolding parts
stars_alone [] = refl
stars_alone (byte ∷ []) = root_last (is_star byte) byte refl
stars_alone (byte ∷ next ∷ bytes) = root_step (is_star byte) (is_star next) byte next bytes refl refl (stars_alone bytes) (stars_alone (next ∷ bytes))

-- stars alone match the root's path
pub root_is : (pattern : List ℕ) → matches_root pattern ≡ list_all is_star pattern
unfolding matches_root
root_is pattern = stars_alone pattern
