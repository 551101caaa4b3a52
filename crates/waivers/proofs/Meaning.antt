-- What the test by truth values decides.
use Rattle.std.proofs.Common.{◌≡◌, ◌≢◌, ◌∙◌, ℕ, List, [], ◌∷◌, ◌++◌, drop, map, nat_eq, Bool, true, false, refl, sym, ap}
use Rattle.std.specs.Prelude.{◌&&◌, ◌||◌, ◌==◌, ◌↔◌, IsTrue, slice_get, Some}
use Rattle.std.specs.List.{AllByRecursion, starts_with}
use Rattle.std.proofs.lemmas.Bool.{and_parts, both_ways, eqb-true, eq-eqb, ne_eqb}
use Rattle.waivers.specs.declared.pieces.Piece.{Piece}
use Rattle.waivers.specs.declared.pieces.Piece.TheVariants as piece
use Rattle.waivers.specs.Patterns.{Part, Byte, WithinName, Anything, slash, IsWithinName, Fits}
use Rattle.waivers.specs.Patterns.{fits, run_then, is_in_name, is_any}
use Rattle.waivers.specs.Pieces.{spelled, parts_of}
use Rattle.waivers.proofs.Filled.{literal_is}

or_true : (b : Bool) → (b || true) ≡ true
or_true true = refl
or_true false = refl

abbrev AllMay : (ℕ → Bool) → List ℕ → Type 0
AllMay may run = AllByRecursion (λ byte. may byte ≡ true) run

run_yes : (may : ℕ → Bool) (test : List ℕ → Bool) (path : List ℕ) → run_then may test path ≡ true
    → (run : List ℕ) × (rest : List ℕ) × (path ≡ run ++ rest) × AllMay may run × (test rest ≡ true)
run_yes may test [] e = ([], [], refl, tt, e)
run_yes may test (first ∷ path) e = by (test (first ∷ path)) refl e (run_yes may test path)
  where
    by : (b : Bool) → test (first ∷ path) ≡ b → (b || (may first && run_then may test path)) ≡ true
        → (run_then may test path ≡ true → (run : List ℕ) × (rest : List ℕ) × (path ≡ run ++ rest) × AllMay may run × (test rest ≡ true))
        → (run : List ℕ) × (rest : List ℕ) × (first ∷ path ≡ run ++ rest) × AllMay may run × (test rest ≡ true)
    by true is e later = ([], first ∷ path, refl, tt, is)
    by false is e later =
        let both = and_parts (may first) (run_then may test path) e in
        let h = later both.1 in
        (first ∷ h.0, h.1, ap (λ (bytes : List ℕ). first ∷ bytes) h.2, (both.0, h.3), h.4)

run_back : (may : ℕ → Bool) (test : List ℕ → Bool) (run rest : List ℕ) → AllMay may run → test rest ≡ true → run_then may test (run ++ rest) ≡ true
run_back may test [] [] all is = is
run_back may test [] (first ∷ rest) all is = rw is refl
run_back may test (byte ∷ run) rest all is = rw (all.0, run_back may test run rest all.1 is) (or_true (test (byte ∷ (run ++ rest))))

in_name : (byte : ℕ) → is_in_name byte ≡ true → byte ≢ slash
in_name byte e is = let h : (byte == slash) ≡ true = eq-eqb byte slash is in both_ways (is_in_name byte) (rw h refl) e

pub name_in : (byte : ℕ) → byte ≢ slash → is_in_name byte ≡ true
name_in byte ne = let h : (byte == slash) ≡ false = ne_eqb byte slash ne in rw h refl

names : (run : List ℕ) → AllMay is_in_name run → IsWithinName run
names [] all = tt
names (byte ∷ run) all = (in_name byte all.0, names run all.1)

names_back : (run : List ℕ) → IsWithinName run → AllMay is_in_name run
names_back [] all = tt
names_back (byte ∷ run) all = (name_in byte all.0, names_back run all.1)

anys : (run : List ℕ) → AllMay is_any run
anys [] = tt
anys (byte ∷ run) = (refl, anys run)

nothing : (path : List ℕ) → fits [] path ≡ true → path ≡ []
nothing [] e = refl
nothing (first ∷ path) e = absurd cc

pub fits_yes : (parts : List Part) (path : List ℕ) → fits parts path ≡ true → Fits parts path
fits_yes [] path e = nothing path e
fits_yes (Byte byte ∷ more) [] e = absurd cc
fits_yes (Byte byte ∷ more) (first ∷ path) e =
    let both = and_parts (byte == first) (fits more path) e in
    (path, ap (λ (b : ℕ). b ∷ path) (sym (eqb-true byte first both.0)), fits_yes more path both.1)
fits_yes (WithinName ∷ more) path e =
    let (run, rest, same, all, passes) = run_yes is_in_name (fits more) path e in
    (run, rest, same, names run all, fits_yes more rest passes)
fits_yes (Anything ∷ more) path e =
    let (run, rest, same, all, passes) = run_yes is_any (fits more) path e in
    (run, rest, same, fits_yes more rest passes)

pub fits_back : (parts : List Part) (path : List ℕ) → Fits parts path → fits parts path ≡ true
fits_back [] path h = rw h refl
fits_back (Byte byte ∷ more) path (rest, same, h) = let e : (byte == byte) ≡ true = eq-eqb byte byte refl in rw (same, e, fits_back more rest h) refl
fits_back (WithinName ∷ more) path (run, rest, same, all, h) = rw same (run_back is_in_name (fits more) run rest (names_back run all) (fits_back more rest h))
fits_back (Anything ∷ more) path (run, rest, same, h) = rw same (run_back is_any (fits more) run rest (anys run) (fits_back more rest h))

pub decides : (parts : List Part) (path : List ℕ) (b : Bool) → b ≡ fits parts path → IsTrue b ↔ Fits parts path
decides parts path b is = (λ yes. fits_yes parts path (sym is ∙ yes), λ h. is ∙ fits_back parts path h)

-- pieces whose first bytes a path doesn't have
pub begins_otherwise : (bytes : List ℕ) (more : List Part) (path : List ℕ) → starts_with nat_eq path bytes ≡ false → fits (map Byte bytes ++ more) path ≡ false
begins_otherwise bytes more path e = literal_is bytes more path ∙ rw e refl

front_of : (pieces : List Piece) (first : Piece) → Some first ≡ slice_get pieces 0 → parts_of pieces ≡ spelled first ++ parts_of (drop 1 pieces)
front_of [] first e = absurd cc
front_of (found ∷ pieces) first e = let same : first ≡ found = cc in ap (λ (p : Piece). spelled p ++ parts_of pieces) (sym same)

pub may_not : (pieces : List Piece) (path bytes : List ℕ) (first : Piece) → Some first ≡ slice_get pieces 0 → first ≡ piece.Literal bytes → starts_with nat_eq path bytes ≡ false → fits (parts_of pieces) path ≡ false
may_not pieces path bytes first e is off =
    ap (λ (ps : List Part). fits ps path) (front_of pieces first e ∙ ap (λ (p : Piece). spelled p ++ parts_of (drop 1 pieces)) is) ∙ begins_otherwise bytes (parts_of (drop 1 pieces)) path off
