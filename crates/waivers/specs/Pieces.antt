-- How the code keeps patterns, and how it tells whether one matches. Of public contracts none cites it.
use Rattle.std.specs.Prelude.{◌≡◌, ◌≤◌, ◌+◌, ℕ, List, [], ◌∷◌, ◌==◌, Bool, false, length, drop, map, slice_index_or}
use Rattle.std.specs.List.{flat_map}
use Rattle.waivers.specs.declared.pieces.Piece.{Piece}
use Rattle.waivers.specs.declared.pieces.Piece.TheVariants as piece
use Rattle.waivers.specs.Patterns.{Part, Byte, WithinName, Anything, star}

abbrev pub is_star : ℕ → Bool
is_star byte = byte == star

-- the parts that a piece is
abbrev pub spelled : Piece → List Part
spelled (piece.Literal bytes) = map Byte bytes
spelled piece.WithinName = WithinName ∷ []
spelled piece.Anything = Anything ∷ []

abbrev pub parts_of : List Piece → List Part
parts_of pieces = flat_map spelled pieces

-- at each place of a path and at its end, whether what is left of it passes
pub record IsRow (test : List ℕ → Bool) (path : List ℕ) (row : List Bool) : Type 0 where
  pub long : length row ≡ length path + 1
  pub tells : (i : ℕ) → i ≤ length path → slice_index_or row i false ≡ test (drop i path)
