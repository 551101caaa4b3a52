-- Frames on a stream: the length of a body, of 1 to 1,048,640 bytes, in four bytes with the highest first, and the body.
use Rattle.std.specs.Prelude.{◌≡◌, ◌⊎◌, ℕ, ◌<◌, ◌≤◌, List, ◌++◌, length}
use Rattle.std.specs.List.{flat_map}
use Rattle.std.specs.Int.{w32, to_be_bytes}
pub use Rattle.request_forms.specs.Frames.{longest_body, frame}
use Rattle.cov_proto.specs.declared.frames.FrameStep.{FrameStep}
use Rattle.cov_proto.specs.declared.frames.FrameStep.TheVariants.{More, Body, BadLength}

abbrev pub IsBody : List ℕ → Type 0
IsBody body = (0 < length body) × (length body ≤ longest_body)

abbrev pub frames : List (List ℕ) → List ℕ
frames bodies = flat_map frame bodies

-- a proper part of a frame, from its front
pub record IsFront (rest : List ℕ) : Type 0 where
  pub body : List ℕ
  pub more : List ℕ
  pub is_body : IsBody body
  pub some : 0 < length more
  pub whole : rest ++ more ≡ frame body

-- less than a frame
abbrev pub IsTorn : List ℕ → Type 0
IsTorn rest = (length rest < 4) ⊎ IsFront rest

-- begins with a length that no body has
pub record HasBadLength (len : ℕ) (rest : List ℕ) : Type 0 where
  pub more : List ℕ
  pub bad : (len ≡ 0) ⊎ (longest_body < len)
  pub begins : rest ≡ to_be_bytes w32 len ++ more

-- begins with a frame of a body of this length
pub record HasFrame (len : ℕ) (bytes : List ℕ) : Type 0 where
  pub body : List ℕ
  pub rest : List ℕ
  pub is_body : IsBody body
  pub long : length body ≡ len
  pub begins : bytes ≡ frame body ++ rest

abbrev pub Steps : List ℕ → FrameStep → Type 0
Steps bytes More = IsTorn bytes
Steps bytes (Body len) = HasFrame len bytes
Steps bytes (BadLength len) = HasBadLength len bytes
