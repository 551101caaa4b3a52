-- What a body asks: one row for each tag.
use Rattle.std.specs.Prelude.{◌≡◌, ℕ, ◌-◌, [], ◌∷◌, length, Result, Ok, Err, Bool, true, false}
use Rattle.std.specs.Int.{w32, w64}
use Rattle.request_forms.specs.declared.requests.Request.{Request}
use Rattle.request_forms.specs.declared.requests.Request.TheVariants.{Hello, Begin, Piece, Commit, Counts, Coverage, Illegal, Tests, TestCounts, Rank, Exclude, Include, NameOf, Bye, Revise, Fetch}
use Rattle.request_forms.specs.declared.requests.RequestFault.{RequestFault}
use Rattle.request_forms.specs.declared.requests.RequestFault.TheVariants.{BadMessage, Memory}
use Rattle.request_forms.specs.Reading.{Form, Table, number_at, digest_at, text_at, pair, nothing, only, before, any_bytes, path, made, found, unknown}

abbrev pub piece_at : Form Request
piece_at = made (λ x. Piece x.0 x.1) (before (number_at w64) any_bytes)

abbrev pub counts_at : Form Request
counts_at = made (λ x. Counts x.0 x.1) (before (number_at w32) path)

abbrev pub test_counts_at : Form Request
test_counts_at = made (λ x. TestCounts x.0 x.1.0 x.1.1) (before (number_at w32) (before (text_at 1 33) path))

abbrev pub fetch_at : Form Request
fetch_at = made (λ x. Fetch x.0 x.1) (only (pair (number_at w32) (number_at w64)))

-- requests that end with a text
abbrev pub text_requests : Table Request
text_requests =
    (0x03, piece_at)
    ∷ (0x05, counts_at)
    ∷ (0x06, made (λ x. Coverage x) path)
    ∷ (0x09, test_counts_at)
    ∷ (0x0B, made (λ x. Exclude x) path)
    ∷ (0x0C, made (λ x. Include x) path)
    ∷ []

-- the others, which take no memory
abbrev pub plain_requests : Table Request
plain_requests =
    (0x01, made (λ x. Hello x) (only (number_at w64)))
    ∷ (0x02, made (λ x. Begin x) (only (number_at w64)))
    ∷ (0x04, made (λ x. Commit x) (only digest_at))
    ∷ (0x07, made (λ x. Illegal x) (only (number_at w32)))
    ∷ (0x08, made (λ x. Tests x) (only (number_at w32)))
    ∷ (0x0A, made (λ x. Rank) nothing)
    ∷ (0x0D, made (λ x. NameOf x) (only (number_at w32)))
    ∷ (0x0E, made (λ x. Bye) nothing)
    ∷ (0x0F, made (λ x. Revise x) (only digest_at))
    ∷ (0x10, fetch_at)
    ∷ []

abbrev pub plain_at : ℕ → Form Request
plain_at tag = found tag plain_requests unknown

abbrev pub request_at : ℕ → Form Request
request_at tag = found tag text_requests (plain_at tag)

-- the request, or how many bytes are left at the first fault
unfoldable pub request_left : Form Request
request_left [] = Err 0
request_left (tag ∷ rest) = request_at tag rest

-- a fault's place, counted from the front
abbrev pub from_front : {A : Type 0} → ℕ → Result A ℕ → Result A ℕ
from_front total (Ok x) = Ok x
from_front total (Err left) = Err (total - left)

-- the request that is all of the body, or the place of the first fault
abbrev pub request_read : Form Request
request_read body = from_front (length body) (request_left body)

-- it holds a text, whose bytes are copied
abbrev pub has_text : Request → Bool
has_text (Piece offset bytes) = true
has_text (Counts first p) = true
has_text (Coverage p) = true
has_text (TestCounts first id p) = true
has_text (Exclude p) = true
has_text (Include p) = true
has_text other = false

-- a request with a text, for which memory can be wanted
pub record WantsMemory (read : Result Request ℕ) : Type 0 where
  pub request : Request
  pub is : read ≡ Ok request
  pub text : has_text request ≡ true

-- A call read this; want of memory alone is free, and only where a request holds a text.
abbrev pub HasRead : Result Request RequestFault → Result Request ℕ → Type 0
HasRead (Ok r) read = read ≡ Ok r
HasRead (Err (BadMessage at)) read = read ≡ Err at
HasRead (Err Memory) read = WantsMemory read
