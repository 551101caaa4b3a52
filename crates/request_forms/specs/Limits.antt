-- Which requests have a spelling, and what their types say of numbers.
use Rattle.std.specs.Prelude.{◌≡◌, ℕ, ◌<◌, ◌≤◌, ◌^◌, List, length}
use Rattle.std.specs.List.{AllByRecursion}
use Rattle.record_codec.specs.Limits.{longest_id}
use Rattle.request_forms.specs.declared.requests.Request.{Request}
use Rattle.request_forms.specs.declared.requests.Request.TheVariants as request

-- bytes from low on and below 7F
abbrev pub AreFrom : ℕ → List ℕ → Type 0
AreFrom low bytes = AllByRecursion (λ byte. (low ≤ byte) × (byte < 127)) bytes

abbrev pub IsPath : List ℕ → Type 0
IsPath path = AreFrom 32 path

-- a text behind its length, of this length at least
pub record IsText (least low : ℕ) (bytes : List ℕ) : Type 0 where
  pub some : least ≤ length bytes
  pub short : length bytes ≤ longest_id
  pub fit : AreFrom low bytes

abbrev pub IsId : List ℕ → Type 0
IsId id = IsText 1 33 id

-- ---- what has a spelling

abbrev pub IsRequest : Request → Type 0
IsRequest (request.Counts first path) = IsPath path
IsRequest (request.Coverage path) = IsPath path
IsRequest (request.TestCounts first id path) = IsId id × IsPath path
IsRequest (request.Exclude path) = IsPath path
IsRequest (request.Include path) = IsPath path
IsRequest other = Unit {0}

-- ---- what the types say: numbers of 32 and of 64 bits, digests of 32 bytes

abbrev pub Is32 : ℕ → Type 0
Is32 n = n < 2 ^ 32

abbrev pub Is64 : ℕ → Type 0
Is64 n = n < 2 ^ 64

abbrev pub IsDigest : List ℕ → Type 0
IsDigest digest = length digest ≡ 32

abbrev pub HasRequestType : Request → Type 0
HasRequestType (request.Hello point) = Is64 point
HasRequestType (request.Begin len) = Is64 len
HasRequestType (request.Piece offset bytes) = Is64 offset
HasRequestType (request.Commit digest) = IsDigest digest
HasRequestType (request.Counts first path) = Is32 first
HasRequestType (request.Coverage path) = Unit {0}
HasRequestType (request.Illegal first) = Is32 first
HasRequestType (request.Tests first) = Is32 first
HasRequestType (request.TestCounts first id path) = Is32 first
HasRequestType request.Rank = Unit {0}
HasRequestType (request.Exclude path) = Unit {0}
HasRequestType (request.Include path) = Unit {0}
HasRequestType (request.NameOf bin) = Is32 bin
HasRequestType request.Bye = Unit {0}
HasRequestType (request.Revise digest) = IsDigest digest
HasRequestType (request.Fetch place offset) = Is32 place × Is64 offset
