-- What laws say of requests and their bytes.
use Rattle.std.specs.Prelude.{◌≡◌, ℕ, ◌≤◌, List, ◌++◌, Result, Err, Bool, true, false}
pub use Rattle.record_codec.specs.Reading.{AreBytes}
use Rattle.record_codec.specs.Limits.{longest_id}
use Rattle.request_forms.specs.declared.requests.Request.{Request}
use Rattle.request_forms.specs.declared.requests.Request.TheVariants as request
use Rattle.request_forms.specs.declared.requests.RequestFault.{RequestFault}
use Rattle.request_forms.specs.declared.requests.RequestFault.TheVariants.{BadMessage, Memory}
use Rattle.request_forms.specs.Limits.{IsRequest, HasRequestType}
use Rattle.request_forms.specs.Reading.{is_bad}
use Rattle.request_forms.specs.Spelled.{request_spelled}

-- the bytes are the spelling of this request, which is within its limits
pub record SpellsRequest (r : Request) (bytes : List ℕ) : Type 0 where
  pub parts : bytes ≡ request_spelled r
  pub fits : IsRequest r
  pub typed : HasRequestType r

-- A fault, other than want of memory, says that no request has these bytes.
abbrev pub HasNoRequest : List ℕ → RequestFault → Type 0
HasNoRequest bytes (BadMessage at) = (r : Request) → SpellsRequest r bytes → ⊥
HasNoRequest bytes Memory = Unit {0}

-- ---- where faults stand

-- Reading stops at this place or before.
abbrev pub FailsBy : {A : Type 0} → ℕ → Result A ℕ → Type 0
FailsBy most read = (at : ℕ) × (at ≤ most) × (read ≡ Err at)

-- Some request begins with these bytes.
pub record BeginsRequest (bytes : List ℕ) : Type 0 where
  pub request : Request
  pub more : List ℕ
  pub spells : SpellsRequest request (bytes ++ more)

-- no text at the end of the request takes this byte
abbrev pub stops_request : Request → ℕ → Bool
stops_request (request.Piece offset bytes) byte = false
stops_request (request.Counts first path) byte = is_bad 32 byte
stops_request (request.Coverage path) byte = is_bad 32 byte
stops_request (request.TestCounts first id path) byte = is_bad 32 byte
stops_request (request.Exclude path) byte = is_bad 32 byte
stops_request (request.Include path) byte = is_bad 32 byte
stops_request other byte = true

-- the bytes of the longest field, a test's id or the name of who ran it
abbrev pub longest_field : ℕ
longest_field = longest_id
