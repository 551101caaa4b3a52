-- How requests are spelled: one list of bytes, which is the body of a frame. It begins with a tag, and then stand the fields. Numbers
-- have their highest byte first; the last text of a body has no length.
use Rattle.std.specs.Prelude.{ℕ, List, [], ◌∷◌, ◌++◌, length}
use Rattle.std.specs.Int.{w32, w64, to_be_bytes}
use Rattle.request_forms.specs.declared.requests.Request.{Request}
use Rattle.request_forms.specs.declared.requests.Request.TheVariants as request

abbrev pub one_byte : ℕ → List ℕ
one_byte n = n ∷ []

-- its length in one byte, and the text
abbrev pub text : List ℕ → List ℕ
text bytes = one_byte (length bytes) ++ bytes

-- what is asked
unfoldable pub request_spelled : Request → List ℕ
request_spelled (request.Hello point) = 0x01 ∷ to_be_bytes w64 point
request_spelled (request.Begin len) = 0x02 ∷ to_be_bytes w64 len
request_spelled (request.Piece offset bytes) = 0x03 ∷ (to_be_bytes w64 offset ++ bytes)
request_spelled (request.Commit digest) = 0x04 ∷ digest
request_spelled (request.Counts first path) = 0x05 ∷ (to_be_bytes w32 first ++ path)
request_spelled (request.Coverage path) = 0x06 ∷ path
request_spelled (request.Illegal first) = 0x07 ∷ to_be_bytes w32 first
request_spelled (request.Tests first) = 0x08 ∷ to_be_bytes w32 first
request_spelled (request.TestCounts first id path) = 0x09 ∷ (to_be_bytes w32 first ++ (text id ++ path))
request_spelled request.Rank = 0x0A ∷ []
request_spelled (request.Exclude path) = 0x0B ∷ path
request_spelled (request.Include path) = 0x0C ∷ path
request_spelled (request.NameOf bin) = 0x0D ∷ to_be_bytes w32 bin
request_spelled request.Bye = 0x0E ∷ []
request_spelled (request.Revise digest) = 0x0F ∷ digest
request_spelled (request.Fetch place offset) = 0x10 ∷ (to_be_bytes w32 place ++ to_be_bytes w64 offset)
