-- Reading limits, what is made of fields, and rows until the bytes end.
use Rattle.std.specs.Prelude.{ℕ, zero, suc, List, [], ◌∷◌, ◌++◌, length, Result, Ok, ◌==◌, if◌then◌else◌}
use Rattle.std.specs.Int.{w8}
use Rattle.ucis_model.specs.declared.answers.Which.{Which}
use Rattle.ucis_model.specs.declared.answers.Which.TheVariants as which
use Rattle.request_forms.specs.Reading.{◌>>=◌, Reader, Form, number_within, ended}

abbrev pub limit_of : ℕ → Which
limit_of n = if n == 0 then which.Tests else (if n == 1 then which.Bytes else (if n == 2 then which.Entries else which.History))

unfoldable pub limit_at : Reader Which
limit_at bytes = do
  n ← number_within w8 0 3 bytes
  Ok (limit_of n.0, n.1)

-- what is made of a field
abbrev pub shaped : {A B : Type 0} → (A → B) → Reader A → Reader B
shaped make read bytes = do
  x ← read bytes
  Ok (make x.0, x.1)

-- Rows until the bytes end; each takes a byte at least, so there are no more rows than bytes.
unfoldable pub rows_in : {A : Type 0} → Reader A → ℕ → Form (List A)
rows_in read zero bytes = ended [] bytes
rows_in read (suc n) bytes = if length bytes == 0 then Ok [] else (do
  first ← read bytes
  others ← rows_in read n first.1
  Ok (first.0 ∷ others))

-- one more of what is read, behind those in front
abbrev pub appended : {A : Type 0} → List A → Result (A × List ℕ) ℕ → Result (List A × List ℕ) ℕ
appended front read = do
  row ← read
  Ok (front ++ row.0 ∷ [], row.1)

abbrev pub rows : {A : Type 0} → Reader A → Form (List A)
rows read bytes = rows_in read (length bytes) bytes
