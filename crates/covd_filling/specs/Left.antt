-- The lines of records that are left out.
use Rattle.std.specs.Prelude.{ℕ, ◌-◌, List, [], ◌∷◌, ◌++◌, codes, decimal, length, take, drop}
use Rattle.store_views.specs.Words.{status_word}
use Rattle.covd_commands.specs.declared.status.Status.{Status}
use Rattle.covd_commands.specs.declared.status.Status.TheVariants as status
use Rattle.covd_commands.specs.Finding.{Origin, File, Made}

-- left K CAUSE NAME, of the k-th record
abbrev pub left_line : (k : ℕ) → (cause name : List ℕ) → List ℕ
left_line k cause name = codes "left " ++ (decimal k ++ 32 ∷ (cause ++ 32 ∷ (name ++ 10 ∷ [])))

-- the name of the k-th record that comes from there: its file's, or the id that the generator gives it
abbrev pub name_of : Origin → (k : ℕ) → List ℕ
name_of (File name) k = name
name_of (Made seed rounds) k = codes "t" ++ decimal k

-- its test ended so
abbrev pub ended_cause : (status : ℕ) → List ℕ
ended_cause status = codes "status " ++ status_word status

-- all but the last byte
abbrev pub without_last : List ℕ → List ℕ
without_last bytes = take (length bytes - 1) bytes

-- what stands on a line between its front and the newline
abbrev pub behind_front : (front line : List ℕ) → List ℕ
behind_front front line = without_last (drop (length front) line)

-- The k-th record, of this name, isn't taken in, as this status and this line say: the cause is what stands behind
-- `record K refused ` or `record K not admitted `; or it is `too long SIZE`, or `cannot read`.
abbrev pub refusal_cause : Status → (k : ℕ) → (name line : List ℕ) → List ℕ
refusal_cause status.RecordRefused k name line = behind_front (codes "record " ++ (decimal k ++ codes " refused ")) line
refusal_cause status.AdmitRefused k name line = behind_front (codes "record " ++ (decimal k ++ codes " not admitted ")) line
refusal_cause status.FileTooLong k name line = codes "too long " ++ behind_front (codes "too long " ++ (name ++ 32 ∷ [])) line
refusal_cause other k name line = codes "cannot read"
