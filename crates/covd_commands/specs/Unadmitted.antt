-- The lines of records that aren't admitted.
use Rattle.std.specs.Prelude.{ℕ, ◌/◌, ◌%◌, List, [], ◌∷◌, ◌++◌, codes, decimal, slice_index, Option, Some, None}
use Rattle.std.specs.List.{flat_map}
use Rattle.ucis_model.specs.declared.answers.Answer.{Answer}
use Rattle.ucis_model.specs.declared.answers.Answer.TheVariants as answers
use Rattle.ucis_model.specs.declared.answers.Which.{Which}
use Rattle.ucis_model.specs.declared.answers.Which.TheVariants.{Tests, Bytes, Entries, History}

-- two lower-case hexadecimal digits for each byte
abbrev pub hexadecimal : List ℕ → List ℕ
hexadecimal bytes = flat_map (λ byte. slice_index (codes "0123456789abcdef") (byte / 16) ∷ slice_index (codes "0123456789abcdef") (byte % 16) ∷ []) bytes

-- the k-th record isn't admitted: its id is kept with other content, of this digest
abbrev pub taken_line : (k : ℕ) → (digest : List ℕ) → List ℕ
taken_line k digest = codes "record " ++ (decimal k ++ (codes " not admitted IdTaken " ++ (hexadecimal digest ++ 10 ∷ [])))

-- the k-th record isn't admitted: a limit would be passed
abbrev pub full_line : (k : ℕ) → (which : List ℕ) → (have want : ℕ) → List ℕ
full_line k which have want = codes "record " ++ (decimal k ++ (codes " not admitted Full " ++ (which ++ 32 ∷ (decimal have ++ 32 ∷ (decimal want ++ 10 ∷ [])))))

abbrev pub which_word : Which → List ℕ
which_word Tests = codes "tests"
which_word Bytes = codes "bytes"
which_word Entries = codes "entries"
which_word History = codes "history"

-- the line of an answer that refuses the k-th record
abbrev pub refusal_line : (k : ℕ) → Answer → Option (List ℕ)
refusal_line k (answers.IdTaken digest) = Some (taken_line k digest)
refusal_line k (answers.Full which have want) = Some (full_line k (which_word which) have want)
refusal_line k other = None
