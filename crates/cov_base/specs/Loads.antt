-- What a load from a shelf answers. The files of a shelf are told (Some) or not (None).
use Rattle.std.specs.Prelude.{◌≡◌, ℕ, ◌<◌, List, length, Option, Some, None, Result, Ok, Err, ⊤}
use Rattle.std.specs.Global.{Vec}
use Rattle.cov_spec.specs.Causes.{Rose}
use Rattle.cov_spec.specs.Files.{file_of}
use Rattle.cov_base.specs.declared.shelf.ShelfRefusal.{ShelfRefusal}
use Rattle.cov_base.specs.declared.shelf.ShelfRefusal.TheVariants as refusal

-- the file has these bytes, where the files are told
abbrev pub HasFile : Option (List (List ℕ × List ℕ)) → List ℕ → List ℕ → Type 0
HasFile None name bytes = ⊤
HasFile (Some files) name bytes = file_of files name ≡ Some bytes

-- the files are told, and none has the name
abbrev pub LacksFile : Option (List (List ℕ × List ℕ)) → List ℕ → Type 0
LacksFile None name = ⊥
LacksFile (Some files) name = file_of files name ≡ None

-- the file of that name has this size, which is above the limit; where the files aren't told, the count rose
abbrev pub HasLongFile : Option (List (List ℕ × List ℕ)) → ℕ → ℕ → List ℕ → ℕ → ℕ → Type 0
HasLongFile None before now name most size = Rose before now × (most < size)
HasLongFile (Some files) before now name most size = (bytes : List ℕ) × (file_of files name ≡ Some bytes) × (length bytes ≡ size) × (most < size)

-- the answer to a load of a file of at most so many bytes, `before` and `now` being the counts of faults
abbrev pub Loads : Option (List (List ℕ × List ℕ)) → ℕ → ℕ → List ℕ → ℕ → Result (Vec ℕ) ShelfRefusal → Type 0
Loads files before now name most (Ok bytes) = HasFile files name bytes.items
Loads files before now name most (Err refusal.Failed) = Rose before now
Loads files before now name most (Err refusal.Missing) = LacksFile files name
Loads files before now name most (Err (refusal.TooLong size)) = HasLongFile files before now name most size
Loads files before now name most (Err refusal.Memory) = ⊤
