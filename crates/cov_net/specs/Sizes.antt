-- What a load of a file answers, by what the system gave when the file was opened, what it told of it, and what reads gave.
use Rattle.std.specs.Prelude.{◌≡◌, ◌≢◌, ◌⊎◌, ℕ, ◌+◌, ◌<◌, ◌≤◌, List, length, Option, Result, Ok, Err, ⊤}
use Rattle.std.specs.Fs.{metadata_len, file_type, IsDir}
use Rattle.std.specs.Global.{Vec}
use Rattle.std.specs.Io.KnownBytes.{Consumes, IsAtEnd}
use Rattle.std.specs.IoError.{error_kind}
use Rattle.std.specs.declared.fs.attrs.Metadata.{Metadata}
use Rattle.std.specs.declared.io.Error.{Error}
use Rattle.std.specs.declared.io.ErrorKind.TheVariants as kind
use Rattle.cov_base.specs.declared.shelf.ShelfRefusal.{ShelfRefusal}
use Rattle.cov_base.specs.declared.shelf.ShelfRefusal.TheVariants as refusal
use Rattle.cov_net.specs.Calls.{Answers, Gives, IsInterrupted}

-- why a file can't be had after such an error
abbrev pub IsCauseOf : Error → ShelfRefusal → Type 0
IsCauseOf error refusal.Failed = error_kind error ≢ kind.OutOfMemory
IsCauseOf error refusal.Memory = error_kind error ≡ kind.OutOfMemory
IsCauseOf error other = ⊥

-- ---- an open file

-- The size of a file that is no directory, where it is at most the limit; else why it isn't read.
abbrev pub IsSize : Metadata → ℕ → Result ℕ ShelfRefusal → Type 0
IsSize metadata most (Ok size) = (IsDir (file_type metadata) → ⊥) × (size ≡ metadata_len metadata) × (size ≤ most)
IsSize metadata most (Err refusal.Failed) = IsDir (file_type metadata)
IsSize metadata most (Err (refusal.TooLong size)) = (IsDir (file_type metadata) → ⊥) × (size ≡ metadata_len metadata) × (most < size)
IsSize metadata most (Err other) = ⊥

-- What a file that has grown showed before it was cut off: what was kept of it and one more piece, of at most `room`
-- bytes, are so many bytes, which is above the limit.
pub record Grew (before now : Option (List ℕ)) (kept most room size : ℕ) : Type 0 where
  pub piece : List ℕ
  pub taken : Consumes before now piece
  pub seen : size ≡ kept + length piece
  pub above : most < size
  pub within : size ≤ most + room

-- ---- reading it

module _ {F : Type 0} (remaining : F → Option (List ℕ)) (reads : F × List ℕ → Result ℕ Error → F × List ℕ → Type 0) where
  -- these are all bytes that the file has left, to its end
  pub record ReadsAll (file : F) (bytes : List ℕ) : Type 0 where
    pub after : F
    pub taken : Consumes (remaining file) (remaining after) bytes
    pub ended : IsAtEnd (remaining after)

  -- behind some of its bytes a read of the file fails, and not for want of memory
  pub record ReadFails (file : F) : Type 0 where
    pub bytes : List ℕ
    pub behind : F
    pub after : F
    pub room : List ℕ
    pub filled : List ℕ
    pub error : Error
    pub taken : Consumes (remaining file) (remaining behind) bytes
    pub failed : Answers IsInterrupted reads (behind, room) (Err error) (after, filled)
    pub cause : error_kind error ≢ kind.OutOfMemory

  -- why a file isn't read to its end: a read failed, or it grew, or memory ran out
  abbrev pub IsReadRefusal : (before after : F) → (kept most room : ℕ) → ShelfRefusal → Type 0
  IsReadRefusal before after kept most room refusal.Failed = ReadFails before
  IsReadRefusal before after kept most room refusal.Missing = ⊥
  IsReadRefusal before after kept most room (refusal.TooLong size) = Grew (remaining before) (remaining after) kept most room size
  IsReadRefusal before after kept most room refusal.Memory = ⊤

-- ---- a load

-- The file was opened, or what was in its way was want of memory.
abbrev pub IsOpenOrMemory : {F : Type 0} → Result F Error → Type 0
IsOpenOrMemory (Ok file) = ⊤
IsOpenOrMemory (Err error) = error_kind error ≡ kind.OutOfMemory

module _ {F : Type 0} (opens : Result F Error → Type 0) (tells : F → Result Metadata Error → Type 0) where
  -- the file that was opened, what was told of it, and that its size comes to that answer
  pub record Sized (file : F) (most : ℕ) (size : Result ℕ ShelfRefusal) : Type 0 where
    pub opened : Gives IsInterrupted opens (Ok file)
    pub metadata : Metadata
    pub told : Gives IsInterrupted (tells file) (Ok metadata)
    pub is : IsSize metadata most size

  -- the file wasn't opened, and not for want of memory
  pub record NotOpened : Type 0 where
    pub error : Error
    pub failed : Gives IsInterrupted opens (Err error)
    pub cause : error_kind error ≢ kind.OutOfMemory

  -- the file was opened, and nothing was told of it, and not for want of memory
  pub record NotTold : Type 0 where
    pub file : F
    pub opened : Gives IsInterrupted opens (Ok file)
    pub error : Error
    pub failed : Gives IsInterrupted (tells file) (Err error)
    pub cause : error_kind error ≢ kind.OutOfMemory

  module _ (remaining : F → Option (List ℕ)) (reads : F × List ℕ → Result ℕ Error → F × List ℕ → Type 0) (most room : ℕ) where
    -- the file is opened, no directory and of at most so many bytes, as the system tells
    abbrev pub IsReadable : F → Type 0
    IsReadable file = (size : ℕ) × Sized file most (Ok size)

    -- All bytes of the file; or why it isn't handed over. Its size is above the limit as the system tells, or since it grew.
    abbrev pub IsLoaded : Result (Vec ℕ) ShelfRefusal → Type 0
    IsLoaded (Ok bytes) = (file : F) × IsReadable file × ReadsAll remaining reads file bytes.items
    IsLoaded (Err refusal.Failed) =
        NotOpened
        ⊎ (NotTold
        ⊎ (((file : F) × Sized file most (Err refusal.Failed))
        ⊎ ((file : F) × IsReadable file × ReadFails remaining reads file)))
    IsLoaded (Err refusal.Missing) = ⊥
    IsLoaded (Err (refusal.TooLong size)) =
        ((file : F) × Sized file most (Err (refusal.TooLong size)))
        ⊎ ((file after : F) × IsReadable file × Grew (remaining file) (remaining after) 0 most room size)
    IsLoaded (Err refusal.Memory) = (answer : Result F Error) × Gives IsInterrupted opens answer × IsOpenOrMemory answer
