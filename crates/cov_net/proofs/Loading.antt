-- Why a file isn't handed over before it is read.
use Rattle.std.proofs.Common.{ℕ, List, Option, inl, inr}
use Rattle.std.specs.Prelude.{Result, Ok, Err}
use Rattle.std.specs.declared.fs.attrs.Metadata.{Metadata}
use Rattle.std.specs.declared.io.Error.{Error}
use Rattle.cov_base.specs.declared.shelf.ShelfRefusal.{ShelfRefusal}
use Rattle.cov_base.specs.declared.shelf.ShelfRefusal.TheVariants as refusal
use Rattle.cov_net.specs.Calls.{Gives, IsInterrupted}
use Rattle.cov_net.specs.Sizes.{IsCauseOf, IsLoaded}

module _ {F : Type 0} (opens : Result F Error → Type 0) (tells : F → Result Metadata Error → Type 0) (remaining : F → Option (List ℕ)) (reads : F × List ℕ → Result ℕ Error → F × List ℕ → Type 0) (most room : ℕ) where
  pub not_opened : (e : Error) (cause : ShelfRefusal) → Gives IsInterrupted opens (Err e) → IsCauseOf e cause → IsLoaded opens tells remaining reads most room (Err cause)
  not_opened e refusal.Failed h t = inl (record { error = e; failed = h; cause = t })
  not_opened e refusal.Missing h t = absurd t
  not_opened e (refusal.TooLong n) h t = absurd t
  not_opened e refusal.Memory h t = (Err e, h, t)

  pub not_told : (file : F) (e : Error) (cause : ShelfRefusal) → Gives IsInterrupted opens (Ok file) → Gives IsInterrupted (tells file) (Err e) → IsCauseOf e cause → IsLoaded opens tells remaining reads most room (Err cause)
  not_told file e refusal.Failed o h t = inr (inl (record { file = file; opened = o; error = e; failed = h; cause = t }))
  not_told file e refusal.Missing o h t = absurd t
  not_told file e (refusal.TooLong n) o h t = absurd t
  not_told file e refusal.Memory o h t = (Ok file, o, tt)
