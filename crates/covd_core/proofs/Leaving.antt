-- What a command leaves whose text was written whole.
use Rattle.std.proofs.Common.{ℕ, List, inl, inr}
use Rattle.cov_spec.specs.Told.{Grows}
use Rattle.covd_commands.specs.declared.status.Status.{Status}
use Rattle.covd_commands.specs.declared.status.Status.TheVariants as status
use Rattle.covd_commands.specs.FromFiles.{Files}
use Rattle.covd_core.specs.Command.{Answers, Ends, Leaves}
use Rattle.covd_core.proofs.Never.{never_memory, never_write_fault, no_answer}

module _ (words : List (List ℕ)) (files : Files) (before now : ℕ) (text : List ℕ) where
  no_memory : Answers words files before now status.Memory text → ⊥
  no_memory h = elim h [ inl a ↦ absurd (cc a.1) | inr x ↦ elim x [ inl a ↦ a.3 | inr y ↦ elim y [ inl a ↦ a.3 | inr z ↦ elim z [ inl a ↦ a.5 | inr a ↦ no_answer never_memory words files before now text a ] ] ] ]

  no_write_fault : Answers words files before now status.WriteFault text → ⊥
  no_write_fault h = elim h [ inl a ↦ absurd (cc a.1) | inr x ↦ elim x [ inl a ↦ a.3 | inr y ↦ elim y [ inl a ↦ a.3 | inr z ↦ elim z [ inl a ↦ a.5 | inr a ↦ no_answer never_write_fault words files before now text a ] ] ] ]

  pub leaves_whole : (e e' : Ends) (s : Status) → Answers words files before now s text → Grows e.written e'.written text → Leaves words files before now e e' s
  leaves_whole e e' status.Memory h grows = absurd (no_memory h)
  leaves_whole e e' status.WriteFault h grows = absurd (no_write_fault h)
  leaves_whole e e' other h grows = (text, h, grows)
