-- Bytes that are those of a record.
use Rattle.std.specs.Prelude.{ℕ, List}
use Rattle.std.proofs.Props.{props}
use mathlib.Core.HLevel.{is_prop→PathP}
use Rattle.record_codec.specs.declared.record.Record.{Record}
use Rattle.record_codec.specs.Spelling.{Encodes}
use Rattle.record_codec.proofs.RecordLaws.{one_record}

-- the bytes are those of a record
pub record AreRecord (bytes : List ℕ) : Type 0 where
  pub of : Record
  pub is : Encodes of bytes

-- that record
unfoldable pub the_record : {bytes : List ℕ} → AreRecord bytes → Record
the_record r = r.of

Encodes-prop : (r : Record) (bytes : List ℕ) → IsProp (Encodes r bytes)
Encodes-prop r bytes = hlevel props

-- there is one at most
pub AreRecord-prop : (bytes : List ℕ) → IsProp (AreRecord bytes)
AreRecord-prop bytes r q = λ i. record {
  of = one_record bytes r.of q.of r.is q.is i;
  is = is_prop→PathP (λ j. Encodes (one_record bytes r.of q.of r.is q.is j) bytes) (λ j. Encodes-prop (one_record bytes r.of q.of r.is q.is j) bytes) r.is q.is i;
}
