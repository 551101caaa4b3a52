-- The record that bytes are, from the record that was encoded.
use Rattle.std.proofs.Common.{◌≡◌, ℕ, List}
use Rattle.record_codec.specs.declared.record.Record.{Record}
use Rattle.record_codec.specs.Spelling.{spelling}
use Rattle.record_codec.proofs.RecordLaws.{one_record}
use Rattle.sampler.specs.Encoded.{AreRecord, the_record}

pub is_record : {bytes : List ℕ} (are : AreRecord bytes) (r : Record) → bytes ≡ spelling r → r ≡ the_record are
unfolding the_record
is_record {bytes = bytes} are r e = one_record bytes r are.of (record { spelled = e }) are.is
