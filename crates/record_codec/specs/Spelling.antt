-- The bytes of a record: one list of bytes for each record.
use Rattle.std.specs.Prelude.{◌≡◌, ℕ, List}
use Rattle.record_codec.specs.declared.record.Record.{Record}
use Rattle.record_codec.specs.declared.record.Fields.{Fields}
use Rattle.record_codec.specs.Bytes.{bytes_of}

-- the fields of a record; two records that have the same are equal
abbrev pub fields_of : Record → Fields
fields_of r = record { version = r.version; id = r.id; status = r.status; seed = r.seed; time = r.time; user = r.user; signals = r.signals; instances = r.instances; events = r.events }

abbrev pub spelling : Record → List ℕ
spelling r = bytes_of (fields_of r)

-- the bytes are those of the record, all of them
pub record Encodes (r : Record) (bytes : List ℕ) : Type 0 where
  pub spelled : bytes ≡ spelling r
