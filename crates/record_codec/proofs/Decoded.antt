-- What follows from reading all of the bytes.
use Rattle.std.proofs.Common.{◌≡◌, ℕ, ◌≤◌, List, length, Result, Ok, Err, refl, sym, ap, ◌∙◌}
use Rattle.record_codec.specs.declared.fault.Fault.{Fault}
use Rattle.record_codec.specs.declared.fault.Fault.TheVariants.{Short, BadMagic, BadVersion, BadField, TooManyEvents, Trailing, Memory}
use Rattle.record_codec.specs.declared.fault.RecordFault.TheVariants as refusals
use Rattle.record_codec.specs.declared.record.Record.{Record}
use Rattle.record_codec.specs.declared.record.Fields.{Fields}
use Rattle.record_codec.specs.Bytes.{bytes_of}
use Rattle.record_codec.specs.Spelling.{fields_of, Encodes}
use Rattle.record_codec.specs.Reading.{Fails, whole, told, from_front, reading, HasRead}
use Rattle.record_codec.proofs.Readers.{IsBytes}
use Rattle.record_codec.proofs.RecordLaws.{whole_takes, is_within, whole_again}

pub read_is : (bytes : List ℕ) (fields : Fields) (r : Record) → whole bytes ≡ Ok fields → fields_of r ≡ fields → reading bytes ≡ Ok (fields_of r)
unfolding reading
read_is bytes fields r e same = ap (from_front (length bytes)) (e ∙ ap Ok (sym same))

pub encodes : (bytes : List ℕ) (fields : Fields) (r : Record) → IsBytes bytes → whole bytes ≡ Ok fields → fields_of r ≡ fields → Encodes r bytes
encodes bytes fields r fits e same = record { spelled = (whole_takes bytes fields fits e).parts ∙ ap bytes_of (sym same) }

fault_is : (bytes : List ℕ) (f : Fault) → whole bytes ≡ Err f → reading bytes ≡ Err (told (length bytes) f)
unfolding reading
fault_is bytes f e = ap (from_front (length bytes)) e

pub fault_read : (bytes : List ℕ) (f : Fault) → Fails f (whole bytes) → HasRead (Err (told (length bytes) f)) (reading bytes)
fault_read bytes Memory fails = tt
fault_read bytes (Short left) fails = fault_is bytes (Short left) fails
fault_read bytes BadMagic fails = fault_is bytes BadMagic fails
fault_read bytes (BadVersion version) fails = fault_is bytes (BadVersion version) fails
fault_read bytes (BadField left) fails = fault_is bytes (BadField left) fails
fault_read bytes (TooManyEvents count) fails = fault_is bytes (TooManyEvents count) fails
fault_read bytes (Trailing left) fails = fault_is bytes (Trailing left) fails

none_spelled : (bytes : List ℕ) (f : Fault) → whole bytes ≡ Err f → (r : Record) → Encodes r bytes → ⊥
none_spelled bytes f e r h = let g : whole bytes ≡ Ok (fields_of r) = ap whole h.spelled ∙ whole_again r in cc

pub none_has : (bytes : List ℕ) (f : Fault) → Fails f (whole bytes) → (told (length bytes) f ≡ refusals.Memory → ⊥) → (r : Record) → Encodes r bytes → ⊥
none_has bytes Memory fails other r h = other refl
none_has bytes (Short left) fails other r h = none_spelled bytes (Short left) fails r h
none_has bytes BadMagic fails other r h = none_spelled bytes BadMagic fails r h
none_has bytes (BadVersion version) fails other r h = none_spelled bytes (BadVersion version) fails r h
none_has bytes (BadField left) fails other r h = none_spelled bytes (BadField left) fails r h
none_has bytes (TooManyEvents count) fails other r h = none_spelled bytes (TooManyEvents count) fails r h
none_has bytes (Trailing left) fails other r h = none_spelled bytes (Trailing left) fails r h

-- ---- what is read is a record

back : (total : ℕ) (read : Result Fields Fault) (f : Fields) → from_front total read ≡ Ok f → read ≡ Ok f
back total (Ok x) f e = let same : x ≡ f = cc in ap Ok same
back total (Err fault) f e = absurd cc

read_whole : (bytes : List ℕ) (f : Fields) → reading bytes ≡ Ok f → whole bytes ≡ Ok f
unfolding reading
read_whole bytes f e = back (length bytes) (whole bytes) f e

pub read_record : (bytes : List ℕ) (f : Fields) → IsBytes bytes → length bytes ≤ 8388608 → reading bytes ≡ Ok f → (r : Record) × (fields_of r ≡ f) × Encodes r bytes
read_record bytes f fits short e =
    let found = whole_takes bytes f fits (read_whole bytes f e) in
    let r : Record = record { version = f.version; id = f.id; status = f.status; seed = f.seed; time = f.time; user = f.user; signals = f.signals; instances = f.instances; events = f.events; within = is_within bytes f found short } in
    (r, refl, record { spelled = found.parts })
