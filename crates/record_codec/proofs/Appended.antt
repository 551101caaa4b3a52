-- Bytes appended one after the other.
use Rattle.std.proofs.Common.{◌≡◌, ℕ, List, [], ◌∷◌, ◌++◌, ap, ◌∙◌, append_assoc, Ok}
use Rattle.std.specs.Int.{w64, to_be_bytes}
use Rattle.record_codec.specs.declared.record.Record.{Record}
use Rattle.record_codec.specs.declared.record.Fields.{Fields}
use Rattle.record_codec.specs.Bytes.{text, head, front, signal_table, instance_table, event_list, tables, bytes_of}
use Rattle.record_codec.specs.Spelling.{spelling, fields_of}
use Rattle.record_codec.specs.Reading.{reading}
use Rattle.record_codec.proofs.RecordLaws.{read_again}

-- one part behind another
pub behind : (old mid new a b : List ℕ) → mid ≡ old ++ a → new ≡ mid ++ b → new ≡ old ++ (a ++ b)
behind old mid new a b p q = q ∙ ap (λ (l : List ℕ). l ++ b) p ∙ append_assoc old a b

six : (a b c d e f g : List ℕ) → (a ++ (b ++ (c ++ (d ++ (e ++ f))))) ++ g ≡ a ++ (b ++ (c ++ (d ++ (e ++ (f ++ g)))))
six a b c d e f g = simp append_assoc

pub in_parts : (r : Fields) → front r.version r.id r.status r.seed r.time r.user ++ tables r.version r.signals r.instances r.events ≡ bytes_of r
unfolding bytes_of
in_parts r = six (head r.version) (text r.id) (r.status ∷ []) (to_be_bytes w64 r.seed) (to_be_bytes w64 r.time) (text r.user) (signal_table r.signals ++ (instance_table r.version r.instances ++ event_list r.events))

pub reads_back : (r : Record) (bytes : List ℕ) → bytes ≡ spelling r → reading bytes ≡ Ok (fields_of r)
reads_back r bytes e = ap reading e ∙ read_again r

-- all of a record's fields
pub both_parts : (r : Fields) (first one all : List ℕ) → first ≡ [] → one ≡ first ++ front r.version r.id r.status r.seed r.time r.user → all ≡ one ++ tables r.version r.signals r.instances r.events → all ≡ bytes_of r
both_parts r first one all none p q =
    behind first one all (front r.version r.id r.status r.seed r.time r.user) (tables r.version r.signals r.instances r.events) p q
    ∙ ap (λ (l : List ℕ). l ++ (front r.version r.id r.status r.seed r.time r.user ++ tables r.version r.signals r.instances r.events)) none ∙ in_parts r
