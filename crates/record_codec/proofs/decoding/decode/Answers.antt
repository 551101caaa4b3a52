use Rattle.std.proofs.Common.{arith, sym, subst, ◌∙◌, Err}
use Rattle.record_codec.specs.Reading.{HasRead, reading}
use Rattle.record_codec.specs.declared.fault.RecordFault.{RecordFault}
use Rattle.record_codec.proofs.RecordLaws.{whole_takes, is_within, one_record}
use Rattle.record_codec.proofs.Decoded.{read_is, encodes, fault_read, none_has}
use Rattle.record_codec.proofs.decoding.decode.Goals as goal

pub record_of-requires : goal.record_of-requires
record_of-requires c = is_within c.args.bytes.now c.in-Ok.fields (whole_takes c.args.bytes.now c.in-Ok.fields (λ i. omega (arith, c.type_inv.bytes i)) c.in-Ok.ensures) c.requires

pub returns-in-Ok-clause-told : goal.returns-in-Ok-clause-told
returns-in-Ok-clause-told c = read_is c.args.bytes.now c.in-Ok.fields c.record_of.result c.in-Ok.ensures c.record_of.ensures

pub returns-in-Ok-clause-read : goal.returns-in-Ok-clause-read
returns-in-Ok-clause-read c = encodes c.args.bytes.now c.in-Ok.fields c.record_of.result (λ i. omega (arith, c.type_inv.bytes i)) c.in-Ok.ensures c.record_of.ensures

pub returns-in-Ok-clause-only : goal.returns-in-Ok-clause-only
returns-in-Ok-clause-only c = λ other h. one_record c.args.bytes.now other c.record_of.result h (encodes c.args.bytes.now c.in-Ok.fields c.record_of.result (λ i. omega (arith, c.type_inv.bytes i)) c.in-Ok.ensures c.record_of.ensures)

pub returns-in-Err-clause-told : goal.returns-in-Err-clause-told
returns-in-Err-clause-told c = subst (λ (f : RecordFault). HasRead (Err f) (reading c.args.bytes.now)) (sym c.fault_told.ensures) (fault_read c.args.bytes.now c.in-Err.fault c.in-Err.ensures)

pub returns-in-Err-clause-none : goal.returns-in-Err-clause-none
returns-in-Err-clause-none c = λ other r h. none_has c.args.bytes.now c.in-Err.fault c.in-Err.ensures (λ e. other (c.fault_told.ensures ∙ e)) r h
