-- What bytes are, from what their reading says.
use Rattle.std.proofs.Common.{◌≡◌, inl, inr, ℕ, ◌<◌, ◌≤◌, List, length, refl, sym, ap, ◌∙◌, subst}
use Rattle.std.specs.Prelude.{Some, None, Ok, Err}
use Rattle.cov_ground.specs.Limits.{longest_design}
use Rattle.design_data.specs.declared.design.Design.{Design}
use Rattle.record_codec.specs.declared.record.Record.{Record}
use Rattle.record_codec.specs.declared.fault.RecordFault.{RecordFault}
use Rattle.record_codec.specs.declared.fault.RecordFault.TheVariants as no_record
use Rattle.record_codec.specs.Reading.{HasRead, reading}
use Rattle.sampler.specs.Shape.{IsWrongAt}
use Rattle.cov_compile.specs.declared.fault.CompileFault.{CompileFault}
use Rattle.cov_compile.specs.Compiling.{Compiles}
use Rattle.cov_compile.specs.Texts.{Declared}
use Rattle.cov_proto.specs.declared.replies.Body.{Body}
use Rattle.cov_proto.specs.declared.replies.Body.TheVariants as body
use Rattle.session_table.specs.Contents.{NoRecord, OtherShape, Holds, IsContent, LongText, NoDesign, OtherTables, IsTextContent, tables_apart}
use Rattle.session_table.specs.Table.{record_refusal, said_to, said_to_text}
use Rattle.cov_compile.specs.declared.refusals.Refusal.{Refusal}
use Rattle.cov_compile.specs.Refusals.{IsRefusal}
use Rattle.session_table.specs.Says.{IsFaultBody, Refuses, FindsText}

pub no_record_refuses : (opening : Design) (bytes : List ℕ) (fault : RecordFault) (b : Body) → HasRead (Err fault) (reading bytes) → b ≡ record_refusal fault → Refuses (IsContent opening bytes) said_to b
no_record_refuses opening bytes (no_record.Short at) b read is = inl (NoRecord (no_record.Short at), read, ap inl (sym is))
no_record_refuses opening bytes no_record.BadMagic b read is = inl (NoRecord no_record.BadMagic, read, ap inl (sym is))
no_record_refuses opening bytes (no_record.BadVersion v) b read is = inl (NoRecord (no_record.BadVersion v), read, ap inl (sym is))
no_record_refuses opening bytes (no_record.BadField at) b read is = inl (NoRecord (no_record.BadField at), read, ap inl (sym is))
no_record_refuses opening bytes (no_record.TooManyEvents n) b read is = inl (NoRecord (no_record.TooManyEvents n), read, ap inl (sym is))
no_record_refuses opening bytes (no_record.Trailing at) b read is = inl (NoRecord (no_record.Trailing at), read, ap inl (sym is))
no_record_refuses opening bytes no_record.Memory b read is = inr is

pub shape_refuses : (opening : Design) (bytes : List ℕ) (r : Record) (at : ℕ) → Holds bytes r → IsWrongAt opening r at → Refuses (IsContent opening bytes) said_to (body.WrongShape at)
shape_refuses opening bytes r at h wrong = inl (OtherShape at, (r, h, wrong), refl)

pub long_refuses : (opening : Design) (text : List ℕ) → longest_design < length text → Refuses (IsTextContent opening text) (said_to_text text) (body.TooLong (length text))
long_refuses opening text long = inl (LongText, long, refl)

pub fault_refuses : (opening : Design) (text : List ℕ) (fault : CompileFault) (b : Body) → length text ≤ longest_design → Compiles text (Err fault) → IsFaultBody fault b → Refuses (IsTextContent opening text) (said_to_text text) b
fault_refuses opening text fault b short c (inl p) = inl (NoDesign fault, (short, c p.0), ap inl (sym p.1))
fault_refuses opening text fault b short c (inr m) = inr m

pub tables_refuse : (opening : Design) (text own : List ℕ) (d : Design) (at : ℕ) → length text ≤ longest_design → own ≡ text → Compiles own (Ok d) → tables_apart opening d ≡ Some at → Refuses (IsTextContent opening text) (said_to_text text) (body.ShapeDiffers at)
tables_refuse opening text own d at short is c apart = inl (OtherTables at, (d, record { short = short; design = subst (λ t. Compiles t (Ok d)) is c }, apart), refl)

pub text_found : (opening : Design) (text : List ℕ) (c : Declared) → length text ≤ longest_design → c.text ≡ text → Compiles c.text (Ok c.design) → tables_apart opening c.design ≡ None → FindsText opening text (Ok c)
text_found opening text c short is d apart = (is, record { short = short; design = subst (λ t. Compiles t (Ok c.design)) is d }, apart)

pub fault_body : (fault : CompileFault) (r : Refusal) (kind bytes : List ℕ) → IsRefusal fault r → kind ≡ bytes → bytes ≡ r.kind.now → IsFaultBody fault (body.BadDesign r.at kind)
fault_body fault r kind bytes is same told = inl (is.real, λ i. body.BadDesign (is.place i) ((same ∙ (told ∙ is.kind)) i))
