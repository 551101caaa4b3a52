-- Bytes are refused by one line.
use Rattle.std.proofs.Common.{◌≡◌, ℕ, List, inl, inr, sym, ap, subst, ◌∙◌}
use Rattle.record_codec.specs.declared.fault.RecordFault.{RecordFault}
use Rattle.record_codec.specs.declared.fault.RecordFault.TheVariants.{Short, BadMagic, BadVersion, BadField, TooManyEvents, Trailing, Memory}
use Rattle.record_codec.specs.declared.record.Record.{Record}
use Rattle.record_codec.specs.Spelling.{Encodes}
use Rattle.record_codec.specs.Reading.{HasFault}
use Rattle.cov_compile.specs.declared.fault.CompileFault.{CompileFault}
use Rattle.design_data.specs.declared.design.Design.{Design}
use Rattle.sampler.specs.Shape.{IsWrongAt}
use Rattle.sampler.proofs.Tables.{place_one}
use Rattle.vcd_reader.specs.DumpFault.{DumpFault}
use Rattle.vcd_reader.specs.DumpFault.TheVariants as dumping
use Rattle.covd_commands.specs.Lines.{IsDesignFaultText, IsFaultText, IsDumpFaultText, wrong_shape_text}
use Rattle.covd_commands.specs.FromFiles.{IsRefusedText}

-- Bytes spell one record at most and have one fault at most, and not both.
pub record IsReading : Type 0 where
  pub one : (bytes : List ℕ) (r q : Record) → Encodes r bytes → Encodes q bytes → r ≡ q
  pub no_fault : (bytes : List ℕ) (r : Record) (fault : RecordFault) → Encodes r bytes → HasFault bytes fault → ⊥
  pub one_fault : (bytes : List ℕ) (fault other : RecordFault) → HasFault bytes fault → HasFault bytes other → fault ≡ other

-- ---- the line

fault_text_one : (k : ℕ) (fault : RecordFault) (text other : List ℕ) → IsFaultText k fault text → IsFaultText k fault other → text ≡ other
fault_text_one n (Short at) text other h k = h ∙ sym k
fault_text_one n BadMagic text other h k = h ∙ sym k
fault_text_one n (BadVersion version) text other h k = h ∙ sym k
fault_text_one n (BadField at) text other h k = h ∙ sym k
fault_text_one n (TooManyEvents count) text other h k = h ∙ sym k
fault_text_one n (Trailing at) text other h k = h ∙ sym k
fault_text_one n Memory text other h k = absurd h

pub design_text_one : (fault : CompileFault) (text other : List ℕ) → IsDesignFaultText fault text → IsDesignFaultText fault other → text ≡ other
design_text_one fault text other h k = h.1 ∙ sym k.1

pub dump_text_one : (fault : DumpFault) (text other : List ℕ) → IsDumpFaultText fault text → IsDumpFaultText fault other → text ≡ other
dump_text_one (dumping.Syntax at) text other h k = h ∙ sym k
dump_text_one (dumping.TimeBack at) text other h k = h ∙ sym k
dump_text_one (dumping.UnknownCode at) text other h k = h ∙ sym k
dump_text_one (dumping.BadEvent at) text other h k = h ∙ sym k
dump_text_one (dumping.NoSignal number) text other h k = h ∙ sym k
dump_text_one (dumping.WidthDiffers number) text other h k = h ∙ sym k
dump_text_one (dumping.TooManyEvents count) text other h k = h ∙ sym k
dump_text_one (dumping.TooLong size) text other h k = h ∙ sym k
dump_text_one dumping.Memory text other h k = absurd h

pub refused_text_one : IsReading → (n : ℕ) (d : Design) (bytes text other : List ℕ) → IsRefusedText n d bytes text → IsRefusedText n d bytes other → text ≡ other
refused_text_one read n d bytes text other h k = elim h [
  | inl a ↦ elim k [
    | inl b ↦ fault_text_one n b.0 text other (subst (λ (f : RecordFault). IsFaultText n f text) (read.one_fault bytes a.0 b.0 a.1 b.1) a.2) b.2
    | inr b ↦ absurd (read.no_fault bytes b.0 a.0 b.1 a.1)
  ]
  | inr a ↦ elim k [
    | inl b ↦ absurd (read.no_fault bytes a.0 b.0 a.1 b.1)
    | inr b ↦
        let same = read.one bytes a.0 b.0 a.1 b.1 in
        let at = place_one d b.0 a.2 b.2 (subst (λ (r : Record). IsWrongAt d r a.2) same a.3) b.3 in
        a.4 ∙ ap (wrong_shape_text n) at ∙ sym b.4
  ]
]
