-- What is said to a request at a stage is one.
use Rattle.std.proofs.Common.{◌≡◌, ℕ, List, refl, sym, ap, ◌∙◌, subst, arith}
use Rattle.std.specs.Prelude.{Option, Some, None, Result, Ok, Err}
use mathlib.Core.HLevel.{is_prop→PathP}
use Rattle.design_data.specs.declared.design.Design.{Design}
use Rattle.design_data.specs.Limits.{IsDesign, IsDesign-prop}
use Rattle.record_codec.specs.declared.record.Record.{Record}
use Rattle.record_codec.specs.Spelling.{fields_of}
use Rattle.record_codec.specs.Reading.{reading}
use Rattle.record_codec.proofs.RecordLaws.{same_record}
use Rattle.sampler.specs.Shape.{Fits, IsWrongAt}
use Rattle.sampler.proofs.Tables.{place_one, does_not_fit}
use Rattle.cov_compile.specs.Elaboration.{parts_of}
use Rattle.cov_compile.proofs.Texts.{design_one, design_or_fault, fault_one}
use Rattle.cov_history.specs.declared.entry.Revision.{Revision}
use Rattle.upload_stage.specs.declared.fault.StageFault.{StageFault}
use Rattle.upload_stage.specs.Uploads.{Upload, finish_fault, finished, bytes_of}
use Rattle.cov_proto.specs.Request.{Request}
use Rattle.cov_proto.specs.Request.TheVariants as request
use Rattle.cov_session.specs.Histories.{Declaring}
use Rattle.cov_session.specs.Contents.{Content, NoRecord, OtherShape, Fitting, Holds, IsContent, Text, LongText, NoDesign, OtherTables, Revising, IsTextContent, tables_apart}
use Rattle.cov_session.specs.Table.{Row, said_to, said_to_text, IsCommitRow, IsReviseRow, IsRow}

-- ---- records

ok_or_fault : {A E : Type 0} (read : Result A E) (x : A) (e : E) → read ≡ Ok x → read ≡ Err e → ⊥
ok_or_fault read x e p q = cc

ok_one : {A E : Type 0} (x y : A) → ◌≡◌ {A = Result A E} (Ok x) (Ok y) → x ≡ y
ok_one x y e = cc

fault_is_one : {A E : Type 0} (x y : E) → ◌≡◌ {A = Result A E} (Err x) (Err y) → x ≡ y
fault_is_one x y e = cc

record_one : (bytes : List ℕ) (r q : Record) → Holds bytes r → Holds bytes q → r ≡ q
record_one bytes r q h k = same_record r q (ok_one (fields_of r) (fields_of q) (sym h ∙ k))

content_one : (opening : Design) (bytes : List ℕ) (c d : Content) → IsContent opening bytes c → IsContent opening bytes d → c ≡ d
content_one opening bytes (NoRecord f) (NoRecord g) h k = ap NoRecord (fault_is_one f g (sym h ∙ k))
content_one opening bytes (NoRecord f) (OtherShape at) h k = absurd (ok_or_fault (reading bytes) (fields_of k.0) f k.1 h)
content_one opening bytes (NoRecord f) (Fitting r) h k = absurd (ok_or_fault (reading bytes) (fields_of r) f k.0 h)
content_one opening bytes (OtherShape at) (NoRecord g) h k = absurd (ok_or_fault (reading bytes) (fields_of h.0) g h.1 k)
content_one opening bytes (OtherShape at) (OtherShape place) h k =
    ap OtherShape (place_one opening k.0 at place (subst (λ r. IsWrongAt opening r at) (record_one bytes h.0 k.0 h.1 k.1) h.2) k.2)
content_one opening bytes (OtherShape at) (Fitting r) h k = absurd (does_not_fit opening r at (subst (λ x. IsWrongAt opening x at) (record_one bytes h.0 r h.1 k.0) h.2) k.1)
content_one opening bytes (Fitting r) (NoRecord g) h k = absurd (ok_or_fault (reading bytes) (fields_of r) g h.0 k)
content_one opening bytes (Fitting r) (OtherShape at) h k = absurd (does_not_fit opening k.0 at k.2 (subst (λ x. Fits opening x) (record_one bytes r k.0 h.0 k.1) h.1))
content_one opening bytes (Fitting r) (Fitting q) h k = ap Fitting (record_one bytes r q h.0 k.0)

-- ---- texts

-- a design is its parts: that they are within its limits is one fact
design_is : (d e : Design) → parts_of d ≡ parts_of e → d ≡ e
design_is d e same = λ i. record {
  signals = (same i).signals;
  groups = (same i).groups;
  instances = (same i).instances;
  bin_count = (same i).bin_count;
  within = is_prop→PathP (λ j. IsDesign (same j).signals (same j).groups (same j).instances (same j).bin_count) (λ j. IsDesign-prop (same j).signals (same j).groups (same j).instances (same j).bin_count) d.within e.within i;
}

declared_one : (text : List ℕ) (d e : Design) → Declaring text d → Declaring text e → d ≡ e
declared_one text d e h k = design_is d e (design_one text (parts_of d) (parts_of e) h.design k.design)

revision_one : (text : List ℕ) (r q : Revision) → r.text ≡ text → q.text ≡ text → r.design ≡ q.design → r ≡ q
revision_one text r q h k e = λ i. record { text = (h ∙ sym k) i; design = e i }

none_some : (o : Option ℕ) (at : ℕ) → o ≡ None → o ≡ Some at → ⊥
none_some o at p q = cc

some_one : (o : Option ℕ) (at place : ℕ) → o ≡ Some at → o ≡ Some place → at ≡ place
some_one o at place p q = cc

text_one : (opening : Design) (text : List ℕ) (t u : Text) → IsTextContent opening text t → IsTextContent opening text u → t ≡ u
text_one opening text LongText LongText h k = refl
text_one opening text LongText (NoDesign g) h k = absurd (omega (arith, h, k.0))
text_one opening text LongText (OtherTables at) h k = let s = k.1.short in absurd (omega (arith, h, s))
text_one opening text LongText (Revising r) h k = let s = k.1.short in absurd (omega (arith, h, s))
text_one opening text (NoDesign f) LongText h k = absurd (omega (arith, k, h.0))
text_one opening text (OtherTables at) LongText h k = let s = h.1.short in absurd (omega (arith, k, s))
text_one opening text (Revising r) LongText h k = let s = h.1.short in absurd (omega (arith, k, s))
text_one opening text (NoDesign f) (NoDesign g) h k = ap NoDesign (fault_one text f g h.1 k.1)
text_one opening text (NoDesign f) (OtherTables at) h k = absurd (design_or_fault text (parts_of k.0) f k.1.design h.1)
text_one opening text (NoDesign f) (Revising r) h k = absurd (design_or_fault text (parts_of r.design) f k.1.design h.1)
text_one opening text (OtherTables at) (NoDesign g) h k = absurd (design_or_fault text (parts_of h.0) g h.1.design k.1)
text_one opening text (Revising r) (NoDesign g) h k = absurd (design_or_fault text (parts_of r.design) g h.1.design k.1)
text_one opening text (OtherTables at) (OtherTables place) h k = ap OtherTables (some_one (tables_apart opening k.0) at place (ap (tables_apart opening) (sym (declared_one text h.0 k.0 h.1 k.1)) ∙ h.2) k.2)
text_one opening text (OtherTables at) (Revising r) h k = absurd (none_some (tables_apart opening r.design) at k.2 (ap (tables_apart opening) (sym (declared_one text h.0 r.design h.1 k.1)) ∙ h.2))
text_one opening text (Revising r) (OtherTables at) h k = absurd (none_some (tables_apart opening r.design) at h.2 (ap (tables_apart opening) (declared_one text r.design k.0 h.1 k.1) ∙ k.2))
text_one opening text (Revising r) (Revising q) h k = ap Revising (revision_one text r q h.0 k.0 (declared_one text r.design q.design h.1 k.1))

-- ---- rows

commit_one : (opening : Design) (o : Option StageFault) (s : Upload) (row other : Row) → IsCommitRow opening o s row → IsCommitRow opening o s other → row ≡ other
commit_one opening (Some f) s row other h k = h ∙ sym k
commit_one opening None s row other h k = h.2 ∙ (ap (λ c. record { said = said_to c; stage = finished s }) (content_one opening (bytes_of s) h.0 k.0 h.1 k.1) ∙ sym k.2)

revise_one : (opening : Design) (o : Option StageFault) (s : Upload) (row other : Row) → IsReviseRow opening o s row → IsReviseRow opening o s other → row ≡ other
revise_one opening (Some f) s row other h k = h ∙ sym k
revise_one opening None s row other h k = h.2 ∙ (ap (λ t. record { said = said_to_text (bytes_of s) t; stage = finished s }) (text_one opening (bytes_of s) h.0 k.0 h.1 k.1) ∙ sym k.2)

pub row_one : (opening : Design) (s : Upload) (q : Result Request ℕ) (row other : Row) → IsRow opening s q row → IsRow opening s q other → row ≡ other
row_one opening s (Err at) row other h k = h ∙ sym k
row_one opening s (Ok (request.Commit digest)) row other h k = commit_one opening (finish_fault s digest) s row other h k
row_one opening s (Ok (request.Revise digest)) row other h k = revise_one opening (finish_fault s digest) s row other h k
row_one opening s (Ok (request.Begin len)) row other h k = h ∙ sym k
row_one opening s (Ok (request.Piece offset bytes)) row other h k = h ∙ sym k
row_one opening s (Ok (request.Hello point)) row other h k = h ∙ sym k
row_one opening s (Ok (request.Counts first path)) row other h k = h ∙ sym k
row_one opening s (Ok (request.Coverage path)) row other h k = h ∙ sym k
row_one opening s (Ok (request.Illegal first)) row other h k = h ∙ sym k
row_one opening s (Ok (request.Tests first)) row other h k = h ∙ sym k
row_one opening s (Ok (request.TestCounts first id path)) row other h k = h ∙ sym k
row_one opening s (Ok request.Rank) row other h k = h ∙ sym k
row_one opening s (Ok (request.Exclude path)) row other h k = h ∙ sym k
row_one opening s (Ok (request.Include path)) row other h k = h ∙ sym k
row_one opening s (Ok (request.NameOf bin)) row other h k = h ∙ sym k
row_one opening s (Ok (request.Fetch place offset)) row other h k = h ∙ sym k
row_one opening s (Ok request.Bye) row other h k = h ∙ sym k
