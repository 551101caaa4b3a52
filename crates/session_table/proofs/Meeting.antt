-- What a record and a text that were made ready for a basis come with.
use Rattle.std.proofs.Common.{◌≡◌, ◌≤◌, ℕ, List, length, take, sym, ap, ◌∙◌, arith, true}
use Rattle.std.specs.Prelude.{None}
use Rattle.std.proofs.Math.Seq.{take-length}
use Rattle.design_data.specs.declared.design.Design.{Design}
use Rattle.record_codec.specs.declared.record.Record.{Record}
use Rattle.sampler.specs.Preparing.{Whole}
use Rattle.sampler.specs.Shape.{Fits}
use Rattle.cov_compile.specs.Texts.{Declared}
use Rattle.cov_history.specs.declared.entry.Entry.{Entry}
use Rattle.cov_history.specs.Tables.{fits, same_tables}
use Rattle.cov_history.specs.History.{design_of, contents, is_legal}
use Rattle.cov_history.specs.Turns.{Grown}
use Rattle.cov_history.proofs.Tables.{fits_stay}
use Rattle.store_core.specs.declared.basis.Basis.{Basis}
use Rattle.store_core.specs.Rebins.{Redone}
use Rattle.store_core.specs.Asks.{IsPrepared, IsReadied, revision_of}
use Rattle.store_core.specs.Bases.{IsBasis, IsRebinned}
use Rattle.session_table.specs.Contents.{tables_apart}
use Rattle.session_table.proofs.Growing.{grown_long}
use Rattle.session_table.proofs.Shapes.{fits_of, same_of}

pub prepared_meets : (opening was : Design) (h : List Entry) (b : Basis) (p : Whole) (r : Record) → is_legal opening h ≡ true → opening ≡ was → IsBasis was h b → p.under ≡ b.design → p.of ≡ r → Fits was r → IsPrepared opening h b.point p
prepared_meets opening was h b p r legal same basis under of fit =
    let whole : take b.point h ≡ h = ap (λ n. take n h) basis.point ∙ take-length h in
    let now : p.under ≡ design_of opening h = under ∙ (basis.design ∙ ap (λ d. design_of d h) (sym same)) in
    record {
      reached = omega (arith, basis.point);
      under = now ∙ ap (design_of opening) (sym whole);
      fit = ap (λ d. fits d p.of) now ∙ (fits_stay opening h p.of legal ∙ (ap (fits opening) of ∙ (ap (λ d. fits d r) same ∙ fits_of was r fit)));
    }

pub readied_meets : (opening was : Design) (h : List Entry) (b : Basis) (c : Declared) (r : Redone) → opening ≡ was → IsBasis was h b → IsRebinned c b r → tables_apart was c.design ≡ None → IsReadied opening h r
readied_meets opening was h b c r same basis rebinned apart =
    let whole : take r.since h ≡ h = ap (λ n. take n h) (rebinned.since ∙ basis.point) ∙ take-length h in
    record {
      reached = omega (arith, rebinned.since, basis.point);
      tables = ap (λ d. same_tables d opening) rebinned.design ∙ (ap (same_tables c.design) same ∙ same_of was c.design apart);
      records = rebinned.records ∙ (basis.records ∙ ap contents (sym whole));
      declared = rebinned.declared;
    }

pub from_basis : {was : Design} {seen h : List Entry} {b : Basis} {n : ℕ} → Grown seen h → IsBasis was h b → n ≤ length seen → n ≤ b.point
from_basis g basis le = let long = grown_long g in omega (arith, basis.point)

pub from_rebinned : {was : Design} {seen h : List Entry} {b : Basis} {c : Declared} {r : Redone} {n : ℕ} → Grown seen h → IsBasis was h b → IsRebinned c b r → n ≤ length seen → n ≤ r.since
from_rebinned g basis rebinned le = let long = grown_long g in omega (arith, basis.point, rebinned.since)

pub revision_same : {b : Basis} {c : Declared} {r : Redone} → IsRebinned c b r → revision_of r ≡ record { text = c.text; design = c.design }
revision_same rebinned = λ i. record { text = rebinned.text i; design = rebinned.design i }
