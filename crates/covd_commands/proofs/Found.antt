-- From what a record is decoded or made of to what is found.
use Rattle.std.proofs.Common.{◌≡◌, ℕ, ◌≤◌, ◌<◌, List, Result, Ok, Err, inl, inr, sym, ap, subst, ◌∙◌}
use Rattle.std.specs.Prelude.{codes}
use Rattle.std.specs.Global.{Vec}
use Rattle.cov_ground.specs.Limits.{longest_record, most_events}
use Rattle.record_codec.specs.Builders.{told}
use Rattle.design_data.specs.declared.design.Design.{Design}
use Rattle.record_codec.specs.declared.record.Record.{Record}
use Rattle.record_codec.specs.Spelling.{Encodes, fields_of}
use Rattle.sampler.specs.Shape.{Fits, IsWrongAt}
use Rattle.sampler.proofs.Tables.{does_not_fit}
use Rattle.covd_commands.specs.Lines.{record_refused_text}
use Rattle.covd_commands.specs.declared.finding.Source.TheVariants as source
use Rattle.covd_commands.specs.declared.forms.Numbers.{Numbers}
use Rattle.covd_commands.specs.declared.stop.Stop.{Stop}
use Rattle.covd_commands.specs.declared.stop.Stop.TheVariants.{Memory, Refused}
use Rattle.covd_commands.specs.Unadmitted.{full_line}
use Rattle.covd_commands.specs.Making.{made_events, made_size, made_fields}
use Rattle.covd_commands.specs.FromFiles.{Files, IsRefusedText}
use Rattle.covd_commands.specs.Finding.{Origin, File, Made, Finds, IsLine, IsDecoded, IsMade, IsFound}
use Rattle.covd_commands.specs.Origins.{IsFoundIn}
use Rattle.record_codec.specs.declared.record.Fields.{Fields}
use Rattle.record_maker.specs.Generator.{version_of, start_of}
use Rattle.cov_counting.specs.Tables.{signals_of, instances_of}

-- ---- one record

-- one that doesn't fit
pub record IsUnfit (k : ℕ) (d : Design) (bytes text : List ℕ) : Type 0 where
  pub none : (r : Record) → Encodes r bytes → Fits d r → ⊥
  pub line : IsRefusedText k d bytes text

pub unfit_is : (k : ℕ) (d : Design) (bytes text : List ℕ) (r : Record) (at : ℕ) → Encodes r bytes → ((other : Record) → Encodes other bytes → other ≡ r) → IsWrongAt d r at → text ≡ record_refused_text k (codes "WrongShape") at → IsUnfit k d bytes text
unfit_is k d bytes text r at e only wrong t = record {
  none = λ q f fits. does_not_fit d r at wrong (subst (λ (x : Record). Fits d x) (only q f) fits);
  line = inr (r, e, at, wrong, t);
}

-- what is decoded of a file, or made
module _ (d : Design) (k : ℕ) where
  pub decoded_in : (bytes : Vec ℕ) (result : Result Record Stop) → IsDecoded k d bytes.items result → IsFoundIn d k (source.Bytes bytes) result
  decoded_in bytes (Ok r) x files before now (File name) read = record { bytes = bytes.items; file = read.0; short = read.1; encodes = x.0; fits = x.1 }
  decoded_in bytes (Err (Refused a)) x files before now (File name) read = inr (x.0, record { bytes = bytes.items; file = read.0; short = read.1; none = x.1; line = x.2 })
  decoded_in bytes (Err Memory) x files before now (File name) read = tt
  decoded_in bytes result x files before now (Made seed rounds) read = absurd read

  made_is : (files : Files) (before now seed rounds : ℕ) (result : Result Record Stop) → IsMade d seed rounds k result → IsFound files before now d k (Made seed rounds) result
  made_is files before now seed rounds (Ok r) x = x
  made_is files before now seed rounds (Err (Refused a)) x = x
  made_is files before now seed rounds (Err Memory) x = tt

  pub made_in : (n : Numbers) (result : Result Record Stop) → IsMade d n.seed n.rounds k result → IsFoundIn d k (source.Numbers n) result
  made_in n result x files before now (File name) read = absurd read
  made_in n result x files before now (Made seed rounds) read =
      let seeded = subst (λ (x : ℕ). IsMade d x n.rounds k result) read.0 x in
      made_is files before now seed rounds result (subst (λ (x : ℕ). IsMade d seed x k result) read.1 seeded)

-- ---- made records fit

pub made_fits : (d : Design) (seed rounds test : ℕ) (r : Record) → fields_of r ≡ made_fields d seed rounds test → Fits d r
unfolding start_of
made_fits d seed rounds test r e =
    let version : r.version ≡ version_of d = ap (λ (f : Fields). f.version) e in
    let signals : r.signals ≡ signals_of d = ap (λ (f : Fields). f.signals) e in
    let instances : r.instances ≡ instances_of d (version_of d) = ap (λ (f : Fields). f.instances) e in
    record { signals = signals; instances = instances ∙ ap (instances_of d) (sym version) }

pub found_fits : (files : Files) (d : Design) (k : ℕ) (origin : Origin) (r : Record) → Finds files d k origin r → Fits d r
found_fits files d k (File name) r f = f.fits
found_fits files d k (Made seed rounds) r f = made_fits d seed rounds k r f

-- ---- a record of the generator that is above a limit

module _ (d : Design) (seed rounds test n : ℕ) where
  pub too_many : (stop : Stop) → IsLine (full_line test (codes "events") 0 n) stop → (most_events < made_events d seed rounds test) × (n ≡ made_events d seed rounds test) → IsMade d seed rounds test (Err stop)
  too_many (Refused a) l m = (l.0, inl (m.0, l.1 ∙ ap (full_line test (codes "events") 0) m.1))
  too_many Memory l m = tt

  pub too_long : (stop : Stop) → IsLine (full_line test (codes "record") 0 n) stop
      → (made_events d seed rounds test ≤ most_events) × (longest_record < made_size d seed rounds test) × (n ≡ told (made_size d seed rounds test)) → IsMade d seed rounds test (Err stop)
  too_long (Refused a) l m = (l.0, inr (m.0, m.1, l.1 ∙ ap (full_line test (codes "record") 0) m.2))
  too_long Memory l m = tt
