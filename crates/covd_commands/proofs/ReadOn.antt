-- What is read ahead: one origin more, and its bounds.
use Rattle.std.proofs.Common.{◌≡◌, zero, suc, ◌≤◌, List, [], ◌∷◌, ◌++◌, length, refl, sym, subst, arith}
use Rattle.covd_commands.specs.declared.finding.Source.{Source}
use Rattle.covd_commands.specs.declared.finding.Source.TheVariants as source
use Rattle.covd_commands.specs.FromFiles.{Files}
use Rattle.covd_commands.specs.Finding.{Origin, File, Made}
use Rattle.covd_commands.specs.Origins.{IsRead, IsShort}
use Rattle.covd_commands.specs.Ahead.{AreShort, AreRead}

module _ (files : Files) where
  -- one more origin is read
  pub read_on : (all : List Origin) (batch : List Source) (origin : Origin) (later : List Origin) (read : Source) → IsRead files origin read → AreRead files all batch (origin ∷ later) → AreRead files all (batch ++ read ∷ []) later
  read_on all [] origin later read is r = subst (λ (xs : List Origin). AreRead files xs (read ∷ []) later) (sym r) (is, refl)
  read_on [] (b ∷ batch) origin later read is r = absurd r
  read_on (o ∷ all) (b ∷ batch) origin later read is r = (r.0, read_on all batch origin later read is r.1)

  pub read_few : (origins : List Origin) (batch : List Source) (left : List Origin) → AreRead files origins batch left → length batch ≤ length origins
  read_few origins [] left r = omega arith
  read_few [] (b ∷ batch) left r = absurd r
  read_few (o ∷ origins) (b ∷ batch) left r = let le = read_few origins batch left r.1 in omega (arith, le)

  short_of : (origin : Origin) (read : Source) → IsRead files origin read → IsShort read
  short_of (File name) (source.Bytes bytes) r = r.1
  short_of (Made seed rounds) (source.Bytes bytes) r = absurd r
  short_of origin (source.Numbers numbers) r = tt

  pub read_short : (origins : List Origin) (batch : List Source) (left : List Origin) → AreRead files origins batch left → AreShort batch
  read_short origins [] left r index read e = absurd (cc e)
  read_short [] (b ∷ batch) left r index read e = absurd r
  read_short (o ∷ origins) (b ∷ batch) left r zero read e = let same : b ≡ read = cc e in subst IsShort same (short_of o b r.0)
  read_short (o ∷ origins) (b ∷ batch) left r (suc index) read e = read_short origins batch left r.1 index read e
