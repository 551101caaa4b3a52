-- What a test of the parts of a design answers.
use Rattle.std.specs.Prelude.{◌≡◌, ℕ, List, Option, Some, None}
use Rattle.design_data.specs.declared.infos.Signal.{Signal}
use Rattle.design_data.specs.declared.infos.GroupInfo.{GroupInfo}
use Rattle.design_data.specs.declared.infos.InstInfo.{InstInfo}
use Rattle.design_data.specs.declared.design.Design.{Design}
use Rattle.design_data.specs.Limits.{IsDesign}

-- the design of exactly these parts
pub record HasParts (own_signals : List Signal) (own_groups : List GroupInfo) (own_instances : List InstInfo) (own_count : ℕ) (d : Design) : Type 0 where
  pub signals : d.signals ≡ own_signals
  pub groups : d.groups ≡ own_groups
  pub instances : d.instances ≡ own_instances
  pub bin_count : d.bin_count ≡ own_count

-- the design of the parts, or none, where they are none
abbrev pub IsTested : List Signal → List GroupInfo → List InstInfo → (bin_count : ℕ) → Option Design → Type 0
IsTested signals groups instances bin_count (Some d) = HasParts signals groups instances bin_count d
IsTested signals groups instances bin_count None = IsDesign signals groups instances bin_count → ⊥
