-- The design of a text, or its first fault on the walk (IEEE 1800-2017, clause 19).
use Rattle.std.specs.Prelude.{◌≡◌, ℕ, List, Result, Ok, Err}
use Rattle.cov_tree.specs.declared.declarations.DesignText.{DesignText}
use Rattle.design_data.specs.declared.infos.Signal.{Signal}
use Rattle.design_data.specs.declared.infos.GroupInfo.{GroupInfo}
use Rattle.design_data.specs.declared.infos.InstInfo.{InstInfo}
use Rattle.design_data.specs.declared.design.Design.{Design}
use Rattle.elab_base.specs.declared.fault.ElabFault.{ElabFault}
use Rattle.elab_base.specs.Gives.{Refusal, ◌>>=◌, Fails}
use Rattle.elab_order.specs.Order.{numbered}
use Rattle.cov_design.specs.declared.known.Known.{Known}
use Rattle.cov_design.specs.Walk.{walked}

-- the parts of a design, without what is known of them
pub record Parts : Type 0 where
  pub signals : List Signal
  pub groups : List GroupInfo
  pub instances : List InstInfo
  pub bin_count : ℕ

abbrev pub parts_of : Design → Parts
parts_of design = record { signals = design.signals; groups = design.groups; instances = design.instances; bin_count = design.bin_count }

-- what was declared, its bins numbered in the order of the nodes
abbrev pub parts_known : Known → Parts
parts_known known = record { signals = known.outside.signals; groups = known.groups; instances = numbered known.instances; bin_count = known.counts.bins }

-- the design of a text, or its first fault
unfoldable pub Elaborates : DesignText → Result Parts Refusal
Elaborates text = do
  known ← walked text.decls
  Ok (parts_known known)

-- what a function returned is the design of a text, or its first fault, unless memory ran out
abbrev pub GivesDesign : Result Design ElabFault → Result Parts Refusal → Type 0
GivesDesign (Ok design) given = given ≡ Ok (parts_of design)
GivesDesign (Err e) given = Fails e given
