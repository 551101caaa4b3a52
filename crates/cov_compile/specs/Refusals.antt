-- The refusal of a design text says its fault.
use Rattle.std.specs.Prelude.{◌≡◌, ◌≤◌, length}
use Rattle.cov_compile.specs.declared.fault.CompileFault.{CompileFault}
use Rattle.cov_compile.specs.Compiling.{is_memory}
use Rattle.cov_compile.specs.declared.refusals.Refusal.{Refusal}
use Rattle.cov_compile.specs.Faults.{fault_word, fault_place}

pub record IsRefusal (fault : CompileFault) (r : Refusal) : Type 0 where
  pub real : is_memory fault → ⊥
  pub kind : r.kind.now ≡ fault_word fault
  pub place : r.at ≡ fault_place fault
  pub short : length r.kind.now ≤ 32
