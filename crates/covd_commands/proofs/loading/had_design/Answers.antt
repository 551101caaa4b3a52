use Rattle.std.proofs.Common.{ℕ, List, subst}
use Rattle.std.specs.Prelude.{Err}
use Rattle.cov_compile.specs.Compiling.{Compiles}
use Rattle.covd_commands.proofs.Had.{no_design}
use Rattle.covd_commands.proofs.loading.had_design.Goals as goal

pub returns-clause-had : goal.returns-clause-had
returns-clause-had g c =
    let loaded = rw c.in-Bytes.is at c.in_ok-text.ensures.loaded in
    let refuses = subst (λ (text : List ℕ). Compiles text (Err c.in-Err.fault)) c.deref.ensures.value c.in-Err.ensures in
    no_design (g.F.Shelf.files c.args.shelf.now) (g.F.Shelf.faults c.args.shelf.now) (g.F.Shelf.faults c.load.new.shelf) c.args.name.now c.in-Bytes.text.items loaded.0 loaded.1
    c.in_ok-uncompiled-in-Err.field-0.text.items c.in-Err.fault c.in_ok-uncompiled-in-Err.field-0.status refuses c.in_ok-uncompiled-in-Err.ensures
