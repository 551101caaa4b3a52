use Rattle.std.proofs.Common.{List, ◌∷◌, [], length, sym, ap, subst, ◌∙◌, arith}
use Rattle.std.proofs.lemmas.List.{length-append}
use Rattle.covd_commands.specs.declared.finding.Source.{Source}
use Rattle.covd_commands.specs.FromFiles.{Files}
use Rattle.covd_commands.specs.Finding.{Origin}
use Rattle.covd_commands.specs.Origins.{origin_of, origins_of, IsRead}
use Rattle.covd_commands.specs.Ahead.{AreRead}
use Rattle.covd_commands.proofs.ReadOn.{read_on}
use Rattle.covd_commands.proofs.ahead.read_more.Goals as goal

pub loop-origin-preserved : goal.loop-origin-preserved
loop-origin-preserved g c =
    let files : Files = g.F.Shelf.files c.args.shelf.now in
    let inv = c.loop-origin.invariant in
    let origin = origin_of c.in-Some.origin in
    let later = origins_of c.in-Some.later in
    let batch = c.loop-origin.batch.items in
    let source = c.in-Ok.source in
    let read : IsRead files origin source = subst (λ (f : Files). IsRead f origin source) inv.same c.in-Ok.ensures.read in
    let pushed = c.in_ok-push_source.ensures in
    record {
      same = c.in-Ok.ensures.same ∙ inv.same;
      later = omega (arith, inv.later, c.in-Ok.ensures.later);
      grows = omega (arith, inv.grows, ap (λ (xs : List Source). length xs) pushed, length-append batch (source ∷ []));
      read = λ all r. subst (λ (xs : List Source). AreRead files all xs later) (sym pushed)
          (read_on files all batch origin later source read (subst (λ (left : List Origin). AreRead files all batch left) c.in-Some.ensures (inv.read all r)));
    }
