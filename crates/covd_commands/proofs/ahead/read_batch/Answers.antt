use Rattle.std.proofs.Common.{◌≡◌, List, ◌∷◌, ◌++◌, [], refl, sym, ap, subst, ◌∙◌}
use Rattle.covd_commands.specs.declared.finding.Source.{Source}
use Rattle.covd_commands.specs.FromFiles.{Files}
use Rattle.covd_commands.specs.Finding.{Origin}
use Rattle.covd_commands.specs.Origins.{origin_of, origins_of}
use Rattle.covd_commands.specs.Ahead.{AreRead}
use Rattle.covd_commands.proofs.ahead.read_batch.Goals as goal

pub returns-clause-read : goal.returns-clause-read
returns-clause-read g c =
    let files : Files = g.F.Shelf.files c.args.shelf.now in
    let later = origins_of c.args.later in
    let all : List Origin = origin_of c.args.origin ∷ later in
    let first = c.in_ok-first.first in
    let same = c.in_ok-first.ensures.same in
    let pushed : c.push_source.new.batch.items ≡ first ∷ [] = ◌∙◌ {A = List Source} c.in_ok-push_source.ensures (ap (λ (xs : List Source). xs ++ first ∷ []) c.new-batch.ensures.items) in
    let begun : AreRead files all c.push_source.new.batch.items later = subst (λ (xs : List Source). AreRead files all xs later) (sym pushed) (c.in_ok-first.ensures.read, refl) in
    let r = c.in_ok-read_more.ensures.read all (subst (λ (f : Files). AreRead f all c.push_source.new.batch.items later) (sym same) begun) in
    (r.0, subst (λ (f : Files). AreRead f all c.read_more.new.batch.items r.0) same r.1)
