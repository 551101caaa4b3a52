use Rattle.std.proofs.Common.{◌≡◌, ◌<◌, length, ℕ, List, ap, sym, ◌∙◌, arith}
use Rattle.std.specs.Prelude.{map, slice_index}
use Rattle.std.proofs.lemmas.List.{length-map, get_or-map}
use Rattle.rank_report.specs.Steps.{added_by, IsBestRow}
use Rattle.rank_report.proofs.Lazy.{open_exact, best_fresh}
use Rattle.rank_report.proofs.ranking.next_of.Goals as goal

pub returns-clause-next : goal.returns-clause-next
returns-clause-next g c =
    let gain = λ (hits : List (ℕ × ℕ)). added_by hits c.args.missing.now in
    let gains = map gain c.args.hits.now in
    let row = c.in-Some.first in
    let best : IsBestRow c.args.gains.now c.args.taken.now row = c.in-Some.ensures in
    let long = length-map c.args.hits.now gain in
    let inside : row.test < length c.args.hits.now = omega (arith, best.inside, c.requires.gains) in
    let exact : slice_index gains row.test ≡ c.gain-gain.result =
    get_or-map gain c.args.hits.now row.test c.index-hits-first.result 0 inside ∙ (sym (ap gain c.index-hits-first.is) ∙ sym c.gain-gain.ensures) in
    let here = open_exact gains c.args.taken.now c.args.gains.now (omega (arith, long, c.requires.gains)) c.requires.above row best ∙ exact in
    best_fresh gains c.args.taken.now c.refresh.new.gains (omega (arith, long, c.requires.gains, c.refresh.auto.gains)) c.in_ok-refresh.ensures.above c.gain-gain.result row.test (omega (arith, long, inside)) (omega (arith, here)) c.in_ok-refresh.ensures.fresh c.best-2.result c.best-2.ensures
