use Rattle.std.proofs.Common.{◌≡◌, ap, ◌∙◌, Global}
use Rattle.std.specs.Prelude.{IfOk}
use Rattle.std.specs.Arc.{arc_value}
use Rattle.std.specs.declared.sync.Arc.{Arc}
use Rattle.rayon.proofs.ToStd.{slice-AllZip}
use Rattle.tally.specs.declared.tally.Tally.{Tally}
use Rattle.rank_report.specs.Steps.{hits_from}
use Rattle.rank_report.proofs.Collected.{all_ok}
use Rattle.rank_report.proofs.ranking.hits_of.Goals as goal

pub returns : goal.returns
returns g c =
    let collected = c.in_ok-hits.ensures in
    let slice = ap (λ it. it.slice.now) c.map.ensures.base ∙ c.par_iter.ensures in
    let hits = λ (test : Arc Tally Global). hits_from 0 (arc_value test) c.args.wanted.now in
    let chain = rw (c.with_min_len.ensures.base, c.map.ensures.f) at collected.1 in
    let each = slice-AllZip chain.0 c.args.tests.now (chain.1 ∙ slice) (λ test answer. IfOk answer (λ found. found ≡ hits test)) collected.0 chain.2 in
    all_ok hits c.args.tests.now collected.0 c.in_ok-hits.field-0 each collected.2
