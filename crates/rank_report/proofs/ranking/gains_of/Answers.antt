use Rattle.std.proofs.Common.{◌≡◌, ap, ◌∙◌, ℕ, List}
use Rattle.std.proofs.lemmas.Slice.Zip.{AllZip-map}
use Rattle.rayon.proofs.ToStd.{slice-AllZip}
use Rattle.rank_report.specs.Steps.{added_by}
use Rattle.rank_report.proofs.ranking.gains_of.Goals as goal

pub returns : goal.returns
returns g c =
    let collected = c.in_ok-gains.ensures in
    let slice = ap (λ it. it.slice.now) c.map.ensures.base ∙ c.par_iter.ensures in
    let gain = λ (hits : List (ℕ × ℕ)). added_by hits c.args.missing.now in
    let chain = rw (c.with_min_len.ensures.base, c.map.ensures.f) at collected.1 in
    collected.2 ∙ AllZip-map gain c.args.hits.now collected.0 (slice-AllZip chain.0 c.args.hits.now (chain.1 ∙ slice) (λ hits sum. sum ≡ gain hits) collected.0 chain.2)
